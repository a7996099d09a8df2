-- What the functions of this crate promise: their answers against the definitions.
-- Assumes nothing.
use Rattle.std.specs.Prelude.{ℕ, suc, ◌+◌, ◌≤◌, ◌<◌, ◌^◌, ◌≡◌, true, false, cond, if◌then◌else◌, List, [], ◌∷◌, eqb, leb, ltb, length, get_or, take, drop, Err, Ok, Some, None, Option as Answer, IfOk}
use Rattle.std.proofs.Math.Option.{Option, none, some}
use Rattle.circuit.specs.declared.refusals.Refusal.{Refusal}
use Rattle.circuit.specs.declared.refusals.Refusal.TheVariants.{NoDriver, WrongCount, Unknown, Malformed, NotNumber, OutputOutside}
use Rattle.circuit.specs.declared.records.WireNumber.{WireNumber}
use Rattle.circuit.specs.declared.records.BoolWire.{BoolWire}
use Rattle.circuit.specs.declared.records.BoolNode.{BoolNode}
use Rattle.laws.specs.Stretches.{All}
use Rattle.circuit.specs.Refusals.{Try, and_then, need}
use Rattle.circuit.specs.Records.{HasWord}
use Rattle.text.specs.Numbers.{parse_usize}
use Rattle.bristol_rows.specs.declared.answers.Widths.{Widths}
use Rattle.bristol_rows.specs.declared.answers.Counts.{Counts}
use Rattle.bristol_rows.specs.declared.answers.Head.{Head}
use Rattle.bristol_rows.specs.declared.answers.Slots.{Slots}
use Rattle.bristol_rows.specs.declared.gates.Gate.{Gate}
use Rattle.bristol_rows.specs.declared.gates.Gate.TheVariants.{Alias, Cell}
use Rattle.bristol_rows.specs.declared.gates.Gates.{Gates}
use Rattle.bristol_rows.specs.declared.operation.Operation.{Operation}
use Rattle.bristol_rows.specs.declared.operation.Operation.TheVariants.{Copy, One, Two, Unlisted}
use Rattle.bristol_rows.specs.Numbers.{or_refuse, number}
use Rattle.bristol_rows.specs.Header.{grouped_wire_count, header}
use Rattle.bristol_rows.specs.Operation.{operation}
use Rattle.bristol_rows.specs.declared.slots.TheConstants.{UNDRIVEN}
use Rattle.bristol_rows.specs.Slots.{wire_number, slot_of, slot_of_driver, driver_of_slot}
use Rattle.bristol_rows.specs.Gates.{gates_left}
use Rattle.bristol_rows.specs.Row.{alias_gate, cell_gate, row_wires}

-- ---- the next word as a number

abbrev pub first_number : List (List ℕ) → Try ℕ
first_number [] = Err Malformed
first_number (w ∷ ws) = number w

-- ---- the header

abbrev pub add_to : ℕ → Answer ℕ → ℕ → Answer ℕ
add_to limit (Some a) n = cond (leb (a + n) limit) (Some (a + n)) None
add_to limit None n = None

unfoldable pub add_all : ℕ → Answer ℕ → List ℕ → Answer ℕ
add_all limit s [] = s
add_all limit s (n ∷ ns) = add_all limit (add_to limit s n) ns

-- k widths with the sum s were read before
abbrev pub widths_of : ℕ → ℕ → Answer ℕ → Option (List ℕ) → Try Widths
widths_of limit k s none = Err NotNumber
widths_of limit k s (some ns) = Ok (record { count = k + length ns; sum = add_all limit s ns })

abbrev pub group_for : ℕ → Option ℕ → Answer ℕ
group_for limit none = None
group_for limit (some n) = cond (leb n limit) (Some n) None

abbrev pub group_of : ℕ → Option (List ℕ) → Try (Answer ℕ)
group_of limit none = Err NotNumber
group_of limit (some ns) = Ok (group_for limit (grouped_wire_count ns))

abbrev pub counts_after : ℕ → Option (List ℕ) → Try Counts
counts_after g none = Err NotNumber
counts_after g (some []) = Err Malformed
counts_after g (some (w ∷ [])) = Ok (record { gates = g; wires = w })
counts_after g (some (w ∷ n ∷ ns)) = Err Malformed

abbrev pub counts_of : Option (List ℕ) → Try Counts
counts_of none = Err NotNumber
counts_of (some []) = Err Malformed
counts_of (some (g ∷ ns)) = counts_after g (some ns)

pub record HeadAt (x : Try Head) (h : Head) : Type 0 where
  pub is : x ≡ Ok h
  pub fits : h.inputs + h.outputs ≤ h.wires

abbrev pub HeadIs : Try Head → Try Head → Type 0
HeadIs x (Err e) = x ≡ Err e
HeadIs x (Ok h) = HeadAt x h

-- of the lines that were left, the rows are left
pub record HeaderAt (ls rows : List (List ℕ)) (h : Head) : Type 0 where
  pub is : header ls ≡ Ok h
  pub rows_are : rows ≡ drop 3 ls
  pub fits : h.inputs + h.outputs ≤ h.wires

abbrev pub HeaderIs : List (List ℕ) → List (List ℕ) → Try Head → Type 0
HeaderIs ls rows (Err e) = header ls ≡ Err e
HeaderIs ls rows (Ok h) = HeaderAt ls rows h

-- ---- the input wires

abbrev pub no_slots : Slots
no_slots = record { first = UNDRIVEN; second = UNDRIVEN; undriven = false; invalid = false }

unfoldable pub add_slot : Slots → ℕ → ℕ → Slots
add_slot s i slot =
    cond (eqb slot UNDRIVEN) (record { first = s.first; second = s.second; undriven = true; invalid = s.invalid })
    (cond (eqb i 0) (record { first = slot; second = s.second; undriven = s.undriven; invalid = s.invalid })
    (cond (eqb i 1) (record { first = s.first; second = slot; undriven = s.undriven; invalid = s.invalid })
    s))

abbrev pub add_input : List ℕ → Slots → ℕ → Option ℕ → Slots
add_input wires s i none = record { first = s.first; second = s.second; undriven = s.undriven; invalid = true }
add_input wires s i (some v) = add_slot s i (slot_of wires (wire_number v))

-- from input i on
unfoldable pub add_inputs : List ℕ → ℕ → Slots → List (List ℕ) → Slots
add_inputs wires i s [] = s
add_inputs wires i s (w ∷ ws) = add_inputs wires (suc i) (add_input wires s i (parse_usize w)) ws

-- of the words ws the first n were read, and us are left
pub record Gathered (n : ℕ) (wires : List ℕ) (ws us : List (List ℕ)) (slots : Slots) : Type 0 where
  pub slots_are : slots ≡ add_inputs wires 0 no_slots (take n ws)
  pub left : us ≡ drop n ws
  pub enough : n ≤ length ws

abbrev pub InputsAre : ℕ → List ℕ → List (List ℕ) → List (List ℕ) → Answer Slots → Type 0
InputsAre n wires ws us None = length ws < n
InputsAre n wires ws us (Some slots) = Gathered n wires ws us slots

-- ---- a row

-- the drivers of n inputs, two at most
abbrev pub drivers_of : ℕ → Slots → List BoolWire
drivers_of n s = take n (driver_of_slot s.first ∷ driver_of_slot s.second ∷ [])

-- a node, whose wires' words fit
pub record CellIs (n r : BoolNode) : Type 0 where
  pub is : r ≡ n
  pub wires_fit : All HasWord r.wires

-- the gates of an answer, or its refusal
abbrev pub gates_read : Try Gates → Try (List Gate)
gates_read (Err e) = Err e
gates_read (Ok g) = Ok (gates_left g)

-- the output wire is one of m, and what is stored fits a word
abbrev pub GateFits : ℕ → Gate → Type 0
GateFits m (Alias out w) = (out.0 < m) × (slot_of_driver w < 2 ^ 64)
GateFits m (Cell out n) = (out.0 < m) × All HasWord n.wires

-- the answer is the definition's, and its gates fit
pub record RowIs (m : ℕ) (x : Try (List Gate)) (r : Try Gates) : Type 0 where
  pub is : gates_read r ≡ x
  pub fits : IfOk r (λ g. All (GateFits m) (gates_left g))

-- the gates of an operation, by what its input wires hold
abbrev pub gates_by : Operation → ℕ → Slots → WireNumber → Try (List Gate)
gates_by Copy n slots out = need (eqb n 1) WrongCount (Ok (alias_gate out (driver_of_slot slots.first)))
gates_by (One t) n slots out = need (eqb n 1) Unknown (Ok (cell_gate out t (drivers_of n slots)))
gates_by (Two t) n slots out = need (eqb n 2) Unknown (Ok (cell_gate out t (drivers_of n slots)))
gates_by Unlisted n slots out = Err Unknown

unfoldable pub output_by : List ℕ → Operation → ℕ → Slots → ℕ → Try (List Gate)
output_by w op n slots m =
    if slots.invalid then Err NotNumber
    else and_then (number w) (λ out. need (ltb out m) OutputOutside
    (if slots.undriven then Err NoDriver else gates_by op n slots (wire_number out)))

unfoldable pub end_by : List (List ℕ) → ℕ → Slots → ℕ → Try (List Gate)
end_by ws n slots m =
    need (eqb (length ws) 2) Malformed (output_by (get_or ws 0 []) (operation (get_or ws 1 [])) n slots m)

unfoldable pub wires_by : List ℕ → ℕ → List (List ℕ) → Try (List Gate)
wires_by wires n ws =
    need (eqb (length ws) (n + 2)) Malformed (row_wires wires n (operation (get_or (drop n ws) 1 [])) ws)

-- what a row is refused with where an arity is no number
abbrev pub invalid_arity : ℕ → List (List ℕ) → Refusal
invalid_arity least ws = cond (ltb (length ws) least) Malformed NotNumber

-- the first word as an arity, which fewer words than `least` may not follow
abbrev pub first_arity : ℕ → List (List ℕ) → Try ℕ
first_arity least [] = Err Malformed
first_arity least (w ∷ ws) = or_refuse (invalid_arity least ws) (parse_usize w)

-- what a row is refused with where it has not one output
abbrev pub wrong_outputs : ℕ → ℕ → List (List ℕ) → Refusal
wrong_outputs n m ws = cond (ltb (length ws) 2) Malformed (cond (eqb (length ws) (n + m + 1)) WrongCount Malformed)
