-- What a row that the definition accepts has.
-- Assumes nothing.
use Rattle.std.specs.Prelude.{Ok}
use Prim.Native.Nat.{ℕ, ◌+◌, ◌<◌}
use mathlib.Core.Path.{◌≡◌, sym, ap, ◌∙◌}
use mathlib.Core.List.{List, [], map}
use mathlib.Core.Option.{Option, none, some}
use lib.Dec.{eqb, leb, ltb}
use lib.ListN.{length, get_or, take, drop}
use borrow.Author.Tests.{ltb-true, eqb-true}
use Rattle.circuit.specs.declared.refusals.Refusal.TheVariants.{NotNumber}
use Rattle.circuit.specs.declared.records.BoolWire.{BoolWire}
use Rattle.circuit.proofs.Tries.{no_yes, yes_same, then_yes, need-yes}
use Rattle.text.specs.Numbers.{parse_usize, parse_each}
use Rattle.bristol_rows.specs.declared.gates.Gate.{Gate}
use Rattle.bristol_rows.specs.declared.operation.Operation.{Operation}
use Rattle.bristol_rows.specs.Numbers.{or_refuse, number, each_number}
use Rattle.bristol_rows.specs.Operation.{operation}
use Rattle.bristol_rows.specs.Slots.{wire_number}
use Rattle.bristol_rows.specs.Row.{drivers, gates_on, gates_of, after_inputs, row_output, row_wires, operation_row, row}

number-some : (w : List ℕ) (n : ℕ) → number w ≡ Ok n → parse_usize w ≡ some n
unfolding number
number-some w n h = go (parse_usize w) h
  where
    go : (x : Option ℕ) → or_refuse NotNumber x ≡ Ok n → x ≡ some n
    go none h = absurd (no_yes h)
    go (some m) h = ap some (yes_same h)

pub each-some : (ws : List (List ℕ)) (ns : List ℕ) → each_number ws ≡ Ok ns → parse_each ws ≡ some ns
unfolding each_number
each-some ws ns h = go (parse_each ws) h
  where
    go : (x : Option (List ℕ)) → or_refuse NotNumber x ≡ Ok ns → x ≡ some ns
    go none h = absurd (no_yes h)
    go (some ms) h = ap some (yes_same h)

pub record Accepts (wires : List ℕ) (ws : List (List ℕ)) (gs : List Gate) : Type 0 where
  pub inputs : ℕ
  pub ins : List ℕ
  pub out : ℕ
  pub ds : List BoolWire
  pub inputs_is : parse_usize (get_or ws 0 []) ≡ some inputs
  pub ins_are : parse_each (take inputs (drop 2 ws)) ≡ some ins
  pub out_is : parse_usize (get_or (after_inputs inputs ws) 0 []) ≡ some out
  pub below : out < length wires
  pub ds_are : drivers wires (map wire_number ins) ≡ Ok ds
  pub gates_are : gates_on (wire_number out) ds (operation (get_or (after_inputs inputs ws) 1 [])) ≡ Ok gs

pub accepted : (wires : List ℕ) (ws : List (List ℕ)) (gs : List Gate) → row wires ws ≡ Ok gs → Accepts wires ws gs
unfolding row operation_row row_wires row_output gates_of
accepted wires ws gs h =
    let a = need-yes (leb 4 (length ws)) _ _ gs h in
    let b = then_yes (number (get_or ws 0 [])) _ gs a.1 in
    let c = then_yes (number (get_or ws 1 [])) _ gs b.2 in
    let d = need-yes (eqb (length ws) (2 + b.0 + c.0 + 1)) _ _ gs c.2 in
    let e = need-yes (eqb c.0 1) _ _ gs d.1 in
    let us : List (List ℕ) = after_inputs b.0 ws in
    let op : Operation = operation (get_or us c.0 []) in
    let i = then_yes (each_number (take b.0 (drop 2 ws))) (λ ins. row_output wires ins op (get_or us 0 [])) gs e.1 in
    let o = then_yes (number (get_or us 0 [])) _ gs i.2 in
    let n = need-yes (ltb o.0 (length wires)) _ _ gs o.2 in
    let m = then_yes (drivers wires (map wire_number i.0)) _ gs n.1 in
    let one : op ≡ operation (get_or us 1 []) = ap (λ (k : ℕ). operation (get_or us k [])) (eqb-true c.0 1 e.0) in
    record {
      inputs = b.0;
      ins = i.0;
      out = o.0;
      ds = m.0;
      inputs_is = number-some (get_or ws 0 []) b.0 b.1;
      ins_are = each-some (take b.0 (drop 2 ws)) i.0 i.1;
      out_is = number-some (get_or us 0 []) o.0 o.1;
      below = ltb-true o.0 (length wires) n.0;
      ds_are = m.1;
      gates_are = ap (gates_on (wire_number o.0) m.0) (sym one) ∙ m.2;
    }
