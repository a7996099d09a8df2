-- Laws of the header as a whole: the two group lines against the wire count, and the three lines before the rows.
-- Assumes nothing.
use Rattle.std.specs.Prelude.{Err, None, Ok, Option as Answer, Some, unwrap_or}
use Prim.Native.Nat.{ℕ, ◌+◌, ◌-◌, ◌≤◌, ◌<◌}
use mathlib.Core.Path.{◌≡◌, refl, sym, ap, ap₂, ◌∙◌}
use mathlib.Core.Bool.{Bool, true, false, cond}
use mathlib.Core.List.{List, [], ◌∷◌}
use mathlib.Core.Option.{Option, none, some}
use native.Mathlib.Omega.{arith}
use lib.Dec.{leb}
use lib.ListN.{drop}
use borrow.Author.Tests.{le-leb, lt-leb, leb-true, leb-false}
use Rattle.circuit.specs.declared.refusals.Refusal.{Refusal}
use Rattle.circuit.specs.declared.refusals.Refusal.TheVariants.{Malformed, HeaderMismatch, NotNumber}
use Rattle.circuit.specs.Refusals.{Try, and_then, need}
use Rattle.text.specs.Words.{split_whitespace}
use Rattle.text.specs.Numbers.{parse_each}
use Rattle.bristol_rows.specs.declared.answers.Counts.{Counts}
use Rattle.bristol_rows.specs.declared.answers.Head.{Head}
use Rattle.bristol_rows.specs.Numbers.{or_refuse, each_number}
use Rattle.bristol_rows.specs.Header.{grouped_wire_count, groups, group_lines, two_numbers, header}
use Rattle.bristol_rows.specs.Promises.{group_for, group_of, counts_of, HeadAt, HeadIs, HeaderIs}

-- ---- the group lines

-- a group line that is refused
bad_group : (limit : ℕ) (y : Option (List ℕ)) (e : Refusal) → Err e ≡ group_of limit y → (y ≡ none) × (e ≡ NotNumber)
bad_group limit none e h = (refl, cc)
bad_group limit (some ns) e h = cc

-- a group line whose words are numbers
record Grouped (limit : ℕ) (y : Option (List ℕ)) (x : Answer ℕ) : Type 0 where
  ns : List ℕ
  is : y ≡ some ns
  total : x ≡ group_for limit (grouped_wire_count ns)

grouped : (limit : ℕ) (y : Option (List ℕ)) (x : Answer ℕ) → Ok x ≡ group_of limit y → Grouped limit y x
grouped limit none x h = cc
grouped limit (some ns) x h = record { ns = ns; is = refl; total = cc }

-- a total is the sum of the widths, and at most the limit
total : (limit n : ℕ) (x : Option ℕ) → Some n ≡ group_for limit x → (x ≡ some n) × (n ≤ limit)
total limit n none h = cc
total limit n (some m) h = by (leb m limit) refl h
  where
    by : (t : Bool) → leb m limit ≡ t → Some n ≡ cond t (Some m) None → (some m ≡ some n) × (n ≤ limit)
    by true e h =
        let q : n ≡ m = cc in
        (ap some (sym q), omega (arith, leb-true m limit e))
    by false e h = cc

-- where there is no total, the sum of the widths is above the limit
no_total : (limit n : ℕ) (x : Option ℕ) → None ≡ group_for limit x → x ≡ some n → limit < n
no_total limit n none h z = cc
no_total limit n (some m) h z = by (leb m limit) refl h
  where
    by : (t : Bool) → leb m limit ≡ t → None ≡ cond t (Some m) None → limit < n
    by true e h = cc
    by false e h =
        let q : m ≡ n = cc in
        omega (arith, leb-false m limit e)

-- the two totals against the wire count
abbrev fitting : ℕ → ℕ → Option ℕ → Option ℕ → Try Head
fitting g w x y =
    and_then {A = ℕ} {B = Head} (or_refuse HeaderMismatch x) (λ i. and_then {A = ℕ} {B = Head} (or_refuse HeaderMismatch y) (λ o.
    need (leb (i + o) w) HeaderMismatch (Ok (record { gates = g; wires = w; inputs = i; outputs = o }))))

over_first : (g w : ℕ) (x y : Option ℕ) → ((n : ℕ) → x ≡ some n → w < n) → fitting g w x y ≡ Err HeaderMismatch
over_first g w none y k = refl
over_first g w (some n) none k = refl
over_first g w (some n) (some o) k =
    let l : w < n + o = omega (arith, k n refl) in
    rw (lt-leb (n + o) w l)

over_second : (g w i : ℕ) (y : Option ℕ) → ((n : ℕ) → y ≡ some n → w - i < n) → fitting g w (some i) y ≡ Err HeaderMismatch
over_second g w i none k = refl
over_second g w i (some o) k =
    let l : w < i + o = omega (arith, k o refl) in
    rw (lt-leb (i + o) w l)

module _ (g w : ℕ) (b c : List ℕ) where
  lines-groups : (is os : List ℕ) → parse_each (split_whitespace b) ≡ some is → parse_each (split_whitespace c) ≡ some os
      → group_lines g w b c ≡ fitting g w (grouped_wire_count is) (grouped_wire_count os)
  unfolding group_lines groups each_number
  lines-groups is os e f = rw (e, f)

  pub lines_first : (e : Refusal) → Err e ≡ group_of w (parse_each (split_whitespace b)) → group_lines g w b c ≡ Err e
  unfolding group_lines each_number
  lines_first e q =
      let z = bad_group w (parse_each (split_whitespace b)) e q in
      rw (z.0, z.1)

  module _ (x : Answer ℕ) (ex : Ok x ≡ group_of w (parse_each (split_whitespace b))) where
    i : Grouped w (parse_each (split_whitespace b)) x
    i = grouped w _ x ex

    pub lines_second : (limit : ℕ) (e : Refusal) → Err e ≡ group_of limit (parse_each (split_whitespace c)) → group_lines g w b c ≡ Err e
    unfolding group_lines each_number
    lines_second limit e q =
        let z = bad_group limit (parse_each (split_whitespace c)) e q in
        rw (i.is, z.0, z.1)

    module _ (y : Answer ℕ) (ey : Ok y ≡ group_of (w - unwrap_or x 0) (parse_each (split_whitespace c))) where
      o : Grouped (w - unwrap_or x 0) (parse_each (split_whitespace c)) y
      o = grouped _ _ y ey

      both : group_lines g w b c ≡ fitting g w (grouped_wire_count i.ns) (grouped_wire_count o.ns)
      both = lines-groups i.ns o.ns i.is o.is

      pub no_first : x ≡ None → group_lines g w b c ≡ Err HeaderMismatch
      no_first e = both ∙ over_first g w (grouped_wire_count i.ns) (grouped_wire_count o.ns) (λ k. no_total w k (grouped_wire_count i.ns) (sym e ∙ i.total))

      module _ (a : ℕ) (p : x ≡ Some a) where
        first_is : (grouped_wire_count i.ns ≡ some a) × (a ≤ w)
        first_is = total w a (grouped_wire_count i.ns) (sym p ∙ i.total)

        left_is : w - unwrap_or x 0 ≡ w - a
        left_is = ap (λ (z : Answer ℕ). w - unwrap_or z 0) p

        pub no_second : y ≡ None → group_lines g w b c ≡ Err HeaderMismatch
        no_second e =
            both
            ∙ ap (λ (z : Option ℕ). fitting g w z (grouped_wire_count o.ns)) first_is.0
            ∙ over_second g w a (grouped_wire_count o.ns) (λ k z. omega (arith, left_is, no_total (w - unwrap_or x 0) k (grouped_wire_count o.ns) (sym e ∙ o.total) z))

        pub both_totals : (d : ℕ) → y ≡ Some d → HeadAt (group_lines g w b c) (record { gates = g; wires = w; inputs = a; outputs = d })
        both_totals d q =
            let z = total (w - unwrap_or x 0) d (grouped_wire_count o.ns) (sym q ∙ o.total) in
            let l : a + d ≤ w = omega (arith, left_is, first_is.1, z.1) in
            record {
              is = both ∙ ap₂ (fitting g w) first_is.0 z.0 ∙ fit l;
              fits = l;
            }
          where
            fit : a + d ≤ w → fitting g w (some a) (some d) ≡ Ok (record { gates = g; wires = w; inputs = a; outputs = d })
            fit l = rw (le-leb (a + d) w l)

-- ---- the header

pub header_none : (ls : List (List ℕ)) → ls ≡ [] → header ls ≡ Err Malformed
unfolding header
header_none ls e = rw e

module _ (ls : List (List ℕ)) (a : List ℕ) (ms : List (List ℕ)) (e : ls ≡ a ∷ ms) where
  pub header_one : ms ≡ [] → header ls ≡ Err Malformed
  unfolding header
  header_one f = rw (e, f)

  module _ (b : List ℕ) (ns : List (List ℕ)) (f : ms ≡ b ∷ ns) where
    pub header_two : ns ≡ [] → header ls ≡ Err Malformed
    unfolding header
    header_two g = rw (e, f, g)

    module _ (c : List ℕ) (rows : List (List ℕ)) (g : ns ≡ c ∷ rows) (r : Try Counts) (er : r ≡ counts_of (parse_each (split_whitespace a))) where
      all : ls ≡ a ∷ b ∷ c ∷ rows
      all = e ∙ ap (λ (l : List (List ℕ)). a ∷ l) (f ∙ ap (λ (l : List (List ℕ)). b ∷ l) g)

      pub header_counts : (x : Refusal) → r ≡ Err x → header ls ≡ Err x
      unfolding header two_numbers each_number
      header_counts x h = rw all (go (parse_each (split_whitespace a)) (sym h ∙ er))
        where
          go : (y : Option (List ℕ)) → Err x ≡ counts_of y → and_then (or_refuse NotNumber y) (λ ns. two_numbers ns (λ g w. group_lines g w b c)) ≡ Err x
          go none h = let q : x ≡ NotNumber = cc in ap Err (sym q)
          go (some []) h = let q : x ≡ Malformed = cc in ap Err (sym q)
          go (some (k ∷ [])) h = let q : x ≡ Malformed = cc in ap Err (sym q)
          go (some (k ∷ w ∷ [])) h = cc
          go (some (k ∷ w ∷ m ∷ ns)) h = let q : x ≡ Malformed = cc in ap Err (sym q)

      header-groups : (k : Counts) → r ≡ Ok k → header ls ≡ group_lines k.gates k.wires b c
      unfolding header two_numbers each_number
      header-groups k h = rw all (go (parse_each (split_whitespace a)) (sym h ∙ er))
        where
          go : (y : Option (List ℕ)) → Ok k ≡ counts_of y → and_then (or_refuse NotNumber y) (λ ns. two_numbers ns (λ g w. group_lines g w b c)) ≡ group_lines k.gates k.wires b c
          go none h = cc
          go (some []) h = cc
          go (some (g ∷ [])) h = cc
          go (some (g ∷ w ∷ [])) h =
              let q : k ≡ record { gates = g; wires = w } = cc in
              ap (λ (z : Counts). group_lines z.gates z.wires b c) (sym q)
          go (some (g ∷ w ∷ m ∷ ns)) h = cc

      pub header_is : (k : Counts) → r ≡ Ok k → (x : Try Head) → HeadIs (group_lines k.gates k.wires b c) x → HeaderIs ls rows x
      header_is k h (Err x) p = header-groups k h ∙ p
      header_is k h (Ok d) p = record {
        is = header-groups k h ∙ p.is;
        rows_are = sym (ap (drop 3) all);
        fits = p.fits;
      }
