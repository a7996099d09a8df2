-- Laws of each line of the header by itself: its widths and their sum, a group line, the counts.
-- Assumes nothing.
use Rattle.std.specs.Prelude.{Err, None, Ok, Option as Answer, Some}
use Prim.Native.Nat.{ℕ, suc, ◌+◌, ◌≤◌, ◌<◌, zero-le}
use mathlib.Core.Path.{◌≡◌, refl, sym, ap, ◌∙◌}
use mathlib.Core.Bool.{Bool, true, false, cond}
use mathlib.Core.List.{List, [], ◌∷◌}
use mathlib.Core.Option.{Option, none, some}
use native.Mathlib.Nat.{add-zero, zero-add}
use native.Mathlib.Omega.{arith}
use lib.Dec.{eqb, leb}
use lib.ListN.{length}
use borrow.Author.Tests.{eq-eqb, ne_eqb, le-leb, lt-leb, leb-true, leb-false}
use Rattle.laws.specs.Sums.{sum}
use Rattle.circuit.specs.declared.refusals.Refusal.{Refusal}
use Rattle.circuit.specs.declared.refusals.Refusal.TheVariants.{Malformed, NotNumber}
use Rattle.circuit.specs.Refusals.{Try}
use Rattle.text.specs.Numbers.{parse_each, and_then as then}
use Rattle.bristol_rows.specs.declared.answers.Widths.{Widths}
use Rattle.bristol_rows.specs.declared.answers.Counts.{Counts}
use Rattle.bristol_rows.specs.Header.{grouped_wire_count}
use Rattle.bristol_rows.specs.Promises.{add_to, add_all, widths_of, group_for, group_of, counts_after, counts_of, first_number}
use Rattle.bristol_rows.proofs.NumberLaws.{each_bad}

-- ---- widths

module _ (limit k : ℕ) (s : Answer ℕ) (y : Option (List ℕ)) where
  pub widths_end : y ≡ some [] → Ok (record { count = k; sum = s }) ≡ widths_of limit k s y
  unfolding add_all
  widths_end e = rw (e, add-zero k)

  pub widths_invalid : y ≡ none → Err NotNumber ≡ widths_of limit k s y
  widths_invalid e = rw e

  pub widths_on : (x : Option (List ℕ)) (v : ℕ) (s' : Answer ℕ) → s' ≡ add_to limit s v → y ≡ then x (λ ns. some (v ∷ ns))
      → widths_of limit (k + 1) s' x ≡ widths_of limit k s y
  unfolding add_all
  widths_on none v s' es ey = rw ey
  widths_on (some ns) v s' es ey =
      let q : k + 1 + length ns ≡ k + suc (length ns) = omega arith in
      rw (ey, es, q)

-- ---- the sum up to a limit is the true sum where that is at most the limit

all_over : (limit : ℕ) (ms : List ℕ) → add_all limit None ms ≡ None
unfolding add_all
all_over limit [] = refl
all_over limit (m ∷ ms) = all_over limit ms

add-all : (limit : ℕ) (ns : List ℕ) (a : ℕ) → a ≤ limit → add_all limit (Some a) ns ≡ cond (leb (a + sum ns) limit) (Some (a + sum ns)) None
unfolding add_all sum
add-all limit [] a h = rw (add-zero a, le-leb a limit h)
add-all limit (n ∷ ns) a h = go (leb (a + n) limit) refl (add-all limit ns (a + n))
  where
    go : (t : Bool) → leb (a + n) limit ≡ t → (a + n ≤ limit → add_all limit (Some (a + n)) ns ≡ cond (leb (a + n + sum ns) limit) (Some (a + n + sum ns)) None)
        → add_all limit (cond (leb (a + n) limit) (Some (a + n)) None) ns ≡ cond (leb (a + (n + sum ns)) limit) (Some (a + (n + sum ns))) None
    go true e ih =
        let q : a + n + sum ns ≡ a + (n + sum ns) = omega arith in
        rw e (ih (leb-true _ _ e) ∙ ap (λ (m : ℕ). cond (leb m limit) (Some m) None) q)
    go false e ih =
        let h : limit < a + n = leb-false _ _ e in
        let l : limit < a + (n + sum ns) = omega arith in
        rw (e, lt-leb _ _ l) (all_over limit ns)

-- ---- a group line

-- the code's answer, from the number of groups and the widths
unfoldable group_by : ℕ → Try Widths → Try (Answer ℕ)
group_by g (Err e) = Err e
group_by g (Ok w) = Ok (cond (eqb g w.count) w.sum None)

group-by : (limit g : ℕ) (t : Option (List ℕ)) → group_by g (widths_of limit 0 (Some 0) t) ≡ group_of limit (then t (λ ns. some (g ∷ ns)))
unfolding group_by grouped_wire_count
group-by limit g none = refl
group-by limit g (some ns) =
    rw (zero-add (length ns), add-all limit ns 0 zero-le, zero-add (sum ns)) (go (eqb g (length ns)))
  where
    go : (t : Bool) → ◌≡◌ {A = Try (Answer ℕ)} (Ok (cond t (cond (leb (sum ns) limit) (Some (sum ns)) None) None)) (Ok (group_for limit (cond t (some (sum ns)) none)))
    go true = refl
    go false = refl

pub group_none : (limit : ℕ) (y : Option (List ℕ)) → y ≡ some [] → Ok None ≡ group_of limit y
unfolding grouped_wire_count
group_none limit y e = rw e

pub group_first : (limit : ℕ) (y : Option (List ℕ)) → y ≡ none → Err NotNumber ≡ group_of limit y
group_first limit y e = rw e

module _ (limit g : ℕ) (x y : Option (List ℕ)) (f : y ≡ then x (λ ns. some (g ∷ ns))) where
  group_is : group_by g (widths_of limit 0 (Some 0) x) ≡ group_of limit y
  group_is = group-by limit g x ∙ ap (group_of limit) (sym f)

  pub group_invalid : (e : Refusal) → Err e ≡ widths_of limit 0 (Some 0) x → Err e ≡ group_of limit y
  unfolding group_by
  group_invalid e q = ap (group_by g) q ∙ group_is

  module _ (w : Widths) (q : Ok w ≡ widths_of limit 0 (Some 0) x) where
    group_read : Ok (cond (eqb g w.count) w.sum None) ≡ group_of limit y
    unfolding group_by
    group_read = ap (group_by g) q ∙ group_is

    pub group_other : (g ≡ w.count → ⊥) → Ok None ≡ group_of limit y
    group_other d = rw (ne_eqb g w.count d) at group_read

    pub group_sum : g ≡ w.count → Ok w.sum ≡ group_of limit y
    group_sum d = rw (eq-eqb g w.count d) at group_read

-- ---- the counts

unfoldable counts_by : ℕ → ℕ → Try Widths → Try Counts
counts_by g w (Err e) = Err e
counts_by g w (Ok v) = cond (eqb v.count 0) (Ok (record { gates = g; wires = w })) (Err Malformed)

counts-by : (g w : ℕ) (t : Option (List ℕ)) → counts_by g w (widths_of 0 0 (Some 0) t) ≡ counts_after g (then t (λ ns. some (w ∷ ns)))
unfolding counts_by
counts-by g w none = refl
counts-by g w (some []) = refl
counts-by g w (some (n ∷ ns)) =
    let d : 0 + suc (length ns) ≡ 0 → ⊥ = λ z. omega arith in
    rw (ne_eqb (0 + suc (length ns)) 0 d)

pub wires_first : (g : ℕ) (ws : List (List ℕ)) (e : Refusal) → Err e ≡ first_number ws → Err e ≡ counts_after g (parse_each ws)
unfolding parse_each
wires_first g [] e h =
    let q : e ≡ Malformed = cc in
    ap Err q
wires_first g (w ∷ ws) e h =
    let b = each_bad (w ∷ ws) ws w refl e h in
    rw b.0 (ap Err b.1)

module _ (g w : ℕ) (x y : Option (List ℕ)) (f : y ≡ then x (λ ns. some (w ∷ ns))) where
  counts_is : counts_by g w (widths_of 0 0 (Some 0) x) ≡ counts_after g y
  counts_is = counts-by g w x ∙ ap (counts_after g) (sym f)

  pub counts_invalid : (e : Refusal) → Err e ≡ widths_of 0 0 (Some 0) x → Err e ≡ counts_after g y
  unfolding counts_by
  counts_invalid e q = ap (counts_by g w) q ∙ counts_is

  module _ (v : Widths) (q : Ok v ≡ widths_of 0 0 (Some 0) x) where
    pub counts_more : (v.count ≡ 0 → ⊥) → Err Malformed ≡ counts_after g y
    unfolding counts_by
    counts_more d = rw (ne_eqb v.count 0 d) at (ap (counts_by g w) q ∙ counts_is)

    pub counts_two : v.count ≡ 0 → Ok (record { gates = g; wires = w }) ≡ counts_after g y
    unfolding counts_by
    counts_two d = rw (eq-eqb v.count 0 d) at (ap (counts_by g w) q ∙ counts_is)

pub gates_first : (ws : List (List ℕ)) (e : Refusal) → Err e ≡ first_number ws → Err e ≡ counts_of (parse_each ws)
unfolding parse_each
gates_first [] e h =
    let q : e ≡ Malformed = cc in
    ap Err q
gates_first (w ∷ ws) e h =
    let b = each_bad (w ∷ ws) ws w refl e h in
    rw b.0 (ap Err b.1)

pub counts_first : (g : ℕ) (r : Try Counts) (x y : Option (List ℕ)) → r ≡ counts_after g x → y ≡ then x (λ ns. some (g ∷ ns)) → r ≡ counts_of y
counts_first g r none y p q = p ∙ ap counts_of (sym q)
counts_first g r (some ns) y p q = p ∙ ap counts_of (sym q)
