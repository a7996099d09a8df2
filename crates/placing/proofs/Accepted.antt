-- What a reader line by line accepts reads only earlier definitions.
-- Assumes nothing.
use Prim.Native.Nat.{ℕ, zero, suc, ◌≤◌, ◌<◌}
use mathlib.Core.Path.{◌≡◌, refl, sym, ap, ◌∙◌}
use mathlib.Core.Bool.{Bool, true, false, not, ◌||◌, false≢true}
use mathlib.Core.List.{List, [], ◌∷◌}
use native.Mathlib.Omega.{arith}
use lib.Dec.{leb}
use lib.ListN.{length}
use borrow.Author.Tests.{leb-true, leb-false, not-true}
use Rattle.std.specs.List.{list_all}
use Rattle.std.proofs.Math.Bool.{or-true}
use Rattle.std.proofs.lemmas.Bool.{and_parts}
use Rattle.laws.specs.Lists.{elem, some}
use Rattle.laws.specs.Stretches.{same_bytes}
use Rattle.laws.proofs.Tests.{clash}
use Rattle.laws.proofs.Lists.{elem-append, numbers_in}
use Rattle.laws.proofs.Stretches.{same_eq}
use Rattle.graphs.specs.Graph.{Forward}
use Rattle.graphs.proofs.Graph.{cell_below}
use Rattle.placing.specs.Definitions.{Definition, definition_at, definers, definers_of, definition_graph}
use Rattle.placing.specs.Placing.{placed_definitions}
use Rattle.placing.specs.Promises.{stands_among, accepts}
use Rattle.placing.proofs.Graphs.{length-graph, reads-are}
use Rattle.placing.proofs.Filed.{filed-definitions}

-- ---- the words that are defined before definition k

before : List (List ℕ) → List Definition → ℕ → List (List ℕ)
before known ds zero = known
before known [] (suc k) = known
before known (d ∷ ds) (suc k) = before (d.output ∷ known) ds k

among-grown : (p : List ℕ → Bool) (known : List (List ℕ)) (ds : List Definition) (m : ℕ) → some p known ≡ true → some p (before known ds m) ≡ true
unfolding before
among-grown p known ds zero h = h
among-grown p known [] (suc m) h = h
among-grown p known (d ∷ ds) (suc m) h = among-grown p (d.output ∷ known) ds m (rw h (or-true (p d.output)))

among-later : (p : List ℕ → Bool) (known : List (List ℕ)) (ds : List Definition) (k m : ℕ) → k ≤ m → some p (before known ds k) ≡ true → some p (before known ds m) ≡ true
unfolding before
among-later p known ds zero m h e = among-grown p known ds m e
among-later p known [] (suc k) m h e = among-grown p known [] m e
among-later p known (d ∷ ds) (suc k) zero h e = absurd (omega arith)
among-later p known (d ∷ ds) (suc k) (suc m) h e = among-later p (d.output ∷ known) ds k m (omega arith) e

-- ---- a definition that is accepted

record Accepted (known : List (List ℕ)) (d : Definition) : Type 0 where
  pub fresh : stands_among d.output known ≡ false
  pub there : list_all (λ w. stands_among w known) d.inputs ≡ true

accepted-at : (known : List (List ℕ)) (ds : List Definition) (k : ℕ) → accepts known ds ≡ true → k < length ds → Accepted (before known ds k) (definition_at ds k)
unfolding accepts before
accepted-at known [] k e h = absurd (omega arith)
accepted-at known (d ∷ ds) zero e h =
    let p = and_parts (not (stands_among d.output known)) _ e in
    let q = and_parts (list_all (λ w. stands_among w known) d.inputs) _ p.1 in
    record { fresh = not-true _ p.0; there = q.0 }
accepted-at known (d ∷ ds) (suc k) e h =
    let p = and_parts (not (stands_among d.output known)) _ e in
    let q = and_parts (list_all (λ w. stands_among w known) d.inputs) _ p.1 in
    accepted-at (d.output ∷ known) ds k q.1 (omega arith)

-- the word by which a definition is read passes what all words pass
by-word : (ds : List Definition) (p : List ℕ → Bool) (ws : List (List ℕ)) (y : ℕ) → list_all p ws ≡ true → elem y (definers_of ds ws) ≡ true → (w : List ℕ) × (p w ≡ true) × (elem y (definers ds w) ≡ true)
unfolding definers_of
by-word ds p [] y a h = absurd (false≢true h)
by-word ds p (w ∷ ws) y a h = go (elem y (definers ds w)) refl (and_parts (p w) (list_all p ws) a) (by-word ds p ws y)
  where
    go : (t : Bool) → elem y (definers ds w) ≡ t → (p w ≡ true) × (list_all p ws ≡ true) → (list_all p ws ≡ true → elem y (definers_of ds ws) ≡ true → (w : List ℕ) × (p w ≡ true) × (elem y (definers ds w) ≡ true)) → (w : List ℕ) × (p w ≡ true) × (elem y (definers ds w) ≡ true)
    go true e b below = (w, b.0, e)
    go false e b below = below b.1 (ap (λ (t : Bool). t || elem y (definers_of ds ws)) (sym e) ∙ sym (elem-append y (definers ds w) (definers_of ds ws)) ∙ h)

module _ (inputs : List (List ℕ)) (ds : List Definition) (accepted : accepts inputs ds ≡ true) where
  earlier : (x y : ℕ) → x < length ds → elem y (definers_of ds (definition_at ds x).inputs) ≡ true → y < x
  unfolding stands_among definers
  earlier x y h m =
      let r = by-word ds (λ w. stands_among w (before inputs ds x)) (definition_at ds x).inputs y (accepted-at inputs ds x accepted h).there m in
      let n = numbers_in (λ j. same_bytes (definition_at ds j).output r.0) 0 (length ds) y r.2 in
      let below : y < length ds = omega (arith, n.2) in
      go r.0 r.1 (same_eq (definition_at ds y).output r.0 n.0) below (leb x y) refl
    where
      go : (w : List ℕ) → stands_among w (before inputs ds x) ≡ true → (definition_at ds y).output ≡ w → y < length ds → (t : Bool) → leb x y ≡ t → y < x
      go w there same below true e =
          let later : some (λ v. same_bytes v w) (before inputs ds y) ≡ true = among-later (λ v. same_bytes v w) inputs ds x y (leb-true x y e) there in
          absurd (clash later (ap (λ (v : List ℕ). stands_among v (before inputs ds y)) (sym same) ∙ (accepted-at inputs ds y accepted below).fresh))
      go w there same below false e = leb-false x y e

  pub forward : Forward (definition_graph ds)
  forward x y r =
      let h : x < length ds = omega (arith, cell_below (definition_graph ds) x r.reader, length-graph ds) in
      earlier x y h (ap (elem y) (sym (reads-are ds x h)) ∙ r.among)

  pub accepted-filed : Forward (definition_graph ds) × (placed_definitions ds ≡ ds)
  accepted-filed = (forward, filed-definitions ds forward)
