-- The first refusal of a call, and what a call leaves.
-- Assumes nothing.
use Rattle.std.specs.Prelude.{Err, Ok, is_ok}
use mathlib.Core.Path.{◌≡◌, refl, ap}
use mathlib.Core.List.{List, ◌++◌}
use mathlib.Core.Bool.{true, false}
use Prim.Native.Nat.{ℕ, ◌/◌, ◌<◌, ◌≤◌}
use lib.Dec.{ltb}
use borrow.Author.Tests.{ltb-false, lt-ltb, le-ltb}
use lib.ListN.{length, replicate}
use Rattle.std.proofs.lemmas.Bool.{or_parts}
use Rattle.std.proofs.lemmas.List.{drop-replicate}
use Rattle.circuit.specs.declared.records.TheConstants.{NODE_WORDS, OUTPUT_WORDS}
use Rattle.circuit.specs.declared.refusals.Refusal.{Refusal}
use Rattle.circuit.specs.declared.refusals.Refusal.TheVariants.{NoRoom, WrongValues}
use Rattle.circuit.specs.Refusals.{Try, Checked, first_fault, check_then}
use Rattle.circuit.specs.Check.{nodes_in, topological_fault}
use Rattle.circuit.proofs.Checks.{not_refused}
use Rattle.circuit.proofs.Tries.{no_yes}
use Rattle.values.specs.Assignments.{wrong_assignment}
use Rattle.values.specs.Inner.{with_outputs}
use Rattle.values.specs.Calls.{assignment_fault, assigned_fault, room_fault, after_call, call_result}

-- ---- a check before an answer

pub check_no : {A : Type 0} (f : Checked) (a : A) (r : Refusal) → ◌≡◌ {A = Try A} (Err r) (check_then f (Ok a)) → f ≡ Err r
check_no (Err x) a r q = cc
check_no (Ok u) a r q = absurd (no_yes q)

-- ---- 3

module _ (nodes outputs : List ℕ) (store answers : ℕ) where
  pub no_store : store < length nodes / NODE_WORDS → Err NoRoom ≡ room_fault nodes outputs store answers
  unfolding room_fault
  no_store h = rw (lt-ltb store (length nodes / NODE_WORDS) h)

  pub no_answers : length nodes / NODE_WORDS ≤ store → answers < length outputs / OUTPUT_WORDS → Err NoRoom ≡ room_fault nodes outputs store answers
  unfolding room_fault
  no_answers h l = rw (le-ltb store (length nodes / NODE_WORDS) h, lt-ltb answers (length outputs / OUTPUT_WORDS) l)

  pub has_room : length nodes / NODE_WORDS ≤ store → length outputs / OUTPUT_WORDS ≤ answers → (Ok tt) ≡ room_fault nodes outputs store answers
  unfolding room_fault
  has_room h l = rw (le-ltb store (length nodes / NODE_WORDS) h, le-ltb answers (length outputs / OUTPUT_WORDS) l)

  pub record Room : Type 0 where
    pub store_room : length nodes / NODE_WORDS ≤ store
    pub answers_room : length outputs / OUTPUT_WORDS ≤ answers

  pub room_of : room_fault nodes outputs store answers ≡ Ok tt → Room
  unfolding room_fault
  room_of e =
      let g = or_parts (ltb store (length nodes / NODE_WORDS)) (ltb answers (length outputs / OUTPUT_WORDS)) (not_refused _ NoRoom e) in
      record { store_room = ltb-false store (length nodes / NODE_WORDS) g.0; answers_room = ltb-false answers (length outputs / OUTPUT_WORDS) g.1 }

-- ---- the first refusal of both calls: 15, 16, 19

module _ (top : ℕ) (nodes outputs assignment : List ℕ) where
  pub unchecked : (r : Refusal) → topological_fault nodes outputs ≡ Err r → Err r ≡ assigned_fault top nodes outputs assignment
  unchecked r e = rw e

  module _ (e : topological_fault nodes outputs ≡ Ok tt) where
    pub unassigned : wrong_assignment top (nodes_in nodes) assignment ≡ true → Err WrongValues ≡ assigned_fault top nodes outputs assignment
    unfolding assignment_fault
    unassigned a = rw (e, a)

    pub well_assigned : wrong_assignment top (nodes_in nodes) assignment ≡ false → (Ok tt) ≡ assigned_fault top nodes outputs assignment
    unfolding assignment_fault
    well_assigned a = rw (e, a)

  pub assigned_then : (b : Checked) → first_fault (assigned_fault top nodes outputs assignment) b ≡ first_fault (topological_fault nodes outputs) (first_fault (assignment_fault top nodes assignment) b)
  assigned_then b = go (topological_fault nodes outputs)
    where
      go : (f : Checked) → first_fault (first_fault f (assignment_fault top nodes assignment)) b ≡ first_fault f (first_fault (assignment_fault top nodes assignment) b)
      go (Err e) = refl
      go (Ok u) = refl

-- ---- what a call leaves

-- the outputs that are given stand in front of an area of zeros
pub call_left : (fault : Checked) (count : ℕ) (outputs before : List ℕ) (size room : ℕ) (r : Try ℕ) (store after : List ℕ)
    → r ≡ check_then fault (Ok count) → before ≡ replicate room 0 → after ≡ with_outputs (is_ok r) outputs before → store ≡ replicate size 0
    → call_result r store after ≡ after_call fault count outputs size room
unfolding after_call
call_left (Ok u) count outputs before size room r store after e b a s =
    rw (e, s, rw (e, b) at a) (ap (λ (l : List ℕ). record { number = 0; count = count; store = replicate size 0; outputs = outputs ++ l }) (drop-replicate {X = ℕ} (length outputs) room 0))
call_left (Err x) count outputs before size room r store after e b a s = rw (e, s, rw (e, b) at a) refl
