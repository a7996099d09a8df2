-- The checks of the call, one after the other, and what the call leaves.
-- Assumes nothing.
use Rattle.circuit.specs.declared.records.TheConstants.{NODE_WORDS}
use Rattle.graphs.specs.declared.TheConstants.{READS}
use Rattle.std.specs.Prelude.{Err, Ok}
use Prim.Native.Nat.{ℕ, ◌+◌, ◌-◌, ◌*◌, ◌/◌, ◌≤◌, ◌<◌}
use mathlib.Core.Path.{◌≡◌, refl, sym, ap, ap₂, ◌∙◌}
use mathlib.Core.Logic.{◌≢◌}
use mathlib.Core.Bool.{Bool, true, false, not, ◌&&◌}
use mathlib.Core.List.{List, ◌++◌}
use native.Mathlib.Omega.{arith}
use lib.Dec.{eqb, leb}
use lib.ListN.{length, replicate}
use borrow.Author.Tests.{eqb-true, eqb-false, eq-eqb, ne_eqb, leb-true, le-leb, lt-leb}
use Rattle.std.proofs.lemmas.Bool.{and_parts}
use Rattle.circuit.specs.declared.refusals.Refusal.{Refusal}
use Rattle.circuit.specs.declared.refusals.Refusal.TheVariants.{Broken, NoWindow, WrongValues, NoRoom, Circle}
use Rattle.circuit.specs.Refusals.{Try, Checked, refuse_if, first_fault}
use Rattle.circuit.specs.Check.{whole, circuit_broken, nodes_in, wires_in, records_fault}
use Rattle.graphs.specs.Graph.{cells_of}
use Rattle.circuit.proofs.Checks.{no_fault, not_refused}
use Rattle.ordering.specs.Schedule.{key_at, schedule_of}
use Rattle.schedule.specs.Call.{graph_in, order_in, room, call_fault, circle_fault, schedule_fault, Left, leaves, left_by, schedule_call}
use Rattle.ordering.specs.Areas.{Listed}
use Rattle.schedule.specs.Records.{Orderable}
use Rattle.schedule.proofs.Records.{sound_wired}
use Rattle.ordering.proofs.Complete.{count_all, count_some}

-- 3

module _ (n ready successors order : ℕ) where
  pub room-ready : ready < 3 * n → false ≡ room n ready successors order
  unfolding room
  room-ready h = rw (lt-leb (3 * n) ready h)

  pub room_successors : 3 * n ≤ ready → successors < READS * n + 1 → false ≡ room n ready successors order
  unfolding room
  room_successors a h = rw (le-leb (3 * n) ready a, lt-leb (READS * n + 1) successors h)

  pub room-order : 3 * n ≤ ready → READS * n + 1 ≤ successors → leb n order ≡ room n ready successors order
  unfolding room
  room-order a b = rw (le-leb (3 * n) ready a, le-leb (READS * n + 1) successors b)

-- 15, 18, 19, 3

module _ (nodes outputs : List ℕ) (window : ℕ) (keys : List ℕ) (ready successors order : ℕ) where
  pub fault_records : (f : Checked) → f ≡ records_fault nodes outputs → (e : Refusal) → f ≡ Err e → Err e ≡ call_fault nodes outputs window keys ready successors order
  unfolding call_fault
  fault_records f s e q = rw (sym s ∙ q)

  module _ (f : Checked) (s : f ≡ records_fault nodes outputs) (sound : f ≡ Ok tt) where
    passed : records_fault nodes outputs ≡ Ok tt
    passed = sym s ∙ sound

    pub fault_window : window ≡ 0 → Err NoWindow ≡ call_fault nodes outputs window keys ready successors order
    unfolding call_fault
    fault_window w = rw (passed, eq-eqb window 0 w)

    module _ (w : window ≢ 0) where
      pub fault_keys : length keys ≢ 3 * (length nodes / NODE_WORDS) → Err WrongValues ≡ call_fault nodes outputs window keys ready successors order
      unfolding call_fault
      fault_keys k = rw (passed, ne_eqb window 0 w, ne_eqb (length keys) (3 * (length nodes / NODE_WORDS)) k)

      module _ (k : length keys ≡ 3 * (length nodes / NODE_WORDS)) (t : Bool) (r : t ≡ room (length nodes / NODE_WORDS) ready successors order) where
        pub fault_none : t ≡ true → (Ok tt) ≡ call_fault nodes outputs window keys ready successors order
        unfolding call_fault
        fault_none e = rw (passed, ne_eqb window 0 w, eq-eqb (length keys) (3 * (length nodes / NODE_WORDS)) k, sym r ∙ e)

        pub fault_room : t ≡ false → Err NoRoom ≡ call_fault nodes outputs window keys ready successors order
        unfolding call_fault
        fault_room e = rw (passed, ne_eqb window 0 w, eq-eqb (length keys) (3 * (length nodes / NODE_WORDS)) k, sym r ∙ e)

  -- what is known once they are passed
  module _ (sound : call_fault nodes outputs window keys ready successors order ≡ Ok tt) where
    records_sound : (records_fault nodes outputs ≡ Ok tt) × (first_fault (refuse_if (eqb window 0) NoWindow) (first_fault (refuse_if (not (eqb (length keys) (3 * (length nodes / NODE_WORDS)))) WrongValues) (refuse_if (not (room (length nodes / NODE_WORDS) ready successors order)) NoRoom)) ≡ Ok tt)
    unfolding call_fault
    records_sound = no_fault _ _ sound

    pub sound_records : records_fault nodes outputs ≡ Ok tt
    sound_records = records_sound.0

    window_sound : (refuse_if (eqb window 0) NoWindow ≡ Ok tt) × (first_fault (refuse_if (not (eqb (length keys) (3 * (length nodes / NODE_WORDS)))) WrongValues) (refuse_if (not (room (length nodes / NODE_WORDS) ready successors order)) NoRoom) ≡ Ok tt)
    window_sound = no_fault _ _ records_sound.1

    keys_sound : (refuse_if (not (eqb (length keys) (3 * (length nodes / NODE_WORDS)))) WrongValues ≡ Ok tt) × (refuse_if (not (room (length nodes / NODE_WORDS) ready successors order)) NoRoom ≡ Ok tt)
    keys_sound = no_fault _ _ window_sound.1

    not-false : (t : Bool) → not t ≡ false → t ≡ true
    not-false true e = refl
    not-false false e = sym e

    has_room : room (length nodes / NODE_WORDS) ready successors order ≡ true
    has_room = not-false _ (not_refused _ NoRoom keys_sound.1)

    unbroken : circuit_broken (nodes_in nodes) (wires_in outputs) ≡ false
    unfolding records_fault
    unbroken =
        not_refused (circuit_broken (nodes_in nodes) (wires_in outputs)) Broken
        (no_fault (refuse_if (not (whole nodes outputs)) Broken) (refuse_if (circuit_broken (nodes_in nodes) (wires_in outputs)) Broken) sound_records).1

    pub orderable : Orderable nodes (length keys) window ready successors order
    unfolding room
    orderable =
        let a = and_parts (leb (3 * (length nodes / NODE_WORDS)) ready) (leb (READS * (length nodes / NODE_WORDS) + 1) successors && leb (length nodes / NODE_WORDS) order) has_room in
        let b = and_parts (leb (READS * (length nodes / NODE_WORDS) + 1) successors) (leb (length nodes / NODE_WORDS) order) a.1 in
        record {
          wired = sound_wired nodes (length nodes / NODE_WORDS) (wires_in outputs) unbroken;
          window_is = omega (arith, eqb-false window 0 (not_refused _ NoWindow window_sound.0));
          keys_are = eqb-true (length keys) (3 * (length nodes / NODE_WORDS)) (not-false _ (not_refused _ WrongValues keys_sound.0));
          ready_room = leb-true (3 * (length nodes / NODE_WORDS)) ready a.0;
          successor_room = omega (arith, leb-true (READS * (length nodes / NODE_WORDS) + 1) successors b.0);
          order_room = leb-true (length nodes / NODE_WORDS) order b.1;
        }

-- the order, or 17

left_same : (a b : Try ℕ) (r s o r' s' o' : List ℕ) → a ≡ b → r ≡ r' → s ≡ s' → o ≡ o' → leaves a r s o ≡ leaves b r' s' o'
left_same a b r s o r' s' o' p q u v = λ i. record { answer = p i; ready = q i; successors = u i; order = v i }

module _ (nodes : List ℕ) (count : ℕ) (keys : List ℕ) (window : ℕ) (order : List ℕ) (r cells : ℕ) (l : Listed (schedule_of (graph_in nodes count) window (key_at keys)) order r) (e : cells ≡ length (cells_of (graph_in nodes count)))
    (ready successors : List ℕ) (a b m : ℕ) (p : ready ≡ replicate a 0) (q : successors ≡ replicate b 0) (size : length order ≡ m) where
  -- no 17 where as many were taken as there are cells, 17 otherwise
  counts_none : r ≡ cells → circle_fault nodes count window keys ≡ Ok tt
  unfolding circle_fault order_in
  counts_none same = ap (λ (t : Bool). refuse_if t Circle) (count_all (graph_in nodes count) window (key_at keys) (sym l.number ∙ same ∙ e))

  counts_circle : r ≢ cells → circle_fault nodes count window keys ≡ Err Circle
  unfolding circle_fault order_in
  counts_circle differs = ap (λ (t : Bool). refuse_if t Circle) (count_some (graph_in nodes count) window (key_at keys) (λ same. differs (l.number ∙ same ∙ sym e)))

  pub call_cells : r ≡ cells → leaves (Ok r) ready successors order ≡ left_by (circle_fault nodes count window keys) (length (cells_of (graph_in nodes count))) (order_in nodes count window keys) a b m
  unfolding order_in
  call_cells same =
      rw (counts_none same)
      (left_same (Ok r) (Ok (length (cells_of (graph_in nodes count)))) ready successors order (replicate a 0) (replicate b 0) (order_in nodes count window keys ++ replicate (m - length (order_in nodes count window keys)) 0)
      (ap Ok (same ∙ e)) p q (l.listed ∙ ap₂ (λ (x y : ℕ). order_in nodes count window keys ++ replicate (x - y) 0) size l.number))

  pub call_circle : r ≢ cells → (after : List ℕ) → after ≡ replicate m 0 → leaves (Err Circle) ready successors after ≡ left_by (circle_fault nodes count window keys) (length (cells_of (graph_in nodes count))) (order_in nodes count window keys) a b m
  call_circle differs after z =
      rw (counts_circle differs)
      (left_same (Err Circle) (Err Circle) ready successors after (replicate a 0) (replicate b 0) (replicate m 0) refl p q z)

-- the whole call

module _ (nodes outputs : List ℕ) (window : ℕ) (keys ready successors order : List ℕ) (f : Checked) (s : f ≡ call_fault nodes outputs window keys (length ready) (length successors) (length order)) where
  pub call_refused : (e : Refusal) → f ≡ Err e → (ready' successors' order' : List ℕ) → ready' ≡ replicate (length ready) 0 → successors' ≡ replicate (length successors) 0 → order' ≡ replicate (length order) 0 → leaves (Err e) ready' successors' order' ≡ schedule_call nodes outputs window keys ready successors order
  unfolding schedule_call schedule_fault
  call_refused e q ready' successors' order' x y z =
      rw (sym s ∙ q) (left_same (Err e) (Err e) ready' successors' order' (replicate (length ready) 0) (replicate (length successors) 0) (replicate (length order) 0) refl x y z)

  pub call_ordered : f ≡ Ok tt → (left : Left) → left ≡ left_by (circle_fault nodes (length nodes / NODE_WORDS) window keys) (length (cells_of (graph_in nodes (length nodes / NODE_WORDS)))) (order_in nodes (length nodes / NODE_WORDS) window keys) (length ready) (length successors) (length order) → left ≡ schedule_call nodes outputs window keys ready successors order
  unfolding schedule_call schedule_fault
  call_ordered q left e = rw (sym s ∙ q) e

  pub call_orderable : f ≡ Ok tt → Orderable nodes (length keys) window (length ready) (length successors) (length order)
  call_orderable q = orderable nodes outputs window keys (length ready) (length successors) (length order) (sym s ∙ q)
