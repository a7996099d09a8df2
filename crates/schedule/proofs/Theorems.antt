-- The promises of specs/Promises, proved of every circuit; and that a circuit which passes `validate_topological` is not broken.
-- Assumes nothing.
use Rattle.circuit.specs.declared.records.TheConstants.{NODE_WORDS}
use Rattle.std.specs.Prelude.{Err, Ok}
use Prim.Native.Nat.{ℕ, suc, ◌-◌, ◌*◌, ◌/◌, ◌≤◌, ◌<◌}
use mathlib.Core.Path.{◌≡◌, refl, sym, ap, ◌∙◌}
use mathlib.Core.Bool.{Bool, true, false, not}
use mathlib.Core.List.{List, [], ◌∷◌, ◌++◌}
use native.Mathlib.Omega.{arith}
use borrow.Author.Tests.{eq-eqb}
use lib.ListN.{length, get_or, replicate}
use Rattle.std.proofs.lemmas.Bool.{false_from_ne_true}
use Rattle.laws.specs.Lists.{some}
use Rattle.circuit.specs.declared.refusals.Refusal.TheVariants.{Broken, Circle as InCircle}
use Rattle.circuit.specs.declared.records.BoolNode.{BoolNode}
use Rattle.circuit.specs.declared.records.BoolWire.{BoolWire}
use Rattle.circuit.specs.Refusals.{refuse_if}
use Rattle.circuit.specs.Records.{no_node}
use Rattle.circuit.specs.Check.{node_broken, circuit_broken, check_circuit, whole, nodes_in, wires_in, topological_fault, records_fault}
use Rattle.graphs.specs.Graph.{cells_of, Circle, Forward, ListsAll}
use Rattle.circuit.proofs.Checks.{no_fault, not_refused, Sounds, circuit-sound}
use Rattle.circuit.proofs.Circuits.{checked_forward}
use Rattle.graphs.proofs.Graph.{forward_no_circle}
use Rattle.ordering.specs.Schedule.{key_at}
use Rattle.schedule.specs.Call.{graph_in, order_in, room, call_fault, circle_fault, schedule_fault, leaves, schedule_call}
use Rattle.ordering.specs.Promises.{leaves_out, OrderPromised}
use Rattle.schedule.specs.Promises.{Promised, stored_cells}
use Rattle.ordering.proofs.EveryOrder.{every_order}
use Rattle.schedule.proofs.Call.{orderable}

-- what `validate_topological` accepts has no 15

some_nowhere : {A : Type 0} (p : A → Bool) (l : List A) (d : A) → ((k : ℕ) → k < length l → p (get_or l k d) ≡ false) → some p l ≡ false
some_nowhere p [] d h = refl
some_nowhere p (x ∷ l) d h = rw (h 0 (omega arith)) (some_nowhere p l d (λ k q. h (suc k) (omega arith)))

sound_unbroken : (ns : List BoolNode) (os : List BoolWire) → Sounds ns os → circuit_broken ns os ≡ false
unfolding circuit_broken node_broken
sound_unbroken ns os s =
    rw (some_nowhere (node_broken (length ns)) ns no_node (λ k h. rw (s.nodes k h).rules (s.nodes k h).inside)) s.outputs

module _ (nodes outputs : List ℕ) (valid : topological_fault nodes outputs ≡ Ok tt) where
  parts : (refuse_if (not (whole nodes outputs)) Broken ≡ Ok tt) × (check_circuit (nodes_in nodes) (wires_in outputs) ≡ Ok tt)
  unfolding topological_fault
  parts = no_fault (refuse_if (not (whole nodes outputs)) Broken) (check_circuit (nodes_in nodes) (wires_in outputs)) valid

  pub validated_records : records_fault nodes outputs ≡ Ok tt
  unfolding records_fault
  validated_records = rw (parts.0, sound_unbroken (nodes_in nodes) (wires_in outputs) (circuit-sound (nodes_in nodes) (wires_in outputs) parts.1))

  pub validated_forward : Forward (graph_in nodes (length nodes / NODE_WORDS))
  unfolding graph_in
  validated_forward = checked_forward (nodes_in nodes) (wires_in outputs) parts.1

-- of the call

module _ (nodes outputs : List ℕ) (window : ℕ) (keys : List ℕ) (ready successors order : ℕ) (passed : call_fault nodes outputs window keys ready successors order ≡ Ok tt) where
  at_least_one : 1 ≤ window
  at_least_one = (orderable nodes outputs window keys ready successors order passed).window_is

  of_graph : OrderPromised (graph_in nodes (length nodes / NODE_WORDS)) window (key_at keys)
  of_graph = every_order (graph_in nodes (length nodes / NODE_WORDS)) window (key_at keys) at_least_one

  last : schedule_fault nodes outputs window keys ready successors order ≡ circle_fault nodes (length nodes / NODE_WORDS) window keys
  unfolding schedule_fault
  last = rw passed

  circle_refuses : Circle (graph_in nodes (length nodes / NODE_WORDS)) → schedule_fault nodes outputs window keys ready successors order ≡ Err InCircle
  unfolding circle_fault order_in
  circle_refuses o = last ∙ ap (λ (t : Bool). refuse_if t InCircle) (of_graph.circle_left_out o)

  not_out : schedule_fault nodes outputs window keys ready successors order ≡ Ok tt → leaves_out (order_in nodes (length nodes / NODE_WORDS) window keys) (cells_of (graph_in nodes (length nodes / NODE_WORDS))) ≡ false
  unfolding circle_fault
  not_out e = not_refused _ InCircle (sym last ∙ e)

  refuses_circle : schedule_fault nodes outputs window keys ready successors order ≡ Err InCircle → Circle (graph_in nodes (length nodes / NODE_WORDS))
  unfolding circle_fault order_in
  refuses_circle e = go (leaves_out (order_in nodes (length nodes / NODE_WORDS) window keys) (cells_of (graph_in nodes (length nodes / NODE_WORDS)))) refl
    where
      go : (t : Bool) → leaves_out (order_in nodes (length nodes / NODE_WORDS) window keys) (cells_of (graph_in nodes (length nodes / NODE_WORDS))) ≡ t → Circle (graph_in nodes (length nodes / NODE_WORDS))
      go true q = of_graph.left_out_circle q
      go false q =
          let s : (Ok tt) ≡ Err InCircle = sym (last ∙ ap (λ (t : Bool). refuse_if t InCircle) q) ∙ e in
          let z : ◌≡◌ {A = ℕ} 0 1 = cc in
          absurd (omega arith)

  accepts : (Circle (graph_in nodes (length nodes / NODE_WORDS)) → ⊥) → schedule_fault nodes outputs window keys ready successors order ≡ Ok tt
  unfolding circle_fault order_in
  accepts no-circle =
      last ∙ ap (λ (t : Bool). refuse_if t InCircle) (false_from_ne_true _ (λ q. no-circle (of_graph.left_out_circle q)))

  no_circle_in : schedule_fault nodes outputs window keys ready successors order ≡ Ok tt → Circle (graph_in nodes (length nodes / NODE_WORDS)) → ⊥
  no_circle_in e o =
      let s : (Ok tt) ≡ Err InCircle = sym e ∙ circle_refuses o in
      let z : ◌≡◌ {A = ℕ} 0 1 = cc in
      omega arith

  lists_every : schedule_fault nodes outputs window keys ready successors order ≡ Ok tt → ListsAll (graph_in nodes (length nodes / NODE_WORDS)) (order_in nodes (length nodes / NODE_WORDS) window keys)
  unfolding order_in
  lists_every e = of_graph.lists_all (not_out e)

  numbers_every : schedule_fault nodes outputs window keys ready successors order ≡ Ok tt → length (order_in nodes (length nodes / NODE_WORDS) window keys) ≡ length (cells_of (graph_in nodes (length nodes / NODE_WORDS)))
  unfolding order_in
  numbers_every e = of_graph.count (no_circle_in e)

  stored : topological_fault nodes outputs ≡ Ok tt → window ≡ 1 → order_in nodes (length nodes / NODE_WORDS) window keys ≡ cells_of (graph_in nodes (length nodes / NODE_WORDS))
  unfolding order_in
  stored valid one = of_graph.storage (validated_forward nodes outputs valid) one

  pub promised : Promised nodes outputs window keys ready successors order
  promised =
      record {
        order_promised = of_graph;
        circle_refused = circle_refuses;
        refused_circle = refuses_circle;
        accepted = accepts;
        every = lists_every;
        number = numbers_every;
        validated = λ valid. accepts (forward_no_circle (graph_in nodes (length nodes / NODE_WORDS)) (validated_forward nodes outputs valid));
        storage = stored;
      }

-- window 1: the whole call

module _ (nodes outputs keys ready successors order : List ℕ) (valid : topological_fault nodes outputs ≡ Ok tt) (one_key : length keys ≡ 3 * (length nodes / NODE_WORDS)) (long : room (length nodes / NODE_WORDS) (length ready) (length successors) (length order) ≡ true) where
  passed-one : call_fault nodes outputs 1 keys (length ready) (length successors) (length order) ≡ Ok tt
  unfolding call_fault
  passed-one = rw (validated_records nodes outputs valid, eq-eqb (length keys) (3 * (length nodes / NODE_WORDS)) one_key, long)

  pub stored-one : schedule_call nodes outputs 1 keys ready successors order ≡ leaves (Ok (length (stored_cells nodes))) (replicate (length ready) 0) (replicate (length successors) 0) (stored_cells nodes ++ replicate (length order - length (stored_cells nodes)) 0)
  unfolding schedule_call
  stored-one =
      let p = promised nodes outputs 1 keys (length ready) (length successors) (length order) passed-one in
      rw (p.validated valid, p.storage valid refl)
