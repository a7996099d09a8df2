-- `evaluate`: its first refusal by what is looked at in turn, and its outputs from the store.
-- Assumes nothing.
use Rattle.std.specs.Prelude.{Err, Ok}
use mathlib.Core.Path.{◌≡◌, sym, ◌∙◌}
use mathlib.Core.List.{List, [], ◌++◌}
use mathlib.Core.Bool.{true, false, not}
use Prim.Native.Nat.{ℕ, ◌/◌, ◌<◌, ◌≤◌}
use native.Mathlib.Omega.{arith}
use lib.Dec.{ltb}
use borrow.Author.Tests.{not-false}
use lib.ListN.{length, get_or-append}
use Rattle.laws.specs.Lists.{some}
use Rattle.circuit.specs.declared.records.TheConstants.{NODE_WORDS, OUTPUT_WORDS}
use Rattle.circuit.specs.declared.records.BoolWire.{BoolWire}
use Rattle.circuit.specs.declared.records.BoolNode.{BoolNode}
use Rattle.circuit.specs.declared.refusals.Refusal.{Refusal}
use Rattle.circuit.specs.declared.refusals.Refusal.TheVariants.{Broken, NoRoom, WrongValues}
use Rattle.circuit.specs.Refusals.{Try, refuse_if, first_fault}
use Rattle.circuit.specs.Check.{some_not_below, check_nodes, check_circuit, whole, nodes_in, wires_in, topological_fault}
use Rattle.circuit.proofs.Checks.{no_fault, not_refused, topological_whole}
use Rattle.circuit.proofs.Tries.{check_yes, yes_same}
use Rattle.values.specs.Values.{entry_of, values_from, outputs_from, evaluated}
use Rattle.values.specs.Assignments.{input_count}
use Rattle.values.specs.Inner.{inputs_or_fault, Workable, outputs_or_fault}
use Rattle.values.specs.Calls.{assignment_fault, evaluate_fault}
use Rattle.values.proofs.Inputs.{right_length, wrong_length, assigned}
use Rattle.values.proofs.Calls.{check_no, no_answers, has_room, Room, room_of}
use Rattle.values.proofs.NodeValues.{length-values}
use Rattle.values.proofs.OutputValues.{length-outputs}
use Rattle.values.proofs.Storage.{wires_below}

-- ---- what an accepted call has

module _ (nodes outputs assignment : List ℕ) (store answers : ℕ) where
  pub record Evaluates : Type 0 where
    pub whole_records : whole nodes outputs ≡ true
    pub checks : topological_fault nodes outputs ≡ Ok tt
    pub inputs : length assignment ≡ input_count (nodes_in nodes)
    pub bits : some (ltb 1) assignment ≡ false
    pub room : Room nodes outputs store answers

  pub evaluates_of : evaluate_fault nodes outputs assignment store answers ≡ Ok tt → Evaluates
  unfolding evaluate_fault assignment_fault topological_fault
  evaluates_of h =
      let p = no_fault (topological_fault nodes outputs) _ h in
      let q = no_fault (assignment_fault 1 nodes assignment) _ p.1 in
      let a = assigned 1 (nodes_in nodes) assignment (not_refused _ WrongValues q.0) in
      let w = no_fault (refuse_if (not (whole nodes outputs)) Broken) (check_circuit (nodes_in nodes) (wires_in outputs)) p.0 in
      record {
        whole_records = not-false (whole nodes outputs) (not_refused _ Broken w.0);
        checks = p.0;
        inputs = a.0;
        bits = a.1;
        room = room_of nodes outputs store answers q.1;
      }

-- ---- the answer, where the nodes can be worked out

module _ (nodes outputs assignment : List ℕ) (store answers : ℕ) (w : Workable nodes outputs assignment store) where
  abbrev pub count : ℕ
  count = length nodes / NODE_WORDS

  by_nodes : topological_fault nodes outputs ≡ first_fault (check_nodes count 0 (nodes_in nodes)) (refuse_if (some_not_below count (wires_in outputs)) Broken)
  by_nodes = topological_whole nodes outputs w.whole_records

  pub faulty_node : (r : Refusal) → ◌≡◌ {A = Try ℕ} (Err r) (inputs_or_fault nodes count) → Err r ≡ outputs_or_fault nodes outputs assignment store answers
  unfolding evaluate_fault
  faulty_node r e = rw (by_nodes, check_no (check_nodes count 0 (nodes_in nodes)) (input_count (nodes_in nodes)) r e)

  module _ (n : ℕ) (e : ◌≡◌ {A = Try ℕ} (Ok n) (inputs_or_fault nodes count)) where
    passed : (check_nodes count 0 (nodes_in nodes) ≡ Ok tt) × (n ≡ input_count (nodes_in nodes))
    passed = let y = check_yes (check_nodes count 0 (nodes_in nodes)) (Ok (input_count (nodes_in nodes))) n (sym e) in (y.0, sym (yes_same y.1))

    pub faulty_output : some_not_below count (wires_in outputs) ≡ true → Err Broken ≡ outputs_or_fault nodes outputs assignment store answers
    unfolding evaluate_fault
    faulty_output o = rw (by_nodes, passed.0, o)

    module _ (o : some_not_below count (wires_in outputs) ≡ false) where
      checks : topological_fault nodes outputs ≡ Ok tt
      checks = rw (by_nodes, passed.0, o)

      pub faulty_length : (length assignment ≡ n → ⊥) → Err WrongValues ≡ outputs_or_fault nodes outputs assignment store answers
      unfolding evaluate_fault assignment_fault
      faulty_length l = rw (checks, sym (wrong_length 1 (nodes_in nodes) assignment (λ q. l (q ∙ sym passed.1))))

      module _ (l : length assignment ≡ n) where
        given : assignment_fault 1 nodes assignment ≡ Ok tt
        unfolding assignment_fault
        given = rw (sym (right_length 1 (nodes_in nodes) assignment (l ∙ passed.1)) ∙ w.known)

        pub faulty_room : answers < length outputs / OUTPUT_WORDS → Err NoRoom ≡ outputs_or_fault nodes outputs assignment store answers
        unfolding evaluate_fault
        faulty_room h = rw (checks, given, sym (no_answers nodes outputs store answers w.stored h))

        pub faultless : length outputs / OUTPUT_WORDS ≤ answers → Ok (length outputs / OUTPUT_WORDS) ≡ outputs_or_fault nodes outputs assignment store answers
        unfolding evaluate_fault
        faultless h = rw (checks, given, sym (has_room nodes outputs store answers w.stored h))

-- ---- the outputs

-- what stands in the store after the nodes' values is not read
pub outputs_kept : (ns : List BoolNode) (os : List BoolWire) (assignment rest : List ℕ) → some_not_below (length ns) os ≡ false
    → outputs_from (values_from entry_of assignment 0 [] ns ++ rest) os ≡ evaluated ns os assignment
unfolding evaluated outputs_from
outputs_kept ns os assignment rest h =
    let values = values_from entry_of assignment 0 [] ns in
    wires_below (values ++ rest) values (length ns) (λ i b. get_or-append values rest 0 i (omega (arith, b, length-values entry_of assignment ns))) os h

pub evaluated_count : (ns : List BoolNode) (outputs assignment : List ℕ) → length (evaluated ns (wires_in outputs) assignment) ≡ length outputs / OUTPUT_WORDS
unfolding evaluated
evaluated_count ns outputs assignment = length-outputs (values_from entry_of assignment 0 [] ns) outputs (length outputs / OUTPUT_WORDS)
