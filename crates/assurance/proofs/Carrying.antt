-- What the composed call answers and leaves of a circuit that keeps the rules: what the statement speaks of.
-- Assumes nothing.
use Prim.Native.Nat.{◌≤◌}
use mathlib.Core.Path.{◌≡◌, ◌∙◌}
use mathlib.Core.Bool.{false}
use lib.ListN.{length, replicate}
use Rattle.graphs.specs.Graph.{cells_of}
use Rattle.circuit.specs.Graph.{graph_of}
use Rattle.circuit.specs.Circuits.{Circuit, filled, KeepsRules}
use Rattle.values.specs.Assignments.{wrong_assignment}
use Rattle.values.specs.Calls.{after_call, evaluate_call}
use Rattle.runs.specs.Calls.{run_call}
use Rattle.assurance.specs.declared.circuits.Both.{Both}
use Rattle.assurance.specs.Assurance.{Question, Areas, node_records, output_records, order_of, outputs_of, Lent, Assured}
use Rattle.assurance.specs.Composed.{Ran, CircuitRun, Carried}
use Rattle.assurance.proofs.Assuring.{output_count, nodes-in, wires-in, order-in, accepted, assured}

module _ (c : Circuit) (q : Question) (before : Areas) (rules : KeepsRules c) (lent : Lent c q before) where
  claims : Assured c q before
  claims = assured c q before rules lent

  run_answers : run_call (node_records c) (output_records c) (order_of c q) q.assignment before.values before.answers
      ≡ record { number = 0; count = length (cells_of (graph_of c.nodes)); store = replicate (length before.values) 0; outputs = filled (outputs_of c q.assignment) (length before.answers) }
  unfolding run_call after_call
  run_answers = rw (claims.run_accepted, nodes-in c rules, wires-in c, claims.outputs)

  evaluate_answers : wrong_assignment 1 c.nodes q.assignment ≡ false → length c.outputs ≤ length before.evaluated
      → evaluate_call (node_records c) (output_records c) q.assignment before.values before.evaluated
      ≡ record { number = 0; count = length c.outputs; store = replicate (length before.values) 0; outputs = filled (outputs_of c q.assignment) (length before.evaluated) }
  unfolding evaluate_call after_call
  evaluate_answers e h = rw (claims.evaluate_accepted e h, nodes-in c rules, wires-in c, output_count c, claims.evaluates e)

  pub carried : (r : Both) (after : Areas) → CircuitRun (node_records c) (output_records c) q before r after → Carried c q before r after
  carried r after run =
      let ran : Ran (node_records c) (output_records c) q before r after = rw (accepted c q before rules lent) at run in
      record {
        assured = claims;
        order_is = rw (order-in c q before rules lent) at ran.order_is;
        run_is = (rw (order-in c q before rules lent) at ran.run_is) ∙ run_answers;
        evaluate_is = λ e h. ran.evaluate_is ∙ evaluate_answers e h;
      }
