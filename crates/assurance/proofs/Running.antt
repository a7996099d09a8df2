-- The composed call, from what the calls under it answer and leave.
-- Assumes nothing.
use Rattle.std.specs.Prelude.{Err, Ok}
use Prim.Native.Nat.{ℕ, ◌-◌, ◌/◌, ◌≤◌}
use mathlib.Core.Path.{◌≡◌, refl, sym, ap, ◌∙◌}
use mathlib.Core.List.{List}
use native.Mathlib.Omega.{arith}
use lib.ListN.{length, take, replicate, length-append}
use lib.Seq.{take_at}
use Rattle.circuit.specs.declared.records.TheConstants.{NODE_WORDS}
use Rattle.circuit.specs.declared.refusals.Refusal.{Refusal}
use Rattle.circuit.specs.Refusals.{Try, Checked}
use Rattle.circuit.specs.Circuits.{filled}
use Rattle.circuit.proofs.Checks.{no_fault}
use Rattle.circuit.proofs.Tries.{no_yes, yes_same}
use Rattle.graphs.specs.Graph.{cells_of}
use Rattle.schedule.specs.Call.{Left, leaves, left_by, graph_in, call_fault, circle_fault, schedule_fault, schedule_call}
use Rattle.schedule.proofs.Theorems.{promised}
use Rattle.values.specs.Calls.{CallResult, after_call, call_result, evaluate_fault, evaluate_call}
use Rattle.runs.specs.Calls.{run_fault, run_call}
use Rattle.assurance.specs.declared.circuits.Both.{Both}
use Rattle.assurance.specs.Assurance.{Question, Areas, asked_fault}
use Rattle.assurance.specs.Composed.{RanThenEvaluated, order_asked, Ran, RanOrRefused, CircuitRun, CircuitAssured}
use Rattle.assurance.proofs.Carrying.{carried}

-- ---- the value store after a call

store_of : (e : Try ℕ) (s o : List ℕ) → (call_result e s o).store ≡ s
store_of (Ok n) s o = refl
store_of (Err e) s o = refl

left_store : (f : Checked) (count : ℕ) (outputs : List ℕ) (store answers : ℕ) → (after_call f count outputs store answers).store ≡ replicate store 0
unfolding after_call
left_store (Ok u) count outputs store answers = refl
left_store (Err e) count outputs store answers = refl

run_store : (nodes outputs order assignment old answers : List ℕ) (e : Try ℕ) (s o : List ℕ) → call_result e s o ≡ run_call nodes outputs order assignment old answers → s ≡ replicate (length old) 0
unfolding run_call
run_store nodes outputs order assignment old answers e s o call =
    sym (store_of e s o) ∙ ap (λ (l : CallResult). l.store) call
    ∙ left_store (run_fault nodes outputs order assignment (length old) (length answers)) _ _ (length old) (length answers)

evaluate_store : (nodes outputs assignment old answers : List ℕ) (e : Try ℕ) (s o : List ℕ) → call_result e s o ≡ evaluate_call nodes outputs assignment old answers → s ≡ replicate (length old) 0
unfolding evaluate_call
evaluate_store nodes outputs assignment old answers e s o call =
    sym (store_of e s o) ∙ ap (λ (l : CallResult). l.store) call
    ∙ left_store (evaluate_fault nodes outputs assignment (length old) (length answers)) _ _ (length old) (length answers)

-- `evaluate` looks at the store's length alone
evaluate_lengths : (nodes outputs assignment old other answers : List ℕ) → length old ≡ length other → evaluate_call nodes outputs assignment old answers ≡ evaluate_call nodes outputs assignment other answers
unfolding evaluate_call
evaluate_lengths nodes outputs assignment old other answers e = rw e

-- ---- the run, then `evaluate`

pub ran_then_evaluated : (nodes outputs order assignment old answers evaluated : List ℕ) (r : Both) (mid v a w : List ℕ) → length mid ≡ length old
    → call_result r.ran mid a ≡ run_call nodes outputs order assignment old answers
    → call_result r.evaluated v w ≡ evaluate_call nodes outputs assignment mid evaluated
    → RanThenEvaluated nodes outputs order assignment old answers evaluated r v a w
ran_then_evaluated nodes outputs order assignment old answers evaluated r mid v a w l run evaluate =
    record {
      run_is = rw left at run;
      evaluate_is = evaluate ∙ evaluate_lengths nodes outputs assignment mid old evaluated l;
    }
  where
    left : mid ≡ v
    left = run_store nodes outputs order assignment old answers r.ran mid a run
        ∙ ap (λ (k : ℕ). replicate k 0) (sym l) ∙ sym (evaluate_store nodes outputs assignment mid evaluated r.evaluated v w evaluate)

pub ran_cleared : (nodes outputs order assignment old answers evaluated : List ℕ) (r : Both) (v a w : List ℕ) → RanThenEvaluated nodes outputs order assignment old answers evaluated r v a w → v ≡ replicate (length old) 0
ran_cleared nodes outputs order assignment old answers evaluated r v a w h =
    run_store nodes outputs order assignment old answers r.ran v a h.run_is

-- ---- the schedule

module _ (nodes outputs : List ℕ) (q : Question) (before : Areas) (x y z : List ℕ) where
  -- it refuses
  module _ (e : Refusal) (call : leaves (Err e) x y z ≡ schedule_call nodes outputs q.window q.keys before.ready before.successors before.order) where
    pub refused_run : (r : Both) (v a w : List ℕ) → r.ran ≡ Err e → r.evaluated ≡ Err e
        → v ≡ replicate (length before.values) 0 → a ≡ replicate (length before.answers) 0 → w ≡ replicate (length before.evaluated) 0
        → CircuitRun nodes outputs q before r (record { ready = x; successors = y; order = z; values = v; answers = a; evaluated = w })
    unfolding schedule_call
    refused_run r v a w p s hv ha hw = go (asked_fault nodes outputs q before) call
      where
        go : (f : Checked) → leaves (Err e) x y z ≡ left_by f (length (cells_of (graph_in nodes (length nodes / NODE_WORDS)))) (order_asked nodes q) (length before.ready) (length before.successors) (length before.order)
            → RanOrRefused f nodes outputs q before r (record { ready = x; successors = y; order = z; values = v; answers = a; evaluated = w })
        go (Ok u) l = absurd (no_yes (ap (λ (t : Left). t.answer) l))
        go (Err g) l =
            let same : ◌≡◌ {A = Try ℕ} (Err e) (Err g) = ap (λ (t : Left). t.answer) l in
            record {
              ran_is = p ∙ same;
              evaluated_is = s ∙ same;
              areas_are = rw (ap (λ (t : Left). t.ready) l, ap (λ (t : Left). t.successors) l, ap (λ (t : Left). t.order) l, hv, ha, hw);
            }

  -- it accepts
  module _ (cells : ℕ) (call : leaves (Ok cells) x y z ≡ schedule_call nodes outputs q.window q.keys before.ready before.successors before.order) where
    record Scheduled : Type 0 where
      accepted : asked_fault nodes outputs q before ≡ Ok tt
      same : leaves (Ok cells) x y z ≡ left_by (Ok tt) (length (cells_of (graph_in nodes (length nodes / NODE_WORDS)))) (order_asked nodes q) (length before.ready) (length before.successors) (length before.order)

    scheduled : Scheduled
    unfolding schedule_call
    scheduled = go (asked_fault nodes outputs q before) refl call
      where
        go : (f : Checked) → asked_fault nodes outputs q before ≡ f
            → leaves (Ok cells) x y z ≡ left_by f (length (cells_of (graph_in nodes (length nodes / NODE_WORDS)))) (order_asked nodes q) (length before.ready) (length before.successors) (length before.order)
            → Scheduled
        go (Ok u) e l = record { accepted = e; same = l }
        go (Err g) e l = absurd (no_yes (sym (ap (λ (t : Left). t.answer) l)))

    passed : call_fault nodes outputs q.window q.keys (length before.ready) (length before.successors) (length before.order) ≡ Ok tt
    unfolding schedule_fault
    passed = (no_fault _ (circle_fault nodes (length nodes / NODE_WORDS) q.window q.keys) scheduled.accepted).0

    order_area : z ≡ filled (order_asked nodes q) (length before.order)
    order_area = ap (λ (t : Left). t.order) scheduled.same

    count_is : length (order_asked nodes q) ≡ cells
    count_is =
        (promised nodes outputs q.window q.keys (length before.ready) (length before.successors) (length before.order) passed).number scheduled.accepted
        ∙ sym (yes_same (ap (λ (t : Left). t.answer) scheduled.same))

    pub cells_inside : cells ≤ length z
    cells_inside = omega (arith, count_is, ap length order_area ∙ length-append (order_asked nodes q) (replicate (length before.order - length (order_asked nodes q)) 0))

    order_front : take cells z ≡ order_asked nodes q
    order_front = ap (take cells) order_area ∙ take_at (order_asked nodes q) _ cells count_is

    pub accepted_both : (r : Both) (v a w : List ℕ)
        → RanThenEvaluated nodes outputs (take cells z) q.assignment before.values before.answers before.evaluated r v a w
        → CircuitRun nodes outputs q before r (record { ready = x; successors = y; order = z; values = v; answers = a; evaluated = w })
    accepted_both r v a w h = rw scheduled.accepted ran
      where
        ran : Ran nodes outputs q before r (record { ready = x; successors = y; order = z; values = v; answers = a; evaluated = w })
        ran = record {
          ready_is = ap (λ (t : Left). t.ready) scheduled.same;
          successors_are = ap (λ (t : Left). t.successors) scheduled.same;
          order_is = order_area;
          run_is = rw order_front at h.run_is;
          evaluate_is = h.evaluate_is;
        }

    pub accepted_run : (r : Both) (mid v a w : List ℕ) → length mid ≡ length before.values
        → call_result r.ran mid a ≡ run_call nodes outputs (take cells z) q.assignment before.values before.answers
        → call_result r.evaluated v w ≡ evaluate_call nodes outputs q.assignment mid before.evaluated
        → CircuitRun nodes outputs q before r (record { ready = x; successors = y; order = z; values = v; answers = a; evaluated = w })
    accepted_run r mid v a w l run evaluate =
        accepted_both r v a w (ran_then_evaluated nodes outputs (take cells z) q.assignment before.values before.answers before.evaluated r mid v a w l run evaluate)

-- ---- with the claims

pub circuit_assured : (nodes outputs : List ℕ) (q : Question) (before : Areas) (r : Both) (after : Areas) → CircuitRun nodes outputs q before r after → CircuitAssured nodes outputs q before r after
circuit_assured nodes outputs q before r after run = record {
  run = run;
  carried = λ c p o rules lent. carried c q before rules lent r after (rw (p, o) at run);
}
