-- The promises of specs/Promises, of every graph.
-- Assumes nothing.
use Rattle.std.proofs.Common.{ℕ, List, ◌≤◌}
use Rattle.graphs.specs.Graph.{Vertex}
use Rattle.ordering.specs.Schedule.{Key}
use Rattle.ordering.specs.Promises.{OrderPromised}
use Rattle.ordering.proofs.Order.{schedule_in_order, no_circle_count}
use Rattle.ordering.proofs.WindowOne.{window_one}
use Rattle.ordering.proofs.Greatest.{next-best}
use Rattle.ordering.proofs.Complete.{out_circle, circle_out, none_out}

pub every_order : (c : List Vertex) (window : ℕ) (key : ℕ → Key) → 1 ≤ window → OrderPromised c window key
every_order c window key h = record {
  in_order = schedule_in_order c window key;
  picks = next-best c window key;
  circle_left_out = circle_out c window key;
  left_out_circle = out_circle c window key h;
  lists_all = none_out c window key;
  count = no_circle_count c window key h;
  storage = λ forward one. rw one (window_one c key forward);
}
