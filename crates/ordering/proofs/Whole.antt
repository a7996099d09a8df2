-- The pieces put together: the cells counted, and the order in its area.
-- Assumes nothing.
use Prim.Native.Nat.{ℕ, ◌-◌}
use mathlib.Core.Path.{◌≡◌, sym, ap, ap₂, ◌∙◌}
use mathlib.Core.List.{List, [], ◌++◌}
use lib.ListN.{length, drop, replicate, length-replicate, take-append-drop}
use Rattle.std.specs.List.{filter, range_with_len}
use Rattle.std.proofs.lemmas.List.{drop-replicate}
use Rattle.graphs.specs.Graph.{Vertex, is_cell, cells_of}
use Rattle.ordering.specs.Schedule.{key_at, schedule_of}
use Rattle.ordering.proofs.Edges.{kept_numbers}
use Rattle.ordering.specs.Areas.{Running, Startable, Scheduled, Filled, Listed}

-- the cells, as they are counted
pub counted : (c : List Vertex) (n : ℕ) → n ≡ length c → length (filter (is_cell c) (range_with_len 0 n)) ≡ length (cells_of c)
unfolding cells_of
counted c n e = rw e (ap length (kept_numbers (is_cell c) 0 (length c)))

pub started_is : (src : ℕ → ℕ) (c : List Vertex) (count : ℕ) → count ≡ length c → (area next : List ℕ) → Running src c [] area next → Startable count area next
started_is src c count e area next run = record { src = src; circuit = c; size = sym e; running = run }

pub filled_is : (src : ℕ → ℕ) (c : List Vertex) (count : ℕ) → count ≡ length c → (area next keys : List ℕ) (window : ℕ) (start order : List ℕ) (r : ℕ) → Running src c [] area next → Scheduled count area next keys window order r → drop r order ≡ drop r start → Filled (schedule_of c window (key_at keys)) start order r
filled_is src c count e area next keys window start order r run s d = let t = s src c run (sym e) in record { filled = t.0; kept = d; number = t.1 }

pub listed-is : (cells start order : List ℕ) (r k : ℕ) → Filled cells start order r → start ≡ replicate k 0 → length order ≡ length start → Listed cells order r
listed-is cells start order r k f z e =
    let m : length order ≡ k = e ∙ ap length z ∙ length-replicate k 0 in
    record {
      listed = sym (take-append-drop r order) ∙ ap₂ ◌++◌ f.filled (f.kept ∙ ap (drop r) z ∙ drop-replicate {X = ℕ} r k 0 ∙ ap (λ (j : ℕ). replicate (j - r) 0) (sym m));
      number = f.number;
    }
