-- The graph of definitions whose inputs are looked up, and what is placed of it.
-- Assumes nothing.
use Prim.Native.Nat.{ℕ, zero, suc, ◌+◌, ◌≤◌, ◌<◌}
use mathlib.Core.Path.{◌≡◌, sym, ap, ◌∙◌}
use mathlib.Core.Logic.{◌≢◌}
use mathlib.Core.Bool.{Bool, true}
use mathlib.Core.List.{List, [], ◌∷◌}
use native.Mathlib.Omega.{arith}
use native.Mathlib.Numerals.{unary_clauses}
use lib.ListN.{length, drop, take}
use lib.Seq.{drop-cons}
use Rattle.std.specs.Prelude.{Err, Ok, map}
use Rattle.std.specs.List.{range_with_len}
use Rattle.std.proofs.Common.{drop_of_length-le}
use Rattle.circuit.specs.declared.refusals.Refusal.TheVariants.{Circle}
use Rattle.circuit.specs.Refusals.{refuse_if}
use Rattle.graphs.specs.Graph.{Vertex}
use Rattle.ordering.specs.Schedule.{key_at, schedule_of}
use Rattle.ordering.specs.Areas.{Filled}
use Rattle.ordering.specs.Given.{cell_by, given}
use Rattle.placing.specs.Definitions.{Definition, definition_at, vertex_in, definition_graph}
use Rattle.placing.specs.Placing.{placing}
use Rattle.placing.specs.Resolved.{source_in, Resolves, PlacedIn}
use Rattle.placing.proofs.Windows.{by-schedule}
use Rattle.placing.proofs.Filed.{leaves-none, leaves-one}

-- a list by its numbers
by-number : (ds : List Definition) (f : Definition → Vertex) (g : ℕ → Vertex) (i n : ℕ) → i + n ≡ length ds → ((k : ℕ) → i ≤ k → k < i + n → f (definition_at ds k) ≡ g k) → map f (drop i ds) ≡ map g (range_with_len i n)
by-number ds f g i zero e h = ap (map f) (drop_of_length-le ds (omega arith))
by-number ds f g i (suc n) e h =
    let l : i < length ds = omega arith in
    simp unary_clauses (rw (drop-cons ds i (record { output = []; inputs = []; table = 0 }) l) (λ j. h i (omega arith) (omega arith) j ∷ by-number ds f g (suc i) n (omega arith) (λ k a b. h k (omega arith) (omega arith)) j))

module _ (words : List ℕ) (ds : List Definition) (resolves : Resolves words ds) where
  graph-is : definition_graph ds ≡ given (source_in words) (length ds)
  unfolding definition_graph given vertex_in
  graph-is = by-number ds (vertex_in ds) (cell_by (source_in words)) 0 (length ds) (omega arith) (λ k a b. ap (λ (rs : List ℕ). record { cell = true; reads = rs }) (sym (resolves k (omega arith))))

  pub placing-is : placing ds ≡ schedule_of (given (source_in words) (length ds)) 1 (key_at [])
  placing-is = by-schedule ds (key_at []) ∙ ap (λ (c : List Vertex). schedule_of c 1 (key_at [])) graph-is

module _ (words : List ℕ) (n : ℕ) (start order : List ℕ) (r : ℕ) (filled : Filled (schedule_of (given (source_in words) n) 1 (key_at [])) start order r) where
  pub placed-all : r ≡ n → PlacedIn words n order (Ok tt)
  placed-all e ds size resolves =
      let p : placing ds ≡ schedule_of (given (source_in words) n) 1 (key_at []) = rw size at (placing-is words ds resolves) in
      let q : length (placing ds) ≡ length ds = ap length p ∙ sym filled.number ∙ e ∙ sym size in
      (ap (λ (t : Bool). refuse_if t Circle) (sym (leaves-none ds q)), λ z. ap (λ (k : ℕ). take k order) (sym e) ∙ filled.filled ∙ sym p)

  pub placed-circle : r ≢ n → PlacedIn words n order (Err Circle)
  placed-circle differs ds size resolves =
      let p : placing ds ≡ schedule_of (given (source_in words) n) 1 (key_at []) = rw size at (placing-is words ds resolves) in
      (ap (λ (t : Bool). refuse_if t Circle) (sym (leaves-one ds (λ e. differs (filled.number ∙ ap length (sym p) ∙ e ∙ size)))), λ z. let y : ◌≡◌ {A = ℕ} 0 1 = cc in absurd (omega arith))
