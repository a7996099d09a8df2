-- The order in which the cells are taken, over the graph of a circuit.
-- Assumes nothing.
use Rattle.std.specs.Prelude.{ℕ, zero, suc, ◌+◌, ◌*◌, Bool, cond, ◌&&◌, ◌||◌, List, [], ◌∷◌, ◌++◌, ltb, eqb, length, get_or, take}
use Rattle.ordering.specs.declared.widths.TheConstants.{KEY_WORDS}
use Rattle.std.proofs.Math.Option.{Option, none, some}
use Rattle.graphs.specs.Graph.{Vertex, ready_cells}

-- "One key, three unsigned 32-bit numbers, per node"
pub record Key : Type 0 where
  pub first : ℕ
  pub second : ℕ
  pub third : ℕ

unfoldable pub key_at : List ℕ → ℕ → Key
key_at keys k = record { first = get_or keys (KEY_WORDS * k) 0; second = get_or keys (KEY_WORDS * k + 1) 0; third = get_or keys (KEY_WORDS * k + 2) 0 }

-- "the greatest key, compared number by number": whether the first of two keys is greater
unfoldable pub above : Key → Key → Bool
above a b =
    ltb b.first a.first || (eqb b.first a.first && (ltb b.second a.second || (eqb b.second a.second && ltb b.third a.third)))

-- "the greatest key ..; on equal keys the smallest number": of b and the numbers after it, in ascending order
unfoldable pub best : (ℕ → Key) → ℕ → List ℕ → ℕ
unfolding above
best key b [] = b
best key b (k ∷ ks) = best key (cond (above (key k) (key b)) k b) ks

unfoldable pub pick : (ℕ → Key) → List ℕ → Option ℕ
unfolding best
pick key [] = none
pick key (k ∷ ks) = some (best key k ks)

-- "Each step takes, among the min(window, ready) smallest ready node numbers, the greatest key"
unfoldable pub next : List Vertex → ℕ → (ℕ → Key) → List ℕ → Option ℕ
unfolding pick ready_cells
next c window key taken = pick key (take window (ready_cells c taken))

abbrev pub onward : Option ℕ → List ℕ → (ℕ → List ℕ) → List ℕ
onward none taken f = taken
onward (some p) taken f = f p

-- step after step, until none is ready: no circuit takes more steps than it has nodes
unfoldable pub schedule_from : List Vertex → ℕ → (ℕ → Key) → ℕ → List ℕ → List ℕ
unfolding next
schedule_from c window key zero taken = taken
schedule_from c window key (suc fuel) taken =
    onward (next c window key taken) taken (λ p. schedule_from c window key fuel (taken ++ p ∷ []))

unfoldable pub schedule_of : List Vertex → ℕ → (ℕ → Key) → List ℕ
unfolding schedule_from
schedule_of c window key = schedule_from c window key (length c) []
