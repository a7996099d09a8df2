-- What has been read, and more of it: every name keeps its wire and every wire its value, however names are found and wires have values.
-- Assumes nothing.
use Rattle.std.specs.Prelude.{Option, Some}
use Prim.Native.Nat.{ℕ, ◌+◌, ◌≤◌, ◌<◌}
use mathlib.Core.Path.{◌≡◌, refl, sym, ap₂, ◌∙◌}
use mathlib.Core.List.{List, [], ◌∷◌, map}
use native.Mathlib.Omega.{arith}
use lib.ListN.{length}
use Rattle.laws.specs.Stretches.{All}
use Rattle.circuit.specs.declared.records.BoolNode.{BoolNode}
use Rattle.names.specs.Names.{Entry}
use Rattle.reading.specs.Reading.{Held}
use Rattle.reading.proofs.Sound.{Wired}

module _ {N : Type 0} (found : N → List Entry → Option ℕ) (wire_value : List BoolNode → ℕ → ℕ) where
  -- a name that has a wire
  abbrev pub Known : Held → N → Type 0
  Known h n = (x : ℕ) × (found n h.names ≡ Some x)

  -- every name keeps its wire, and every wire its value
  pub record Grows (h h' : Held) : Type 0 where
    pub names : (n : N) (x : ℕ) → found n h.names ≡ Some x → found n h'.names ≡ Some x
    pub wires : (x : ℕ) → x < length h.nodes + 2 → wire_value h'.nodes x ≡ wire_value h.nodes x
    pub more : length h.nodes ≤ length h'.nodes

  pub grows_none : (h : Held) → Grows h h
  grows_none h = record { names = λ n x q. q; wires = λ x k. refl; more = omega arith }

  pub grows_on : (h h' h'' : Held) → Grows h h' → Grows h' h'' → Grows h h''
  grows_on h h' h'' f g = record {
    names = λ n x q. g.names n x (f.names n x q);
    wires = λ x k. g.wires x (omega (arith, f.more)) ∙ f.wires x k;
    more = omega (arith, f.more, g.more);
  }

  module _ (h h' : Held) (g : Grows h h') where
    pub known_on : (n : N) → Known h n → Known h' n
    known_on n k = (k.0, g.names n k.0 k.1)

    pub all_known_on : (ns : List N) → All (Known h) ns → All (Known h') ns
    all_known_on [] k = tt
    all_known_on (n ∷ ns) k = (known_on n k.0, all_known_on ns k.1)

    -- the value of a name is its wire's, and its wire is a constant or a node that is there
    module _ (value : Held → N → ℕ) (value_at : (h : Held) (n : N) (x : ℕ) → found n h.names ≡ Some x → value h n ≡ wire_value h.nodes x)
        (below : (h : Held) (n : N) (x : ℕ) → Wired (length h.nodes) h.names → found n h.names ≡ Some x → x < length h.nodes + 2) (wd : Wired (length h.nodes) h.names) where
      pub value_kept : (n : N) → Known h n → value h' n ≡ value h n
      value_kept n k =
          value_at h' n k.0 (g.names n k.0 k.1) ∙ g.wires k.0 (below h n k.0 wd k.1) ∙ sym (value_at h n k.0 k.1)

      pub values_kept : (ns : List N) → All (Known h) ns → map (value h') ns ≡ map (value h) ns
      values_kept [] k = refl
      values_kept (n ∷ ns) k = ap₂ (λ (v : ℕ) (vs : List ℕ). v ∷ vs) (value_kept n k.0) (values_kept ns k.1)
