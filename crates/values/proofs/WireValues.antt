-- The values of wires as nodes are added at the end of a circuit, by any rule of a cell's value: what stands keeps its value, and the new node's wire has its value.
-- Assumes nothing.
use Prim.Native.Nat.{ℕ, zero, suc, ◌+◌, ◌<◌}
use mathlib.Core.Path.{◌≡◌, refl, ap, ◌∙◌}
use mathlib.Core.List.{List, [], ◌∷◌, ◌++◌}
use native.Mathlib.Omega.{arith}
use lib.ListN.{length, get_or}
use Rattle.laws.proofs.Filling.{snoc_last}
use Rattle.circuit.specs.declared.records.BoolNode.{BoolNode}
use Rattle.circuit.specs.Records.{wire_of}
use Rattle.values.specs.Values.{values_from, signal_value}
use Rattle.values.specs.Assignments.{input_count}
use Rattle.values.proofs.NodeValues.{next, values-append, values_snoc, length-values, values_stay}

module _ (rule : List ℕ → BoolNode → ℕ) (a : List ℕ) where
  abbrev pub values : List BoolNode → List ℕ
  values ns = values_from rule a 0 [] ns

  abbrev pub wire_value : List BoolNode → ℕ → ℕ
  wire_value ns x = signal_value (values ns) (wire_of x)

  pub wire_kept : (ns ms : List BoolNode) (x : ℕ) → x < length ns + 2 → wire_value (ns ++ ms) x ≡ wire_value ns x
  wire_kept ns ms zero h = refl
  wire_kept ns ms (suc zero) h = refl
  wire_kept ns ms (suc (suc k)) h =
      ap (λ (l : List ℕ). get_or l k 0) (values-append rule a ns ms 0 []) ∙ values_stay rule a ms (0 + input_count ns) (values ns) k (omega (arith, length-values rule a ns))

  pub wire_new : (ns : List BoolNode) (n : BoolNode) → wire_value (ns ++ n ∷ []) (length ns + 2) ≡ next rule a (input_count ns) (values ns) n
  wire_new ns n =
      let e : length ns + 2 ≡ suc (suc (length (values ns))) = omega (arith, length-values rule a ns) in
      rw e (ap (λ (l : List ℕ). get_or l (length (values ns)) 0) (values_snoc rule a ns n) ∙ snoc_last (values ns) (next rule a (input_count ns) (values ns) n))
