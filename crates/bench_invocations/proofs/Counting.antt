-- A walk that counts the arguments.
-- Assumes nothing.
use Rattle.std.specs.Prelude.{Err, Ok}
use Prim.Native.Nat.{ℕ, suc, ◌+◌, ◌<◌}
use mathlib.Core.Path.{◌≡◌}
use mathlib.Core.List.{List, [], ◌∷◌}
use native.Mathlib.Nat.{add-zero}
use native.Mathlib.Omega.{arith}
use lib.ListN.{length}
use borrow.Author.Tests.{lt-ltb}
use Rattle.circuit.specs.declared.refusals.Refusal.TheVariants.{Malformed}
use Rattle.text.specs.declared.words.Word.{Word}
use Rattle.bench_invocations.specs.Invocations.{none_empty}
use Rattle.bench_invocations.specs.Walks.{counted}

module _ (all : List Word) (n : ℕ) where
  pub count_end : all ≡ [] → Ok n ≡ counted all n
  unfolding none_empty
  count_end e = rw (e, add-zero n)

  module _ (w : Word) (rest : List Word) (e : all ≡ w ∷ rest) where
    pub count_empty : w.len ≡ 0 → Err Malformed ≡ counted all n
    unfolding none_empty
    count_empty z = rw (e, z)

    pub count_on : (w.len ≡ 0 → ⊥) → counted rest (n + 1) ≡ counted all n
    unfolding none_empty
    count_on nz =
        let p : 0 < w.len = omega arith in
        let q : n + 1 + length rest ≡ n + suc (length rest) = omega arith in
        rw (e, lt-ltb 0 w.len p, q)
