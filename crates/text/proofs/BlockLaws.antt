-- A byte looked for in blocks: blocks that are passed.
-- Assumes nothing.
use Prim.Native.Nat.{ℕ, ◌+◌, ◌-◌, ◌≤◌}
use mathlib.Core.Path.{◌≡◌, refl, ap}
use mathlib.Core.Bool.{Bool, false, not, ◌||◌}
use mathlib.Core.List.{List, [], ◌∷◌}
use native.Mathlib.Omega.{arith}
use lib.ListN.{length}
use Rattle.std.specs.List.{list_any}
use Rattle.laws.specs.Lists.{some}
use Rattle.laws.specs.Stretches.{stretch, run, is_not}
use Rattle.laws.proofs.Lists.{none_at}
use Rattle.laws.proofs.Stretches.{length-stretch}
use Rattle.text.specs.declared.bytes.TheConstants.{BLOCK}
use Rattle.text.specs.Bytes.{is_byte}
use Rattle.text.proofs.RunLaws.{run_full, pass_near}

-- `contains`, as the definitions say it
pub some_any : (p : ℕ → Bool) (l : List ℕ) → list_any p l ≡ some p l
some_any p [] = refl
some_any p (x ∷ xs) = ap (λ (t : Bool). p x || t) (some_any p xs)

-- a block without it is passed
pub block_passed : (t : List ℕ) (x i end : ℕ) → i + BLOCK ≤ end → end ≤ length t → some (is_byte x) (stretch t i BLOCK) ≡ false
    → i + BLOCK + run (is_not x) (stretch t (i + BLOCK) (end - (i + BLOCK))) ≡ i + run (is_not x) (stretch t i (end - i))
block_passed t x i end h k e =
    let s : length (stretch t i BLOCK) ≡ BLOCK = length-stretch t i BLOCK (omega arith) in
    let f : length (stretch t i BLOCK) ≡ run (is_not x) (stretch t i BLOCK) = run_full (is_not x) (stretch t i BLOCK) (λ j l. ap not (none_at (is_byte x) (stretch t i BLOCK) 0 j l e)) in
    let w : i + BLOCK - i ≡ BLOCK = omega arith in
    pass_near (is_not x) t i (i + BLOCK) end (omega arith) h (i + BLOCK) (rw w (omega (arith, s, f))) (omega arith)
