-- A set and its summaries stand in their first words alone: two for each word of the set.
-- Assumes nothing.
use Prim.Native.Nat.{ℕ, ◌+◌, ◌*◌, ◌/◌, ◌%◌, ◌<◌}
use mathlib.Core.Path.{◌≡◌, sym, ap, ◌∙◌}
use mathlib.Core.Bool.{not}
use mathlib.Core.List.{List}
use native.Mathlib.Omega.{arith}
use lib.Dec.{eqb}
use lib.ListN.{get_or, drop}
use lib.Seq.{get_or-drop}
use Rattle.laws.specs.Digits.{is_set}
use Rattle.readyset.specs.Sets.{member, Levels, single, level}

abbrev pub Same : ℕ → List ℕ → List ℕ → Type 0
Same m area after = (i : ℕ) → i < m → get_or after i 0 ≡ get_or area i 0

rest_front : (area after : List ℕ) (m s : ℕ) → Same (m + s) area after → Same s (drop m area) (drop m after)
rest_front area after m s same i h = get_or-drop m after i 0 ∙ same (m + i) (omega arith) ∙ sym (get_or-drop m area i 0)

pub levels_front : (area after : List ℕ) (n : ℕ) → Same (2 * (n / 64 + 1)) area after → Levels area n → Levels after n
unfolding member
levels_front area after n same (single h) = single h
levels_front area after n same (level big s r) =
    level big
    (λ w h. ap (λ (x : ℕ). is_set x (w % 64)) (rest (w / 64) (omega arith)) ∙ s w h ∙ sym (ap (λ (x : ℕ). not (eqb x 0)) (same w (omega arith))))
    (levels_front (drop (n / 64 + 1) area) (drop (n / 64 + 1) after) (n / 64 + 1) (λ i h. rest i (omega arith)) r)
  where
    rest : Same (n / 64 + 1) (drop (n / 64 + 1) area) (drop (n / 64 + 1) after)
    rest = rest_front area after (n / 64 + 1) (n / 64 + 1) (λ i h. same i (omega arith))
