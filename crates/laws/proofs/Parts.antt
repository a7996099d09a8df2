-- A part of a slice that reaches its end, the slice after the part was changed, and areas of zeros.
-- Assumes nothing.
use Prim.Native.Nat.{ℕ, ◌-◌, ◌≤◌, ◌<◌}
use mathlib.Core.Path.{◌≡◌, sym, ap, ◌∙◌}
use mathlib.Core.List.{List, ◌++◌, append-nil}
use lib.ListN.{length, get_or, drop, take, replicate}
use lib.Seq.{get_or-take, length-take-le, drop_at, drop-length}
use borrow.Rule.Slice.PartMut.{put_mid, take_put, Post-is}
use Rattle.laws.proofs.Filling.{zero_at}

-- the slice after the part was changed: the part itself, and the words before it
module _ (m : ℕ) (l part : List ℕ) (size : m ≤ length l) where
  pub put_rest : drop m (put_mid m (length l - m) l part) ≡ part
  put_rest =
      drop_at (take m l) _ m (length-take-le m l size) ∙ ap (λ (r : List ℕ). part ++ r) (Post-is m (length l) l size ∙ drop-length l) ∙ append-nil part

  pub put_words : (i : ℕ) → i < m → get_or (put_mid m (length l - m) l part) i 0 ≡ get_or l i 0
  put_words i h =
      sym (get_or-take m (put_mid m (length l - m) l part) i 0 h) ∙ ap (λ (r : List ℕ). get_or r i 0) (take_put m (length l - m) l part size) ∙ get_or-take m l i 0 h

-- zeros

pub cleared_at : (l : List ℕ) (n k : ℕ) → l ≡ replicate n 0 → get_or l k 0 ≡ 0
cleared_at l n k e = ap (λ (z : List ℕ). get_or z k 0) e ∙ zero_at n k
