-- What is read into a room, part after part.
-- Assumes nothing.
use Rattle.std.specs.Prelude.{Option}
use Prim.Native.Nat.{ℕ, ◌+◌, ◌-◌, ◌≤◌}
use mathlib.Core.Path.{◌≡◌, sym, ap, ◌∙◌}
use mathlib.Core.List.{List, ◌++◌}
use lib.ListN.{length, take}
use lib.Seq.{length-take-le}
use borrow.Rule.Slice.PartMut.{put_mid, post_of}
use Rattle.std.specs.Io.KnownBytes.{Consumes}
use Rattle.std.proofs.KnownBytes.{Consumes-trans}
use Rattle.std.proofs.lemmas.List.{take-append-le}
use Rattle.std.proofs.Math.Seq.{take-append-add}

module _ (d : ℕ) (room part : List ℕ) (h : d ≤ length room) where
  filled_to : (n : ℕ) → n ≤ length part → take (d + n) (put_mid d (length room - d) room part) ≡ take d room ++ take n part
  filled_to n k =
      let e : d + n ≡ length (take d room) + n = ap (λ (i : ℕ). i + n) (sym (length-take-le d room h)) in
      ap (λ (i : ℕ). take i (take d room ++ (part ++ post_of d (length room - d) room))) e
      ∙ take-append-add (take d room) (part ++ post_of d (length room - d) room) n ∙ ap (λ (l : List ℕ). take d room ++ l) (take-append-le n part (post_of d (length room - d) room) k)

  module _ (a b c : Option (List ℕ)) (p : Consumes a b (take d room)) where
    pub read_more : (n : ℕ) → n ≤ length part → Consumes b c (take n part) → Consumes a c (take (d + n) (put_mid d (length room - d) room part))
    read_more n k q = rw (filled_to n k) (Consumes-trans a b c (take d room) (take n part) p q)
