-- Laws of the words of a line as a gate: the last of them is the output, those before it are the inputs, and each ends where the line does.
-- Assumes nothing.
use Prim.Native.Nat.{ℕ, ◌+◌, ◌≤◌}
use mathlib.Core.Path.{◌≡◌, refl, sym, ap, ◌∙◌}
use mathlib.Core.Bool.{Bool, true, false}
use mathlib.Core.List.{List, [], ◌∷◌, ◌++◌, append_assoc, append-nil}
use native.Mathlib.Omega.{arith}
use lib.Dec.{leb, ltb}
use lib.ListN.{length, length-append}
use borrow.Author.Tests.{le-leb, lt-leb, leb-false, ltb-true, ltb-false}
use Rattle.std.specs.Prelude.{Option, Some, None, IfSome}
use Rattle.std.specs.List.{fold}
use Rattle.laws.specs.Stretches.{All}
use Rattle.laws.proofs.Stretches.{all_append}
use Rattle.circuit.specs.declared.records.TheConstants.{WIRES}
use Rattle.text.specs.Words.{IsWord}
use Rattle.text.specs.declared.words.Word.{Word}
use Rattle.cover.specs.Cover.{last_of, input_names}
use Rattle.cover.specs.declared.gate.Gate.{Gate}
use Rattle.cover.specs.Gates.{GateWords, words_seen, few_enough, with_input, with_word, GateFits, GateIs}

few_more : (ws : List Word) (w : Word) → with_input (few_enough ws) w ≡ few_enough (ws ++ (w ∷ []))
few_more ws w = go (leb (length ws) WIRES) refl (ltb (length ws) WIRES) refl
  where
    more : length (ws ++ (w ∷ [])) ≡ length ws + 1
    more = length-append ws (w ∷ [])

    go : (s : Bool) → leb (length ws) WIRES ≡ s → (t : Bool) → ltb (length ws) WIRES ≡ t → with_input (few_enough ws) w ≡ few_enough (ws ++ (w ∷ []))
    go false e t f = rw (e, lt-leb (length (ws ++ (w ∷ []))) WIRES (omega (arith, more, leb-false (length ws) WIRES e)))
    go true e true f = rw (e, f, le-leb (length (ws ++ (w ∷ []))) WIRES (omega (arith, more, ltb-true (length ws) WIRES f)))
    go true e false f = rw (e, f, lt-leb (length (ws ++ (w ∷ []))) WIRES (omega (arith, more, ltb-false (length ws) WIRES f)))

gate_folded : (done : List Word) (w : Word) (ws : List Word)
    → fold with_word (record { out = w; inputs = few_enough done }) ws ≡ record { out = last_of w ws; inputs = few_enough (done ++ input_names w ws) }
unfolding last_of input_names
gate_folded done w [] = ap (λ (l : List Word). record { out = w; inputs = few_enough l }) (sym (append-nil done))
gate_folded done w (x ∷ xs) =
    ap (λ (i : Option (List Word)). fold with_word (record { out = x; inputs = i }) xs) (few_more done w)
    ∙ gate_folded (done ++ (w ∷ [])) x xs
    ∙ ap (λ (l : List Word). record { out = last_of x xs; inputs = few_enough l }) (append_assoc done (w ∷ []) (input_names x xs))

pub fold_snoc : (g : GateWords) (ws : List Word) (w : Word) → fold with_word g (ws ++ w ∷ []) ≡ with_word (fold with_word g ws) w
fold_snoc g [] w = refl
fold_snoc g (x ∷ xs) w = fold_snoc (with_word g x) xs w

module _ (t : List ℕ) (from end : ℕ) where
  abbrev Inside : Word → Type 0
  Inside w = w.start + w.len ≤ end

  input_fits : (i : Option (List Word)) (w : Word) → IfSome i (All Inside) → Inside w → IfSome (with_input i w) (All Inside)
  input_fits None w h k = tt
  input_fits (Some ws) w h k = go (ltb (length ws) WIRES) refl
    where
      go : (b : Bool) → ltb (length ws) WIRES ≡ b → IfSome (with_input (Some ws) w) (All Inside)
      go true e = rw e (all_append Inside ws (w ∷ []) h (k, tt))
      go false e = rw e tt

  fold_fits : (g : GateWords) (ws : List Word) → GateFits end g → All (IsWord t from end) ws → GateFits end (fold with_word g ws)
  fold_fits g [] h k = h
  fold_fits g (w ∷ ws) h k = fold_fits (with_word g w) ws (record { out = k.0.inside; inputs = input_fits g.inputs g.out h.inputs h.out }) k.1

  pub gate_is : (ws : List Word) (w : Word) (rest : List Word) (g : Gate) → ws ≡ w ∷ rest → All (IsWord t from end) ws
      → words_seen g ≡ fold with_word (record { out = w; inputs = Some [] }) rest → GateIs end (Some g) ws
  gate_is ws w rest g e k q =
      let all : All (IsWord t from end) (w ∷ rest) = rw e at k in
      record {
        is = rw e (ap (λ (x : GateWords). Some x) (q ∙ gate_folded [] w rest));
        inside = rw q (fold_fits (record { out = w; inputs = Some [] }) rest (record { out = all.0.inside; inputs = tt }) all.1);
      }
