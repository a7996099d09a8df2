-- Laws of the outputs' wires.
-- Assumes nothing.
use Rattle.std.specs.Prelude.{Err, None, Ok, Option, Some}
use Rattle.std.specs.Option.{ok_or}
use Rattle.std.proofs.lemmas.List.{length-map}
use Prim.Native.Nat.{ℕ, zero, suc, ◌+◌, ◌-◌, ◌*◌, ◌≤◌, ◌<◌}
use mathlib.Core.Path.{◌≡◌, refl, sym, ap, ap₂, ◌∙◌}
use mathlib.Core.Bool.{Bool}
use mathlib.Core.List.{List, [], ◌∷◌, ◌++◌, map, append_assoc, append-nil}
use native.Mathlib.Nat.{le_of_suc-le-suc, not-suc-le-zero}
use native.Mathlib.Numerals.{add-one}
use native.Mathlib.Omega.{arith}
use lib.ListN.{length, get_or, replicate, set, take, drop, length-set}
use lib.Seq.{map-set_same, take-suc-set, take_all, drop-cons, drop-length}
use lib.Dec.{lit<}
use Rattle.laws.specs.Areas.{encodes, stored, up_from}
use Rattle.laws.proofs.Areas.{length_up, set_record}
use Rattle.laws.proofs.Storing.{list_of, up_at}
use Rattle.circuit.specs.declared.records.TheConstants.{OUTPUT_WORDS}
use Rattle.circuit.specs.declared.refusals.Refusal.{Refusal}
use Rattle.circuit.specs.declared.refusals.Refusal.TheVariants.{NoDriver, NoOutputs}
use Rattle.circuit.specs.declared.records.BoolNode.{BoolNode}
use Rattle.circuit.specs.declared.records.Output.{Output}
use Rattle.circuit.specs.Refusals.{Try, and_then}
use Rattle.circuit.specs.Records.{encode_output, outputs_of}
use Rattle.circuit.proofs.Codes.{outputs_of_area, wire_word_back}
use Rattle.text.specs.declared.words.Word.{Word}
use Rattle.names.specs.Names.{Entry}
use Rattle.reading.specs.Reading.{find, Out, output_of, resolve, closed}
use Rattle.reading.specs.Holding.{output_word, words_of, encode_word, InText, out_at, outs_of, encode_out, Resolved}
use Rattle.reading.proofs.Steps.{length-words}

abbrev out_from : (ℕ → ℕ) → Out
out_from f = record { word = record { start = f 1; len = f 2 }; wire = f 4 }

out_back : (a : Out) (f : ℕ → ℕ) → ((j : ℕ) → j < OUTPUT_WORDS → f j ≡ get_or (encode_out a) j 0) → out_from f ≡ a
out_back a f h = λ i. record { word = record { start = h 1 (lit< tt) i; len = h 2 (lit< tt) i }; wire = h 4 (lit< tt) i }

abbrev no_out : Out
no_out = record { word = record { start = 0; len = 0 }; wire = 0 }

outs-of : (a : List ℕ) (xs : List Out) (rest : List ℕ) → a ≡ encodes encode_out xs ++ rest → outs_of a (length xs) ≡ xs
outs-of a xs rest e = list_of encode_out OUTPUT_WORDS (λ o. refl) out_from out_back no_out a xs rest e

map_up : {A B : Type 0} (f : A → B) (g : ℕ → A) (i m : ℕ) → map f (up_from g i m) ≡ up_from (λ k. f (g k)) i m
map_up f g i zero = refl
map_up {B = B} f g i (suc m) = ap (λ (l : List B). f (g i) ∷ l) (map_up f g (suc i) m)

plain : Word → Out
plain w = record { word = w; wire = 0 }

plain-encodes : (ws : List Word) → encodes encode_word ws ≡ encodes encode_out (map plain ws)
unfolding plain
plain-encodes [] = refl
plain-encodes (w ∷ ws) = ap (λ (l : List ℕ). encode_word w ++ l) (plain-encodes ws)

names_of : (a : List ℕ) (n : ℕ) → words_of a n ≡ map (λ (o : Out). o.word) (outs_of a n)
names_of a n = sym (map_up (λ (o : Out). o.word) (out_at a) 0 n)

pub list_length : (a : List ℕ) (n : ℕ) → length (outs_of a n) ≡ n
list_length a n = length_up (out_at a) 0 n

-- ---- the outputs of the area are the circuit's

encode-output : (o : Out) → encode_output (output_of o) ≡ encode_out o
encode-output o = ap (λ (x : ℕ). 1 ∷ o.word.start ∷ o.word.len ∷ 0 ∷ x ∷ []) (wire_word_back o.wire)

encode_outputs : (os : List Out) → encodes encode_out os ≡ encodes encode_output (map output_of os)
encode_outputs [] = refl
encode_outputs (o ∷ os) = ap₂ (λ (x y : List ℕ). x ++ y) (sym (encode-output o)) (encode_outputs os)

outputs_are : (a : List ℕ) (n : ℕ) → a ≡ encodes encode_out (outs_of a n) ++ replicate (length a - n * OUTPUT_WORDS) 0 → outputs_of a n ≡ map output_of (outs_of a n)
outputs_are a n cl =
    let os : List Output = map output_of (outs_of a n) in
    let k : length os ≡ n = length-map (outs_of a n) output_of ∙ list_length a n in
    let e : a ≡ encodes encode_output os ++ replicate (length a - n * OUTPUT_WORDS) 0 = cl ∙ ap (λ (l : List ℕ). l ++ replicate (length a - n * OUTPUT_WORDS) 0) (encode_outputs (outs_of a n)) in
    ap (λ (m : ℕ). outputs_of a m) (sym k) ∙ outputs_of_area a os _ e

clean_outputs : (a : List ℕ) (n : ℕ) → a ≡ encodes encode_out (outs_of a n) ++ replicate (length a - n * OUTPUT_WORDS) 0 → a ≡ encodes encode_output (outputs_of a n) ++ replicate (length a - n * OUTPUT_WORDS) 0
clean_outputs a n cl =
    cl ∙ ap (λ (l : List ℕ). l ++ replicate (length a - n * OUTPUT_WORDS) 0) (encode_outputs (outs_of a n) ∙ ap (encodes encode_output) (sym (outputs_are a n cl)))

-- the refusal where no wire is found
pub undriven : {f : Option ℕ} {e : Refusal} → f ≡ None → Err e ≡ ok_or f NoDriver → e ≡ NoDriver
undriven {e = e} n q = let z : ◌≡◌ {A = Try ℕ} (Err e) (Err NoDriver) = rw n at q in cc

-- ---- as the loop goes

abbrev prefixed : List Out → Try (List Out) → Try (List Out)
prefixed p r = and_then r (λ os. Ok (p ++ os))

pub record Mid (b : Bool) (t : List ℕ) (es : List Entry) (a₀ a : List ℕ) (n j : ℕ) : Type 0 where
  pub clean : a ≡ encodes encode_out (outs_of a n) ++ replicate (length a - n * OUTPUT_WORDS) 0
  pub names : words_of a n ≡ words_of a₀ n
  pub rest : prefixed (take j (outs_of a n)) (resolve b t es (drop j (words_of a₀ n))) ≡ resolve b t es (words_of a₀ n)

nothing-first : (o : Try (List Out)) → prefixed [] o ≡ o
nothing-first (Err e) = refl
nothing-first (Ok x) = refl

pub clean_outs : (a : List ℕ) (n : ℕ) → a ≡ encodes encode_word (words_of a n) ++ replicate (length a - n * OUTPUT_WORDS) 0 → a ≡ encodes encode_out (outs_of a n) ++ replicate (length a - n * OUTPUT_WORDS) 0
clean_outs a n h =
    let ws : List Word = words_of a n in
    let e : a ≡ encodes encode_out (map plain ws) ++ replicate (length a - n * OUTPUT_WORDS) 0 = h ∙ ap (λ (l : List ℕ). l ++ replicate (length a - n * OUTPUT_WORDS) 0) (plain-encodes ws) in
    let k : length (map plain ws) ≡ n = length-map ws plain ∙ length-words a n in
    let o : outs_of a n ≡ map plain ws = ap (λ (m : ℕ). outs_of a m) (sym k) ∙ outs-of a (map plain ws) _ e in
    e ∙ ap (λ (l : List Out). encodes encode_out l ++ replicate (length a - n * OUTPUT_WORDS) 0) (sym o)

none_first : (b : Bool) (t : List ℕ) (es : List Entry) (w : Word) (ws : List Word) (p : List Out) → find b t w es ≡ None
    → Err NoDriver ≡ prefixed p (resolve b t es (w ∷ ws))
unfolding resolve
none_first b t es w ws p q = rw q

found_first : (b : Bool) (t : List ℕ) (es : List Entry) (w : Word) (ws : List Word) (p : List Out) (x : ℕ) → find b t w es ≡ Some x
    → prefixed (p ++ (record { word = w; wire = x } ∷ [])) (resolve b t es ws) ≡ prefixed p (resolve b t es (w ∷ ws))
unfolding resolve
found_first b t es w ws p x q = rw q (go (resolve b t es ws))
  where
    go : (r : Try (List Out)) → prefixed (p ++ (record { word = w; wire = x } ∷ [])) r ≡ prefixed p (and_then r (λ os. Ok (record { word = w; wire = x } ∷ os)))
    go (Err e) = refl
    go (Ok os) = ap (λ (l : List Out). Ok l) (append_assoc p (record { word = w; wire = x } ∷ []) os)

end_first : (b : Bool) (t : List ℕ) (es : List Entry) (p : List Out) → prefixed p (resolve b t es []) ≡ Ok (p ++ [])
unfolding resolve
end_first b t es p = refl

module _ (b : Bool) (t : List ℕ) (es : List Entry) (a₀ : List ℕ) (n : ℕ) where
  pub mid_start : a₀ ≡ encodes encode_word (words_of a₀ n) ++ replicate (length a₀ - n * OUTPUT_WORDS) 0 → Mid b t es a₀ a₀ n 0
  mid_start h = record { clean = clean_outs a₀ n h; names = refl; rest = nothing-first (resolve b t es (words_of a₀ n)) }

  in_at : (m : ℕ) (ws : List Word) (j : ℕ) (d : Word) → j < length ws → InText m ws → (get_or ws j d).start + (get_or ws j d).len ≤ m
  in_at m [] j d h k = absurd (not-suc-le-zero h)
  in_at m (w ∷ ws) zero d h k = k.0
  in_at m (w ∷ ws) (suc j) d h k = in_at m ws j d (le_of_suc-le-suc h) k.1

  module _ (a : List ℕ) (j : ℕ) (h : j < n) (mid : Mid b t es a₀ a n j) where
    word_at : get_or (words_of a₀ n) j (record { start = 0; len = 0 }) ≡ output_word a j
    word_at =
        ap (λ (l : List Word). get_or l j (record { start = 0; len = 0 })) (sym mid.names)
        ∙ up_at (output_word a) (record { start = 0; len = 0 }) 0 n j h ∙ ap (output_word a) (omega arith)

    pub mid_inside : InText (length t) (words_of a₀ n) → (output_word a j).start + (output_word a j).len ≤ length t
    mid_inside k =
        let z = in_at (length t) (words_of a₀ n) j (record { start = 0; len = 0 }) (omega (arith, length-words a₀ n)) k in
        rw word_at at z

    here : drop j (words_of a₀ n) ≡ output_word a j ∷ drop (j + 1) (words_of a₀ n)
    here =
        let l : j < length (words_of a₀ n) = omega (arith, length-words a₀ n) in
        rw (add-one j) (drop-cons (words_of a₀ n) j (record { start = 0; len = 0 }) l ∙ ap (λ (w : Word). w ∷ drop (suc j) (words_of a₀ n)) word_at)

    pub mid_none : find b t (output_word a j) es ≡ None → Err NoDriver ≡ resolve b t es (words_of a₀ n)
    mid_none q = stop ∙ mid.rest
      where
        stop : Err NoDriver ≡ prefixed (take j (outs_of a n)) (resolve b t es (drop j (words_of a₀ n)))
        stop = rw here (none_first b t es (output_word a j) (drop (j + 1) (words_of a₀ n)) (take j (outs_of a n)) q)

    module _ (x : ℕ) (q : find b t (output_word a j) es ≡ Some x) (a' : List ℕ) (put : a' ≡ stored a (j * OUTPUT_WORDS) (encode_out (record { word = output_word a j; wire = x }))) (same : length a' ≡ length a) where
      o : Out
      o = record { word = output_word a j; wire = x }

      now_is : a' ≡ encodes encode_out (set (outs_of a n) j o) ++ replicate (length a - n * OUTPUT_WORDS) 0
      unfolding o
      now_is =
          put ∙ ap (λ (l : List ℕ). stored l (j * OUTPUT_WORDS) (encode_out o)) mid.clean
          ∙ set_record encode_out OUTPUT_WORDS (λ z. refl) (outs_of a n) o j (replicate (length a - n * OUTPUT_WORDS) 0) (omega (arith, list_length a n))

      size : length (set (outs_of a n) j o) ≡ n
      size = length-set (outs_of a n) j o ∙ list_length a n

      list_is : outs_of a' n ≡ set (outs_of a n) j o
      list_is = ap (λ (m : ℕ). outs_of a' m) (sym size) ∙ outs-of a' (set (outs_of a n) j o) _ now_is

      pub mid_step : Mid b t es a₀ a' n (j + 1)
      unfolding o
      mid_step = record {
        clean = now_is ∙ ap₂ (λ (l : List Out) (m : ℕ). encodes encode_out l ++ replicate m 0) (sym list_is) room_same;
        names =
            names_of a' n ∙ ap (map (λ (z : Out). z.word)) list_is
            ∙ map-set_same (λ (z : Out). z.word) (outs_of a n) j o no_out (same_name)
            ∙ sym (names_of a n) ∙ mid.names;
        rest = step_rest ∙ mid.rest;
      }
        where
          room_same : length a - n * OUTPUT_WORDS ≡ length a' - n * OUTPUT_WORDS
          room_same = omega (arith, same)

          same_name : o.word ≡ (get_or (outs_of a n) j no_out).word
          same_name = sym (ap (λ (z : Out). z.word) (up_at (out_at a) no_out 0 n j h) ∙ ap (output_word a) (omega arith))

          front : take (j + 1) (outs_of a' n) ≡ take j (outs_of a n) ++ (o ∷ [])
          front =
              let l : j < length (outs_of a n) = omega (arith, list_length a n) in
              rw (list_is, add-one j) (take-suc-set (outs_of a n) j o l)

          step_rest : prefixed (take (j + 1) (outs_of a' n)) (resolve b t es (drop (j + 1) (words_of a₀ n)))
              ≡ prefixed (take j (outs_of a n)) (resolve b t es (drop j (words_of a₀ n)))
          step_rest = rw (front, here) (found_first b t es (output_word a j) (drop (j + 1) (words_of a₀ n)) (take j (outs_of a n)) x q)

  pub mid_end : (a : List ℕ) (j : ℕ) → j ≡ n → Mid b t es a₀ a n j → resolve b t es (words_of a₀ n) ≡ Ok (outs_of a n)
  mid_end a j e mid =
      let d : drop j (words_of a₀ n) ≡ [] = ap (λ (k : ℕ). drop k (words_of a₀ n)) (e ∙ sym (length-words a₀ n)) ∙ drop-length (words_of a₀ n) in
      sym mid.rest ∙ rw d (end_first b t es (take j (outs_of a n))) ∙ ap (λ (l : List Out). Ok l) (append-nil (take j (outs_of a n)) ∙ take_all j (outs_of a n) (omega (arith, list_length a n, e)))

  -- the answers of `resolve_outputs`
  pub answer_none : (a : List ℕ) → Err NoDriver ≡ resolve b t es (words_of a₀ n) → Resolved b t es (words_of a₀ n) (Err NoDriver) a n
  answer_none a e = record { is = λ ns. rw (← e); kept = tt }

  pub answer_empty : (a : List ℕ) → n ≡ 0 → resolve b t es (words_of a₀ n) ≡ Ok (outs_of a n) → Resolved b t es (words_of a₀ n) (Err NoOutputs) a n
  unfolding closed
  answer_empty a z e = record { is = λ ns. rw e (go ns n z); kept = tt }
    where
      go : (ns : List BoolNode) (m : ℕ) → m ≡ 0 → Err NoOutputs ≡ closed ns (outs_of a m)
      go ns m q = rw q

  pub answer_some : (a : List ℕ) → n * OUTPUT_WORDS ≤ length a → a ≡ encodes encode_out (outs_of a n) ++ replicate (length a - n * OUTPUT_WORDS) 0 → (n ≡ 0 → ⊥) → resolve b t es (words_of a₀ n) ≡ Ok (outs_of a n) → Resolved b t es (words_of a₀ n) (Ok tt) a n
  unfolding closed
  answer_some a room cl nz e =
      record { is = λ ns. rw e (go ns n nz (outputs_are a n cl)); kept = record { room = room; clean = clean_outputs a n cl } }
    where
      go : (ns : List BoolNode) (m : ℕ) → (m ≡ 0 → ⊥) → outputs_of a m ≡ map output_of (outs_of a m) → Ok (record { nodes = ns; outputs = outputs_of a m }) ≡ closed ns (outs_of a m)
      go ns zero q p = absurd (q refl)
      go ns (suc m) q p = rw p
