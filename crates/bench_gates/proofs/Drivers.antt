-- Whether each input has a driver.
-- Assumes nothing.
use Rattle.std.specs.Prelude.{Err, Ok, None, Option, Some}
use Rattle.std.proofs.lemmas.Option.{none-some}
use Prim.Native.Nat.{ℕ, zero, suc, ◌+◌, ◌≤◌, ◌<◌}
use mathlib.Core.Path.{◌≡◌, refl, sym, ap, ◌∙◌}
use mathlib.Core.Bool.{Bool, true, false, cond}
use mathlib.Core.List.{List, [], ◌∷◌, ◌++◌, append_assoc, append-nil}
use native.Mathlib.Omega.{arith}
use lib.ListN.{length, set, drop, length-append}
use Rattle.circuit.specs.declared.refusals.Refusal.{Refusal}
use Rattle.circuit.specs.Refusals.{Try, and_then}
use Rattle.circuit.proofs.Tries.{no_yes, yes_same, then_yes}
use Rattle.laws.specs.Stretches.{same_bytes}
use Rattle.text.specs.Words.{bytes_of}
use Rattle.text.specs.declared.words.Word.{Word}
use Rattle.names.specs.Names.{Entry, lookup}
use Rattle.reading.specs.Reading.{find, driver}
use Rattle.reading.specs.Holding.{outcome}
use Rattle.bench_invocations.specs.Walks.{arguments_at}
use Rattle.bench_gates.specs.Gates.{input_wires}
use Rattle.bench_gates.specs.declared.plans.Plan.{Plan}
use Rattle.bench_gates.specs.Walks.{first_three, Driven}

-- ---- a constant's wire, and a name's

module _ (t : List ℕ) (w : Word) (es : List Entry) where
  pub find_constant : (x : ℕ) → find true t w [] ≡ Some x → find true t w es ≡ Some x
  unfolding find lookup
  find_constant x = go (same_bytes (bytes_of t w) (70 ∷ 65 ∷ 76 ∷ 83 ∷ 69 ∷ [])) (same_bytes (bytes_of t w) (84 ∷ 82 ∷ 85 ∷ 69 ∷ []))
    where
      go : (a b : Bool) → cond {A = Option ℕ} a (Some 0) (cond b (Some 1) None) ≡ Some x → cond a (Some 0) (cond b (Some 1) (lookup t (bytes_of t w) es)) ≡ Some x
      go true b e = e
      go false true e = e
      go false false e = absurd (none-some x e)

  pub find_defined : find true t w [] ≡ None → find true t w es ≡ lookup t (bytes_of t w) es
  unfolding find lookup
  find_defined = go (same_bytes (bytes_of t w) (70 ∷ 65 ∷ 76 ∷ 83 ∷ 69 ∷ [])) (same_bytes (bytes_of t w) (84 ∷ 82 ∷ 85 ∷ 69 ∷ []))
    where
      go : (a b : Bool) → cond {A = Option ℕ} a (Some 0) (cond b (Some 1) None) ≡ None → cond a (Some 0) (cond b (Some 1) (lookup t (bytes_of t w) es)) ≡ lookup t (bytes_of t w) es
      go true b e = absurd (none-some 0 (sym e))
      go false true e = absurd (none-some 1 (sym e))
      go false false e = refl

-- ---- the wires of inputs

module _ (t : List ℕ) (es : List Entry) where
  pub no_inputs : (xs : List ℕ) → input_wires t es [] ≡ Ok xs → xs ≡ []
  unfolding input_wires
  no_inputs xs p = sym (yes_same p)

  -- the wire of the first input, and those of the others
  pub record Each (w : Word) (ws : List Word) (xs : List ℕ) : Type 0 where
    pub wire : ℕ
    pub rest : List ℕ
    pub first_is : driver (find true t w es) ≡ Ok wire
    pub rest_are : input_wires t es ws ≡ Ok rest
    pub all_are : xs ≡ wire ∷ rest

  pub inputs_each : (w : Word) (ws : List Word) (xs : List ℕ) → input_wires t es (w ∷ ws) ≡ Ok xs → Each w ws xs
  unfolding input_wires
  inputs_each w ws xs p =
      let x = then_yes (driver (find true t w es)) _ xs p in
      let r = then_yes (input_wires t es ws) _ xs x.2 in
      record { wire = x.0; rest = r.0; first_is = x.1; rest_are = r.1; all_are = sym (yes_same r.2) }

  -- as many wires as inputs
  pub inputs-length : (ws : List Word) (xs : List ℕ) → input_wires t es ws ≡ Ok xs → length xs ≡ length ws
  inputs-length [] xs p = ap length (no_inputs xs p)
  inputs-length (w ∷ ws) xs p =
      let e = inputs_each w ws xs p in
      ap length e.all_are ∙ ap suc (inputs-length ws e.rest e.rest_are)

  -- the wires of the inputs after the first n
  pub inputs_drop : (n : ℕ) (ws : List Word) (xs : List ℕ) → input_wires t es ws ≡ Ok xs → input_wires t es (drop n ws) ≡ Ok (drop n xs)
  inputs_drop zero ws xs p = p
  inputs_drop (suc n) [] xs p = rw (no_inputs xs p) (p ∙ ap Ok (no_inputs xs p))
  inputs_drop (suc n) (w ∷ ws) xs p =
      let e = inputs_each w ws xs p in
      rw e.all_are (inputs_drop n ws e.rest e.rest_are)

-- the wires of the first three inputs say that each input of a plan has a driver
pub driven : (t : List ℕ) (es : List Entry) (p : Plan) → p.arguments.end ≤ length t → Ok p.wires ≡ outcome first_three (input_wires t es (arguments_at t p.arguments)) → p.inputs ≡ length (arguments_at t p.arguments) → Driven t es p
driven t es p i q e = go (input_wires t es (arguments_at t p.arguments)) refl q
  where
    go : (r : Try (List ℕ)) → input_wires t es (arguments_at t p.arguments) ≡ r → Ok p.wires ≡ outcome first_three r → Driven t es p
    go (Err f) s h = absurd (no_yes (sym h))
    go (Ok xs) s h = record { wires = xs; are = s; count_is = e; firsts = yes_same h; arguments_in = i }

-- ---- a walk over the inputs: the wires so far

pub record Walking (t : List ℕ) (es : List Entry) (left all : List Word) (n : ℕ) (w : List ℕ) : Type 0 where
  pub done : List ℕ
  pub whole : input_wires t es all ≡ and_then (input_wires t es left) (λ ys. Ok (done ++ ys))
  pub number : length done ≡ n
  pub kept : w ≡ first_three done

-- one of the first three wires
first_kept : (xs : List ℕ) (x : ℕ) → length xs < 3 → set (first_three xs) (length xs) x ≡ first_three (xs ++ (x ∷ []))
first_kept [] x h = refl
first_kept (a ∷ []) x h = refl
first_kept (a ∷ b ∷ []) x h = refl
first_kept (a ∷ b ∷ c ∷ xs) x h = absurd (omega arith)

-- a wire after the first three
later_kept : (xs : List ℕ) (x : ℕ) → 3 ≤ length xs → first_three xs ≡ first_three (xs ++ (x ∷ []))
later_kept [] x h = absurd (omega arith)
later_kept (a ∷ []) x h = absurd (omega arith)
later_kept (a ∷ b ∷ []) x h = absurd (omega arith)
later_kept (a ∷ b ∷ c ∷ xs) x h = refl

module _ {t : List ℕ} {es : List Entry} {all : List Word} where
  pub walking_start : Walking t es all all 0 (0 ∷ 0 ∷ 0 ∷ [])
  walking_start = record { done = []; whole = go (input_wires t es all); number = refl; kept = refl }
    where
      go : (r : Try (List ℕ)) → r ≡ and_then r (λ ys. Ok ([] ++ ys))
      go (Err e) = refl
      go (Ok xs) = refl

  module _ {left : List Word} {n : ℕ} {w : List ℕ} (h : Walking t es left all n w) where
    -- an input without a driver
    pub walking_stop : (v : Word) (rest : List Word) → left ≡ v ∷ rest → (f : Refusal) → Err f ≡ driver (find true t v es) → Err f ≡ outcome first_three (input_wires t es all)
    unfolding input_wires
    walking_stop v rest e f q = rw (e, ← q) at (sym (ap (outcome first_three) h.whole))

    -- an input with one
    module _ (v : Word) (rest : List Word) (e : left ≡ v ∷ rest) (x : ℕ) (q : Ok x ≡ driver (find true t v es)) where
      more : (w' : List ℕ) → w' ≡ first_three (h.done ++ (x ∷ [])) → Walking t es rest all (n + 1) w'
      unfolding input_wires
      more w' k = record {
        done = h.done ++ (x ∷ []);
        whole = rw (e, ← q) at h.whole ∙ go (input_wires t es rest);
        number = length-append h.done (x ∷ []) ∙ ap (λ (m : ℕ). m + 1) h.number;
        kept = k;
      }
        where
          go : (r : Try (List ℕ)) → and_then (and_then r (λ xs. Ok (x ∷ xs))) (λ ys. Ok (h.done ++ ys)) ≡ and_then r (λ ys. Ok ((h.done ++ (x ∷ [])) ++ ys))
          go (Err f) = refl
          go (Ok ys) = ap Ok (sym (append_assoc h.done (x ∷ []) ys))

      pub walking_first : n < 3 → Walking t es rest all (n + 1) (set w n x)
      walking_first l = more (set w n x) (rw (h.kept, ← h.number) (first_kept h.done x (omega (arith, h.number))))

      pub walking_later : 3 ≤ n → Walking t es rest all (n + 1) w
      walking_later l = more w (h.kept ∙ later_kept h.done x (omega (arith, h.number)))

    pub walking_end : left ≡ [] → Ok w ≡ outcome first_three (input_wires t es all)
    unfolding input_wires
    walking_end e = rw h.kept (sym (ap (outcome first_three) (rw e at h.whole ∙ ap Ok (append-nil h.done))))
