-- An assignment put in, a node at a time.
-- Assumes nothing.
use Rattle.std.proofs.Common.{ℕ, suc, ◌+◌, ◌<◌, ◌≤◌, ◌≡◌, Bool, true, false, cond, List, length, get_or, set, refl, sym, ap, ap₂, ◌∙◌, arith, add-one}
use Rattle.std.proofs.Math.ListN.{length-set}
use Rattle.laws.proofs.Areas.{up_more}
use Rattle.circuit.specs.Records.{node_at, nodes_of, is_cell_node}
use Rattle.values.specs.Assignments.{input_count}
use Rattle.values.proofs.Inputs.{from, from_start, from_end, count_turn}
use Rattle.runs.specs.Runs.{put_in}
use Rattle.runs.specs.Inner.{InputPut}

-- k nodes are passed, p of them inputs
pub record PutSoFar (a : List ℕ) (m : ℕ) (given old : List ℕ) (k p : ℕ) (values : List ℕ) : Type 0 where
  pub whole : put_in given p k values (from a m k) ≡ put_in given 0 0 old (nodes_of a m)
  pub counted : p + input_count (from a m k) ≡ length given
  pub same : length values ≡ length old

pub put_start : (a : List ℕ) (m : ℕ) (given old : List ℕ) → length given ≡ input_count (nodes_of a m) → PutSoFar a m given old 0 0 old
put_start a m given old e =
    record {
      whole = sym (ap (put_in given 0 0 old) (from_start a m));
      counted = let z : input_count (nodes_of a m) ≡ input_count (from a m 0) = ap input_count (from_start a m) in omega (arith, z, e);
      same = refl;
    }

module _ (a : List ℕ) (m : ℕ) (given old : List ℕ) (k p : ℕ) (values : List ℕ) (s : PutSoFar a m given old k p values) where
  module _ (h : k < m) where
    pub put_given : is_cell_node (node_at a k) ≡ false → p < length given
    put_given e =
        let one : ◌≡◌ {A = ℕ} (cond (is_cell_node (node_at a k)) 0 1) 1 = rw e in
        omega (arith, count_turn a m k h, s.counted, one)

    pub put_next : (r : ℕ) (after : List ℕ) → InputPut (node_at a k) k given p values r after → PutSoFar a m given old (k + 1) r after
    unfolding put_in
    put_next r after t =
        record {
          whole =
              ap₂ (λ (q : ℕ) (l : List ℕ). put_in given q (k + 1) l (from a m (k + 1))) t.passed t.stored ∙ turn (is_cell_node (node_at a k))
              ∙ sym (ap (put_in given p k values) (up_more (node_at a) k m h)) ∙ s.whole;
          counted = omega (arith, count_turn a m k h, s.counted, t.passed, passed (is_cell_node (node_at a k)));
          same = ap length t.stored ∙ kept (is_cell_node (node_at a k)) ∙ s.same;
        }
      where
        turn : (b : Bool) → put_in given (cond b p (p + 1)) (k + 1) (cond b values (set values k (get_or given p 0))) (from a m (k + 1))
            ≡ cond b (put_in given p (suc k) values (from a m (k + 1))) (put_in given (suc p) (suc k) (set values k (get_or given p 0)) (from a m (k + 1)))
        turn true = ap (λ (j : ℕ). put_in given p j values (from a m (k + 1))) (add-one k)
        turn false = ap₂ (λ (q j : ℕ). put_in given q j (set values k (get_or given p 0)) (from a m (k + 1))) (add-one p) (add-one k)

        passed : (b : Bool) → cond b p (p + 1) ≡ p + cond b 0 1
        passed true = omega arith
        passed false = refl

        kept : (b : Bool) → length (cond b values (set values k (get_or given p 0))) ≡ length values
        kept true = refl
        kept false = length-set values k (get_or given p 0)

  pub put_all : m ≤ k → values ≡ put_in given 0 0 old (nodes_of a m)
  unfolding put_in
  put_all h = sym (ap (put_in given p k values) (from_end a m k h)) ∙ s.whole
