-- The steps along a list, an entry at a time.
-- Assumes nothing.
use Rattle.std.proofs.Common.{ℕ, ◌+◌, ◌<◌, ◌≤◌, ◌≡◌, List, ◌∷◌, length, drop, get_or, sym, ap, ◌∙◌, subst, add-one}
use lib.ListN.{drop_of_length-le}
use Rattle.std.proofs.Math.Seq.{drop-cons}
use Rattle.std.proofs.Math.ListN.{length-set}
use Rattle.circuit.specs.declared.records.BoolNode.{BoolNode}
use Rattle.circuit.specs.Records.{node_at, nodes_of}
use Rattle.runs.specs.Runs.{step, steps}
use Rattle.values.specs.Inner.{SoundCell}
use Rattle.runs.specs.Inner.{SoundCells}

pub step_length : (ns : List BoolNode) (values : List ℕ) (x : ℕ) → length (step ns values x) ≡ length values
unfolding step
step_length ns values x = length-set values x _

-- i entries are worked out: what is left gives what the whole gives
pub record Gone (a : List ℕ) (m : ℕ) (order old : List ℕ) (i : ℕ) (values : List ℕ) : Type 0 where
  pub same : length values ≡ length old
  pub whole : steps (nodes_of a m) values (drop i order) ≡ steps (nodes_of a m) old order
  pub sound : SoundCells a m (length old) (drop i order)

module _ (a : List ℕ) (m : ℕ) (order old : List ℕ) (i : ℕ) (values : List ℕ) (g : Gone a m order old i values) where
  module _ (h : i < length order) where
    cut : drop i order ≡ get_or order i 0 ∷ drop (i + 1) order
    cut = rw add-one (drop-cons order i 0 h)

    all : SoundCells a m (length old) (get_or order i 0 ∷ drop (i + 1) order)
    all = subst (SoundCells a m (length old)) cut g.sound

    pub inside : get_or order i 0 < m
    inside = all.0.0

    pub entry_sound : SoundCell (length values) (node_at a (get_or order i 0))
    entry_sound = subst (λ (k : ℕ). SoundCell k (node_at a (get_or order i 0))) (sym g.same) all.0.1

    pub gone_next : (after : List ℕ) → after ≡ step (nodes_of a m) values (get_or order i 0) → Gone a m order old (i + 1) after
    unfolding steps
    gone_next after e =
        record {
          same = ap length e ∙ step_length (nodes_of a m) values (get_or order i 0) ∙ g.same;
          whole = ap (λ (v : List ℕ). steps (nodes_of a m) v (drop (i + 1) order)) e ∙ sym (ap (steps (nodes_of a m) values) cut) ∙ g.whole;
          sound = all.1;
        }

  pub gone_all : length order ≤ i → values ≡ steps (nodes_of a m) old order
  unfolding steps
  gone_all h = sym (ap (steps (nodes_of a m) values) (drop_of_length-le order h)) ∙ g.whole
