use Prim.Native.Nat.{ℕ}
use mathlib.Core.Path.{◌≡◌}
use mathlib.Core.Bool.{false}
use lib.ListN.{length}
use Rattle.laws.specs.Stretches.{All}
use Rattle.text.specs.Words.{IsWord}
use Rattle.text.specs.Iterators.{words_left}
use Rattle.reading.specs.Reading.{places_in, add_input, each}
use Rattle.reading.specs.Holding.{held_of, NamedNodesHold}
use Rattle.blif.proofs.words.input_words.Given as goal

abbrev pub invariant-loop-word : goal.invariant-loop-word
invariant-loop-word l =
    (goal.iterator-loop-word).can_next l.word-iterator
    × (goal.iterator-loop-word).is_finite l.word-iterator
    × (length l.nodes ≡ length l.initial.nodes)
    × (length l.names ≡ length l.initial.names)
    × All (IsWord l.text l.fn.words.at l.fn.words.end) (words_left l.word-iterator)
    × NamedNodesHold l.text l.heads l.nodes l.names l.held
    × ((o : ℕ) → let step = add_input false l.text (places_in (length l.initial.nodes) (length l.initial.names) o) in
    each step (words_left l.word-iterator) (held_of l.nodes l.names l.held) ≡ each step (words_left l.fn.words) (held_of l.initial.nodes l.initial.names l.initial.held))
