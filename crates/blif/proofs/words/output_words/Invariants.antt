use mathlib.Core.Path.{◌≡◌}
use lib.ListN.{length}
use Rattle.laws.specs.Areas.{capacity}
use Rattle.circuit.specs.declared.records.TheConstants.{OUTPUT_WORDS}
use Rattle.laws.specs.Stretches.{All}
use Rattle.text.specs.Words.{IsWord}
use Rattle.text.specs.Iterators.{words_left}
use Rattle.reading.specs.Reading.{add_output, each}
use Rattle.reading.specs.Holding.{words_of, WordsHold}
use Rattle.blif.proofs.words.output_words.Given as goal

abbrev pub invariant-loop-word : goal.invariant-loop-word
invariant-loop-word l =
    let step = add_output (capacity OUTPUT_WORDS (length l.initial.outputs)) in
    (goal.iterator-loop-word).can_next l.word-iterator
    × (goal.iterator-loop-word).is_finite l.word-iterator
    × (length l.outputs ≡ length l.initial.outputs)
    × All (IsWord l.text l.fn.words.at l.fn.words.end) (words_left l.word-iterator)
    × WordsHold l.text l.outputs l.n
    × (each step (words_left l.word-iterator) (words_of l.outputs l.n) ≡ each step (words_left l.fn.words) (words_of l.initial.outputs l.count))
