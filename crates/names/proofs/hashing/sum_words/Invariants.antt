use Rattle.std.proofs.Common.{◌≡◌, ◌+◌, ◌-◌, ◌*◌, ◌≤◌}
use Rattle.laws.specs.Stretches.{stretch}
use Rattle.names.specs.Chains.{wrapping_sum, mixed}
use Rattle.names.proofs.hashing.sum_words.Given as goal

abbrev pub invariant-loop-four : goal.invariant-loop-four
invariant-loop-four l =
    (l.four-index ≤ l.four-index-end)
    × (wrapping_sum l.sums.sum (stretch l.fn.text (l.fn.word.start + l.four-index * 4) (l.fn.word.len - l.four-index * 4)) ≡ wrapping_sum 0 (stretch l.fn.text l.fn.word.start l.fn.word.len))
    × (mixed l.sums.mix (stretch l.fn.text (l.fn.word.start + l.four-index * 4) (l.fn.word.len - l.four-index * 4)) ≡ mixed 0 (stretch l.fn.text l.fn.word.start l.fn.word.len))
