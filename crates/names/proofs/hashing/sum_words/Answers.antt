use Rattle.std.proofs.Common.{◌≡◌, ◌+◌, ◌*◌, ◌/◌, ◌<◌, length, ap, ◌∙◌, arith}
use Rattle.laws.proofs.Stretches.{length-stretch}
use Rattle.names.specs.Chains.{four_bytes, sum_in, mix_in}
use Rattle.names.proofs.Words.{chunk_number}
use Rattle.names.proofs.Hashes.{sum_step, mix_step}
use Rattle.names.proofs.hashing.sum_words.Goals as goal

pub loop-four-preserved : goal.loop-four-preserved
loop-four-preserved c =
    let t = c.args.text.now in
    let word = c.args.word in
    let size : length c.bytes.result.now ≡ word.len = ap length c.bytes.ensures ∙ length-stretch t word.start word.len c.requires in
    let below : c.loop-four.four-index < word.len / 4 = omega (arith, size, c.as_chunks.ensures.front_len, c.loop-four-test.true) in
    let four : c.from_le_bytes.result ≡ four_bytes t (word.start + c.loop-four.four-index * 4) =
    c.from_le_bytes.ensures ∙ chunk_number t word.start word.len c.loop-four.four-index c.bytes.result.now _ below c.requires c.bytes.ensures size c.as_chunks.ensures.front in (
      omega (arith, c.loop-four-test.true),
      sum_step t word.start word.len c.loop-four.four-index _ _ (λ i. omega (arith, c.type_inv.text i)) below c.requires (c.with_word-sums.ensures.sum_value ∙ ap (sum_in c.loop-four.sums.sum) four) ∙ c.loop-four.invariant.1,
      mix_step t word.start word.len c.loop-four.four-index _ _ below c.requires (c.with_word-sums.ensures.mix_value ∙ ap (mix_in c.loop-four.sums.mix) four) ∙ c.loop-four.invariant.2,
    )

pub returns-clause-sum_value : goal.returns-clause-sum_value
returns-clause-sum_value c =
    let t = c.args.text.now in
    let word = c.args.word in
    let size : length c.bytes.result.now ≡ word.len = ap length c.bytes.ensures ∙ length-stretch t word.start word.len c.requires in
    let all : word.len / 4 ≡ c.loop-four.four-index = omega (arith, size, c.as_chunks.ensures.front_len, c.loop-four.invariant.0, c.loop-four-test.false) in
    rw all c.loop-four.invariant.1

pub returns-clause-mix_value : goal.returns-clause-mix_value
returns-clause-mix_value c =
    let t = c.args.text.now in
    let word = c.args.word in
    let size : length c.bytes.result.now ≡ word.len = ap length c.bytes.ensures ∙ length-stretch t word.start word.len c.requires in
    let all : word.len / 4 ≡ c.loop-four.four-index = omega (arith, size, c.as_chunks.ensures.front_len, c.loop-four.invariant.0, c.loop-four-test.false) in
    rw all c.loop-four.invariant.2
