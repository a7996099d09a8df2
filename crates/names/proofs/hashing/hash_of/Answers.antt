use Rattle.std.proofs.Common.{ℕ, ◌+◌, ◌-◌, ◌*◌, ◌/◌, ◌%◌, ◌<◌, List, length, ◌≡◌, sym, ap, ap₂, ◌∙◌, arith}
use Rattle.laws.specs.Stretches.{stretch}
use Rattle.laws.proofs.Stretches.{length-stretch}
use Rattle.names.specs.Chains.{bucket_of, hash_of, key_of, sum_in, mix_in}
use Rattle.names.specs.declared.records.TheConstants.{HALF}
use Rattle.names.proofs.Words.{bytes_stretch}
use Rattle.names.proofs.Hashes.{sum_short, mix_short, rotate_left-half}
use Rattle.names.proofs.hashing.hash_of.Goals as goal

pub returns : goal.returns
unfolding bucket_of hash_of key_of
returns c =
    let at = c.args.word.start + c.args.word.len / 4 * 4 in
    let rest : List ℕ = stretch c.args.text.now at (c.args.word.len - c.args.word.len / 4 * 4) in
    let few : length rest < 4 = rw (length-stretch c.args.text.now at (c.args.word.len - c.args.word.len / 4 * 4) (omega arith)) (omega arith) in
    let sums = c.sum_words.result in
    let sum = c.with_word-all.ensures.sum_value ∙ ap (sum_in sums.sum) c.last_bytes.ensures ∙ sum_short sums.sum rest (omega arith) (bytes_stretch c.args.text.now _ _ (λ i. omega (arith, c.type_inv.text i))) few ∙ c.sum_words.ensures.sum_value in
    let mix = c.with_word-all.ensures.mix_value ∙ ap (mix_in sums.mix) c.last_bytes.ensures ∙ mix_short sums.mix rest few ∙ c.sum_words.ensures.mix_value in
    let len : c.args.word.len ≡ length (stretch c.args.text.now c.args.word.start c.args.word.len) = sym (length-stretch c.args.text.now c.args.word.start c.args.word.len c.requires) in
    let hash = c.rotate_left.ensures ∙ rotate_left-half c.with_word-all.result.mix (omega arith) ∙ ap (λ (m : ℕ). m / 65536 + m % 65536 * 65536) mix in
    record { bucket_value = ap (λ (x : ℕ). x % 256) sum; key_value = ap₂ (λ (n h : ℕ). n % HALF + h * HALF) len hash }
