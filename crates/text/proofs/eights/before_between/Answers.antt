use Prim.Native.Nat.{ℕ}
use mathlib.Core.Path.{◌∙◌, subst}
use mathlib.Core.Logic.{◌≢◌}
use native.Mathlib.Omega.{arith}
use Rattle.std.proofs.Common.{rules}
use lib.Bits.{bit_and}
use Rattle.laws.specs.Stretches.{stretch}
use Rattle.laws.proofs.Stretches.{length-stretch}
use Rattle.text.specs.declared.eights.TheConstants.{HIGH_BITS}
use Rattle.text.proofs.EightLaws.{eight_word, half_masked, word_small, none_here, first_here, zeros_below}
use Rattle.text.proofs.eights.before_between.Goals as goal

pub returns-then-word-ne0 : goal.returns-then-word-ne0
returns-then-word-ne0 c = (tt, λ a. absurd (half_masked (stretch c.args.text.now c.args.at 8) (length-stretch c.args.text.now c.args.at 8 c.requires) a (subst (λ (x : ℕ). bit_and x HIGH_BITS ≢ 0) (c.eight_bytes-word.ensures ∙ eight_word c.args.text.now c.args.at c.requires) c.if-word-ne0.true)))

pub between_bits-hits-requires : goal.between_bits-hits-requires
between_bits-hits-requires c = word_small c.args.text.now c.args.at c.requires (λ i. omega (arith, c.type_inv.text i)) c.eight_bytes-word.result c.eight_bytes-word.ensures c.if-word-ne0.false

pub returns-then-hits-eq0 : goal.returns-then-hits-eq0
returns-then-hits-eq0 c = (none_here c.args.text.now c.args.at c.requires (λ i. omega (arith, c.type_inv.text i)) c.eight_bytes-word.result c.eight_bytes-word.ensures c.if-word-ne0.false c.args.limits.low c.args.limits.high c.between_bits-hits.result c.between_bits-hits.ensures c.if-hits-eq0.true, λ _. search rules)

pub overflow_cast-result : goal.overflow_cast-result
overflow_cast-result c = record { fits = omega (arith, zeros_below c.between_bits-hits.result (omega (arith, c.between_bits-hits.type_inv)) c.if-hits-eq0.false) }

pub returns : goal.returns
returns c = (first_here c.args.text.now c.args.at c.requires (λ i. omega (arith, c.type_inv.text i)) c.eight_bytes-word.result c.eight_bytes-word.ensures c.if-word-ne0.false c.args.limits.low c.args.limits.high c.between_bits-hits.result c.between_bits-hits.ensures (omega (arith, c.between_bits-hits.type_inv)) c.if-hits-eq0.false, λ _. search rules)
