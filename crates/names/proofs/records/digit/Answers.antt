use Rattle.std.proofs.Common.{ℕ, ◌-◌, ◌%◌, ap, sym, ◌∙◌}
use Rattle.text.specs.Words.{bytes_of}
use Rattle.names.specs.Chains.{digit_in}
use Rattle.names.specs.declared.records.TheConstants.{KEY_DIGITS, BYTE_DIGITS}
use Rattle.names.proofs.Links.{digit_high, digit_low}
use Rattle.names.proofs.records.digit.Goals as goal

pub returns-then-depth-lt-KEY_DIGITS : goal.returns-then-depth-lt-KEY_DIGITS
returns-then-depth-lt-KEY_DIGITS c =
    let name = bytes_of c.args.text.now c.args.word in
    let key = ap (λ (x : ℕ). digit_in x KEY_DIGITS c.args.depth) c.requires.key_value in
    (c.digit_in.ensures.0 ∙ key ∙ sym (digit_high name c.args.depth c.if-depth-lt-KEY_DIGITS.true), c.digit_in.ensures.1)

pub returns-else-depth-lt-KEY_DIGITS : goal.returns-else-depth-lt-KEY_DIGITS
returns-else-depth-lt-KEY_DIGITS c =
    let name = bytes_of c.args.text.now c.args.word in
    let it = c.digit_in-else-depth-lt-KEY_DIGITS.ensures in
    let byte = ap (λ (x : ℕ). digit_in x BYTE_DIGITS ((c.args.depth - KEY_DIGITS) % BYTE_DIGITS)) c.byte_at-byte.ensures in
    (it.0 ∙ byte ∙ sym (digit_low name c.args.depth c.if-depth-lt-KEY_DIGITS.false), it.1)
