use Prim.Native.Nat.{ℕ, ◌+◌, ◌-◌, ◌*◌}
use mathlib.Core.Path.{◌≡◌, refl, sym, ap, ◌∙◌}
use Rattle.std.proofs.Common.{rules, arith, None, get_or, drop}
use lib.ListN.{drop_of_length-le}
use Rattle.text.specs.Numbers.{digits_from, number_of}
use Rattle.text.proofs.NumberLaws.{digit_step, digit_not, digit_over, digits_end, digits-none, digits-some}
use Rattle.text.proofs.numbers.parse_digits.Goals as goal

pub returns-then-is_empty : goal.returns-then-is_empty
returns-then-is_empty c = digits-none c.args.bytes.now (search rules)

pub loop-b-init : goal.loop-b-init
loop-b-init c = (omega arith, digits-some c.args.bytes.now (search rules))

pub returns-then-not-is_ascii_digit : goal.returns-then-not-is_ascii_digit
returns-then-not-is_ascii_digit c =
    digit_not c.args.bytes.now c.loop-b.b-index c.loop-b.v _ refl c.loop-b-test.true (sym c.is_ascii_digit.ensures.value ∙ c.if-not-is_ascii_digit.true)
    ∙ c.loop-b.invariant.1

pub returns-in_err-checked_mul : goal.returns-in_err-checked_mul
returns-in_err-checked_mul c =
    let none : c.from_residual.result ≡ None = search rules in
    let large = rw c.in_err-checked_mul.was at c.checked_mul.ensures in
    ap number_of none ∙ digit_over c.args.bytes.now c.loop-b.b-index c.loop-b.v _ refl c.loop-b-test.true (omega (arith, large)) ∙ c.loop-b.invariant.1

pub returns-in_err-v : goal.returns-in_err-v
returns-in_err-v c =
    let none : c.from_residual-in_err-v.result ≡ None = search rules in
    let tens = rw c.in_ok-checked_mul.was at c.checked_mul.ensures in
    let large = rw c.in_err-v.was at c.checked_add.ensures in
    ap number_of none ∙ digit_over c.args.bytes.now c.loop-b.b-index c.loop-b.v _ refl c.loop-b-test.true (omega (arith, tens, large, c.from.ensures)) ∙ c.loop-b.invariant.1

pub loop-b-preserved : goal.loop-b-preserved
loop-b-preserved c =
    let tens = rw c.in_ok-checked_mul.was at c.checked_mul.ensures in
    let next = rw c.in_ok-v.was at c.checked_add.ensures in
    let value : c.in_ok-v.v ≡ c.loop-b.v * 10 + (get_or c.args.bytes.now c.loop-b.b-index 0 - 48) = omega (arith, tens, next, c.from.ensures) in (
      omega (arith, next),
      ap (λ (n : ℕ). digits_from n (drop (c.loop-b.b-index + 1) c.args.bytes.now)) value
          ∙ digit_step c.args.bytes.now c.loop-b.b-index c.loop-b.v _ refl c.loop-b-test.true (sym c.is_ascii_digit.ensures.value ∙ c.if-not-is_ascii_digit.false) ∙ c.loop-b.invariant.1,
    )

pub returns : goal.returns
returns c =
    digits_end c.loop-b.v c.loop-b.invariant.0 ∙ ap (digits_from c.loop-b.v) (sym (drop_of_length-le c.args.bytes.now c.loop-b-test.false)) ∙ c.loop-b.invariant.1
