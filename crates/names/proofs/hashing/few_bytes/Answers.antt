use Rattle.std.proofs.Common.{◌≡◌, arith}
use Rattle.names.proofs.Words.{word_none, word-one, word_two, word_three}
use Rattle.names.proofs.hashing.few_bytes.Goals as goal

pub returns-in-0 : goal.returns-in-0
returns-in-0 c = rw c.in-0.is (word_none c.args.text.now c.args.word.start)

pub returns-in-1 : goal.returns-in-1
returns-in-1 c = rw c.in-1.is (omega (arith, word-one c.args.text.now c.args.word.start (omega arith)))

pub returns-in-2 : goal.returns-in-2
returns-in-2 c = rw c.in-2.is (omega (arith, word_two c.args.text.now c.args.word.start (omega arith)))

pub returns-in_default : goal.returns-in_default
returns-in_default c =
    let three : c.args.word.len ≡ 3 = omega arith in
    rw three (omega (arith, word_three c.args.text.now c.args.word.start (omega arith)))
