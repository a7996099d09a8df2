use native.Mathlib.Omega.{arith}
use Rattle.text.specs.Words.{IsWord}
use Rattle.text.proofs.WordLaws.{each_word}
use Rattle.cover.proofs.RowLaws.{constant_bad, constant_last, last_given, last_word}
use Rattle.cover.proofs.rows.constant_cover.Goals as goal

pub returns-in_err-last-in-Some : goal.returns-in_err-last-in-Some
returns-in_err-last-in-Some c =
    rw c.from_residual.ensures (constant_bad c.args.rows.lines.text.now _ _ _ c.in-Some.ensures.steps.first (last_given c.in-Some.words _ c.in_err-last-in-Some.ensures.ran))

pub bytes-requires : goal.bytes-requires
bytes-requires c =
    let words = c.in-Some.words in
    let word = last_word (IsWord words.text.now words.at words.end) _ _ (each_word words.text.now words.at words.end) (last_given words _ c.in_ok-last-in-Some.ensures.ran) in
    omega (arith, word.inside, words.inside)

pub returns-in_ok-last-in-Some : goal.returns-in_ok-last-in-Some
returns-in_ok-last-in-Some c =
    let bit = rw (c.bytes.ensures, c.in-Some.ensures.steps.row_text) at c.parse_bit.ensures.is in
    constant_last c.args.rows.lines.text.now _ _ _ _ _ c.in-Some.ensures.steps.first (last_given c.in-Some.words _ c.in_ok-last-in-Some.ensures.ran) bit
