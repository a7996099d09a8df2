use Prim.Native.Nat.{◌+◌, ◌-◌, ◌≤◌}
use mathlib.Core.Path.{◌≡◌, ap, ◌∙◌}
use native.Mathlib.Omega.{arith}
use lib.ListN.{length}
use Rattle.laws.specs.Stretches.{stretch, run}
use Rattle.laws.proofs.Stretches.{length-stretch_le}
use Rattle.text.specs.Blanks.{is_blank, trim_end}
use Rattle.text.proofs.BlankLaws.{trim_made, trim_end-length}
use Rattle.text.proofs.words.trim.Goals as goal

pub overflow_sub-left : goal.overflow_sub-left
overflow_sub-left c = omega (arith, c.skip_blanks-blanks.ensures.1, ap length c.bytes.ensures, length-stretch_le c.args.text.now c.args.word.start c.args.word.len)

pub bytes-requires-2 : goal.bytes-requires-2
bytes-requires-2 c = omega (arith, c.requires, c.skip_blanks-blanks.ensures.1, ap length c.bytes.ensures, length-stretch_le c.args.text.now c.args.word.start c.args.word.len)

pub returns : goal.returns
returns c =
    let t = c.args.text.now in
    let word = c.args.word in
    let n = c.skip_blanks-blanks.result in
    let start = ap (λ k. word.start + k) (c.skip_blanks-blanks.ensures.0 ∙ ap (run is_blank) c.bytes.ensures) in
    let left = c.trim_end.ensures ∙ ap trim_end c.bytes-2.ensures in
    let rest : word.len - n ≡ word.start + word.len - (word.start + n) = omega arith in
    let within : n ≤ word.len = omega (arith, c.skip_blanks-blanks.ensures.1, ap length c.bytes.ensures, length-stretch_le t word.start word.len) in
    let short : length c.trim_end.result.now ≤ word.len - n =
    omega (arith, ap length left, trim_end-length (stretch t (word.start + n) (word.len - n)), length-stretch_le t (word.start + n) (word.len - n)) in
    (trim_made t word (word.start + n) c.trim_end.result.now start (left ∙ ap (λ k. trim_end (stretch t (word.start + n) k)) rest), omega arith, omega (arith, within, short))
