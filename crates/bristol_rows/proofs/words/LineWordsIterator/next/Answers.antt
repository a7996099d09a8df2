use Rattle.std.proofs.Common.{rules, ap}
use lib.ListN.{length}
use Rattle.bristol_rows.proofs.WordLaws.{words_next}
use Rattle.bristol_rows.proofs.words.LineWordsIterator.next.Goals as goal

pub returns-clause-goes : goal.returns-clause-goes
returns-clause-goes c =
    let shorter = ap length (words_next c.args.self.now.rest.now _ _ c.skip_blanks.ensures.0 c.scan_blank-end.ensures.0 c.if-end-eq0.false) in search rules
