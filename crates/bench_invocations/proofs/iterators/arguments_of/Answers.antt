use Rattle.bench_invocations.proofs.Parsing.{none_of, some_of}
use Rattle.bench_invocations.proofs.iterators.arguments_of.Goals.{then-blank, else-blank}
use Rattle.bench_invocations.proofs.iterators.arguments_of.Goals as goal

pub returns-clause-all : goal.returns-clause-all
returns-clause-all c = elim c.if-blank.branch [
  | then-blank w ↦ rw w.at-is (none_of c.args.text.now c.args.word c.trim-blank.result c.trim-blank.ensures.0 w.if-blank.true)
  | else-blank w ↦ rw w.at-is (some_of c.args.text.now c.args.word c.trim-blank.result c.trim-blank.ensures.0 w.if-blank.false)
]
