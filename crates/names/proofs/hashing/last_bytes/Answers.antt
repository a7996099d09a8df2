use Rattle.std.proofs.Common.{arith}
use Rattle.names.proofs.Words.{word_cut}
use Rattle.names.proofs.hashing.last_bytes.Goals as goal

pub returns-else-text-word-lt4 : goal.returns-else-text-word-lt4
returns-else-text-word-lt4 c = rw c.four_bytes.ensures (word_cut c.args.text.now c.args.word.start c.args.word.len (λ i. omega (arith, c.type_inv.text i)) (omega arith) (omega arith))
