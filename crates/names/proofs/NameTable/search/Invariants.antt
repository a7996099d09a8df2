use Rattle.text.specs.Words.{bytes_of}
use Rattle.names.proofs.Searches.{ahead, Searched}
use Rattle.names.proofs.NameTable.search.Given as goal

abbrev pub invariant-loop-at : goal.invariant-loop-at
invariant-loop-at l =
    Searched l.self.text.now l.self.heads.now l.self.names.now l.self.count (bytes_of l.self.text.now l.fn.word) l.at l.depth l.last l.branch

abbrev pub decreases-loop-at : goal.decreases-loop-at
decreases-loop-at l = ahead l.self.count l.at
