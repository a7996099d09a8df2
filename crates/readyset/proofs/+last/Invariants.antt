use Rattle.readyset.proofs.+last.Given as goal

abbrev pub decreases-last : goal.decreases-last
decreases-last l = l.n
