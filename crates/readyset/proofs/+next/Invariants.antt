use Rattle.readyset.proofs.+next.Given as goal

abbrev pub decreases-next : goal.decreases-next
decreases-next l = l.n
