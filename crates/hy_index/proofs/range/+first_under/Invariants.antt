use Rattle.hy_index.proofs.range.+first_under.Given as goal

abbrev pub decreases-first_under : goal.decreases-first_under
decreases-first_under g l = l.depth
