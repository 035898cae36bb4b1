use Rattle.hy_passes.proofs.tests.lists_are_the_projections_of_the_journal.Given as goal

-- the kit that was just made
abbrev pub ghosts-two_threads : goal.ghosts-two_threads
ghosts-two_threads g a = record { passes = a.kit }
