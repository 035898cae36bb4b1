use Rattle.hy_passes.proofs.tests.passes_go_from_thread_to_thread.Given as goal

-- the kit that was just made
abbrev pub ghosts-handed_over : goal.ghosts-handed_over
ghosts-handed_over g a = record { passes = a.kit }
