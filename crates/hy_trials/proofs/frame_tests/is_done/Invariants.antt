use Rattle.hy_trials.proofs.frame_tests.is_done.Given as goal

-- the kit that was just made
abbrev pub ghosts-is_done_in-K-World : goal.ghosts-is_done_in-K-World
ghosts-is_done_in-K-World g a = record { passes = a.kit }

-- and the load
abbrev pub ghosts-is_done_in-K-Loaded : goal.ghosts-is_done_in-K-Loaded
ghosts-is_done_in-K-Loaded g a = record { load = a.load.now }
