use Rattle.hy_trials.proofs.writer_tests.handed.Given as goal

-- the kit that was just made
abbrev pub ghosts-hand_three-K-World : goal.ghosts-hand_three-K-World
ghosts-hand_three-K-World g a = record { passes = a.kit }

-- and the load
abbrev pub ghosts-hand_three-K-Loaded : goal.ghosts-hand_three-K-Loaded
ghosts-hand_three-K-Loaded g a = record { load = a.load.now }
