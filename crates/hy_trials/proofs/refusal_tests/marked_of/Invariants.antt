use Rattle.hy_trials.proofs.refusal_tests.marked_of.Given as goal

-- the kit that was just made
abbrev pub ghosts-marked_in-K-World : goal.ghosts-marked_in-K-World
ghosts-marked_in-K-World g a = record { passes = a.kit }

-- and the load
abbrev pub ghosts-marked_in-K-Loaded : goal.ghosts-marked_in-K-Loaded
ghosts-marked_in-K-Loaded g a = record { load = a.load.now }
