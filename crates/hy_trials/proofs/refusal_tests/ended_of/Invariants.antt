use Rattle.hy_trials.proofs.refusal_tests.ended_of.Given as goal

-- the kit that was just made
abbrev pub ghosts-ended_in-K-World : goal.ghosts-ended_in-K-World
ghosts-ended_in-K-World g a = record { passes = a.kit }

-- and the load
abbrev pub ghosts-ended_in-K-Loaded : goal.ghosts-ended_in-K-Loaded
ghosts-ended_in-K-Loaded g a = record { load = a.load.now }
