use Rattle.hy_trials.proofs.writer_tests.recovers_all.Given as goal

-- the kit that was just made
abbrev pub ghosts-recovers-K-World : goal.ghosts-recovers-K-World
ghosts-recovers-K-World g a = record { passes = a.kit }

-- and the load
abbrev pub ghosts-recovers-K-Loaded : goal.ghosts-recovers-K-Loaded
ghosts-recovers-K-Loaded g a = record { load = a.load.now }
