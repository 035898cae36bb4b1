use Rattle.hy_drills.proofs.refusal_tests.jobs_that_come_back.Given as goal

-- the kit that was just made
abbrev pub ghosts-closes-K-World : goal.ghosts-closes-K-World
ghosts-closes-K-World g a = record { passes = a.kit }

-- and the load
abbrev pub ghosts-closes-K-Loaded : goal.ghosts-closes-K-Loaded
ghosts-closes-K-Loaded g a = record { load = a.load.now }
