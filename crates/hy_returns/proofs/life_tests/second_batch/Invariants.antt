use Rattle.hy_returns.proofs.life_tests.second_batch.Given as goal

-- the kit that was just made
abbrev pub ghosts-live_on-K-World : goal.ghosts-live_on-K-World
ghosts-live_on-K-World g a = record { passes = a.kit }

-- and the load
abbrev pub ghosts-live_on-K-Loaded : goal.ghosts-live_on-K-Loaded
ghosts-live_on-K-Loaded g a = record { load = a.load.now }
