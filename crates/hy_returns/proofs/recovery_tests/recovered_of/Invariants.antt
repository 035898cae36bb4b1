use Rattle.hy_returns.proofs.recovery_tests.recovered_of.Given as goal

-- the kit that was just made
abbrev pub ghosts-recover_in-K-World : goal.ghosts-recover_in-K-World
ghosts-recover_in-K-World g a = record { passes = a.kit }

-- and the load
abbrev pub ghosts-recover_in-K-Loaded : goal.ghosts-recover_in-K-Loaded
ghosts-recover_in-K-Loaded g a = record { load = a.load.now }
