use Rattle.hy_trials.proofs.refusal_tests.recovered_once.Given as goal

-- the kit that was just made
abbrev pub ghosts-recover_marked-K-World : goal.ghosts-recover_marked-K-World
ghosts-recover_marked-K-World g a = record { passes = a.kit }

-- and the load
abbrev pub ghosts-recover_marked-K-Loaded : goal.ghosts-recover_marked-K-Loaded
ghosts-recover_marked-K-Loaded g a = record { load = a.load.now }
