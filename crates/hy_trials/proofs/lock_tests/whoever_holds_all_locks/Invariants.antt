use Rattle.hy_trials.proofs.lock_tests.whoever_holds_all_locks.Given as goal

-- the kit that was just made
abbrev pub ghosts-run_behind_locks-K-World : goal.ghosts-run_behind_locks-K-World
ghosts-run_behind_locks-K-World g a = record { passes = a.kit }

-- and the load
abbrev pub ghosts-run_behind_locks-K-Loaded : goal.ghosts-run_behind_locks-K-Loaded
ghosts-run_behind_locks-K-Loaded g a = record { load = a.load.now }
