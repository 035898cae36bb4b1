use Rattle.hy_hyper.proofs.forked.run_on.Given as goal

-- the kit that was just made
abbrev pub ghosts-run_in_world-K-World : goal.ghosts-run_in_world-K-World
ghosts-run_in_world-K-World g a = record { passes = a.kit }

-- and the load
abbrev pub ghosts-run_in_world-K-Loaded : goal.ghosts-run_in_world-K-Loaded
ghosts-run_in_world-K-Loaded g a = record { load = a.load.now }
