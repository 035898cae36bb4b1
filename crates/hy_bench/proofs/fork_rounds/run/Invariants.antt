use Rattle.hy_bench.proofs.fork_rounds.run.Given as goal

-- the kit that was just made
abbrev pub ghosts-forks-K-World : goal.ghosts-forks-K-World
ghosts-forks-K-World a = record { passes = a.kit }

-- and the load
abbrev pub ghosts-forks-K-Loaded : goal.ghosts-forks-K-Loaded
ghosts-forks-K-Loaded a = record { load = a.load.now }
