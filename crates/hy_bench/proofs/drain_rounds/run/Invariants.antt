use Rattle.hy_bench.proofs.drain_rounds.run.Given as goal

-- the kit that was just made
abbrev pub ghosts-drains-K-World : goal.ghosts-drains-K-World
ghosts-drains-K-World a = record { passes = a.kit }

-- and the load
abbrev pub ghosts-drains-K-Loaded : goal.ghosts-drains-K-Loaded
ghosts-drains-K-Loaded a = record { load = a.load.now }
