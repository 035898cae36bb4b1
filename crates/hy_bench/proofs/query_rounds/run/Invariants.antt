use Rattle.hy_bench.proofs.query_rounds.run.Given as goal

-- the kit that was just made
abbrev pub ghosts-questions-K-World : goal.ghosts-questions-K-World
ghosts-questions-K-World g a = record { passes = a.kit }

-- and the load
abbrev pub ghosts-questions-K-Loaded : goal.ghosts-questions-K-Loaded
ghosts-questions-K-Loaded g a = record { load = a.load.now }
