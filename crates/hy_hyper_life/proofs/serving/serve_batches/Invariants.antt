use Rattle.hy_hyper_life.proofs.serving.serve_batches.Given as goal

-- the kit that was just made
abbrev pub ghosts-serve_in-K-World : goal.ghosts-serve_in-K-World
ghosts-serve_in-K-World g a = record { passes = a.kit }

-- and the load
abbrev pub ghosts-serve_in-K-Loaded : goal.ghosts-serve_in-K-Loaded
ghosts-serve_in-K-Loaded g a = record { load = a.load.now }
