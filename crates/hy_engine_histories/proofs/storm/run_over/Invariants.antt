use Rattle.hy_engine_histories.proofs.storm.run_over.Given as goal

-- the kit that was just made
abbrev pub ghosts-storm_in-K-World : goal.ghosts-storm_in-K-World
ghosts-storm_in-K-World g a = record { passes = a.kit }

-- and the load
abbrev pub ghosts-storm_in-K-Loaded : goal.ghosts-storm_in-K-Loaded
ghosts-storm_in-K-Loaded g a = record { load = a.load.now }
