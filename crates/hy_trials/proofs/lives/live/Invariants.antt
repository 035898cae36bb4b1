use Rattle.hy_trials.proofs.lives.live.Given as goal

-- the kit that was just made
abbrev pub ghosts-live_in-K-World : goal.ghosts-live_in-K-World
ghosts-live_in-K-World g a = record { passes = a.kit }

-- and the load
abbrev pub ghosts-live_in-K-Loaded : goal.ghosts-live_in-K-Loaded
ghosts-live_in-K-Loaded g a = record { load = a.load.now }
