use Rattle.hy_drills.proofs.order_tests.what_waits_is_done_after_the_close.Given as goal

-- the kit that was just made
abbrev pub ghosts-after_close-K-World : goal.ghosts-after_close-K-World
ghosts-after_close-K-World g a = record { passes = a.kit }

-- and the load
abbrev pub ghosts-after_close-K-Loaded : goal.ghosts-after_close-K-Loaded
ghosts-after_close-K-Loaded g a = record { load = a.load.now }
