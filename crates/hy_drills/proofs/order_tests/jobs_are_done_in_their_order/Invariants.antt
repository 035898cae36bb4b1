use Rattle.hy_drills.proofs.order_tests.jobs_are_done_in_their_order.Given as goal

-- the kit that was just made
abbrev pub ghosts-in_order-K-World : goal.ghosts-in_order-K-World
ghosts-in_order-K-World g a = record { passes = a.kit }

-- and the load
abbrev pub ghosts-in_order-K-Loaded : goal.ghosts-in_order-K-Loaded
ghosts-in_order-K-Loaded g a = record { load = a.load.now }
