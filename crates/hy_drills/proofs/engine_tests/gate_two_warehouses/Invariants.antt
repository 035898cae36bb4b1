use Rattle.hy_drills.proofs.engine_tests.gate_two_warehouses.Given as goal

-- the kit that was just made
abbrev pub ghosts-two_warehouses-K-World : goal.ghosts-two_warehouses-K-World
ghosts-two_warehouses-K-World g a = record { passes = a.kit }

-- and the load
abbrev pub ghosts-two_warehouses-K-Loaded : goal.ghosts-two_warehouses-K-Loaded
ghosts-two_warehouses-K-Loaded g a = record { load = a.load.now }
