use Rattle.hy_drills.proofs.queue_tests.jobs_of_all_clients_but_one_wait.Given as goal

-- the kit that was just made
abbrev pub ghosts-fills-K-World : goal.ghosts-fills-K-World
ghosts-fills-K-World g a = record { passes = a.kit }

-- and the load
abbrev pub ghosts-fills-K-Loaded : goal.ghosts-fills-K-Loaded
ghosts-fills-K-Loaded g a = record { load = a.load.now }
