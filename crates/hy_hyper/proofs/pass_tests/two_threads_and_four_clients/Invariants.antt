use Rattle.hy_hyper.proofs.pass_tests.two_threads_and_four_clients.Given as goal

-- the kit that was just made
abbrev pub ghosts-two_threads-K-World : goal.ghosts-two_threads-K-World
ghosts-two_threads-K-World g a = record { passes = a.kit }

-- and the load
abbrev pub ghosts-two_threads-K-Loaded : goal.ghosts-two_threads-K-Loaded
ghosts-two_threads-K-Loaded g a = record { load = a.load.now }
