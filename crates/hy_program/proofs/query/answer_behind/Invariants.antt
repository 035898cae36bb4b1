use Rattle.hy_program.proofs.query.answer_behind.Given as goal

-- the kit that was just made
abbrev pub ghosts-answer_on-K-World : goal.ghosts-answer_on-K-World
ghosts-answer_on-K-World g a = record { passes = a.kit }

-- and the load
abbrev pub ghosts-answer_on-K-Loaded : goal.ghosts-answer_on-K-Loaded
ghosts-answer_on-K-Loaded g a = record { load = a.load.now }
