use Rattle.hy_program.proofs.query.answer.Given as goal

-- the kit that was just made
abbrev pub ghosts-answer_in-K-World : goal.ghosts-answer_in-K-World
ghosts-answer_in-K-World g a = record { passes = a.kit }

-- and the load
abbrev pub ghosts-answer_in-K-Loaded : goal.ghosts-answer_in-K-Loaded
ghosts-answer_in-K-Loaded g a = record { load = a.load.now }
