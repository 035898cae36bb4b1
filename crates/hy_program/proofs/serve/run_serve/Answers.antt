-- The output is blamed where the service blames it.
use Rattle.hy_program.proofs.serve.run_serve.Goals as goal

pub returns-in-Err-clause-failed : goal.returns-in-Err-clause-failed
returns-in-Err-clause-failed g c =
    c.of_life.ensures.unblamed (g.O.Output.has_failed c.serve_files.new.out) c.in-Err.ensures.blamed
