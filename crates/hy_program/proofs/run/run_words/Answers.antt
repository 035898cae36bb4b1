-- Memory that ran out while the words were read is a refusal of any words.
use Rattle.std.proofs.Common.{refl, inl, inr}
use Rattle.hy_schema.specs.declared.refusal.Refusal.TheVariants as refusals
use Rattle.hy_program.specs.declared.fault.RunFault.TheVariants as fault
use Rattle.hy_program.proofs.run.run_words.Goals as goal

pub returns-clause-refused : goal.returns-clause-refused
returns-clause-refused g c = λ ended.
    (fault.Refused refusals.NoMemory, inl (refl, refl, refl), c.explain-in-Err-NoMemory.ensures.refused ended)

pub returns-clause-writer_failed : goal.returns-clause-writer_failed
returns-clause-writer_failed g c = λ ended. inr (fault.Refused refusals.NoMemory, inl (refl, refl, refl))

pub returns-in-Ok-clause-refused : goal.returns-in-Ok-clause-refused
returns-in-Ok-clause-refused g c = λ ended. (
  c.in-Err.fault,
  inr (c.in-Ok.line, c.in-Ok.ensures.read, c.in-Err.ensures.files, c.in-Err.ensures.fault),
  c.explain.ensures.refused ended,
)

pub returns-in-Ok-clause-writer_failed : goal.returns-in-Ok-clause-writer_failed
returns-in-Ok-clause-writer_failed g c = λ ended.
    inr (c.in-Err.fault, inr (c.in-Ok.line, c.in-Ok.ensures.read, c.in-Err.ensures.files, c.in-Err.ensures.fault))

pub returns-in-Ok-clause-failed : goal.returns-in-Ok-clause-failed
returns-in-Ok-clause-failed g c = λ ended.
    c.explain.ensures.failed (g.O.Output.has_failed c.run_line.new.out) c.in-Err.ensures.failed ended

pub returns-clause-failed : goal.returns-clause-failed
returns-clause-failed g c = λ ended.
    c.explain-in-Err-NoMemory.ensures.failed (g.O.Output.has_failed c.args.out.now) tt ended
