use Rattle.hy_answers.proofs.TextLaws.{field-written}
use Rattle.hy_answers.proofs.writing.write_field.Goals as goal
use Rattle.hy_answers.proofs.writing.write_field.Goals.{in-Err, in-Ok}

pub returns : goal.returns
returns c = elim c.match-write_field.branch [
  | in-Ok w ↦
      let wrote = w.in-Ok.ensures in
      rw w.result-is (λ text fields few has. field-written text fields c.args.writer.now c.write_field.new.self
      c.args.field.now few has wrote.text wrote.same wrote.count wrote.wrote wrote.stays)
  | in-Err w ↦ rw w.result-is tt
]
