use Rattle.hy_answers.proofs.TextLaws.{record-written}
use Rattle.hy_answers.proofs.writing.end_record.Goals as goal
use Rattle.hy_answers.proofs.writing.end_record.Goals.{in-Err, in-Ok}

pub returns : goal.returns
returns c = elim c.match-end_record.branch [
  | in-Ok w ↦
      let ended = w.in-Ok.ensures in
      rw w.result-is (λ text fields has. record-written text fields c.args.writer.now c.end_record.new.self has ended.bytes
      ended.fields ended.wrote ended.same)
  | in-Err w ↦ rw w.result-is tt
]
