use Rattle.csv.specs.Records.{fields_of}
use Rattle.hy_csv.proofs.RecordLaws.{reads_next}
use Rattle.hy_csv.proofs.reading.next_record.Goals as goal
use Rattle.hy_csv.proofs.reading.next_record.Goals.{in-Ok, in-Err}

pub returns : goal.returns
returns c = elim c.match-read_byte_record.branch [
  | in-Ok w ↦ rw w.result-is (λ records stands. reads_next c.args.reader.now c.read_byte_record.new.self
      w.in-Ok.found (fields_of c.read_byte_record.new.row) records stands
      (w.in-Ok.ensures.reads stands.trim stands.ready) (w.in-Ok.ensures.ready stands.trim))
  | in-Err w ↦ rw w.result-is tt
]
