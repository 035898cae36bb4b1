use Rattle.std.proofs.Common.{rules, inr}
use Rattle.hy_program.proofs.ScriptLaws.{broken_nine}
use Rattle.hy_program.proofs.reading.read_all.Goals as goal

-- the file was read, and the rows of the load are broken
pub returns-in_ok-_bytes-in-Err-Refused-BadLoad-clause-fault :
    goal.returns-in_ok-_bytes-in-Err-Refused-BadLoad-clause-fault
returns-in_ok-_bytes-in-Err-Refused-BadLoad-clause-fault g c =
    let known = g.F.FileSystem.files c.args.system.now in
    let file = c.in_ok-_bytes-in-Err-Refused-BadLoad in
    inr (
      (file._bytes.items, rw c.in-Err-Refused-BadLoad.ensures.files at file.ensures.read),
      broken_nine c.args.directory.now known c.in-Err-Refused-BadLoad.field-0 c.in-Err-Refused-BadLoad.fault
          (search rules) c.in-Err-Refused-BadLoad.ensures.load,
    )
