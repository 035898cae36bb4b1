use Rattle.hy_cli.specs.CommandLine.{texts_of}
use Rattle.hy_files.specs.MemoryFiles.{files_on}
use Rattle.hy_scenarios.proofs.ScenarioLaws.{changed-is}
use Rattle.hy_scenarios.proofs.scenario.do_change.Goals as goal

pub returns : goal.returns
returns c = changed-is c.args.path.now (texts_of c.args.body.now) (files_on c.args.stored.now)
    (files_on c.file_at.new.stored) (files_on c.put.new.stored) c.in-Some.bytes.items c.in-Some-2.changed.items
    (rw c.in-Some.is at c.in_ok-bytes.ensures.file)
    (rw (
      c.in-Some-2.is,
      c.deref.ensures.value,
      c.deref-2.ensures.value,
      c.deref-3.ensures.value,
      c.in_ok-old.ensures,
      c.in_ok-new.ensures,
    ) at c.in_ok-changed.ensures)
    c.file_at.ensures.stays (rw c.deref-4.ensures.value at c.in_ok-put.ensures)
