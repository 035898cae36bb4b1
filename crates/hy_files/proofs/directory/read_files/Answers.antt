use Rattle.std.proofs.Common.{take, get_or, ◌∙◌, arith}
use Rattle.std.proofs.lemmas.List.{map_push, take_more}
use Rattle.hy_rows.specs.declared.catalogue.Table.TheVariants as table
use Rattle.hy_rows.specs.Catalogue.{tables_by_file}
use Rattle.hy_files.specs.Faults.{IsUnread}
use Rattle.hy_files.proofs.DirectoryLaws.{AreFiles-push, IfErr-this, IsUnread-at}
use Rattle.hy_files.proofs.directory.read_files.Goals as goal

-- the first file that isn't there is that of this table
pub returns-in_err-bytes-clause-fault : goal.returns-in_err-bytes-clause-fault
returns-in_err-bytes-clause-fault g c =
    let known = g.F.FileSystem.files c.args.system.now in
    let directory = c.args.directory.now in
    let why = rw c.loop-table.invariant.files at c.in_err-bytes.ensures.fault in
    IfErr-this _ _ (IsUnread known directory) c.from_residual-in_err-bytes.ensures.1
    (IsUnread-at known directory _ c.loop-table.table-index _ c.loop-table-test.true c.loop-table.invariant.texts why)

-- one file more was read
pub loop-table-preserved : goal.loop-table-preserved
loop-table-preserved g c =
    let known = g.F.FileSystem.files c.args.system.now in
    let directory = c.args.directory.now in
    let number = c.loop-table.table-index in
    let own = get_or tables_by_file number table.Warehouse in
    let here = rw c.loop-table.invariant.files at c.in_ok-bytes.ensures.bytes in
    let pushed =
    AreFiles-push known directory (take number tables_by_file) _ own c.in_ok-bytes.bytes.items c.loop-table.invariant.texts
    here in
    record {
      files = c.in_ok-bytes.ensures.files ∙ c.loop-table.invariant.files;
      folders = c.in_ok-bytes.ensures.folders ∙ c.loop-table.invariant.folders;
      unwritten = c.in_ok-bytes.ensures.unwritten ∙ c.loop-table.invariant.unwritten;
      texts =
          rw (take_more tables_by_file number table.Warehouse c.loop-table-test.true, c.push_reserved.ensures.items, map_push)
          pushed;
      room = omega arith;
      len = omega arith;
    }
