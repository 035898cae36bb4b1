use Rattle.std.proofs.Common.{◌≡◌, ◌+◌, ◌++◌, ◌∷◌, [], map, take, get_or, sym, ap, ◌∙◌, arith}
use Rattle.std.proofs.lemmas.List.{map_more, take-map, take_more}
use Rattle.hy_rows.specs.declared.catalogue.Table.TheVariants as table
use Rattle.hy_rows.specs.Catalogue.{tables_by_file}
use Rattle.hy_files.specs.Faults.{IsUnwritten}
use Rattle.hy_files.proofs.DirectoryLaws.{AreFiles-kept, AreFiles-push, IfErr-this, IsUnwritten-at, KeepsOtherFiles-push, KeepsOtherFiles-take, names-differ}
use Rattle.hy_files.proofs.directory.write_files.Goals as goal

-- the first files were written, and the one of this table wasn't
pub returns-in_err-write_file-clause-others : goal.returns-in_err-write_file-clause-others
returns-in_err-write_file-clause-others g c =
    let old = g.F.FileSystem.files c.args.system.now in
    let before = g.F.FileSystem.files c.loop-number.system in
    let new = g.F.FileSystem.files c.write_file.new.system in
    let directory = c.args.directory.now in
    let number = c.loop-number.number in
    let others =
    KeepsOtherFiles-push old before new directory (take number tables_by_file) (get_or tables_by_file number table.Warehouse)
    c.loop-number.invariant.others c.in_err-write_file.ensures.others in
    KeepsOtherFiles-take old new directory (number + 1) tables_by_file
    (rw (take_more tables_by_file number table.Warehouse c.loop-number-test.true) others)

pub returns-in_err-write_file-clause-fault : goal.returns-in_err-write_file-clause-fault
returns-in_err-write_file-clause-fault g c =
    let old = g.F.FileSystem.files c.args.system.now in
    let before = g.F.FileSystem.files c.loop-number.system in
    let new = g.F.FileSystem.files c.write_file.new.system in
    let directory = c.args.directory.now in
    let texts = map (λ text. text.items) c.args.texts.now in
    let number = c.loop-number.number in
    let within = c.loop-number-test.true in
    let own = get_or tables_by_file number table.Warehouse in
    let front = take number tables_by_file in
    let kept =
    AreFiles-kept before new directory own front (take number texts) (names-differ number within)
    c.in_err-write_file.ensures.others c.loop-number.invariant.files in
    let others =
    KeepsOtherFiles-push old before new directory front own c.loop-number.invariant.others
    c.in_err-write_file.ensures.others in
    IfErr-this _ _ (IsUnwritten old new directory texts) c.from_residual.ensures.1
    (IsUnwritten-at old new directory texts number _ within kept (rw (take_more tables_by_file number table.Warehouse within) others)
    c.in_err-write_file.ensures.fault)

-- one file more was written
pub loop-number-preserved : goal.loop-number-preserved
loop-number-preserved g c =
    let before = g.F.FileSystem.files c.loop-number.system in
    let now = g.F.FileSystem.files c.write_file.new.system in
    let directory = c.args.directory.now in
    let texts = map (λ text. text.items) c.args.texts.now in
    let number = c.loop-number.number in
    let own = get_or tables_by_file number table.Warehouse in
    let kept =
    AreFiles-kept before now directory own (take number tables_by_file) (take number texts)
    (names-differ number c.loop-number-test.true) c.in_ok-write_file.ensures.others c.loop-number.invariant.files in
    let all = c.args.texts.now in
    let text = c.deref.result.now in
    let one_more : take (number + 1) texts ≡ take number texts ++ text ∷ [] =
    take-map (λ text. text.items) (number + 1) all
    ∙ map_more (λ text. text.items) all number c.index-texts-number.result (omega arith)
    ∙ ap (λ front. front ++ (get_or all number c.index-texts-number.result).items ∷ [])
    (sym (take-map (λ text. text.items) number all))
    ∙ ap (λ last. take number texts ++ last ∷ []) (sym c.deref.ensures.value) in
    let pushed =
    AreFiles-push now directory (take number tables_by_file) (take number texts) own text kept
    c.in_ok-write_file.ensures.bytes in
    record {
      files = rw (take_more tables_by_file number table.Warehouse c.loop-number-test.true, one_more) pushed;
      others =
          rw (take_more tables_by_file number table.Warehouse c.loop-number-test.true)
          (KeepsOtherFiles-push (g.F.FileSystem.files c.args.system.now) before now directory (take number tables_by_file) own
          c.loop-number.invariant.others c.in_ok-write_file.ensures.others);
      folders = c.in_ok-write_file.ensures.folders ∙ c.loop-number.invariant.folders;
      unwritten = c.in_ok-write_file.ensures.written ∙ c.loop-number.invariant.unwritten;
    }
