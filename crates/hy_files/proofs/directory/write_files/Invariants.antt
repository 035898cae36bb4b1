use Rattle.std.proofs.Common.{◌≡◌, map, take}
use Rattle.hy_rows.specs.Catalogue.{tables_by_file}
use Rattle.hy_files.specs.Directory.{AreFiles, KeepsOtherFiles}
use Rattle.hy_files.proofs.directory.write_files.Given as goal

-- the first files have their texts, and the other files are as they were
abbrev pub invariant-loop-number : goal.invariant-loop-number
invariant-loop-number g l = record {
  files :
      AreFiles (g.F.FileSystem.files l.system) l.directory (take l.number tables_by_file)
      (take l.number (map (λ text. text.items) l.texts));
  others : KeepsOtherFiles (g.F.FileSystem.files l.fn.system) (g.F.FileSystem.files l.system) l.directory (take l.number tables_by_file);
  folders : g.F.FileSystem.folders l.system ≡ g.F.FileSystem.folders l.fn.system;
  unwritten : g.F.FileSystem.unwritten l.system ≡ g.F.FileSystem.unwritten l.fn.system;
}
