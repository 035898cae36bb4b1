use Rattle.hy_rows.specs.declared.catalogue.TheConstants.{TABLES}
use Rattle.std.proofs.Common.{◌≡◌, ◌≤◌, map, take}
use Rattle.std.specs.Prelude.{vec_capacity, vec_len}
use Rattle.hy_rows.specs.Catalogue.{tables_by_file}
use Rattle.hy_files.specs.Directory.{AreFiles}
use Rattle.hy_files.proofs.directory.read_files.Given as goal

-- the texts so far are those of the first files
abbrev pub invariant-loop-table : goal.invariant-loop-table
invariant-loop-table g l = record {
  files : g.F.FileSystem.files l.system ≡ g.F.FileSystem.files l.fn.system;
  folders : g.F.FileSystem.folders l.system ≡ g.F.FileSystem.folders l.fn.system;
  unwritten : g.F.FileSystem.unwritten l.system ≡ g.F.FileSystem.unwritten l.fn.system;
  texts :
      AreFiles (g.F.FileSystem.files l.fn.system) l.directory (take l.table-index tables_by_file)
      (map (λ text. text.items) l.texts.items);
  room : TABLES ≤ vec_capacity l.texts;
  len : vec_len l.texts ≡ l.table-index;
}
