use Rattle.std.proofs.Common.{◌≡◌, map, take}
use Rattle.std.specs.Prelude.{string_bytes}
use Rattle.hy_rows.specs.Catalogue.{tables_by_file}
use Rattle.hy_files_sums.specs.Sums.{sums_text}
use Rattle.hy_files_sums.proofs.sums.sums_of.Given as goal

abbrev pub invariant-loop-place : goal.invariant-loop-place
invariant-loop-place l = string_bytes l.sums
    ≡ sums_text (take l.place tables_by_file) (take l.place (map (λ text. text.items) l.texts))
