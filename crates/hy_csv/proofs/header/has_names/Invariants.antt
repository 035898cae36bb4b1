use Rattle.std.proofs.Common.{◌≡◌, drop, length}
use Rattle.csv.specs.Records.{fields_of}
use Rattle.hy_csv.specs.Texts.{has_fields}
use Rattle.hy_csv.specs.inside.Names.{names_in}
use Rattle.hy_csv.proofs.header.has_names.Given as goal

abbrev pub invariant-loop-place : goal.invariant-loop-place
invariant-loop-place l = (length (fields_of l.fields) ≡ length l.columns)
    × (has_fields (fields_of l.fields) (names_in l.columns)
    ≡ has_fields (drop l.place (fields_of l.fields)) (drop l.place (names_in l.columns)))
