use Rattle.std.proofs.Common.{◌≡◌, ℕ, List, map, refl, sym, ap, ◌∙◌}
use Rattle.hy_rows.specs.Columns.{domain_of, text_at, value_at}
use Rattle.hy_rows.specs.declared.column.Domain.{Domain}
use Rattle.hy_rows.specs.declared.value.Value.{Value}
use Rattle.hy_rows.specs.declared.value.Value.TheVariants.{Text}
use Rattle.hy_columns.specs.Columns.{values_of}
use Rattle.std.specs.List.{flat_map}
use Rattle.hy_columns.specs.inside.Scans.{read_in}
use Rattle.hy_columns.proofs.TableLaws.{map-blocks}
use Rattle.hy_columns.proofs.column.spanned_values.Goals as goal
use Rattle.hy_columns.proofs.column.spanned_values.Goals.{in-Unsigned+in_ok-read_number_blocks-in-Unsigned, in-Signed+in_ok-read_number_blocks-in-Signed, in-Text+in_ok-copy_text_blocks-in-Text, in-OneOf+in_ok-copy_text_blocks-in-OneOf}

-- the values are those that were read, as the column is
pub returns : goal.returns
returns g c =
    let offset : ℕ = c.args.field.offset in
    let read : Domain → List Value =
    λ domain. flat_map (read_in g.row.N c.args.segment (λ bytes. value_at (domain_of domain) bytes offset) c.args.scan.now.pages) c.args.blocks.now in
    let texts : (width : ℕ) → map Text (flat_map (read_in g.row.N c.args.segment (λ row. text_at row offset width) c.args.scan.now.pages) c.args.blocks.now)
    ≡ flat_map (read_in g.row.N c.args.segment (λ row. Text (text_at row offset width)) c.args.scan.now.pages) c.args.blocks.now =
    λ width. map-blocks g.row.N c.args.segment Text (λ row. text_at row offset width) (λ row. Text (text_at row offset width)) (λ row. refl) c.args.scan.now.pages c.args.blocks.now in
    elim c.match-field.branch [
      | in-Unsigned+in_ok-read_number_blocks-in-Unsigned w ↦
          ap values_of w.values-is ∙ w.in_ok-read_number_blocks-in-Unsigned.ensures ∙ ap read (sym w.in-Unsigned.is)
      | in-Signed+in_ok-read_number_blocks-in-Signed w ↦
          ap values_of w.values-is ∙ w.in_ok-read_number_blocks-in-Signed.ensures ∙ ap read (sym w.in-Signed.is)
      | in-Text+in_ok-copy_text_blocks-in-Text w ↦
          ap values_of w.values-is ∙ ap (map Text) w.in_ok-copy_text_blocks-in-Text.ensures ∙ texts w.in-Text.width ∙ ap read (sym w.in-Text.is)
      | in-OneOf+in_ok-copy_text_blocks-in-OneOf w ↦
          ap values_of w.values-is ∙ ap (map Text) w.in_ok-copy_text_blocks-in-OneOf.ensures ∙ texts w.in-OneOf.width ∙ ap read (sym w.in-OneOf.is)
    ]
