use Rattle.std.proofs.Common.{◌≡◌, ℕ, List, ◌∷◌, ◌++◌, [], OnOk, subst}
use Rattle.hy_rows.specs.Texts.{text_of}
use Rattle.hy_columns.proofs.SpannedLaws.{row-bytes}
use Rattle.hy_columns.proofs.spanned.copy_text.Goals as goal

pub returns : goal.returns
returns g c =
    subst (λ (bytes : List ℕ). OnOk c.push_field.result (c.push_field.new.self ≡ c.args.texts.now ++ text_of bytes ∷ []))
    (row-bytes g.row.N c.args.column.segment.row_bytes c.args.pages.now c.args.slot c.requires.pages c.requires.size c.requires.small c.requires.used
    c.start_of-start.result c.args.column.offset c.args.column.width c.start_of-start.ensures.start c.requires.fits c.requires.live)
    c.push_field.ensures.ok
