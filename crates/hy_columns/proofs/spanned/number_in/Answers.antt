use Rattle.std.proofs.Common.{ap, ◌∙◌, arith}
use Rattle.hy_page.specs.Bytes.{number_of}
use Rattle.hy_columns.proofs.FieldLaws.{width-few}
use Rattle.hy_columns.proofs.SpannedLaws.{row-bytes}
use Rattle.hy_columns.proofs.spanned.number_in.Goals as goal

pub number_on-requires : goal.number_on-requires
number_on-requires g c =
    let width = width-few c.args.column.width c.requires.width in
    (omega arith, (c.start_of-start.ensures.few, (c.requires.pages.sized, (omega (arith, c.start_of-start.ensures.within, c.requires.fits), (width.0, (width.1, (c.requires.size, c.requires.small)))))))

pub returns : goal.returns
returns g c =
    c.number_on.ensures
    ∙ ap number_of
    (row-bytes g.row.N c.args.column.segment.row_bytes c.args.pages.now c.args.slot c.requires.pages c.requires.size c.requires.small c.requires.used
    c.start_of-start.result c.args.column.offset c.args.column.width c.start_of-start.ensures.start c.requires.fits c.requires.live)
