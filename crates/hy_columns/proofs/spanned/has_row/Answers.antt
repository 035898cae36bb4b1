use Rattle.hy_columns.proofs.SpannedLaws.{mark-read}
use Rattle.hy_columns.proofs.spanned.has_row.Goals as goal

pub returns : goal.returns
returns g c =
    mark-read g.row.N c.args.row_bytes c.args.pages.now c.args.slot c.requires.pages c.requires.size c.requires.small c.requires.used
    c.is_live.result c.start_of.result c.bytes_on.result.now c.start_of.ensures.start c.is_live.ensures c.bytes_on.ensures
