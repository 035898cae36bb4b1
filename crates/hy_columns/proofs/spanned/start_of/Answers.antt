use Rattle.std.proofs.Common.{sym, arith}
use Rattle.hy_columns.proofs.SpannedLaws.{bytes-few, start-within}
use Rattle.hy_relation.proofs.SlotLaws.{start-spanned}
use Rattle.hy_columns.proofs.spanned.start_of.Goals as goal

pub overflow_add-result : goal.overflow_add-result
overflow_add-result g c =
    omega (
      arith,
      start-within g.row.N c.args.row_bytes c.args.pages.now c.args.slot c.requires.pages c.requires.size c.requires.small c.requires.used,
      bytes-few g.row.N c.args.pages.now c.requires.pages.sized c.requires.pages.few c.requires.small,
    )

pub overflow_mul-result : goal.overflow_mul-result
overflow_mul-result g c =
    omega (
      arith,
      start-within g.row.N c.args.row_bytes c.args.pages.now c.args.slot c.requires.pages c.requires.size c.requires.small c.requires.used,
      bytes-few g.row.N c.args.pages.now c.requires.pages.sized c.requires.pages.few c.requires.small,
    )

pub returns-clause-start : goal.returns-clause-start
returns-clause-start g c = sym (start-spanned g.row.N c.args.row_bytes c.args.slot c.requires.pages.spanned)

pub returns-clause-within : goal.returns-clause-within
returns-clause-within g c =
    start-within g.row.N c.args.row_bytes c.args.pages.now c.args.slot c.requires.pages c.requires.size c.requires.small c.requires.used

pub returns-clause-few : goal.returns-clause-few
returns-clause-few g c =
    bytes-few g.row.N c.args.pages.now c.requires.pages.sized c.requires.pages.few c.requires.small
