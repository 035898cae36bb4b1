use Rattle.std.proofs.Common.{List, length, ap, ◌∙◌, arith, ℕ}
use Rattle.hy_rows.specs.Spelling.{rows_of}
use Rattle.hy_columns.specs.inside.Pages.{whole_row}
use Rattle.hy_columns.proofs.PageRows.{part-all}
use Rattle.hy_columns.proofs.SpannedLaws.{used-few}
use Rattle.hy_columns.proofs.reading.count_warehouse.Goals as goal

-- there are no more rows than used slots
pub returns-clause-few : goal.returns-clause-few
returns-clause-few g c =
    omega (
      arith,
      c.count_part.ensures.most,
      c.used_on.ensures,
      used-few g.row.N c.pages_of-pages.result.now c.pages_of-pages.ensures.sized c.pages_of-pages.ensures.few
          c.pages_of-pages.ensures.size.largest c.args.segment.row_bytes c.pages_of-pages.ensures.size.smallest c.pages_of-pages.ensures.slots,
    )

pub returns-clause-rows : goal.returns-clause-rows
returns-clause-rows g c =
    c.count_part.ensures.rows
    ∙ ap length (part-all g.row.N c.args.segment.row_bytes whole_row c.pages_of-pages.result.now c.used_on.result c.used_on.ensures)
    ∙ ap (λ (pages : List (List ℕ)). length (rows_of g.row.N c.args.segment.row_bytes whole_row pages)) c.pages_of-pages.ensures.pages
