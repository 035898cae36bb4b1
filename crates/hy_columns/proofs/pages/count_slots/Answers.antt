use Rattle.std.proofs.Common.{◌≡◌, ℕ, length, ap, ◌∙◌, arith}
use Rattle.hy_columns.specs.inside.Pages.{AreUnspanned, rows_from, whole_row}
use Rattle.hy_columns.proofs.PageRows.{length-more, part-from}
use Rattle.hy_columns.proofs.SpannedLaws.{used-few}
use Rattle.hy_columns.proofs.pages.count_slots.Goals as goal

-- the rows on the next page are added to those so far
pub loop-done-preserved : goal.loop-done-preserved
loop-done-preserved g c =
    let are : AreUnspanned g.row.N c.args.row_bytes c.args.pages.now =
    record { slots = c.requires.slots; unspanned = c.requires.unspanned; sized = c.requires.sized; few = c.requires.few } in
    record {
      within = omega (arith, c.loop-done.invariant.within, c.min-more.ensures);
      rows = length-more g.row.N c.args.row_bytes whole_row c.args.pages.now are c.requires.size
          c.loop-done.rows c.count_page-rows.result c.args.first c.loop-done.done c.min-more.result c.slots_from.result.now
          (omega (arith, c.requires.within, c.loop-done-test.true)) (omega (arith, c.min-more.ensures, c.left_on.ensures.left))
          c.slots_from.ensures.bytes c.loop-done.invariant.rows c.count_page-rows.ensures.rows;
      most = omega (arith, c.loop-done.invariant.most, c.count_page-rows.ensures.most);
    }

pub returns-clause-rows : goal.returns-clause-rows
returns-clause-rows g c =
    let end : c.loop-done.done ≡ c.args.count = omega (arith, c.loop-done-test.false, c.loop-done.invariant.within) in
    c.loop-done.invariant.rows
    ∙ ap (λ (done : ℕ). length (rows_from g.row.N c.args.row_bytes whole_row c.args.pages.now c.args.first done)) end
    ∙ ap length (part-from g.row.N c.args.row_bytes whole_row c.args.pages.now c.args.first c.args.count c.requires.within)

-- there are few slots
pub overflow_add-slot : goal.overflow_add-slot
overflow_add-slot g c =
    omega (
      arith,
      c.requires.within,
      c.loop-done-test.true,
      used-few g.row.N c.args.pages.now c.requires.sized c.requires.few c.requires.small c.args.row_bytes c.requires.size c.requires.slots,
    )
