use Rattle.std.proofs.Common.{◌≡◌, ℕ, ◌≤◌, Bool, true, false, length, ap, ◌∙◌, arith}
use Rattle.std.specs.Int.{from_bool}
use Rattle.hy_columns.specs.inside.Pages.{rows_from, whole_row}
use Rattle.hy_columns.proofs.PageRows.{part-from}
use Rattle.hy_columns.proofs.SpannedLaws.{counted-next, used-few}
use Rattle.hy_columns.proofs.spanned.count_spanned.Goals as goal

-- the row of the next slot, if there is one, is added to those so far
pub loop-place-preserved : goal.loop-place-preserved
loop-place-preserved g c = record {
  rows = counted-next g.row.N c.args.row_bytes c.args.pages.now c.args.first c.loop-place.place c.loop-place.rows c.from-rows.result
      c.has_row.result c.has_row.ensures c.from-rows.ensures c.loop-place.invariant.rows;
  most = omega (arith, c.loop-place.invariant.most, few c.has_row.result c.from-rows.result c.from-rows.ensures);
}
  where
    few : (live : Bool) (more : ℕ) → more ≡ from_bool live → more ≤ 1
    few true more is = omega (arith, is)
    few false more is = omega (arith, is)

pub returns-clause-rows : goal.returns-clause-rows
returns-clause-rows g c =
    let end : c.loop-place.place ≡ c.args.count = omega (arith, c.loop-place-test.false, c.loop-place.auto.place-end) in
    c.loop-place.invariant.rows
    ∙ ap (λ (place : ℕ). length (rows_from g.row.N c.args.row_bytes whole_row c.args.pages.now c.args.first place)) end
    ∙ ap length (part-from g.row.N c.args.row_bytes whole_row c.args.pages.now c.args.first c.args.count c.requires.within)

-- there are few slots
pub overflow_add-first : goal.overflow_add-first
overflow_add-first g c =
    omega (
      arith,
      c.requires.within,
      c.loop-place-test.true,
      used-few g.row.N c.args.pages.now c.requires.sized c.requires.few c.requires.small c.args.row_bytes c.requires.size c.requires.slots,
    )
