use Rattle.std.proofs.Common.{◌≡◌, ℕ, ◌++◌, ap, ◌∙◌, arith}
use Rattle.hy_columns.specs.inside.Pages.{rows_from}
use Rattle.hy_columns.specs.inside.Spanned.{text_in}
use Rattle.hy_columns.proofs.PageRows.{part-from}
use Rattle.hy_columns.proofs.SpannedLaws.{rows-next, used-few}
use Rattle.hy_columns.proofs.spanned.copy_texts.Goals as goal

-- the text of the next slot comes behind those so far
pub loop-place-preserved : goal.loop-place-preserved
loop-place-preserved g c =
    rows-next g.row.N c.args.column.segment.row_bytes (text_in c.args.column) c.args.pages.now
    c.args.texts.now c.loop-place.texts c.copy_slot.new.texts c.args.first c.loop-place.place c.loop-place.invariant
    c.in_ok-copy_slot.ensures

pub returns : goal.returns
returns g c =
    let end : c.loop-place.place ≡ c.args.count = omega (arith, c.loop-place-test.false, c.loop-place.auto.place-end) in
    c.loop-place.invariant
    ∙ ap (λ (place : ℕ). c.args.texts.now ++ rows_from g.row.N c.args.column.segment.row_bytes (text_in c.args.column) c.args.pages.now c.args.first place) end
    ∙ ap (λ texts. c.args.texts.now ++ texts)
    (part-from g.row.N c.args.column.segment.row_bytes (text_in c.args.column) c.args.pages.now c.args.first c.args.count c.requires.within)

-- there are few slots
pub overflow_add-first : goal.overflow_add-first
overflow_add-first g c =
    omega (
      arith,
      c.requires.within,
      c.loop-place-test.true,
      used-few g.row.N c.args.pages.now c.requires.sized c.requires.few c.requires.small c.args.column.segment.row_bytes c.requires.size c.requires.slots,
    )
