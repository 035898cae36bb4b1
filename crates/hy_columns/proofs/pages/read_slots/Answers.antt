use Rattle.std.proofs.Common.{◌≡◌, ℕ, ◌++◌, map, ap, ◌∙◌, arith}
use Rattle.hy_columns.specs.inside.Pages.{AreUnspanned, rows_from}
use Rattle.hy_columns.proofs.PageRows.{part-from, rows-more}
use Rattle.hy_columns.proofs.SpannedLaws.{used-few}
use Rattle.hy_columns.proofs.pages.read_slots.Goals as goal

-- the values on the next page come behind those so far
pub loop-done-preserved : goal.loop-done-preserved
loop-done-preserved g c =
    let are : AreUnspanned g.row.N c.args.row_bytes c.args.pages.now =
    record { slots = c.requires.slots; unspanned = c.requires.unspanned; sized = c.requires.sized; few = c.requires.few } in
    record {
      within = omega (arith, c.loop-done.invariant.within, c.min-more.ensures);
      values = rows-more g.row.N c.args.row_bytes (g.D.Decode.value_in c.args.column.now) c.args.pages.now are c.requires.size
          (map g.D.Decode.value_of c.args.values.now.items) (map g.D.Decode.value_of c.loop-done.values.items)
          (map g.D.Decode.value_of c.read_page.new.values.items)
          c.args.first c.loop-done.done c.min-more.result c.slots_from.result.now
          (omega (arith, c.requires.within, c.loop-done-test.true)) (omega (arith, c.min-more.ensures, c.left_on.ensures.left))
          c.slots_from.ensures.bytes c.loop-done.invariant.values c.read_page.ensures.values;
      room = omega (
        arith,
        c.loop-done.invariant.room,
        c.loop-done.invariant.within,
        c.min-more.ensures,
        c.read_page.ensures.len,
        c.read_page.ensures.capacity,
      );
    }

-- no slot is left
pub returns : goal.returns
returns g c =
    let end : c.loop-done.done ≡ c.args.count = omega (arith, c.loop-done-test.false, c.loop-done.invariant.within) in
    c.loop-done.invariant.values
    ∙ ap (λ (done : ℕ). map g.D.Decode.value_of c.args.values.now.items
    ++ rows_from g.row.N c.args.row_bytes (g.D.Decode.value_in c.args.column.now) c.args.pages.now c.args.first done) end
    ∙ ap (λ rows. map g.D.Decode.value_of c.args.values.now.items ++ rows)
    (part-from g.row.N c.args.row_bytes (g.D.Decode.value_in c.args.column.now) c.args.pages.now c.args.first c.args.count c.requires.within)

-- there are few slots
pub overflow_add-slot : goal.overflow_add-slot
overflow_add-slot g c =
    omega (
      arith,
      c.requires.within,
      c.loop-done-test.true,
      used-few g.row.N c.args.pages.now c.requires.sized c.requires.few c.requires.small c.args.row_bytes c.requires.size c.requires.slots,
    )
