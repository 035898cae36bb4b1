use Rattle.std.proofs.Common.{◌≡◌, ℕ, ◌++◌, map, ap, ◌∙◌, arith}
use Rattle.hy_columns.specs.inside.Pages.{rows_from}
use Rattle.hy_columns.specs.inside.Spanned.{bits_in}
use Rattle.hy_columns.proofs.PageRows.{part-from}
use Rattle.hy_columns.proofs.SpannedLaws.{rows-next, used-few}
use Rattle.hy_columns.proofs.spanned.read_numbers.Goals as goal

-- the number of the next slot comes behind those so far
pub loop-place-preserved : goal.loop-place-preserved
loop-place-preserved g c = record {
  numbers = rows-next g.row.N c.args.column.segment.row_bytes (bits_in g.B.FromBits.value_of_bits c.args.column) c.args.pages.now
      (map g.B.FromBits.value_of c.args.numbers.now.items) (map g.B.FromBits.value_of c.loop-place.numbers.items)
      (map g.B.FromBits.value_of c.read_slot.new.numbers.items) c.args.first c.loop-place.place c.loop-place.invariant.numbers
      c.read_slot.ensures.numbers;
  room = omega (arith, c.loop-place.invariant.room, c.loop-place-test.true, c.read_slot.ensures.len, c.read_slot.ensures.capacity);
}

pub returns : goal.returns
returns g c =
    let end : c.loop-place.place ≡ c.args.count = omega (arith, c.loop-place-test.false, c.loop-place.auto.place-end) in
    c.loop-place.invariant.numbers
    ∙ ap (λ (place : ℕ). map g.B.FromBits.value_of c.args.numbers.now.items
    ++ rows_from g.row.N c.args.column.segment.row_bytes (bits_in g.B.FromBits.value_of_bits c.args.column) c.args.pages.now c.args.first place) end
    ∙ ap (λ numbers. map g.B.FromBits.value_of c.args.numbers.now.items ++ numbers)
    (part-from g.row.N c.args.column.segment.row_bytes (bits_in g.B.FromBits.value_of_bits c.args.column) c.args.pages.now c.args.first c.args.count c.requires.within)

-- there are few slots
pub overflow_add-first : goal.overflow_add-first
overflow_add-first g c =
    omega (
      arith,
      c.requires.within,
      c.loop-place-test.true,
      used-few g.row.N c.args.pages.now c.requires.sized c.requires.few c.requires.small c.args.column.segment.row_bytes c.requires.size c.requires.slots,
    )
