use Rattle.std.proofs.Common.{lit<, length, slice_get, subst, sym, ap, arith}
use Rattle.std.proofs.lemmas.Result.{on_ok_weaker}
use Rattle.hy_rows.specs.Tables.{Tables}
use Rattle.hy_indexes.specs.of_store.Writes.{stored_in}
use Rattle.hy_layout.specs.Layout.{own_rows}
use Rattle.hy_fill.specs.inside.Filling.{HasOneSlotEach, HasSameEntries}
use Rattle.hy_fill.proofs.CountLaws.{stays-within}
use Rattle.hy_fill.proofs.EntryLaws.{index-same, slots-apart}
use Rattle.hy_fill.proofs.entries.fill_index.Goals as goal

pub insert_entries-requires : goal.insert_entries-requires
insert_entries-requires g c = (
  lit< tt,
  (
    lit< tt,
    (
      c.requires.writable,
      (
        c.requires.empty,
        subst HasOneSlotEach (sym c.as_slice.ensures.value)
            (slots-apart g.R.Keyed.key_of (slice_get (g.R.Row.rows_in (own_rows c.args.layout.now)))
            c.in_ok-entries.entries.items c.requires.apart c.in_ok-entries.ensures.index),
      ),
    ),
  ),
)

pub returns-clause-index : goal.returns-clause-index
returns-clause-index g c =
    on_ok_weaker c.insert_entries.result (λ same.
    index-same g.R.Keyed.key_of (slice_get (g.R.Row.rows_in (own_rows c.args.layout.now))) c.in_ok-entries.entries.items
    (g.K.Indexed.entries_in (stored_in g.row.N c.insert_entries.new.space))
    (subst (λ entries. HasSameEntries entries (g.K.Indexed.entries_in (stored_in g.row.N c.insert_entries.new.space)))
    c.as_slice.ensures.value same)
    c.in_ok-entries.ensures.index) c.insert_entries.ensures.same

pub returns-clause-pages : goal.returns-clause-pages
returns-clause-pages g c =
    let own : Tables = own_rows c.args.layout.now in
    stays-within g.row.N g.K.Indexed.SEGMENT (length c.as_slice.result.now) own c.args.space.now c.insert_entries.new.space
    (omega (arith, ap length c.as_slice.ensures.value, c.in_ok-entries.ensures.count, c.requires.counted))
    c.insert_entries.ensures.pages
