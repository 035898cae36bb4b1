use Rattle.std.proofs.Common.{◌≡◌, ℕ, ◌<◌, List, ◌∷◌, length, set, Some, ap, ◌∙◌, subst, arith}
use Rattle.std.proofs.lemmas.Result.{on_ok_weaker}
use Rattle.hy_rows.specs.Spelling.{slot_width, slots_of, used_slots}
use Rattle.hy_relation.specs.Relation.{owner_pages}
use Rattle.hy_relation.specs.inside.Addresses.{WritesSlot}
use Rattle.hy_relation.proofs.RelationLaws.{at_start, live-used, slots_of-put}
use Rattle.hy_relation.proofs.SlotLaws.{end-before, start-within}
use Rattle.hy_relation.proofs.SpaceLaws.{used-within}
use Rattle.hy_relation.proofs.relation.Relation.put.Goals as goal

pub write_slot-requires : goal.write_slot-requires
write_slot-requires g c =
    let n : ℕ = g.row.N in
    let width : ℕ = g.R.Row.BYTES in
    let pages : List (List ℕ) = owner_pages c.args.space.now g.R.Row.SEGMENT in
    let used : c.args.slot < used_slots pages = live-used n width g.R.Row.row_of_bytes pages c.args.slot c.requires.live in
    let size : length c.as_slice.result.now ≡ slot_width width = ap length (c.as_slice.ensures ∙ c.slot-other.ensures.bytes) ∙ omega (arith, c.slot-other.ensures.width) in
    let sound = c.sound.ensures in (
      omega arith,
      (
        omega arith,
        (
          used-within n width pages c.args.slot sound.size.smallest c.requires.slots used,
          (
            omega (arith, end-before n width c.args.slot sound.size.smallest, start-within n width c.args.slot (used_slots pages) sound.size.smallest used, c.know_few.ensures.ends),
            (omega (arith, size), c.requires.undo_log),
          ),
        ),
      ),
    )

pub returns-clause-put : goal.returns-clause-put
returns-clause-put g c = on_ok_weaker c.write_slot.result (λ raw.
    let n : ℕ = g.row.N in
    let width : ℕ = g.R.Row.BYTES in
    let old : List (List ℕ) = owner_pages c.args.space.now g.R.Row.SEGMENT in
    let new : List (List ℕ) = owner_pages c.write_slot.new.space g.R.Row.SEGMENT in
    let used : c.args.slot < used_slots old = live-used n width g.R.Row.row_of_bytes old c.args.slot c.requires.live in
    let written : WritesSlot n width old new c.args.slot (1 ∷ g.R.Row.bytes_of_row c.args.row.now) =
    subst (λ (part : List ℕ). WritesSlot n width old new c.args.slot part) (c.as_slice.ensures ∙ c.slot-other.ensures.bytes) (at_start n width old new c.args.slot c.as_slice.result.now raw) in
    slots_of-put n width g.R.Row.row_of_bytes old c.args.slot c.sound.ensures.size.smallest c.requires.slots new used
    (g.R.Row.bytes_of_row c.args.row.now) c.slot-other.ensures.width written
    ∙ ap (λ row. set (slots_of n width g.R.Row.row_of_bytes old) c.args.slot (Some row)) c.slot-other.ensures.reads_back) c.write_slot.ensures.slot
