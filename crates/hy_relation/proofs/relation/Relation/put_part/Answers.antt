use Rattle.std.proofs.Common.{ℕ, ◌+◌, ◌<◌, ◌≤◌, List, length, ap, ◌∙◌, subst, arith}
use Rattle.std.proofs.lemmas.Result.{on_ok_weaker}
use Rattle.hy_rows.specs.Spelling.{slot_start, used_slots}
use Rattle.hy_relation.specs.Relation.{owner_pages}
use Rattle.hy_relation.specs.inside.Addresses.{WritesJoined}
use Rattle.hy_relation.proofs.RelationLaws.{has_slots-written, live-used, slots_of-part}
use Rattle.hy_relation.proofs.SlotLaws.{end-before, start-within}
use Rattle.hy_relation.proofs.SpaceLaws.{used-within}
use Rattle.hy_relation.proofs.relation.Relation.put_part.Goals as goal

pub write_slot-requires : goal.write_slot-requires
write_slot-requires g c =
    let n : ℕ = g.row.N in
    let width : ℕ = g.R.Row.BYTES in
    let pages : List (List ℕ) = owner_pages c.args.space.now g.R.Row.SEGMENT in
    let used : c.args.slot < used_slots pages = live-used n width g.R.Row.row_of_bytes pages c.args.slot c.requires.live in
    let size : length c.as_slice.result.now ≤ g.P.Part.WIDTH = omega (arith, ap length (c.as_slice.ensures ∙ c.bytes-bytes.ensures.bytes), c.bytes-bytes.ensures.width) in
    let sound = c.sound.ensures in (
      omega arith,
      (
        omega arith,
        (
          used-within n width pages c.args.slot sound.size.smallest c.requires.slots used,
          (
            omega (arith, end-before n width c.args.slot sound.size.smallest, start-within n width c.args.slot (used_slots pages) sound.size.smallest used, c.know_few.ensures.ends),
            (omega (arith, size, c.OFFSET.ensures, g.met.P.Part.inside), c.requires.undo_log),
          ),
        ),
      ),
    )

pub returns-clause-slots : goal.returns-clause-slots
returns-clause-slots g c = on_ok_weaker c.write_slot.result (λ written.
    let n : ℕ = g.row.N in
    let width : ℕ = g.R.Row.BYTES in
    let pages : List (List ℕ) = owner_pages c.args.space.now g.R.Row.SEGMENT in
    let used : c.args.slot < used_slots pages = live-used n width g.R.Row.row_of_bytes pages c.args.slot c.requires.live in
    let size : length c.as_slice.result.now ≤ g.P.Part.WIDTH = omega (arith, ap length (c.as_slice.ensures ∙ c.bytes-bytes.ensures.bytes), c.bytes-bytes.ensures.width) in
    let within = used-within n width pages c.args.slot c.sound.ensures.size.smallest c.requires.slots used in
    has_slots-written n width pages (owner_pages c.write_slot.new.space g.R.Row.SEGMENT) _ c.as_slice.result.now
    (omega (arith, within, size, c.OFFSET.ensures, g.met.P.Part.inside)) written c.requires.slots) c.write_slot.ensures.slot

pub returns-clause-put : goal.returns-clause-put
returns-clause-put g c = on_ok_weaker c.write_slot.result (λ raw.
    let n : ℕ = g.row.N in
    let width : ℕ = g.R.Row.BYTES in
    let old : List (List ℕ) = owner_pages c.args.space.now g.R.Row.SEGMENT in
    let new : List (List ℕ) = owner_pages c.write_slot.new.space g.R.Row.SEGMENT in
    let used : c.args.slot < used_slots old = live-used n width g.R.Row.row_of_bytes old c.args.slot c.requires.live in
    let bytes : List ℕ = g.P.WrittenPart.bytes_of_part c.args.part.now in
    let written : WritesJoined old new (slot_start n width c.args.slot + (1 + g.P.Part.OFFSET)) bytes =
    subst (λ (skip : ℕ). WritesJoined old new (slot_start n width c.args.slot + (1 + skip)) bytes) c.OFFSET.ensures
    (subst (λ (part : List ℕ). WritesJoined old new (slot_start n width c.args.slot + (1 + c.OFFSET.result)) part) (c.as_slice.ensures ∙ c.bytes-bytes.ensures.bytes) raw) in
    slots_of-part n width g.R.Row.row_of_bytes old c.args.slot c.sound.ensures.size.smallest c.requires.slots new used g.P.Part.OFFSET bytes
    (λ row. g.P.WrittenPart.with_part row c.args.part.now) (omega (arith, c.bytes-bytes.ensures.width, g.met.P.Part.inside)) c.bytes-bytes.ensures.written written) c.write_slot.ensures.slot
