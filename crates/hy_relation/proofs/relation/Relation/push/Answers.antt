use Rattle.std.proofs.Common.{◌≡◌, ℕ, ◌+◌, ◌≤◌, List, [], ◌∷◌, ◌++◌, length, Some, sym, ap, ◌∙◌, subst, arith}
use Rattle.hy_rows.specs.Spelling.{list_at, slot_bytes, slot_start, slot_width, slots_of}
use Rattle.hy_space.specs.Space.{SpaceState, owner_bytes}
use Rattle.hy_relation.specs.Relation.{ChangesSegment, HasFewPages, HasRelation, owner_pages, relation_slots}
use Rattle.hy_relation.specs.inside.Addresses.{WritesSlot}
use Rattle.hy_relation.proofs.FewPages.{few-kept}
use Rattle.hy_relation.proofs.RelationLaws.{at_start, has_slots-behind, has_slots-pushed, length-slots_of, on_err, slots_of-behind, slots_of-grown, slots_of-pushed}
use Rattle.hy_relation.proofs.SpaceLaws.{changes-then}
use Rattle.hy_relation.proofs.relation.Relation.push.Goals as goal

-- ---- the row was pushed

pub returns-clause-pushed : goal.returns-clause-pushed
returns-clause-pushed g c =
    let n : ℕ = g.row.N in
    let width : ℕ = g.R.Row.BYTES in
    let segment : ℕ = g.R.Row.SEGMENT in
    let k : ℕ = c.used_of-slot.result in
    let old : List (List ℕ) = owner_pages c.args.space.now segment in
    let grown : List (List ℕ) = owner_pages c.make_room.new.space segment in
    let filled : List (List ℕ) = owner_pages c.write_slot.new.space segment in
    let row : List ℕ = g.R.Row.bytes_of_row c.args.row.now in
    let written : WritesSlot n width grown filled k (1 ∷ row) =
    subst (λ (part : List ℕ). WritesSlot n width grown filled k part) (c.as_slice.ensures ∙ c.slot-bytes.ensures.bytes) (at_start n width grown filled k c.as_slice.result.now c.in_ok-write_slot.ensures.slot) in
    let within : slot_start n width k + slot_width width ≤ length (slot_bytes grown) =
    subst (λ (used : ℕ). slot_start n width used + slot_width width ≤ length (slot_bytes grown)) (sym c.used_of-slot.ensures.value) c.in_ok-make_room.ensures.room in
    slots_of-pushed n width g.R.Row.row_of_bytes old k c.sound.ensures.size.smallest c.requires.slots grown filled (owner_pages c.write_count.new.space segment) row
    (sym c.used_of-slot.ensures.value) c.make_room.ensures.grows within c.slot-bytes.ensures.width written c.in_ok-write_count.ensures.count
    ∙ ap (λ last. slots_of n width g.R.Row.row_of_bytes old ++ Some last ∷ []) c.slot-bytes.ensures.reads_back

pub returns-clause-slots : goal.returns-clause-slots
returns-clause-slots g c =
    let n : ℕ = g.row.N in
    let width : ℕ = g.R.Row.BYTES in
    let segment : ℕ = g.R.Row.SEGMENT in
    let k : ℕ = c.used_of-slot.result in
    let old : List (List ℕ) = owner_pages c.args.space.now segment in
    let grown : List (List ℕ) = owner_pages c.make_room.new.space segment in
    let filled : List (List ℕ) = owner_pages c.write_slot.new.space segment in
    let row : List ℕ = g.R.Row.bytes_of_row c.args.row.now in
    let written : WritesSlot n width grown filled k (1 ∷ row) =
    subst (λ (part : List ℕ). WritesSlot n width grown filled k part) (c.as_slice.ensures ∙ c.slot-bytes.ensures.bytes) (at_start n width grown filled k c.as_slice.result.now c.in_ok-write_slot.ensures.slot) in
    let within : slot_start n width k + slot_width width ≤ length (slot_bytes grown) =
    subst (λ (used : ℕ). slot_start n width used + slot_width width ≤ length (slot_bytes grown)) (sym c.used_of-slot.ensures.value) c.in_ok-make_room.ensures.room in
    has_slots-pushed n width g.R.Row.row_of_bytes old k c.sound.ensures.size.smallest c.requires.slots grown filled (owner_pages c.write_count.new.space segment) row
    (sym c.used_of-slot.ensures.value) c.make_room.ensures.grows within c.slot-bytes.ensures.width written c.in_ok-write_count.ensures.count

pub returns-clause-number : goal.returns-clause-number
returns-clause-number g c =
    c.used_of-slot.ensures.value ∙ sym (length-slots_of g.row.N g.R.Row.BYTES g.R.Row.row_of_bytes (owner_pages c.args.space.now g.R.Row.SEGMENT))

pub returns-clause-only : goal.returns-clause-only
returns-clause-only g c =
    let old = owner_bytes c.args.space.now in
    let filled = owner_bytes c.write_slot.new.space in
    changes-then old filled (owner_bytes c.write_count.new.space) g.R.Row.SEGMENT
    (changes-then old (owner_bytes c.make_room.new.space) filled g.R.Row.SEGMENT c.make_room.ensures.only c.in_ok-write_slot.ensures.only)
    c.in_ok-write_count.ensures.only

pub returns-clause-few : goal.returns-clause-few
returns-clause-few g c few =
    let segment : ℕ = g.R.Row.SEGMENT in
    let counted = c.in_ok-write_count.ensures.count in
    few-kept g.row.N g.R.Row.BYTES (owner_pages c.write_slot.new.space segment) (owner_pages c.write_count.new.space segment) c.sound.ensures.size.smallest counted.pages
    (omega (arith, counted.used, c.in_ok-write_slot.ensures.slot.used, c.make_room.ensures.grows.used, c.used_of-slot.ensures.value))
    (c.write_slot.ensures.few (c.make_room.ensures.few few))

-- ---- a refusal: pages were made perhaps, and no slot has changed

pub returns-in_err-make_room-clause-kept : goal.returns-in_err-make_room-clause-kept
returns-in_err-make_room-clause-kept g c = on_err c.from_residual.result
    (slots_of-grown g.row.N g.R.Row.BYTES g.R.Row.row_of_bytes (owner_pages c.args.space.now g.R.Row.SEGMENT) c.used_of-slot.result c.sound.ensures.size.smallest c.requires.slots
    (owner_pages c.make_room.new.space g.R.Row.SEGMENT) c.make_room.ensures.grows)

pub returns-in_err-write_slot-clause-kept : goal.returns-in_err-write_slot-clause-kept
returns-in_err-write_slot-clause-kept g c = on_err c.from_residual-in_err-write_slot.result
    (ap (λ (all : List (List (List ℕ))). slots_of g.row.N g.R.Row.BYTES g.R.Row.row_of_bytes (list_at all g.R.Row.SEGMENT)) c.in_err-write_slot.ensures.err.1
    ∙ slots_of-grown g.row.N g.R.Row.BYTES g.R.Row.row_of_bytes (owner_pages c.args.space.now g.R.Row.SEGMENT) c.used_of-slot.result c.sound.ensures.size.smallest c.requires.slots
    (owner_pages c.make_room.new.space g.R.Row.SEGMENT) c.make_room.ensures.grows)

-- ---- another one: the slot behind the used ones was written, and not counted

pub returns-in_err-write_count-clause-slots : goal.returns-in_err-write_count-clause-slots
returns-in_err-write_count-clause-slots g c =
    let n : ℕ = g.row.N in
    let width : ℕ = g.R.Row.BYTES in
    let segment : ℕ = g.R.Row.SEGMENT in
    let k : ℕ = c.used_of-slot.result in
    let old : List (List ℕ) = owner_pages c.args.space.now segment in
    let grown : List (List ℕ) = owner_pages c.make_room.new.space segment in
    let within : slot_start n width k + slot_width width ≤ length (slot_bytes grown) =
    subst (λ (used : ℕ). slot_start n width used + slot_width width ≤ length (slot_bytes grown)) (sym c.used_of-slot.ensures.value) c.in_ok-make_room.ensures.room in
    let size : length c.as_slice.result.now ≡ slot_width width = ap length (c.as_slice.ensures ∙ c.slot-bytes.ensures.bytes) ∙ omega (arith, c.slot-bytes.ensures.width) in
    subst (λ (space : SpaceState). HasRelation n segment width space) (sym c.in_err-write_count.ensures.err.1)
    (has_slots-behind n width g.R.Row.row_of_bytes old k c.sound.ensures.size.smallest c.requires.slots grown (owner_pages c.write_slot.new.space segment) c.as_slice.result.now
    (sym c.used_of-slot.ensures.value) c.make_room.ensures.grows within (omega (arith, size)) (at_start n width grown (owner_pages c.write_slot.new.space segment) k c.as_slice.result.now c.in_ok-write_slot.ensures.slot))

pub returns-in_err-write_count-clause-kept : goal.returns-in_err-write_count-clause-kept
returns-in_err-write_count-clause-kept g c =
    let n : ℕ = g.row.N in
    let width : ℕ = g.R.Row.BYTES in
    let segment : ℕ = g.R.Row.SEGMENT in
    let k : ℕ = c.used_of-slot.result in
    let old : List (List ℕ) = owner_pages c.args.space.now segment in
    let grown : List (List ℕ) = owner_pages c.make_room.new.space segment in
    let within : slot_start n width k + slot_width width ≤ length (slot_bytes grown) =
    subst (λ (used : ℕ). slot_start n width used + slot_width width ≤ length (slot_bytes grown)) (sym c.used_of-slot.ensures.value) c.in_ok-make_room.ensures.room in
    let size : length c.as_slice.result.now ≡ slot_width width = ap length (c.as_slice.ensures ∙ c.slot-bytes.ensures.bytes) ∙ omega (arith, c.slot-bytes.ensures.width) in
    on_err c.from_residual-in_err-write_count.result
    (ap (λ (space : SpaceState). relation_slots n segment width g.R.Row.row_of_bytes space) c.in_err-write_count.ensures.err.1
    ∙ slots_of-behind n width g.R.Row.row_of_bytes old k c.sound.ensures.size.smallest c.requires.slots grown (owner_pages c.write_slot.new.space segment) c.as_slice.result.now
    (sym c.used_of-slot.ensures.value) c.make_room.ensures.grows within (omega (arith, size)) (at_start n width grown (owner_pages c.write_slot.new.space segment) k c.as_slice.result.now c.in_ok-write_slot.ensures.slot))

pub returns-in_err-write_count-clause-only : goal.returns-in_err-write_count-clause-only
returns-in_err-write_count-clause-only g c =
    subst (λ (s : SpaceState). ChangesSegment (owner_bytes c.args.space.now) (owner_bytes s) g.R.Row.SEGMENT) (sym c.in_err-write_count.ensures.err.1)
    (changes-then (owner_bytes c.args.space.now) (owner_bytes c.make_room.new.space) (owner_bytes c.write_slot.new.space) g.R.Row.SEGMENT c.make_room.ensures.only c.in_ok-write_slot.ensures.only)

pub returns-in_err-write_count-clause-few : goal.returns-in_err-write_count-clause-few
returns-in_err-write_count-clause-few g c few =
    subst (λ (s : SpaceState). HasFewPages g.row.N g.R.Row.BYTES (owner_pages s g.R.Row.SEGMENT)) (sym c.in_err-write_count.ensures.err.1)
    (c.write_slot.ensures.few (c.make_room.ensures.few few))
