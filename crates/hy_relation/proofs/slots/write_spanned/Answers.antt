use Rattle.std.proofs.Common.{rules, ◌≡◌, ℕ, ◌+◌, ◌-◌, ◌*◌, ◌/◌, ◌<◌, ◌≤◌, ◌^◌, List, length, OnOk, arith, refl, sym, ap, ap₂, ◌∙◌, subst}
use Rattle.std.proofs.Math.Nat.{div-le_of_le-mul}
use Rattle.std.proofs.lemmas.Result.{on_ok_weaker}
use Rattle.hy_rows.specs.Spelling.{least_page, slot_bytes, slot_start, slot_width}
use Rattle.hy_space.specs.Space.{SpaceState, owner_bytes, page_count}
use Rattle.hy_undo.specs.Writes.{WritesAcross, pages_of_part}
use Rattle.hy_undo.proofs.PrivatePageLaws.{length-segment-owner_bytes}
use Rattle.hy_undo.proofs.WriteLaws.{by_outcome, can_undo-more}
use Rattle.hy_relation.specs.Relation.{owner_pages}
use Rattle.hy_relation.specs.inside.Addresses.{offset_of_byte, page_of_byte}
use Rattle.hy_relation.proofs.AddressLaws.{byte_place, part-few}
use Rattle.hy_relation.proofs.FewPages.{few-refused, few-written, only-across}
use Rattle.hy_relation.proofs.PageLaws.{length-slot_bytes, times-first}
use Rattle.hy_relation.proofs.SpaceLaws.{across-here, few_pages, pages_sized, slot_there, some_pages}
use Rattle.hy_relation.proofs.slots.write_spanned.Goals as goal
use Rattle.hy_relation.proofs.slots.write_spanned.Given as given

pub address_behind-at-requires-clause-skip : goal.address_behind-at-requires-clause-skip
address_behind-at-requires-clause-skip g c = omega (arith, c.requires.within, c.BYTES.ensures)

pub overflow_cast-at : goal.overflow_cast-at
overflow_cast-at g c =
    let n : ℕ = g.row.N in
    let pages : List (List ℕ) = owner_pages c.args.space.now g.R.Row.SEGMENT in
    let start : ℕ = slot_start n g.R.Row.BYTES c.args.slot + c.args.skip in
    let number : c.address_behind-at.result.page ≡ page_of_byte n start =
    c.address_behind-at.ensures.page ∙ ap (λ (w : ℕ). page_of_byte n (slot_start n w c.args.slot + c.args.skip)) c.BYTES.ensures in
    let some = some_pages pages _ (omega arith) c.requires.there in
    let bytes : length (slot_bytes pages) ≡ (length pages - 1) * n = length-slot_bytes n pages (pages_sized n g.R.Row.SEGMENT c.args.space.now c.sound.ensures some) in
    let place : start / n ≤ length pages - 1 = div-le_of_le-mul n (omega (arith, bytes, c.requires.there, c.requires.within)) in
    let few : length pages < 2 ^ 32 = few_pages n g.R.Row.SEGMENT c.args.space.now c.sound.ensures some in
    omega (arith, number, place, few, some)

pub write_across-written-requires : goal.write_across-written-requires
write_across-written-requires g c =
    let n : ℕ = g.row.N in
    let width : ℕ = g.R.Row.BYTES in
    let segment : ℕ = g.R.Row.SEGMENT in
    let old : SpaceState = c.args.space.now in
    let pages : List (List ℕ) = owner_pages old segment in
    let there = slot_there n segment width c.args.slot old c.sound.ensures c.requires.there in
    let some : 0 < length pages = some_pages pages _ (omega arith) c.requires.there in
    let start : ℕ = slot_start n width c.args.slot + c.args.skip in
    let page : c.address_behind-at.result.page ≡ page_of_byte n start = c.address_behind-at.ensures.page ∙ ap (λ (w : ℕ). page_of_byte n (slot_start n w c.args.slot + c.args.skip)) c.BYTES.ensures in
    let offset : c.address_behind-at.result.offset ≡ offset_of_byte n start = c.address_behind-at.ensures.offset ∙ ap (λ (w : ℕ). offset_of_byte n (slot_start n w c.args.slot + c.args.skip)) c.BYTES.ensures in
    let place : c.address_behind-at.result.page * n + c.address_behind-at.result.offset ≡ n + start = ap₂ (λ (p : ℕ) (o : ℕ). p * n + o) page offset ∙ byte_place n start in
    let count : page_count old segment * n ≡ n + (length pages - 1) * n = ap (λ (p : ℕ). p * n) (sym (length-segment-owner_bytes old segment)) ∙ times-first n (length pages) some in
    let bytes : length (slot_bytes pages) ≡ (length pages - 1) * n = length-slot_bytes n pages (pages_sized n segment old c.sound.ensures some) in
    let within : c.address_behind-at.result.page * n + c.address_behind-at.result.offset + length c.args.bytes.now ≤ page_count old segment * n =
    omega (arith, place, count, bytes, c.requires.there, c.requires.within) in (
      search rules,
      (
        search rules,
        (
          subst (λ (s : ℕ). s < length old.owner) (sym c.SEGMENT.ensures) there.0,
          (
            c.address_behind-at.ensures.within,
            (subst (λ (s : ℕ). c.address_behind-at.result.page * n + c.address_behind-at.result.offset + length c.args.bytes.now ≤ page_count old s * n) (sym c.SEGMENT.ensures) within, search rules),
          ),
        ),
      ),
    )

pub returns-clause-can_undo : goal.returns-clause-can_undo
returns-clause-can_undo g c =
    can_undo-more g.row.N (pages_of_part g.row.N c.address_behind-at.result.offset (length c.args.bytes.now)) (slot_width g.R.Row.BYTES / least_page + 2)
    c.args.space.now c.write_across-written.new.space c.args.undo.now c.write_across-written.new.self
    (part-few g.row.N c.address_behind-at.result.offset (length c.args.bytes.now) g.R.Row.BYTES c.sound.ensures.size.smallest c.address_behind-at.ensures.within (omega (arith, c.requires.within)))
    c.write_across-written.ensures.can_undo

-- what the write did, in the terms of all bytes of the segment, and in those of the slots
across : (g : given.Over) (c : goal.After-sound-2 g) → OnOk c.write_across-written.result (WritesAcross (owner_bytes c.args.space.now) (owner_bytes c.write_across-written.new.space) g.R.Row.SEGMENT
    (g.row.N + (slot_start g.row.N g.R.Row.BYTES c.args.slot + c.args.skip)) c.args.bytes.now)
across g c = on_ok_weaker c.write_across-written.result (λ raw.
    let n : ℕ = g.row.N in
    let before : List (List (List ℕ)) = owner_bytes c.args.space.now in
    let after : List (List (List ℕ)) = owner_bytes c.write_across-written.new.space in
    let start : ℕ = slot_start n g.R.Row.BYTES c.args.slot + c.args.skip in
    let page : c.address_behind-at.result.page ≡ page_of_byte n start = c.address_behind-at.ensures.page ∙ ap (λ (w : ℕ). page_of_byte n (slot_start n w c.args.slot + c.args.skip)) c.BYTES.ensures in
    let offset : c.address_behind-at.result.offset ≡ offset_of_byte n start = c.address_behind-at.ensures.offset ∙ ap (λ (w : ℕ). offset_of_byte n (slot_start n w c.args.slot + c.args.skip)) c.BYTES.ensures in
    let place : c.address_behind-at.result.page * n + c.address_behind-at.result.offset ≡ n + start = ap₂ (λ (p : ℕ) (o : ℕ). p * n + o) page offset ∙ byte_place n start in
    subst (λ (s : ℕ). WritesAcross before after s (n + start) c.args.bytes.now) c.SEGMENT.ensures
    (subst (λ (at : ℕ). WritesAcross before after c.SEGMENT.result at c.args.bytes.now) place raw)) c.write_across-written.ensures.bytes

pub returns-clause-slot : goal.returns-clause-slot
returns-clause-slot g c = on_ok_weaker c.write_across-written.result
    (across-here g.row.N g.R.Row.SEGMENT g.R.Row.BYTES c.args.slot c.args.skip _ c.args.space.now c.write_across-written.new.space c.args.bytes.now c.sound.ensures c.sound-2.ensures c.requires.there
    (omega (arith, c.requires.within)) refl)
    (across g c)

pub returns-clause-only : goal.returns-clause-only
returns-clause-only g c = on_ok_weaker c.write_across-written.result
    (only-across (owner_bytes c.args.space.now) (owner_bytes c.write_across-written.new.space) g.R.Row.SEGMENT _ c.args.bytes.now) (across g c)

-- no page comes
pub returns-clause-few : goal.returns-clause-few
returns-clause-few g c few =
    let old : SpaceState = c.args.space.now in
    let new : SpaceState = c.write_across-written.new.space in
    let start : ℕ = slot_start g.row.N g.R.Row.BYTES c.args.slot + c.args.skip in
    by_outcome c.write_across-written.result (returns-clause-slot g c) c.write_across-written.ensures.err
    (λ written. few-written g.row.N g.R.Row.SEGMENT g.R.Row.BYTES start old new c.args.bytes.now c.sound.ensures.size.smallest written few)
    (λ same. few-refused g.row.N g.R.Row.SEGMENT g.R.Row.BYTES start old new c.args.bytes.now c.sound.ensures.size.smallest same.1 few)
