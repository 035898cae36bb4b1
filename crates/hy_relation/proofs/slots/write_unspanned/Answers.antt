use Rattle.std.proofs.Common.{rules, ◌≡◌, ℕ, ◌+◌, ◌*◌, ◌<◌, ◌^◌, List, false, length, OnOk, arith, sym, ap, ap₂, ◌∙◌, subst}
use Rattle.std.proofs.lemmas.Result.{on_err_weaker, on_ok_weaker}
use Rattle.hy_frames.specs.FrameTable.{free_of}
use Rattle.hy_rows.specs.Spelling.{is_spanned, slot_start}
use Rattle.hy_space.specs.Space.{SpaceState, HasPage, IsOwn, owner_bytes}
use Rattle.hy_undo.specs.Writes.{IsOutOfFrames, WritesAcross}
use Rattle.hy_undo.proofs.JoinedLaws.{across-written}
use Rattle.hy_undo.proofs.PrivatePageLaws.{length-segment-owner_bytes}
use Rattle.hy_undo.proofs.WriteLaws.{by_outcome, can_undo-none, can_undo-written, on_failure, out_of_frames}
use Rattle.hy_relation.specs.Relation.{owner_pages}
use Rattle.hy_relation.specs.inside.Addresses.{slot_offset, slot_page}
use Rattle.hy_relation.proofs.FewPages.{few-refused, few-written, only-across}
use Rattle.hy_relation.proofs.AddressLaws.{byte_place}
use Rattle.hy_relation.proofs.SpaceLaws.{across-here, few_pages, slot_there, some_pages}
use Rattle.hy_relation.proofs.slots.write_unspanned.Goals as goal
use Rattle.hy_relation.proofs.slots.write_unspanned.Given as given

pub overflow_cast-at : goal.overflow_cast-at
overflow_cast-at g c =
    let pages : List (List ℕ) = owner_pages c.args.space.now g.R.Row.SEGMENT in
    let there = slot_there g.row.N g.R.Row.SEGMENT g.R.Row.BYTES c.args.slot c.args.space.now c.sound.ensures c.requires.there in
    let number : c.address_of-at.result.page ≡ slot_page g.row.N g.R.Row.BYTES c.args.slot =
    c.address_of-at.ensures.page ∙ ap (λ (w : ℕ). slot_page g.row.N w c.args.slot) c.BYTES.ensures in
    let few : length pages < 2 ^ 32 = few_pages g.row.N g.R.Row.SEGMENT c.args.space.now c.sound.ensures (some_pages pages _ (omega arith) c.requires.there) in
    omega (arith, number, there.1, length-segment-owner_bytes c.args.space.now g.R.Row.SEGMENT, few)

pub write-written-requires : goal.write-written-requires
write-written-requires g c =
    let old : SpaceState = c.args.space.now in
    let number : c.address_of-at.result.page ≡ slot_page g.row.N g.R.Row.BYTES c.args.slot =
    c.address_of-at.ensures.page ∙ ap (λ (w : ℕ). slot_page g.row.N w c.args.slot) c.BYTES.ensures in
    let here : HasPage old c.SEGMENT.result c.address_of-at.result.page =
    subst (λ (s : ℕ). HasPage old s c.address_of-at.result.page) (sym c.SEGMENT.ensures)
    (subst (λ (p : ℕ). HasPage old g.R.Row.SEGMENT p) (sym number) (slot_there g.row.N g.R.Row.SEGMENT g.R.Row.BYTES c.args.slot old c.sound.ensures c.requires.there)) in
    let fits = c.address_of-at.ensures.fits (subst (λ (w : ℕ). is_spanned w ≡ false) (sym c.BYTES.ensures) c.requires.unspanned) in
    (search rules, (search rules, (here, (omega (arith, fits, c.BYTES.ensures, c.requires.within), search rules))))

-- ---- the write

page : (g : given.Over) (c : goal.After-sound-2 g) → c.address_of-at.result.page ≡ slot_page g.row.N g.R.Row.BYTES c.args.slot
page g c = c.address_of-at.ensures.page ∙ ap (λ (w : ℕ). slot_page g.row.N w c.args.slot) c.BYTES.ensures

offset : (g : given.Over) (c : goal.After-sound-2 g) → c.address_of-at.result.offset ≡ slot_offset g.row.N g.R.Row.BYTES c.args.slot
offset g c = c.address_of-at.ensures.offset ∙ ap (λ (w : ℕ). slot_offset g.row.N w c.args.slot) c.BYTES.ensures

here : (g : given.Over) (c : goal.After-sound-2 g) → HasPage c.args.space.now c.SEGMENT.result c.address_of-at.result.page
here g c =
    subst (λ (s : ℕ). HasPage c.args.space.now s c.address_of-at.result.page) (sym c.SEGMENT.ensures)
    (subst (λ (p : ℕ). HasPage c.args.space.now g.R.Row.SEGMENT p) (sym (page g c)) (slot_there g.row.N g.R.Row.SEGMENT g.R.Row.BYTES c.args.slot c.args.space.now c.sound.ensures c.requires.there))

-- what the write did, in the terms of all bytes of the segment, and in those of the slots
across : (g : given.Over) (c : goal.After-sound-2 g) → OnOk c.write-written.result (WritesAcross (owner_bytes c.args.space.now) (owner_bytes c.write-written.new.space) g.R.Row.SEGMENT
    (slot_page g.row.N g.R.Row.BYTES c.args.slot * g.row.N + (slot_offset g.row.N g.R.Row.BYTES c.args.slot + c.args.skip)) c.args.bytes.now)
across g c = on_ok_weaker c.write-written.result (λ written.
    let n : ℕ = g.row.N in
    let before : List (List (List ℕ)) = owner_bytes c.args.space.now in
    let after : List (List (List ℕ)) = owner_bytes c.write-written.new.space in
    let fits = c.address_of-at.ensures.fits (subst (λ (w : ℕ). is_spanned w ≡ false) (sym c.BYTES.ensures) c.requires.unspanned) in
    let raw : WritesAcross before after c.SEGMENT.result (c.address_of-at.result.page * n + (c.address_of-at.result.offset + c.args.skip)) c.args.bytes.now =
    across-written n c.args.space.now c.write-written.new.space c.SEGMENT.result c.address_of-at.result.page (c.address_of-at.result.offset + c.args.skip) c.args.bytes.now c.sound.ensures (here g c)
    (omega (arith, fits, c.BYTES.ensures, c.requires.within)) written in
    let place : c.address_of-at.result.page * n + (c.address_of-at.result.offset + c.args.skip) ≡ slot_page n g.R.Row.BYTES c.args.slot * n + (slot_offset n g.R.Row.BYTES c.args.slot + c.args.skip) =
    ap₂ (λ (p : ℕ) (o : ℕ). p * n + (o + c.args.skip)) (page g c) (offset g c) in
    subst (λ (s : ℕ). WritesAcross before after s (slot_page n g.R.Row.BYTES c.args.slot * n + (slot_offset n g.R.Row.BYTES c.args.slot + c.args.skip)) c.args.bytes.now) c.SEGMENT.ensures
    (subst (λ (start : ℕ). WritesAcross before after c.SEGMENT.result start c.args.bytes.now) place raw)) c.write-written.ensures.bytes

pub returns-clause-slot : goal.returns-clause-slot
returns-clause-slot g c = on_ok_weaker c.write-written.result
    (across-here g.row.N g.R.Row.SEGMENT g.R.Row.BYTES c.args.slot c.args.skip _ c.args.space.now c.write-written.new.space c.args.bytes.now c.sound.ensures c.sound-2.ensures c.requires.there
    (omega (arith, c.requires.within)) (omega (arith, byte_place g.row.N (slot_start g.row.N g.R.Row.BYTES c.args.slot))))
    (across g c)

pub returns-clause-only : goal.returns-clause-only
returns-clause-only g c = on_ok_weaker c.write-written.result
    (only-across (owner_bytes c.args.space.now) (owner_bytes c.write-written.new.space) g.R.Row.SEGMENT _ c.args.bytes.now) (across g c)

-- no page comes
pub returns-clause-few : goal.returns-clause-few
returns-clause-few g c few =
    let old : SpaceState = c.args.space.now in
    let new : SpaceState = c.write-written.new.space in
    by_outcome c.write-written.result (returns-clause-slot g c) c.write-written.ensures.err
    (λ written. few-written g.row.N g.R.Row.SEGMENT g.R.Row.BYTES (slot_start g.row.N g.R.Row.BYTES c.args.slot + c.args.skip) old new c.args.bytes.now c.sound.ensures.size.smallest written few)
    (λ same. few-refused g.row.N g.R.Row.SEGMENT g.R.Row.BYTES (slot_start g.row.N g.R.Row.BYTES c.args.slot + c.args.skip) old new c.args.bytes.now c.sound.ensures.size.smallest (ap (λ (s : SpaceState). owner_bytes s) same.1) few)

pub returns-clause-can_undo : goal.returns-clause-can_undo
returns-clause-can_undo g c =
    by_outcome c.write-written.result c.write-written.ensures.logs c.write-written.ensures.err
    (λ done. can_undo-written g.row.N c.args.space.now c.write-written.new.space c.args.undo.now c.write-written.new.self _ _ _ done.made.children done.made done.log c.write-written.ensures.undoes.undone c.write-written.ensures.undoes.undo_log)
    (λ same. can_undo-none g.row.N 1 c.args.space.now c.write-written.new.space c.args.undo.now c.write-written.new.self same.1 same.0 c.write-written.ensures.undoes.undo_log)

pub returns-clause-no_frame : goal.returns-clause-no_frame
returns-clause-no_frame g c failed =
    subst IsOutOfFrames (sym (on_failure c.write-written.result _ failed c.write-written.ensures.err).1)
    (out_of_frames g.row.N c.args.space.now c.SEGMENT.result c.address_of-at.result.page c.sound.ensures (here g c) (c.write-written.ensures.full.0 failed))

-- the owner's own page takes no frame
pub returns-clause-free : goal.returns-clause-free
returns-clause-free g c own =
    let before = c.args.space.now in
    let is_own : IsOwn before c.SEGMENT.result c.address_of-at.result.page =
    subst (λ (s : ℕ). IsOwn before s c.address_of-at.result.page) (sym c.SEGMENT.ensures) (subst (λ (p : ℕ). IsOwn before g.R.Row.SEGMENT p) (sym (page g c)) own) in
    by_outcome c.write-written.result c.write-written.ensures.logs c.write-written.ensures.err
    (λ done. done.made.free is_own)
    (λ same. ap (λ (s : SpaceState). free_of s.frames) same.1)

pub returns-clause-err : goal.returns-clause-err
returns-clause-err g c = on_err_weaker c.write-written.result (λ same. (same.0, ap (λ (s : SpaceState). owner_bytes s) same.1)) c.write-written.ensures.err
