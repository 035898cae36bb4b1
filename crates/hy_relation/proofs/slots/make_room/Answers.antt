use Rattle.std.proofs.Common.{◌≡◌, ℕ, ◌+◌, ◌^◌, ◌<◌, length, sym, ap, ◌∙◌, subst, arith}
use Rattle.hy_rows.specs.Spelling.{slots_end, used_slots}
use Rattle.hy_space.specs.Space.{GrowsPage, SpaceState, owner_bytes, page_count}
use Rattle.hy_undo.specs.Writes.{CanUndoGrowth}
use Rattle.hy_undo.proofs.PrivatePageLaws.{length-segment-owner_bytes}
use Rattle.hy_relation.specs.Relation.{ChangesSegment, HasFewPages, end_place, owner_pages, pages_of_slot}
use Rattle.hy_relation.specs.inside.Addresses.{GrowsSlots}
use Rattle.hy_relation.proofs.RoomLaws.{grown-few_frames, grown-own, grown-pages, grown-room, grown-stays_few, has_grown-more, one_more}
use Rattle.hy_relation.proofs.SpaceLaws.{ends_few, pages_sized}
use Rattle.hy_relation.proofs.slots.make_room.Goals as goal
use Rattle.hy_relation.proofs.slots.make_room.Given as given

pub last_page_of-last-requires-clause-number : goal.last_page_of-last-requires-clause-number
last_page_of-last-requires-clause-number g c =
    let few = ends_few g.row.N g.R.Row.SEGMENT c.args.space.now c.sound.ensures c.requires.slots.first g.R.Row.BYTES c.requires.slots in
    subst (λ (used : ℕ). slots_end g.row.N c.BYTES.result used < 2 ^ 48) (sym c.used_of.ensures.value)
    (subst (λ (w : ℕ). slots_end g.row.N w (used_slots (owner_pages c.args.space.now g.R.Row.SEGMENT)) < 2 ^ 48) (sym c.BYTES.ensures) few)

-- ---- one page more

pub loop-space-preserved : goal.loop-space-preserved
loop-space-preserved g c =
    let segment : ℕ = g.R.Row.SEGMENT in
    let now : SpaceState = c.loop-space.space in
    let count : c.pages.result ≡ length (owner_pages now segment) = c.pages.ensures ∙ ap (page_count now) c.SEGMENT.ensures ∙ sym (length-segment-owner_bytes now segment) in
    has_grown-more g.row.N segment c.last_page_of-last.result c.in_ok-grow.field-0 c.args.space.now now c.grow.new.space c.args.undo.now c.requires.slots.first
    (omega (arith, c.loop-space-test.true, c.from.ensures, count))
    (subst (λ (s : ℕ). GrowsPage g.row.N now c.grow.new.space s c.in_ok-grow.field-0) c.SEGMENT-in-loop-space.ensures c.in_ok-grow.ensures.grows)
    c.in_ok-grow.ensures.undoes.undone c.in_ok-grow.ensures.undoes.undo_log c.loop-space.invariant

pub loop-space-smaller : goal.loop-space-smaller
loop-space-smaller g c =
    let segment : ℕ = g.R.Row.SEGMENT in
    let now : SpaceState = c.loop-space.space in
    let next : SpaceState = c.grow.new.space in
    let count : c.pages.result ≡ length (owner_pages now segment) = c.pages.ensures ∙ ap (page_count now) c.SEGMENT.ensures ∙ sym (length-segment-owner_bytes now segment) in
    let more : length (owner_pages next segment) ≡ length (owner_pages now segment) + 1 = one_more g.row.N segment c.in_ok-grow.field-0 now next
    (omega (arith, c.requires.slots.first, c.loop-space.invariant.grows.pages))
    (subst (λ (s : ℕ). GrowsPage g.row.N now next s c.in_ok-grow.field-0) c.SEGMENT-in-loop-space.ensures c.in_ok-grow.ensures.grows) in
    omega (arith, c.loop-space-test.true, c.from.ensures, count, more)

-- ---- enough pages

is_last : (g : given.Over) (c : goal.After-sound-2 g) → c.last_page_of-last.result ≡ end_place g.row.N g.R.Row.BYTES (used_slots (owner_pages c.args.space.now g.R.Row.SEGMENT)) + 1
is_last g c =
    c.last_page_of-last.ensures ∙ ap (λ (w : ℕ). end_place g.row.N w c.used_of.result + 1) c.BYTES.ensures
    ∙ ap (λ (used : ℕ). end_place g.row.N g.R.Row.BYTES used + 1) c.used_of.ensures.value

enough : (g : given.Over) (c : goal.After-sound-2 g) → c.last_page_of-last.result < length (owner_pages c.loop-space.space g.R.Row.SEGMENT)
enough g c =
    let segment : ℕ = g.R.Row.SEGMENT in
    let now : SpaceState = c.loop-space.space in
    let count : c.pages.result ≡ length (owner_pages now segment) = c.pages.ensures ∙ ap (page_count now) c.SEGMENT.ensures ∙ sym (length-segment-owner_bytes now segment) in
    omega (arith, c.loop-space-test.false, c.from.ensures, count)

pub returns-clause-room : goal.returns-clause-room
returns-clause-room g c =
    let segment : ℕ = g.R.Row.SEGMENT in
    grown-room g.row.N segment g.R.Row.BYTES c.last_page_of-last.result c.args.space.now c.loop-space.space c.args.undo.now c.sound.ensures.size.smallest c.requires.slots (is_last g c)
    c.loop-space.invariant (enough g c) (pages_sized g.row.N segment c.loop-space.space c.sound-2.ensures (omega (arith, enough g c)))

pub returns-clause-pages : goal.returns-clause-pages
returns-clause-pages g c =
    grown-pages g.row.N g.R.Row.SEGMENT g.R.Row.BYTES c.last_page_of-last.result c.args.space.now c.loop-space.space c.args.undo.now c.sound.ensures.size.smallest c.requires.slots (is_last g c)
    c.loop-space.invariant (enough g c)

pub returns-clause-own : goal.returns-clause-own
returns-clause-own g c =
    let segment : ℕ = g.R.Row.SEGMENT in
    grown-own g.row.N segment g.R.Row.BYTES c.last_page_of-last.result c.args.space.now c.loop-space.space c.args.undo.now c.sound.ensures.size.smallest c.requires.slots (is_last g c)
    c.loop-space.invariant (enough g c)

pub returns-clause-can_undo : goal.returns-clause-can_undo
returns-clause-can_undo g c =
    let segment : ℕ = g.R.Row.SEGMENT in
    grown-few_frames g.row.N segment g.R.Row.BYTES c.last_page_of-last.result c.args.space.now c.loop-space.space c.args.undo.now c.sound.ensures.size.smallest c.requires.slots (is_last g c)
    c.loop-space.invariant (pages_sized g.row.N segment c.args.space.now c.sound.ensures c.requires.slots.first)

-- ---- a refusal

refused_last : (g : given.Over) (c : goal.After-from_residual g) → c.last_page_of-last.result ≡ end_place g.row.N g.R.Row.BYTES (used_slots (owner_pages c.args.space.now g.R.Row.SEGMENT)) + 1
refused_last g c =
    c.last_page_of-last.ensures ∙ ap (λ (w : ℕ). end_place g.row.N w c.used_of.result + 1) c.BYTES.ensures
    ∙ ap (λ (used : ℕ). end_place g.row.N g.R.Row.BYTES used + 1) c.used_of.ensures.value

pub returns-in_err-grow-clause-grows : goal.returns-in_err-grow-clause-grows
returns-in_err-grow-clause-grows g c =
    subst (λ (s : SpaceState). GrowsSlots (owner_pages c.args.space.now g.R.Row.SEGMENT) (owner_pages s g.R.Row.SEGMENT)) (sym c.in_err-grow.ensures.err) c.loop-space.invariant.grows

pub returns-in_err-grow-clause-few : goal.returns-in_err-grow-clause-few
returns-in_err-grow-clause-few g c few =
    subst (λ (s : SpaceState). HasFewPages g.row.N g.R.Row.BYTES (owner_pages s g.R.Row.SEGMENT)) (sym c.in_err-grow.ensures.err)
    (grown-stays_few g.row.N g.R.Row.SEGMENT g.R.Row.BYTES c.last_page_of-last.result c.args.space.now c.loop-space.space c.args.undo.now c.sound.ensures.size.smallest c.requires.slots (refused_last g c)
    c.loop-space.invariant few)

pub returns-in_err-grow-clause-only : goal.returns-in_err-grow-clause-only
returns-in_err-grow-clause-only g c =
    subst (λ (s : SpaceState). ChangesSegment (owner_bytes c.args.space.now) (owner_bytes s) g.R.Row.SEGMENT) (sym c.in_err-grow.ensures.err) c.loop-space.invariant.only

pub returns-in_err-grow-clause-can_undo : goal.returns-in_err-grow-clause-can_undo
returns-in_err-grow-clause-can_undo g c =
    subst (λ (s : SpaceState). CanUndoGrowth g.row.N 0 (pages_of_slot g.R.Row.BYTES) c.args.space.now s c.args.undo.now c.args.undo.now) (sym c.in_err-grow.ensures.err)
    (grown-few_frames g.row.N g.R.Row.SEGMENT g.R.Row.BYTES c.last_page_of-last.result c.args.space.now c.loop-space.space c.args.undo.now c.sound.ensures.size.smallest c.requires.slots (refused_last g c)
    c.loop-space.invariant (pages_sized g.row.N g.R.Row.SEGMENT c.args.space.now c.sound.ensures c.requires.slots.first))

pub returns-in_err-grow-clause-wanted : goal.returns-in_err-grow-clause-wanted
returns-in_err-grow-clause-wanted g c failed =
    let segment : ℕ = g.R.Row.SEGMENT in
    let now : SpaceState = c.loop-space.space in
    let count : c.pages.result ≡ length (owner_pages now segment) = c.pages.ensures ∙ ap (page_count now) c.SEGMENT.ensures ∙ sym (length-segment-owner_bytes now segment) in
    omega (arith, c.loop-space-test.true, c.from.ensures, count, refused_last g c, c.loop-space.invariant.grows.pages)
