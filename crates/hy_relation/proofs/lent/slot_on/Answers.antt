use Rattle.std.proofs.Common.{rules, ◌≡◌, ℕ, ◌+◌, ◌^◌, ◌<◌, ◌≤◌, List, [], sym, ap, ◌∙◌, subst, arith}
use Rattle.std.proofs.lemmas.List.{get_or_default}
use Rattle.hy_rows.specs.Spelling.{list_at, slot_width, slots_end}
use Rattle.hy_relation.specs.inside.Addresses.{slot_offset, slot_page}
use Rattle.hy_relation.proofs.PartReads.{slot-here}
use Rattle.hy_relation.proofs.SpaceLaws.{lent_few, slot_page-below, used-within}
use Rattle.hy_relation.proofs.lent.slot_on.Goals as goal

pub address_of-at-requires-clause-number : goal.address_of-at-requires-clause-number
address_of-at-requires-clause-number g c =
    subst (λ (w : ℕ). slots_end g.row.N w c.args.slot < 2 ^ 48) (sym c.BYTES.ensures)
    (lent_few g.row.N g.R.Row.BYTES c.args.pages.now c.args.slot c.requires.size c.requires.small c.requires.sized c.requires.slots c.requires.used c.requires.few)

pub bounds-pages-at : goal.bounds-pages-at
bounds-pages-at g c =
    let n : ℕ = g.row.N in
    let width : ℕ = g.R.Row.BYTES in
    let place : c.address_of-at.result.page ≡ slot_page n width c.args.slot = c.address_of-at.ensures.page ∙ ap (λ (w : ℕ). slot_page n w c.args.slot) c.BYTES.ensures in
    omega (arith, place, slot_page-below n width c.args.pages.now c.args.slot (omega (arith, c.requires.size)) c.requires.sized (used-within n width c.args.pages.now c.args.slot c.requires.size c.requires.slots c.requires.used))

pub offset_bounds-pages-at : goal.offset_bounds-pages-at
offset_bounds-pages-at g c =
    let n : ℕ = g.row.N in
    let width : ℕ = g.R.Row.BYTES in
    let place : c.address_of-at.result.page ≡ slot_page n width c.args.slot = c.address_of-at.ensures.page ∙ ap (λ (w : ℕ). slot_page n w c.args.slot) c.BYTES.ensures in
    let there = slot_page-below n width c.args.pages.now c.args.slot (omega (arith, c.requires.size)) c.requires.sized (used-within n width c.args.pages.now c.args.slot c.requires.size c.requires.slots c.requires.used) in
    omega (arith, place, there, c.requires.few)

-- the slot lies on the page on which it begins
pub returns-then-at-BYTES-clause-bytes : goal.returns-then-at-BYTES-clause-bytes
returns-then-at-BYTES-clause-bytes g c =
    let n : ℕ = g.row.N in
    let width : ℕ = g.R.Row.BYTES in
    let k : ℕ = c.args.slot in
    let pages : List (List ℕ) = c.args.pages.now in
    let there = slot_page-below n width pages k (omega (arith, c.requires.size)) c.requires.sized (used-within n width pages k c.requires.size c.requires.slots c.requires.used) in
    let place : c.address_of-at.result.page ≡ slot_page n width k = c.address_of-at.ensures.page ∙ ap (λ (w : ℕ). slot_page n w k) c.BYTES.ensures in
    let offset : c.address_of-at.result.offset ≡ slot_offset n width k = c.address_of-at.ensures.offset ∙ ap (λ (w : ℕ). slot_offset n w k) c.BYTES.ensures in
    let room : c.address_of-at.result.offset + slot_width width ≤ n = search rules in
    let page : c.bytes-page.result.now ≡ list_at pages (slot_page n width k) =
    c.bytes-page.ensures.bytes ∙ c.page.ensures.bytes ∙ c.index-pages-at.is
    ∙ get_or_default pages c.address_of-at.result.page c.index-pages-at.result [] (omega (arith, there, place))
    ∙ ap (λ (p : ℕ). list_at pages p) place in
    slot-here n width pages k c.requires.sized there c.bytes-page.result.now c.address_of-at.result.offset page offset _ (omega (arith, c.BYTES-then-at-BYTES.ensures)) room
