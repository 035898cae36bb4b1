use Rattle.std.proofs.Common.{rules, ◌≡◌, ℕ, ◌+◌, ◌≤◌, List, ap, ◌∙◌, arith}
use Rattle.hy_rows.specs.Spelling.{list_at, slot_width}
use Rattle.hy_space.specs.Space.{page_bytes}
use Rattle.hy_relation.specs.Relation.{owner_pages}
use Rattle.hy_relation.specs.inside.Addresses.{slot_page}
use Rattle.hy_relation.proofs.PartReads.{slot-here}
use Rattle.hy_relation.proofs.SpaceLaws.{pages_sized, slot_page-below, used-within}
use Rattle.hy_relation.proofs.slots.slot_in.Goals as goal

-- the slot lies on the page on which it begins
pub returns-then-at-BYTES-clause-bytes : goal.returns-then-at-BYTES-clause-bytes
returns-then-at-BYTES-clause-bytes g c =
    let n : ℕ = g.row.N in
    let width : ℕ = g.R.Row.BYTES in
    let k : ℕ = c.args.slot in
    let pages : List (List ℕ) = owner_pages c.args.space.now g.R.Row.SEGMENT in
    let sized = pages_sized n g.R.Row.SEGMENT c.args.space.now c.sound.ensures c.requires.slots.first in
    let there = slot_page-below n width pages k (omega (arith, c.sound.ensures.size.smallest)) sized (used-within n width pages k c.sound.ensures.size.smallest c.requires.slots c.requires.used) in
    let room : c.address_in-at.result.offset + slot_width width ≤ n = search rules in
    let page : c.bytes-page.result.now ≡ list_at pages (slot_page n width k) = c.bytes-page.ensures.bytes ∙ c.page.ensures.bytes
    ∙ ap (λ (s : ℕ). page_bytes c.args.space.now s c.address_in-at.result.page) c.SEGMENT.ensures
    ∙ ap (page_bytes c.args.space.now g.R.Row.SEGMENT) c.address_in-at.ensures.page in
    slot-here n width pages k sized there c.bytes-page.result.now c.address_in-at.result.offset page c.address_in-at.ensures.offset _ (omega (arith, c.BYTES-then-at-BYTES.ensures)) room
