use Rattle.std.proofs.Common.{◌≡◌, ℕ, ◌^◌, ◌<◌, List, sym, ap, ◌∙◌, subst, arith}
use Rattle.hy_rows.specs.Spelling.{slots_end, used_slots}
use Rattle.hy_space.specs.Space.{HasPage}
use Rattle.hy_undo.proofs.PrivatePageLaws.{length-segment-owner_bytes}
use Rattle.hy_relation.specs.Relation.{owner_pages}
use Rattle.hy_relation.specs.inside.Addresses.{slot_page}
use Rattle.hy_relation.proofs.SlotLaws.{end-before, start-within}
use Rattle.hy_relation.proofs.SpaceLaws.{ends_few, few_pages, has_page, pages_sized, slot_page-below, used-within}
use Rattle.hy_relation.proofs.slots.address_in.Goals as goal

pub address_of-requires-clause-number : goal.address_of-requires-clause-number
address_of-requires-clause-number g c =
    let n : ℕ = g.row.N in
    let width : ℕ = g.R.Row.BYTES in
    let pages : List (List ℕ) = owner_pages c.args.space.now g.R.Row.SEGMENT in
    let before = end-before n width c.args.slot c.sound.ensures.size.smallest in
    let within = start-within n width c.args.slot (used_slots pages) c.sound.ensures.size.smallest c.requires.used in
    let few : slots_end n width c.args.slot < 2 ^ 48 =
    omega (arith, before, within, ends_few n g.R.Row.SEGMENT c.args.space.now c.sound.ensures c.requires.slots.first width c.requires.slots) in
    subst (λ (w : ℕ). slots_end n w c.args.slot < 2 ^ 48) (sym c.BYTES.ensures) few

pub returns-clause-there : goal.returns-clause-there
returns-clause-there g c =
    let pages : List (List ℕ) = owner_pages c.args.space.now g.R.Row.SEGMENT in
    let some : 0 < g.row.N = omega (arith, c.sound.ensures.size.smallest) in
    let there = has_page g.row.N g.R.Row.SEGMENT c.args.space.now c.sound.ensures c.requires.slots.first _
    (slot_page-below g.row.N g.R.Row.BYTES pages c.args.slot some (pages_sized g.row.N g.R.Row.SEGMENT c.args.space.now c.sound.ensures c.requires.slots.first)
    (used-within g.row.N g.R.Row.BYTES pages c.args.slot c.sound.ensures.size.smallest c.requires.slots c.requires.used)) in
    let page : c.address_of.result.page ≡ slot_page g.row.N g.R.Row.BYTES c.args.slot = c.address_of.ensures.page ∙ ap (λ (w : ℕ). slot_page g.row.N w c.args.slot) c.BYTES.ensures in
    subst (λ (p : ℕ). HasPage c.args.space.now g.R.Row.SEGMENT p) (sym page) there

pub returns-clause-small : goal.returns-clause-small
returns-clause-small g c =
    omega (
      arith,
      (returns-clause-there g c).1,
      length-segment-owner_bytes c.args.space.now g.R.Row.SEGMENT,
      few_pages g.row.N g.R.Row.SEGMENT c.args.space.now c.sound.ensures c.requires.slots.first,
    )
