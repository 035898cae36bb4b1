use Rattle.std.proofs.Common.{rules, ◌≡◌, ℕ, ◌+◌, ◌-◌, ◌*◌, ◌/◌, ◌^◌, ◌<◌, ◌≤◌, List, length, min, take, drop, sym, ap, ap₂, ◌∙◌, subst, arith}
use Rattle.std.proofs.Math.Nat.{div-le_of_le-mul}
use Rattle.hy_page.specs.Bytes.{bytes_at}
use Rattle.hy_rows.specs.Spelling.{list_at, slot_bytes, slot_start, slots_end, used_slots}
use Rattle.hy_space.specs.Space.{HasPage, page_bytes}
use Rattle.hy_relation.specs.Relation.{owner_pages}
use Rattle.hy_relation.specs.inside.Addresses.{page_of_byte}
use Rattle.hy_relation.proofs.CopyLaws.{IsCopied, copied-more, copied-there}
use Rattle.hy_relation.proofs.PageLaws.{length-slot_bytes}
use Rattle.hy_relation.proofs.SlotLaws.{end-before, start-within}
use Rattle.hy_relation.proofs.SpaceLaws.{few_pages, has_page, pages_sized, used-within}
use Rattle.hy_relation.proofs.slots.copy_of.Goals as goal

pub address_behind-at-requires-clause-number : goal.address_behind-at-requires-clause-number
address_behind-at-requires-clause-number g c =
    let n : ℕ = g.row.N in
    let width : ℕ = g.R.Row.BYTES in
    let size = c.sound.ensures.size.smallest in
    let few : slots_end n width c.args.slot < 2 ^ 48 =
    omega (arith, end-before n width c.args.slot size, start-within n width c.args.slot (used_slots (owner_pages c.args.space.now g.R.Row.SEGMENT)) size c.requires.used, c.know_few.ensures.ends) in
    subst (λ (w : ℕ). slots_end n w c.args.slot < 2 ^ 48) (sym c.BYTES.ensures) few

pub overflow_cast-page : goal.overflow_cast-page
overflow_cast-page g c =
    let n : ℕ = g.row.N in
    let pages : List (List ℕ) = owner_pages c.args.space.now g.R.Row.SEGMENT in
    let start : ℕ = slot_start n g.R.Row.BYTES c.args.slot + c.args.skip in
    let number : c.address_behind-at.result.page ≡ page_of_byte n start =
    c.address_behind-at.ensures.page ∙ ap (λ (w : ℕ). page_of_byte n (slot_start n w c.args.slot + c.args.skip)) c.BYTES.ensures in
    let fits = used-within n g.R.Row.BYTES pages c.args.slot c.sound.ensures.size.smallest c.requires.slots c.requires.used in
    let bytes : length (slot_bytes pages) ≡ (length pages - 1) * n = length-slot_bytes n pages (pages_sized n g.R.Row.SEGMENT c.args.space.now c.sound.ensures c.requires.slots.first) in
    let place : start / n ≤ length pages - 1 = div-le_of_le-mul n (omega (arith, bytes, fits, c.requires.inside)) in
    let few : length pages < 2 ^ 32 = few_pages n g.R.Row.SEGMENT c.args.space.now c.sound.ensures c.requires.slots.first in
    omega (arith, number, place, few, c.requires.slots.first)

pub page-requires : goal.page-requires
page-requires g c =
    let n : ℕ = g.row.N in
    let segment : ℕ = g.R.Row.SEGMENT in
    let pages : List (List ℕ) = owner_pages c.args.space.now segment in
    let sound = c.sound.ensures in
    let more : length c.loop-bytes.bytes.items < c.args.total = omega (arith, c.loop-bytes-test.true, c.len.ensures.value) in
    let fits = used-within n g.R.Row.BYTES pages c.args.slot sound.size.smallest c.requires.slots c.requires.used in
    let there : c.loop-bytes.page < length pages =
    copied-there n c.args.total (slot_start n g.R.Row.BYTES c.args.slot + c.args.skip) pages c.loop-bytes.bytes.items c.loop-bytes.page c.loop-bytes.offset
    (pages_sized n segment c.args.space.now sound c.requires.slots.first) (omega (arith, fits, c.requires.inside)) c.loop-bytes.invariant more in
    let has : HasPage c.args.space.now c.SEGMENT.result c.loop-bytes.page =
    subst (λ (s : ℕ). HasPage c.args.space.now s c.loop-bytes.page) (sym c.SEGMENT.ensures)
    (has_page n segment c.args.space.now sound c.requires.slots.first c.loop-bytes.page there) in
    (omega arith, (search rules, has))

pub loop-bytes-preserved : goal.loop-bytes-preserved
loop-bytes-preserved g c =
    let n : ℕ = g.row.N in
    let segment : ℕ = g.R.Row.SEGMENT in
    let pages : List (List ℕ) = owner_pages c.args.space.now segment in
    let sound = c.sound.ensures in
    let page : ℕ = c.loop-bytes.page in
    let offset : ℕ = c.loop-bytes.offset in
    let count : ℕ = c.min-count.result in
    let start : ℕ = slot_start n g.R.Row.BYTES c.args.slot + c.args.skip in
    let more : length c.loop-bytes.bytes.items < c.args.total = omega (arith, c.loop-bytes-test.true, c.len.ensures.value) in
    let fits = used-within n g.R.Row.BYTES pages c.args.slot sound.size.smallest c.requires.slots c.requires.used in
    let counted : count ≡ min (c.args.total - length c.loop-bytes.bytes.items) (n - offset) =
    c.min-count.ensures ∙ ap (λ left. min left (n - offset)) (let left : _ ≡ c.args.total - length c.loop-bytes.bytes.items = omega (arith, c.len-in-loop-bytes.ensures.value) in left) in
    let here : c.bytes.result.now ≡ list_at pages page =
    c.bytes.ensures.bytes ∙ c.page.ensures.bytes ∙ ap (λ (s : ℕ). page_bytes c.args.space.now s page) c.SEGMENT.ensures in
    let part : take (offset + count - offset) (drop offset c.bytes.result.now) ≡ bytes_at (list_at pages page) offset count =
    ap₂ (λ (size : ℕ) (bytes : List ℕ). take size (drop offset bytes)) (let size : offset + count - offset ≡ count = omega arith in size) here in
    subst (λ (copied : List ℕ). IsCopied n c.args.total start pages copied (page + 1) 0) (sym c.push_bytes.ensures.bytes)
    (copied-more n c.args.total start pages c.loop-bytes.bytes.items page offset (pages_sized n segment c.args.space.now sound c.requires.slots.first) (omega (arith, fits, c.requires.inside))
    c.loop-bytes.invariant more count _ counted part)

pub overflow_add-page : goal.overflow_add-page
overflow_add-page g c =
    let n : ℕ = g.row.N in
    let segment : ℕ = g.R.Row.SEGMENT in
    let pages : List (List ℕ) = owner_pages c.args.space.now segment in
    let sound = c.sound.ensures in
    let more : length c.loop-bytes.bytes.items < c.args.total = omega (arith, c.loop-bytes-test.true, c.len.ensures.value) in
    let fits = used-within n g.R.Row.BYTES pages c.args.slot sound.size.smallest c.requires.slots c.requires.used in
    let there : c.loop-bytes.page < length pages =
    copied-there n c.args.total (slot_start n g.R.Row.BYTES c.args.slot + c.args.skip) pages c.loop-bytes.bytes.items c.loop-bytes.page c.loop-bytes.offset
    (pages_sized n segment c.args.space.now sound c.requires.slots.first) (omega (arith, fits, c.requires.inside)) c.loop-bytes.invariant more in
    omega (arith, there, few_pages n segment c.args.space.now sound c.requires.slots.first)
