use Rattle.std.proofs.Common.{◌≡◌, ℕ, ◌+◌, ◌-◌, ◌^◌, ◌<◌, List, [], length, min, take, drop, sym, ap, ap₂, ◌∙◌, subst, arith}
use Rattle.std.proofs.lemmas.List.{get_or_default}
use Rattle.hy_page.specs.Bytes.{bytes_at}
use Rattle.hy_rows.specs.Spelling.{list_at, slot_start, slot_width, slots_end}
use Rattle.hy_relation.proofs.CopyLaws.{IsCopied, copied-more, copied-there}
use Rattle.hy_relation.proofs.SpaceLaws.{lent_few, used-within}
use Rattle.hy_relation.proofs.lent.copy_on.Goals as goal

pub address_of-at-requires-clause-number : goal.address_of-at-requires-clause-number
address_of-at-requires-clause-number g c =
    subst (λ (w : ℕ). slots_end g.row.N w c.args.slot < 2 ^ 48) (sym c.BYTES.ensures)
    (lent_few g.row.N g.R.Row.BYTES c.args.pages.now c.args.slot c.requires.size c.requires.small c.requires.sized c.requires.slots c.requires.used c.requires.few)

pub bounds-pages-page : goal.bounds-pages-page
bounds-pages-page g c =
    let n : ℕ = g.row.N in
    let width : ℕ = g.R.Row.BYTES in
    let more : length c.loop-bytes.bytes.items < slot_width width = omega (arith, c.loop-bytes-test.true, c.len.ensures.value, c.BYTES-in-loop-bytes.ensures) in
    copied-there n (slot_width width) (slot_start n width c.args.slot) c.args.pages.now c.loop-bytes.bytes.items c.loop-bytes.page c.loop-bytes.offset c.requires.sized
    (used-within n width c.args.pages.now c.args.slot c.requires.size c.requires.slots c.requires.used) c.loop-bytes.invariant more

pub offset_bounds-pages-page : goal.offset_bounds-pages-page
offset_bounds-pages-page g c =
    let n : ℕ = g.row.N in
    let width : ℕ = g.R.Row.BYTES in
    let more : length c.loop-bytes.bytes.items < slot_width width = omega (arith, c.loop-bytes-test.true, c.len.ensures.value, c.BYTES-in-loop-bytes.ensures) in
    let there = copied-there n (slot_width width) (slot_start n width c.args.slot) c.args.pages.now c.loop-bytes.bytes.items c.loop-bytes.page c.loop-bytes.offset c.requires.sized
    (used-within n width c.args.pages.now c.args.slot c.requires.size c.requires.slots c.requires.used) c.loop-bytes.invariant more in
    omega (arith, there, c.requires.few)

pub overflow_add-page : goal.overflow_add-page
overflow_add-page g c =
    let n : ℕ = g.row.N in
    let width : ℕ = g.R.Row.BYTES in
    let more : length c.loop-bytes.bytes.items < slot_width width = omega (arith, c.loop-bytes-test.true, c.len.ensures.value, c.BYTES-in-loop-bytes.ensures) in
    let there = copied-there n (slot_width width) (slot_start n width c.args.slot) c.args.pages.now c.loop-bytes.bytes.items c.loop-bytes.page c.loop-bytes.offset c.requires.sized
    (used-within n width c.args.pages.now c.args.slot c.requires.size c.requires.slots c.requires.used) c.loop-bytes.invariant more in
    omega (arith, there, c.requires.few)

pub loop-bytes-preserved : goal.loop-bytes-preserved
loop-bytes-preserved g c =
    let n : ℕ = g.row.N in
    let width : ℕ = g.R.Row.BYTES in
    let pages : List (List ℕ) = c.args.pages.now in
    let page : ℕ = c.loop-bytes.page in
    let offset : ℕ = c.loop-bytes.offset in
    let count : ℕ = c.min-count.result in
    let start : ℕ = slot_start n width c.args.slot in
    let more : length c.loop-bytes.bytes.items < slot_width width = omega (arith, c.loop-bytes-test.true, c.len.ensures.value, c.BYTES-in-loop-bytes.ensures) in
    let fits = used-within n width pages c.args.slot c.requires.size c.requires.slots c.requires.used in
    let there = copied-there n (slot_width width) start pages c.loop-bytes.bytes.items page offset c.requires.sized fits c.loop-bytes.invariant more in
    let counted : count ≡ min (slot_width width - length c.loop-bytes.bytes.items) (n - offset) =
    c.min-count.ensures ∙ ap (λ left. min left (n - offset)) (let left : _ ≡ slot_width width - length c.loop-bytes.bytes.items = omega (arith, c.len-in-loop-bytes.ensures.value, c.BYTES-in-loop-bytes-2.ensures) in left) in
    let here : c.bytes.result.now ≡ list_at pages page =
    c.bytes.ensures.bytes ∙ c.page.ensures.bytes ∙ c.index-pages-page.is ∙ get_or_default pages page c.index-pages-page.result [] there in
    let part : take (offset + count - offset) (drop offset c.bytes.result.now) ≡ bytes_at (list_at pages page) offset count =
    ap₂ (λ (size : ℕ) (bytes : List ℕ). take size (drop offset bytes)) (let size : offset + count - offset ≡ count = omega arith in size) here in
    subst (λ (copied : List ℕ). IsCopied n (slot_width width) start pages copied (page + 1) 0) (sym c.push_bytes.ensures.bytes)
    (copied-more n (slot_width width) start pages c.loop-bytes.bytes.items page offset c.requires.sized fits c.loop-bytes.invariant more count _ counted part)
