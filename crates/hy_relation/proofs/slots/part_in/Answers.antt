use Rattle.std.proofs.Common.{rules, ◌≡◌, ℕ, ◌+◌, ◌≤◌, List, true, false, Some, sym, ap, ap₂, ◌∙◌, arith}
use Rattle.hy_page.specs.Bytes.{bytes_at}
use Rattle.std.proofs.lemmas.Bool.{leb-true}
use Rattle.hy_rows.specs.Spelling.{is_live, is_spanned, list_at, slot_at, slot_bytes, slot_start}
use Rattle.hy_space.specs.Space.{page_bytes}
use Rattle.hy_relation.specs.Relation.{owner_pages}
use Rattle.hy_relation.specs.inside.Addresses.{slot_page}
use Rattle.hy_relation.proofs.PartReads.{mark-here, part-here, part-none, part-some}
use Rattle.hy_relation.proofs.SpaceLaws.{pages_sized, slot_page-below, used-within}
use Rattle.hy_relation.proofs.slots.part_in.Goals as goal
use Rattle.hy_relation.proofs.slots.part_in.Goals.{then-not-is_spanned, else-not-is_spanned}

pub returns-then-not-is_live : goal.returns-then-not-is_live
returns-then-not-is_live g c =
    let n : ℕ = g.row.N in
    let width : ℕ = g.R.Row.BYTES in
    let k : ℕ = c.args.slot in
    let pages : List (List ℕ) = owner_pages c.args.space.now g.R.Row.SEGMENT in
    let sized = pages_sized n g.R.Row.SEGMENT c.args.space.now c.sound.ensures c.requires.slots.first in
    let fits = used-within n width pages k c.sound.ensures.size.smallest c.requires.slots c.requires.used in
    let there = slot_page-below n width pages k (omega (arith, c.sound.ensures.size.smallest)) sized fits in
    let page : c.bytes-page.result.now ≡ list_at pages (slot_page n width k) = c.bytes-page.ensures.bytes ∙ c.page.ensures.bytes
    ∙ ap (λ (s : ℕ). page_bytes c.args.space.now s c.address_in-at.result.page) c.SEGMENT.ensures
    ∙ ap (page_bytes c.args.space.now g.R.Row.SEGMENT) c.address_in-at.ensures.page in
    let dead : is_live (slot_at n width pages k) ≡ false =
    sym (mark-here n width pages k sized there c.bytes-page.result.now c.address_in-at.result.offset page c.address_in-at.ensures.offset c.address_in-at.ensures.within) ∙ sym c.is_live.ensures ∙ search rules in
    part-none g.R.Row.row_of_bytes g.P.Part.part_of g.P.Part.part_of_bytes width g.P.Part.OFFSET g.P.Part.WIDTH g.met.P.Part.inside g.met.P.Part.said
    (slot_bytes pages) (slot_start n width k) fits dead

pub returns-then-from-WIDTH : goal.returns-then-from-WIDTH
returns-then-from-WIDTH g c =
    let n : ℕ = g.row.N in
    let width : ℕ = g.R.Row.BYTES in
    let k : ℕ = c.args.slot in
    let pages : List (List ℕ) = owner_pages c.args.space.now g.R.Row.SEGMENT in
    let sized = pages_sized n g.R.Row.SEGMENT c.args.space.now c.sound.ensures c.requires.slots.first in
    let fits = used-within n width pages k c.sound.ensures.size.smallest c.requires.slots c.requires.used in
    let there = slot_page-below n width pages k (omega (arith, c.sound.ensures.size.smallest)) sized fits in
    let page : c.bytes-page.result.now ≡ list_at pages (slot_page n width k) = c.bytes-page.ensures.bytes ∙ c.page.ensures.bytes
    ∙ ap (λ (s : ℕ). page_bytes c.args.space.now s c.address_in-at.result.page) c.SEGMENT.ensures
    ∙ ap (page_bytes c.args.space.now g.R.Row.SEGMENT) c.address_in-at.ensures.page in
    let live : is_live (slot_at n width pages k) ≡ true =
    sym (mark-here n width pages k sized there c.bytes-page.result.now c.address_in-at.result.offset page c.address_in-at.ensures.offset c.address_in-at.ensures.within) ∙ sym c.is_live.ensures ∙ search rules in
    let ends : c.address_in-at.result.offset + 1 + c.OFFSET.result + c.WIDTH-then-from-WIDTH.result ≤ n = elim c.if-not-is_spanned.branch [
      | then-not-is_spanned w ↦
          let unspanned : is_spanned width ≡ false = search rules in
          omega (arith, c.address_in-at.ensures.fits unspanned, c.OFFSET.ensures, c.WIDTH-then-from-WIDTH.ensures, g.met.P.Part.inside)
      | else-not-is_spanned w ↦ omega (arith, leb-true _ n (sym w.value-is ∙ c.if-from-WIDTH.true), w.WIDTH.ensures, c.WIDTH-then-from-WIDTH.ensures)
    ] in
    let room : c.address_in-at.result.offset + (1 + g.P.Part.OFFSET) + g.P.Part.WIDTH ≤ n = omega (arith, ends, c.OFFSET.ensures, c.WIDTH-then-from-WIDTH.ensures) in
    let part = part-here n width pages k sized there c.bytes-page.result.now c.address_in-at.result.offset page c.address_in-at.ensures.offset
    (c.address_in-at.result.offset + 1 + c.OFFSET.result) (1 + g.P.Part.OFFSET) g.P.Part.WIDTH c.WIDTH-then-from-WIDTH.result (omega (arith, c.OFFSET.ensures)) c.WIDTH-then-from-WIDTH.ensures room in
    ap Some (c.decode_part.ensures ∙ ap g.P.Part.part_of_bytes part)
    ∙ part-some g.R.Row.row_of_bytes g.P.Part.part_of g.P.Part.part_of_bytes width g.P.Part.OFFSET g.P.Part.WIDTH g.met.P.Part.inside g.met.P.Part.said
    (slot_bytes pages) (slot_start n width k) fits live

pub returns-else-from-WIDTH : goal.returns-else-from-WIDTH
returns-else-from-WIDTH g c =
    let n : ℕ = g.row.N in
    let width : ℕ = g.R.Row.BYTES in
    let k : ℕ = c.args.slot in
    let pages : List (List ℕ) = owner_pages c.args.space.now g.R.Row.SEGMENT in
    let sized = pages_sized n g.R.Row.SEGMENT c.args.space.now c.sound.ensures c.requires.slots.first in
    let fits = used-within n width pages k c.sound.ensures.size.smallest c.requires.slots c.requires.used in
    let there = slot_page-below n width pages k (omega (arith, c.sound.ensures.size.smallest)) sized fits in
    let page : c.bytes-page.result.now ≡ list_at pages (slot_page n width k) = c.bytes-page.ensures.bytes ∙ c.page.ensures.bytes
    ∙ ap (λ (s : ℕ). page_bytes c.args.space.now s c.address_in-at.result.page) c.SEGMENT.ensures
    ∙ ap (page_bytes c.args.space.now g.R.Row.SEGMENT) c.address_in-at.ensures.page in
    let live : is_live (slot_at n width pages k) ≡ true =
    sym (mark-here n width pages k sized there c.bytes-page.result.now c.address_in-at.result.offset page c.address_in-at.ensures.offset c.address_in-at.ensures.within) ∙ sym c.is_live.ensures ∙ search rules in
    let part : c.as_slice.result.now ≡ bytes_at (slot_bytes pages) (slot_start n width k + (1 + g.P.Part.OFFSET)) g.P.Part.WIDTH =
    c.as_slice.ensures.value ∙ c.copy_of.ensures
    ∙ ap₂ (λ skip count. bytes_at (slot_bytes pages) (slot_start n width k + (1 + skip)) count) c.OFFSET-else-from-WIDTH.ensures c.WIDTH-else-from-WIDTH.ensures in
    ap Some (c.decode_part-else-from-WIDTH.ensures ∙ ap g.P.Part.part_of_bytes part)
    ∙ part-some g.R.Row.row_of_bytes g.P.Part.part_of g.P.Part.part_of_bytes width g.P.Part.OFFSET g.P.Part.WIDTH g.met.P.Part.inside g.met.P.Part.said
    (slot_bytes pages) (slot_start n width k) fits live
