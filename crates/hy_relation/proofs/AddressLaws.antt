-- What the arithmetic of addresses needs: how great the numbers can be, and on which page a slot begins and ends.
use Rattle.std.proofs.Common.{◌≡◌, ℕ, zero, suc, ◌+◌, ◌*◌, ◌/◌, ◌%◌, ◌<◌, ◌≤◌, true, false, ap, ◌∙◌, arith}
use Rattle.std.proofs.Math.Nat.{div-mul-le_self, mod-lt, mul-add-div_right, mul-add-mod_self_right, mul-le-mul_left}
use Rattle.std.proofs.lemmas.Nat.{div-add-mod', div-mul-add, le-div, mod-mul-add}
use Rattle.hy_rows.specs.Spelling.{is_spanned, least_page, slot_width, slots_end, slots_per_page}
use Rattle.hy_undo.specs.Writes.{pages_of_part}
use Rattle.hy_relation.specs.inside.Addresses.{offset_of_byte, page_of_byte, slot_offset, slot_page}
use Rattle.hy_relation.proofs.SlotLaws.{slots_fit, some_slots, start-spanned, start-unspanned, unspanned-room}

-- slots that are spanned end where the next one begins
pub end-spanned : (n width k : ℕ) → is_spanned width ≡ true → slots_end n width k ≡ k * slot_width width
end-spanned n width zero is = omega arith
end-spanned n width (suc last) is = omega (arith, start-spanned n width last is)

module _ (n width k : ℕ) (least : least_page ≤ n) (isnt : is_spanned width ≡ false) where
  fits : k % slots_per_page n width * slot_width width + slot_width width ≤ n
  fits = slots_fit n width (k % slots_per_page n width) (mod-lt k (some_slots n width (unspanned-room n width least isnt)))

  pub page-unspanned : slot_page n width k ≡ 1 + k / slots_per_page n width
  page-unspanned =
      ap (λ start. 1 + start / n) (start-unspanned n width k isnt)
      ∙ ap (λ page. 1 + page) (div-mul-add (k / slots_per_page n width) n (k % slots_per_page n width * slot_width width) (omega (arith, fits)))

  pub offset-unspanned : slot_offset n width k ≡ k % slots_per_page n width * slot_width width
  offset-unspanned =
      ap (λ start. start % n) (start-unspanned n width k isnt)
      ∙ mod-mul-add (k / slots_per_page n width) n (k % slots_per_page n width * slot_width width) (omega (arith, fits))

  pub fits-unspanned : slot_offset n width k + slot_width width ≤ n
  fits-unspanned = omega (arith, offset-unspanned, fits)

-- a byte behind another: its page, its offset there, and where it stands among the bytes of all pages
pub page-behind : (n byte skip : ℕ) → 0 < n → page_of_byte n (byte + skip) ≡ page_of_byte n byte + (offset_of_byte n byte + skip) / n
page-behind n byte skip some =
    let parts : byte + skip ≡ byte / n * n + (byte % n + skip) = omega (arith, div-add-mod' byte n) in
    ap (λ all. 1 + all / n) parts ∙ ap (λ page. 1 + page) (mul-add-div_right some (byte / n) (byte % n + skip)) ∙ omega arith

pub offset-behind : (n byte skip : ℕ) → offset_of_byte n (byte + skip) ≡ (offset_of_byte n byte + skip) % n
offset-behind n byte skip =
    let parts : byte + skip ≡ byte / n * n + (byte % n + skip) = omega (arith, div-add-mod' byte n) in
    ap (λ all. all % n) parts ∙ mul-add-mod_self_right (byte / n) n (byte % n + skip)

pub byte_place : (n byte : ℕ) → page_of_byte n byte * n + offset_of_byte n byte ≡ n + byte
byte_place n byte =
    let one : page_of_byte n byte * n ≡ n + byte / n * n = omega arith in
    omega (arith, one, div-add-mod' byte n)

-- bytes from an offset of a page on lie on no more pages than a slot
pub part-few : (n offset count width : ℕ) → least_page ≤ n → offset < n → count ≤ slot_width width
    → pages_of_part n offset count ≤ slot_width width / least_page + 2
part-few n offset count width least inside short = few ((offset + count) / n) (div-mul-le_self (offset + count) n)
  where
    few : (pages : ℕ) → pages * n ≤ offset + count → pages + 1 ≤ slot_width width / least_page + 2
    few zero within = omega arith
    few (suc pages) within =
        let whole : suc pages * n ≡ (pages + 1) * n = ap (λ all. all * n) (let all : suc pages ≡ pages + 1 = omega arith in all) in
        let less : pages * least_page ≤ pages * n = mul-le-mul_left pages least in
        let enough : pages ≤ slot_width width / least_page =
        le-div pages (slot_width width) least_page (omega arith) (omega (arith, within, whole, less, inside, short)) in
        omega (arith, enough)
