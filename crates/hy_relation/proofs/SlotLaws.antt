-- Where slots begin in the joined bytes of their pages, and what a change of the bytes does to the list of slots.
use Rattle.std.proofs.Common.{◌≡◌, ◌≢◌, ℕ, zero, suc, ◌+◌, ◌*◌, ◌/◌, ◌%◌, ◌<◌, ◌≤◌, ◌==◌, Bool, true, false, cond, List, [], ◌∷◌, ◌++◌, length, take, drop, set, Option, Some, None, refl, sym, ap, ◌∙◌, ap₂, arith, inl, inr}
use Rattle.std.proofs.Math.Nat.{mul-le-mul_right, mod-lt, div-mul-le_self, le-div_iff_mul-le, div-add-mod, lt-div-mul-add}
use Rattle.std.proofs.lemmas.Bool.{cases_Bool, cases_lt, cond-false, cond-true}
use Rattle.std.proofs.lemmas.Bool.Decides.{nat_tests}
use Rattle.std.proofs.lemmas.List.{drop-append-le, take-append-le, length-drop, take-take}
use Rattle.std.proofs.lemmas.Nat.{div_below, le-div}
use Rattle.hy_page.specs.Bytes.{number_of, bytes_at, overwritten}
use Rattle.std.specs.Option.{option_map}
use Rattle.hy_page.proofs.ByteLaws.{length-bytes_at, bytes_at-overwritten_same, bytes_at-overwritten_before, bytes_at-overwritten_behind}
use Rattle.hy_rows.proofs.FirstItems.{first_items-same, first_items-set}
use Rattle.hy_rows.specs.Spelling.{first_items, is_live, is_spanned, least_page, row_of_slot, slot_start, slot_width, slots_end, slots_per_page}
use Rattle.hy_relation.specs.Relation.{end_place}
use Rattle.hy_relation.proofs.OverwriteLaws.{bytes_at-overwritten_inside, overwritten-behind}

-- ---- slots that aren't spanned

-- a page has a slot, if one fits
pub some_slots : (n width : ℕ) → slot_width width ≤ n → 0 < slots_per_page n width
some_slots n width room = (le-div_iff_mul-le {k = slot_width width} {x = 1} {y = n} (omega arith)).1 (omega arith)

-- the slots before one of a page, and this one, fit the page
pub slots_fit : (n width place : ℕ) → place < slots_per_page n width → place * slot_width width + slot_width width ≤ n
slots_fit n width place within =
    let all : slots_per_page n width * slot_width width ≤ n = div-mul-le_self n (slot_width width) in
    let some : (place + 1) * slot_width width ≤ slots_per_page n width * slot_width width = mul-le-mul_right (slot_width width) (omega arith) in
    omega arith

-- slots one behind another
slots_apart : (width one other : ℕ) → one < other → one * slot_width width + slot_width width ≤ other * slot_width width
slots_apart width one other before =
    let some : (one + 1) * slot_width width ≤ other * slot_width width = mul-le-mul_right (slot_width width) (omega arith) in
    omega arith

-- where one begins on its page
abbrev place_start : ℕ → ℕ → ℕ → ℕ
place_start n width k = k / slots_per_page n width * n + k % slots_per_page n width * slot_width width

place-apart : (n width j k : ℕ) → slot_width width ≤ n → j < k → place_start n width j + slot_width width ≤ place_start n width k
place-apart n width j k room before =
    let per = slots_per_page n width in
    let some : 0 < per = some_slots n width room in
    let fits : j % per * slot_width width + slot_width width ≤ n = slots_fit n width (j % per) (mod-lt j some) in
    let no_later : j / per ≤ k / per = le-div (j / per) k per some (omega (arith, div-mul-le_self j per)) in
    elim (cases_lt (j / per) (k / per)) [
      | inl earlier ↦
          let pages : (j / per + 1) * n ≤ k / per * n = mul-le-mul_right n (omega arith) in
          omega arith
      | inr rest ↦
          let same : j / per ≡ k / per = omega arith in
          let product : per * (j / per) ≡ per * (k / per) = ap (λ q. per * q) same in
          let pages : j / per * n ≡ k / per * n = ap (λ q. q * n) same in
          let places : j % per < k % per = omega (arith, div-add-mod j per, div-add-mod k per) in
          let apart = slots_apart width (j % per) (k % per) places in
          omega arith
    ]

-- ---- where slots begin

pub start-spanned : (n width k : ℕ) → is_spanned width ≡ true → slot_start n width k ≡ k * slot_width width
start-spanned n width k is = cond-true (is_spanned width) (k * slot_width width) (place_start n width k) is

pub start-unspanned : (n width k : ℕ) → is_spanned width ≡ false → slot_start n width k ≡ place_start n width k
start-unspanned n width k isnt = cond-false (is_spanned width) (k * slot_width width) (place_start n width k) isnt

-- a page holds a slot that isn't spanned
pub unspanned-room : (n width : ℕ) → least_page ≤ n → is_spanned width ≡ false → slot_width width ≤ n
unspanned-room n width size isnt = grind (arith, nat_tests)

-- a slot ends before a later one begins
pub start-apart : (n width j k : ℕ) → least_page ≤ n → j < k → slot_start n width j + slot_width width ≤ slot_start n width k
start-apart n width j k size before = elim (cases_Bool (is_spanned width)) [
  | inl is ↦ omega (arith, start-spanned n width j is, start-spanned n width k is, slots_apart width j k before)
  | inr isnt ↦ omega (
    arith,
    start-unspanned n width j isnt,
    start-unspanned n width k isnt,
    place-apart n width j k (unspanned-room n width size isnt) before,
  )
]

-- each of the first slots ends where they end, or before
pub start-within : (n width k used : ℕ) → least_page ≤ n → k < used → slot_start n width k + slot_width width ≤ slots_end n width used
start-within n width k zero size within = absurd (omega arith)
start-within n width k (suc last) size within = elim (cases_lt k last) [
  | inl before ↦ omega (arith, start-apart n width k last size before)
  | inr rest ↦
      let same : k ≡ last = omega (arith, rest, within) in
      omega (arith, ap (slot_start n width) same)
]

-- the slots before one end where it begins, or before
pub end-before : (n width k : ℕ) → least_page ≤ n → slots_end n width k ≤ slot_start n width k
end-before n width zero size = omega arith
end-before n width (suc last) size = start-apart n width last (suc last) size (omega arith)

pub start-sorted : (n width j k : ℕ) → least_page ≤ n → j ≤ k → slot_start n width j ≤ slot_start n width k
start-sorted n width j k size within = elim (cases_lt j k) [
  | inl before ↦ omega (arith, start-apart n width j k size before)
  | inr rest ↦
      let same : j ≡ k = omega (arith, rest, within) in
      omega (arith, ap (slot_start n width) same)
]

-- there are as many bytes as slots, or more
pub slots-few : (n width k : ℕ) → least_page ≤ n → k ≤ slots_end n width k
slots-few n width zero size = omega arith
slots-few n width (suc last) size = omega (arith, slots-few n width last size, end-before n width last size)

-- ---- the page on which a slot ends

-- a slot that ends within so many pages ends on one of them
pub end-below : (n width k count : ℕ) → 0 < n → slot_start n width k + slot_width width ≤ count * n → end_place n width k < count
end-below n width k count some within = div_below (slot_start n width k + width) n count some (omega (arith, within))

pub below-end : (n width k count : ℕ) → 0 < n → end_place n width k < count → slot_start n width k + slot_width width ≤ count * n
below-end n width k count some below =
    let last : slot_start n width k + width < end_place n width k * n + n = lt-div-mul-add some in
    let all : (end_place n width k + 1) * n ≤ count * n = mul-le-mul_right n (omega (arith, below)) in
    omega (arith, last, all)

pub end-sorted : (n width j k : ℕ) → least_page ≤ n → j ≤ k → end_place n width j ≤ end_place n width k
end-sorted n width j k size within =
    let enough : end_place n width j * n ≤ slot_start n width j + width = div-mul-le_self (slot_start n width j + width) n in
    le-div (end_place n width j) (slot_start n width k + width) n (omega (arith, size)) (omega (arith, enough, start-sorted n width j k size within))

-- ---- the slots in some joined bytes

module _ {Row : Type 0} (n width : ℕ) (row_of : List ℕ → Row) where
  -- what slot k has
  abbrev pub row_at : List ℕ → ℕ → Option Row
  row_at joined k = row_of_slot row_of (bytes_at joined (slot_start n width k) (slot_width width))

  abbrev pub slots_in : List ℕ → ℕ → List (Option Row)
  slots_in joined used = first_items (row_at joined) used

  -- more bytes behind those of the slots change none
  pub slots_in-grown : (joined more : List ℕ) (used : ℕ) → ((k : ℕ) → k < used → slot_start n width k + slot_width width ≤ length joined)
      → slots_in (joined ++ more) used ≡ slots_in joined used
  slots_in-grown joined more used within =
      first_items-same (row_at (joined ++ more)) (row_at joined) used (λ k below.
      let start = slot_start n width k in
      let fits : start + slot_width width ≤ length joined = within k below in
      ap (row_of_slot row_of)
      (ap (take (slot_width width)) (drop-append-le start joined more (omega arith))
      ∙ take-append-le (slot_width width) (drop start joined) more (omega (arith, length-drop start joined))))

  -- a write over the first bytes of a slot leaves the others
  row_at-other : (joined part : List ℕ) (k j : ℕ) → least_page ≤ n → length part ≤ slot_width width → slot_start n width k + slot_width width ≤ length joined → j ≢ k
      → row_at (overwritten joined (slot_start n width k) part) j ≡ row_at joined j
  row_at-other joined part k j room short fits differs =
      let from = slot_start n width j in
      ap (row_of_slot row_of) (elim (cases_lt j k) [
        | inl before ↦ bytes_at-overwritten_before joined (slot_start n width k) part from (slot_width width) (omega arith) (start-apart n width j k room before)
        | inr rest ↦
            let behind = start-apart n width k j room (omega arith) in
            bytes_at-overwritten_behind joined (slot_start n width k) part from (slot_width width) (omega arith) (omega arith)
      ])

  -- and so does one over other bytes of it
  row_at-beside : (joined part : List ℕ) (k j skip : ℕ) → least_page ≤ n → 1 + skip + length part ≤ slot_width width → slot_start n width k + slot_width width ≤ length joined → j ≢ k
      → row_at (overwritten joined (slot_start n width k + (1 + skip)) part) j ≡ row_at joined j
  row_at-beside joined part k j skip room short fits differs =
      let start : ℕ = slot_start n width k + (1 + skip) in
      let from = slot_start n width j in
      ap (row_of_slot row_of) (elim (cases_lt j k) [
        | inl before ↦ bytes_at-overwritten_before joined start part from (slot_width width) (omega (arith, fits, short)) (omega (arith, start-apart n width j k room before))
        | inr rest ↦
            let behind = start-apart n width k j room (omega arith) in
            bytes_at-overwritten_behind joined start part from (slot_width width) (omega (arith, fits, short)) (omega (arith, behind, short))
      ])

  -- a slot in whose row some bytes were written has another row, or none as before
  row_at-part : (joined part : List ℕ) (k skip : ℕ) (change : Row → Row) → 1 + skip + length part ≤ slot_width width → slot_start n width k + slot_width width ≤ length joined
      → ((row : List ℕ) → length row ≡ width → row_of (overwritten row skip part) ≡ change (row_of row))
      → row_at (overwritten joined (slot_start n width k + (1 + skip)) part) k ≡ option_map change (row_at joined k)
  row_at-part joined part k skip change short fits changes =
      let start : ℕ = slot_start n width k in
      let old : List ℕ = bytes_at joined start (slot_width width) in
      let size : length old ≡ slot_width width = length-bytes_at joined start (slot_width width) fits in
      ap (row_of_slot row_of) (bytes_at-overwritten_inside joined start (slot_width width) (1 + skip) part fits short)
      ∙ slot-part old size
    where
      slot-part : (slot : List ℕ) → length slot ≡ slot_width width
          → row_of_slot row_of (overwritten slot (1 + skip) part) ≡ option_map change (row_of_slot row_of slot)
      slot-part [] sized = absurd (omega (arith, sized))
      slot-part (mark ∷ row) sized =
          ap (row_of_slot row_of) (overwritten-behind mark row skip part) ∙ row-part (is_live (mark ∷ [])) row (omega (arith, sized))
        where
          row-part : (live : Bool) (row : List ℕ) → length row ≡ width
              → cond live (Some (row_of (overwritten row skip part))) None ≡ option_map change (cond live (Some (row_of row)) None)
          row-part true row sized = ap Some (changes row sized)
          row-part false row sized = refl

  -- a slot in which a row was written has this row
  row_at-filled : (joined bytes : List ℕ) (k : ℕ) → length bytes ≡ width → slot_start n width k + slot_width width ≤ length joined
      → row_at (overwritten joined (slot_start n width k) (1 ∷ bytes)) k ≡ Some (row_of bytes)
  row_at-filled joined bytes k sized fits =
      let start = slot_start n width k in
      let whole : slot_width width ≡ length (1 ∷ bytes) = omega arith in
      ap (λ count. row_of_slot row_of (bytes_at (overwritten joined start (1 ∷ bytes)) start count)) whole
      ∙ ap (row_of_slot row_of) (bytes_at-overwritten_same joined start (1 ∷ bytes) (omega arith))

  -- a slot that was marked as erased has none
  row_at-erased : (joined : List ℕ) (k : ℕ) → slot_start n width k + slot_width width ≤ length joined
      → row_at (overwritten joined (slot_start n width k) (0 ∷ [])) k ≡ None
  row_at-erased joined k fits =
      let start = slot_start n width k in
      let slot : List ℕ = bytes_at (overwritten joined start (0 ∷ [])) start (slot_width width) in
      let mark : take 1 slot ≡ 0 ∷ [] = take-take 1 (slot_width width) (drop start (overwritten joined start (0 ∷ []))) (omega arith)
      ∙ bytes_at-overwritten_same joined start (0 ∷ []) (omega arith) in
      ap (λ (first : List ℕ). cond (number_of first == 1) (Some (row_of (drop 1 slot))) None) mark

  module _ (joined : List ℕ) (used k : ℕ) (room : least_page ≤ n) (fits : slot_start n width k + slot_width width ≤ length joined) where
    -- a row written in a used slot
    pub slots_in-filled : (bytes : List ℕ) → length bytes ≡ width → k < used
        → slots_in (overwritten joined (slot_start n width k) (1 ∷ bytes)) used ≡ set (slots_in joined used) k (Some (row_of bytes))
    slots_in-filled bytes sized within =
        let new = overwritten joined (slot_start n width k) (1 ∷ bytes) in
        first_items-set (row_at joined) (row_at new) used k within (λ j below differs. row_at-other joined (1 ∷ bytes) k j room (omega arith) fits differs)
        ∙ ap (set (slots_in joined used) k) (row_at-filled joined bytes k sized fits)

    -- some bytes of the row in a used slot, which mean another row
    pub slots_in-part : (skip : ℕ) (part : List ℕ) (change : Row → Row) → 1 + skip + length part ≤ slot_width width → k < used
        → ((row : List ℕ) → length row ≡ width → row_of (overwritten row skip part) ≡ change (row_of row))
        → slots_in (overwritten joined (slot_start n width k + (1 + skip)) part) used ≡ set (slots_in joined used) k (option_map change (row_at joined k))
    slots_in-part skip part change short within changes =
        let new = overwritten joined (slot_start n width k + (1 + skip)) part in
        first_items-set (row_at joined) (row_at new) used k within (λ j below differs. row_at-beside joined part k j skip room short fits differs)
        ∙ ap (set (slots_in joined used) k) (row_at-part joined part k skip change short fits changes)

    -- a used slot marked as erased
    pub slots_in-erased : k < used → slots_in (overwritten joined (slot_start n width k) (0 ∷ [])) used ≡ set (slots_in joined used) k None
    slots_in-erased within =
        let new = overwritten joined (slot_start n width k) (0 ∷ []) in
        first_items-set (row_at joined) (row_at new) used k within (λ j below differs. row_at-other joined (0 ∷ []) k j room (omega arith) fits differs)
        ∙ ap (set (slots_in joined used) k) (row_at-erased joined k fits)

    -- a write in the slot behind the used ones
    pub slots_in-behind : (part : List ℕ) → length part ≤ slot_width width → used ≤ k → slots_in (overwritten joined (slot_start n width k) part) used ≡ slots_in joined used
    slots_in-behind part short past =
        first_items-same (row_at (overwritten joined (slot_start n width k) part)) (row_at joined) used (λ j below. row_at-other joined part k j room short fits (omega arith))

    -- a row written in the slot behind the used ones, which is then a used one too
    pub slots_in-pushed : (bytes : List ℕ) → length bytes ≡ width → used ≡ k
        → slots_in (overwritten joined (slot_start n width k) (1 ∷ bytes)) (k + 1) ≡ slots_in joined used ++ Some (row_of bytes) ∷ []
    slots_in-pushed bytes sized all =
        let new = overwritten joined (slot_start n width k) (1 ∷ bytes) in
        let more : k + 1 ≡ suc k = omega arith in
        ap (slots_in new) more
        ∙ ap₂ (λ slots slot. slots ++ slot ∷ [])
        (first_items-same (row_at new) (row_at joined) k (λ j below. row_at-other joined (1 ∷ bytes) k j room (omega arith) fits (omega arith)))
        (row_at-filled joined bytes k sized fits)
        ∙ ap (λ count. slots_in joined count ++ Some (row_of bytes) ∷ []) (sym all)
