-- Pages that are made for the slot behind the used ones, one behind another.
use Rattle.std.proofs.Common.{◌≡◌, ◌⊎◌, inl, inr, ℕ, zero, suc, ◌+◌, ◌-◌, ◌*◌, ◌/◌, ◌<◌, ◌≤◌, false, List, [], ◌∷◌, ◌++◌, length, length-append, max, replicate, refl, sym, ap, ◌∙◌, subst, arith, append_assoc}
use Rattle.std.proofs.Math.Nat.{div-le_of_le-mul, lt-div-mul-add, mod-lt}
use Rattle.std.proofs.lemmas.Bool.{cases_Bool, cond-false, cond-true}
use Rattle.std.proofs.lemmas.Nat.{div_below}
use Rattle.hy_frames.specs.FrameTable.{free_of}
use Rattle.hy_rows.specs.Spelling.{HasSlots, is_spanned, least_page, list_at, slot_bytes, slot_start, slot_width, slots_end, slots_per_page, used_slots}
use Rattle.hy_space.specs.Space.{GrowsPage, IsOwn, SpaceState, owner_bytes}
use Rattle.hy_undo.specs.PrivatePages.{IsUndoLog}
use Rattle.hy_undo.specs.UndoLog.{UndoLog, undone}
use Rattle.hy_undo.specs.Writes.{CanUndoGrowth}
use Rattle.hy_undo.proofs.JoinedLaws.{Sized}
use Rattle.hy_undo.proofs.PrivatePageLaws.{length-segment-owner_bytes}
use Rattle.hy_undo.proofs.WriteLaws.{growth-grown, growth-none, growth-then}
use Rattle.hy_relation.specs.Relation.{ChangesSegment, HasFewPages, end_place, owner_pages, pages_after_push, pages_of_slot}
use Rattle.hy_relation.specs.inside.Addresses.{GrowsSlots, slot_offset, slot_page}
use Rattle.hy_relation.proofs.AddressLaws.{end-spanned, fits-unspanned, page-behind, page-unspanned, part-few}
use Rattle.hy_relation.proofs.PageLaws.{grows_none, grows_slots, length-slot_bytes}
use Rattle.hy_relation.proofs.SlotLaws.{below-end, some_slots, start-spanned, unspanned-room}
use Rattle.hy_relation.proofs.SpaceLaws.{changes-none, changes-set, changes-then, segment-set, segment_there}

-- some pages came, up to the one with a number at most
pub record HasGrown (n segment last : ℕ) (old now : SpaceState) (log : UndoLog) : Type 0 where
  pub grows : GrowsSlots (owner_pages old segment) (owner_pages now segment)
  pub only : ChangesSegment (owner_bytes old) (owner_bytes now) segment
  pub most : length (owner_pages now segment) ≤ max (length (owner_pages old segment)) (last + 1)
  pub undo_log : IsUndoLog n now log
  pub can_undo : CanUndoGrowth n 0 (length (owner_pages now segment) - length (owner_pages old segment)) old now log log
  pub own : (now ≡ old) ⊎ ((length (owner_pages old segment) < length (owner_pages now segment)) × IsOwn now segment (length (owner_pages now segment) - 1))

pub has_grown-none : (n segment last : ℕ) (s : SpaceState) (log : UndoLog) → IsUndoLog n s log → HasGrown n segment last s s log
has_grown-none n segment last s log is_log = record {
  grows = grows_none (owner_pages s segment) (owner_pages s segment) refl;
  only = changes-none (owner_bytes s) (owner_bytes s) segment refl;
  most = omega arith;
  undo_log = is_log;
  can_undo = growth-none n 0 (length (owner_pages s segment) - length (owner_pages s segment)) s s log refl is_log;
  own = inl refl;
}

grows-then : (old mid new : List (List ℕ)) → GrowsSlots old mid → GrowsSlots mid new → GrowsSlots old new
grows-then old mid new first second = record {
  joined = (
    first.joined.0 ++ second.joined.0,
    second.joined.1 ∙ ap (λ bytes. bytes ++ second.joined.0) first.joined.1 ∙ append_assoc (slot_bytes old) first.joined.0 second.joined.0,
  );
  used = second.used ∙ first.used;
  pages = omega (arith, first.pages, second.pages);
}

-- one page more
after-grown : (n segment page : ℕ) (now next : SpaceState) → 0 < length (owner_pages now segment) → GrowsPage n now next segment page
    → owner_pages next segment ≡ owner_pages now segment ++ replicate n 0 ∷ []
after-grown n segment page now next still grows =
    ap (λ (all : List (List (List ℕ))). list_at all segment) grows.bytes
    ∙ segment-set (owner_bytes now) segment (owner_pages now segment ++ replicate n 0 ∷ []) (segment_there (owner_bytes now) segment still)

pub one_more : (n segment page : ℕ) (now next : SpaceState) → 0 < length (owner_pages now segment) → GrowsPage n now next segment page
    → length (owner_pages next segment) ≡ length (owner_pages now segment) + 1
one_more n segment page now next still grows =
    ap length (after-grown n segment page now next still grows) ∙ length-append (owner_pages now segment) (replicate n 0 ∷ [])

pub has_grown-more : (n segment last page : ℕ) (old now next : SpaceState) (log : UndoLog) → 0 < length (owner_pages old segment) → length (owner_pages now segment) ≤ last
    → GrowsPage n now next segment page → undone (owner_bytes next) log ≡ undone (owner_bytes now) log → IsUndoLog n next log
    → HasGrown n segment last old now log → HasGrown n segment last old next log
has_grown-more n segment last page old now next log some wanted grows same is_log had =
    let pages : List (List ℕ) = owner_pages now segment in
    let still : 0 < length pages = omega (arith, some, had.grows.pages) in
    let more : List (List ℕ) = pages ++ replicate n 0 ∷ [] in
    let after : owner_pages next segment ≡ more = after-grown n segment page now next still grows in
    let count : length (owner_pages next segment) ≡ length pages + 1 = one_more n segment page now next still grows in
    let number : page ≡ length (owner_pages next segment) - 1 = grows.number ∙ omega (arith, count, length-segment-owner_bytes now segment) in
    record {
      grows = grows-then (owner_pages old segment) pages (owner_pages next segment) had.grows
          (subst (GrowsSlots pages) (sym after) (grows_slots pages (replicate n 0) still));
      only = changes-then (owner_bytes old) (owner_bytes now) (owner_bytes next) segment had.only
          (subst (λ (all : List (List (List ℕ))). ChangesSegment (owner_bytes now) all segment) (sym grows.bytes) (changes-set (owner_bytes now) segment more));
      most = omega (arith, count, wanted);
      undo_log = is_log;
      can_undo = growth-then n 0 0 0 (length pages - length (owner_pages old segment)) 1 (length (owner_pages next segment) - length (owner_pages old segment)) old now next log log log
          (omega arith) (omega (arith, count, had.grows.pages)) had.can_undo (growth-grown n 0 1 now next log segment page (omega arith) grows same is_log);
      own = inr (omega (arith, count, had.grows.pages), subst (IsOwn next segment) number grows.private.own);
    }

-- ---- how many pages come

-- the slot behind the used ones begins on a page that is there, or on the next one
pub next-page : (n width : ℕ) (pages : List (List ℕ)) → least_page ≤ n → Sized n pages → HasSlots n width pages
    → slot_start n width (used_slots pages) / n ≤ length pages - 1
next-page n width pages size sized slots = elim (cases_Bool (is_spanned width)) [
  | inl is ↦
      let start : slot_start n width (used_slots pages) ≡ slots_end n width (used_slots pages) = start-spanned n width (used_slots pages) is ∙ sym (end-spanned n width (used_slots pages) is) in
      div-le_of_le-mul n (omega (arith, start, slots.slots, length-slot_bytes n pages sized))
  | inr isnt ↦ unspanned (used_slots pages) isnt slots.slots
]
  where
    unspanned : (used : ℕ) → is_spanned width ≡ false → slots_end n width used ≤ length (slot_bytes pages) → slot_start n width used / n ≤ length pages - 1
    unspanned zero isnt within =
        let first : slot_page n width 0 ≡ 1 + 0 / slots_per_page n width = page-unspanned n width 0 size isnt in
        omega (arith, first, div_below 0 (slots_per_page n width) 1 (some_slots n width (unspanned-room n width size isnt)) (omega (arith, some_slots n width (unspanned-room n width size isnt))))
    unspanned (suc k) isnt within =
        let per = slots_per_page n width in
        let some : 0 < per = some_slots n width (unspanned-room n width size isnt) in
        let bytes : length (slot_bytes pages) ≡ (length pages - 1) * n = length-slot_bytes n pages sized in
        let before : slot_start n width k / n < length pages - 1 = div_below (slot_start n width k) n (length pages - 1) (omega (arith, size)) (omega (arith, within, bytes)) in
        let here : slot_page n width (suc k) ≡ 1 + suc k / per = page-unspanned n width (suc k) size isnt in
        let last : slot_page n width k ≡ 1 + k / per = page-unspanned n width k size isnt in
        let less : k < k / per * per + per = lt-div-mul-add some in
        let next : suc k / per ≤ k / per + 1 = div-le_of_le-mul per (omega (arith, less)) in
        omega (arith, before, here, last, next)

-- and ends on no more pages behind it than a slot lies on
pub pages-behind : (n width : ℕ) (k : ℕ) → least_page ≤ n → end_place n width k + 1 ≤ slot_start n width k / n + pages_of_slot width
pages-behind n width k size =
    let from = page-behind n (slot_start n width k) width (omega (arith, size)) in
    elim (cases_Bool (is_spanned width)) [
      | inl is ↦
          let many : pages_of_slot width ≡ slot_width width / least_page + 2 = cond-true (is_spanned width) (slot_width width / least_page + 2) 1 is in
          let few = part-few n (slot_offset n width k) width width size (mod-lt (slot_start n width k) (omega (arith, size))) (omega arith) in
          omega (arith, from, many, few)
      | inr isnt ↦
          let one : pages_of_slot width ≡ 1 = cond-false (is_spanned width) (slot_width width / least_page + 2) 1 isnt in
          let none : (slot_offset n width k + width) / n < 1 = div_below (slot_offset n width k + width) n 1 (omega (arith, size)) (omega (arith, fits-unspanned n width k size isnt)) in
          omega (arith, from, one, none)
    ]

module _ (n segment width last : ℕ) (old now : SpaceState) (log : UndoLog) (size : least_page ≤ n) (slots : HasSlots n width (owner_pages old segment))
    (is_last : last ≡ end_place n width (used_slots (owner_pages old segment)) + 1) (had : HasGrown n segment last old now log) where
  pub grown-few : Sized n (owner_pages old segment) → length (owner_pages now segment) - length (owner_pages old segment) ≤ pages_of_slot width
  grown-few sized = omega (
    arith,
    had.most,
    is_last,
    slots.first,
    next-page n width (owner_pages old segment) size sized slots,
    pages-behind n width (used_slots (owner_pages old segment)) size,
  )

  pub grown-few_frames : Sized n (owner_pages old segment) → CanUndoGrowth n 0 (pages_of_slot width) old now log log
  grown-few_frames sized = record {
    children = had.can_undo.children;
    undone = had.can_undo.undone;
    undo_log = had.can_undo.undo_log;
    counts = had.can_undo.counts;
    images = had.can_undo.images;
    frames = omega (arith, had.can_undo.frames, grown-few sized);
    limit = had.can_undo.limit;
  }

  pub grown-stays_few : HasFewPages n width (owner_pages old segment) → HasFewPages n width (owner_pages now segment)
  grown-stays_few few =
      omega (arith, few, had.most, is_last, ap (end_place n width) had.grows.used)

  -- enough pages came
  module _ (enough : last < length (owner_pages now segment)) where
    pub grown-room : Sized n (owner_pages now segment)
        → slot_start n width (used_slots (owner_pages old segment)) + slot_width width ≤ length (slot_bytes (owner_pages now segment))
    grown-room sized =
        let bytes : length (slot_bytes (owner_pages now segment)) ≡ (length (owner_pages now segment) - 1) * n = length-slot_bytes n (owner_pages now segment) sized in
        omega (arith, bytes, below-end n width (used_slots (owner_pages old segment)) (length (owner_pages now segment) - 1) (omega (arith, size)) (omega (arith, is_last, enough)))

    pub grown-pages : length (owner_pages now segment) ≡ pages_after_push n width (owner_pages old segment)
    grown-pages = omega (arith, had.most, is_last, enough, had.grows.pages)

    -- and where the slot isn't spanned, its page is the last one, which is new, or none came
    pub grown-own : is_spanned width ≡ false → (free_of now.frames ≡ free_of old.frames)
        ⊎ IsOwn now segment (slot_page n width (used_slots (owner_pages old segment)))
    grown-own isnt = elim had.own [
      | inl same ↦ inl (ap (λ (s : SpaceState). free_of s.frames) same)
      | inr (more, own) ↦
          let used : ℕ = used_slots (owner_pages old segment) in
          let none : (slot_offset n width used + width) / n < 1 =
          div_below (slot_offset n width used + width) n 1 (omega (arith, size)) (omega (arith, fits-unspanned n width used size isnt)) in
          let here : length (owner_pages now segment) - 1 ≡ slot_page n width used =
          omega (arith, enough, had.most, more, is_last, page-behind n (slot_start n width used) width (omega (arith, size)), none) in
          inr (subst (IsOwn now segment) here own)
    ]
