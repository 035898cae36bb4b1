-- How many pages segments have, after a row or an entry more.
use Rattle.std.proofs.Common.{◌≡◌, ◌≢◌, ℕ, ◌+◌, ◌<◌, ◌≤◌, List, [], ◌∷◌, ◌++◌, length, map, Result, Ok, Err, Some, inl, inr, sym, ap, subst, arith, length-append}
use Rattle.std.specs.Prelude.{OnErr, OnOk, slice_get}
use Rattle.std.proofs.lemmas.Bool.{cases_eq}
use Rattle.std.proofs.lemmas.List.{length-map}
use Rattle.hy_frames.specs.FrameTable.{page_of}
use Rattle.hy_rows.specs.Spelling.{IsTable, list_at, used_slots}
use Rattle.hy_rows.specs.Catalogue.{row_widths, segments}
use Rattle.hy_rows.specs.inside.Places.{segment_there}
use Rattle.hy_space.specs.Space.{SpaceState, owner_bytes}
use Rattle.hy_undo.specs.UndoLog.{UndoLog}
use Rattle.hy_relation.specs.Relation.{ChangesSegment, HasFewPages, owner_pages, relation_slots}
use Rattle.hy_relation.proofs.RelationLaws.{length-slots_of}
use Rattle.hy_index.specs.of_nodes.Writes.{WritesSegment, pages_of}
use Rattle.hy_index.specs.Writes.{KeepsPagesFor}
use Rattle.hy_store.specs.Pages.{IsIndexAt, KeepsPagesUpTo, index_pages, key_widths}

-- two numbers at one place of a list are the same
one_number : (numbers : List ℕ) (place one other : ℕ) → slice_get numbers place ≡ Some one → slice_get numbers place ≡ Some other → one ≡ other
one_number numbers place one other is_one is_other = cc

-- a refused push keeps what was there, and any other adds one
pub pushed-count : {T E Item : Type 0} (r : Result T E) (old new : List Item) (item : Item)
    → OnOk r (new ≡ old ++ item ∷ []) → OnErr r (new ≡ old) → length new ≤ length old + 1
pushed-count (Ok x) old new item pushed kept = omega (arith, ap length pushed, length-append old (item ∷ []))
pushed-count (Err e) old new item pushed kept = omega (arith, ap length kept)

-- a row was pushed, or the push was refused
module _ {Row : Type 0} (n segment width : ℕ) (row_of : List ℕ → Row) (table : IsTable segment width) (old new : SpaceState)
    (changes : ChangesSegment (owner_bytes old) (owner_bytes new) segment)
    (few : HasFewPages n width (owner_pages old segment) → HasFewPages n width (owner_pages new segment))
    (more : length (relation_slots n segment width row_of new) ≤ length (relation_slots n segment width row_of old) + 1) where
  pub keeps-pushed : (count : ℕ) → length (relation_slots n segment width row_of old) ≡ count → KeepsPagesUpTo n segment (count + 1) old new
  keeps-pushed count counted most room had = record {
    all = omega (arith, had.all, changes.segments);
    slots = λ s w is_table. elim (cases_eq s segment) [
      | inl same ↦ subst (λ (x : ℕ). used_slots (list_at (owner_bytes new) x) ≤ most x) (sym same)
          (omega (arith, room, more, counted, length-slots_of n width row_of (owner_pages new segment)))
      | inr differs ↦ subst (λ (pages : List (List ℕ)). used_slots pages ≤ most s) (sym (changes.others s differs)) (had.slots s w is_table)
    ];
    few = λ s w is_table. elim (cases_eq s segment) [
      | inl same ↦
          let widths : width ≡ w = one_number row_widths segment width w table (subst (λ (x : ℕ). IsTable x w) same is_table) in
          subst (λ (x : ℕ). HasFewPages n w (list_at (owner_bytes new) x)) (sym same)
          (subst (λ (x : ℕ). HasFewPages n x (owner_pages new segment)) widths (few (had.few segment width table)))
      | inr differs ↦ subst (λ (pages : List (List ℕ)). HasFewPages n w pages) (sym (changes.others s differs)) (had.few s w is_table)
    ];
    indexes = λ s w is. subst (λ (pages : List (List ℕ)). length pages ≤ index_pages n w (most s))
        (sym (changes.others s (let below : segment < segments = segment_there segment width table in omega (arith, below, is.behind))))
        (had.indexes s w is);
  }

-- an entry was inserted, or that was refused
module _ (n segment width : ℕ) (index : IsIndexAt segment width) (old new : SpaceState) (before after : UndoLog) (place : ℕ) (at : place ≡ segment)
    (writes : WritesSegment n place old new before after) where
  lengths : length (owner_bytes new) ≡ length (owner_bytes old)
  lengths = omega (arith, writes.segments, length-map new.owner (map (page_of new.frames)), length-map old.owner (map (page_of old.frames)))

  others : (other : ℕ) → other ≢ segment → list_at (owner_bytes new) other ≡ list_at (owner_bytes old) other
  others = subst (λ (s : ℕ). (other : ℕ) → other ≢ s → pages_of new other ≡ pages_of old other) at writes.others

  beside : (s w : ℕ) → IsTable s w → list_at (owner_bytes new) s ≡ list_at (owner_bytes old) s
  beside s w table = others s (let below : s < segments = segment_there s w table in omega (arith, below, index.behind))

  pub keeps-inserted : (count was : ℕ) → was ≡ count → KeepsPagesFor n width was (pages_of old place) (pages_of new place) → KeepsPagesUpTo n segment (count + 1) old new
  keeps-inserted count was counted keeps most room had =
      let here : KeepsPagesFor n width was (pages_of old segment) (pages_of new segment) =
      subst (λ (s : ℕ). KeepsPagesFor n width was (pages_of old s) (pages_of new s)) at keeps in
      record {
        all = omega (arith, had.all, lengths);
        slots = λ s w table. subst (λ (pages : List (List ℕ)). used_slots pages ≤ most s) (sym (beside s w table)) (had.slots s w table);
        few = λ s w table. subst (λ (pages : List (List ℕ)). HasFewPages n w pages) (sym (beside s w table)) (had.few s w table);
        indexes = λ s w is. elim (cases_eq s segment) [
          | inl same ↦
              let widths : width ≡ w = one_number (row_widths ++ key_widths) segment width w index.width (subst (λ (x : ℕ). IsIndexAt x w) same is).width in
              subst (λ (x : ℕ). length (list_at (owner_bytes new) x) ≤ index_pages n w (most x)) (sym same)
              (subst (λ (x : ℕ). length (pages_of new segment) ≤ index_pages n x (most segment)) widths
              (here (most segment) (omega (arith, room, counted)) (had.indexes segment width index)))
          | inr differs ↦ subst (λ (pages : List (List ℕ)). length pages ≤ index_pages n w (most s)) (sym (others s differs)) (had.indexes s w is)
        ];
      }
