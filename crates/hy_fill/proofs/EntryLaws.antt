-- The entries of rows: collected, put into another order, and given to an index.
use Rattle.std.proofs.Common.{◌≡◌, ◌≢◌, ℕ, ◌⊎◌, inl, inr, Bool, true, false, cond, List, [], ◌∷◌, ◌++◌, length, map, filter, take, drop, Option, Some, refl, sym, ap, ap₂, subst, ◌∙◌, arith, get_or, zero, suc}
use Rattle.std.specs.Prelude.{slice_get, All}
use Rattle.std.specs.List.Sorted.{IsPermutation}
use Rattle.std.proofs.lemmas.Bool.{cases_eq}
use Rattle.std.proofs.lemmas.List.{append-nil, length-append, take-append-drop}
use Rattle.std.proofs.lemmas.List.Sorted.{All-permutation, IsPermutation-sym}
use Rattle.std.proofs.lemmas.Option.{slice_get_within, slice_get-get_or, get_or_from_slice_get}
use Rattle.hy_schema.specs.Keys.{AreUnique}
use Rattle.hy_relation.specs.Relation.{row_in}
use Rattle.hy_indexes.specs.of_index.declared.key.Entry.{Entry}
use Rattle.hy_indexes.specs.of_index.Index.{with_entry}
use Rattle.hy_layout.specs.Finds.{IsIn, IsOrder}
use Rattle.hy_indexes.specs.Finds.{IsIndexOf}
use Rattle.hy_fill.specs.inside.Filling.{HasOneSlotEach, HasSameEntries, TellsApart, with_row}
use Rattle.hy_indexes.proofs.IndexLaws.{in-with_entry, irreflexive, new-in, with_entry-in}
use Rattle.hy_layout.proofs.MemberLaws.{in-append, in-left, in-place, in-right, place-in}
use Rattle.hy_layout.proofs.PlaceLaws.{get-past, get-push_last, get-push_other, unique-places}

some-is : {Row : Type 0} (one other : Row) → Some one ≡ Some other → one ≡ other
some-is one other same = cc

abbrev entry_at : {Key : Type 0} → Key → ℕ → Entry Key
entry_at key slot = record { key = key; slot = slot }

-- ---- a row more

module _ {Key Row : Type 0} (key_of : Row → Key) where
  pub entry-added : (rows : List Row) (row : Row) (entries : List (Entry Key))
      → IsIndexOf key_of (slice_get rows) entries → length entries ≡ length rows
      → IsIndexOf key_of (slice_get (rows ++ row ∷ []))
      (entries ++ record { key = key_of row; slot = length entries } ∷ [])
  entry-added rows row entries index count = record {
    there = λ entry there. elim (in-append entry entries (record { key = key_of row; slot = length entries } ∷ []) there) [
      | inl old ↦
          let was = index.there entry old in (
            was.0,
            get-push_other rows row entry.slot (λ at. absurd (let h = sym was.1 ∙ ap (slice_get rows) at ∙ get-past rows in cc))
                ∙ was.1,
            was.2,
          )
      | inr new ↦ elim new [
        | inl same ↦ (
          row,
          ap (slice_get (rows ++ row ∷ [])) (ap (λ (e : Entry Key). e.slot) (sym same) ∙ count)
              ∙ get-push_last rows row,
          ap (λ (e : Entry Key). e.key) same,
        )
        | inr none ↦ absurd none
      ]
    ];
    all = λ slot another here. elim (cases_eq slot (length rows)) [
      | inl at ↦
          let row_is : another ≡ row =
          some-is another row (sym here ∙ ap (slice_get (rows ++ row ∷ [])) at ∙ get-push_last rows row) in
          let is : entry_at (key_of row) (length entries) ≡ entry_at (key_of another) slot =
          ap₂ entry_at (ap key_of (sym row_is)) (count ∙ sym at) in
          in-right (record { key = key_of another; slot = slot }) entries (record { key = key_of row; slot = length entries } ∷ [])
          (inl is)
      | inr differs ↦ in-left (record { key = key_of another; slot = slot }) entries (record { key = key_of row; slot = length entries } ∷ [])
          (index.all slot another (sym (get-push_other rows row slot differs) ∙ here))
    ];
  }

  pub record IsPlaced (rows : List Row) (entries : List (Entry Key)) : Type 0 where
    pub index : IsIndexOf key_of (slice_get rows) entries
    pub count : length entries ≡ length rows

  pub row-added : (is_own : Row → Bool) (rows : List Row) (row : Row) (entries : List (Entry Key))
      → IsIndexOf key_of (slice_get rows) entries → length entries ≡ length rows
      → IsPlaced (rows ++ filter is_own (row ∷ [])) (with_row key_of is_own row entries)
  row-added is_own rows row entries index count =
      elim (is_own row) as (λ b. IsPlaced (rows ++ cond b (row ∷ []) [])
      (cond b (entries ++ record { key = key_of row; slot = length entries } ∷ []) entries)) [
        | true ↦ record {
          index = entry-added rows row entries index count;
          count = let e = length-append entries (record { key = key_of row; slot = length entries } ∷ []) in
              let r = length-append rows (row ∷ []) in omega (arith, e, r, count);
        }
        | false ↦ subst (λ (all : List Row). IsPlaced all entries) (sym (append-nil rows)) (record { index = index; count = count })
      ]

  -- ---- other orders of the entries

  pub index-same : (row_at : ℕ → Option Row) (entries others : List (Entry Key)) → HasSameEntries entries others
      → IsIndexOf key_of row_at entries → IsIndexOf key_of row_at others
  index-same row_at entries others same index = record {
    there = λ entry there. index.there entry (same.there entry there);
    all = λ slot row here. same.all (record { key = key_of row; slot = slot }) (index.all slot row here);
  }

  pub index-at : (old new : ℕ → Option Row) (entries : List (Entry Key)) → ((slot : ℕ) → new slot ≡ old slot)
      → IsIndexOf key_of old entries → IsIndexOf key_of new entries
  index-at old new entries same index = record {
    there = λ entry there. let was = index.there entry there in (was.0, same entry.slot ∙ was.1, was.2);
    all = λ slot row here. index.all slot row (sym (same slot) ∙ here);
  }

  -- ---- keys that differ

  pub slots-apart : (row_at : ℕ → Option Row) (entries : List (Entry Key)) → TellsApart key_of row_at
      → IsIndexOf key_of row_at entries → HasOneSlotEach entries
  slots-apart row_at entries apart index = λ one other here there same.
      let first = index.there one here in
      let second = index.there other there in
      let slots : one.slot ≡ other.slot =
      apart one.slot other.slot first.0 second.0 first.1 second.1 (first.2 ∙ same ∙ sym second.2) in
      ap (λ (k : Key). record { key = k; slot = one.slot }) same
      ∙ ap (λ (s : ℕ). record { key = other.key; slot = s }) slots

  -- what tells rows apart by more columns does so by fewer, where the others are the same in all rows
  pub unique-apart : {Long : Type 0} (long_key : Row → Long) (rows : List Row) → AreUnique (map long_key rows)
      → ((one other : Row) → IsIn one rows → IsIn other rows → key_of one ≡ key_of other → long_key one ≡ long_key other)
      → TellsApart key_of (slice_get rows)
  unique-apart long_key rows unique more = λ one other row another here there same.
      sym (unique-places long_key rows unique one other row another here there
      (more row another (in-place rows one row here) (in-place rows other another there) same))

pub slots-rows : {Row : Type 0} (rows : List Row) (slot : ℕ) → row_in (map Some rows) slot ≡ slice_get rows slot
slots-rows [] slot = refl
slots-rows (row ∷ rows) zero = refl
slots-rows (row ∷ rows) (suc slot) = slots-rows rows slot

-- ---- a permutation

all-in : {Item : Type 0} (items : List Item) → All (λ item. IsIn item items) items
all-in items = λ place item within. in-place items place (get_or items place item) (slice_get-get_or items place item within)

permuted-in : {Item : Type 0} (items others : List Item) → IsPermutation items others → (item : Item) → IsIn item others
    → IsIn item items
permuted-in items others permutation item there =
    let at = place-in others item there in
    subst (λ x. IsIn x items) (get_or_from_slice_get others at.0 item item at.1)
    (All-permutation (λ x. IsIn x items) items others permutation (all-in items) at.0 item
    (slice_get_within others at.0 item at.1))

pub same-permuted : {Key : Type 0} (entries others : List (Entry Key)) → IsPermutation entries others
    → HasSameEntries entries others
same-permuted entries others permutation = record {
  there = λ entry there. permuted-in entries others permutation entry there;
  all = λ entry there. permuted-in others entries (IsPermutation-sym entries others permutation) entry there;
}

-- ---- one entry after another

pub in-take : {Item : Type 0} (index : ℕ) (items : List Item) (item : Item) → IsIn item (take index items) → IsIn item items
in-take index items item there =
    subst (IsIn item) (take-append-drop index items) (in-left item (take index items) (drop index items) there)

module _ {Key : Type 0} (is_less : Key → Key → Bool) (order : IsOrder is_less) where
  pub same-or-not : (one other : Key) → (one ≡ other) ⊎ (one ≢ other)
  same-or-not one other =
      elim (is_less one other) as (λ b. is_less one other ≡ b → (one ≡ other) ⊎ (one ≢ other)) [
        | true ↦ λ below. inr (λ same. absurd (let no = irreflexive is_less order other in
            let h = subst (λ k. is_less k other ≡ true) same below in cc))
        | false ↦ λ not_below.
            elim (is_less other one) as (λ b. is_less other one ≡ b → (one ≡ other) ⊎ (one ≢ other)) [
              | true ↦ λ above. inr (λ same. absurd (let no = irreflexive is_less order other in
                  let h = subst (λ k. is_less other k ≡ true) same above in cc))
              | false ↦ λ not_above. inl (order.same one other not_below not_above)
            ] refl
      ] refl

  pub same-added : (entries : List (Entry Key)) → HasOneSlotEach entries → (given now : List (Entry Key)) (entry : Entry Key)
      → ((other : Entry Key) → IsIn other given → IsIn other entries) → IsIn entry entries
      → HasSameEntries given now → HasSameEntries (given ++ entry ∷ []) (with_entry is_less entry.key entry.slot now)
  same-added entries apart given now entry within here same = record {
    there = λ other there. elim (with_entry-in is_less order entry.key entry.slot now other there) [
      | inl new ↦ in-right other given (entry ∷ []) (inl (sym new))
      | inr old ↦ in-left other given (entry ∷ []) (same.there other old.0)
    ];
    all = λ other there. elim (in-append other given (entry ∷ []) there) [
      | inl old ↦ elim (same-or-not other.key entry.key) [
        | inl keys ↦ subst (λ (e : Entry Key). IsIn e (with_entry is_less entry.key entry.slot now))
            (sym (apart other entry (within other old) here keys)) (new-in is_less order entry.key entry.slot now)
        | inr differ ↦ in-with_entry is_less order entry.key entry.slot now other (same.all other old) differ
      ]
      | inr new ↦ elim new [
        | inl is ↦ subst (λ (e : Entry Key). IsIn e (with_entry is_less entry.key entry.slot now)) is
            (new-in is_less order entry.key entry.slot now)
        | inr none ↦ absurd none
      ]
    ];
  }
