-- Indexes: what is found in one, and what writes of a row and of its entry leave.
use Rattle.hy_layout.proofs.MemberLaws.{head-in, pairs-tail}
use Rattle.std.proofs.Common.{◌≡◌, ◌≢◌, ℕ, ◌⊎◌, inl, inr, Bool, true, false, cond, not, ◌&&◌, List, [], ◌∷◌, filter, Option, Some, None, refl, sym, ap, subst, ◌∙◌}
use Rattle.std.specs.Option.{option_map}
use Rattle.std.specs.List.{find}
use Rattle.std.proofs.lemmas.Bool.{and_parts, cases_eq}
use Rattle.hy_store.specs.Entry.{Entry}
use Rattle.hy_store.specs.Index.{IsInOrder, between, first_from, found, is_above, is_at, is_below, is_from, with_entry, without}
use Rattle.hy_layout.specs.Finds.{IsIn, IsOrder}
use Rattle.hy_indexes.specs.Finds.{IsIndexOf}
use Rattle.hy_layout.proofs.MemberLaws.{filter-in, in-append, in-filter, in-left, in-right}

not-true : (b : Bool) → not b ≡ true → b ≡ false
not-true true is = absurd (cc)
not-true false is = refl

module _ {Key : Type 0} (is_less : Key → Key → Bool) (order : IsOrder is_less) where
  Less : Key → Key → Type 0
  Less one other = is_less one other ≡ true

  pub irreflexive : (key : Key) → is_less key key ≡ false
  irreflexive key = elim (is_less key key) as (λ b. is_less key key ≡ b → b ≡ false) [
    | true ↦ λ less. sym less ∙ order.one_way key key less
    | false ↦ λ not_less. refl
  ] refl

  at-same : (key : Key) (entry : Entry Key) → is_at is_less key entry ≡ true → entry.key ≡ key
  at-same key entry is =
      let parts = and_parts (not (is_less entry.key key)) (not (is_less key entry.key)) is in
      order.same entry.key key (not-true (is_less entry.key key) parts.0) (not-true (is_less key entry.key) parts.1)

  at-key : (key : Key) (entry : Entry Key) → entry.key ≡ key → is_at is_less key entry ≡ true
  at-key key entry same =
      subst (λ k. not (is_less k key) && not (is_less key k) ≡ true) (sym same)
      (rw (irreflexive key) refl)

  below-not_at : (key : Key) (entry : Entry Key) → is_less entry.key key ≡ true → is_at is_less key entry ≡ false
  below-not_at key entry less = ap (λ b. not b && not (is_less key entry.key)) less

  -- ---- what is found

  pub found-in : (key : Key) (entries : List (Entry Key)) (slot : ℕ) → found is_less key entries ≡ Some slot
      → IsIn (record { key = key; slot = slot }) entries
  found-in key [] slot is = absurd (cc)
  found-in key (first ∷ entries) slot is =
      elim (is_at is_less key first) as (λ b. is_at is_less key first ≡ b
      → option_map (λ (entry : Entry Key). entry.slot) (cond b (Some first) (find (is_at is_less key) entries)) ≡ Some slot
      → IsIn (record { key = key; slot = slot }) (first ∷ entries)) [
        | true ↦ λ at is.
            let same = at-same key first at in
            let slots : first.slot ≡ slot = cc in
            inl (subst (λ k. first ≡ record { key = k; slot = slot }) same
            (subst (λ s. first ≡ record { key = first.key; slot = s }) slots refl))
        | false ↦ λ at is. inr (found-in key entries slot is)
      ] refl is

  pub in-found : (key : Key) (entries : List (Entry Key)) (slot : ℕ) → IsInOrder is_less entries
      → IsIn (record { key = key; slot = slot }) entries → found is_less key entries ≡ Some slot
  in-found key [] slot in_order there = absurd there
  in-found key (first ∷ entries) slot in_order there = elim there [
    | inl same ↦
        ap (λ b. option_map (λ (entry : Entry Key). entry.slot) (cond b (Some first) (find (is_at is_less key) entries)))
        (at-key key first (ap (λ (entry : Entry Key). entry.key) same))
        ∙ ap (λ (entry : Entry Key). Some entry.slot) same
    | inr behind ↦
        ap (λ b. option_map (λ (entry : Entry Key). entry.slot) (cond b (Some first) (find (is_at is_less key) entries)))
        (below-not_at key first (head-in (λ (one : Entry Key) (other : Entry Key). is_less one.key other.key ≡ true)
        first entries in_order (record { key = key; slot = slot }) behind))
        ∙ in-found key entries slot
        (pairs-tail (λ (one : Entry Key) (other : Entry Key). is_less one.key other.key ≡ true) first entries in_order)
        behind
  ]

  pub found-none : (key : Key) (entries : List (Entry Key)) → found is_less key entries ≡ None
      → (entry : Entry Key) → IsIn entry entries → entry.key ≢ key
  found-none key [] none entry there = absurd there
  found-none key (first ∷ entries) none entry there =
      elim (is_at is_less key first) as (λ b. is_at is_less key first ≡ b
      → option_map (λ (entry : Entry Key). entry.slot) (cond b (Some first) (find (is_at is_less key) entries)) ≡ None
      → entry.key ≢ key) [
        | true ↦ λ at none. absurd (cc)
        | false ↦ λ at none. elim there [
          | inl same ↦ λ keys. absurd (let here = at-key key first (ap (λ (entry : Entry Key). entry.key) same ∙ keys) in cc)
          | inr behind ↦ found-none key entries none entry behind
        ]
      ] refl none

  -- ---- what is written

  neither : (key : Key) (entry : Entry Key) → entry.key ≢ key
      → (is_less entry.key key ≡ true) ⊎ (is_less key entry.key ≡ true)
  neither key entry differs =
      elim (is_less entry.key key) as (λ b. is_less entry.key key ≡ b → (is_less entry.key key ≡ true) ⊎ (is_less key entry.key ≡ true)) [
        | true ↦ λ below. inl below
        | false ↦ λ not_below.
            elim (is_less key entry.key) as (λ b. is_less key entry.key ≡ b → (is_less entry.key key ≡ true) ⊎ (is_less key entry.key ≡ true)) [
              | true ↦ λ above. inr above
              | false ↦ λ not_above. absurd (differs (order.same entry.key key not_below not_above))
            ] refl
      ] refl

  differs-below : (key : Key) (entry : Entry Key) → is_less entry.key key ≡ true → entry.key ≢ key
  differs-below key entry less same = let no = irreflexive key in absurd (let h = subst (λ k. is_less k key ≡ true) same less in cc)

  differs-above : (key : Key) (entry : Entry Key) → is_less key entry.key ≡ true → entry.key ≢ key
  differs-above key entry less same = let no = irreflexive key in absurd (let h = subst (λ k. is_less key k ≡ true) same less in cc)

  pub new-in : (key : Key) (slot : ℕ) (entries : List (Entry Key))
      → IsIn (record { key = key; slot = slot }) (with_entry is_less key slot entries)
  new-in key slot entries =
      in-right (record { key = key; slot = slot }) (filter (is_below is_less key) entries)
      (record { key = key; slot = slot } ∷ filter (is_above is_less key) entries) (inl refl)

  pub in-with_entry : (key : Key) (slot : ℕ) (entries : List (Entry Key)) (entry : Entry Key) → IsIn entry entries
      → entry.key ≢ key → IsIn entry (with_entry is_less key slot entries)
  in-with_entry key slot entries entry there differs = elim (neither key entry differs) [
    | inl below ↦ in-left entry (filter (is_below is_less key) entries)
        (record { key = key; slot = slot } ∷ filter (is_above is_less key) entries)
        (in-filter (is_below is_less key) entry entries there below)
    | inr above ↦ in-right entry (filter (is_below is_less key) entries)
        (record { key = key; slot = slot } ∷ filter (is_above is_less key) entries)
        (inr (in-filter (is_above is_less key) entry entries there above))
  ]

  pub with_entry-in : (key : Key) (slot : ℕ) (entries : List (Entry Key)) (entry : Entry Key)
      → IsIn entry (with_entry is_less key slot entries)
      → (entry ≡ record { key = key; slot = slot }) ⊎ (IsIn entry entries × (entry.key ≢ key))
  with_entry-in key slot entries entry there =
      elim (in-append entry (filter (is_below is_less key) entries)
      (record { key = key; slot = slot } ∷ filter (is_above is_less key) entries) there) [
        | inl left ↦
            let kept = filter-in (is_below is_less key) entry entries left in
            inr (kept.0, differs-below key entry kept.1)
        | inr right ↦ elim right [
          | inl same ↦ inl (sym same)
          | inr behind ↦
              let kept = filter-in (is_above is_less key) entry entries behind in
              inr (kept.0, differs-above key entry kept.1)
        ]
      ]

  pub in-without : (key : Key) (entries : List (Entry Key)) (entry : Entry Key) → IsIn entry entries
      → entry.key ≢ key → IsIn entry (without is_less key entries)
  in-without key entries entry there differs = elim (neither key entry differs) [
    | inl below ↦ in-left entry (filter (is_below is_less key) entries) (filter (is_above is_less key) entries)
        (in-filter (is_below is_less key) entry entries there below)
    | inr above ↦ in-right entry (filter (is_below is_less key) entries) (filter (is_above is_less key) entries)
        (in-filter (is_above is_less key) entry entries there above)
  ]

  pub without-in : (key : Key) (entries : List (Entry Key)) (entry : Entry Key) → IsIn entry (without is_less key entries)
      → IsIn entry entries × (entry.key ≢ key)
  without-in key entries entry there =
      elim (in-append entry (filter (is_below is_less key) entries) (filter (is_above is_less key) entries) there) [
        | inl left ↦
            let kept = filter-in (is_below is_less key) entry entries left in
            (kept.0, differs-below key entry kept.1)
        | inr right ↦
            let kept = filter-in (is_above is_less key) entry entries right in
            (kept.0, differs-above key entry kept.1)
      ]

  -- ---- the entries from a key on

  pub between-in : (low high : Key) (entries : List (Entry Key)) (entry : Entry Key)
      → IsIn entry (between is_less low high entries)
      → IsIn entry entries × (is_less entry.key low ≡ false) × (is_less entry.key high ≡ true)
  between-in low high entries entry there =
      let kept = filter-in (λ e. is_from is_less low e && is_below is_less high e) entry entries there in
      let parts = and_parts (not (is_less entry.key low)) (is_less entry.key high) kept.1 in
      (kept.0, not-true (is_less entry.key low) parts.0, parts.1)

  pub in-between : (low high : Key) (entries : List (Entry Key)) (entry : Entry Key) → IsIn entry entries
      → is_less entry.key low ≡ false → is_less entry.key high ≡ true
      → IsIn entry (between is_less low high entries)
  in-between low high entries entry there from below =
      in-filter (λ e. is_from is_less low e && is_below is_less high e) entry entries there (rw (from, below) refl)

  pub first_from-none : (key : Key) (entries : List (Entry Key)) → first_from is_less key entries ≡ None
      → (entry : Entry Key) → IsIn entry entries → is_less entry.key key ≡ true
  first_from-none key [] none entry there = absurd there
  first_from-none key (first ∷ entries) none entry there =
      elim (is_less first.key key) as (λ b. is_less first.key key ≡ b
      → cond (not b) (Some first) (find (is_from is_less key) entries) ≡ None → is_less entry.key key ≡ true) [
        | true ↦ λ less none. elim there [
          | inl same ↦ subst (λ (e : Entry Key). is_less e.key key ≡ true) same less
          | inr behind ↦ first_from-none key entries none entry behind
        ]
        | false ↦ λ less none. absurd (cc)
      ] refl none

  pub first_from-some : (key : Key) (entries : List (Entry Key)) (entry : Entry Key) → IsInOrder is_less entries
      → first_from is_less key entries ≡ Some entry
      → IsIn entry entries × (is_less entry.key key ≡ false)
      × ((other : Entry Key) → IsIn other entries → is_less other.key key ≡ false
      → (other ≡ entry) ⊎ (is_less entry.key other.key ≡ true))
  first_from-some key [] entry in_order is = absurd (cc)
  first_from-some key (first ∷ entries) entry in_order is =
      elim (is_less first.key key) as (λ b. is_less first.key key ≡ b
      → cond (not b) (Some first) (find (is_from is_less key) entries) ≡ Some entry
      → IsIn entry (first ∷ entries) × (is_less entry.key key ≡ false)
      × ((other : Entry Key) → IsIn other (first ∷ entries) → is_less other.key key ≡ false
      → (other ≡ entry) ⊎ (is_less entry.key other.key ≡ true))) [
        | true ↦ λ less is.
            let rest = first_from-some key entries entry
            (pairs-tail (λ (one : Entry Key) (other : Entry Key). is_less one.key other.key ≡ true) first entries in_order) is in (
              inr rest.0,
              rest.1,
              λ other there from. elim there [
                | inl same ↦ absurd (let h = subst (λ (e : Entry Key). is_less e.key key ≡ false) (sym same) from in cc)
                | inr behind ↦ rest.2 other behind from
              ],
            )
        | false ↦ λ not_less is.
            let same : first ≡ entry = cc in (
              inl same,
              subst (λ (e : Entry Key). is_less e.key key ≡ false) same not_less,
              λ other there from. elim there [
                | inl here ↦ inl (sym here ∙ same)
                | inr behind ↦ inr (subst (λ (e : Entry Key). is_less e.key other.key ≡ true) same
                    (head-in (λ (one : Entry Key) (other : Entry Key). is_less one.key other.key ≡ true) first entries in_order other behind))
              ],
            )
      ] refl is

  -- ---- an index of rows

  module _ {Row : Type 0} (key_of : Row → Key) where
    -- the slot that is found has the only row with the key
    pub index-finds : (row_at : ℕ → Option Row) (entries : List (Entry Key)) → IsInOrder is_less entries
        → IsIndexOf key_of row_at entries → (key : Key) (slot : ℕ) → found is_less key entries ≡ Some slot
        → (row : Row) × (row_at slot ≡ Some row) × (key_of row ≡ key)
        × ((other : ℕ) (another : Row) → row_at other ≡ Some another → key_of another ≡ key → other ≡ slot)
    index-finds row_at entries in_order index key slot is =
        let there = index.there (record { key = key; slot = slot }) (found-in key entries slot is) in (
          there.0,
          there.1,
          there.2,
          λ other another here same.
              let also = in-found key entries other in_order
              (subst (λ k. IsIn (record { key = k; slot = other }) entries) same (index.all other another here)) in
              let slots : Some other ≡ Some slot = sym also ∙ is in cc,
        )

    -- where none is found, no row has the key
    pub index-lacks : (row_at : ℕ → Option Row) (entries : List (Entry Key)) → IsIndexOf key_of row_at entries
        → (key : Key) → found is_less key entries ≡ None → (slot : ℕ) (row : Row) → row_at slot ≡ Some row
        → key_of row ≢ key
    index-lacks row_at entries index key none slot row here =
        found-none key entries none (record { key = key_of row; slot = slot }) (index.all slot row here)

    -- a row is found under its key
    pub index-has : (row_at : ℕ → Option Row) (entries : List (Entry Key)) → IsInOrder is_less entries
        → IsIndexOf key_of row_at entries → (slot : ℕ) (row : Row) → row_at slot ≡ Some row
        → found is_less (key_of row) entries ≡ Some slot
    index-has row_at entries in_order index slot row here = in-found (key_of row) entries slot in_order (index.all slot row here)

    -- a row in a slot that had none, and its entry
    pub index-added : (old new : ℕ → Option Row) (entries : List (Entry Key)) (slot : ℕ) (row : Row)
        → IsIndexOf key_of old entries → old slot ≡ None → new slot ≡ Some row
        → ((other : ℕ) → other ≢ slot → new other ≡ old other)
        → ((other : ℕ) (another : Row) → old other ≡ Some another → key_of another ≢ key_of row)
        → IsIndexOf key_of new (with_entry is_less (key_of row) slot entries)
    index-added old new entries slot row index empty here others fresh = record {
      there = λ entry there. elim (with_entry-in (key_of row) slot entries entry there) [
        | inl same ↦ (
          row,
          subst (λ (e : Entry Key). new e.slot ≡ Some row) (sym same) here,
          ap (λ (e : Entry Key). e.key) (sym same),
        )
        | inr kept ↦
            let before = index.there entry kept.0 in
            (before.0, others entry.slot (λ same. let h = before.1 in let e = subst (λ s. old s ≡ Some before.0) same before.1 in absurd (cc)) ∙ before.1, before.2)
      ];
      all = λ other another is.
          elim (cases_eq other slot) [
            | inl same ↦
                let rows : Some another ≡ Some row = sym (subst (λ s. new s ≡ Some another) same is) ∙ here in
                let row_is : row ≡ another = cc in
                subst (λ s. IsIn (record { key = key_of another; slot = s }) (with_entry is_less (key_of row) slot entries)) (sym same)
                (subst (λ r. IsIn (record { key = key_of r; slot = slot }) (with_entry is_less (key_of row) slot entries)) row_is
                (new-in (key_of row) slot entries))
            | inr differs ↦
                let before = sym (others other differs) ∙ is in
                in-with_entry (key_of row) slot entries (record { key = key_of another; slot = other })
                (index.all other another before) (fresh other another before)
          ];
    }

    -- another row with the same key in a slot
    pub index-kept : (old new : ℕ → Option Row) (entries : List (Entry Key)) (slot : ℕ) (before row : Row)
        → IsIndexOf key_of old entries → old slot ≡ Some before → new slot ≡ Some row → key_of row ≡ key_of before
        → ((other : ℕ) → other ≢ slot → new other ≡ old other) → IsIndexOf key_of new entries
    index-kept old new entries slot before row index had here same others = record {
      there = λ entry there.
          let was = index.there entry there in
          elim (cases_eq entry.slot slot) [
            | inl at ↦
                let rows : Some was.0 ≡ Some before = sym was.1 ∙ ap old at ∙ had in
                let row_is : was.0 ≡ before = cc in
                (row, ap new at ∙ here, same ∙ ap key_of (sym row_is) ∙ was.2)
            | inr differs ↦ (was.0, others entry.slot differs ∙ was.1, was.2)
          ];
      all = λ other another is.
          elim (cases_eq other slot) [
            | inl at ↦
                let rows : Some another ≡ Some row = sym is ∙ ap new at ∙ here in
                let row_is : another ≡ row = cc in
                subst (λ k. IsIn (record { key = k; slot = other }) entries) (sym (ap key_of row_is ∙ same))
                (index.all other before (ap old at ∙ had))
            | inr differs ↦ index.all other another (sym (others other differs) ∙ is)
          ];
    }

    -- no row in a slot that had one, and no entry for it
    pub index-erased : (old new : ℕ → Option Row) (entries : List (Entry Key)) (slot : ℕ) (row : Row)
        → IsInOrder is_less entries → IsIndexOf key_of old entries → old slot ≡ Some row → new slot ≡ None
        → ((other : ℕ) → other ≢ slot → new other ≡ old other)
        → IsIndexOf key_of new (without is_less (key_of row) entries)
    index-erased old new entries slot row in_order index had gone others = record {
      there = λ entry there.
          let kept = without-in (key_of row) entries entry there in
          let was = index.there entry kept.0 in (
            was.0,
            others entry.slot (λ same.
                let rows : Some was.0 ≡ Some row = sym was.1 ∙ ap old same ∙ had in
                let row_is : was.0 ≡ row = cc in
                kept.1 (sym was.2 ∙ ap key_of row_is)) ∙ was.1,
            was.2,
          );
      all = λ other another is.
          let differs : other ≢ slot = λ same. absurd (let h = sym (ap new same ∙ gone) ∙ is in cc) in
          let before = sym (others other differs) ∙ is in
          in-without (key_of row) entries (record { key = key_of another; slot = other })
          (index.all other another before)
          (λ same.
          let one = in-found (key_of row) entries other in_order
          (subst (λ k. IsIn (record { key = k; slot = other }) entries) same (index.all other another before)) in
          let two = in-found (key_of row) entries slot in_order (index.all slot row had) in
          let slots : Some other ≡ Some slot = sym one ∙ two in
          differs (cc));
    }
