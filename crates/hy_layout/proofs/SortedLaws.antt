-- A list in order is what sorting gives of any list of the same items.
use Rattle.std.proofs.Common.{◌≡◌, ◌≢◌, ◌⊎◌, inl, inr, Bool, true, false, cond, List, [], ◌∷◌, map, filter, refl, sym, ap, ap₂, subst, ◌∙◌}
use Rattle.std.specs.Prelude.{⊤}
use Rattle.std.specs.List.{AllPairs}
use Rattle.hy_commands.specs.Sorting.{inserted, sorted}
use Rattle.hy_layout.specs.Finds.{IsIn, IsOrder}
use Rattle.hy_layout.proofs.MemberLaws.{filter-in, head-in, pairs-tail}

module _ {Item : Type 0} (less : Item → Item → Bool) where
  -- each item is less than those behind it
  abbrev pub IsRising : List Item → Type 0
  IsRising [] = ⊤
  IsRising (first ∷ items) = ((item : Item) → IsIn item items → less first item ≡ true) × IsRising items

  -- of two items one is less
  abbrev pub AreApart : List Item → Type 0
  AreApart [] = ⊤
  AreApart (first ∷ items) =
      ((item : Item) → IsIn item items → (less first item ≡ true) ⊎ (less item first ≡ true)) × AreApart items

  pub rising-pairs : (items : List Item) → AllPairs (λ one other. less one other ≡ true) items → IsRising items
  rising-pairs [] pairs = tt
  rising-pairs (first ∷ items) pairs = (
    head-in (λ one other. less one other ≡ true) first items pairs,
    rising-pairs items (pairs-tail (λ one other. less one other ≡ true) first items pairs),
  )

  pub rising-filter : (keep : Item → Bool) (items : List Item) → IsRising items → IsRising (filter keep items)
  rising-filter keep [] rising = tt
  rising-filter keep (first ∷ items) rising =
      elim (keep first) as (λ b. IsRising (cond b (first ∷ filter keep items) (filter keep items))) [
        | true ↦ (λ item there. rising.0 item (filter-in keep item items there).0, rising-filter keep items rising.1)
        | false ↦ rising-filter keep items rising.1
      ]

  -- ---- what sorting keeps

  pub in-inserted : (new item : Item) (items : List Item) → (new ≡ item) ⊎ IsIn item items
      → IsIn item (inserted less new items)
  in-inserted new item [] there = there
  in-inserted new item (first ∷ items) there =
      elim (less new first) as (λ b. IsIn item (cond b (new ∷ first ∷ items) (first ∷ inserted less new items))) [
        | true ↦ there
        | false ↦ elim there [
          | inl same ↦ inr (in-inserted new item items (inl same))
          | inr old ↦ elim old [
            | inl same ↦ inl same
            | inr behind ↦ inr (in-inserted new item items (inr behind))
          ]
        ]
      ]

  pub inserted-in : (new item : Item) (items : List Item) → IsIn item (inserted less new items)
      → (new ≡ item) ⊎ IsIn item items
  inserted-in new item [] there = there
  inserted-in new item (first ∷ items) there =
      elim (less new first) as (λ b. IsIn item (cond b (new ∷ first ∷ items) (first ∷ inserted less new items))
      → (new ≡ item) ⊎ IsIn item (first ∷ items)) [
        | true ↦ λ there. there
        | false ↦ λ there. elim there [
          | inl same ↦ inr (inl same)
          | inr behind ↦ elim (inserted-in new item items behind) [
            | inl same ↦ inl same
            | inr old ↦ inr (inr old)
          ]
        ]
      ] there

  pub in-sorted : (item : Item) (items : List Item) → IsIn item items → IsIn item (sorted less items)
  in-sorted item [] there = there
  in-sorted item (first ∷ items) there = in-inserted first item (sorted less items) (elim there [
    | inl same ↦ inl same
    | inr behind ↦ inr (in-sorted item items behind)
  ])

  pub sorted-in : (item : Item) (items : List Item) → IsIn item (sorted less items) → IsIn item items
  sorted-in item [] there = there
  sorted-in item (first ∷ items) there = elim (inserted-in first item (sorted less items) there) [
    | inl same ↦ inl same
    | inr old ↦ inr (sorted-in item items old)
  ]

  -- ---- what it gives

  module _ (one_way : (one other : Item) → less one other ≡ true → less other one ≡ false)
      (along : (one other third : Item) → less one other ≡ true → less other third ≡ true → less one third ≡ true) where
    rising-inserted : (new : Item) (items : List Item) → IsRising items
        → ((item : Item) → IsIn item items → (less new item ≡ true) ⊎ (less item new ≡ true))
        → IsRising (inserted less new items)
    rising-inserted new [] rising apart = (λ item there. absurd there, tt)
    rising-inserted new (first ∷ items) rising apart =
        elim (less new first) as (λ b. less new first ≡ b → IsRising (cond b (new ∷ first ∷ items) (first ∷ inserted less new items))) [
          | true ↦ λ before. (
            λ item there. elim there [
              | inl same ↦ subst (λ x. less new x ≡ true) same before
              | inr behind ↦ along new first item before (rising.0 item behind)
            ],
            rising,
          )
          | false ↦ λ not_before. (
            λ item there. elim (inserted-in new item items there) [
              | inl same ↦ subst (λ x. less first x ≡ true) same (elim (apart first (inl refl)) [
                | inl before ↦ absurd (cc)
                | inr after ↦ after
              ])
              | inr old ↦ rising.0 item old
            ],
            rising-inserted new items rising.1 (λ item there. apart item (inr there)),
          )
        ] refl

    pub rising-sorted : (items : List Item) → AreApart items → IsRising (sorted less items)
    rising-sorted [] apart = tt
    rising-sorted (first ∷ items) apart =
        rising-inserted first (sorted less items) (rising-sorted items apart.1)
        (λ item there. apart.0 item (sorted-in item items there))

    not-itself : (item : Item) → less item item ≡ true → ⊥
    not-itself item before = absurd (let after = one_way item item before in cc)

    pub rising-same : (items others : List Item) → IsRising items → IsRising others
        → ((item : Item) → IsIn item items → IsIn item others) → ((item : Item) → IsIn item others → IsIn item items)
        → items ≡ others
    rising-same [] [] rising also to back = refl
    rising-same [] (other ∷ others) rising also to back = absurd (back other (inl refl))
    rising-same (first ∷ items) [] rising also to back = absurd (to first (inl refl))
    rising-same (first ∷ items) (other ∷ others) rising also to back =
        let heads : first ≡ other = elim (to first (inl refl)) [
          | inl same ↦ sym same
          | inr behind ↦ elim (back other (inl refl)) [
            | inl same ↦ same
            | inr later ↦ absurd (let no = one_way first other (rising.0 other later) in let yes = also.0 first behind in cc)
          ]
        ] in
        let tails : items ≡ others = rising-same items others rising.1 also.1
        (λ item there. elim (to item (inr there)) [
          | inl same ↦ absurd (not-itself first (subst (λ x. less first x ≡ true) (sym same ∙ sym heads) (rising.0 item there)))
          | inr behind ↦ behind
        ])
        (λ item there. elim (back item (inr there)) [
          | inl same ↦ absurd (not-itself other (subst (λ x. less other x ≡ true) (sym same ∙ heads) (also.0 item there)))
          | inr behind ↦ behind
        ]) in
        ap₂ (λ (item : Item) (rest : List Item). item ∷ rest) heads tails

    -- the items in order are the sorted ones
    pub sorted-is : (items others : List Item) → AreApart items → IsRising others
        → ((item : Item) → IsIn item items → IsIn item others) → ((item : Item) → IsIn item others → IsIn item items)
        → sorted less items ≡ others
    sorted-is items others apart rising to back =
        rising-same (sorted less items) others (rising-sorted items apart) rising
        (λ item there. to item (sorted-in item items there)) (λ item there. in-sorted item items (back item there))

  -- different items are apart
  module _ (order : IsOrder less) where
    pub either : (one other : Item) → one ≢ other → (less one other ≡ true) ⊎ (less other one ≡ true)
    either one other differs =
        elim (less one other) as (λ b. less one other ≡ b → (less one other ≡ true) ⊎ (less other one ≡ true)) [
          | true ↦ λ before. inl before
          | false ↦ λ not_before.
              elim (less other one) as (λ b. less other one ≡ b → (less one other ≡ true) ⊎ (less other one ≡ true)) [
                | true ↦ λ after. inr after
                | false ↦ λ not_after. absurd (differs (order.same one other not_before not_after))
              ] refl
        ] refl

    pub apart-different : (items : List Item) → AllPairs (λ one other. one ≢ other) items → AreApart items
    apart-different [] pairs = tt
    apart-different (first ∷ items) pairs = (
      λ item there. either first item (head-in (λ one other. one ≢ other) first items pairs item there),
      apart-different items (pairs-tail (λ one other. one ≢ other) first items pairs),
    )

-- ---- columns of sorted items

module _ {Item Column : Type 0} (less : Item → Item → Bool) (column : Item → Column) (less_column : Column → Column → Bool) where
  inserted-map : (new : Item) (items : List Item)
      → ((item : Item) → IsIn item items → less_column (column new) (column item) ≡ less new item)
      → map column (inserted less new items) ≡ inserted less_column (column new) (map column items)
  inserted-map new [] agree = refl
  inserted-map new (first ∷ items) agree =
      elim (less new first) as (λ b. less new first ≡ b
      → map column (cond b (new ∷ first ∷ items) (first ∷ inserted less new items))
      ≡ cond (less_column (column new) (column first)) (column new ∷ column first ∷ map column items)
      (column first ∷ inserted less_column (column new) (map column items))) [
        | true ↦ λ before. sym (ap (λ b. cond b (column new ∷ column first ∷ map column items)
            (column first ∷ inserted less_column (column new) (map column items))) (agree first (inl refl) ∙ before))
        | false ↦ λ not_before.
            ap (λ rest. column first ∷ rest) (inserted-map new items (λ item there. agree item (inr there)))
            ∙ sym (ap (λ b. cond b (column new ∷ column first ∷ map column items)
            (column first ∷ inserted less_column (column new) (map column items))) (agree first (inl refl) ∙ not_before))
      ] refl

  -- where the column goes by the same order
  pub sorted-map : (items : List Item)
      → ((one other : Item) → IsIn one items → IsIn other items → less_column (column one) (column other) ≡ less one other)
      → map column (sorted less items) ≡ sorted less_column (map column items)
  sorted-map [] agree = refl
  sorted-map (first ∷ items) agree =
      inserted-map first (sorted less items)
      (λ item there. agree first item (inl refl) (inr (sorted-in less item items there)))
      ∙ ap (inserted less_column (column first))
      (sorted-map items (λ one other here there. agree one other (inr here) (inr there)))
