-- Items that are gathered one by one: which they are, and that none is there twice.
use Rattle.std.proofs.Common.{◌≡◌, ◌≢◌, ℕ, ◌==◌, ◌&&◌, ◌||◌, ◌⊎◌, inl, inr, Bool, true, false, cond, not, List, [], ◌∷◌, ◌++◌, length, refl, sym, ap, subst, ◌∙◌}
use Rattle.std.specs.Cmp.{both_ways}
use Rattle.std.specs.List.{list_any}
use Rattle.std.specs.Set.{distinct_count, is_member}
use Rattle.std.proofs.lemmas.Bool.Decides.{Decides-eqb}
use Rattle.std.proofs.lemmas.Cmp.{nat_eq_equiv}
use Rattle.std.proofs.lemmas.Map.Made.{IsDistinct-from_AllPairs, length-from_keys}
use Rattle.hy_schema.specs.Keys.{AreUnique}
use Rattle.hy_commands.proofs.ListLaws.{unique-push}
use Rattle.hy_layout.specs.Finds.{IsIn}
use Rattle.hy_layout.proofs.MemberLaws.{in-append, in-left, in-right}
use Rattle.hy_writers.specs.Deliveries.{is_listed}
use Rattle.hy_writers.proofs.LineLaws.{in-listed, listed-in}
use Rattle.hy_writers.proofs.WaitingLaws.{all-in}
use Rattle.hy_tpcc.specs.Levels.{with_item, with_items}

module _ (test : ℕ → Bool) where
  old-item : (low : List ℕ) (new item : ℕ) → IsIn item low → IsIn item (with_item test low new)
  old-item low new item there =
      elim (test new && not (is_listed new low)) as (λ b. IsIn item (cond b (low ++ new ∷ []) low)) [
        | true ↦ in-left item low (new ∷ []) there
        | false ↦ there
      ]

  new-item : (low : List ℕ) (new : ℕ) → test new ≡ true → IsIn new (with_item test low new)
  new-item low new passes =
      elim (is_listed new low) as (λ b. is_listed new low ≡ b → IsIn new (cond (test new && not b) (low ++ new ∷ []) low)) [
        | true ↦ λ is.
            subst (λ t. IsIn new (cond (t && false) (low ++ new ∷ []) low)) (sym passes) (listed-in new low is)
        | false ↦ λ is.
            subst (λ t. IsIn new (cond (t && true) (low ++ new ∷ []) low)) (sym passes)
            (in-right new low (new ∷ []) (inl refl))
      ] refl

  item-from : (low : List ℕ) (new item : ℕ) → IsIn item (with_item test low new)
      → IsIn item low ⊎ ((new ≡ item) × (test new ≡ true))
  item-from low new item there =
      elim (test new) as (λ t. test new ≡ t → IsIn item (cond (t && not (is_listed new low)) (low ++ new ∷ []) low)
      → IsIn item low ⊎ ((new ≡ item) × (test new ≡ true))) [
        | true ↦ λ passes there.
            elim (is_listed new low) as (λ b. IsIn item (cond (not b) (low ++ new ∷ []) low)
            → IsIn item low ⊎ ((new ≡ item) × (test new ≡ true))) [
              | true ↦ λ there. inl there
              | false ↦ λ there. elim (in-append item low (new ∷ []) there) [
                | inl before ↦ inl before
                | inr last ↦ elim last [
                  | inl same ↦ inr (same, passes)
                  | inr none ↦ absurd none
                ]
              ]
            ] there
        | false ↦ λ fails there. inl there
      ] refl there

  once-item : (low : List ℕ) (new : ℕ) → AreUnique low → AreUnique (with_item test low new)
  once-item low new once =
      elim (is_listed new low) as (λ b. is_listed new low ≡ b → AreUnique (cond (test new && not b) (low ++ new ∷ []) low)) [
        | true ↦ λ is. elim (test new) as (λ t. AreUnique (cond (t && false) (low ++ new ∷ []) low)) [
          | true ↦ once
          | false ↦ once
        ]
        | false ↦ λ is. elim (test new) as (λ t. AreUnique (cond (t && true) (low ++ new ∷ []) low)) [
          | true ↦ unique-push low new once (all-in (λ other. other ≢ new) low (λ other there same.
              absurd (let listed = in-listed new low (subst (λ o. IsIn o low) same there) in cc)))
          | false ↦ once
        ]
      ] refl

  -- ---- many

  pub old-items : (items low : List ℕ) (item : ℕ) → IsIn item low → IsIn item (with_items test low items)
  old-items [] low item there = there
  old-items (new ∷ items) low item there =
      old-items items (with_item test low new) item (old-item low new item there)

  pub new-items : (items low : List ℕ) (item : ℕ) → IsIn item items → test item ≡ true
      → IsIn item (with_items test low items)
  new-items [] low item there passes = absurd there
  new-items (new ∷ items) low item there passes = elim there [
    | inl same ↦ old-items items (with_item test low new) item
        (subst (λ i. IsIn i (with_item test low new)) same
        (new-item low new (ap test same ∙ passes)))
    | inr behind ↦ new-items items (with_item test low new) item behind passes
  ]

  pub items-from : (items low : List ℕ) (item : ℕ) → IsIn item (with_items test low items)
      → IsIn item low ⊎ (IsIn item items × (test item ≡ true))
  items-from [] low item there = inl there
  items-from (new ∷ items) low item there = elim (items-from items (with_item test low new) item there) [
    | inl before ↦ elim (item-from low new item before) [
      | inl old ↦ inl old
      | inr first ↦ inr (inl first.0, ap test (sym first.0) ∙ first.1)
    ]
    | inr later ↦ inr (inr later.0, later.1)
  ]

  pub once-items : (items low : List ℕ) → AreUnique low → AreUnique (with_items test low items)
  once-items [] low once = once
  once-items (new ∷ items) low once = once-items items (with_item test low new) (once-item low new once)

-- ---- a list in which nothing is there twice is as long as one with the same items has different ones

eqb-sym : (one other : ℕ) → (one == other) ≡ (other == one)
eqb-sym one other = nat_eq_equiv.symm one other

member-listed : (item : ℕ) (items : List ℕ) → is_member (λ one other. one == other) items item ≡ is_listed item items
member-listed item [] = refl
member-listed item (first ∷ items) =
    ap (λ b. b || list_any (λ other. item == other) items) (eqb-sym item first)
    ∙ ap (λ b. (first == item) || b) (member-listed item items)

pub counted-once : (once many : List ℕ) → AreUnique once → ((item : ℕ) → IsIn item once → IsIn item many)
    → ((item : ℕ) → IsIn item many → IsIn item once)
    → length once ≡ distinct_count (λ one other. one == other) many
counted-once once many unique there back =
    length-from_keys nat_eq_equiv once many (IsDistinct-from_AllPairs Decides-eqb once unique)
    (λ item. member-listed item once
    ∙ both_ways (is_listed item once) (is_listed item many)
    (λ is. in-listed item many (there item (listed-in item once is)))
    (λ is. in-listed item once (back item (listed-in item many is)))
    ∙ sym (member-listed item many))
