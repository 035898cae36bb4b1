-- The first items of a sequence.
use Rattle.std.proofs.Common.{◌≡◌, ◌≢◌, ℕ, zero, suc, ◌<◌, [], ◌∷◌, ◌++◌, length, set, get_or, refl, sym, ap, ◌∙◌, ap₂, arith, inl, inr, length-append}
use Rattle.std.proofs.lemmas.Bool.{cases_lt}
use Rattle.std.proofs.lemmas.List.{get_or_append_left, get_or_at, set-append_left, set_at}
use Rattle.hy_rows.specs.Spelling.{first_items}

pub length-first_items : {Item : Type 0} (f : ℕ → Item) (count : ℕ) → length (first_items f count) ≡ count
length-first_items f zero = refl
length-first_items f (suc count) = omega (arith, length-append (first_items f count) (f count ∷ []), length-first_items f count)

-- the item at a place
pub get_or-first_items : {Item : Type 0} (f : ℕ → Item) (count k : ℕ) (d : Item) → k < count → get_or (first_items f count) k d ≡ f k
get_or-first_items f zero k d within = absurd (omega arith)
get_or-first_items f (suc count) k d within = elim (cases_lt k count) [
  | inl earlier ↦ get_or_append_left (first_items f count) (f count ∷ []) d k (omega (arith, length-first_items f count)) ∙ get_or-first_items f count k d earlier
  | inr last ↦
      let here : count ≡ k = omega arith in
      get_or_at (first_items f count) (f count) [] d k (length-first_items f count ∙ here) ∙ ap f here
]

-- sequences that agree below a place have the same first items
pub first_items-same : {Item : Type 0} (f g : ℕ → Item) (count : ℕ) → ((k : ℕ) → k < count → f k ≡ g k) → first_items f count ≡ first_items g count
first_items-same f g zero same = refl
first_items-same f g (suc count) same =
    ap₂ (λ xs x. xs ++ x ∷ []) (first_items-same f g count (λ k below. same k (omega arith))) (same count (omega arith))

-- sequences that agree at all places but one
pub first_items-set : {Item : Type 0} (f g : ℕ → Item) (count k : ℕ) → k < count → ((j : ℕ) → j < count → j ≢ k → g j ≡ f j) → first_items g count ≡ set (first_items f count) k (g k)
first_items-set f g zero k within same = absurd (omega arith)
first_items-set f g (suc count) k within same = elim (cases_lt k count) [
  | inl earlier ↦
      ap₂ (λ xs x. xs ++ x ∷ []) (first_items-set f g count k earlier (λ j below differs. same j (omega arith) differs)) (same count (omega arith) (omega arith))
      ∙ sym (set-append_left (first_items f count) (f count ∷ []) k (g k) (omega (arith, length-first_items f count)))
  | inr last ↦
      let here : count ≡ k = omega arith in
      ap₂ (λ xs x. xs ++ x ∷ []) (first_items-same g f count (λ j below. same j (omega arith) (omega arith))) (ap g here)
      ∙ sym (set_at (first_items f count) (f count) [] (g k) k (length-first_items f count ∙ here))
]
