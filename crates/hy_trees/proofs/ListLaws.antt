-- A list cut at a place, and what writes at a place leave of it.
use Rattle.std.proofs.Common.{◌≡◌, ℕ, suc, ◌+◌, ◌-◌, ◌<◌, List, [], ◌∷◌, ◌++◌, length, get_or, take, drop, set, ap, sym, ◌∙◌, arith}
use Rattle.std.proofs.Math.Path.{ap₂}
use Rattle.std.proofs.lemmas.List.{append-nil, append_assoc, drop_all, drop_more, set_split, take-append-drop, take_all, take_more, take_rest}

module _ {A : Type 0} (d : A) where
  pub split_at : (xs : List A) (i : ℕ) → i < length xs → xs ≡ take i xs ++ (get_or xs i d ∷ drop (i + 1) xs)
  split_at xs i within =
      sym (take-append-drop i xs) ∙ ap (λ b. take i xs ++ b) (drop_more xs i d within)

  pub split_at_two : (xs : List A) (i : ℕ) → i + 1 < length xs
      → xs ≡ take i xs ++ (get_or xs i d ∷ (get_or xs (i + 1) d ∷ drop (i + 2) xs))
  split_at_two xs i within =
      split_at xs i (omega (arith, within))
      ∙ ap (λ b. take i xs ++ (get_or xs i d ∷ b)) (drop_more xs (i + 1) d within
      ∙ ap (λ n. get_or xs (i + 1) d ∷ drop n xs) (let same : i + 1 + 1 ≡ i + 2 = omega arith in same))

  -- one more item behind the one at a place
  pub put_behind : (xs : List A) (i : ℕ) (x : A) → i < length xs
      → take (i + 1) xs ++ ((x ∷ []) ++ drop (i + 1) xs) ≡ take i xs ++ (get_or xs i d ∷ (x ∷ drop (i + 1) xs))
  put_behind xs i x within =
      ap (λ f. f ++ (x ∷ drop (i + 1) xs)) (take_more xs i d within)
      ∙ append_assoc (take i xs) (get_or xs i d ∷ []) (x ∷ drop (i + 1) xs)

  -- without the one behind it
  pub take_behind : (xs : List A) (i : ℕ) → i < length xs
      → take (i + 1) xs ++ drop (i + 2) xs ≡ take i xs ++ (get_or xs i d ∷ drop (i + 2) xs)
  take_behind xs i within =
      ap (λ f. f ++ drop (i + 2) xs) (take_more xs i d within)
      ∙ append_assoc (take i xs) (get_or xs i d ∷ []) (drop (i + 2) xs)

  -- with another one behind it
  pub set_behind : (xs : List A) (i : ℕ) (x : A) → i + 1 < length xs
      → set xs (i + 1) x ≡ take i xs ++ (get_or xs i d ∷ (x ∷ drop (i + 2) xs))
  set_behind xs i x within =
      set_split xs (i + 1) x within
      ∙ ap₂ (λ f b. f ++ (x ∷ b)) (take_more xs i d (omega (arith, within)))
      (ap (λ n. drop n xs) (let same : suc (i + 1) ≡ i + 2 = omega arith in same))
      ∙ append_assoc (take i xs) (get_or xs i d ∷ []) (x ∷ drop (i + 2) xs)

-- the first ones alone, all others, and all behind some
pub take_front : {A : Type 0} (xs : List A) (i n : ℕ) → n ≡ length xs → take i xs ++ drop n xs ≡ take i xs
take_front xs i n all = ap (λ b. take i xs ++ b) (drop_all n xs (omega (arith, all))) ∙ append-nil (take i xs)

pub take_last : {A : Type 0} (xs : List A) (i n : ℕ) → n ≡ length xs → take (n - i) (drop i xs) ≡ drop i xs
take_last xs i n all = ap (λ k. take (k - i) (drop i xs)) all ∙ take_rest xs i

pub put_last : {A : Type 0} (xs ys : List A) (n : ℕ) → n ≡ length xs → take n xs ++ (ys ++ drop n xs) ≡ xs ++ ys
put_last xs ys n all =
    ap₂ (λ f b. f ++ (ys ++ b)) (take_all n xs (omega (arith, all))) (drop_all n xs (omega (arith, all)))
    ∙ ap (λ b. xs ++ b) (append-nil ys)
