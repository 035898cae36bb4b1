-- Values that an answer keeps, beside copies of their texts.
use Rattle.std.proofs.Common.{rules, ◌≡◌, ℕ, zero, suc, ◌+◌, ◌-◌, ◌<◌, ◌≤◌, ℤ, pos, ◌+ℤ◌, FitsSigned, List, [], ◌∷◌, ◌++◌, Some, get_or, length, set, map, pos, ◌+ℤ◌, FitsSigned, slice_get, refl, sym, subst, ap, ap₂, ◌∙◌, arith}
use Rattle.std.proofs.lemmas.Int.{wraps}
use Rattle.std.specs.Int.{w64}
use Rattle.hy_query.specs.Meaning.{number_in, wrapped}
use Rattle.hy_rows.specs.Rows.{value_at}
use Rattle.std.proofs.lemmas.List.{get_or_append_left, get_or_push, length_push, map-append, set-append_right}
use Rattle.hy_rows.specs.declared.value.Value.{Value}
use Rattle.hy_rows.specs.declared.value.Value.TheVariants.{Text, Whole}
use Rattle.hy_tallies.specs.declared.mixed.Kept.{Kept}
use Rattle.hy_tallies.specs.declared.mixed.Kept.TheVariants as kept
use Rattle.hy_tallies.specs.inside.Owned.{AreKept, IsKept, value_with, values_with}

pub AreKept-push : (texts : List (List ℕ)) (values : List Kept) (value : Kept) → AreKept texts values → IsKept texts value
    → AreKept texts (values ++ value ∷ [])
AreKept-push texts [] value are is = (is, tt)
AreKept-push texts (first ∷ values) value are is = (are.0, AreKept-push texts values value are.1 is)

module _ (texts : List (List ℕ)) where
  -- ---- a text more leaves what was kept

  value-grown : (text : List ℕ) (value : Kept) → IsKept texts value
      → (value_with (texts ++ text ∷ []) value ≡ value_with texts value) × IsKept (texts ++ text ∷ []) value
  value-grown text (kept.Whole number) is = (refl, tt)
  value-grown text (kept.Text place) is =
      (ap Text (get_or_append_left texts (text ∷ []) [] place is), omega (arith, is, length_push texts text))

  values-grown : (text : List ℕ) (values : List Kept) → AreKept texts values
      → (values_with (texts ++ text ∷ []) values ≡ values_with texts values) × AreKept (texts ++ text ∷ []) values
  values-grown text [] are = (refl, tt)
  values-grown text (value ∷ values) are =
      let first = value-grown text value are.0 in
      let later = values-grown text values are.1 in
      (ap₂ (λ one others. one ∷ others) first.0 later.0, (first.1, later.1))

  -- ---- a value more

  pub pushed-number : (values now : List Kept) (number : ℤ) → AreKept texts values → now ≡ values ++ kept.Whole number ∷ []
      → (values_with texts now ≡ values_with texts values ++ Whole number ∷ []) × AreKept texts now
  pushed-number values now number are is_now = (
    ap (values_with texts) is_now ∙ map-append (value_with texts) values (kept.Whole number ∷ []),
    subst (AreKept texts) (sym is_now) (AreKept-push texts values (kept.Whole number) are tt),
  )

  -- the one whose text was copied last
  texts-push : (text : List ℕ) (values : List Kept) (place : ℕ) → AreKept texts values → place ≡ length texts
      → (values_with (texts ++ text ∷ []) (values ++ kept.Text place ∷ []) ≡ values_with texts values ++ Text text ∷ [])
      × AreKept (texts ++ text ∷ []) (values ++ kept.Text place ∷ [])
  texts-push text values place are last =
      let grown = values-grown text values are in
      let all : List (List ℕ) = texts ++ text ∷ [] in
      let size : length all ≡ length texts + 1 = length_push texts text in (
        map-append (value_with all) values (kept.Text place ∷ [])
            ∙ ap₂ (λ one other. one ++ Text other ∷ []) grown.0 (get_or_push texts text [] place (omega (arith, last))),
        AreKept-push all values (kept.Text place) grown.1 (omega (arith, size, last)),
      )

  pub pushed-text : (text : List ℕ) (values now : List Kept) (place : ℕ) (all : List (List ℕ)) → AreKept texts values → place ≡ length texts
      → all ≡ texts ++ text ∷ [] → now ≡ values ++ kept.Text place ∷ []
      → (values_with all now ≡ values_with texts values ++ Text text ∷ []) × AreKept all now
  pushed-text text values now place all are last is_all is_now =
      let pushed = texts-push text values place are last in (
        ap₂ values_with is_all is_now ∙ pushed.0,
        subst (AreKept all) (sym is_now) (subst (λ texts. AreKept texts (values ++ kept.Text place ∷ [])) (sym is_all) pushed.1),
      )

  -- what is kept at a place has its text among them
  pub kept-at : (values : List Kept) (place : ℕ) (value : Kept) → AreKept texts values → slice_get values place ≡ Some value → IsKept texts value
  kept-at [] place value are found = absurd (cc)
  kept-at (first ∷ values) zero value are found =
      let same : first ≡ value = cc in
      subst (IsKept texts) same are.0
  kept-at (first ∷ values) (suc place) value are found = kept-at values place value are.1 found

  -- ---- a value in the place of another

  set-kept : (values : List Kept) (place : ℕ) (value : Kept) → AreKept texts values → IsKept texts value
      → (values_with texts (set values place value) ≡ set (values_with texts values) place (value_with texts value))
      × AreKept texts (set values place value)
  set-kept [] place value are is = (refl, tt)
  set-kept (first ∷ values) zero value are is = (refl, (is, are.1))
  set-kept (first ∷ values) (suc place) value are is =
      let later = set-kept values place value are.1 is in
      (ap (λ list. value_with texts first ∷ list) later.0, (are.0, later.1))

  pub set-number : (values : List Kept) (place : ℕ) (number made : ℤ) → AreKept texts values → made ≡ number
      → (values_with texts (set values place (kept.Whole made)) ≡ set (values_with texts values) place (Whole number))
      × AreKept texts (set values place (kept.Whole made))
  set-number values place number made are made_is =
      let set_is = set-kept values place (kept.Whole made) are tt in
      (set_is.0 ∙ ap (λ n. set (values_with texts values) place (Whole n)) made_is, set_is.1)

-- with a text more, in the place of another
module _ (texts all : List (List ℕ)) (text : List ℕ) (values : List Kept) (place behind : ℕ) where
  pub set-text : AreKept texts values → behind ≡ length texts → all ≡ texts ++ text ∷ []
      → (values_with all (set values place (kept.Text behind)) ≡ set (values_with texts values) place (Text text))
      × AreKept all (set values place (kept.Text behind))
  set-text are last all_is =
      let grown = values-grown texts text values are in
      let more : List (List ℕ) = texts ++ text ∷ [] in
      let here : IsKept all (kept.Text behind) = omega (arith, length_push texts text, ap length all_is, last) in
      let set_is = set-kept all values place (kept.Text behind)
      (subst (λ some. AreKept some values) (sym all_is) grown.1) here in (
        set_is.0
            ∙ (λ i. set (values_with (all_is i) values) place (Text (get_or (all_is i) behind [])))
            ∙ (λ i. set (grown.0 i) place (Text (get_or_push texts text [] behind (sym last) i))),
        set_is.1,
      )

-- ---- numbers of 64 bits in front of others

-- numbers in front of what is kept
pub in_front : (texts : List (List ℕ)) (numbers : List ℤ) (values now : List Kept) → AreKept texts values
    → now ≡ map kept.Whole numbers ++ values
    → (values_with texts now ≡ map Whole numbers ++ values_with texts values) × AreKept texts now
in_front texts [] values now are is = (ap (values_with texts) is, subst (AreKept texts) (sym is) are)
in_front texts (number ∷ numbers) values now are is =
    let later = in_front texts numbers values (map kept.Whole numbers ++ values) are refl in (
      ap (values_with texts) is ∙ ap (λ list. Whole number ∷ list) later.0,
      subst (AreKept texts) (sym is) (tt, later.1),
    )

-- a number in the place of one of them
pub set-front : (numbers : List ℤ) (others : List Value) (place : ℕ) (number : ℤ) → place < length numbers
    → map Whole (set numbers place number) ++ others ≡ set (map Whole numbers ++ others) place (Whole number)
set-front (first ∷ numbers) others zero number within = refl
set-front (first ∷ numbers) others (suc place) number within =
    ap (λ list. Whole first ∷ list) (set-front numbers others place number (omega (arith, within)))
set-front [] others place number within = absurd (omega (arith, within))

-- a value in the place of one behind them
pub set-behind : (numbers : List ℤ) (others : List Value) (place count : ℕ) (value : Value) → length numbers ≡ count
    → count ≤ place
    → map Whole numbers ++ set others (place - count) value ≡ set (map Whole numbers ++ others) place value
set-behind numbers others place count value long past =
    sym (set-append_right (map Whole numbers) others count place value (wholes-length numbers ∙ long) past)
  where
    wholes-length : (some : List ℤ) → length (map Whole some) ≡ length some
    wholes-length [] = refl
    wholes-length (first ∷ some) = ap suc (wholes-length some)

-- a number added to one of them, where the sum has 64 bits
pub add-front : (numbers : List ℤ) (others : List Value) (place : ℕ) (number sum : ℤ) → place < length numbers
    → sum ≡ get_or numbers place (pos 0) +ℤ number → FitsSigned w64 sum
    → map Whole (set numbers place sum) ++ others
    ≡ set (map Whole numbers ++ others) place
    (Whole (wrapped (number_in (value_at (map Whole numbers ++ others) place) +ℤ number)))
add-front numbers others place number sum within is fits =
    set-front numbers others place sum within
    ∙ ap (λ made. set (map Whole numbers ++ others) place (Whole made))
    (sym (whole sum fits) ∙ ap wrapped is
    ∙ ap (λ value. wrapped (number_in value +ℤ number)) (sym (front numbers place within)))
  where
    whole : (made : ℤ) → FitsSigned w64 made → wrapped made ≡ made
    whole made small = search (rules, wraps)

    front : (some : List ℤ) (at : ℕ) → at < length some
        → value_at (map Whole some ++ others) at ≡ Whole (get_or some at (pos 0))
    front (first ∷ some) zero below = refl
    front (first ∷ some) (suc at) below = front some at (omega (arith, below))
    front [] at below = absurd (omega (arith, below))
