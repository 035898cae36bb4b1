-- The lines of an order, by the index of order lines.
use Rattle.std.proofs.Common.{◌≡◌, ℕ, ◌==◌, ◌||◌, ◌⊎◌, inl, inr, ℤ, ◌+ℤ◌, Bool, true, false, cond, List, [], ◌∷◌, ◌++◌, Option, Some, None, refl, sym, ap, ap₂, subst, ◌∙◌, arith}
use Rattle.std.specs.Prelude.{slice_get, slice_set, option_to_list}
use Rattle.std.specs.Option.{option_map}
use Rattle.std.proofs.lemmas.Bool.{cases_eq, eq-eqb, eqb-true}
use Rattle.std.proofs.lemmas.Int.{ints}
use Rattle.std.proofs.lemmas.Option.{slice_get-map}
use Rattle.hy_rows.specs.declared.order_line.OrderLine.{OrderLine}
use Rattle.hy_schema.specs.Conditions.{column_sum}
use Rattle.hy_commands.specs.Deliveries.{delivered_line}
use Rattle.hy_commands.specs.Sorting.{with_all_changed}
use Rattle.hy_commands.proofs.ListLaws.{column_sum-append, column_sum-cons}
use Rattle.hy_layout.specs.Finds.{IsIn}
use Rattle.hy_layout.proofs.MemberLaws.{in-append, in-left, in-right}
use Rattle.hy_layout.proofs.PlaceLaws.{get-set_other, get-set_same, same-places}
use Rattle.hy_writers.specs.Deliveries.{Walked, is_listed, lines_at, walked, walked_line}
use Rattle.hy_writers.proofs.WaitingLaws.{not-eqb}

some-is : {Row : Type 0} (one other : Row) → Some one ≡ Some other → one ≡ other
some-is one other same = cc

-- ---- lines at places

pub line-at : (rows : List OrderLine) (places : List ℕ) (row : OrderLine) → IsIn row (lines_at rows places)
    → (place : ℕ) × IsIn place places × (slice_get rows place ≡ Some row)
line-at rows [] row there = absurd there
line-at rows (place ∷ places) row there =
    go (line-at rows places row) (slice_get rows place) refl
    (in-append row (option_to_list (slice_get rows place)) (lines_at rows places) there)
  where
    go : (IsIn row (lines_at rows places) → (at : ℕ) × IsIn at places × (slice_get rows at ≡ Some row))
        → (found : Option OrderLine) → found ≡ slice_get rows place
        → IsIn row (option_to_list found) ⊎ IsIn row (lines_at rows places)
        → (at : ℕ) × IsIn at (place ∷ places) × (slice_get rows at ≡ Some row)
    go later found is (inr behind) =
        let rest = later behind in
        (rest.0, inr rest.1, rest.2)
    go later None is (inl here) = absurd here
    go later (Some first) is (inl here) = elim here [
      | inl same ↦ (place, inl refl, sym is ∙ ap Some same)
      | inr none ↦ absurd none
    ]

pub at-line : (rows : List OrderLine) (places : List ℕ) (place : ℕ) (row : OrderLine) → IsIn place places
    → slice_get rows place ≡ Some row → IsIn row (lines_at rows places)
at-line rows [] place row there here = absurd there
at-line rows (first ∷ places) place row there here = elim there [
  | inl same ↦
      in-left row (option_to_list (slice_get rows first)) (lines_at rows places)
      (subst (λ found. IsIn row (option_to_list found)) (sym (ap (slice_get rows) same ∙ here)) (inl refl))
  | inr behind ↦
      in-right row (option_to_list (slice_get rows first)) (lines_at rows places)
      (at-line rows places place row behind here)
]

pub listed-in : (place : ℕ) (places : List ℕ) → is_listed place places ≡ true → IsIn place places
listed-in place [] is = absurd (cc)
listed-in place (first ∷ places) is =
    elim (first == place) as (λ b. (first == place) ≡ b → (b || is_listed place places) ≡ true → IsIn place (first ∷ places)) [
      | true ↦ λ same is. inl (eqb-true first place same)
      | false ↦ λ same is. inr (listed-in place places is)
    ] refl is

pub in-listed : (place : ℕ) (places : List ℕ) → IsIn place places → is_listed place places ≡ true
in-listed place [] there = absurd there
in-listed place (first ∷ places) there = elim there [
  | inl same ↦ ap (λ b. b || is_listed place places) (eq-eqb first place same)
  | inr behind ↦
      ap (λ b. (first == place) || b) (in-listed place places behind)
      ∙ (elim (first == place) as (λ b. (b || true) ≡ true) [
        | true ↦ refl
        | false ↦ refl
      ])
]

-- ---- a walk over lines

-- what a walk makes of the line at a place
abbrev marked : ℕ → Bool → Option OrderLine → Option OrderLine
marked moment true found = option_map (delivered_line moment) found
marked moment false found = found

marked-again : (moment : ℕ) (b : Bool) (row : OrderLine)
    → marked moment b (Some (delivered_line moment row)) ≡ Some (delivered_line moment row)
marked-again moment true row = refl
marked-again moment false row = refl

both-none : (moment : ℕ) (one other : Bool) → marked moment one None ≡ marked moment other None
both-none moment true true = refl
both-none moment true false = refl
both-none moment false true = refl
both-none moment false false = refl

walked-at : (moment : ℕ) (places : List ℕ) (walk : Walked) (place : ℕ)
    → slice_get (walked moment places walk).rows place ≡ marked moment (is_listed place places) (slice_get walk.rows place)
walked-at moment [] walk place = refl
walked-at moment (first ∷ places) walk place =
    go (λ walk place. walked-at moment places walk place) (slice_get walk.rows first) refl
  where
    go : ((walk : Walked) (place : ℕ) → slice_get (walked moment places walk).rows place
        ≡ marked moment (is_listed place places) (slice_get walk.rows place))
        → (found : Option OrderLine) → found ≡ slice_get walk.rows first
        → slice_get (walked moment places (walked_line moment first walk found)).rows place
        ≡ marked moment ((first == place) || is_listed place places) (slice_get walk.rows place)
    go later None is = elim (cases_eq place first) [
      | inl same ↦
          let none : slice_get walk.rows place ≡ None = ap (slice_get walk.rows) same ∙ sym is in
          later walk place
          ∙ rw none (both-none moment (is_listed place places) ((first == place) || is_listed place places))
      | inr differs ↦
          later walk place
          ∙ ap (λ b. marked moment (b || is_listed place places) (slice_get walk.rows place))
          (sym (not-eqb first place (λ same. differs (sym same))))
    ]
    go later (Some row) is = elim (cases_eq place first) [
      | inl same ↦
          let here : slice_get walk.rows place ≡ Some row = ap (slice_get walk.rows) same ∙ sym is in
          let now : slice_get (slice_set walk.rows first (delivered_line moment row)) place ≡ Some (delivered_line moment row) =
          ap (slice_get (slice_set walk.rows first (delivered_line moment row))) same
          ∙ get-set_same walk.rows first row (delivered_line moment row) (sym is) in
          later (walked_line moment first walk (Some row)) place
          ∙ ap (marked moment (is_listed place places)) now
          ∙ marked-again moment (is_listed place places) row
          ∙ ap (λ found. option_map (delivered_line moment) found) (sym here)
          ∙ ap (λ b. marked moment (b || is_listed place places) (slice_get walk.rows place))
          (sym (eq-eqb first place (sym same)))
      | inr differs ↦
          later (walked_line moment first walk (Some row)) place
          ∙ ap (marked moment (is_listed place places)) (get-set_other walk.rows first place (delivered_line moment row) differs)
          ∙ ap (λ b. marked moment (b || is_listed place places) (slice_get walk.rows place))
          (sym (not-eqb first place (λ same. differs (sym same))))
    ]

-- the lines that are listed are those that pass a test
pub walked-rows : (moment : ℕ) (places : List ℕ) (walk : Walked) (test : OrderLine → Bool)
    → ((place : ℕ) (row : OrderLine) → slice_get walk.rows place ≡ Some row → test row ≡ is_listed place places)
    → (walked moment places walk).rows ≡ with_all_changed test (delivered_line moment) walk.rows
walked-rows moment places walk test tells =
    same-places (walked moment places walk).rows (with_all_changed test (delivered_line moment) walk.rows)
    (λ place.
    walked-at moment places walk place
    ∙ go place (slice_get walk.rows place) refl
    ∙ sym (slice_get-map (λ row. cond (test row) (delivered_line moment row) row) walk.rows place))
  where
    go : (place : ℕ) (found : Option OrderLine) → found ≡ slice_get walk.rows place
        → marked moment (is_listed place places) found
        ≡ option_map (λ row. cond (test row) (delivered_line moment row) row) found
    go place None is = none (is_listed place places)
      where
        none : (b : Bool) → marked moment b None ≡ None
        none true = refl
        none false = refl
    go place (Some row) is = some (is_listed place places) (test row) (tells place row (sym is))
      where
        some : (b t : Bool) → t ≡ b → marked moment b (Some row) ≡ Some (cond t (delivered_line moment row) row)
        some true true same = refl
        some true false same = absurd (cc)
        some false true same = absurd (cc)
        some false false same = refl

-- amounts don't change
amounts : (rows others : List OrderLine) (places : List ℕ)
    → ((place : ℕ) → option_map (λ (row : OrderLine). row.amount) (slice_get rows place)
    ≡ option_map (λ (row : OrderLine). row.amount) (slice_get others place))
    → column_sum (λ row. row.amount) (lines_at rows places) ≡ column_sum (λ row. row.amount) (lines_at others places)
amounts rows others [] same = refl
amounts rows others (place ∷ places) same =
    column_sum-append (λ (row : OrderLine). row.amount) (option_to_list (slice_get rows place)) (lines_at rows places)
    ∙ ap₂ (λ (a : ℤ) (b : ℤ). a +ℤ b) (one (slice_get rows place) (slice_get others place) (same place))
    (amounts rows others places same)
    ∙ sym (column_sum-append (λ (row : OrderLine). row.amount) (option_to_list (slice_get others place))
    (lines_at others places))
  where
    one : (a b : Option OrderLine)
        → option_map (λ (row : OrderLine). row.amount) a ≡ option_map (λ (row : OrderLine). row.amount) b
        → column_sum (λ row. row.amount) (option_to_list a) ≡ column_sum (λ row. row.amount) (option_to_list b)
    one None None is = refl
    one None (Some b) is = absurd (cc)
    one (Some a) None is = absurd (cc)
    one (Some a) (Some b) is =
        let value : a.amount ≡ b.amount = cc in
        column_sum-cons (λ (row : OrderLine). row.amount) a [] ∙ ap (λ v. v +ℤ column_sum (λ (row : OrderLine). row.amount) []) value
        ∙ sym (column_sum-cons (λ (row : OrderLine). row.amount) b [])

pub walked-cents : (moment : ℕ) (places : List ℕ) (walk : Walked)
    → (walked moment places walk).cents ≡ walk.cents +ℤ column_sum (λ row. row.amount) (lines_at walk.rows places)
walked-cents moment [] walk = omega (arith, ints)
walked-cents moment (first ∷ places) walk =
    go (λ walk. walked-cents moment places walk) (slice_get walk.rows first) refl
  where
    go : ((walk : Walked) → (walked moment places walk).cents
        ≡ walk.cents +ℤ column_sum (λ row. row.amount) (lines_at walk.rows places))
        → (found : Option OrderLine) → found ≡ slice_get walk.rows first
        → (walked moment places (walked_line moment first walk found)).cents
        ≡ walk.cents +ℤ column_sum (λ row. row.amount) (option_to_list found ++ lines_at walk.rows places)
    go later None is = later walk
    go later (Some row) is =
        let kept = amounts (slice_set walk.rows first (delivered_line moment row)) walk.rows places (λ place.
        elim (cases_eq place first) [
          | inl same ↦
              ap (λ k. option_map (λ (row : OrderLine). row.amount) (slice_get (slice_set walk.rows first (delivered_line moment row)) k)) same
              ∙ ap (option_map (λ (row : OrderLine). row.amount)) (get-set_same walk.rows first row (delivered_line moment row) (sym is))
              ∙ ap (option_map (λ (row : OrderLine). row.amount)) is
              ∙ ap (λ k. option_map (λ (row : OrderLine). row.amount) (slice_get walk.rows k)) (sym same)
          | inr differs ↦
              ap (option_map (λ (row : OrderLine). row.amount)) (get-set_other walk.rows first place (delivered_line moment row) differs)
        ]) in
        omega (
          arith,
          ints,
          later (walked_line moment first walk (Some row)),
          kept,
          column_sum-cons (λ (row : OrderLine). row.amount) row (lines_at walk.rows places),
        )
