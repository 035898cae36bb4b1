-- Records with empty fields behind them.
use Rattle.std.proofs.Common.{◌≡◌, ◌∙◌, ◌-◌, ◌<◌, ◌≤◌, ◌++◌, ◌∷◌, [], ℕ, zero, suc, List, length, replicate, Some, None, arith, refl, ap, sym}
use Rattle.csv.specs.Records.{field_at}

-- a field of the record itself
own_at : (fields later : List (List ℕ)) (place : ℕ) → place < length fields
    → field_at (fields ++ later) place ≡ field_at fields place
unfolding field_at
own_at [] later place within = absurd (omega (arith, within))
own_at (field ∷ fields) later zero within = refl
own_at (field ∷ fields) later (suc place) within = own_at fields later place (omega (arith, within))

-- a field behind it
later_at : (fields later : List (List ℕ)) (place : ℕ) → length fields ≤ place
    → field_at (fields ++ later) place ≡ field_at later (place - length fields)
unfolding field_at
later_at [] later place past = ap (field_at later) (omega arith)
later_at (field ∷ fields) later zero past = absurd (omega (arith, past))
later_at (field ∷ fields) later (suc place) past =
    later_at fields later place (omega (arith, past)) ∙ ap (field_at later) (omega arith)

empty_at : (lacking place : ℕ) → place < lacking → field_at (replicate lacking []) place ≡ Some []
unfolding field_at
empty_at zero place within = absurd (omega (arith, within))
empty_at (suc lacking) zero within = refl
empty_at (suc lacking) (suc place) within = empty_at lacking place (omega (arith, within))

none_at : (lacking place : ℕ) → lacking ≤ place → field_at (replicate lacking []) place ≡ None
unfolding field_at
none_at zero place past = refl
none_at (suc lacking) zero past = absurd (omega (arith, past))
none_at (suc lacking) (suc place) past = none_at lacking place (omega (arith, past))

pub field-own : (fields : List (List ℕ)) (lacking place : ℕ) → place < length fields
    → field_at fields place ≡ field_at (fields ++ replicate lacking []) place
field-own fields lacking place within = sym (own_at fields (replicate lacking []) place within)

pub field-empty : (fields : List (List ℕ)) (lacking place : ℕ) → length fields ≤ place
    → place - length fields < lacking → Some [] ≡ field_at (fields ++ replicate lacking []) place
field-empty fields lacking place past within =
    sym (later_at fields (replicate lacking []) place past ∙ empty_at lacking (place - length fields) within)

pub field-none : (fields : List (List ℕ)) (lacking place : ℕ) → length fields ≤ place
    → lacking ≤ place - length fields → None ≡ field_at (fields ++ replicate lacking []) place
field-none fields lacking place past behind =
    sym (later_at fields (replicate lacking []) place past ∙ none_at lacking (place - length fields) behind)
