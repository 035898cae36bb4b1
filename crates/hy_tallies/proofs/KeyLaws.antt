-- Keys: equal ones are the same, and which were seen after one more.
use Rattle.std.proofs.Common.{◌≡◌, ◌&&◌, ◌∙◌, ◌<◌, ℕ, zero, suc, Bool, true, false, cond, not, if◌then◌else◌, List, [], ◌∷◌, ◌++◌, filter, length, get_or, refl, sym, ap, ap₂, arith}
use Rattle.std.proofs.lemmas.Bool.{and_parts, true≢false}
use Rattle.std.proofs.lemmas.Bool.Decides.{Decides-int_eq}
use Rattle.std.proofs.lemmas.Slice.Eq.{bytes_eq-Decides}
use Rattle.std.specs.List.{AllByRecursion}
use Rattle.hy_query.specs.Meaning.{are_equal, firsts}
use Rattle.hy_query.specs.Rows.{Row}
use Rattle.hy_query.specs.Values.{is_equal}
use Rattle.hy_rows.specs.declared.value.Value.{Value}
use Rattle.hy_rows.specs.declared.value.Value.TheVariants.{Text, Whole}
use Rattle.hy_tallies.specs.inside.Keys.{Apart, place_of_key, with_key}
use Rattle.hy_tallies.proofs.ListLaws.{each-filter}

-- ---- equal ones are the same

pub is_equal-same : (one other : Value) → is_equal one other ≡ true → one ≡ other
is_equal-same (Whole one) (Whole other) same = ap Whole ((Decides-int_eq one other).0 same)
is_equal-same (Whole one) (Text other) same = absurd (true≢false (sym same))
is_equal-same (Text one) (Whole other) same = absurd (true≢false (sym same))
is_equal-same (Text one) (Text other) same = ap Text ((bytes_eq-Decides one other).0 same)

is_equal-refl : (value : Value) → is_equal value value ≡ true
is_equal-refl (Whole number) = (Decides-int_eq number number).1 refl
is_equal-refl (Text bytes) = (bytes_eq-Decides bytes bytes).1 refl

pub same-row : (one other : Row) → are_equal one other ≡ true → one ≡ other
same-row [] [] same = refl
same-row [] (value ∷ others) same = absurd (true≢false (sym same))
same-row (value ∷ row) [] same = absurd (true≢false (sym same))
same-row (value ∷ row) (other ∷ others) same =
    let parts = and_parts (is_equal value other) (are_equal row others) same in
    ap₂ (λ first later. first ∷ later) (is_equal-same value other parts.0) (same-row row others parts.1)

pub equal-refl : (row : Row) → are_equal row row ≡ true
equal-refl [] = refl
equal-refl (value ∷ row) = (λ i. is_equal-refl value i && equal-refl row i)

pub equal-same : (one other : Row) → one ≡ other → are_equal one other ≡ true
equal-same one other is = ap (are_equal one) (sym is) ∙ equal-refl one

pub other-row : (one other : Row) → (one ≡ other → ⊥) → are_equal one other ≡ false
other-row one other apart = by (are_equal one other) refl
  where
    by : (b : Bool) → are_equal one other ≡ b → b ≡ false
    by true is = absurd (apart (same-row one other is))
    by false is = refl

pub apart-rows : (one other : Row) → are_equal one other ≡ false → one ≡ other → ⊥
apart-rows one other apart is = true≢false (sym (equal-same one other is) ∙ apart)

pub equal-symm : (one other : Row) → are_equal one other ≡ are_equal other one
equal-symm one other = by (are_equal one other) refl
  where
    by : (b : Bool) → are_equal one other ≡ b → b ≡ are_equal other one
    by true is = sym (equal-same other one (sym (same-row one other is)))
    by false is = sym (other-row other one (λ e. apart-rows one other is (sym e)))

-- ---- the different ones, with one more

-- those that differ from a row
abbrev differing : Row → List Row → List Row
differing row xs = filter (λ other. not (are_equal row other)) xs

module _ (row key : Row) where
  differing-with : (xs : List Row)
      → differing row (with_key xs key) ≡ (if are_equal row key then differing row xs else with_key (differing row xs) key)
  differing-with [] = by (are_equal row key)
    where
      by : (b : Bool) → cond (not b) (key ∷ []) [] ≡ (if b then [] else key ∷ [])
      by true = refl
      by false = refl
  differing-with (x ∷ xs) =
      by (are_equal row x) refl (are_equal x key) refl (are_equal row key) refl (differing-with xs)
    where
      by : (a : Bool) → are_equal row x ≡ a → (b : Bool) → are_equal x key ≡ b → (c : Bool) → are_equal row key ≡ c
          → differing row (with_key xs key) ≡ (if c then differing row xs else with_key (differing row xs) key)
          → cond (not a) (x ∷ differing row (if b then xs else with_key xs key)) (differing row (if b then xs else with_key xs key))
          ≡ (if c then cond (not a) (x ∷ differing row xs) (differing row xs)
          else with_key (cond (not a) (x ∷ differing row xs) (differing row xs)) key)
      by true a_is true b_is true c_is later = refl
      by true a_is true b_is false c_is later =
          absurd (apart-rows row key c_is (same-row row x a_is ∙ same-row x key b_is))
      by true a_is false b_is c c_is later = later
      by false a_is true b_is true c_is later = refl
      by false a_is true b_is false c_is later =
          ap (λ b. x ∷ (if b then differing row xs else with_key (differing row xs) key)) (sym b_is)
      by false a_is false b_is true c_is later = ap (λ list. x ∷ list) later
      by false a_is false b_is false c_is later =
          ap (λ list. x ∷ list) later ∙ ap (λ b. x ∷ (if b then differing row xs else with_key (differing row xs) key)) (sym b_is)

pub firsts-push : (keys : List Row) (key : Row) → firsts (keys ++ key ∷ []) ≡ with_key (firsts keys) key
firsts-push [] key = refl
firsts-push (row ∷ keys) key =
    ap (λ list. row ∷ filter (λ other. not (are_equal row other)) list) (firsts-push keys key)
    ∙ ap (λ list. row ∷ list) (differing-with row key (firsts keys))

apart-filter : (p : Row → Bool) (xs : List Row) → Apart xs → Apart (filter p xs)
apart-filter p [] apart = tt
apart-filter p (x ∷ xs) apart = by (p x) (apart-filter p xs apart.1)
  where
    by : (b : Bool) → Apart (filter p xs) → Apart (cond b (x ∷ filter p xs) (filter p xs))
    by true later = (each-filter (λ other. are_equal x other ≡ false) p xs apart.0, later)
    by false later = later

differing-apart : (row : Row) (xs : List Row)
    → AllByRecursion (λ other. are_equal row other ≡ false) (filter (λ other. not (are_equal row other)) xs)
differing-apart row [] = tt
differing-apart row (x ∷ xs) = by (are_equal row x) refl (differing-apart row xs)
  where
    by : (b : Bool) → are_equal row x ≡ b → AllByRecursion (λ other. are_equal row other ≡ false) (differing row xs)
        → AllByRecursion (λ other. are_equal row other ≡ false) (cond (not b) (x ∷ differing row xs) (differing row xs))
    by true is later = later
    by false is later = (is, later)

pub firsts-apart : (keys : List Row) → Apart (firsts keys)
firsts-apart [] = tt
firsts-apart (row ∷ keys) = (
  differing-apart row (firsts keys),
  apart-filter (λ other. not (are_equal row other)) (firsts keys) (firsts-apart keys),
)

-- what none of the first ones equals, none equals
pub covered : (key : Row) (keys : List Row) → AllByRecursion (λ row. are_equal row key ≡ false) (firsts keys)
    → AllByRecursion (λ row. are_equal row key ≡ false) keys
covered key [] none = tt
covered key (row ∷ keys) none = (none.0, covered key keys (back (firsts keys) none.1))
  where
    back : (xs : List Row)
        → AllByRecursion (λ other. are_equal other key ≡ false) (filter (λ other. not (are_equal row other)) xs)
        → AllByRecursion (λ other. are_equal other key ≡ false) xs
    back [] each = tt
    back (x ∷ xs) each = by (are_equal row x) refl each (back xs)
      where
        by : (b : Bool) → are_equal row x ≡ b
            → AllByRecursion (λ other. are_equal other key ≡ false) (cond (not b) (x ∷ differing row xs) (differing row xs))
            → (AllByRecursion (λ other. are_equal other key ≡ false) (differing row xs)
            → AllByRecursion (λ other. are_equal other key ≡ false) xs)
            → (are_equal x key ≡ false) × AllByRecursion (λ other. are_equal other key ≡ false) xs
        by true is each later = (ap (λ one. are_equal one key) (sym (same-row row x is)) ∙ none.0, later each)
        by false is each later = (each.0, later each.1)

-- ---- where a key is

-- what is no place of an equal one lies behind them
pub not-seen : (key : Row) (xs : List Row) → AllByRecursion (λ row. are_equal row key ≡ false) xs
    → (place_of_key key xs ≡ length xs) × (with_key xs key ≡ xs ++ key ∷ [])
not-seen key [] none = (refl, refl)
not-seen key (x ∷ xs) none =
    let later = not-seen key xs none.1 in (
      ap (λ b. if b then 0 else suc (place_of_key key xs)) none.0 ∙ ap suc later.0,
      ap (λ b. x ∷ (if b then xs else with_key xs key)) none.0 ∙ ap (λ list. x ∷ list) later.1,
    )

-- the place of an equal one is its place
pub seen-at : (key : Row) (xs : List Row) (place : ℕ) (d : Row) → Apart xs → place < length xs
    → get_or xs place d ≡ key → (place_of_key key xs ≡ place) × (with_key xs key ≡ xs)
seen-at key [] place d apart within is = absurd (omega arith)
seen-at key (x ∷ xs) zero d apart within is = (
  ap (λ b. if b then 0 else suc (place_of_key key xs)) (equal-same x key is),
  ap (λ b. x ∷ (if b then xs else with_key xs key)) (equal-same x key is),
)
seen-at key (x ∷ xs) (suc place) d apart within is =
    let later = seen-at key xs place d apart.1 (omega arith) is in
    let here : are_equal x key ≡ false = ap (are_equal x) (sym is) ∙ other xs place apart.0 (omega arith) in (
      ap (λ b. if b then 0 else suc (place_of_key key xs)) here ∙ ap suc later.0,
      ap (λ b. x ∷ (if b then xs else with_key xs key)) here ∙ ap (λ list. x ∷ list) later.1,
    )
  where
    other : (ys : List Row) (k : ℕ) → AllByRecursion (λ row. are_equal x row ≡ false) ys → k < length ys
        → are_equal x (get_or ys k d) ≡ false
    other [] k each l = absurd (omega arith)
    other (y ∷ ys) zero each l = each.0
    other (y ∷ ys) (suc k) each l = other ys k each.1 (omega arith)
