-- The greatest and the least of some numbers that differ, as a number is put behind or the least is taken out.
use Rattle.std.proofs.Common.{◌≡◌, ◌≢◌, ℕ, zero, suc, ◌+◌, ◌-◌, ◌<◌, ◌≤◌, ◌==◌, ◌⊎◌, inl, inr, Bool, true, false, cond, not, ◌||◌, List, [], ◌∷◌, ◌++◌, length, filter, refl, sym, ap, subst, ◌∙◌, arith, max, min, length-append}
use Rattle.std.specs.Prelude.{All, fold}
use Rattle.std.specs.List.{list_any}
use Rattle.std.proofs.lemmas.Bool.{eqb-true, eqb-false, ne_eqb, or_cases}
use Rattle.std.proofs.lemmas.Bool.Decides.{nat_tests}
use Rattle.std.proofs.lemmas.List.Elements.{All-nil, All-cons, All-head, All-tail, All-filter, All-weaker}
use Rattle.std.proofs.lemmas.List.Kept.{AllPairs-filter}
use Rattle.std.proofs.lemmas.List.Sums.{fold-append}
use Rattle.hy_schema.specs.Conditions.{greatest, least}
use Rattle.hy_schema.specs.Keys.{AreUnique}
use Rattle.hy_commands.proofs.ListLaws.{All-of_both, filter-all, unique-head, unique-tail}

-- whether a number is there
abbrev pub is_in : ℕ → List ℕ → Bool
is_in number numbers = list_any (λ n. n == number) numbers

-- what holds of all holds of one that is there
pub All-in : (P : ℕ → Type 0) (number : ℕ) (numbers : List ℕ) → All P numbers → is_in number numbers ≡ true → P number
All-in P number [] all is = absurd (cc)
All-in P number (n ∷ numbers) all is = elim (or_cases (n == number) (is_in number numbers) is) [
  | inl here ↦ subst P (eqb-true n number here) (All-head P n numbers all)
  | inr later ↦ All-in P number numbers (All-tail P n numbers all) later
]

-- ---- the greatest

max-start : (start : ℕ) (numbers : List ℕ) → start ≤ fold max start numbers
max-start start [] = omega arith
max-start start (n ∷ numbers) = omega (arith, max-start (max start n) numbers)

max-each : (start : ℕ) (numbers : List ℕ) → All (λ n. n ≤ fold max start numbers) numbers
max-each start [] = All-nil (λ n. n ≤ start)
max-each start (n ∷ numbers) =
    All-cons (λ m. m ≤ fold max (max start n) numbers) n numbers (omega (arith, max-start (max start n) numbers))
    (max-each (max start n) numbers)

max-below : (start bound : ℕ) (numbers : List ℕ) → start ≤ bound → All (λ n. n ≤ bound) numbers
    → fold max start numbers ≤ bound
max-below start bound [] below all = below
max-below start bound (n ∷ numbers) below all =
    let here = All-head (λ n. n ≤ bound) n numbers all in
    max-below (max start n) bound numbers (omega (arith, here)) (All-tail (λ n. n ≤ bound) n numbers all)

max-one : (start : ℕ) (numbers : List ℕ) → (fold max start numbers ≡ start) ⊎ (is_in (fold max start numbers) numbers
    ≡ true)
max-one start [] = inl refl
max-one start (n ∷ numbers) =
    let top : ℕ = fold max (max start n) numbers in
    elim (max-one (max start n) numbers) [
      | inl is ↦ grind (arith, nat_tests, is, max-start (max start n) numbers)
      | inr later ↦ inr (grind (arith, nat_tests, later))
    ]

pub greatest-each : (numbers : List ℕ) → All (λ n. n ≤ greatest numbers) numbers
greatest-each numbers = max-each 0 numbers

pub greatest-below : (bound : ℕ) (numbers : List ℕ) → All (λ n. n ≤ bound) numbers → greatest numbers ≤ bound
greatest-below bound numbers all = max-below 0 bound numbers (omega arith) all

pub greatest-push : (numbers : List ℕ) (n : ℕ) → greatest (numbers ++ n ∷ []) ≡ max (greatest numbers) n
greatest-push numbers n = fold-append max 0 numbers (n ∷ [])

-- a number that is there and not below any is the greatest
pub greatest-is : (top : ℕ) (numbers : List ℕ) → All (λ n. n ≤ top) numbers → is_in top numbers ≡ true
    → greatest numbers ≡ top
greatest-is top numbers all is =
    let above = All-in (λ n. n ≤ greatest numbers) top numbers (greatest-each numbers) is in
    omega (arith, above, greatest-below top numbers all)

-- the greatest of numbers that aren't all 0 is there
pub greatest-in : (numbers : List ℕ) → 0 < greatest numbers → is_in (greatest numbers) numbers ≡ true
greatest-in numbers above = elim (max-one 0 numbers) [
  | inl is ↦ absurd (omega (arith, is, above))
  | inr is ↦ is
]

-- ---- the least

min-start : (start : ℕ) (numbers : List ℕ) → fold min start numbers ≤ start
min-start start [] = omega arith
min-start start (n ∷ numbers) = omega (arith, min-start (min start n) numbers)

min-each : (start : ℕ) (numbers : List ℕ) → All (λ n. fold min start numbers ≤ n) numbers
min-each start [] = All-nil (λ n. start ≤ n)
min-each start (n ∷ numbers) =
    All-cons (λ m. fold min (min start n) numbers ≤ m) n numbers (omega (arith, min-start (min start n) numbers))
    (min-each (min start n) numbers)

min-above : (start bound : ℕ) (numbers : List ℕ) → bound ≤ start → All (λ n. bound ≤ n) numbers
    → bound ≤ fold min start numbers
min-above start bound [] above all = above
min-above start bound (n ∷ numbers) above all =
    let here = All-head (λ n. bound ≤ n) n numbers all in
    min-above (min start n) bound numbers (omega (arith, here)) (All-tail (λ n. bound ≤ n) n numbers all)

min-one : (start : ℕ) (numbers : List ℕ) → (fold min start numbers ≡ start) ⊎ (is_in (fold min start numbers) numbers
    ≡ true)
min-one start [] = inl refl
min-one start (n ∷ numbers) =
    elim (min-one (min start n) numbers) [
      | inl is ↦ grind (arith, nat_tests, is, min-start (min start n) numbers)
      | inr later ↦ inr (grind (arith, nat_tests, later))
    ]

pub least-each : (numbers : List ℕ) → All (λ n. least numbers ≤ n) numbers
least-each [] = All-nil (λ n. 0 ≤ n)
least-each (n ∷ numbers) =
    All-cons (λ m. fold min n numbers ≤ m) n numbers (min-start n numbers) (min-each n numbers)

pub least-above : (bound : ℕ) (numbers : List ℕ) → 0 < length numbers → All (λ n. bound ≤ n) numbers
    → bound ≤ least numbers
least-above bound [] some all = absurd (omega arith)
least-above bound (n ∷ numbers) some all =
    min-above n bound numbers (All-head (λ n. bound ≤ n) n numbers all) (All-tail (λ n. bound ≤ n) n numbers all)

pub least-in : (numbers : List ℕ) → 0 < length numbers → is_in (least numbers) numbers ≡ true
least-in [] some = absurd (omega arith)
least-in (n ∷ numbers) some = elim (min-one n numbers) [
  | inl is ↦ grind (arith, nat_tests, is)
  | inr is ↦ grind (arith, nat_tests, is)
]

pub least-push : (numbers : List ℕ) (n : ℕ) → 0 < length numbers → least (numbers ++ n ∷ []) ≡ min (least numbers) n
least-push [] n some = absurd (omega arith)
least-push (m ∷ numbers) n some = fold-append min m numbers (n ∷ [])

-- ---- numbers that differ

abbrev pub others : ℕ → List ℕ → List ℕ
others number numbers = filter (λ n. not (n == number)) numbers

-- a number stands among them once at most
others-length : (number : ℕ) (numbers : List ℕ) → AreUnique numbers → length numbers ≤ suc (length (others number
    numbers))
others-length number [] unique = omega arith
others-length number (n ∷ numbers) unique =
    let apart = unique-head n numbers unique in
    let later = others-length number numbers (unique-tail n numbers unique) in
    elim (n == number) as (λ b. (n == number) ≡ b
    → suc (length numbers) ≤ suc (length (cond (not b) (n ∷ others number numbers) (others number numbers)))) [
      | true ↦ λ same.
          let is : n ≡ number = eqb-true n number same in
          let all : All (λ m. not (m == number) ≡ true) numbers =
          All-weaker (λ m. n ≢ m) (λ m. not (m == number) ≡ true)
          (λ m differs. ap not (ne_eqb m number (λ equal. differs (is ∙ sym equal)))) numbers apart in
          let whole : others number numbers ≡ numbers = filter-all (λ m. not (m == number)) numbers all in
          rw whole (omega arith)
      | false ↦ λ differs. omega (arith, later)
    ] refl

others-length_in : (number : ℕ) (numbers : List ℕ) → is_in number numbers ≡ true
    → suc (length (others number numbers)) ≤ length numbers
others-length_in number [] is = absurd (cc)
others-length_in number (n ∷ numbers) is =
    elim (n == number) as (λ b. (b || is_in number numbers) ≡ true
    → suc (length (cond (not b) (n ∷ others number numbers) (others number numbers))) ≤ suc (length numbers)) [
      | true ↦ λ here. omega (arith, shorter numbers)
      | false ↦ λ later. omega (arith, others-length_in number numbers later)
    ] is
  where
    shorter : (numbers : List ℕ) → length (others number numbers) ≤ length numbers
    shorter [] = omega arith
    shorter (n ∷ numbers) =
        elim (n == number) as (λ b. length (cond (not b) (n ∷ others number numbers) (others number numbers)) ≤ suc
        (length numbers)) [
          | true ↦ omega (arith, shorter numbers)
          | false ↦ omega (arith, shorter numbers)
        ]

pub others-in : (number other : ℕ) (numbers : List ℕ) → other ≢ number → is_in other numbers ≡ true
    → is_in other (others number numbers) ≡ true
others-in number other [] differs is = is
others-in number other (n ∷ numbers) differs is =
    elim (n == number) as (λ b. (n == number) ≡ b
    → is_in other (cond (not b) (n ∷ others number numbers) (others number numbers)) ≡ true) [
      | true ↦ λ same. elim (or_cases (n == other) (is_in other numbers) is) [
        | inl here ↦ absurd (differs (sym (eqb-true n other here) ∙ eqb-true n number same))
        | inr later ↦ others-in number other numbers differs later
      ]
      | false ↦ λ apart. elim (or_cases (n == other) (is_in other numbers) is) [
        | inl here ↦ ap (λ b. b || is_in other (others number numbers)) here
        | inr later ↦ grind (arith, others-in number other numbers differs later)
      ]
    ] refl

pub others-differ : (number : ℕ) (numbers : List ℕ) → All (λ n. n ≢ number) (others number numbers)
others-differ number [] = All-nil (λ n. n ≢ number)
others-differ number (n ∷ numbers) =
    elim (n == number) as (λ b. (n == number) ≡ b
    → All (λ n. n ≢ number) (cond (not b) (n ∷ others number numbers) (others number numbers))) [
      | true ↦ λ same. others-differ number numbers
      | false ↦ λ apart. All-cons (λ n. n ≢ number) n (others number numbers) (eqb-false n number apart)
          (others-differ number numbers)
    ] refl

-- numbers that differ, between two ends, are no more than there are numbers between these
pub few-between : (count low : ℕ) (numbers : List ℕ) → AreUnique numbers → All (λ n. low ≤ n) numbers
    → All (λ n. n < low + count) numbers → length numbers ≤ count
few-between count low [] unique above below = omega arith
few-between zero low (n ∷ numbers) unique above below =
    absurd (omega (arith, All-head (λ n. low ≤ n) n numbers above, All-head (λ n. n < low + 0) n numbers below))
few-between (suc count) low (n ∷ numbers) unique above below =
    let top : ℕ = low + count in
    let all : List ℕ = n ∷ numbers in
    let rest : List ℕ = others top all in
    let within : All (λ n. n < low + count) rest =
    All-apart (λ n. n < low + suc count) rest (All-filter (λ n. not (n == top)) (λ n. n < low + suc count) all below)
    (others-differ top all) in
    let few : length rest ≤ count =
    few-between count low rest (AllPairs-filter (λ one other. one ≢ other) (λ n. not (n == top)) all unique)
    (All-filter (λ n. not (n == top)) (λ n. low ≤ n) all above) within in
    omega (arith, few, others-length top all unique)
  where
    All-apart : (P : ℕ → Type 0) (numbers : List ℕ) → All (λ n. n < low + suc count) numbers
        → All (λ n. n ≢ low + count) numbers → All (λ n. n < low + count) numbers
    All-apart P [] all apart = All-nil (λ n. n < low + count)
    All-apart P (n ∷ numbers) all apart =
        let here = All-head (λ n. n < low + suc count) n numbers all in
        let differs = All-head (λ n. n ≢ low + count) n numbers apart in
        All-cons (λ n. n < low + count) n numbers (omega (arith, here, differs))
        (All-apart P numbers (All-tail (λ n. n < low + suc count) n numbers all) (All-tail (λ n. n ≢ low + count) n
        numbers apart))

-- ---- the next number of an order, the numbers of a district's orders, and those of its undelivered ones

pub record AreInRow (next : ℕ) (orders news : List ℕ) : Type 0 where
  pub behind : next - 1 ≡ greatest orders
  pub behind_new : 0 < length news → next - 1 ≡ greatest news
  pub in_row : 0 < length news → greatest news - least news + 1 ≡ length news

-- no order has the next number, nor one above it
pub in_row-below : (next : ℕ) (orders news : List ℕ) → 0 < next → AreInRow next orders news
    → All (λ n. n < next) orders
in_row-below next orders news some row =
    All-weaker (λ n. n ≤ greatest orders) (λ n. n < next) (λ n below. omega (arith, below, row.behind, some)) orders
    (greatest-each orders)

-- the next number put behind both
pub in_row-push : (next : ℕ) (orders news : List ℕ) → 0 < next → AreInRow next orders news
    → AreInRow (next + 1) (orders ++ next ∷ []) (news ++ next ∷ [])
in_row-push next orders news some row = record {
  behind = omega (arith, greatest-push orders next, row.behind);
  behind_new = λ more. omega (arith, greatest-push news next, top);
  in_row = λ more. from news row top;
}
  where
    top : greatest news ≤ next
    top = at news row
      where
        at : (news : List ℕ) → AreInRow next orders news → greatest news ≤ next
        at [] row = omega arith
        at (n ∷ news) row = let is = row.behind_new (omega arith) in omega (arith, is)

    from : (news : List ℕ) → AreInRow next orders news → greatest news ≤ next
        → greatest (news ++ next ∷ []) - least (news ++ next ∷ []) + 1 ≡ length (news ++ next ∷ [])
    from [] row top = omega arith
    from (n ∷ news) row top =
        let all : List ℕ = n ∷ news in
        let some_new : 0 < length all = omega arith in
        let is = row.behind_new some_new in
        let long = row.in_row some_new in
        let below : least all ≤ greatest all =
        All-in (λ m. m ≤ greatest all) (least all) all (greatest-each all) (least-in all some_new) in
        omega (
          arith,
          is,
          long,
          below,
          some,
          greatest-push all next,
          least-push all next some_new,
          length-append all
              (next ∷ []),
        )

-- the least of the undelivered ones taken out
pub in_row-taken : (next : ℕ) (orders news : List ℕ) → AreUnique news → AreInRow next orders news
    → AreInRow next orders (others (least news) news)
in_row-taken next orders [] unique row = record {
  behind = row.behind;
  behind_new = λ more. absurd (omega (arith, more));
  in_row = λ more. absurd (omega (arith, more));
}
in_row-taken next orders (n ∷ news) unique row =
    let all : List ℕ = n ∷ news in
    let first : ℕ = least all in
    let top : ℕ = greatest all in
    let rest : List ℕ = others first all in
    let some : 0 < length all = omega arith in
    let first_in = least-in all some in
    let apart = others-differ first all in
    let beyond : All (λ m. first + 1 ≤ m) rest = All-of_both (λ m. first ≤ m) (λ m. m ≢ first) (λ m. first + 1 ≤ m) rest
    (λ m above differs. omega (arith, above, differs)) (All-filter (λ m. not (m == first)) (λ m. first ≤ m) all
    (least-each all)) apart in
    let within : All (λ m. m ≤ top) rest = All-filter (λ m. not (m == first)) (λ m. m ≤ top) all (greatest-each all) in
    let fewer : suc (length rest) ≡ length all = omega (
      arith,
      others-length first all unique,
      others-length_in first
          all first_in,
    ) in
    let long = row.in_row some in
    let same_top : 0 < length rest → greatest rest ≡ top = λ more.
    let above : first + 1 ≤ least rest = least-above (first + 1) rest more beyond in
    let least_below : least rest ≤ top = All-in (λ m. m ≤ top) (least rest) rest within (least-in rest more) in
    let top_in : is_in top all ≡ true = greatest-in all (omega (arith, above, least_below)) in
    greatest-is top rest within (others-in first top all (λ same. omega (arith, same, above, least_below)) top_in) in
    record {
      behind = row.behind;
      behind_new = λ more. row.behind_new some ∙ sym (same_top more);
      in_row = λ more.
          let is_top = same_top more in
          let above : first + 1 ≤ least rest = least-above (first + 1) rest more beyond in
          let least_below : least rest ≤ top = All-in (λ m. m ≤ top) (least rest) rest within (least-in rest more) in
          let short : All (λ m. m < least rest + (top + 1 - least rest)) rest = All-weaker (λ m. m ≤ top)
          (λ m. m < least rest + (top + 1 - least rest)) (λ m below. omega (arith, below, least_below)) rest within in
          let few = few-between (top + 1 - least rest) (least rest) rest
          (AllPairs-filter (λ one other. one ≢ other) (λ m. not (m == first)) all unique) (least-each rest) short in
          omega (arith, is_top, above, least_below, few, fewer, long);
    }
