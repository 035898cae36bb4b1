-- The numbers of commits of several warehouses, and lists of which each element passes a test.
use Rattle.std.proofs.Common.{◌≡◌, ◌||◌, ◌==◌, ℕ, zero, suc, ◌+◌, ◌<◌, ◌≤◌, Bool, true, false, cond, List, [], ◌∷◌, ◌++◌, drop, length, map, Option, Some, None, inl, inr, refl, sym, ap, ◌∙◌, arith, length-append}
use Rattle.std.specs.Prelude.{All, filter, nat_lt}
use Rattle.std.specs.List.{filter_map, list_all, list_any, range_with_len}
use Rattle.std.proofs.lemmas.Bool.{and_parts, eq-eqb, false≢true, or_cases}
use Rattle.std.proofs.Math.Bool.{or-true}
use Rattle.std.proofs.lemmas.List.{map-append}
use Rattle.std.proofs.lemmas.List.Elements.{All-cons, All-head, All-nil, All-tail, filter-append, filter_map-append}
use Rattle.hy_rows.specs.Ranges.{is_between}
use Rattle.hy_rows.proofs.BetweenLaws.{bounds}
use Rattle.hy_passes.specs.SerialList.{are_warehouses, names, numbers_of}
use Rattle.hy_passes.specs.declared.entry.Entry.{Entry}
use Rattle.hy_commands.specs.declared.command.Commit.{Commit}
use Rattle.hy_commands.specs.declared.command.Commit.TheVariants as commits
use Rattle.hy_commands.specs.Commands.{number_of, warehouses_of_commit}
use Rattle.hy_crossing.specs.of_partition.Jobs.{Log}
use Rattle.hy_crossing.specs.of_partition.Partition.{projection_of}
use Rattle.hy_crossing.specs.Crossings.{commits_in}
use Rattle.hy_sound.specs.Sound.{crossings_of}
use Rattle.hy_forks.specs.Logged.{crossings_in}

-- ---- lists of which each element passes a test

pub all-true : {Row : Type 0} (test : Row → Bool) (rows : List Row) → All (λ row. test row ≡ true) rows
    → list_all test rows ≡ true
all-true test [] all = refl
all-true test (row ∷ rows) all =
    let here = All-head (λ row. test row ≡ true) row rows all in
    let later = all-true test rows (All-tail (λ row. test row ≡ true) row rows all) in
    rw (here, later) refl

-- what a test leads to
pub all-lead : {Row : Type 0} (test : Row → Bool) (Holds : Row → Type 0) (rows : List Row)
    → ((row : Row) → test row ≡ true → Holds row) → list_all test rows ≡ true → All Holds rows
all-lead test Holds [] leads all = All-nil Holds
all-lead test Holds (row ∷ rows) leads all =
    let both = and_parts (test row) (list_all test rows) all in
    All-cons Holds row rows (leads row both.0) (all-lead test Holds rows leads both.1)

pub all-pass : {Row : Type 0} (test other : Row → Bool) (rows : List Row)
    → ((row : Row) → test row ≡ true → other row ≡ true) → list_all test rows ≡ true → list_all other rows ≡ true
all-pass test other [] leads all = refl
all-pass test other (row ∷ rows) leads all =
    let both = and_parts (test row) (list_all test rows) all in
    let here = leads row both.0 in
    let later = all-pass test other rows leads both.1 in
    rw (here, later) refl

-- those that pass another test too
pub all-passing : {Row : Type 0} (test wanted : Row → Bool) (rows : List Row)
    → All (λ row. test row ≡ true → wanted row ≡ true) rows → list_all wanted (filter test rows) ≡ true
all-passing test wanted [] all = refl
all-passing {Row = Row} test wanted (row ∷ rows) all =
    by (test row) refl (All-head (λ row. test row ≡ true → wanted row ≡ true) row rows all)
    (all-passing test wanted rows (All-tail (λ row. test row ≡ true → wanted row ≡ true) row rows all))
  where
    by : (passes : Bool) → test row ≡ passes → (test row ≡ true → wanted row ≡ true)
        → list_all wanted (filter test rows) ≡ true
        → list_all wanted (cond passes (row ∷ filter test rows) (filter test rows)) ≡ true
    by true is leads later = let here = leads is in rw (here, later) refl
    by false is leads later = later

-- what holds of those that pass a test
pub all-filtered : {Row : Type 0} (Holds : Row → Type 0) (test : Row → Bool) (rows : List Row)
    → All Holds (filter test rows) → All (λ row. test row ≡ true → Holds row) rows
all-filtered Holds test [] all = All-nil (λ row. test row ≡ true → Holds row)
all-filtered {Row = Row} Holds test (row ∷ rows) all =
    All-cons (λ row. test row ≡ true → Holds row) row rows (here (test row) refl all)
    (all-filtered Holds test rows (later (test row) all))
  where
    here : (passes : Bool) → test row ≡ passes → All Holds (cond passes (row ∷ filter test rows) (filter test rows))
        → test row ≡ true → Holds row
    here true is all passes = All-head Holds row (filter test rows) all
    here false is all passes = absurd (false≢true (sym is ∙ passes))

    later : (passes : Bool) → All Holds (cond passes (row ∷ filter test rows) (filter test rows))
        → All Holds (filter test rows)
    later true all = All-tail Holds row (filter test rows) all
    later false all = all

pub all-three : {Row : Type 0} (One Two Three Wanted : Row → Type 0) (rows : List Row)
    → ((row : Row) → One row → Two row → Three row → Wanted row) → All One rows → All Two rows → All Three rows
    → All Wanted rows
all-three One Two Three Wanted [] leads a b c = All-nil Wanted
all-three One Two Three Wanted (row ∷ rows) leads a b c =
    All-cons Wanted row rows (leads row (All-head One row rows a) (All-head Two row rows b) (All-head Three row rows c))
    (all-three One Two Three Wanted rows leads (All-tail One row rows a) (All-tail Two row rows b)
    (All-tail Three row rows c))

-- what holds of what each element gives
pub all-unmapped : {Row Other : Type 0} (f : Row → Other) (Holds : Other → Type 0) (rows : List Row)
    → All Holds (map f rows) → All (λ row. Holds (f row)) rows
all-unmapped f Holds [] all = All-nil (λ row. Holds (f row))
all-unmapped f Holds (row ∷ rows) all =
    All-cons (λ row. Holds (f row)) row rows (All-head Holds (f row) (map f rows) all)
    (all-unmapped f Holds rows (All-tail Holds (f row) (map f rows) all))

-- ---- filters

-- one filter behind another, in either order
pub filter-swap : {Row : Type 0} (p q : Row → Bool) (rows : List Row) → filter p (filter q rows) ≡ filter q (filter p rows)
filter-swap p q [] = refl
filter-swap {Row = Row} p q (row ∷ rows) = by (p row) (q row) refl refl (filter-swap p q rows)
  where
    by : (one other : Bool) → p row ≡ one → q row ≡ other → filter p (filter q rows) ≡ filter q (filter p rows)
        → filter p (cond other (row ∷ filter q rows) (filter q rows))
        ≡ filter q (cond one (row ∷ filter p rows) (filter p rows))
    by true true is and same =
        ap (λ b. cond b (row ∷ filter p (filter q rows)) (filter p (filter q rows))) is ∙ ap (λ rows. row ∷ rows) same
        ∙ sym (ap (λ b. cond b (row ∷ filter q (filter p rows)) (filter q (filter p rows))) and)
    by true false is and same = same ∙ sym (ap (λ b. cond b (row ∷ filter q (filter p rows)) (filter q (filter p rows))) and)
    by false true is and same = ap (λ b. cond b (row ∷ filter p (filter q rows)) (filter p (filter q rows))) is ∙ same
    by false false is and same = same

pub filter-few : {Row : Type 0} (test : Row → Bool) (rows : List Row) → length (filter test rows) ≤ length rows
filter-few test [] = omega arith
filter-few {Row = Row} test (row ∷ rows) = by (test row) (filter-few test rows)
  where
    by : (passes : Bool) → length (filter test rows) ≤ length rows
        → length (cond passes (row ∷ filter test rows) (filter test rows)) ≤ length (row ∷ rows)
    by true few = omega (arith, few)
    by false few = omega (arith, few)

pub numbers-few : {Row : Type 0} (number : Row → Option ℕ) (rows : List Row)
    → length (filter_map number rows) ≤ length rows
numbers-few number [] = omega arith
numbers-few {Row = Row} number (row ∷ rows) = by (number row) refl (numbers-few number rows)
  where
    by : (found : Option ℕ) → number row ≡ found → length (filter_map number rows) ≤ length rows
        → length (filter_map number (row ∷ rows)) ≤ length (row ∷ rows)
    by None is few = rw is (omega (arith, few))
    by (Some n) is few = rw is (omega (arith, few))

-- ---- numbers

-- what holds of the number of a commit of several warehouses
abbrev pub OnNumber : (ℕ → Type 0) → Commit → Type 0
OnNumber Holds (commits.Local edition command) = Unit {0}
OnNumber Holds (commits.Cross edition number command) = Holds number

pub numbers-hold : (Holds : ℕ → Type 0) (rows : List Commit) → All Holds (filter_map number_of rows)
    → All (OnNumber Holds) rows
numbers-hold Holds [] all = All-nil (OnNumber Holds)
numbers-hold Holds (commits.Local edition command ∷ rows) all =
    All-cons (OnNumber Holds) (commits.Local edition command) rows tt (numbers-hold Holds rows all)
numbers-hold Holds (commits.Cross edition number command ∷ rows) all =
    All-cons (OnNumber Holds) (commits.Cross edition number command) rows
    (All-head Holds number (filter_map number_of rows) all)
    (numbers-hold Holds rows (All-tail Holds number (filter_map number_of rows) all))

pub range-within : (low count most : ℕ) → 1 ≤ low → low + count ≤ most
    → All (λ n. (1 ≤ n) × (n < most)) (range_with_len low count)
range-within low zero most first few = All-nil (λ n. (1 ≤ n) × (n < most))
range-within low (suc count) most first few =
    All-cons (λ n. (1 ≤ n) × (n < most)) low (range_with_len (low + 1) count) (first, omega (arith, few))
    (range-within (low + 1) count most (omega (arith, first)) (omega (arith, few)))

pub range-behind : (front rest : List ℕ) (low count : ℕ) → count ≡ length front + length rest
    → front ++ rest ≡ range_with_len low count → rest ≡ range_with_len (low + length front) (length rest)
range-behind [] rest low count many is =
    let same : count ≡ length rest = omega (arith, many) in
    let from : low ≡ low + 0 = omega arith in
    is ∙ ap (range_with_len low) same ∙ ap (λ n. range_with_len n (length rest)) from
range-behind (number ∷ front) rest low zero many is = absurd (omega (arith, many))
range-behind (number ∷ front) rest low (suc count) many is =
    let later : front ++ rest ≡ range_with_len (low + 1) count = ap (drop 1) is in
    let fewer : count ≡ length front + length rest = omega (arith, many) in
    let from : low + 1 + length front ≡ low + length (number ∷ front) = omega arith in
    range-behind front rest (low + 1) count fewer later ∙ ap (λ n. range_with_len n (length rest)) from

-- ---- the serial list

pub numbers-of : (log : Log) → filter_map number_of (commits_in log) ≡ numbers_of warehouses_of_commit number_of log
numbers-of [] = refl
numbers-of (entry ∷ log) = by (number_of entry.commit) refl (numbers-of log)
  where
    by : (found : Option ℕ) → number_of entry.commit ≡ found
        → filter_map number_of (commits_in log) ≡ numbers_of warehouses_of_commit number_of log
        → filter_map number_of (commits_in (entry ∷ log)) ≡ numbers_of warehouses_of_commit number_of (entry ∷ log)
    by None is same = rw is same
    by (Some number) is same = rw is (ap (λ rows. number ∷ rows) same)

pub numbers-kept : (rows : List Commit) → filter_map number_of (crossings_of rows) ≡ filter_map number_of rows
numbers-kept [] = refl
numbers-kept (commits.Local edition command ∷ rows) = numbers-kept rows
numbers-kept (commits.Cross edition number command ∷ rows) = ap (λ rows. number ∷ rows) (numbers-kept rows)

pub length-crossings : (rows : List Commit) → length (crossings_of rows) ≡ length (filter_map number_of rows)
length-crossings [] = refl
length-crossings (commits.Local edition command ∷ rows) = length-crossings rows
length-crossings (commits.Cross edition number command ∷ rows) = ap suc (length-crossings rows)

pub crossings-behind : (front rest : Log)
    → crossings_in (front ++ rest) ≡ crossings_in front + length (crossings_of (commits_in rest))
crossings-behind front rest =
    ap length (filter_map-append (λ (e : Entry Commit). number_of e.commit) front rest)
    ∙ length-append (numbers_of warehouses_of_commit number_of front) (numbers_of warehouses_of_commit number_of rest)
    ∙ ap (λ n. crossings_in front + n) (sym (length-crossings (commits_in rest) ∙ ap length (numbers-of rest)))

pub projection-behind : (warehouse : ℕ) (front rest : Log)
    → projection_of warehouse (front ++ rest) ≡ projection_of warehouse front ++ projection_of warehouse rest
projection-behind warehouse front rest =
    ap (filter (names warehouses_of_commit warehouse)) (map-append (λ (e : Entry Commit). e.commit) front rest)
    ∙ filter-append (names warehouses_of_commit warehouse) (commits_in front) (commits_in rest)

-- ---- which warehouses a commit names

pub one-of : (count : ℕ) (named : List ℕ) → are_warehouses count named ≡ true → list_any (is_between 1 count) named ≡ true
one-of count [] are = absurd (false≢true are)
one-of count (name ∷ named) are =
    let all = (and_parts (nat_lt 0 (length (name ∷ named))) (list_all (is_between 1 count) (name ∷ named)) are).1 in
    let here = (and_parts (is_between 1 count name) (list_all (is_between 1 count) named) all).0 in
    ap (λ b. b || list_any (is_between 1 count) named) here

-- a commit that names one of so many warehouses names one at a place
pub named-place : (count : ℕ) (named : List ℕ) → list_any (is_between 1 count) named ≡ true
    → (place : ℕ) × (place < count) × (list_any (λ name. name == suc place) named ≡ true)
named-place count [] there = absurd (false≢true there)
named-place count (name ∷ named) there =
    elim (or_cases (is_between 1 count name) (list_any (is_between 1 count) named) there) [
      | inl here ↦ by name (bounds 1 count name here)
      | inr later ↦ let found = named-place count named later in (
        found.0,
        found.1,
        ap (λ b. (name == suc found.0) || b) found.2 ∙ or-true (name == suc found.0),
      )
    ]
  where
    by : (name : ℕ) → (1 ≤ name) × (name ≤ count)
        → (place : ℕ) × (place < count) × (((name == suc place) || list_any (λ name. name == suc place) named) ≡ true)
    by zero ends = absurd (omega (arith, ends.0))
    by (suc place) ends =
        (place, omega (arith, ends.1), ap (λ b. b || list_any (λ name. name == suc place) named) (eq-eqb (suc place) (suc place) refl))

pub all-below : {Row : Type 0} (Holds : ℕ → Row → Type 0) (Wanted : Row → Type 0) (test : Row → Bool) (count : ℕ)
    (rows : List Row)
    → ((row : Row) → test row ≡ true → (place : ℕ) × (place < count) × (Holds place row → Wanted row))
    → list_all test rows ≡ true → ((place : ℕ) → place < count → All (Holds place) rows) → All Wanted rows
all-below Holds Wanted test count [] leads tested all = All-nil Wanted
all-below Holds Wanted test count (row ∷ rows) leads tested all =
    let both = and_parts (test row) (list_all test rows) tested in
    let found = leads row both.0 in
    All-cons Wanted row rows (found.2 (All-head (Holds found.0) row rows (all found.0 found.1)))
    (all-below Holds Wanted test count rows leads both.1
    (λ place within. All-tail (Holds place) row rows (all place within)))
