-- What a change does to a list: of the one row that passes a test, of each that passes it, and of rows put behind.
use Rattle.std.proofs.Common.{◌≡◌, ◌≢◌, ℕ, suc, ℤ, pos, ◌+ℤ◌, Bool, true, false, cond, ◌||◌, ◌==◌, ◌&&◌, List, [], ◌∷◌, ◌++◌, length, map, filter, Some, refl, sym, ap, subst, ◌∙◌, arith, append_assoc}
use Rattle.std.specs.Prelude.{All, fold, is_some}
use Rattle.std.proofs.lemmas.Bool.{both_ways}
use Rattle.std.specs.List.{find, list_any, flat_map}
use Rattle.std.specs.Option.{option_map}
use Rattle.std.proofs.lemmas.Int.{ints}
use Rattle.std.proofs.lemmas.List.Elements.{All-append, All-nil, All-cons, All-head, All-tail, filter-append}
use Rattle.std.proofs.lemmas.List.Kept.{AllPairs-cons}
use Rattle.std.proofs.lemmas.List.Quantifiers.{all_pairs_push}
use Rattle.hy_rows.specs.Finding.{with_changed}
use Rattle.hy_schema.specs.Conditions.{column_sum}
use Rattle.hy_schema.specs.Keys.{AreUnique}
use Rattle.hy_commands.specs.Sorting.{inserted, sorted}

-- of two rows at different places at most one passes the test
abbrev pub Once : {Row : Type 0} → (Row → Bool) → List Row → Type 0
Once test [] = Unit {0}
Once test (row ∷ rows) = (test row ≡ true → All (λ other. test other ≡ false) rows) × Once test rows

-- what a list of keys that differ says of its first and of the others
pub unique-head : {Key : Type 0} (key : Key) (keys : List Key) → AreUnique (key ∷ keys) → All (λ other. key ≢ other)
    keys
unique-head key keys unique = λ k d below. unique 0 (suc k) d (omega arith) (omega arith)

pub unique-tail : {Key : Type 0} (key : Key) (keys : List Key) → AreUnique (key ∷ keys) → AreUnique keys
unique-tail key keys unique = λ i j d before within. unique (suc i) (suc j) d (omega arith) (omega arith)

-- where keys differ, a test of the key passes once
pub once-unique : {Row Key : Type 0} (key : Row → Key) (test : Row → Bool)
    → ((row other : Row) → test row ≡ true → key row ≢ key other → test other ≡ false)
    → (rows : List Row) → AreUnique (map key rows) → Once test rows
once-unique key test apart [] unique = tt
once-unique {Row = Row} key test apart (row ∷ rows) unique = (
  λ passes. fails passes rows (unique-head (key row) (map key rows) unique),
  once-unique key test apart rows (unique-tail (key row) (map key rows) unique),
)
  where
    fails : test row ≡ true → (others : List Row) → All (λ other. key row ≢ other) (map key others)
        → All (λ other. test other ≡ false) others
    fails passes [] all = All-nil (λ other. test other ≡ false)
    fails passes (other ∷ others) all =
        All-cons (λ other. test other ≡ false) other others
        (apart row other passes (All-head (λ other. key row ≢ other) (key other) (map key others) all))
        (fails passes others (All-tail (λ other. key row ≢ other) (key other) (map key others) all))

-- what holds of each row after the one that passes was changed
pub All-changed_once : {Row : Type 0} (P Q : Row → Type 0) (test : Row → Bool) (change : Row → Row) (rows : List Row)
    → Once test rows
    → ((row : Row) → test row ≡ true → find test rows ≡ Some row → P row → Q (change row))
    → ((row : Row) → test row ≡ false → P row → Q row)
    → All P rows → All Q (with_changed test change rows)
All-changed_once P Q test change [] once chosen other all = All-nil Q
All-changed_once {Row = Row} P Q test change (row ∷ rows) once chosen other all =
    elim (test row) as (λ b. test row ≡ b → All Q (cond b (change row ∷ rows) (row ∷ with_changed test change rows))) [
      | true ↦ λ passes.
          All-cons Q (change row) rows
          (chosen row passes (ap (λ b. cond b (Some row) (find test rows)) passes) (All-head P row rows all))
          (others rows (once.0 passes) (All-tail P row rows all))
      | false ↦ λ fails.
          All-cons Q row (with_changed test change rows) (other row fails (All-head P row rows all))
          (All-changed_once P Q test change rows once.1
          (λ found passes finds. chosen found passes (ap (λ b. cond b (Some row) (find test rows)) fails ∙ finds))
          other (All-tail P row rows all))
    ] refl
  where
    others : (rows : List Row) → All (λ row. test row ≡ false) rows → All P rows → All Q rows
    others [] fails all = All-nil Q
    others (row ∷ rows) fails all =
        All-cons Q row rows
        (other row (All-head (λ row. test row ≡ false) row rows fails) (All-head P row rows all))
        (others rows (All-tail (λ row. test row ≡ false) row rows fails) (All-tail P row rows all))

-- a change that a test doesn't see
pub list_any-with_changed : {Row : Type 0} (sees test : Row → Bool) (change : Row → Row)
    → ((row : Row) → sees (change row) ≡ sees row) → (rows : List Row)
    → list_any sees (with_changed test change rows) ≡ list_any sees rows
list_any-with_changed sees test change same [] = refl
list_any-with_changed sees test change same (row ∷ rows) =
    elim (test row) as (λ b. list_any sees (cond b (change row ∷ rows) (row ∷ with_changed test change rows))
    ≡ (sees row || list_any sees rows)) [
      | true ↦ ap (λ b. b || list_any sees rows) (same row)
      | false ↦ ap (λ b. sees row || b) (list_any-with_changed sees test change same rows)
    ]

-- a column that a change leaves alone, among the rows that pass a test that doesn't see the change
pub map-filter-with_changed : {Row Key : Type 0} (key : Row → Key) (keep test : Row → Bool) (change : Row → Row)
    → ((row : Row) → key (change row) ≡ key row) → ((row : Row) → keep (change row) ≡ keep row) → (rows : List Row)
    → map key (filter keep (with_changed test change rows)) ≡ map key (filter keep rows)
map-filter-with_changed key keep test change same stays [] = refl
map-filter-with_changed {Row = Row} {Key = Key} key keep test change same stays (row ∷ rows) =
    elim (test row) as (λ b. map key (filter keep (cond b (change row ∷ rows) (row ∷ with_changed test change rows)))
    ≡ map key (filter keep (row ∷ rows))) [
      | true ↦
          by_keys (keep (change row)) (change row) rows
          ∙ (rw (stays row, same row) (sym (by_keys (keep row) row rows)))
      | false ↦
          by_keys (keep row) row (with_changed test change rows)
          ∙ ap (λ keys. cond (keep row) (key row ∷ keys) keys) (map-filter-with_changed key keep test change same
          stays rows)
          ∙ sym (by_keys (keep row) row rows)
    ]
  where
    by_keys : (b : Bool) (row : Row) (rows : List Row) → map key (cond b (row ∷ filter keep rows) (filter keep rows))
        ≡ cond b (key row ∷ map key (filter keep rows)) (map key (filter keep rows))
    by_keys true row rows = refl
    by_keys false row rows = refl

-- a sum over a column is one over the list of its values
pub sum-column : {Row : Type 0} (column : Row → ℤ) (start : ℤ) (rows : List Row)
    → fold (λ sum row. sum +ℤ column row) start rows ≡ fold (λ sum value. sum +ℤ value) start (map column rows)
sum-column column start [] = refl
sum-column column start (row ∷ rows) = sum-column column (start +ℤ column row) rows

pub column_sum-by_values : {Row Other : Type 0} (column : Row → ℤ) (other : Other → ℤ) (rows : List Row) (others :
    List Other)
    → map column rows ≡ map other others → column_sum column rows ≡ column_sum other others
column_sum-by_values column other rows others same =
    sum-column column (pos 0) rows ∙ ap (fold (λ sum value. sum +ℤ value) (pos 0)) same
    ∙ sym (sum-column other (pos 0) others)

-- a sum that starts at a number
sum-from : {Row : Type 0} (column : Row → ℤ) (start : ℤ) (rows : List Row)
    → fold (λ sum row. sum +ℤ column row) start rows ≡ start +ℤ column_sum column rows
sum-from column start [] = omega (arith, ints)
sum-from column start (row ∷ rows) =
    omega (arith, ints, sum-from column (start +ℤ column row) rows, sum-from column (pos 0 +ℤ column row) rows)

pub column_sum-cons : {Row : Type 0} (column : Row → ℤ) (row : Row) (rows : List Row)
    → column_sum column (row ∷ rows) ≡ column row +ℤ column_sum column rows
column_sum-cons column row rows = omega (arith, ints, sum-from column (pos 0 +ℤ column row) rows)

pub column_sum-append : {Row : Type 0} (column : Row → ℤ) (rows others : List Row)
    → column_sum column (rows ++ others) ≡ column_sum column rows +ℤ column_sum column others
column_sum-append column [] others = omega (arith, ints)
column_sum-append column (row ∷ rows) others = omega (
  arith,
  ints,
  column_sum-append column rows others,
  column_sum-cons column row (rows ++ others),
  column_sum-cons column row rows,
)

-- a filter that all rows pass, and one that none passes
pub filter-all : {Row : Type 0} (keep : Row → Bool) (rows : List Row) → All (λ row. keep row ≡ true) rows
    → filter keep rows ≡ rows
filter-all keep [] all = refl
filter-all keep (row ∷ rows) all =
    let here = All-head (λ row. keep row ≡ true) row rows all in
    let later = filter-all keep rows (All-tail (λ row. keep row ≡ true) row rows all) in
    rw (here, later) refl

pub filter-none : {Row : Type 0} (keep : Row → Bool) (rows : List Row) → All (λ row. keep row ≡ false) rows
    → filter keep rows ≡ []
filter-none keep [] all = refl
filter-none keep (row ∷ rows) all =
    let here = All-head (λ row. keep row ≡ false) row rows all in
    let later = filter-none keep rows (All-tail (λ row. keep row ≡ false) row rows all) in
    rw (here, later) refl

-- a row that is found passes the test, and what holds of all rows holds of it
pub find-passes : {Row : Type 0} (test : Row → Bool) (rows : List Row) (row : Row) → find test rows ≡ Some row
    → test row ≡ true
find-passes test [] row finds = absurd (cc)
find-passes test (first ∷ rows) row finds =
    elim (test first) as (λ b. test first ≡ b → cond b (Some first) (find test rows) ≡ Some row → test row ≡ true) [
      | true ↦ λ passes finds. grind (arith, passes, finds)
      | false ↦ λ fails finds. find-passes test rows row finds
    ] refl finds

pub All-find : {Row : Type 0} (P : Row → Type 0) (test : Row → Bool) (rows : List Row) (row : Row) → All P rows
    → find test rows ≡ Some row → P row
All-find P test [] row all finds = absurd (cc)
All-find P test (first ∷ rows) row all finds =
    elim (test first) as (λ b. cond b (Some first) (find test rows) ≡ Some row → P row) [
      | true ↦ λ finds. subst P (some finds) (All-head P first rows all)
      | false ↦ λ finds. All-find P test rows row (All-tail P first rows all) finds
    ] finds
  where
    some : Some first ≡ Some row → first ≡ row
    some same = cc

-- a row is found exactly where some row passes
pub find-any : {Row : Type 0} (test : Row → Bool) (rows : List Row) → list_any test rows ≡ true
    → (row : Row) × (find test rows ≡ Some row)
find-any test [] any = absurd (cc)
find-any test (first ∷ rows) any =
    elim (test first) as (λ b. (b || list_any test rows) ≡ true → (row : _) × (cond b (Some first) (find test rows) ≡
    Some row)) [
      | true ↦ λ here. (first, refl)
      | false ↦ λ later. find-any test rows later
    ] any

-- some row passes where one of all is known to
pub any-none : {Row : Type 0} (test : Row → Bool) (rows : List Row) → All (λ row. test row ≡ false) rows
    → list_any test rows ≡ false
any-none test [] all = refl
any-none test (row ∷ rows) all =
    let here = All-head (λ row. test row ≡ false) row rows all in
    let later = any-none test rows (All-tail (λ row. test row ≡ false) row rows all) in
    rw (here, later) refl

-- the rows that pass a test are rows
pub All-of_both : {Row : Type 0} (P Q R : Row → Type 0) (rows : List Row) → ((row : Row) → P row → Q row → R row)
    → All P rows → All Q rows → All R rows
All-of_both P Q R [] follows ps qs = All-nil R
All-of_both P Q R (row ∷ rows) follows ps qs =
    All-cons R row rows (follows row (All-head P row rows ps) (All-head Q row rows qs))
    (All-of_both P Q R rows follows (All-tail P row rows ps) (All-tail Q row rows qs))

-- two tests that agree on the rows of a list
pub filter-agree_on : {Row : Type 0} (keep other : Row → Bool) (rows : List Row) → All (λ row. keep row ≡ other row)
    rows
    → filter keep rows ≡ filter other rows
filter-agree_on keep other [] all = refl
filter-agree_on keep other (row ∷ rows) all =
    let here = All-head (λ row. keep row ≡ other row) row rows all in
    let later = filter-agree_on keep other rows (All-tail (λ row. keep row ≡ other row) row rows all) in
    rw (here, later) refl

pub list_any-agree_on : {Row : Type 0} (test other : Row → Bool) (rows : List Row)
    → All (λ row. test row ≡ other row) rows → list_any test rows ≡ list_any other rows
list_any-agree_on test other [] all = refl
list_any-agree_on test other (row ∷ rows) all =
    let here = All-head (λ row. test row ≡ other row) row rows all in
    let later = list_any-agree_on test other rows (All-tail (λ row. test row ≡ other row) row rows all) in
    rw (here, later) refl

-- a filter by a test that a change of each row doesn't see
pub filter-map : {Row : Type 0} (keep : Row → Bool) (change : Row → Row) → ((row : Row) → keep (change row) ≡ keep row)
    → (rows : List Row) → filter keep (map change rows) ≡ map change (filter keep rows)
filter-map keep change same [] = refl
filter-map keep change same (row ∷ rows) =
    elim (keep row) as (λ b. keep row ≡ b
    → filter keep (change row ∷ map change rows) ≡ map change (cond b (row ∷ filter keep rows) (filter keep rows))) [
      | true ↦ λ passes. rw (same row, passes) (ap (λ rows. change row ∷ rows) (filter-map keep change same rows))
      | false ↦ λ fails. rw (same row, fails) (filter-map keep change same rows)
    ] refl

-- what is found by such a test, and the order of rows where the change of each isn't seen by it
pub find-map : {Row : Type 0} (test : Row → Bool) (change : Row → Row) → ((row : Row) → test (change row) ≡ test row)
    → (rows : List Row) → find test (map change rows) ≡ option_map change (find test rows)
find-map test change same [] = refl
find-map test change same (row ∷ rows) =
    rw (same row) (elim (test row) as (λ b. cond b (Some (change row)) (find test (map change rows))
    ≡ option_map change (cond b (Some row) (find test rows))) [
      | true ↦ refl
      | false ↦ find-map test change same rows
    ])

pub sorted-map : {Row : Type 0} (less : Row → Row → Bool) (change : Row → Row)
    → ((one other : Row) → less (change one) (change other) ≡ less one other) → (rows : List Row)
    → sorted less (map change rows) ≡ map change (sorted less rows)
sorted-map less change same [] = refl
sorted-map {Row = Row} less change same (row ∷ rows) =
    ap (inserted less (change row)) (sorted-map less change same rows) ∙ put (sorted less rows)
  where
    put : (rows : List Row) → inserted less (change row) (map change rows) ≡ map change (inserted less row rows)
    put [] = refl
    put (next ∷ rows) =
        rw (same row next) (elim (less row next) as (λ b. cond b (change row ∷ change next ∷ map change rows)
        (change next ∷ inserted less (change row) (map change rows))
        ≡ map change (cond b (row ∷ next ∷ rows) (next ∷ inserted less row rows))) [
          | true ↦ refl
          | false ↦ ap (λ rows. change next ∷ rows) (put rows)
        ])

pub length-map : {Row Other : Type 0} (change : Row → Other) (rows : List Row) → length (map change rows) ≡ length rows
length-map change [] = refl
length-map change (row ∷ rows) = ap suc (length-map change rows)

pub map-map : {A B C : Type 0} (f : A → B) (g : B → C) (rows : List A) → map g (map f rows) ≡ map (λ row. g (f row))
    rows
map-map f g [] = refl
map-map f g (row ∷ rows) = ap (λ others. g (f row) ∷ others) (map-map f g rows)

pub map-same : {Row Other : Type 0} (f g : Row → Other) → ((row : Row) → f row ≡ g row) → (rows : List Row)
    → map f rows ≡ map g rows
map-same f g same [] = refl
map-same f g same (row ∷ rows) = rw (same row, map-same f g same rows) refl

pub map-same_on : {Row Other : Type 0} (f g : Row → Other) (rows : List Row) → All (λ row. f row ≡ g row) rows
    → map f rows ≡ map g rows
map-same_on f g [] all = refl
map-same_on f g (row ∷ rows) all =
    let here = All-head (λ row. f row ≡ g row) row rows all in
    let later = map-same_on f g rows (All-tail (λ row. f row ≡ g row) row rows all) in
    rw (here, later) refl

pub map-append : {Row Other : Type 0} (f : Row → Other) (rows others : List Row)
    → map f (rows ++ others) ≡ map f rows ++ map f others
map-append f [] others = refl
map-append f (row ∷ rows) others = ap (λ rows. f row ∷ rows) (map-append f rows others)

-- where a key tells rows apart, so does another among the rows that pass a test
pub unique-filter : {Row Key Other : Type 0} (key : Row → Key) (other : Row → Other) (keep : Row → Bool)
    → ((one two : Row) → keep one ≡ true → keep two ≡ true → other one ≡ other two → key one ≡ key two)
    → (rows : List Row) → AreUnique (map key rows) → AreUnique (map other (filter keep rows))
unique-filter key other keep tells [] unique = λ i j d before within. absurd (omega arith)
unique-filter {Row = Row} key other keep tells (row ∷ rows) unique =
    let later = unique-filter key other keep tells rows (unique-tail (key row) (map key rows) unique) in
    elim (keep row) as (λ b. keep row ≡ b
    → AreUnique (map other (cond b (row ∷ filter keep rows) (filter keep rows)))) [
      | true ↦ λ kept.
          AllPairs-cons (λ one two. one ≢ two) (other row) (map other (filter keep rows))
          (apart kept rows (unique-head (key row) (map key rows) unique)) later
      | false ↦ λ left. later
    ] refl
  where
    apart : keep row ≡ true → (others : List Row) → All (λ k. key row ≢ k) (map key others)
        → All (λ k. other row ≢ k) (map other (filter keep others))
    apart kept [] all = All-nil (λ k. other row ≢ k)
    apart kept (next ∷ others) all =
        let differs = All-head (λ k. key row ≢ k) (key next) (map key others) all in
        let later = apart kept others (All-tail (λ k. key row ≢ k) (key next) (map key others) all) in
        elim (keep next) as (λ b. keep next ≡ b
        → All (λ k. other row ≢ k) (map other (cond b (next ∷ filter keep others) (filter keep others)))) [
          | true ↦ λ passes. All-cons (λ k. other row ≢ k) (other next) (map other (filter keep others))
              (λ same. differs (tells row next kept passes same)) later
          | false ↦ λ left. later
        ] refl

-- a key behind keys that differ from it
pub unique-push : {Key : Type 0} (keys : List Key) (key : Key) → AreUnique keys → All (λ other. other ≢ key) keys
    → AreUnique (keys ++ key ∷ [])
unique-push keys key unique apart = all_pairs_push (λ one other. one ≢ other) keys key unique apart

-- what holds of a key of the rows that pass a test
pub All-map_filter : {Row Key : Type 0} (P : Key → Type 0) (key : Row → Key) (keep : Row → Bool) (rows : List Row)
    → All P (map key (filter keep rows)) → All (λ row. keep row ≡ true → P (key row)) rows
All-map_filter P key keep [] all = All-nil (λ row. keep row ≡ true → P (key row))
All-map_filter P key keep (row ∷ rows) all =
    elim (keep row) as (λ b. keep row ≡ b → All P (map key (cond b (row ∷ filter keep rows) (filter keep rows)))
    → All (λ row. keep row ≡ true → P (key row)) (row ∷ rows)) [
      | true ↦ λ passes all.
          All-cons (λ row. keep row ≡ true → P (key row)) row rows
          (λ also. All-head P (key row) (map key (filter keep rows)) all)
          (All-map_filter P key keep rows (All-tail P (key row) (map key (filter keep rows)) all))
      | false ↦ λ fails all.
          All-cons (λ row. keep row ≡ true → P (key row)) row rows (λ passes. absurd (both_ways (keep row) fails
          passes))
          (All-map_filter P key keep rows all)
    ] refl all

-- a key of the rows that pass a test, with a row behind
pub map-filter-push : {Row Key : Type 0} (key : Row → Key) (keep : Row → Bool) (rows : List Row) (row : Row)
    → map key (filter keep (rows ++ row ∷ [])) ≡ map key (filter keep rows) ++ cond (keep row) (key row ∷ []) []
map-filter-push key keep rows row =
    ap (map key) (filter-append keep rows (row ∷ []))
    ∙ elim (keep row) as (λ b. map key (filter keep rows ++ cond b (row ∷ []) [])
    ≡ map key (filter keep rows) ++ cond b (key row ∷ []) []) [
      | true ↦ map-append key (filter keep rows) (row ∷ [])
      | false ↦ map-append key (filter keep rows) []
    ]

-- rows with keys that differ, behind such rows
pub unique-append : {Key : Type 0} (keys others : List Key) → AreUnique keys → AreUnique others
    → All (λ key. All (λ other. key ≢ other) others) keys → AreUnique (keys ++ others)
unique-append [] others unique unique_others apart = unique_others
unique-append (key ∷ keys) others unique unique_others apart =
    AllPairs-cons (λ one two. one ≢ two) key (keys ++ others)
    (All-append (λ other. key ≢ other) keys others (unique-head key keys unique)
    (All-head (λ key. All (λ other. key ≢ other) others) key keys apart))
    (unique-append keys others (unique-tail key keys unique) unique_others
    (All-tail (λ key. All (λ other. key ≢ other) others) key keys apart))

-- lists joined
pub flat_map-append : {Row Part : Type 0} (parts : Row → List Part) (rows others : List Row)
    → flat_map parts (rows ++ others) ≡ flat_map parts rows ++ flat_map parts others
flat_map-append parts [] others = refl
flat_map-append parts (row ∷ rows) others =
    ap (λ later. parts row ++ later) (flat_map-append parts rows others)
    ∙ sym (append_assoc (parts row) (flat_map parts rows) (flat_map parts others))

pub flat_map-same_on : {Row Part : Type 0} (parts other : Row → List Part) (rows : List Row)
    → All (λ row. parts row ≡ other row) rows → flat_map parts rows ≡ flat_map other rows
flat_map-same_on parts other [] all = refl
flat_map-same_on parts other (row ∷ rows) all =
    let here = All-head (λ row. parts row ≡ other row) row rows all in
    let later = flat_map-same_on parts other rows (All-tail (λ row. parts row ≡ other row) row rows all) in
    rw (here, later) refl

-- a row is found where some row passes, and only there
pub found-any : {Row : Type 0} (test : Row → Bool) (rows : List Row) → is_some (find test rows) ≡ list_any test rows
found-any test [] = refl
found-any test (row ∷ rows) =
    elim (test row) as (λ b. is_some (cond b (Some row) (find test rows)) ≡ (b || list_any test rows)) [
      | true ↦ refl
      | false ↦ found-any test rows
    ]

-- a test of the key where a filter tests the rows
pub map-filter-again : {Row Key : Type 0} (key : Row → Key) (keep also : Row → Bool) (test : Key → Bool)
    → ((row : Row) → keep row ≡ true → also row ≡ test (key row)) → (rows : List Row)
    → map key (filter keep (filter also rows)) ≡ filter test (map key (filter keep rows))
map-filter-again key keep also test agrees [] = refl
map-filter-again {Row = Row} key keep also test agrees (row ∷ rows) =
    let later = map-filter-again key keep also test agrees rows in
    elim (keep row) as (λ b. keep row ≡ b
    → map key (filter keep (cond (also row) (row ∷ filter also rows) (filter also rows)))
    ≡ filter test (map key (cond b (row ∷ filter keep rows) (filter keep rows)))) [
      | true ↦ λ kept. elim (also row) as (λ c. also row ≡ c
          → map key (filter keep (cond c (row ∷ filter also rows) (filter also rows)))
          ≡ filter test (key row ∷ map key (filter keep rows))) [
            | true ↦ λ passes.
                let tested : test (key row) ≡ true = sym (agrees row kept) ∙ passes in
                rw (kept, tested) (ap (λ keys. key row ∷ keys) later)
            | false ↦ λ fails.
                let tested : test (key row) ≡ false = sym (agrees row kept) ∙ fails in
                rw tested later
          ] refl
      | false ↦ λ left. elim (also row) as (λ c.
          map key (filter keep (cond c (row ∷ filter also rows) (filter also rows)))
          ≡ filter test (map key (filter keep rows))) [
            | true ↦ rw left later
            | false ↦ later
          ]
    ] refl

-- whether a row passes, among those that a filter leaves
pub any-filter-none : {Row : Type 0} (test keep : Row → Bool) → ((row : Row) → keep row ≡ true → test row ≡ false)
    → (rows : List Row) → list_any test (filter keep rows) ≡ false
any-filter-none test keep fails [] = refl
any-filter-none test keep fails (row ∷ rows) =
    elim (keep row) as (λ b. keep row ≡ b → list_any test (cond b (row ∷ filter keep rows) (filter keep rows)) ≡
    false) [
      | true ↦ λ kept. rw (fails row kept) (any-filter-none test keep fails rows)
      | false ↦ λ left. any-filter-none test keep fails rows
    ] refl

pub any-filter-same : {Row : Type 0} (test keep : Row → Bool) → ((row : Row) → keep row ≡ false → test row ≡ false)
    → (rows : List Row) → list_any test (filter keep rows) ≡ list_any test rows
any-filter-same test keep fails [] = refl
any-filter-same test keep fails (row ∷ rows) =
    elim (keep row) as (λ b. keep row ≡ b
    → list_any test (cond b (row ∷ filter keep rows) (filter keep rows)) ≡ (test row || list_any test rows)) [
      | true ↦ λ kept. ap (λ b. test row || b) (any-filter-same test keep fails rows)
      | false ↦ λ left. rw (fails row left) (any-filter-same test keep fails rows)
    ] refl

-- a sum over the rows that pass, of lists joined
pub column_sum-flat_map : {Row Part : Type 0} (column : Part → ℤ) (keep : Part → Bool) (parts : Row → List Part)
    (rows : List Row)
    → column_sum column (filter keep (flat_map parts rows))
    ≡ column_sum (λ row. column_sum column (filter keep (parts row))) rows
column_sum-flat_map column keep parts [] = refl
column_sum-flat_map column keep parts (row ∷ rows) =
    let joined = ap (column_sum column) (filter-append keep (parts row) (flat_map parts rows))
    ∙ column_sum-append column (filter keep (parts row)) (filter keep (flat_map parts rows)) in
    omega (
      arith,
      ints,
      joined,
      column_sum-flat_map column keep parts rows,
      column_sum-cons (λ row. column_sum column (filter keep (parts row))) row rows,
    )

-- two columns that differ in one row
pub column_sum-once : {Row : Type 0} (column other : Row → ℤ) (test keep : Row → Bool) (amount : ℤ) (rows : List Row)
    → Once test rows → ((row : Row) → test row ≡ false → column row ≡ other row) → (the : Row)
    → find test rows ≡ Some the → column the ≡ other the +ℤ amount
    → column_sum column (filter keep rows) ≡ column_sum other (filter keep rows) +ℤ cond (keep the) amount (pos 0)
column_sum-once column other test keep amount [] once same the finds more = absurd (cc)
column_sum-once {Row = Row} column other test keep amount (row ∷ rows) once same the finds more =
    elim (test row) as (λ b. test row ≡ b → cond b (Some row) (find test rows) ≡ Some the
    → column_sum column (filter keep (row ∷ rows)) ≡ column_sum other (filter keep (row ∷ rows)) +ℤ cond (keep the)
    amount (pos 0)) [
      | true ↦ λ passes this.
          let is : row ≡ the = cc in
          let rest = others rows (once.0 passes) in
          subst (λ r. column r ≡ other r +ℤ amount → column_sum column (filter keep (row ∷ rows))
          ≡ column_sum other (filter keep (row ∷ rows)) +ℤ cond (keep r) amount (pos 0)) is
          (λ more. elim (keep row) as (λ k. column_sum column (cond k (row ∷ filter keep rows) (filter keep rows))
          ≡ column_sum other (cond k (row ∷ filter keep rows) (filter keep rows)) +ℤ cond k amount (pos 0)) [
            | true ↦ omega (
              arith,
              ints,
              more,
              rest,
              column_sum-cons column row (filter keep rows),
              column_sum-cons
                  other row (filter keep rows),
            )
            | false ↦ omega (arith, ints, rest)
          ]) more
      | false ↦ λ fails later.
          let rest = column_sum-once column other test keep amount rows once.1 same the later more in
          let here = same row fails in
          elim (keep row) as (λ k. column_sum column (cond k (row ∷ filter keep rows) (filter keep rows))
          ≡ column_sum other (cond k (row ∷ filter keep rows) (filter keep rows)) +ℤ cond (keep the) amount (pos 0)) [
            | true ↦ omega (
              arith,
              ints,
              here,
              rest,
              column_sum-cons column row (filter keep rows),
              column_sum-cons
                  other row (filter keep rows),
            )
            | false ↦ rest
          ]
    ] refl finds
  where
    others : (rows : List Row) → All (λ row. test row ≡ false) rows
        → column_sum column (filter keep rows) ≡ column_sum other (filter keep rows)
    others [] fails = refl
    others (row ∷ rows) fails =
        let rest = others rows (All-tail (λ row. test row ≡ false) row rows fails) in
        let here = same row (All-head (λ row. test row ≡ false) row rows fails) in
        elim (keep row) as (λ k. column_sum column (cond k (row ∷ filter keep rows) (filter keep rows))
        ≡ column_sum other (cond k (row ∷ filter keep rows) (filter keep rows))) [
          | true ↦ omega (
            arith,
            ints,
            here,
            rest,
            column_sum-cons column row (filter keep rows),
            column_sum-cons
                other row (filter keep rows),
          )
          | false ↦ rest
        ]

-- a key that is there among the rows that pass a test is that of a row
pub in-any : {Row : Type 0} (key : Row → ℕ) (keep : Row → Bool) (number : ℕ) (rows : List Row)
    → list_any (λ n. n == number) (map key (filter keep rows)) ≡ true
    → list_any (λ row. keep row && (key row == number)) rows ≡ true
in-any key keep number [] is = absurd (cc)
in-any key keep number (row ∷ rows) is =
    elim (keep row) as (λ b. list_any (λ n. n == number) (map key (cond b (row ∷ filter keep rows) (filter keep
    rows))) ≡ true
    → ((b && (key row == number)) || list_any (λ row. keep row && (key row == number)) rows) ≡ true) [
      | true ↦ λ is. elim (key row == number) as (λ t. (t || list_any (λ n. n == number) (map key (filter keep rows)))
          ≡ true
          → (t || list_any (λ row. keep row && (key row == number)) rows) ≡ true) [
            | true ↦ λ here. refl
            | false ↦ λ later. in-any key keep number rows later
          ] is
      | false ↦ λ is. in-any key keep number rows is
    ] is
