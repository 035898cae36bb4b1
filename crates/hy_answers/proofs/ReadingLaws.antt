-- Columns that were read one after another.
use Rattle.std.proofs.Common.{◌≡◌, inl, inr, ◌∙◌, ◌+◌, ◌-◌, ◌<◌, ℕ, zero, suc, true, false, if◌then◌else◌, List, [], ◌∷◌, ◌++◌, drop, length, get_or, map, set, take, refl, sym, ap, ap₂, add-one, subst, arith}
use Rattle.std.proofs.lemmas.Bool.{cases_eq}
use Rattle.std.specs.List.{AllByRecursion}
use Rattle.hy_tallies.specs.Numbers.{upto}
use Rattle.hy_answers.proofs.NumberLaws.{length-upto}
use Rattle.std.proofs.lemmas.List.{get_or_append_left, get_or_push, length-drop, length-map, map-append, take_all, take_more}
use Rattle.hy_rows.specs.declared.catalogue.Table.{Table}
use Rattle.hy_rows.specs.declared.value.Value.{Value}
use Rattle.hy_columns.specs.Columns.{column_at, values_of}
use Rattle.hy_columns.specs.declared.values.ColumnValues.{ColumnValues}
use Rattle.hy_query.specs.Language.{is_table}
use Rattle.hy_query.specs.Rows.{Row}
use Rattle.hy_query.specs.declared.column.Column.{Column}
use Rattle.hy_answers.specs.inside.Pieces.{AllRows}
use Rattle.hy_answers.specs.inside.Reading.{AreHere, AreLater, chosen}

later-push : (lists : AllRows) (first : Table) (names : List Column) (later : List ColumnValues) (name : Column)
    (values : ColumnValues) → AreLater lists first names later
    → (is_table first name.table ≡ false → values_of values ≡ column_at name.place (lists name.table))
    → AreLater lists first (names ++ name ∷ []) (later ++ values ∷ [])
later-push lists first [] [] name values are this = (this, tt)
later-push lists first [] (old ∷ later) name values are this = absurd are
later-push lists first (other ∷ names) [] name values are this = absurd are
later-push lists first (other ∷ names) (old ∷ later) name values are this =
    (are.0, later-push lists first names later name values are.1 this)

-- one column more that was read before
pub later-more : (lists : AllRows) (first : Table) (names : List Column) (later now : List ColumnValues) (index : ℕ)
    (d : Column) (values : ColumnValues) → index < length names → now ≡ later ++ values ∷ []
    → AreLater lists first (take index names) later
    → (is_table first (get_or names index d).table ≡ false
    → values_of values ≡ column_at (get_or names index d).place (lists (get_or names index d).table))
    → AreLater lists first (take (index + 1) names) now
later-more lists first names later now index d values within now_is are this =
    subst (AreLater lists first (take (index + 1) names)) (sym now_is)
    (subst (λ list. AreLater lists first list (later ++ values ∷ [])) (sym (take_more names index d within))
    (later-push lists first (take index names) later (get_or names index d) values are this))

pub later-long : (lists : AllRows) (first : Table) (names : List Column) (later : List ColumnValues)
    → AreLater lists first names later → length later ≡ length names
later-long lists first [] [] are = refl
later-long lists first [] (old ∷ later) are = absurd are
later-long lists first (name ∷ names) [] are = absurd are
later-long lists first (name ∷ names) (old ∷ later) are = ap suc (later-long lists first names later are.1)

-- one column more that was read here, into its buffer
here-next : (rows : List Row) (first : Table) (names : List Column) (here : List ColumnValues) (index : ℕ)
    (d : Column) (values : ColumnValues) → index < length names → length here ≡ length names
    → AreHere rows first (take index names) (take index here)
    → (is_table first (get_or names index d).table ≡ true
    → values_of values ≡ column_at (get_or names index d).place rows)
    → AreHere rows first (take (suc index) names) (take (suc index) (set here index values))
here-next rows first [] here index d values within long are this = absurd (omega (arith, within))
here-next rows first (other ∷ names) [] index d values within long are this = absurd (omega (arith, long))
here-next rows first (other ∷ names) (old ∷ here) zero d values within long are this = (this, tt)
here-next rows first (other ∷ names) (old ∷ here) (suc index) d values within long are this =
    (are.0, here-next rows first names here index d values (omega (arith, within)) (omega (arith, long)) are.1 this)

pub here-more : (rows : List Row) (first : Table) (names : List Column) (here : List ColumnValues) (index : ℕ)
    (d : Column) (values : ColumnValues) → index < length names → length here ≡ length names
    → AreHere rows first (take index names) (take index here)
    → (is_table first (get_or names index d).table ≡ true
    → values_of values ≡ column_at (get_or names index d).place rows)
    → AreHere rows first (take (index + 1) names) (take (index + 1) (set here index values))
here-more rows first names here index d values within long are this =
    subst (λ n. AreHere rows first (take n names) (take n (set here index values))) (sym (add-one index))
    (here-next rows first names here index d values within long are this)

-- ---- columns with their values

pub chosen-at : (first : Table) (names : List Column) (later here : List ColumnValues) (index : ℕ) (name : Column)
    (old new : ColumnValues) → index < length names → length later ≡ length names → length here ≡ length names
    → get_or (chosen first names later here) index []
    ≡ (if is_table first (get_or names index name).table then values_of (get_or here index new)
    else values_of (get_or later index old))
chosen-at first [] later here index name old new within later_long here_long = absurd (omega (arith, within))
chosen-at first (n ∷ names) [] here index name old new within later_long here_long = absurd (omega (arith, later_long))
chosen-at first (n ∷ names) (l ∷ later) [] index name old new within later_long here_long = absurd (omega (arith, here_long))
chosen-at first (n ∷ names) (l ∷ later) (h ∷ here) zero name old new within later_long here_long = refl
chosen-at first (n ∷ names) (l ∷ later) (h ∷ here) (suc index) name old new within later_long here_long =
    chosen-at first names later here index name old new (omega (arith, within)) (omega (arith, later_long))
    (omega (arith, here_long))

pub chosen-long : (first : Table) (names : List Column) (later here : List ColumnValues)
    → length later ≡ length names → length here ≡ length names → length (chosen first names later here) ≡ length names
chosen-long first [] later here later_long here_long = refl
chosen-long first (n ∷ names) [] here later_long here_long = absurd (omega (arith, later_long))
chosen-long first (n ∷ names) (l ∷ later) [] later_long here_long = absurd (omega (arith, here_long))
chosen-long first (n ∷ names) (l ∷ later) (h ∷ here) later_long here_long =
    ap suc (chosen-long first names later here (omega (arith, later_long)) (omega (arith, here_long)))

-- one more of some, by what it is
pub mapped-more : {X Y : Type 0} (f : X → Y) (xs now : List X) (x : X) (all : List Y) (index : ℕ) (d : Y)
    → now ≡ xs ++ x ∷ [] → map f xs ≡ take index all → index < length all → f x ≡ get_or all index d
    → map f now ≡ take (index + 1) all
mapped-more f xs now x all index d now_is are within is =
    ap (map f) now_is ∙ map-append f xs (x ∷ []) ∙ ap₂ (λ list y. list ++ y ∷ []) are is ∙ sym (take_more all index d within)

-- what holds of each with its number, with one more
pub each-pushed : {X : Type 0} (P : ℕ → X → Type 0) (xs now : List X) (x : X) → now ≡ xs ++ x ∷ []
    → ((index : ℕ) (d : X) → index < length xs → P index (get_or xs index d)) → P (length xs) x
    → (index : ℕ) (d : X) → index < length xs + 1 → P index (get_or now index d)
each-pushed P xs now x now_is each this index d within = elim (cases_eq index (length xs)) [
  | inl last ↦
      subst (P index) (sym (ap (λ list. get_or list index d) now_is ∙ get_or_push xs x d index (sym last)))
      (subst (λ n. P n x) (sym last) this)
  | inr other ↦
      subst (P index) (sym (ap (λ list. get_or list index d) now_is ∙ get_or_append_left xs (x ∷ []) d index (omega arith)))
      (each index d (omega arith))
]

-- what is left of a list from a place on
pub rest-of : {X : Type 0} (xs : List X) (place : ℕ) → take (length xs - place) (drop place xs) ≡ drop place xs
rest-of xs place = take_all (length xs - place) (drop place xs) (omega (arith, length-drop place xs))

-- lists that are the same by what is made of them
pub mapped-long : {X Y Z : Type 0} (f : X → Z) (g : Y → Z) (xs : List X) (ys : List Y) → map f xs ≡ map g ys
    → length xs ≡ length ys
mapped-long f g xs ys are = sym (length-map xs f) ∙ ap length are ∙ length-map ys g

-- columns with a value for each of so many
pub mapped-each : {X Y : Type 0} (f : X → List Value) (g : Y → ℕ → Value) (count : ℕ) (xs : List X) (ys : List Y)
    → map f xs ≡ map (λ y. map (g y) (upto count)) ys → AllByRecursion (λ x. length (f x) ≡ count) xs
mapped-each f g count [] ys are = tt
mapped-each f g count (x ∷ xs) [] are = absurd (cc are)
mapped-each f g count (x ∷ xs) (y ∷ ys) are =
    let first : f x ≡ map (g y) (upto count) = cc are in
    let later : map f xs ≡ map (λ y. map (g y) (upto count)) ys = cc are in (
      ap length first ∙ length-map (upto count) (g y) ∙ length-upto count,
      mapped-each f g count xs ys later,
    )
