-- Groups that are found, and a group more.
use Rattle.std.proofs.Common.{◌≡◌, ◌∙◌, ◌+◌, ◌-◌, ◌<◌, ℕ, add-one, false, List, [], ◌∷◌, ◌++◌, length, get_or, map, set, refl, sym, subst, ap, ap₂, arith, inl, inr}
use Rattle.std.proofs.lemmas.Bool.{cases_eq}
use Rattle.std.proofs.lemmas.List.{get_or-set_other, get_or-set_same, get_or_append_left, get_or_push, length-map, length-set, length_push, map-append}
use Rattle.std.specs.List.{AllByRecursion}
use Rattle.hy_buckets.specs.Buckets.{bucket_of, place_of}
use Rattle.hy_query.specs.Meaning.{are_equal}
use Rattle.hy_query.specs.Rows.{Row}
use Rattle.hy_tallies.specs.Lines.{row_at}
use Rattle.hy_tallies.specs.Numbers.{upto}
use Rattle.hy_tallies.specs.declared.groups.Groups.{Groups}
use Rattle.hy_tallies.specs.inside.Groups.{AreGroups, IsNumbered, keys_of}
use Rattle.hy_tallies.specs.inside.Keys.{Apart, AreFound, IsIn, code_from, rows_in, with_row}
use Rattle.hy_tallies.proofs.KeyLaws.{not-seen, other-row, seen-at}
use Rattle.hy_tallies.proofs.ListLaws.{each-append, each-upto, length-upto, map-at, map-upto}

pub length-rows : (keys : List Row) (count : ℕ) → length (rows_in keys count) ≡ count
length-rows keys count = length-map (upto count) (row_at keys) ∙ length-upto count

-- ---- a key that is there

pub numbered-known : (groups : Groups) (key : Row) (number : ℕ) → number < groups.count
    → row_at groups.keys.items number ≡ key → AreGroups groups → IsNumbered key groups groups number
numbered-known groups key number within is are =
    let rows = keys_of groups in
    let at : get_or rows number [] ≡ key = map-at (row_at groups.keys.items) groups.count number [] within ∙ is in
    let seen = seen-at key rows number [] are.apart (omega (arith, length-rows groups.keys.items groups.count)) at in
    record {
      place = sym seen.0;
      keys = sym seen.1;
      groups = are;
    }

-- ---- columns with a row more

with-row_long : (count : ℕ) (keys : List Row) (row : Row) → AllByRecursion (λ values. length values ≡ count) keys
    → length row ≡ length keys → AllByRecursion (λ values. length values ≡ count + 1) (with_row keys row)
with-row_long count [] row long same = tt
with-row_long count (values ∷ keys) [] long same = absurd (omega arith)
with-row_long count (values ∷ keys) (value ∷ row) long same =
    (omega (arith, length_push values value, long.0), with-row_long count keys row long.1 (omega arith))

with-row_old : (count : ℕ) (keys : List Row) (row : Row) (k : ℕ) → AllByRecursion (λ values. length values ≡ count) keys
    → length row ≡ length keys → k < count → row_at (with_row keys row) k ≡ row_at keys k
with-row_old count [] row k long same within = refl
with-row_old count (values ∷ keys) [] k long same within = absurd (omega arith)
with-row_old count (values ∷ keys) (value ∷ row) k long same within =
    ap₂ (λ first later. first ∷ later)
    (get_or_append_left values (value ∷ []) _ k (omega (arith, long.0)))
    (with-row_old count keys row k long.1 (omega arith) within)

with-row_new : (count : ℕ) (keys : List Row) (row : Row) → AllByRecursion (λ values. length values ≡ count) keys
    → length row ≡ length keys → row_at (with_row keys row) count ≡ row
with-row_new count [] [] long same = refl
with-row_new count [] (value ∷ row) long same = absurd (omega arith)
with-row_new count (values ∷ keys) [] long same = absurd (omega arith)
with-row_new count (values ∷ keys) (value ∷ row) long same =
    ap₂ (λ first later. first ∷ later) (get_or_push values value _ count long.0)
    (with-row_new count keys row long.1 (omega arith))

-- ---- a group more in its bucket

module _ (buckets new : List (List ℕ)) (row code : ℕ) (within : place_of (length buckets) code < length buckets)
    (new_is : new ≡ set buckets (place_of (length buckets) code) (row ∷ bucket_of buckets code)) where
  abbrev here : ℕ
  here = place_of (length buckets) code

  sized : length new ≡ length buckets
  sized = ap length new_is ∙ length-set buckets here _

  bucket-is : (other : ℕ)
      → bucket_of new other ≡ get_or (set buckets here (row ∷ bucket_of buckets code)) (place_of (length buckets) other) []
  bucket-is other = λ i. get_or (new_is i) (place_of (sized i) other) []

  put-has : IsIn row (bucket_of new code)
  put-has =
      subst (IsIn row) (sym (bucket-is code ∙ get_or-set_same buckets here (row ∷ bucket_of buckets code) [] within))
      (inl refl)

  put-keeps : (number other : ℕ) → IsIn number (bucket_of buckets other) → IsIn number (bucket_of new other)
  put-keeps number other is = elim (cases_eq here (place_of (length buckets) other)) [
    | inl same ↦
        subst (IsIn number) (sym (bucket-is other
        ∙ ap (λ n. get_or (set buckets here (row ∷ bucket_of buckets code)) n []) (sym same)
        ∙ get_or-set_same buckets here (row ∷ bucket_of buckets code) [] within))
        (inr (subst (λ n. IsIn number (get_or buckets n [])) (sym same) is))
    | inr apart ↦
        subst (IsIn number) (sym (bucket-is other
        ∙ get_or-set_other buckets here (place_of (length buckets) other) (row ∷ bucket_of buckets code) []
        (λ e. apart (sym e)))) is
  ]

-- ---- a group more

apart-push : (xs : List Row) (row : Row) → Apart xs → AllByRecursion (λ other. are_equal other row ≡ false) xs
    → Apart (xs ++ row ∷ [])
apart-push [] row apart none = (tt, tt)
apart-push (x ∷ xs) row apart none = (
  each-append (λ other. are_equal x other ≡ false) xs (row ∷ []) apart.0 (none.0, tt),
  apart-push xs row apart.1 none.1,
)

pub pushed-group : (old new : Groups) (row : Row) (code count : ℕ) (buckets : List (List ℕ))
    → new.keys.items ≡ with_row old.keys.items row → count ≡ old.count → new.count ≡ count + 1
    → length row ≡ length old.keys.items → AreFound buckets new.room old.keys.items old.count
    → place_of (length buckets) code < length buckets
    → new.buckets.buckets ≡ set buckets (place_of (length buckets) code) ((new.room - 1 - count) ∷ bucket_of buckets code)
    → code ≡ code_from 0 row
    → ((group : ℕ) → group < old.count → row_at old.keys.items group ≡ row → ⊥)
    → AreGroups old → IsNumbered row old new count
pushed-group old new row code count buckets keys_are count_is new_count wide found within put code_is none are =
    let rows = keys_of old in
    let apart : AllByRecursion (λ other. are_equal other row ≡ false) rows =
    each-upto (λ other. are_equal other row ≡ false) (row_at old.keys.items) old.count
    (λ k l. other-row (row_at old.keys.items k) row (none k l)) in
    let unseen = not-seen row rows apart in
    let keys_new : rows_in new.keys.items new.count ≡ rows ++ row ∷ [] = all_rows in
    record {
      place = count_is ∙ sym (length-rows old.keys.items old.count) ∙ sym unseen.0;
      keys = keys_new ∙ sym unseen.1;
      groups = record {
        long =
            subst (λ n. AllByRecursion (λ values. length values ≡ n) new.keys.items)
            (ap (λ n. n + 1) (sym count_is) ∙ sym new_count)
            (subst (AllByRecursion (λ values. length values ≡ old.count + 1)) (sym keys_are)
            (with-row_long old.count old.keys.items row are.long wide));
        apart = subst Apart (sym keys_new) (apart-push rows row are.apart apart);
        found = λ group l. elim (cases_eq group count) [
          | inl is ↦
              subst (λ n. IsIn (new.room - 1 - n) (bucket_of new.buckets.buckets (code_from 0 (row_at new.keys.items n)))) (sym is)
              (subst (λ key. IsIn (new.room - 1 - count) (bucket_of new.buckets.buckets key))
              (code_is ∙ ap (code_from 0) (sym last))
              (put-has buckets new.buckets.buckets (new.room - 1 - count) code within put))
          | inr other ↦
              let before : group < old.count = omega arith in
              subst (λ key. IsIn (new.room - 1 - group) (bucket_of new.buckets.buckets (code_from 0 key)))
              (sym (ap (λ keys. row_at keys group) keys_are
              ∙ with-row_old old.count old.keys.items row group are.long wide before))
              (put-keeps buckets new.buckets.buckets (new.room - 1 - count) code within put
              (new.room - 1 - group) (code_from 0 (row_at old.keys.items group)) (found group before))
        ];
      };
    }
  where
    last : row_at new.keys.items count ≡ row
    last =
        (λ i. row_at (keys_are i) (count_is i)) ∙ with-row_new old.count old.keys.items row are.long wide

    all_rows : rows_in new.keys.items new.count ≡ rows_in old.keys.items old.count ++ row ∷ []
    all_rows =
        ap (rows_in new.keys.items) (new_count ∙ add-one count)
        ∙ map-append (row_at new.keys.items) (upto count) (count ∷ [])
        ∙ (λ i. map (row_at new.keys.items) (upto count) ++ last i ∷ [])
        ∙ ap (λ list. list ++ row ∷ [])
        ((λ i. map (row_at (keys_are i)) (upto (count_is i)))
        ∙ map-upto (row_at (with_row old.keys.items row)) (row_at old.keys.items) old.count
        (λ k l. with-row_old old.count old.keys.items row k are.long wide l))
