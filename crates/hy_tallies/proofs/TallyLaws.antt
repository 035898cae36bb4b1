-- A tally of lines, with more lines.
use Rattle.std.proofs.Common.{◌≡◌, ◌∙◌, ◌+◌, ℕ, zero, suc, Bool, true, false, List, [], ◌∷◌, ◌++◌, length, get_or, replicate, refl, sym, subst, ap, arith}
use Rattle.std.proofs.lemmas.Bool.{true≢false}
use Rattle.std.proofs.lemmas.List.{length-map}
use Rattle.std.specs.List.{AllByRecursion}
use Rattle.hy_query.specs.Meaning.{firsts}
use Rattle.hy_query.specs.Rows.{Row}
use Rattle.hy_tallies.specs.Lines.{Line, line_at, lines_of, row_at}
use Rattle.hy_tallies.specs.Numbers.{upto}
use Rattle.hy_tallies.specs.Tallies.{IsTally, answered_at, answered_from, groups_in}
use Rattle.hy_tallies.specs.declared.aggregate.Aggregate.{Aggregate}
use Rattle.hy_tallies.specs.declared.groups.Groups.{Groups}
use Rattle.hy_tallies.specs.inside.Groups.{AreGroups, HasCounted, keys_of}
use Rattle.hy_tallies.specs.inside.Keys.{Apart, place_of_key, rows_in, seen}
use Rattle.hy_tallies.specs.inside.Steps.{noted_all, state_of, with_lines}
use Rattle.hy_tallies.proofs.NumberedLaws.{numbered-at, numbered-length, rising-at, rising-length}
use Rattle.hy_tallies.proofs.FoundLaws.{length-rows}
use Rattle.hy_tallies.proofs.GroupLaws.{alone-length, alone-more, groups-lines, groups-more, seen-firsts}
use Rattle.hy_tallies.proofs.GroupLaws.{keys_of as keys_in}
use Rattle.hy_tallies.proofs.KeyLaws.{firsts-apart}
use Rattle.hy_tallies.proofs.ListLaws.{each-append, each-made}
use Rattle.hy_tallies.proofs.StepLaws.{columns-more}

-- the groups of a tally
are-groups : (lines : List Line) (aggregates : List Aggregate) (columns : List Row) (groups : Groups)
    → IsTally lines (state_of false aggregates columns groups) → AreGroups groups
are-groups lines aggregates columns groups is = record {
  long = is.keys.long refl;
  apart = subst Apart (sym (is.keys.rows refl)) (firsts-apart (keys_in lines));
  found = is.found refl;
}

module _ (lines : List Line) (aggregates : List Aggregate) (columns now : List Row) (old new : Groups)
    (numbers : List ℕ) (keys values : List Row) (count : ℕ) where
  abbrev all : List Line
  all = lines ++ lines_of keys values count

  -- the columns, by the numbers of the lines
  columns-are : (alone : Bool) → length numbers ≡ count → length values ≡ length aggregates
      → now ≡ noted_all aggregates columns numbers values (length numbers)
      → columns ≡ answered_from (groups_in alone lines) 0 aggregates
      → groups_in alone all ≡ with_lines (groups_in alone lines) numbers (line_at keys values) count
      → now ≡ answered_from (groups_in alone all) 0 aggregates
  columns-are alone long wide now_is columns_are groups_are =
      now_is
      ∙ (λ i. noted_all aggregates (columns_are i) numbers values (long i))
      ∙ columns-more (groups_in alone lines) numbers keys values (groups-lines alone lines) count aggregates [] values 0
      refl refl wide
      ∙ ap (λ groups. answered_from groups 0 aggregates) (sym groups_are)

  -- lines that are groups of their own
  alone-tally : HasCounted true keys count old new numbers
      → now ≡ noted_all aggregates columns numbers values (length numbers) → length values ≡ length aggregates
      → IsTally lines (state_of true aggregates columns old) → IsTally all (state_of true aggregates now new)
  alone-tally has now_is wide is =
      let counted = has.rising refl in
      let long : length numbers ≡ count = ap length counted.0 ∙ rising-length old.count count in
      let before : old.count ≡ length lines = is.count ∙ length-map lines (λ line. line ∷ []) in
      record {
        count = counted.1 ∙ ap (λ n. n + count) before ∙ sym (alone-length keys values lines count);
        keys = record {
          rows = λ e. absurd (true≢false e);
          long = λ e. absurd (true≢false e);
          wide = λ e. absurd (true≢false e);
        };
        columns = columns-are true long wide now_is is.columns
            (alone-more keys values lines numbers count
            (λ n l. ap (λ list. get_or list n 0) counted.0 ∙ rising-at old.count count n l ∙ ap (λ m. m + n) before));
        found = λ e. absurd (true≢false e);
      }

  -- lines in groups
  grouped-tally : HasCounted false keys count old new numbers
      → now ≡ noted_all aggregates columns numbers values (length numbers) → length values ≡ length aggregates
      → length keys ≡ length old.keys.items → length new.keys.items ≡ length old.keys.items
      → IsTally lines (state_of false aggregates columns old) → IsTally all (state_of false aggregates now new)
  grouped-tally has now_is wide key_wide stays is =
      let groups = are-groups lines aggregates columns old is in
      let numbered_is = has.grouped refl groups in
      let rows : keys_of old ≡ firsts (keys_in lines) = is.keys.rows refl in
      let long : length numbers ≡ count = ap length numbered_is.places ∙ numbered-length (keys_of old) keys count in
      let new_rows : keys_of new ≡ firsts (keys_in all) =
      numbered_is.keys ∙ ap (λ some. seen some keys count) rows ∙ seen-firsts keys values lines count in
      record {
        count =
            sym (length-rows new.keys.items new.count) ∙ ap length new_rows
            ∙ sym (length-map (firsts (keys_in all)) _);
        keys = record {
          rows = λ e. new_rows;
          long = λ e. numbered_is.groups.long;
          wide = λ e. each-append (λ line. length line.key ≡ length new.keys.items) lines (lines_of keys values count)
              (subst (λ n. AllByRecursion (λ line. length line.key ≡ n) lines) (sym stays) (is.keys.wide refl))
              (each-made (λ line. length line.key ≡ length new.keys.items) (line_at keys values) (upto count)
              (λ n. length-map keys _ ∙ key_wide ∙ sym stays));
        };
        columns = columns-are false long wide now_is is.columns
            (groups-more keys values lines numbers count
            (λ n l. ap (λ list. get_or list n 0) numbered_is.places ∙ numbered-at (keys_of old) keys count n l
            ∙ ap (λ some. place_of_key (row_at keys n) (seen some keys n)) rows));
        found = λ e. numbered_is.groups.found;
      }

  pub tally-more : (alone : Bool) → HasCounted alone keys count old new numbers
      → now ≡ noted_all aggregates columns numbers values (length numbers) → length values ≡ length aggregates
      → (alone ≡ false → length keys ≡ length old.keys.items) → length new.keys.items ≡ length old.keys.items
      → IsTally lines (state_of alone aggregates columns old) → IsTally all (state_of alone aggregates now new)
  tally-more true has now_is wide key_wide stays is = alone-tally has now_is wide is
  tally-more false has now_is wide key_wide stays is = grouped-tally has now_is wide (key_wide refl) stays is

-- ---- of no line

nothing-answered : (alone : Bool) (aggregates : List Aggregate) (place : ℕ)
    → replicate (length aggregates) [] ≡ answered_from (groups_in alone []) place aggregates
nothing-answered alone [] place = refl
nothing-answered alone (aggregate ∷ aggregates) place =
    λ i. no-answer alone i ∷ nothing-answered alone aggregates (suc place) i
  where
    no-answer : (alone : Bool) → [] ≡ answered_at (groups_in alone []) aggregate place
    no-answer true = refl
    no-answer false = refl

nothing-long : (count : ℕ) → AllByRecursion (λ values. length values ≡ 0) (replicate {A = Row} count [])
nothing-long zero = tt
nothing-long (suc count) = (refl, nothing-long count)

pub new-tally : (alone : Bool) (aggregates : List Aggregate) (columns : List Row) (groups : Groups) (keys : ℕ)
    → groups.keys.items ≡ replicate keys [] → groups.count ≡ 0 → columns ≡ replicate (length aggregates) []
    → IsTally [] (state_of alone aggregates columns groups)
new-tally alone aggregates columns groups keys keys_are none columns_are = record {
  count = none ∙ no-groups alone;
  keys = record {
    rows = λ e. ap (rows_in groups.keys.items) none;
    long = λ e. subst (λ n. AllByRecursion (λ values. length values ≡ n) groups.keys.items) (sym none)
        (subst (AllByRecursion (λ values. length values ≡ 0)) (sym keys_are) (nothing-long keys));
    wide = λ e. tt;
  };
  columns = columns_are ∙ nothing-answered alone aggregates 0;
  found = λ e group l. absurd (omega arith);
}
  where
    no-groups : (alone : Bool) → 0 ≡ length (groups_in alone [])
    no-groups true = refl
    no-groups false = refl
