-- A tally of lines that stand for the groups of others is that of those lines.
use Rattle.std.proofs.Common.{◌≡◌, ◌∙◌, ◌+◌, ◌<◌, ◌⊎◌, ℕ, zero, suc, pos, add-one, Bool, true, false, cond, not, List, [], ◌∷◌, ◌++◌, append_assoc, filter, length, get_or, map, refl, sym, subst, ap, ap₂, arith, inl, inr}
use Rattle.std.proofs.lemmas.Bool.{true≢false}
use Rattle.std.proofs.lemmas.List.{get_or-map, length-append, length-map, length_push, map-append}
use Rattle.std.specs.List.{AllByRecursion}
use Rattle.hy_query.specs.Meaning.{are_equal, firsts}
use Rattle.hy_query.specs.Rows.{Row}
use Rattle.hy_rows.specs.Rows.{value_at}
use Rattle.hy_rows.specs.declared.value.Value.{Value}
use Rattle.hy_rows.specs.declared.value.Value.TheVariants.{Whole}
use Rattle.hy_tallies.specs.Lines.{Line, line_at, lines_of, row_at}
use Rattle.hy_tallies.specs.Numbers.{upto}
use Rattle.hy_tallies.specs.Tallies.{IsTally, TalliesState, aggregated, answered_at, answered_from, groups_in}
use Rattle.hy_tallies.specs.declared.aggregate.Aggregate.{Aggregate}
use Rattle.hy_tallies.specs.inside.Keys.{Apart, rows_in}
use Rattle.hy_tallies.proofs.FoundLaws.{length-rows}
use Rattle.hy_tallies.proofs.GroupLaws.{HasLine, keys-lines, keys_of, members, no-members}
use Rattle.hy_tallies.proofs.KeyLaws.{covered, equal-symm, firsts-apart, same-row}
use Rattle.hy_tallies.proofs.ListLaws.{at_seam, each-append, each-parts, each-weaker, filter-append, length-upto, map-at, map-map}
use Rattle.hy_tallies.proofs.MergeLaws.{merged}

-- ---- the first ones of the first ones

differing-all : (row : Row) (xs : List Row) → AllByRecursion (λ other. are_equal row other ≡ false) xs
    → filter (λ other. not (are_equal row other)) xs ≡ xs
differing-all row [] each = refl
differing-all row (x ∷ xs) each =
    ap (λ b. cond (not b) (x ∷ filter (λ other. not (are_equal row other)) xs) (filter (λ other. not (are_equal row other)) xs)) each.0
    ∙ ap (λ list. x ∷ list) (differing-all row xs each.1)

firsts-same : (xs : List Row) → Apart xs → firsts xs ≡ xs
firsts-same [] apart = refl
firsts-same (x ∷ xs) apart =
    ap (λ list. x ∷ filter (λ other. not (are_equal x other)) list) (firsts-same xs apart.1)
    ∙ ap (λ list. x ∷ list) (differing-all x xs apart.0)

firsts-firsts : (xs ys : List Row) → firsts (xs ++ firsts ys) ≡ firsts (xs ++ ys)
firsts-firsts [] ys = firsts-same (firsts ys) (firsts-apart ys)
firsts-firsts (x ∷ xs) ys = ap (λ list. x ∷ filter (λ other. not (are_equal x other)) list) (firsts-firsts xs ys)

-- ---- what is read of answers

length-answered : (groups : List (List Line)) (aggregates : List Aggregate) (place : ℕ)
    → length (answered_from groups place aggregates) ≡ length aggregates
length-answered groups [] place = refl
length-answered groups (aggregate ∷ aggregates) place = ap suc (length-answered groups aggregates (suc place))

pub tally-wide : (lines : List Line) (tallies : TalliesState) → IsTally lines tallies
    → length tallies.columns ≡ length tallies.aggregates
tally-wide lines tallies is =
    ap length is.columns ∙ length-answered (groups_in tallies.alone lines) tallies.aggregates 0

-- the value at a place of a row, by the column there
read-at : (all front : List Row) (values : Row) (columns : List Row) (place n : ℕ)
    → all ≡ front ++ values ∷ columns → place ≡ length front → value_at (row_at all n) place ≡ value_at values n
read-at all front values columns place n all_is place_is =
    (λ i. get_or (map (λ column. value_at column n) (all_is i)) (place_is i) (Whole (pos 0)))
    ∙ (λ i. get_or (map-append (λ column. value_at column n) front (values ∷ columns) i)
    (sym (length-map front (λ column. value_at column n)) i) (Whole (pos 0)))
    ∙ at_seam (map (λ column. value_at column n) front) (value_at values n)
    (map (λ column. value_at column n) columns) (Whole (pos 0))

-- ---- lines that stand for groups, at one place

module _ (aggregate : Aggregate) (place : ℕ) where
  abbrev picked : Line → Value
  picked line = value_at line.values place

  abbrev answer : List Line → Value
  answer group = aggregated aggregate (map (λ line. value_at line.values place) group)

  -- ---- each for itself

  alone-same : (xs ys : List Line) → length xs ≡ length ys
      → ((n : ℕ) (d e : Line) → n < length ys → picked (get_or xs n d) ≡ answer (get_or ys n e ∷ []))
      → map (λ line. answer (line ∷ [])) xs ≡ map (λ line. answer (line ∷ [])) ys
  alone-same [] [] long are = refl
  alone-same [] (y ∷ ys) long are = absurd (omega arith)
  alone-same (x ∷ xs) [] long are = absurd (omega arith)
  alone-same (x ∷ xs) (y ∷ ys) long are =
      ap₂ (λ first later. first ∷ later)
      (ap (λ value. aggregated aggregate (value ∷ [])) (are zero x x (omega arith))
      ∙ merged aggregate [] (picked y) [])
      (alone-same xs ys (omega arith) (λ n d e l. are (suc n) d e (omega arith)))

  -- ---- by their keys

  -- of the lines with a key none is there, or one that stands for some others
  abbrev Stands : List Line → List Line → Type 0
  Stands mine others =
      ((mine ≡ []) × (others ≡ []))
      ⊎ ((line : Line) × (mine ≡ line ∷ []) × (picked line ≡ answer others) × HasLine others)

  module _ (more : List Line) (key : Row) where
    -- keys that differ from it
    none-stand : (xs : List Line) (keys : List Row) → length xs ≡ length keys
        → ((n : ℕ) (d : Line) (e : Row) → n < length keys → (get_or xs n d).key ≡ get_or keys n e)
        → AllByRecursion (λ row. are_equal key row ≡ false) keys → members xs key ≡ []
    none-stand [] keys long are none = refl
    none-stand (x ∷ xs) [] long are none = absurd (omega arith)
    none-stand (x ∷ xs) (row ∷ keys) long are none =
        ap (λ b. cond b (x ∷ members xs key) (members xs key))
        (ap (are_equal key) (are zero x row (omega arith)) ∙ none.0)
        ∙ none-stand xs keys (omega arith) (λ n d e l. are (suc n) d e (omega arith)) none.1

    stands : (xs : List Line) (keys : List Row) → length xs ≡ length keys
        → ((n : ℕ) (d : Line) (e : Row) → n < length keys → (get_or xs n d).key ≡ get_or keys n e)
        → ((n : ℕ) (d : Line) (e : Row) → n < length keys → picked (get_or xs n d) ≡ answer (members more (get_or keys n e)))
        → Apart keys → AllByRecursion (λ row. HasLine (members more row)) keys
        → (AllByRecursion (λ row. are_equal key row ≡ false) keys → members more key ≡ [])
        → Stands (members xs key) (members more key)
    stands [] [] long are picks apart has none = inl (refl, none tt)
    stands [] (row ∷ keys) long are picks apart has none = absurd (omega arith)
    stands (x ∷ xs) [] long are picks apart has none = absurd (omega arith)
    stands (x ∷ xs) (row ∷ keys) long are picks apart has none =
        by (are_equal key row) refl
        (λ away. stands xs keys (omega arith) (λ n d e l. are (suc n) d e (omega arith))
        (λ n d e l. picks (suc n) d e (omega arith)) apart.1 has.1 (λ rest. none (away, rest)))
      where
        here : x.key ≡ row
        here = are zero x row (omega arith)

        with : (b : Bool) → are_equal key row ≡ b
            → members (x ∷ xs) key ≡ cond b (x ∷ members xs key) (members xs key)
        with b is = ap (λ c. cond c (x ∷ members xs key) (members xs key)) (ap (are_equal key) here ∙ is)

        by : (b : Bool) → are_equal key row ≡ b
            → (are_equal key row ≡ false → Stands (members xs key) (members more key))
            → Stands (members (x ∷ xs) key) (members more key)
        by true is later =
            let same : row ≡ key = sym (same-row key row is) in
            let rest : members xs key ≡ [] =
            none-stand xs keys (omega arith) (λ n d e l. are (suc n) d e (omega arith))
            (subst (λ one. AllByRecursion (λ other. are_equal one other ≡ false) keys) same apart.0) in
            inr (
              x,
              with true is ∙ ap (λ list. x ∷ list) rest,
              picks zero x row (omega arith) ∙ ap (λ one. answer (members more one)) same,
              subst (λ one. HasLine (members more one)) same has.0,
            )
        by false is later = subst (λ mine. Stands mine (members more key)) (sym (with false is)) (later is)

  -- what is answered of lines and of those is the same
  stood : (lines mine others : List Line) → Stands mine others → answer (lines ++ mine) ≡ answer (lines ++ others)
  stood lines mine others (inl both) = ap (λ some. answer (lines ++ some)) (both.0 ∙ sym both.1)
  stood lines mine [] (inr one) = absurd one.3
  stood lines mine (first ∷ others) (inr one) =
      ap (λ some. answer (lines ++ some)) one.1
      ∙ ap (aggregated aggregate) (map-append picked lines (one.0 ∷ []))
      ∙ ap (λ value. aggregated aggregate (map picked lines ++ value ∷ [])) one.2
      ∙ merged aggregate (map picked lines) (picked first) (map picked others)
      ∙ ap (aggregated aggregate) (sym (map-append picked lines (first ∷ others)))

-- ---- all columns

module _ (lines more : List Line) (keys columns : List Row) (count : ℕ) where
  -- the lines that stand for the groups of others
  abbrev those : List Line
  those = lines_of keys columns count

  length-those : length those ≡ count
  length-those = length-map (upto count) (line_at keys columns) ∙ length-upto count

  those-at : (n : ℕ) (d : Line) → n < count → get_or those n d ≡ line_at keys columns n
  those-at n d l = map-at (line_at keys columns) count n d l

  -- what they have at a place, by what is answered of the groups
  those-picked : {K : Type 0} (group_of : K → List Line) (ks : List K) (aggregate : Aggregate) (place : ℕ)
      (front rest : List Row) → count ≡ length ks
      → columns ≡ front ++ answered_at (map group_of ks) aggregate place ∷ rest → place ≡ length front
      → (n : ℕ) (d : Line) (e : K) → n < length ks
      → picked aggregate place (get_or those n d) ≡ answer aggregate place (group_of (get_or ks n e))
  those-picked group_of ks aggregate place front rest sized columns_are place_is n d e l =
      ap (picked aggregate place) (those-at n d (omega arith))
      ∙ read-at columns front (answered_at (map group_of ks) aggregate place) rest place n columns_are place_is
      ∙ get_or-map (answer aggregate place) (map group_of ks) n (group_of e) (Whole (pos 0))
      (omega (arith, length-map ks group_of))
      ∙ ap (answer aggregate place) (get_or-map group_of ks n e (group_of e) l)

  columns-same : (alone : Bool)
      → ((aggregate : Aggregate) (place : ℕ) (front rest : List Row)
      → columns ≡ front ++ answered_at (groups_in alone more) aggregate place ∷ rest → place ≡ length front
      → answered_at (groups_in alone (lines ++ those)) aggregate place
      ≡ answered_at (groups_in alone (lines ++ more)) aggregate place)
      → (aggregates : List Aggregate) (front : List Row) (place : ℕ)
      → columns ≡ front ++ answered_from (groups_in alone more) place aggregates → place ≡ length front
      → answered_from (groups_in alone (lines ++ those)) place aggregates
      ≡ answered_from (groups_in alone (lines ++ more)) place aggregates
  columns-same alone each [] front place columns_are place_is = refl
  columns-same alone each (aggregate ∷ aggregates) front place columns_are place_is =
      let column = answered_at (groups_in alone more) aggregate place in
      let later = answered_from (groups_in alone more) (suc place) aggregates in
      ap₂ (λ first others. first ∷ others)
      (each aggregate place front later columns_are place_is)
      (columns-same alone each aggregates (front ++ column ∷ []) (suc place)
      (columns_are ∙ sym (append_assoc front (column ∷ []) later))
      (ap suc place_is ∙ sym (length_push front column ∙ add-one (length front))))

  -- ---- lines that are groups of their own

  alone-at : count ≡ length more → (aggregate : Aggregate) (place : ℕ) (front rest : List Row)
      → columns ≡ front ++ answered_at (groups_in true more) aggregate place ∷ rest → place ≡ length front
      → answered_at (groups_in true (lines ++ those)) aggregate place
      ≡ answered_at (groups_in true (lines ++ more)) aggregate place
  alone-at sized aggregate place front rest columns_are place_is =
      let one : Line → Value = λ line. answer aggregate place (line ∷ []) in
      map-map (answer aggregate place) (λ line. line ∷ []) (lines ++ those)
      ∙ map-append one lines those
      ∙ ap (λ list. map one lines ++ list)
      (alone-same aggregate place those more (length-those ∙ sized)
      (those-picked (λ line. line ∷ []) more aggregate place front rest sized columns_are place_is))
      ∙ sym (map-append one lines more)
      ∙ sym (map-map (answer aggregate place) (λ line. line ∷ []) (lines ++ more))

  alone-length : count ≡ length more
      → length (groups_in true (lines ++ those)) ≡ length (groups_in true (lines ++ more))
  alone-length sized =
      length-map (lines ++ those) (λ line. line ∷ []) ∙ length-append lines those
      ∙ ap (λ n. length lines + n) (length-those ∙ sized)
      ∙ sym (length-append lines more) ∙ sym (length-map (lines ++ more) (λ line. line ∷ []))

  -- ---- lines in groups

  module _ (rows : rows_in keys count ≡ firsts (keys_of more)) where
    abbrev firsts_of : List Row
    firsts_of = firsts (keys_of more)

    sized-rows : count ≡ length firsts_of
    sized-rows = sym (length-rows keys count) ∙ ap length rows

    firsts-those : firsts (keys_of (lines ++ those)) ≡ firsts (keys_of (lines ++ more))
    firsts-those =
        ap firsts (map-append (λ line. line.key) lines those)
        ∙ ap (λ some. firsts (keys_of lines ++ some)) (map-map (λ line. line.key) (line_at keys columns) (upto count) ∙ rows)
        ∙ firsts-firsts (keys_of lines) (keys_of more)
        ∙ ap firsts (sym (map-append (λ line. line.key) lines more))

    key-at : (n : ℕ) (d : Line) (e : Row) → n < length firsts_of → (get_or those n d).key ≡ get_or firsts_of n e
    key-at n d e l =
        ap (λ line. line.key) (those-at n d (omega (arith, sized-rows)))
        ∙ sym (map-at (row_at keys) count n e (omega (arith, sized-rows)))
        ∙ ap (λ some. get_or some n e) rows

    group-same : (aggregate : Aggregate) (place : ℕ) (front rest : List Row)
        → columns ≡ front ++ answered_at (groups_in false more) aggregate place ∷ rest → place ≡ length front
        → (key : Row)
        → answer aggregate place (members (lines ++ those) key) ≡ answer aggregate place (members (lines ++ more) key)
    group-same aggregate place front rest columns_are place_is key =
        ap (answer aggregate place) (filter-append (λ line. are_equal key line.key) lines those)
        ∙ stood aggregate place (members lines key) (members those key) (members more key)
        (stands aggregate place more key those firsts_of (length-those ∙ sized-rows) key-at
        (those-picked (members more) firsts_of aggregate place front rest sized-rows columns_are place_is)
        (firsts-apart (keys_of more)) (keys-lines more)
        (λ none. no-members more key (covered key (keys_of more)
        (each-weaker (λ row. are_equal key row ≡ false) (λ row. are_equal row key ≡ false) firsts_of
        (λ row apart. equal-symm row key ∙ apart) none))))
        ∙ ap (answer aggregate place) (sym (filter-append (λ line. are_equal key line.key) lines more))

    grouped-at : (aggregate : Aggregate) (place : ℕ) (front rest : List Row)
        → columns ≡ front ++ answered_at (groups_in false more) aggregate place ∷ rest → place ≡ length front
        → answered_at (groups_in false (lines ++ those)) aggregate place
        ≡ answered_at (groups_in false (lines ++ more)) aggregate place
    grouped-at aggregate place front rest columns_are place_is =
        map-map (answer aggregate place) (members (lines ++ those)) (firsts (keys_of (lines ++ those)))
        ∙ (λ i. map (λ key. group-same aggregate place front rest columns_are place_is key i) (firsts-those i))
        ∙ sym (map-map (answer aggregate place) (members (lines ++ more)) (firsts (keys_of (lines ++ more))))

    grouped-length : length (groups_in false (lines ++ those)) ≡ length (groups_in false (lines ++ more))
    grouped-length =
        length-map (firsts (keys_of (lines ++ those))) (members (lines ++ those)) ∙ ap length firsts-those
        ∙ sym (length-map (firsts (keys_of (lines ++ more))) (members (lines ++ more)))

-- ---- the tally

module _ (lines more : List Line) (keys columns : List Row) (count : ℕ) (other new : TalliesState) where
  appended : (alone : Bool) → keys ≡ other.keys → columns ≡ other.columns → count ≡ other.count
      → new.alone ≡ alone → other.alone ≡ alone → new.aggregates ≡ other.aggregates
      → length new.keys ≡ length other.keys
      → IsTally more other → IsTally (lines ++ lines_of keys columns count) new → IsTally (lines ++ more) new
  appended true keys_are columns_are count_is alone other_alone same wide is made =
      let sized : count ≡ length more =
      count_is ∙ is.count ∙ ap (λ b. length (groups_in b more)) other_alone ∙ length-map more (λ line. line ∷ []) in
      let columns_is : columns ≡ answered_from (groups_in true more) 0 new.aggregates =
      columns_are ∙ is.columns ∙ (λ i. answered_from (groups_in (other_alone i) more) 0 (sym same i)) in
      record {
        count =
            made.count ∙ ap (λ b. length (groups_in b (lines ++ lines_of keys columns count))) alone
            ∙ alone-length lines more keys columns count sized
            ∙ ap (λ b. length (groups_in b (lines ++ more))) (sym alone);
        keys = record {
          rows = λ e. absurd (true≢false (sym alone ∙ e));
          long = λ e. absurd (true≢false (sym alone ∙ e));
          wide = λ e. absurd (true≢false (sym alone ∙ e));
        };
        columns =
            made.columns ∙ ap (λ b. answered_from (groups_in b (lines ++ lines_of keys columns count)) 0 new.aggregates) alone
            ∙ columns-same lines more keys columns count true (alone-at lines more keys columns count sized)
            new.aggregates [] 0 columns_is refl
            ∙ ap (λ b. answered_from (groups_in b (lines ++ more)) 0 new.aggregates) (sym alone);
        found = λ e. absurd (true≢false (sym alone ∙ e));
      }
  appended false keys_are columns_are count_is alone other_alone same wide is made =
      let rows : rows_in keys count ≡ firsts (keys_of more) =
      (λ i. rows_in (keys_are i) (count_is i)) ∙ is.keys.rows other_alone in
      let columns_is : columns ≡ answered_from (groups_in false more) 0 new.aggregates =
      columns_are ∙ is.columns ∙ (λ i. answered_from (groups_in (other_alone i) more) 0 (sym same i)) in
      record {
        count =
            made.count ∙ ap (λ b. length (groups_in b (lines ++ lines_of keys columns count))) alone
            ∙ grouped-length lines more keys columns count rows
            ∙ ap (λ b. length (groups_in b (lines ++ more))) (sym alone);
        keys = record {
          rows = λ e. made.keys.rows e ∙ firsts-those lines more keys columns count rows;
          long = made.keys.long;
          wide = λ e. each-append (λ line. length line.key ≡ length new.keys) lines more
              (each-parts (λ line. length line.key ≡ length new.keys) lines (lines_of keys columns count) (made.keys.wide e)).0
              (subst (λ n. AllByRecursion (λ line. length line.key ≡ n) more) (sym wide) (is.keys.wide other_alone));
        };
        columns =
            made.columns ∙ ap (λ b. answered_from (groups_in b (lines ++ lines_of keys columns count)) 0 new.aggregates) alone
            ∙ columns-same lines more keys columns count false (grouped-at lines more keys columns count rows)
            new.aggregates [] 0 columns_is refl
            ∙ ap (λ b. answered_from (groups_in b (lines ++ more)) 0 new.aggregates) (sym alone);
        found = made.found;
      }

  pub append-tally : keys ≡ other.keys → columns ≡ other.columns → count ≡ other.count
      → new.alone ≡ other.alone → new.aggregates ≡ other.aggregates → length new.keys ≡ length other.keys
      → IsTally more other → IsTally (lines ++ lines_of keys columns count) new → IsTally (lines ++ more) new
  append-tally keys_are columns_are count_is alone same wide is made =
      appended other.alone keys_are columns_are count_is alone refl same wide is made
