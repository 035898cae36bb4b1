-- What is answered of groups, with one line more.
use Rattle.std.proofs.Common.{◌≡◌, ◌∙◌, ◌+ℤ◌, ◌<◌, ◌≤◌, ℕ, zero, suc, ℤ, pos, FitsSigned, Bool, true, false, if◌then◌else◌, List, [], ◌∷◌, ◌++◌, append_assoc, length, get_or, map, set, refl, sym, ap, arith, add-one}
use Rattle.std.specs.Int.{w128}
use Rattle.std.proofs.lemmas.Int.{int_wrap-add_left, int_wrap_fits, ints}
use Rattle.std.proofs.lemmas.List.{length-map, length_push, map-append}
use Rattle.std.specs.List.{AllByRecursion}
use Rattle.hy_query.specs.Meaning.{greater, lesser, number_in, sum_of, wrapped}
use Rattle.hy_query.specs.Rows.{Row}
use Rattle.hy_rows.specs.Rows.{value_at}
use Rattle.hy_rows.specs.declared.value.Value.{Value}
use Rattle.hy_rows.specs.declared.value.Value.TheVariants.{Whole}
use Rattle.hy_tallies.specs.declared.aggregate.Aggregate.{Aggregate}
use Rattle.hy_tallies.specs.declared.aggregate.Aggregate.TheVariants as aggregates
use Rattle.hy_tallies.specs.Lines.{Line, line_at, row_at}
use Rattle.hy_tallies.specs.Tallies.{aggregated, answered_at, answered_from}
use Rattle.hy_tallies.specs.declared.noting.Extreme.{Extreme}
use Rattle.hy_tallies.specs.declared.noting.Extreme.TheVariants as extremes
use Rattle.hy_tallies.specs.inside.Steps.{aggregate_of, more_of, noted, noted_all, noted_upto, with_line, with_lines}
use Rattle.hy_tallies.proofs.GroupLaws.{HasLine}
use Rattle.hy_tallies.proofs.ListLaws.{at_seam, fold-push}

pub aggregated-more : (aggregate : Aggregate) (first : Value) (values : List Value) (value : Value)
    → aggregated aggregate (first ∷ (values ++ value ∷ [])) ≡ more_of aggregate (aggregated aggregate (first ∷ values)) value
aggregated-more aggregates.First first values value = fold-push (λ one other. one) first values value
aggregated-more aggregates.Sum first values value =
    ap (λ sum. Whole (wrapped sum)) (fold-push (λ sum this. sum +ℤ number_in this) (pos 0 +ℤ number_in first) values value)
    ∙ ap Whole (sym (int_wrap-add_left w128 (sum_of (first ∷ values)) (number_in value)))
aggregated-more aggregates.Least first values value = fold-push lesser first values value
aggregated-more aggregates.Greatest first values value = fold-push greater first values value

module _ (aggregate : Aggregate) (place : ℕ) where
  -- what is answered of one group
  abbrev answer : List Line → Value
  answer group = aggregated aggregate (map (λ line. value_at line.values place) group)

  answered-with : (groups : List (List Line)) (number : ℕ) (line : Line) → AllByRecursion HasLine groups
      → answered_at (with_line groups number line) aggregate place
      ≡ noted aggregate (answered_at groups aggregate place) number (value_at line.values place)
  answered-with [] number line each = refl
  answered-with ([] ∷ groups) zero line each = absurd each.0
  answered-with ((first ∷ group) ∷ groups) zero line each =
      ap (λ one. one ∷ answered_at groups aggregate place)
      (ap (λ values. aggregated aggregate (value_at first.values place ∷ values))
      (map-append (λ line. value_at line.values place) group (line ∷ []))
      ∙ aggregated-more aggregate (value_at first.values place) (map (λ line. value_at line.values place) group)
      (value_at line.values place))
  answered-with (group ∷ groups) (suc number) line each =
      ap (λ later. answer group ∷ later) (answered-with groups number line each.1)

has-line : (group : List Line) (line : Line) → HasLine (group ++ line ∷ [])
has-line [] line = tt
has-line (first ∷ group) line = tt

lines-with : (groups : List (List Line)) (number : ℕ) (line : Line) → AllByRecursion HasLine groups
    → AllByRecursion HasLine (with_line groups number line)
lines-with [] number line each = (tt, tt)
lines-with (group ∷ groups) zero line each = (has-line group line, each.1)
lines-with (group ∷ groups) (suc number) line each = (each.0, lines-with groups number line each.1)

module _ (groups : List (List Line)) (numbers : List ℕ) (line_of : ℕ → Line) (each : AllByRecursion HasLine groups) where
  lines-with_all : (count : ℕ) → AllByRecursion HasLine (with_lines groups numbers line_of count)
  lines-with_all zero = each
  lines-with_all (suc count) =
      lines-with (with_lines groups numbers line_of count) (get_or numbers count 0) (line_of count) (lines-with_all count)

  -- a column with the values of the lines
  column-more : (aggregate : Aggregate) (place : ℕ) (values : Row)
      → ((n : ℕ) → value_at (line_of n).values place ≡ value_at values n) → (count : ℕ)
      → noted_upto aggregate (answered_at groups aggregate place) numbers values count
      ≡ answered_at (with_lines groups numbers line_of count) aggregate place
  column-more aggregate place values are zero = refl
  column-more aggregate place values are (suc count) =
      (λ i. noted aggregate (column-more aggregate place values are count i) (get_or numbers count 0) (sym (are count) i))
      ∙ sym (answered-with aggregate place (with_lines groups numbers line_of count) (get_or numbers count 0)
      (line_of count) (lines-with_all count))

-- all columns
module _ (groups : List (List Line)) (numbers : List ℕ) (keys all : List Row) (each : AllByRecursion HasLine groups)
    (count : ℕ) where
  pub columns-more : (aggregates : List Aggregate) (front columns : List Row) (place : ℕ)
      → all ≡ front ++ columns → place ≡ length front → length columns ≡ length aggregates
      → noted_all aggregates (answered_from groups place aggregates) numbers columns count
      ≡ answered_from (with_lines groups numbers (line_at keys all) count) place aggregates
  columns-more [] front columns place all_is place_is long = refl
  columns-more (aggregate ∷ aggregates) front [] place all_is place_is long = absurd (omega arith)
  columns-more (aggregate ∷ aggregates) front (values ∷ columns) place all_is place_is long =
      λ i. column-more groups numbers (line_at keys all) each aggregate place values here count i
      ∷ columns-more aggregates (front ++ values ∷ []) columns (suc place)
      (all_is ∙ sym (append_assoc front (values ∷ []) columns))
      (ap suc place_is ∙ sym (length_push front values ∙ add-one (length front))) (omega arith) i
    where
      here : (n : ℕ) → value_at (row_at all n) place ≡ value_at values n
      here n =
          ap₂-like n
          ∙ at_seam (map (λ column. value_at column n) front) (value_at values n)
          (map (λ column. value_at column n) columns) (Whole (pos 0))
        where
          ap₂-like : (n : ℕ) → value_at (row_at all n) place
              ≡ get_or (map (λ column. value_at column n) front ++ value_at values n ∷ map (λ column. value_at column n) columns)
              (length (map (λ column. value_at column n) front)) (Whole (pos 0))
          ap₂-like n =
              (λ i. get_or (map (λ column. value_at column n) (all_is i)) (place_is i) (Whole (pos 0)))
              ∙ (λ i. get_or (map-append (λ column. value_at column n) front (values ∷ columns) i)
              (sym (length-map front (λ column. value_at column n)) i) (Whole (pos 0)))

-- ---- a column, by what stands in it

pub noted-new : (aggregate : Aggregate) (column : Row) (number : ℕ) (value : Value) → length column ≤ number
    → noted aggregate column number value ≡ column ++ aggregated aggregate (value ∷ []) ∷ []
noted-new aggregate [] number value behind = refl
noted-new aggregate (one ∷ later) zero value behind = absurd (omega arith)
noted-new aggregate (one ∷ later) (suc number) value behind =
    ap (λ list. one ∷ list) (noted-new aggregate later number value (omega arith))

pub noted-old : (aggregate : Aggregate) (column : Row) (number : ℕ) (value : Value) → number < length column
    → noted aggregate column number value ≡ set column number (more_of aggregate (value_at column number) value)
noted-old aggregate [] number value within = absurd (omega arith)
noted-old aggregate (one ∷ later) zero value within = refl
noted-old aggregate (one ∷ later) (suc number) value within =
    ap (λ list. one ∷ list) (noted-old aggregate later number value (omega arith))

pub noted-kept : (column : Row) (number : ℕ) (value : Value) → number < length column
    → noted aggregates.First column number value ≡ column
noted-kept [] number value within = absurd (omega arith)
noted-kept (one ∷ later) zero value within = refl
noted-kept (one ∷ later) (suc number) value within = ap (λ list. one ∷ list) (noted-kept later number value (omega arith))

-- ---- the steps of the code

pub first-new : (column : Row) (number : ℕ) (value new : Value) → length column ≤ number → new ≡ value
    → column ++ new ∷ [] ≡ noted aggregates.First column number value
first-new column number value new behind is =
    ap (λ one. column ++ one ∷ []) is ∙ sym (noted-new aggregates.First column number value behind)

pub sum-new : (column : Row) (number : ℕ) (value : Value) (added made : ℤ) → length column ≤ number
    → FitsSigned w128 added → made ≡ added → added ≡ number_in value
    → column ++ Whole made ∷ [] ≡ noted aggregates.Sum column number value
sum-new column number value added made behind fits made_is is =
    let none : pos 0 +ℤ number_in value ≡ added = from_none (number_in value) ∙ sym is in
    ap (λ sum. column ++ Whole sum ∷ []) (made_is ∙ sym (ap wrapped none ∙ int_wrap_fits w128 added fits))
    ∙ sym (noted-new aggregates.Sum column number value behind)
  where
    from_none : (n : ℤ) → pos 0 +ℤ n ≡ n
    from_none n = omega (arith, ints)

pub sum-old : (column : Row) (number : ℕ) (value : Value) (added made : ℤ) → number < length column → made ≡ added
    → added ≡ number_in value
    → set column number (Whole (wrapped (number_in (value_at column number) +ℤ made)))
    ≡ noted aggregates.Sum column number value
sum-old column number value added made within made_is is =
    ap (λ n. set column number (Whole (wrapped (number_in (value_at column number) +ℤ n)))) (made_is ∙ is)
    ∙ sym (noted-old aggregates.Sum column number value within)

pub best-new : (extreme : Extreme) (column : Row) (number : ℕ) (value new : Value) → length column ≤ number → new ≡ value
    → column ++ new ∷ [] ≡ noted (aggregate_of extreme) column number value
best-new extreme column number value new behind is =
    ap (λ one. column ++ one ∷ []) (is ∙ sym (one extreme))
    ∙ sym (noted-new (aggregate_of extreme) column number value behind)
  where
    one : (extreme : Extreme) → aggregated (aggregate_of extreme) (value ∷ []) ≡ value
    one extremes.Least = refl
    one extremes.Greatest = refl

pub best-set : (extreme : Extreme) (column : Row) (number : ℕ) (value best : Value) (better : Bool)
    → number < length column → best ≡ value_at column number
    → (if better then value else best) ≡ more_of (aggregate_of extreme) best value → better ≡ true
    → set column number value ≡ noted (aggregate_of extreme) column number value
best-set extreme column number value best better within best_is is found =
    ap (set column number) (ap (λ b. if b then value else best) (sym found) ∙ is
    ∙ ap (λ one. more_of (aggregate_of extreme) one value) best_is)
    ∙ sym (noted-old (aggregate_of extreme) column number value within)

set-same : (column : Row) (number : ℕ) → number < length column → set column number (value_at column number) ≡ column
set-same [] number within = absurd (omega arith)
set-same (one ∷ later) zero within = refl
set-same (one ∷ later) (suc number) within = ap (λ list. one ∷ list) (set-same later number (omega arith))

pub best-kept : (extreme : Extreme) (column : Row) (number : ℕ) (value best : Value) (better : Bool)
    → number < length column → best ≡ value_at column number
    → (if better then value else best) ≡ more_of (aggregate_of extreme) best value → better ≡ false
    → column ≡ noted (aggregate_of extreme) column number value
best-kept extreme column number value best better within best_is is none =
    sym (set-same column number within)
    ∙ ap (set column number) (sym best_is ∙ ap (λ b. if b then value else best) (sym none) ∙ is
    ∙ ap (λ one. more_of (aggregate_of extreme) one value) best_is)
    ∙ sym (noted-old (aggregate_of extreme) column number value within)
