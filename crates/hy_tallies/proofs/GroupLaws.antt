-- The groups of lines, with one line more.
use Rattle.std.proofs.Common.{◌≡◌, ◌∙◌, ◌+◌, ◌<◌, ℕ, zero, suc, Bool, true, false, cond, not, if◌then◌else◌, List, [], ◌∷◌, ◌++◌, append_assoc, filter, length, get_or, map, refl, sym, subst, ap, ap₂, arith}
use Rattle.std.proofs.lemmas.List.{append-nil, length-map, length_push, map-append}
use Rattle.std.specs.List.{AllByRecursion}
use Rattle.hy_query.specs.Meaning.{are_equal, firsts}
use Rattle.hy_query.specs.Rows.{Row}
use Rattle.hy_tallies.specs.Lines.{Line, line_at, lines_of, row_at}
use Rattle.hy_tallies.specs.Numbers.{upto}
use Rattle.hy_tallies.specs.Tallies.{groups_in}
use Rattle.hy_tallies.specs.inside.Keys.{Apart, place_of_key, seen, with_key}
use Rattle.hy_tallies.specs.inside.Steps.{with_line, with_lines}
use Rattle.hy_tallies.proofs.KeyLaws.{covered, equal-refl, equal-symm, firsts-apart, firsts-push, same-row}
use Rattle.hy_tallies.proofs.ListLaws.{each-filter, each-weaker, filter-append, map-same}

-- the keys of lines
abbrev pub keys_of : List Line → List Row
keys_of lines = map (λ line. line.key) lines

-- the lines with a key
abbrev pub members : List Line → Row → List Line
members lines key = filter (λ line. are_equal key line.key) lines

-- ---- a line more

members-push : (lines : List Line) (line : Line) (key : Row)
    → members (lines ++ line ∷ []) key ≡ members lines key ++ cond (are_equal key line.key) (line ∷ []) []
members-push lines line key = filter-append (λ one. are_equal key one.key) lines (line ∷ [])

pub no-members : (lines : List Line) (key : Row) → AllByRecursion (λ row. are_equal row key ≡ false) (keys_of lines)
    → members lines key ≡ []
no-members [] key none = refl
no-members (line ∷ lines) key none =
    ap (λ b. cond b (line ∷ members lines key) (members lines key)) (equal-symm key line.key ∙ none.0)
    ∙ no-members lines key none.1

module _ (lines : List Line) (line : Line) where
  abbrev all : List Line
  all = lines ++ line ∷ []

  -- the groups of some keys that differ, among which are those of all lines
  groups-with : (xs : List Row) → Apart xs
      → (AllByRecursion (λ row. are_equal row line.key ≡ false) xs → members lines line.key ≡ [])
      → map (members all) (with_key xs line.key) ≡ with_line (map (members lines) xs) (place_of_key line.key xs) line
  groups-with [] apart none =
      ap (λ list. list ∷ []) (members-push lines line line.key
      ∙ (λ i. none tt i ++ cond (equal-refl line.key i) (line ∷ []) []))
  groups-with (x ∷ xs) apart none = by (are_equal x line.key) refl
      (λ is. groups-with xs apart.1 (λ later. none (is, later)))
    where
      with : (b : Bool) → are_equal x line.key ≡ b
          → members all x ≡ members lines x ++ cond b (line ∷ []) []
      with b is = members-push lines line x ∙ ap (λ c. members lines x ++ cond c (line ∷ []) []) is

      by : (b : Bool) → are_equal x line.key ≡ b
          → (are_equal x line.key ≡ false
          → map (members all) (with_key xs line.key) ≡ with_line (map (members lines) xs) (place_of_key line.key xs) line)
          → members all x ∷ map (members all) (if b then xs else with_key xs line.key)
          ≡ with_line (members lines x ∷ map (members lines) xs) (if b then 0 else suc (place_of_key line.key xs)) line
      by true is later =
          ap₂ (λ first others. first ∷ others) (with true is)
          (map-same (λ row. are_equal x row ≡ false) (members all) (members lines) xs apart.0
          (λ row other. members-push lines line row
          ∙ ap (λ c. members lines row ++ cond c (line ∷ []) [])
          (equal-symm row line.key ∙ ap (λ key. are_equal key row) (sym (same-row x line.key is)) ∙ other)
          ∙ append-nil (members lines row)))
      by false is later =
          ap₂ (λ first others. first ∷ others) (with false is ∙ append-nil (members lines x)) (later is)

  pub group-push : groups_in false (lines ++ line ∷ [])
      ≡ with_line (groups_in false lines) (place_of_key line.key (firsts (keys_of lines))) line
  group-push =
      ap (λ keys. map (members all) (firsts keys)) (map-append (λ one. one.key) lines (line ∷ []))
      ∙ ap (map (members all)) (firsts-push (keys_of lines) line.key)
      ∙ groups-with (firsts (keys_of lines)) (firsts-apart (keys_of lines))
      (λ none. no-members lines line.key (covered line.key (keys_of lines) none))

  pub alone-push : groups_in true (lines ++ line ∷ []) ≡ with_line (groups_in true lines) (length lines) line
  alone-push = map-append (λ one. one ∷ []) lines (line ∷ []) ∙ behind lines
    where
      behind : (some : List Line)
          → map (λ one. one ∷ []) some ++ (line ∷ []) ∷ [] ≡ with_line (map (λ one. one ∷ []) some) (length some) line
      behind [] = refl
      behind (one ∷ some) = ap (λ list. (one ∷ []) ∷ list) (behind some)

-- ---- several lines more

module _ (keys values : List Row) (lines : List Line) where
  pub lines-more : (count : ℕ) → lines ++ lines_of keys values (suc count)
      ≡ (lines ++ lines_of keys values count) ++ line_at keys values count ∷ []
  lines-more count =
      ap (λ list. lines ++ list) (map-append (line_at keys values) (upto count) (count ∷ []))
      ∙ sym (append_assoc lines (lines_of keys values count) (line_at keys values count ∷ []))

  pub lines-none : lines ++ lines_of keys values 0 ≡ lines
  lines-none = append-nil lines

  -- the keys that were seen
  pub seen-firsts : (count : ℕ)
      → seen (firsts (keys_of lines)) keys count ≡ firsts (keys_of (lines ++ lines_of keys values count))
  seen-firsts zero = ap (λ all. firsts (keys_of all)) (sym lines-none)
  seen-firsts (suc count) =
      ap (λ rows. with_key rows (row_at keys count)) (seen-firsts count)
      ∙ sym (firsts-push (keys_of (lines ++ lines_of keys values count)) (row_at keys count))
      ∙ ap firsts (sym (map-append (λ line. line.key) (lines ++ lines_of keys values count)
      (line_at keys values count ∷ [])))
      ∙ ap (λ all. firsts (keys_of all)) (sym (lines-more count))

  pub groups-more : (numbers : List ℕ) (count : ℕ)
      → ((n : ℕ) → n < count → get_or numbers n 0 ≡ place_of_key (row_at keys n) (seen (firsts (keys_of lines)) keys n))
      → groups_in false (lines ++ lines_of keys values count)
      ≡ with_lines (groups_in false lines) numbers (line_at keys values) count
  groups-more numbers zero are = ap (groups_in false) lines-none
  groups-more numbers (suc count) are =
      ap (groups_in false) (lines-more count)
      ∙ group-push (lines ++ lines_of keys values count) (line_at keys values count)
      ∙ (λ i. with_line (groups-more numbers count (λ n l. are n (omega arith)) i)
      ((ap (λ rows. place_of_key (row_at keys count) rows) (sym (seen-firsts count)) ∙ sym (are count (omega arith))) i)
      (line_at keys values count))

  length-lines : (count : ℕ) → length (lines ++ lines_of keys values count) ≡ length lines + count
  length-lines zero = let none = ap length lines-none in omega arith
  length-lines (suc count) =
      ap length (lines-more count) ∙ length_push (lines ++ lines_of keys values count) (line_at keys values count)
      ∙ ap (λ n. n + 1) (length-lines count) ∙ more (length lines) count
    where
      more : (a b : ℕ) → (a + b) + 1 ≡ a + suc b
      more a b = omega arith

  pub alone-more : (numbers : List ℕ) (count : ℕ)
      → ((n : ℕ) → n < count → get_or numbers n 0 ≡ length lines + n)
      → groups_in true (lines ++ lines_of keys values count)
      ≡ with_lines (groups_in true lines) numbers (line_at keys values) count
  alone-more numbers zero are = ap (groups_in true) lines-none
  alone-more numbers (suc count) are =
      ap (groups_in true) (lines-more count)
      ∙ alone-push (lines ++ lines_of keys values count) (line_at keys values count)
      ∙ (λ i. with_line (alone-more numbers count (λ n l. are n (omega arith)) i)
      ((length-lines count ∙ sym (are count (omega arith))) i)
      (line_at keys values count))

  pub alone-length : (count : ℕ) → length (groups_in true (lines ++ lines_of keys values count)) ≡ length lines + count
  alone-length count = length-map (lines ++ lines_of keys values count) (λ one. one ∷ []) ∙ length-lines count

-- ---- each group has a line

-- a list with a line in it
abbrev pub HasLine : List Line → Type 0
HasLine [] = ⊥
HasLine (line ∷ group) = Unit {0}

pub alone-lines : (lines : List Line) → AllByRecursion HasLine (groups_in true lines)
alone-lines [] = tt
alone-lines (line ∷ lines) = (tt, alone-lines lines)

pub keys-lines : (lines : List Line) → AllByRecursion (λ key. HasLine (members lines key)) (firsts (keys_of lines))
keys-lines [] = tt
keys-lines (line ∷ lines) = (
  subst (λ b. HasLine (cond b (line ∷ members lines line.key) (members lines line.key))) (sym (equal-refl line.key)) tt,
  each-filter (λ key. HasLine (members (line ∷ lines) key)) (λ other. not (are_equal line.key other)) (firsts (keys_of lines))
      (each-weaker (λ key. HasLine (members lines key)) (λ key. HasLine (members (line ∷ lines) key)) (firsts (keys_of lines))
      (λ key has. more key (are_equal key line.key) has) (keys-lines lines)),
)
  where
    more : (key : Row) (b : Bool) → HasLine (members lines key)
        → HasLine (cond b (line ∷ members lines key) (members lines key))
    more key true has = tt
    more key false has = has

pub groups-lines : (alone : Bool) (lines : List Line) → AllByRecursion HasLine (groups_in alone lines)
groups-lines true lines = alone-lines lines
groups-lines false lines = over (firsts (keys_of lines)) (keys-lines lines)
  where
    over : (keys : List Row) → AllByRecursion (λ key. HasLine (members lines key)) keys
        → AllByRecursion HasLine (map (members lines) keys)
    over [] each = tt
    over (key ∷ keys) each = (each.0, over keys each.1)
