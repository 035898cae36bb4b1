-- A line with the key of the line before it belongs to the same group.
use Rattle.std.proofs.Common.{◌≡◌, ◌∙◌, ◌+◌, ◌-◌, ◌<◌, ℕ, zero, suc, Bool, true, false, if◌then◌else◌, List, [], ◌∷◌, ◌++◌, ⊎_elim, add-one, drop, get_or, length, map, refl, subst, sym, ap, arith}
use Rattle.std.specs.Prelude.{slice_set}
use Rattle.std.proofs.lemmas.Bool.{cases_eq}
use Rattle.std.proofs.lemmas.List.{drop_more, get_or-set_other, get_or-set_same}
use Rattle.hy_query.specs.Meaning.{are_equal}
use Rattle.hy_query.specs.Rows.{Row}
use Rattle.hy_rows.specs.Rows.{value_at}
use Rattle.hy_tallies.specs.declared.groups.Groups.{Groups}
use Rattle.hy_tallies.specs.declared.line.LineColumn.{LineColumn}
use Rattle.hy_tallies.specs.Lines.{column_in, row_at}
use Rattle.hy_tallies.specs.inside.Groups.{HasNumbered, IsNumbered, keys_of}
use Rattle.hy_tallies.specs.inside.Keys.{place_of_key, seen, with_key}
use Rattle.hy_tallies.specs.inside.Repeats.{IsNoted}
use Rattle.hy_tallies.proofs.KeyLaws.{equal-refl}

module _ (key : Row) where
  -- a key that was seen has the same place again, and none is put behind the others
  again-place : (xs : List Row) → place_of_key key (with_key xs key) ≡ place_of_key key xs
  again-place [] = ap (λ b. if b then 0 else 1) (equal-refl key)
  again-place (x ∷ xs) = by (are_equal x key) (again-place xs)
    where
      by : (b : Bool) → place_of_key key (with_key xs key) ≡ place_of_key key xs
          → (if b then 0 else suc (place_of_key key (if b then xs else with_key xs key)))
          ≡ (if b then 0 else suc (place_of_key key xs))
      by true later = refl
      by false later = ap suc later

  again-keys : (xs : List Row) → with_key (with_key xs key) key ≡ with_key xs key
  again-keys [] = ap (λ b. key ∷ (if b then [] else key ∷ [])) (equal-refl key)
  again-keys (x ∷ xs) = by (are_equal x key) refl (again-keys xs)
    where
      by : (b : Bool) → are_equal x key ≡ b → with_key (with_key xs key) key ≡ with_key xs key
          → x ∷ (if are_equal x key then (if b then xs else with_key xs key) else with_key (if b then xs else with_key xs key) key)
          ≡ x ∷ (if b then xs else with_key xs key)
      by true is later = ap (λ b. x ∷ (if b then xs else with_key xs key)) is
      by false is later = ap (λ b. x ∷ (if b then with_key xs key else with_key (with_key xs key) key)) is ∙ ap (λ list. x ∷ list) later

-- the number of the line before
abbrev pub IsLast : List Row → List Row → ℕ → ℕ → Type 0
IsLast keys columns zero last = Unit {0}
IsLast keys columns (suc line) last = last ≡ place_of_key (row_at columns line) (seen keys columns line)

-- what is so of the lines so far is so with such a line
pub again : (columns : List Row) (line : ℕ) (old new : Groups) (numbers : List ℕ) (last : ℕ)
    → 0 < line → row_at columns line ≡ row_at columns (line - 1) → HasNumbered columns line old new numbers
    → IsLast (keys_of old) columns line last
    → HasNumbered columns (line + 1) old new (numbers ++ last ∷ []) × IsLast (keys_of old) columns (line + 1) last
again columns zero old new numbers last behind same has is = absurd (omega (arith, behind))
again columns (suc line) old new numbers last behind same has is =
    let key : Row = row_at columns line in
    let less : suc line - 1 ≡ line = omega arith in
    let equal : row_at columns (suc line) ≡ key = same ∙ ap (row_at columns) less in
    let place : last ≡ place_of_key (row_at columns (suc line)) (seen (keys_of old) columns (suc line)) =
    is ∙ sym (again-place key (seen (keys_of old) columns line))
    ∙ ap (λ row. place_of_key row (with_key (seen (keys_of old) columns line) key)) (sym equal) in
    subst (λ n. HasNumbered columns n old new (numbers ++ last ∷ []) × IsLast (keys_of old) columns n last)
    (sym (add-one (suc line))) (
      record {
        places = (λ i. has.places i ++ place i ∷ []);
        keys =
            has.keys ∙ sym (again-keys key (seen (keys_of old) columns line))
            ∙ ap (λ row. with_key (with_key (seen (keys_of old) columns line) key) row) (sym equal);
        groups = has.groups;
      },
      place,
    )

-- and so with a line whose key was looked up
pub looked_up : (columns : List Row) (line : ℕ) (old new newer : Groups) (numbers : List ℕ) (last : ℕ)
    → HasNumbered columns line old new numbers → IsNumbered (row_at columns line) new newer last
    → HasNumbered columns (line + 1) old newer (numbers ++ last ∷ []) × IsLast (keys_of old) columns (line + 1) last
looked_up columns line old new newer numbers last has is =
    let place : last ≡ place_of_key (row_at columns line) (seen (keys_of old) columns line) =
    is.place ∙ ap (place_of_key (row_at columns line)) has.keys in
    subst (λ n. HasNumbered columns n old newer (numbers ++ last ∷ []) × IsLast (keys_of old) columns n last)
    (sym (add-one line)) (
      record {
        places = (λ i. has.places i ++ place i ∷ []);
        keys = is.keys ∙ ap (λ rows. with_key rows (row_at columns line)) has.keys;
        groups = is.groups;
      },
      place,
    )

-- ---- which lines are left

-- a line keeps its note only where its value is that of the line before
module _ (values : Row) (start lines : List Bool) (k : ℕ) (b : Bool) (among : k < length lines)
    (here : b ≡ true → IsNoted lines k × (value_at values k ≡ value_at values (k - 1)))
    (kept : (line : ℕ) → IsNoted lines line → IsNoted start line)
    (left : (line : ℕ) → 0 < line → line < k → IsNoted lines line → value_at values line ≡ value_at values (line - 1)) where
  noted-here : (line : ℕ) → line ≡ k → IsNoted (slice_set lines k b) line
      → IsNoted lines line × (value_at values line ≡ value_at values (line - 1))
  noted-here line is noted =
      subst (λ n. IsNoted lines n × (value_at values n ≡ value_at values (n - 1))) (sym is)
      (here (sym (get_or-set_same lines k b false among) ∙ ap (λ n. get_or (slice_set lines k b) n false) (sym is) ∙ noted))

  pub kept-more : (line : ℕ) → IsNoted (slice_set lines k b) line → IsNoted start line
  kept-more line noted =
      ⊎_elim (λ is. kept line (noted-here line is noted).0)
      (λ other. kept line (sym (get_or-set_other lines k line b false other) ∙ noted)) (cases_eq line k)

  pub left-more : (line : ℕ) → 0 < line → line < k + 1 → IsNoted (slice_set lines k b) line
      → value_at values line ≡ value_at values (line - 1)
  left-more line behind within noted =
      ⊎_elim (λ is. (noted-here line is noted).1)
      (λ other. left line behind (omega (arith, within, other))
      (sym (get_or-set_other lines k line b false other) ∙ noted)) (cases_eq line k)

-- the rows of the columns from a place on, by the one at the place
pub row-same : (columns : List LineColumn) (index line : ℕ) (one : LineColumn) → index < length columns
    → one ≡ get_or columns index one → value_at (column_in one) line ≡ value_at (column_in one) (line - 1)
    → row_at (map column_in (drop (index + 1) columns)) line ≡ row_at (map column_in (drop (index + 1) columns)) (line - 1)
    → row_at (map column_in (drop index columns)) line ≡ row_at (map column_in (drop index columns)) (line - 1)
row-same columns index line one within is same later =
    rw (drop_more columns index one within ∙ ap (λ column. column ∷ drop (index + 1) columns) (sym is))
    (λ i. same i ∷ later i)
