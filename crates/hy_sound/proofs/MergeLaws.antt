-- What a merge has left.
use Rattle.std.proofs.Common.{◌≡◌, ◌≢◌, ◌⊎◌, ◌<◌, ◌≤◌, ◌+◌, ◌==◌, ℕ, suc, Bool, true, false, List, [], ◌∷◌, length, drop, slice_get, Some, inl, inr, refl, sym, ap, ◌∙◌, arith, subst}
use Rattle.std.specs.Prelude.{slice_index, slice_set}
use Rattle.std.proofs.lemmas.Bool.{eqb-false, eqb-true, true≢false}
use Rattle.hy_commands.specs.declared.command.Command.{Command}
use Rattle.hy_commands.specs.declared.command.Commit.{Commit}
use Rattle.hy_commands.specs.declared.command.Commit.TheVariants as commits
use Rattle.hy_commands.specs.declared.edition.Edition.{Edition}
use Rattle.hy_batches.specs.Grammar.{names}
use Rattle.hy_sound.specs.Sound.{list_at}
use Rattle.hy_sound.specs.Merges.{MergeState, PassesCrossing, count_of, left_of}
use Rattle.hy_sound.proofs.ListLaws.{drop-next, get-left, index-set_here, index-set_other, next-first, none-left}

pub next-left : (merge : MergeState) (place : ℕ)
    → slice_get (left_of merge place) 0 ≡ slice_get (list_at merge.lists place) (slice_index merge.passed place)
unfolding left_of
next-left merge place = get-left (slice_index merge.passed place) (list_at merge.lists place)

-- nothing was passed
pub left-first : (merge : MergeState) (place : ℕ) → slice_index merge.passed place ≡ 0
    → left_of merge place ≡ list_at merge.lists place
unfolding left_of
left-first merge place none = ap (λ n. drop n (list_at merge.lists place)) none

-- one more was passed
module _ (merge : MergeState) (place : ℕ) (within : place < length merge.passed) where
  abbrev pub passed-one : MergeState
  passed-one = record merge { passed = slice_set merge.passed place (slice_index merge.passed place + 1) }

  pub left-passed : left_of passed-one place ≡ drop 1 (left_of merge place)
  unfolding left_of
  left-passed =
      ap (λ n. drop n (list_at merge.lists place))
      (index-set_here merge.passed place (slice_index merge.passed place + 1) within)
      ∙ drop-next (slice_index merge.passed place) (list_at merge.lists place)

  pub left-other : (other : ℕ) → other ≢ place → left_of passed-one other ≡ left_of merge other
  unfolding left_of
  left-other other apart =
      ap (λ n. drop n (list_at merge.lists other))
      (index-set_other merge.passed place other (slice_index merge.passed place + 1) apart)

-- none was left
pub left-none : (merge : MergeState) (place : ℕ) → length (list_at merge.lists place) ≤ slice_index merge.passed place
    → left_of merge place ≡ drop 1 (left_of merge place)
unfolding left_of
left-none merge place within =
    let none : left_of merge place ≡ [] = none-left (slice_index merge.passed place) (list_at merge.lists place) within in
    none ∙ ap (λ (rows : List Commit). drop 1 rows) (sym none)

-- ---- a crossing is passed

-- the list of the warehouse with a place went on with a crossing that names it, and it was passed; another stays
abbrev pub IsPassedAt : Edition → ℕ → Command → ℕ → List Commit → List Commit → Type 0
IsPassedAt edition number command place old new =
    ((names command (suc place) ≡ true) × (old ≡ commits.Cross edition number command ∷ new))
    ⊎ ((names command (suc place) ≡ false) × (new ≡ old))

pub passed-named : (edition : Edition) (number : ℕ) (command : Command) (place : ℕ) (old new : List Commit)
    → names command (suc place) ≡ true → slice_get old 0 ≡ Some (commits.Cross edition number command) → new ≡ drop 1 old
    → IsPassedAt edition number command place old new
passed-named edition number command place old new named next is =
    let commit : Commit = commits.Cross edition number command in
    inl (named, next-first old commit next ∙ ap (λ rows. commit ∷ rows) (sym is))

pub passes : (edition : Edition) (number : ℕ) (command : Command) (old new : MergeState) → count_of new ≡ count_of old
    → ((place : ℕ) → place < count_of old → IsPassedAt edition number command place (left_of old place) (left_of new place))
    → PassesCrossing edition number command old new
passes edition number command old new count each = record {
  count = count;
  named = λ place within named. by-named place named (each place within);
  others = λ place within other. by-other place other (each place within);
}
  where
    by-named : (place : ℕ) → names command (suc place) ≡ true
        → IsPassedAt edition number command place (left_of old place) (left_of new place)
        → left_of old place ≡ commits.Cross edition number command ∷ left_of new place
    by-named place named (inl here) = here.1
    by-named place named (inr other) = absurd (true≢false (sym named ∙ other.0))

    by-other : (place : ℕ) → names command (suc place) ≡ false
        → IsPassedAt edition number command place (left_of old place) (left_of new place) → left_of new place ≡ left_of old place
    by-other place other (inl here) = absurd (true≢false (sym here.0 ∙ other))
    by-other place other (inr same) = same.1

-- one place more
pub below-next : (P : ℕ → Type 0) (place : ℕ) → ((k : ℕ) → k < place → P k) → P place → (k : ℕ) → k < place + 1 → P k
below-next P place below here k within = by (k == place) refl
  where
    by : (same : Bool) → (k == place) ≡ same → P k
    by true is = let at : k ≡ place = eqb-true k place is in subst P (sym at) here
    by false is = let apart : k ≢ place = eqb-false k place is in below k (omega arith)

module _ (edition : Edition) (number : ℕ) (command : Command) (place : ℕ) (first now new : MergeState)
    (passed : (k : ℕ) → k < place → IsPassedAt edition number command k (left_of first k) (left_of now k))
    (others : (k : ℕ) → place ≤ k → left_of now k ≡ left_of first k)
    (stay : (k : ℕ) → k ≢ place → left_of new k ≡ left_of now k)
    (here : IsPassedAt edition number command place (left_of now place) (left_of new place)) where
  pub passed-more : (k : ℕ) → k < place + 1 → IsPassedAt edition number command k (left_of first k) (left_of new k)
  passed-more = below-next (λ k. IsPassedAt edition number command k (left_of first k) (left_of new k)) place
      (λ k before.
      let apart : k ≢ place = omega arith in
      subst (λ rows. IsPassedAt edition number command k (left_of first k) rows) (sym (stay k apart)) (passed k before))
      (subst (λ rows. IsPassedAt edition number command place rows (left_of new place)) (others place (omega arith)) here)

  pub others-more : (k : ℕ) → place + 1 ≤ k → left_of new k ≡ left_of first k
  others-more k behind =
      let apart : k ≢ place = omega arith in
      let from : place ≤ k = omega arith in
      stay k apart ∙ others k from

-- a list whose warehouse isn't named
pub unnamed-stays : (edition : Edition) (number : ℕ) (command : Command) (place : ℕ) (rows : List Commit)
    → names command (suc place) ≡ false → IsPassedAt edition number command place rows rows
unnamed-stays edition number command place rows other = inr (other, refl)
