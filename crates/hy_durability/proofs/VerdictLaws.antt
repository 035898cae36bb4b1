-- No log is both sound and not, and each beginning of a sound one is sound.
use Rattle.std.proofs.Common.{◌≡◌, ◌⊎◌, ℕ, zero, suc, ◌+◌, ◌<◌, ◌≤◌, true, List, [], ◌∷◌, ◌++◌, length, take, inl, inr, refl, sym, ◌∙◌, subst, arith}
use Rattle.std.specs.Prelude.{All}
use Rattle.std.specs.List.{filter_map, range_with_len}
use Rattle.std.proofs.lemmas.List.Elements.{All-cons, All-filter, All-head, All-nil, All-tail}
use Rattle.hy_rows.specs.Tables.{Lists}
use Rattle.hy_passes.specs.SerialList.{names}
use Rattle.hy_commands.specs.declared.command.Commit.{Commit}
use Rattle.hy_commands.specs.declared.command.Commit.TheVariants as commits
use Rattle.hy_commands.specs.Commands.{number_of, warehouses_of_commit}
use Rattle.hy_batches.specs.Batches.{Batch}
use Rattle.hy_forks.proofs.NumberLaws.{OnNumber, all-below, all-filtered, named-place, numbers-hold}
use Rattle.hy_sound.specs.Sound.{AreInStep, AreSound, IsFirstUnsound, IsSoundBatch, IsSoundLog, list_at, names_one_of}

-- ---- numbers

abbrev IsAtMost : ℕ → Commit → Type 0
IsAtMost most = OnNumber (λ n. n ≤ most)

-- numbers from one on that are at most so much are no more than fit
pub range-few : (low count most : ℕ) → All (λ n. n ≤ most) (range_with_len low count) → (low + count ≤ suc most) ⊎ (count ≡ 0)
range-few low zero most all = inr refl
range-few low (suc zero) most all =
    let here = All-head (λ n. n ≤ most) low (range_with_len (low + 1) zero) all in inl (omega (arith, here))
range-few low (suc (suc count)) most all =
    elim (range-few (low + 1) (suc count) most (All-tail (λ n. n ≤ most) low (range_with_len (low + 1) (suc count)) all)) [
      | inl few ↦ inl (omega (arith, few))
      | inr none ↦ absurd (omega (arith, none))
    ]

pub hold-numbers : (Holds : ℕ → Type 0) (rows : List Commit) → All (OnNumber Holds) rows → All Holds (filter_map number_of rows)
hold-numbers Holds [] all = All-nil Holds
hold-numbers Holds (commits.Local edition command ∷ rows) all =
    hold-numbers Holds rows (All-tail (OnNumber Holds) (commits.Local edition command) rows all)
hold-numbers Holds (commits.Cross edition number command ∷ rows) all =
    All-cons Holds number (filter_map number_of rows)
    (All-head (OnNumber Holds) (commits.Cross edition number command) rows all)
    (hold-numbers Holds rows (All-tail (OnNumber Holds) (commits.Cross edition number command) rows all))

pub range-most : (low count most : ℕ) → low + count ≤ suc most → All (λ n. n ≤ most) (range_with_len low count)
range-most low zero most few = All-nil (λ n. n ≤ most)
range-most low (suc count) most few =
    All-cons (λ n. n ≤ most) low (range_with_len (low + 1) count) (omega (arith, few))
    (range-most (low + 1) count most (omega (arith, few)))

-- ---- two accounts of one batch

-- the numbers of one account are within those of the other
module _ (before one other count : ℕ) (lists : ℕ → List Commit) (first : AreInStep before one count lists)
    (second : AreInStep before other count lists) where
  first-most : All (IsAtMost one) first.crossings
  first-most =
      numbers-hold (λ n. n ≤ one) first.crossings
      (subst (All (λ n. n ≤ one)) (sym first.numbered)
      (range-most (suc before) (length first.crossings) one (omega (arith, first.last))))

  passing-most : (place : ℕ) → place < count
      → All (λ commit. names warehouses_of_commit (suc place) commit ≡ true → IsAtMost one commit) second.crossings
  passing-most place within =
      all-filtered (IsAtMost one) (names warehouses_of_commit (suc place)) second.crossings
      (subst (All (IsAtMost one)) (sym (first.each place within) ∙ second.each place within)
      (All-filter (names warehouses_of_commit (suc place)) (IsAtMost one) first.crossings first-most))

  second-most : All (IsAtMost one) second.crossings
  second-most =
      all-below (λ place commit. names warehouses_of_commit (suc place) commit ≡ true → IsAtMost one commit) (IsAtMost one)
      (names_one_of count) count second.crossings
      (λ commit named.
      let found = named-place count (warehouses_of_commit commit) named in
      (found.0, found.1, λ leads. leads found.2))
      second.named passing-most

  second-within : other ≤ one
  second-within =
      elim (range-few (suc before) (length second.crossings) one
      (subst (All (λ n. n ≤ one)) second.numbered (hold-numbers (λ n. n ≤ one) second.crossings second-most))) [
        | inl few ↦ omega (arith, few, second.last)
        | inr none ↦ omega (arith, none, second.last, first.last)
      ]

same-after : (lists : Lists) (before one other : ℕ) (batch : Batch) → IsSoundBatch lists before one batch
    → IsSoundBatch lists before other batch → one ≡ other
same-after lists before one other batch first second =
    omega (
      arith,
      second-within before one other (length batch.lists) (list_at batch.lists) first.in_step second.in_step,
      second-within before other one (length batch.lists) (list_at batch.lists) second.in_step first.in_step,
    )

-- ---- logs

-- a batch of a sound log is sound behind any account of those before it
sound-behind : (lists : Lists) (before last after : ℕ) (front rest : List Batch) (batch : Batch)
    → AreSound lists before last front → AreSound lists before after (front ++ batch ∷ rest)
    → (middle : ℕ) × IsSoundBatch lists last middle batch
sound-behind lists before last after [] rest batch is whole =
    (whole.0, subst (λ n. IsSoundBatch lists n whole.0 batch) (sym is) whole.1)
sound-behind lists before last after (first ∷ front) rest batch is whole =
    let same = same-after lists before whole.0 is.0 first whole.1 is.1 in
    sound-behind lists is.0 last after front rest batch is.2
    (subst (λ n. AreSound lists n after (front ++ batch ∷ rest)) same whole.2)

pub one-verdict : (lists : Lists) (batches : List Batch) (place : ℕ) → IsSoundLog lists batches
    → IsFirstUnsound lists batches place → ⊥
one-verdict lists batches place sound unsound =
    let whole : AreSound lists 0 sound.0 (unsound.front ++ unsound.batch ∷ unsound.rest) =
    subst (AreSound lists 0 sound.0) unsound.batches_are sound.1 in
    let found = sound-behind lists 0 unsound.last sound.0 unsound.front unsound.rest unsound.batch unsound.sound whole in
    unsound.unsound found.0 found.1

-- the first batches of a sound log
pub sound-beginning : (lists : Lists) (before after : ℕ) (batches : List Batch) (count : ℕ)
    → AreSound lists before after batches → (last : ℕ) × AreSound lists before last (take count batches)
sound-beginning lists before after batches zero is = (before, refl)
sound-beginning lists before after [] (suc count) is = (before, refl)
sound-beginning lists before after (batch ∷ batches) (suc count) is =
    let later = sound-beginning lists is.0 after batches count is.2 in
    (later.0, (is.0, is.1, later.1))
