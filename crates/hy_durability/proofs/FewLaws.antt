-- How many commits enter a serial list, where each warehouse keeps as many as it may.
use Rattle.std.proofs.Common.{◌≡◌, ◌==◌, ℕ, zero, suc, ◌+◌, ◌*◌, ◌^◌, ◌<◌, ◌≤◌, Bool, true, false, cond, [], ◌∷◌, length, refl, ap, subst, arith, lit<}
use Rattle.std.specs.Prelude.{All}
use Rattle.std.proofs.Math.Nat.{suc-mul}
use Rattle.std.proofs.lemmas.Bool.{eqb-false, eqb-true}
use Rattle.std.proofs.lemmas.Nat.{mul-le}
use Rattle.std.proofs.lemmas.List.Elements.{All-head, All-tail}
use Rattle.hy_rows.specs.Limits.{max_warehouses}
use Rattle.hy_rows.specs.Tables.{Lists}
use Rattle.hy_schema.specs.Loads.{IsLoad}
use Rattle.hy_loads.proofs.ThereLaws.{few_warehouses}
use Rattle.hy_passes.specs.SerialList.{are_warehouses, names}
use Rattle.hy_passes.specs.declared.entry.Entry.{Entry}
use Rattle.hy_commands.specs.declared.command.Commit.{Commit}
use Rattle.hy_commands.specs.Commands.{warehouses_of_commit}
use Rattle.hy_partition.specs.Jobs.{Log}
use Rattle.hy_partition.specs.Limits.{most_kept}
use Rattle.hy_partition.specs.Partition.{projection_of}
use Rattle.hy_schedules.specs.Schedules.{KeepsEverything, KeepsPlace, Place, Whole}
use Rattle.hy_recovery.proofs.PlaceLaws.{at-place, get-some}
use Rattle.hy_durability.specs.Durability.{HasRoom}
use Rattle.hy_forks.proofs.NumberLaws.{named-place, one-of}

-- how many commits the first so many warehouses have of a serial list, together
abbrev total : ℕ → Log → ℕ
total zero log = 0
total (suc place) log = length (projection_of (suc place) log) + total place log

abbrev IsOfOne : ℕ → Entry Commit → Type 0
IsOfOne count entry = are_warehouses count (warehouses_of_commit entry.commit) ≡ true

-- a commit more is one more where it is named, and none less anywhere
one-more : (entry : Entry Commit) (log : Log) (number : ℕ) → names warehouses_of_commit number entry.commit ≡ true
    → length (projection_of number (entry ∷ log)) ≡ suc (length (projection_of number log))
one-more entry log number named =
    ap (λ b. length (cond b (entry.commit ∷ projection_of number log) (projection_of number log))) named

none-less : (entry : Entry Commit) (log : Log) (number : ℕ)
    → length (projection_of number log) ≤ length (projection_of number (entry ∷ log))
none-less entry log number =
    elim (names warehouses_of_commit number entry.commit) as (λ b. length (projection_of number log)
    ≤ length (cond b (entry.commit ∷ projection_of number log) (projection_of number log))) [
      | true ↦ omega arith
      | false ↦ omega arith
    ]

total-least : (count : ℕ) (entry : Entry Commit) (log : Log) → total count log ≤ total count (entry ∷ log)
total-least zero entry log = omega arith
total-least (suc place) entry log =
    omega (arith, none-less entry log (suc place), total-least place entry log)

below : (place count : ℕ) → place < suc count → (place ≡ count → ⊥) → place < count
below place count within apart = omega (arith, within, apart)

total-more : (count place : ℕ) (entry : Entry Commit) (log : Log) → place < count
    → names warehouses_of_commit (suc place) entry.commit ≡ true → suc (total count log) ≤ total count (entry ∷ log)
total-more zero place entry log within named = absurd (omega (arith, within))
total-more (suc count) place entry log within named =
    by (place == count) refl (λ before. total-more count place entry log before named)
  where
    by : (is : Bool) → (place == count) ≡ is → (place < count → suc (total count log) ≤ total count (entry ∷ log))
        → suc (total (suc count) log) ≤ total (suc count) (entry ∷ log)
    by true is later =
        let here : place ≡ count = eqb-true place count is in
        let more = one-more entry log (suc count)
        (subst (λ n. names warehouses_of_commit (suc n) entry.commit ≡ true) here named) in
        omega (arith, more, total-least count entry log)
    by false is later =
        let before = later (below place count within (eqb-false place count is)) in
        omega (arith, none-less entry log (suc count), before)

-- each commit names one of the warehouses
all-named : (count : ℕ) (log : Log) → All (IsOfOne count) log → length log ≤ total count log
all-named count [] named = omega arith
all-named count (entry ∷ log) named =
    let found = named-place count (warehouses_of_commit entry.commit)
    (one-of count (warehouses_of_commit entry.commit) (All-head (IsOfOne count) entry log named)) in
    let later = all-named count log (All-tail (IsOfOne count) entry log named) in
    omega (arith, later, total-more count found.0 entry log found.1 found.2)

total-most : (count most : ℕ) (log : Log)
    → ((place : ℕ) → place < count → length (projection_of (suc place) log) ≤ most) → total count log ≤ count * most
total-most zero most log few = omega arith
total-most (suc count) most log few =
    let here : length (projection_of (suc count) log) ≤ most = few count (omega arith) in
    let later = total-most count most log (λ place within. few place (omega (arith, within))) in
    omega (arith, here, later, suc-mul count most)

module _ (lists : Lists) (is_load : IsLoad lists) (whole : Whole) (keeps : KeepsEverything lists whole)
    (room : HasRoom whole) where
  few-here : (place : ℕ) → place < length lists.tables.warehouses
      → length (projection_of (suc place) whole.log) ≤ most_kept
  few-here place within =
      let found = get-some whole.places place (omega (arith, within, keeps.count)) in
      let kept = at-place (λ (p : Place). length p.kept ≤ most_kept) whole.places place found.0 found.1 (room (suc place)) in
      let here = at-place (KeepsPlace lists whole (suc place)) whole.places place found.0 found.1 (keeps.each (suc place)) in
      omega (arith, kept, ap length here.alone.projection)

  pub few-entries : length whole.log < 2 ^ 32
  few-entries =
      let count = length lists.tables.warehouses in
      let all = all-named count whole.log keeps.serial.named in
      let each = total-most count most_kept whole.log few-here in
      let most = mul-le count most_kept max_warehouses most_kept
      (few_warehouses lists.tables.warehouses is_load.warehouses) (omega arith) in
      let below : max_warehouses * most_kept < 2 ^ 32 = lit< tt in
      omega (arith, all, each, most, below)
