-- What entered the serial list since a drain is a sound batch behind those before it.
use Rattle.std.proofs.Common.{◌≡◌, ℕ, zero, suc, ◌+◌, ◌^◌, ◌<◌, ◌≤◌, true, List, [], ◌∷◌, ◌++◌, length, is_some, refl, sym, ap, ◌∙◌, subst, arith, length-append}
use Rattle.std.specs.Prelude.{All}
use Rattle.std.specs.List.{filter_map, list_all, list_any, range_with_len}
use Rattle.std.proofs.Math.Seq.{drop-append_seam}
use Rattle.std.proofs.lemmas.Bool.{lt-ltb}
use Rattle.std.proofs.lemmas.List.{length-map}
use Rattle.std.proofs.lemmas.List.Elements.{All-drop, All-filter, All-map, All-weaker, filter_map-append}
use Rattle.hy_rows.specs.Limits.{max_warehouses}
use Rattle.hy_rows.specs.Ranges.{IsBetween, is_between}
use Rattle.hy_rows.proofs.BetweenLaws.{IsBetween-bounds}
use Rattle.hy_schema.specs.Loads.{IsLoad}
use Rattle.hy_loads.proofs.ThereLaws.{few_warehouses}
use Rattle.hy_rows.specs.Tables.{Lists}
use Rattle.hy_passes.specs.SerialList.{IsSerial, are_warehouses, is_crossing, is_number, names, numbers_of}
use Rattle.hy_passes.specs.declared.entry.Entry.{Entry}
use Rattle.hy_commands.specs.declared.command.Commit.{Commit}
use Rattle.hy_commands.specs.declared.edition.Edition.TheVariants as editions
use Rattle.hy_commands.specs.Commands.{number_of, warehouses_of_commit}
use Rattle.hy_crossing.specs.of_partition.Jobs.{Log}
use Rattle.hy_crossing.specs.of_partition.Partition.{projection_of}
use Rattle.hy_crossing.specs.Crossings.{commits_in}
use Rattle.hy_batches.specs.Batches.{Batch}
use Rattle.hy_batches.specs.Grammar.{fits, is_batch, is_commit, is_list}
use Rattle.hy_sound.specs.Sound.{IsSoundBatch, are_replayable, crossings_of, is_replayable, list_at, names_one_of}
use Rattle.hy_forks.specs.Logged.{crossings_in}
use Rattle.hy_forks.proofs.FitsLaws.{AreFit, IsFit, commit-told, lists-told}
use Rattle.hy_forks.proofs.NumberLaws.{OnNumber, all-below, all-filtered, all-passing, all-three, all-true, all-unmapped, crossings-behind, filter-few, filter-swap, length-crossings, named-place, numbers-few, numbers-hold, numbers-kept, numbers-of, one-of, range-behind, range-within}

-- lists as a batch of the second edition
abbrev pub of_second : List (List Commit) → Batch
of_second lists = record { edition = editions.Second; lists = lists }

-- what holds of each list, of none where there is none
replayable-each : (lists : Lists) (rows : List (List Commit))
    → ((place : ℕ) → place < length rows → are_replayable lists (list_at rows place) ≡ true) → (place : ℕ)
    → are_replayable lists (list_at rows place) ≡ true
replayable-each lists [] each place = refl
replayable-each lists (row ∷ rows) each zero = each 0 (omega arith)
replayable-each lists (row ∷ rows) each (suc place) =
    replayable-each lists rows (λ other within. each (suc other) (omega (arith, within))) place

-- what holds of the entries behind a front
pub entries-behind : (Holds : Entry Commit → Type 0) (front rest : Log) → All Holds (front ++ rest) → All Holds rest
entries-behind Holds front rest all =
    subst (All Holds) (drop-append_seam front rest) (All-drop Holds (length front) (front ++ rest) all)

-- ---- the lists of what entered the serial list behind a front of it

module _ (lists : Lists) (rows : List (List Commit)) (front rest : Log)
    (count : length rows ≡ length lists.tables.warehouses)
    (rows_are : (place : ℕ) → place < length rows → list_at rows place ≡ projection_of (suc place) rest) where
  named-there : All (λ (e : Entry Commit).
      are_warehouses (length lists.tables.warehouses) (warehouses_of_commit e.commit) ≡ true) rest
      → All (λ commit. names_one_of (length rows) commit ≡ true) (commits_in rest)
  named-there named =
      All-map (λ commit. names_one_of (length rows) commit ≡ true) (λ (e : Entry Commit). e.commit) rest
      (All-weaker (λ (e : Entry Commit).
      are_warehouses (length lists.tables.warehouses) (warehouses_of_commit e.commit) ≡ true)
      (λ (e : Entry Commit). names_one_of (length rows) e.commit ≡ true)
      (λ e are. ap (λ n. list_any (is_between 1 n) (warehouses_of_commit e.commit)) count
      ∙ one-of (length lists.tables.warehouses) (warehouses_of_commit e.commit) are) rest named)

  -- what can be run again in each list can be where it entered
  pub all-fit : All (λ (e : Entry Commit).
      are_warehouses (length lists.tables.warehouses) (warehouses_of_commit e.commit) ≡ true) rest
      → ((place : ℕ) → place < length rows → All (IsFit lists) (list_at rows place)) → AreFit lists rest
  all-fit named each =
      all-unmapped (λ (e : Entry Commit). e.commit) (IsFit lists) rest
      (all-below (λ place commit. names warehouses_of_commit (suc place) commit ≡ true → IsFit lists commit) (IsFit lists)
      (names_one_of (length rows)) (length rows) (commits_in rest)
      (λ commit one.
      let found = named-place (length rows) (warehouses_of_commit commit) one in
      (found.0, found.1, λ leads. leads found.2))
      (all-true (names_one_of (length rows)) (commits_in rest) (named-there named))
      (λ place within.
      all-filtered (IsFit lists) (names warehouses_of_commit (suc place)) (commits_in rest)
      (subst (All (IsFit lists)) (rows_are place within) (each place within))))

  -- none refuses to be run again
  module _ (fit : AreFit lists rest) where
    replayable-there : (place : ℕ) → are_replayable lists (projection_of (suc place) rest) ≡ true
    replayable-there place =
        all-true (is_replayable lists) (projection_of (suc place) rest)
        (All-filter (names warehouses_of_commit (suc place)) (λ commit. is_replayable lists commit ≡ true) (commits_in rest)
        (All-map (λ commit. is_replayable lists commit ≡ true) (λ (e : Entry Commit). e.commit) rest
        (All-weaker (λ (e : Entry Commit). IsFit lists e.commit) (λ (e : Entry Commit). is_replayable lists e.commit ≡ true)
        (λ e is. is.known) rest fit)))

    module _ (serial : IsSerial warehouses_of_commit number_of (length lists.tables.warehouses) (front ++ rest)) where
      abbrev crossings : List Commit
      crossings = crossings_of (commits_in rest)

      numbers-there : filter_map number_of crossings ≡ numbers_of warehouses_of_commit number_of rest
      numbers-there = numbers-kept (commits_in rest) ∙ numbers-of rest

      length-there : length crossings ≡ length (numbers_of warehouses_of_commit number_of rest)
      length-there = length-crossings (commits_in rest) ∙ ap length (numbers-of rest)

      numbered : filter_map number_of crossings ≡ range_with_len (suc (crossings_in front)) (length crossings)
      numbered =
          let before = numbers_of warehouses_of_commit number_of front in
          let behind = numbers_of warehouses_of_commit number_of rest in
          let whole = filter_map-append (λ (e : Entry Commit). number_of e.commit) front rest in
          let many : length (numbers_of warehouses_of_commit number_of (front ++ rest)) ≡ length before + length behind =
          ap length whole ∙ length-append before behind in
          let from : 1 + length before ≡ suc (crossings_in front) = omega arith in
          numbers-there
          ∙ range-behind before behind 1 (length (numbers_of warehouses_of_commit number_of (front ++ rest))) many
          (sym whole ∙ serial.numbered)
          ∙ ap (λ n. range_with_len n (length behind)) from
          ∙ ap (range_with_len (suc (crossings_in front))) (sym length-there)

      named-all : list_all (names_one_of (length rows)) crossings ≡ true
      named-all =
          all-true (names_one_of (length rows)) crossings
          (All-filter (λ commit. is_some (number_of commit)) (λ commit. names_one_of (length rows) commit ≡ true)
          (commits_in rest)
          (named-there (entries-behind (λ (e : Entry Commit).
          are_warehouses (length lists.tables.warehouses) (warehouses_of_commit e.commit) ≡ true) front rest serial.named)))

      pub sound-batch : IsSoundBatch lists (crossings_in front) (crossings_in (front ++ rest)) (of_second rows)
      sound-batch = record {
        count = count;
        in_step = record {
          crossings = crossings;
          numbered = numbered;
          named = named-all;
          each = λ place within.
              ap crossings_of (rows_are place within)
              ∙ filter-swap (λ commit. is_some (number_of commit)) (names warehouses_of_commit (suc place)) (commits_in rest);
          last = crossings-behind front rest;
        };
        replayable = replayable-each lists rows
            (λ place within. ap (are_replayable lists) (rows_are place within) ∙ replayable-there place);
      }

      -- ---- its bytes tell it

      fit-there : All (IsFit lists) (commits_in rest)
      fit-there = All-map (IsFit lists) (λ (e : Entry Commit). e.commit) rest fit

      marked-there : All (λ commit. is_number (number_of commit) ≡ is_crossing warehouses_of_commit commit) (commits_in rest)
      marked-there =
          All-map (λ commit. is_number (number_of commit) ≡ is_crossing warehouses_of_commit commit)
          (λ (e : Entry Commit). e.commit) rest
          (entries-behind (λ (e : Entry Commit).
          is_number (number_of e.commit) ≡ is_crossing warehouses_of_commit e.commit) front rest serial.marked)

      abbrev IsWithin : ℕ → Type 0
      IsWithin n = (1 ≤ n) × (n < 2 ^ 64)

      module _ (is_load : IsLoad lists) (small : length (front ++ rest) < 2 ^ 32) where
        numbers-within : All (OnNumber IsWithin) (commits_in rest)
        numbers-within =
            let few = numbers-few (λ (e : Entry Commit). number_of e.commit) (front ++ rest) in
            numbers-hold IsWithin (commits_in rest)
            (subst (All IsWithin) (sym numbered ∙ numbers-kept (commits_in rest))
            (range-within (suc (crossings_in front)) (length crossings) (2 ^ 64) (omega arith)
            (omega (arith, crossings-behind front rest, few, small))))

        told-there : (place : ℕ) → list_all (is_commit editions.Second (suc place)) (projection_of (suc place) rest) ≡ true
        told-there place =
            all-passing (names warehouses_of_commit (suc place)) (is_commit editions.Second (suc place)) (commits_in rest)
            (all-three (IsFit lists) (λ commit. is_number (number_of commit) ≡ is_crossing warehouses_of_commit commit)
            (OnNumber IsWithin) (λ commit. names warehouses_of_commit (suc place) commit ≡ true
            → is_commit editions.Second (suc place) commit ≡ true) (commits_in rest)
            (λ commit is marked within named. commit-told lists is_load (suc place) commit is named marked within)
            fit-there marked-there numbers-within)

        list-told : (place : ℕ) → place < length rows → is_list editions.Second (1 + place) (list_at rows place) ≡ true
        list-told place within =
            let next : suc place ≡ 1 + place = omega arith in
            let few : length (projection_of (suc place) rest) ≤ length (front ++ rest) =
            omega (
              arith,
              filter-few (names warehouses_of_commit (suc place)) (commits_in rest),
              length-map rest (λ (e : Entry Commit). e.commit),
              length-append front rest,
            ) in
            let first : fits 4 (length (projection_of (suc place) rest)) ≡ true =
            lt-ltb (length (projection_of (suc place) rest)) (256 ^ 4) (omega (arith, few, small)) in
            let all = told-there place in
            let both : is_list editions.Second (suc place) (projection_of (suc place) rest) ≡ true = rw (first, all) refl in
            subst (λ n. is_list editions.Second n (list_at rows place) ≡ true) next
            (ap (is_list editions.Second (suc place)) (rows_are place within) ∙ both)

        pub batch-told : is_batch (of_second rows) ≡ true
        batch-told =
            let ends : IsBetween 1 max_warehouses (length rows) =
            IsBetween-bounds 1 max_warehouses (length rows)
            (omega (arith, count, is_load.warehouses.whole))
            (omega (arith, count, few_warehouses lists.tables.warehouses is_load.warehouses)) in
            let lists_told = lists-told editions.Second 1 rows list-told in
            rw (ends, lists_told) refl
