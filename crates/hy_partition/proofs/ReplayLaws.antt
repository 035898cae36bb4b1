-- What holds of the rows after a list of commits.
use Rattle.std.proofs.Common.{◌≡◌, ℕ, zero, suc, ◌+◌, ◌-◌, ◌<◌, ◌≤◌, inl, Bool, true, false, cond, List, [], ◌∷◌, ◌++◌, length, Option, Some, None, refl, sym, ap, ◌∙◌, subst, arith}
use Rattle.std.specs.Prelude.{◌&&◌}
use Rattle.std.specs.Option.{option_or}
use Rattle.std.proofs.lemmas.List.{append-nil}
use Rattle.std.proofs.lemmas.List.Sums.{fold-append}
use Rattle.hy_rows.specs.declared.item.Item.{Item}
use Rattle.hy_rows.specs.Ranges.{IsBetween}
use Rattle.hy_rows.specs.Tables.{Lists, Tables, of_warehouse}
use Rattle.hy_schema.specs.Loads.{IsLoad}
use Rattle.hy_schema.specs.declared.refusal.Refusal.{Refusal}
use Rattle.hy_commands.specs.declared.command.Command.{Command}
use Rattle.hy_commands.specs.declared.command.Commit.{Commit}
use Rattle.hy_commands.specs.declared.command.Commit.TheVariants as commits
use Rattle.hy_commands.specs.declared.edition.Edition.{Edition}
use Rattle.hy_commands.specs.Commands.{is_reader, kept_of, slice_count}
use Rattle.hy_commands.specs.Growth.{HasGrownBy}
use Rattle.hy_commands.specs.Invariant.{IsSoundWarehouse}
use Rattle.hy_commands.specs.Parts.{database_of, part, part_unless, refusal_in}
use Rattle.hy_commands.specs.Replay.{committed, replay}
use Rattle.hy_commands.specs.Transactions.{Outcome, accepted, act, begin_refusal_of, outcome_of, refusal_of}
use Rattle.hy_commands.proofs.Grown.{grown-rows}
use Rattle.hy_commands.proofs.GrowthLaws.{grown-later}
use Rattle.hy_commands.proofs.Kept.{sound-rows as sound-committed_rows}
use Rattle.hy_database.proofs.PartLaws.{reader-leaves}
use Rattle.hy_slices.specs.Slices.{after_slices, has_item_at, has_items_before}
use Rattle.hy_slices.proofs.GrowingSlices.{grown-between}
use Rattle.hy_slices.proofs.SliceLaws.{slices-act, slices-refused}
use Rattle.hy_layout.specs.Layout.{KeepsPlaces}
use Rattle.hy_tpcc.specs.Limits.{AreInBounds, most_applied}
use Rattle.hy_tpcc.specs.Executor.{StaysInBounds}
use Rattle.hy_tpcc.proofs.KeepsLaws.{keeps-part, keeps-slices}

-- a command that isn't refused is begun
pub begun-accepted : (items : List Item) (number : ℕ) (command : Command) (tables : Tables)
    → refusal_of items number command tables ≡ None → begin_refusal_of number command tables ≡ None
begun-accepted items number command tables accepted = first (begin_refusal_of number command tables) _ accepted
  where
    first : (one other : Option Refusal) → option_or one other ≡ None → one ≡ None
    first None other none = refl
    first (Some refusal) other none = absurd (cc)

-- where not all items are there that the first slices ask for, one of them asks for such an item
pub first_missing : (items : List Item) (command : Command) (count : ℕ) → has_items_before items command count ≡ false
    → (done : ℕ) × (done < count) × (has_item_at items command done ≡ false)
first_missing items command zero missing = absurd (cc)
first_missing items command (suc count) missing =
    elim (has_item_at items command count) as (λ b. has_item_at items command count ≡ b
    → (done : ℕ) × (done < suc count) × (has_item_at items command done ≡ false)) [
      | false ↦ λ here. (count, omega arith, here)
      | true ↦ λ here.
          let known = has_items_before items command count in
          let before : known ≡ false = left known (subst (λ b. known && b ≡ false) here missing) in
          let found = first_missing items command count before in
          (found.0, omega (arith, found.1), found.2)
    ] refl
  where
    left : (known : Bool) → known && true ≡ false → known ≡ false
    left false none = refl
    left true none = none

pub known-accepted : (items : List Item) (number : ℕ) (command : Command) (tables : Tables)
    → refusal_of items number command tables ≡ None → has_items_before items command (slice_count command) ≡ true
known-accepted items number command tables accepted =
    elim (has_items_before items command (slice_count command)) as
    (λ b. has_items_before items command (slice_count command) ≡ b → b ≡ true) [
      | true ↦ λ known. refl
      | false ↦ λ missing.
          let found = first_missing items command (slice_count command) missing in
          let refused = slices-refused items number command tables found.0
          (begun-accepted items number command tables accepted) (λ there. absurd (differ there found.2)) in
          absurd (none_some accepted refused)
    ] refl
  where
    differ : {b : Bool} → b ≡ true → b ≡ false → ⊥
    differ here missing = let both : true ≡ false = sym here ∙ missing in absurd (cc)

    none_some : {r : Option Refusal} {refusal : Refusal} → r ≡ None → r ≡ Some refusal → ⊥
    none_some none some = cc

-- a command that isn't refused has its outcome
pub act-accepted : (items : List Item) (number : ℕ) (edition : Edition) (command : Command) (tables : Tables)
    → refusal_of items number command tables ≡ None
    → act items number edition command tables ≡ accepted items number edition command tables
act-accepted items number edition command tables accepted =
    ap (λ refusal. outcome_of refusal items number edition command tables) accepted

-- a command leaves customers and stock at their places
pub keeps-act : (loaded : Tables) (items : List Item) (number : ℕ) (edition : Edition) (command : Command) (tables : Tables)
    → KeepsPlaces loaded tables → KeepsPlaces loaded (act items number edition command tables).tables
keeps-act loaded items number edition command tables keeps =
    elim (refusal_of items number command tables) as (λ r. refusal_of items number command tables ≡ r
    → KeepsPlaces loaded (outcome_of r items number edition command tables).tables) [
      | Some refusal ↦ λ refused. keeps
      | None ↦ λ accepted.
          let done = slices-act items number edition command tables (begun-accepted items number command tables accepted)
          (known-accepted items number command tables accepted) in
          subst (KeepsPlaces loaded)
          (done ∙ ap (λ (o : Outcome). o.tables) (act-accepted items number edition command tables accepted))
          (keeps-slices loaded items number edition command (slice_count command) tables keeps)
    ] refl

-- and so does the part of one over several warehouses
keeps-crossed : (loaded : Tables) (lists : Lists) (number : ℕ) (edition : Edition) (command : Command)
    (tables : Tables) (refusal : Option Refusal) → KeepsPlaces loaded tables
    → KeepsPlaces loaded (part_unless refusal lists.items number edition command tables)
keeps-crossed loaded lists number edition command tables (Some refusal) keeps = keeps
keeps-crossed loaded lists number edition command tables None keeps =
    keeps-part loaded lists.items number edition command tables keeps

pub keeps-replay : (loaded : Tables) (lists : Lists) (number : ℕ) (tables : Tables) (kept : List Commit)
    → KeepsPlaces loaded tables → KeepsPlaces loaded (replay lists number tables kept)
keeps-replay loaded lists number tables [] keeps = keeps
keeps-replay loaded lists number tables (commits.Local edition command ∷ kept) keeps =
    keeps-replay loaded lists number (act lists.items number edition command tables).tables kept
    (keeps-act loaded lists.items number edition command tables keeps)
keeps-replay loaded lists number tables (commits.Cross edition crossing command ∷ kept) keeps =
    keeps-replay loaded lists number (committed lists number tables (commits.Cross edition crossing command)) kept
    (keeps-crossed loaded lists number edition command tables (refusal_in (database_of lists) command) keeps)

-- the replay of what a command adds to the kept list
pub replay-append : (lists : Lists) (number : ℕ) (loaded : Tables) (kept : List Commit) (edition : Edition)
    (command : Command)
    → replay lists number loaded (kept ++ commits.Local edition command ∷ [])
    ≡ (act lists.items number edition command (replay lists number loaded kept)).tables
replay-append lists number loaded kept edition command =
    fold-append (committed lists number) loaded kept (commits.Local edition command ∷ [])

-- the same of one over several warehouses, which the database doesn't refuse
pub replay-crossed : (lists : Lists) (number : ℕ) (loaded : Tables) (kept : List Commit) (crossing : ℕ)
    (edition : Edition) (command : Command) → refusal_in (database_of lists) command ≡ None
    → replay lists number loaded (kept ++ commits.Cross edition crossing command ∷ [])
    ≡ part lists.items number edition command (replay lists number loaded kept)
replay-crossed lists number loaded kept crossing edition command accepted =
    fold-append (committed lists number) loaded kept (commits.Cross edition crossing command ∷ [])
    ∙ ap (λ refusal. part_unless refusal lists.items number edition command (replay lists number loaded kept)) accepted

-- a command that only reads leaves the rows
pub act-reader : (items : List Item) (number : ℕ) (edition : Edition) (command : Command) (tables : Tables)
    → is_reader command ≡ true → (act items number edition command tables).tables ≡ tables
act-reader items number edition command tables reads =
    elim (refusal_of items number command tables) as
    (λ r. (outcome_of r items number edition command tables).tables ≡ tables) [
      | Some refusal ↦ refl
      | None ↦ reader-leaves items number edition command tables reads
    ]

pub replay-kept_of : (lists : Lists) (number : ℕ) (loaded : Tables) (kept : List Commit) (edition : Edition)
    (command : Command)
    → replay lists number loaded (kept ++ kept_of edition command)
    ≡ (act lists.items number edition command (replay lists number loaded kept)).tables
replay-kept_of lists number loaded kept edition command =
    elim (is_reader command) as (λ b. is_reader command ≡ b
    → replay lists number loaded (kept ++ cond b [] (commits.Local edition command ∷ []))
    ≡ (act lists.items number edition command (replay lists number loaded kept)).tables) [
      | true ↦ λ reads.
          ap (replay lists number loaded) (append-nil kept)
          ∙ sym (act-reader lists.items number edition command (replay lists number loaded kept) reads)
      | false ↦ λ writes. replay-append lists number loaded kept edition command
    ] refl

-- with more commits rows may have grown further
pub grown-more : (n more : ℕ) (tables : Tables) → HasGrownBy n tables → HasGrownBy (n + more) tables
grown-more n zero tables grown = let same : n ≡ n + zero = omega arith in subst (λ k. HasGrownBy k tables) same grown
grown-more n (suc more) tables grown =
    let next : n + more + 1 ≡ n + suc more = omega arith in
    subst (λ k. HasGrownBy k tables) next (grown-later (n + more) tables (grown-more n more tables grown))

pub grown-within : (n most : ℕ) (tables : Tables) → n ≤ most → HasGrownBy n tables → HasGrownBy most tables
grown-within n most tables within grown =
    let all : n + (most - n) ≡ most = omega (arith, within) in
    subst (λ k. HasGrownBy k tables) all (grown-more n (most - n) tables grown)

-- the rows of a warehouse of a load after so many commits
module _ (lists : Lists) (number : ℕ) (kept : List Commit) (is_load : IsLoad lists)
    (between : IsBetween 1 (length lists.tables.warehouses) number) where
  abbrev pub rows : Tables
  rows = replay lists number (of_warehouse number lists.tables) kept

  pub sound-rows : IsSoundWarehouse lists.items number rows
  sound-rows = sound-committed_rows lists number kept is_load between

  pub places-rows : KeepsPlaces (of_warehouse number lists.tables) rows
  places-rows =
      keeps-replay (of_warehouse number lists.tables) lists number (of_warehouse number lists.tables) kept
      (record { customers = refl; stock = refl })

  pub bounds-rows : length kept < most_applied → AreInBounds rows
  bounds-rows few =
      grown-within (length kept) most_applied rows (omega (arith, few)) (grown-rows lists number kept is_load between)

  -- one commit more may be kept
  pub grown-now : length kept < most_applied → HasGrownBy 100_000_000 rows
  grown-now few = grown-within (length kept) 100_000_000 rows (omega (arith, few)) (grown-rows lists number kept is_load between)

  pub stays_in_bounds : (edition : Edition) (command : Command) → length kept < most_applied
      → begin_refusal_of number command rows ≡ None → StaysInBounds (record { load = lists; warehouse = number }) edition command rows
  stays_in_bounds edition command few begins = λ done within known.
      grown-within (length kept + 1) most_applied (after_slices lists.items number edition command done rows)
      (omega (arith, few)) (grown-between lists is_load number kept edition command done between (inl begins) within known)
