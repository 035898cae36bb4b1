-- What a commit, a fork and a close do to what the open snapshots spell.
use Rattle.std.proofs.Common.{◌≡◌, ℕ, ◌≤◌, List, ◌++◌, length, take, Option, Some, None, sym, ap, ◌∙◌, subst, arith, length-append}
use Rattle.std.specs.Prelude.{IsNone, IsSomeAnd, MatchOption}
use Rattle.std.proofs.lemmas.List.{take-append-le}
use Rattle.hy_rows.specs.Spelling.{Spells}
use Rattle.hy_rows.specs.Tables.{Tables}
use Rattle.hy_commands.specs.declared.command.Commit.{Commit}
use Rattle.hy_space.specs.Space.{child_bytes}
use Rattle.hy_layout.specs.Layout.{LayoutState, own_rows}
use Rattle.hy_commands.specs.Replay.{replay}
use Rattle.hy_partition.specs.Partition.{PartitionState, commits_of, layout_of, rows_after}
use Rattle.hy_partition.specs.Headline.{SpellsBeginning}

-- a snapshot with this number of commits and these bytes spells its beginning, in a list of so many commits
abbrev SpellsAt : ℕ → Option ℕ → Option (List (List (List ℕ))) → ℕ → (ℕ → Tables) → Type 0
SpellsAt n commits bytes all rows =
    MatchOption commits (IsNone bytes) (λ count. (count ≤ all) × IsSomeAnd bytes (λ spelled. Spells n spelled (rows count)))

spells_more : (n : ℕ) (commits : Option ℕ) (bytes : Option (List (List (List ℕ)))) (all more : ℕ) (rows others : ℕ → Tables)
    → all ≤ more → ((count : ℕ) → count ≤ all → others count ≡ rows count) → SpellsAt n commits bytes all rows
    → SpellsAt n commits bytes more others
spells_more n None bytes all more rows others longer same spells = spells
spells_more n (Some count) None all more rows others longer same spells = absurd spells.1
spells_more n (Some count) (Some spelled) all more rows others longer same spells = (
  omega (arith, spells.0),
  subst (λ (tables : Tables). Spells n spelled tables) (sym (same count spells.0)) spells.1,
)

-- the rows of a warehouse of a load after some commits
abbrev laid_rows : LayoutState → List Commit → Tables
laid_rows layout commits = replay layout.load layout.warehouse (own_rows layout) commits

-- a snapshot spells its beginning after more commits, if its bytes and its number of commits stay
module _ (n : ℕ) (old new : PartitionState) (layout : layout_of new ≡ layout_of old) (more : List Commit)
    (kept : new.kept ≡ old.kept ++ more) where
  rows_after-beginning : (count : ℕ) → count ≤ length old.kept
      → rows_after new (take count new.kept) ≡ rows_after old (take count old.kept)
  rows_after-beginning count within =
      ap (λ l. laid_rows l (take count new.kept)) layout
      ∙ ap (rows_after old) (ap (take count) kept ∙ take-append-le count old.kept more within)

  -- another one may have them too
  pub spells-from : (child from : ℕ) → commits_of new child ≡ commits_of old from
      → child_bytes new.space child ≡ child_bytes old.space from → SpellsBeginning n old from
      → SpellsBeginning n new child
  spells-from child from commits_same bytes_same spells =
      let longer : length old.kept ≤ length new.kept = omega (arith, ap length kept, length-append old.kept more) in
      let rows : ℕ → Tables = λ count. rows_after new (take count new.kept) in
      let more_rows = spells_more n (commits_of old from) (child_bytes old.space from) (length old.kept) (length new.kept)
      (λ count. rows_after old (take count old.kept)) rows longer rows_after-beginning spells in
      subst (λ (commits : Option ℕ). SpellsAt n commits (child_bytes new.space child) (length new.kept) rows) (sym commits_same)
      (subst (λ (bytes : Option (List (List (List ℕ)))). SpellsAt n (commits_of old from) bytes (length new.kept) rows)
      (sym bytes_same) more_rows)

  pub spells-kept_more : (child : ℕ) → commits_of new child ≡ commits_of old child
      → child_bytes new.space child ≡ child_bytes old.space child → SpellsBeginning n old child
      → SpellsBeginning n new child
  spells-kept_more child commits_same bytes_same spells = spells-from child child commits_same bytes_same spells
