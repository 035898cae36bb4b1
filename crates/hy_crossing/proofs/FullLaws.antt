-- A partition that is looked at stays where it is; which of the partitions are full, from a place on.
use Rattle.std.proofs.Common.{◌≡◌, ℕ, suc, ◌+◌, ◌<◌, ◌≤◌, ◌&&◌, ◌||◌, Bool, true, false, List, length, drop, slice_index_or, slice_set, refl, sym, ap, ◌∙◌, subst, arith}
use Rattle.std.proofs.lemmas.List.{drop_all, drop_more, set-get_or}
use Rattle.hy_commands.specs.declared.command.Command.{Command}
use Rattle.hy_partition.specs.Partition.{PartitionState}
use Rattle.hy_partition.specs.Steps.{is_full}
use Rattle.hy_crossing.specs.Crossings.{is_named, some_is_full}
use Rattle.hy_crossing.specs.Named.{places_before}
use Rattle.hy_crossing.proofs.NamedWalkLaws.{IsReached, at-end, at-next}
use Rattle.hy_crossing.proofs.TurnLaws.{some-row}
use Rattle.hy_crossing.proofs.WalkLaws.{start_of}

-- an element that stood at a place and is written back there
pub set-same : {Row : Type 0} (rows : List Row) (place : ℕ) (row : Row) → row ≡ slice_index_or rows place row
    → slice_set rows place row ≡ rows
set-same rows place row here = ap (slice_set rows place) here ∙ set-get_or rows place row

-- the one at a place, and those behind it
pub full-more : (command : Command) (place : ℕ) (rows : List PartitionState) (row : PartitionState)
    → place < length rows → some_is_full command (place + 1) (drop place rows)
    ≡ (is_named command (place + 1) && is_full (slice_index_or rows place row)
    || some_is_full command (place + 1 + 1) (drop (place + 1) rows))
full-more command place rows row within =
    let next : suc (place + 1) ≡ place + 1 + 1 = omega arith in
    subst (λ n. some_is_full command (place + 1) (drop place rows)
    ≡ (is_named command (place + 1) && is_full (slice_index_or rows place row)
    || some_is_full command n (drop (place + 1) rows))) next
    (ap (some_is_full command (place + 1)) (drop_more rows place row within))

-- a place that isn't both named and full is passed
passes : (command : Command) (place : ℕ) (rows : List PartitionState) (row : PartitionState) → place < length rows
    → is_named command (place + 1) && is_full (slice_index_or rows place row) ≡ false
    → some_is_full command (place + 1 + 1) (drop (place + 1) rows)
    ≡ some_is_full command (place + 1) (drop place rows)
passes command place rows row within is = sym (full-more command place rows row within
    ∙ ap (λ here. here || some_is_full command (place + 1 + 1) (drop (place + 1) rows)) is)

and_false : (b : Bool) → b && false ≡ false
and_false true = refl
and_false false = refl

pub passes-unnamed : (command : Command) (place : ℕ) (rows : List PartitionState) → place < length rows
    → is_named command (place + 1) ≡ false
    → some_is_full command (place + 1 + 1) (drop (place + 1) rows)
    ≡ some_is_full command (place + 1) (drop place rows)
passes-unnamed command place rows within unnamed =
    let row : PartitionState = some-row rows place within in
    passes command place rows row within (ap (λ named. named && is_full (slice_index_or rows place row)) unnamed)

pub passes-free : (command : Command) (place : ℕ) (rows : List PartitionState) (row : PartitionState)
    → place < length rows → row ≡ slice_index_or rows place row → is_full row ≡ false
    → some_is_full command (place + 1 + 1) (drop (place + 1) rows)
    ≡ some_is_full command (place + 1) (drop place rows)
passes-free command place rows row within here free =
    passes command place rows row within (ap (λ full. is_named command (place + 1) && full)
    (sym (ap is_full here) ∙ free) ∙ and_false (is_named command (place + 1)))

-- one that is named and full is found
pub full-here : (command : Command) (place : ℕ) (rows : List PartitionState) (row : PartitionState)
    → place < length rows → row ≡ slice_index_or rows place row → is_named command (place + 1) ≡ true → is_full row ≡ true
    → some_is_full command (place + 1) (drop place rows) ≡ true
full-here command place rows row within here named full =
    full-more command place rows row within
    ∙ ap (λ found. found || some_is_full command (place + 1 + 1) (drop (place + 1) rows))
    (ap (λ is. is && is_full (slice_index_or rows place row)) named ∙ sym (ap is_full here) ∙ full)

-- none is behind the last
pub full-past : (command : Command) (number place : ℕ) (rows : List PartitionState) → length rows ≤ place
    → some_is_full command number (drop place rows) ≡ false
full-past command number place rows past = ap (some_is_full command number) (drop_all place rows past)

-- ---- a walk over the places that a command names, of which none was full so far

module _ (command : Command) (rows : List PartitionState) (end : ℕ) (places : List ℕ)
    (are : places ≡ places_before command end) (index : ℕ) (all : end ≡ length rows) where
  abbrev Passing : ℕ → Type 0
  Passing place = some_is_full command (place + 1) (drop place rows) ≡ some_is_full command 1 rows

  still-passing : (place : ℕ) → place < end → is_named command (place + 1) ≡ false → Passing place → Passing (place + 1)
  still-passing place within unnamed passing =
      passes-unnamed command place rows (omega (arith, within, all)) unnamed ∙ passing

  pub passing-next : index < length places
      → some_is_full command (start_of places index + 1) (drop (start_of places index) rows) ≡ some_is_full command 1 rows
      → IsReached command end
      (λ place. some_is_full command (place + 1) (drop place rows) ≡ some_is_full command 1 rows)
      (slice_index_or places index 0)
  passing-next more passing = at-next command end places are index Passing still-passing more passing

  pub none-is-full : index ≤ length places → length places ≤ index
      → some_is_full command (start_of places index + 1) (drop (start_of places index) rows) ≡ some_is_full command 1 rows
      → some_is_full command 1 rows ≡ false
  none-is-full few last passing =
      sym (at-end command end places are index Passing still-passing few last passing)
      ∙ full-past command (end + 1) end rows (omega (arith, all))
