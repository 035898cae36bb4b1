-- What a drain gives goes on behind the batches before it.
use Rattle.std.proofs.Common.{◌≡◌, ℕ, zero, suc, ◌+◌, ◌^◌, ◌<◌, ◌≤◌, Bool, true, List, [], ◌∷◌, ◌++◌, drop, length, map, Some, refl, sym, ap, ◌∙◌, subst, arith, lit<}
use Rattle.std.specs.Prelude.{◌&&◌, All, IfSome, None, Option, nat_le, slice_get, slice_index_or}
use Rattle.std.specs.List.{list_all, range_with_len}
use mathlib.Core.List.{IsPrefix}
use Rattle.std.proofs.Math.Seq.{drop-append_seam}
use Rattle.std.proofs.lemmas.Bool.{and_from, and_parts, le-leb, leb-true, ltb-true}
use Rattle.std.proofs.lemmas.Grind.{flat_map-append}
use Rattle.std.proofs.lemmas.List.{append-nil, length-drop, length-map}
use Rattle.std.proofs.lemmas.List.Elements.{All-filter, All-nil, All-weaker}
use Rattle.hy_rows.specs.Limits.{max_warehouses}
use Rattle.hy_rows.specs.Ranges.{is_between}
use Rattle.hy_rows.specs.Tables.{Lists}
use Rattle.hy_rows.proofs.BetweenLaws.{IsBetween-bounds}
use Rattle.hy_schema.specs.Loads.{IsLoad}
use Rattle.hy_loads.proofs.ThereLaws.{few_warehouses}
use Rattle.hy_passes.specs.SerialList.{IsSerial, are_warehouses, names, numbers_of}
use Rattle.hy_passes.specs.declared.entry.Entry.{Entry}
use Rattle.hy_commands.specs.declared.command.Commit.{Commit}
use Rattle.hy_commands.specs.declared.command.Commit.TheVariants as commits
use Rattle.hy_commands.specs.declared.edition.Edition.{Edition}
use Rattle.hy_commands.specs.declared.edition.Edition.TheVariants as editions
use Rattle.hy_commands.specs.Commands.{number_of, warehouses_of_commit}
use Rattle.hy_batches.specs.Batches.{Batch, may_follow}
use Rattle.hy_batches.specs.Grammar.{are_lists, fits, is_batch, is_commit, is_list, last_edition}
use Rattle.hy_batches.proofs.LogLaws.{batches-more}
use Rattle.hy_crossing.specs.of_partition.Jobs.{Log}
use Rattle.hy_crossing.specs.of_partition.Limits.{most_kept}
use Rattle.hy_crossing.specs.of_partition.Partition.{PartitionState, is_new, may_be_kept, projection_of}
use Rattle.hy_crossing.specs.Crossings.{ArePartitions, IsPartition, commits_in}
use Rattle.hy_crossing.proofs.PlaceLaws.{get-some}
use Rattle.hy_sound.specs.Sound.{AreSound, list_at}
use Rattle.hy_sound.proofs.SoundLaws.{sound-more}
use Rattle.hy_forks.specs.Drains.{drained_of, kept_behind}
use Rattle.hy_forks.specs.Histories.{IsOneHistory}
use Rattle.hy_forks.specs.Logged.{SaySame, crossings_in, joined}
use Rattle.hy_forks.specs.inside.Copies.{are_drained, counts_from_one, has_number, is_drained, may_be_drained}
use Rattle.hy_forks.proofs.BatchLaws.{all-fit, entries-behind, of_second, sound-batch}
use Rattle.hy_forks.proofs.DrainLaws.{all-later}
use Rattle.hy_forks.proofs.FitsLaws.{AreFit, IsFit, fits-below, kept-fit, kept-told}
use Rattle.hy_forks.proofs.NumberLaws.{OnNumber, all-lead, all-pass, all-true, numbers-hold, numbers-of, projection-behind, range-within}

-- ---- numbers

from-one : (commit : Commit) → OnNumber (λ n. 1 ≤ n) commit → counts_from_one commit ≡ true
from-one (commits.Local edition command) holds = refl
from-one (commits.Cross edition number command) holds = le-leb 1 number holds

on-number : (commit : Commit) → counts_from_one commit ≡ true → has_number commit ≡ true
    → OnNumber (λ n. (1 ≤ n) × (n < 2 ^ 64)) commit
on-number (commits.Local edition command) first small = tt
on-number (commits.Cross edition number command) first small =
    (leb-true 1 number first, ltb-true number (256 ^ 8) small)

-- the kept lists of one history count from one on
module _ (partitions : ℕ) (log : Log) (parts : List PartitionState) (history : IsOneHistory partitions log parts) where
  numbers-there : All (OnNumber (λ n. 1 ≤ n)) (commits_in log)
  numbers-there =
      let count = length (numbers_of warehouses_of_commit number_of log) in
      numbers-hold (λ n. 1 ≤ n) (commits_in log)
      (subst (All (λ n. 1 ≤ n)) (sym history.serial.numbered ∙ sym (numbers-of log))
      (All-weaker (λ n. (1 ≤ n) × (n < 1 + count)) (λ n. 1 ≤ n) (λ n is. is.0) (range_with_len 1 count)
      (range-within 1 count (1 + count) (omega arith) (omega arith))))

  counted-there : (warehouse : ℕ) → list_all counts_from_one (projection_of warehouse log) ≡ true
  counted-there warehouse =
      all-true counts_from_one (projection_of warehouse log)
      (All-filter (names warehouses_of_commit warehouse) (λ commit. counts_from_one commit ≡ true) (commits_in log)
      (All-weaker (OnNumber (λ n. 1 ≤ n)) (λ commit. counts_from_one commit ≡ true) from-one (commits_in log) numbers-there))

  counted-in : (warehouse : ℕ) (found : Option PartitionState) → IfSome found (λ p. p.kept ≡ projection_of warehouse log)
      → IfSome found (λ p. list_all counts_from_one p.kept ≡ true)
  counted-in warehouse None kept = tt
  counted-in warehouse (Some p) kept = ap (list_all counts_from_one) kept ∙ counted-there warehouse

  pub kept-numbered : (place : ℕ) → IfSome (slice_get parts place) (λ p. list_all counts_from_one p.kept ≡ true)
  kept-numbered place = counted-in (suc place) (slice_get parts place) (history.kept place)

-- ---- what was copied

all-drained : (lists : Lists) (warehouse : ℕ) (rows : List Commit)
    → list_all (may_be_kept lists warehouse) rows ≡ true → list_all is_new rows ≡ true
    → list_all counts_from_one rows ≡ true → list_all has_number rows ≡ true
    → list_all (may_be_drained lists warehouse) rows ≡ true
all-drained lists warehouse [] kept new first numbers = refl
all-drained lists warehouse (row ∷ rows) kept new first numbers =
    let a = and_parts (may_be_kept lists warehouse row) (list_all (may_be_kept lists warehouse) rows) kept in
    let b = and_parts (is_new row) (list_all is_new rows) new in
    let c = and_parts (counts_from_one row) (list_all counts_from_one rows) first in
    let d = and_parts (has_number row) (list_all has_number rows) numbers in
    and_from (may_be_drained lists warehouse row) (list_all (may_be_drained lists warehouse) rows)
    (and_from (may_be_kept lists warehouse row && is_new row && counts_from_one row) (has_number row)
    (and_from (may_be_kept lists warehouse row && is_new row) (counts_from_one row)
    (and_from (may_be_kept lists warehouse row) (is_new row) a.0 b.0) c.0) d.0)
    (all-drained lists warehouse rows a.1 b.1 c.1 d.1)

-- what a partition has kept behind so many commits, copied
pub part-drained : (lists : Lists) (warehouse passed replayed : ℕ) (kept rows : List Commit) → rows ≡ drop passed kept
    → list_all has_number rows ≡ true → length kept ≤ most_kept → replayed ≤ passed
    → list_all (may_be_kept lists warehouse) kept ≡ true → list_all is_new (drop replayed kept) ≡ true
    → list_all counts_from_one kept ≡ true → is_drained lists warehouse rows ≡ true
part-drained lists warehouse passed replayed kept rows are numbers few far known new first =
    let fewer : length rows ≤ most_kept = omega (arith, few, ap length are, length-drop passed kept) in
    let behind : (test : Commit → Bool) → list_all test (drop passed kept) ≡ true → list_all test rows ≡ true =
    λ test holds. ap (list_all test) are ∙ holds in
    let small : 0 ≤ passed = omega arith in
    and_from (nat_le (length rows) most_kept) (list_all (may_be_drained lists warehouse) rows)
    (le-leb (length rows) most_kept fewer)
    (all-drained lists warehouse rows
    (behind (may_be_kept lists warehouse) (all-later (may_be_kept lists warehouse) 0 passed kept small known))
    (behind is_new (all-later is_new replayed passed kept far new))
    (behind counts_from_one (all-later counts_from_one 0 passed kept small first)) numbers)

-- what the test of a commit says
record IsDrained (lists : Lists) (warehouse : ℕ) (commit : Commit) : Type 0 where
  kept : may_be_kept lists warehouse commit ≡ true
  new : is_new commit ≡ true
  first : counts_from_one commit ≡ true
  number : has_number commit ≡ true

is-drained : (lists : Lists) (warehouse : ℕ) (commit : Commit) → may_be_drained lists warehouse commit ≡ true
    → IsDrained lists warehouse commit
is-drained lists warehouse commit may =
    let last = and_parts (may_be_kept lists warehouse commit && is_new commit && counts_from_one commit) (has_number commit)
    may in
    let third = and_parts (may_be_kept lists warehouse commit && is_new commit) (counts_from_one commit) last.0 in
    let first = and_parts (may_be_kept lists warehouse commit) (is_new commit) third.0 in
    record { kept = first.0; new = first.1; first = third.1; number = last.1 }

-- one list more
pub drained-pushed : (lists : Lists) (number : ℕ) (rows : List (List Commit)) (row : List Commit)
    → are_drained lists number rows ≡ true → is_drained lists (number + length rows) row ≡ true
    → are_drained lists number (rows ++ row ∷ []) ≡ true
drained-pushed lists number [] row before one =
    let same : number + 0 ≡ number = omega arith in
    and_from (is_drained lists number row) true (subst (λ n. is_drained lists n row ≡ true) same one) refl
drained-pushed lists number (first ∷ rows) row before one =
    let parts = and_parts (is_drained lists number first) (are_drained lists (suc number) rows) before in
    let next : number + suc (length rows) ≡ suc number + length rows = omega arith in
    and_from (is_drained lists number first) (are_drained lists (suc number) (rows ++ row ∷ [])) parts.0
    (drained-pushed lists (suc number) rows row parts.1 (subst (λ n. is_drained lists n row ≡ true) next one))

-- all are new
pub drained-new : (lists : Lists) (number : ℕ) (rows : List (List Commit)) → are_drained lists number rows ≡ true
    → list_all (list_all is_new) rows ≡ true
drained-new lists number [] drained = refl
drained-new lists number (row ∷ rows) drained =
    let parts = and_parts (is_drained lists number row) (are_drained lists (suc number) rows) drained in
    let all = (and_parts (nat_le (length row) most_kept) (list_all (may_be_drained lists number) row) parts.0).1 in
    and_from (list_all is_new row) (list_all (list_all is_new) rows)
    (all-pass (may_be_drained lists number) is_new row (λ commit may. (is-drained lists number commit may).new) all)
    (drained-new lists (suc number) rows parts.1)

-- all can be run again
pub drained-fit : (lists : Lists) (number : ℕ) (rows : List (List Commit)) → are_drained lists number rows ≡ true
    → (place : ℕ) → place < length rows → All (IsFit lists) (list_at rows place)
drained-fit lists number [] drained place within = absurd (omega (arith, within))
drained-fit lists number (row ∷ rows) drained zero within =
    let parts = and_parts (is_drained lists number row) (are_drained lists (suc number) rows) drained in
    let all = (and_parts (nat_le (length row) most_kept) (list_all (may_be_drained lists number) row) parts.0).1 in
    all-lead (may_be_drained lists number) (IsFit lists) row
    (λ commit may. let is = is-drained lists number commit may in kept-fit lists number commit is.kept is.new) all
drained-fit lists number (row ∷ rows) drained (suc place) within =
    let parts = and_parts (is_drained lists number row) (are_drained lists (suc number) rows) drained in
    drained-fit lists (suc number) rows parts.1 place (omega (arith, within))

-- they are a batch
module _ (lists : Lists) (is_load : IsLoad lists) where
  list-told : (warehouse : ℕ) (row : List Commit) → is_drained lists warehouse row ≡ true
      → is_list editions.Second warehouse row ≡ true
  list-told warehouse row drained =
      let both = and_parts (nat_le (length row) most_kept) (list_all (may_be_drained lists warehouse) row) drained in
      and_from (fits 4 (length row)) (list_all (is_commit editions.Second warehouse) row)
      (fits-below 4 (length row) most_kept (leb-true (length row) most_kept both.0) (lit< tt))
      (all-pass (may_be_drained lists warehouse) (is_commit editions.Second warehouse) row
      (λ commit may.
      let is = is-drained lists warehouse commit may in
      kept-told lists is_load warehouse commit is.kept is.new (on-number commit is.first is.number)) both.1)

  lists-told : (number : ℕ) (rows : List (List Commit)) → are_drained lists number rows ≡ true
      → are_lists editions.Second number rows ≡ true
  lists-told number [] drained = refl
  lists-told number (row ∷ rows) drained =
      let parts = and_parts (is_drained lists number row) (are_drained lists (suc number) rows) drained in
      let next : suc number ≡ number + 1 = omega arith in
      and_from (is_list editions.Second number row) (are_lists editions.Second (number + 1) rows)
      (list-told number row parts.0)
      (subst (λ n. are_lists editions.Second n rows ≡ true) next (lists-told (suc number) rows parts.1))

  pub drained-batch : (rows : List (List Commit)) → length rows ≡ length lists.tables.warehouses
      → are_drained lists 1 rows ≡ true → is_batch (of_second rows) ≡ true
  drained-batch rows count drained =
      and_from (is_between 1 max_warehouses (length rows)) (are_lists editions.Second 1 rows)
      (IsBetween-bounds 1 max_warehouses (length rows) (omega (arith, count, is_load.warehouses.whole))
      (omega (arith, count, few_warehouses lists.tables.warehouses is_load.warehouses)))
      (lists-told 1 rows drained)

-- ---- behind the batches before

-- one of the second edition may stand behind any
pub second-follows : (edition : Edition) → may_follow edition editions.Second ≡ true
second-follows editions.First = refl
second-follows editions.Second = refl

pub joined-more : (batches : List Batch) (batch : Batch) (place : ℕ)
    → joined (batches ++ batch ∷ []) place ≡ joined batches place ++ list_at batch.lists place
joined-more batches batch place =
    flat_map-append (λ (batch : Batch). list_at batch.lists place) batches (batch ∷ [])
    ∙ ap (λ rows. joined batches place ++ rows) (append-nil (list_at batch.lists place))

-- what is mapped stands at its place
pub get-mapped : {Row Other : Type 0} (f : Row → List Other) (rows : List Row) (place : ℕ) (row : Row)
    → slice_get rows place ≡ Some row → slice_index_or (map f rows) place [] ≡ f row
get-mapped f [] place row at = absurd (cc)
get-mapped f (first ∷ rows) zero row at = let same : first ≡ row = cc in ap f same
get-mapped f (first ∷ rows) (suc place) row at = get-mapped f rows place row at

-- lists of what entered the serial list behind a front, behind batches that say the same as that
module _ (lists : Lists) (rows : List (List Commit)) (front rest : Log) (batches : List Batch)
    (count : length rows ≡ length lists.tables.warehouses)
    (rows_are : (place : ℕ) → place < length rows → list_at rows place ≡ projection_of (suc place) rest)
    (fit : AreFit lists rest)
    (serial : IsSerial warehouses_of_commit number_of (length lists.tables.warehouses) (front ++ rest))
    (told : is_batch (of_second rows) ≡ true) (same : SaySame lists batches front) where
  last-is : same.numbers.0 ≡ crossings_in front
  last-is = omega (arith, same.numbers.2)

  pub same-behind : SaySame lists (batches ++ of_second rows ∷ []) (front ++ rest)
  same-behind = record {
    serial = serial;
    told = batches-more editions.First batches (of_second rows) same.told told
        (second-follows (last_edition editions.First batches));
    numbers = (
      crossings_in (front ++ rest),
      sound-more lists 0 (crossings_in front) (crossings_in (front ++ rest)) batches (of_second rows)
          (subst (λ n. AreSound lists 0 n batches) last-is same.numbers.1)
          (sound-batch lists rows front rest count rows_are fit serial),
      omega arith,
    );
    joined_are = λ place within.
        joined-more batches (of_second rows) place
        ∙ ap (λ front. front ++ list_at rows place) (same.joined_are place within)
        ∙ ap (λ rest. projection_of (suc place) front ++ rest) (rows_are place (omega (arith, within, count)))
        ∙ sym (projection-behind (suc place) front rest);
  }

-- what was drained
module _ (lists : Lists) (front rest : Log) (parts : List PartitionState) (are : ArePartitions lists parts)
    (history : IsOneHistory (length lists.tables.warehouses) (front ++ rest) parts) where
  rows-are : (place : ℕ) → place < length (map (kept_behind front) parts)
      → list_at (map (kept_behind front) parts) place ≡ projection_of (suc place) rest
  rows-are place within =
      let found = get-some parts place (omega (arith, within, length-map parts (kept_behind front))) in
      let p = found.0 in
      let is : IsPartition lists (suc place) p =
      subst (λ (found : Option PartitionState). IfSome found (IsPartition lists (suc place))) found.1 (are.each place) in
      let kept : p.kept ≡ projection_of (suc place) (front ++ rest) =
      subst (λ (found : Option PartitionState). IfSome found (λ p. p.kept ≡ projection_of (suc place) (front ++ rest))) found.1
      (history.kept place) in
      get-mapped (kept_behind front) parts place p found.1
      ∙ ap (λ w. drop (length (projection_of w front)) p.kept) is.1
      ∙ ap (drop (length (projection_of (suc place) front))) (kept ∙ projection-behind (suc place) front rest)
      ∙ drop-append_seam (projection_of (suc place) front) (projection_of (suc place) rest)

  pub behind-drained : (batches : List Batch) → are_drained lists 1 (drained_of front parts).lists ≡ true
      → is_batch (drained_of front parts) ≡ true → SaySame lists batches front
      → SaySame lists (batches ++ drained_of front parts ∷ []) (front ++ rest)
  behind-drained batches drained told same =
      let rows = map (kept_behind front) parts in
      let count : length rows ≡ length lists.tables.warehouses = length-map parts (kept_behind front) ∙ are.count in
      let named = entries-behind (λ (e : Entry Commit).
      are_warehouses (length lists.tables.warehouses) (warehouses_of_commit e.commit) ≡ true) front rest history.serial.named in
      same-behind lists rows front rest batches count rows-are
      (all-fit lists rows front rest count rows-are named (drained-fit lists 1 rows drained)) history.serial told same

pub drain-follows : (lists : Lists) (partitions : ℕ) (seen log : Log) (parts : List PartitionState) (batch : Batch)
    → IsPrefix seen log → ArePartitions lists parts → IsOneHistory partitions log parts → batch ≡ drained_of seen parts
    → are_drained lists 1 batch.lists ≡ true → is_batch batch ≡ true → partitions ≡ length lists.tables.warehouses
    → (batches : List Batch) → SaySame lists batches seen → SaySame lists (batches ++ batch ∷ []) log
drain-follows lists partitions seen log parts batch begins are history is drained told count batches same =
    let rest = begins.0 in
    let one : IsOneHistory (length lists.tables.warehouses) (seen ++ rest) parts =
    subst (λ l. IsOneHistory (length lists.tables.warehouses) l parts) (sym begins.1)
    (subst (λ n. IsOneHistory n log parts) count history) in
    subst (λ l. SaySame lists (batches ++ batch ∷ []) l) begins.1
    (subst (λ b. SaySame lists (batches ++ b ∷ []) (seen ++ rest)) (sym is)
    (behind-drained lists seen rest parts are one batches
    (subst (λ (b : Batch). are_drained lists 1 b.lists ≡ true) is drained)
    (subst (λ b. is_batch b ≡ true) is told) same))

-- ---- the begin of a log

pub nothing-same : (lists : Lists) → SaySame lists [] []
nothing-same lists = record {
  serial = record { named = All-nil _; marked = All-nil _; numbered = refl; stamped = refl };
  told = refl;
  numbers = (0, refl, refl);
  joined_are = λ place within. refl;
}
