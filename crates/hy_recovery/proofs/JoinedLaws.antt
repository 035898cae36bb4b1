-- The batches of a log one behind another.
use Rattle.std.proofs.Common.{◌≡◌, ◌<◌, ◌≤◌, ◌+◌, ◌&&◌, ℕ, zero, suc, true, List, [], ◌∷◌, ◌++◌, take, drop, length, Option, Some, None, refl, sym, ap, ◌∙◌, subst, arith, length-append}
use Rattle.std.specs.Prelude.{IfSome, IsSomeAnd, slice_get, slice_index_or}
use Rattle.std.specs.List.{list_all}
use Rattle.std.proofs.lemmas.Bool.{and_parts}
use Rattle.std.proofs.lemmas.List.{append-nil}
use Rattle.std.proofs.lemmas.List.Concat.{flat_map-cons}
use Rattle.hy_rows.specs.Limits.{max_warehouses}
use Rattle.hy_rows.specs.Ranges.{is_between}
use Rattle.hy_rows.proofs.BetweenLaws.{bounds}
use Rattle.hy_rows.specs.Tables.{Lists}
use Rattle.hy_schema.specs.declared.refusal.Refusal.{Refusal}
use Rattle.hy_commands.specs.declared.command.Commit.{Commit}
use Rattle.hy_commands.specs.declared.edition.Edition.{Edition}
use Rattle.hy_commands.specs.declared.edition.Edition.TheVariants as editions
use Rattle.hy_commands.specs.Commands.{edition_of}
use Rattle.hy_batches.specs.Batches.{Batch, is_edition, may_follow}
use Rattle.hy_batches.specs.Grammar.{are_batches, are_batches_behind, are_lists, commit_fits, fits, is_allowed, is_batch, is_commit, is_list}
use Rattle.hy_batches.proofs.ListLaws.{flat_map-taken}
use Rattle.hy_forks.specs.of_partition.Jobs.{Log}
use Rattle.hy_forks.specs.of_partition.Partition.{PartitionState, terms_of}
use Rattle.hy_forks.specs.of_partition.Steps.{Begins}
use Rattle.hy_forks.specs.of_crossing.Lists.{Pairwise}
use Rattle.hy_forks.specs.of_crossing.Making.{AllBegin}
use Rattle.hy_forks.proofs.of_crossing.InformLaws.{some-then, some-two}
use Rattle.hy_forks.specs.Drains.{TellsHere}
use Rattle.hy_sound.specs.Sound.{AreSound, list_at}
use Rattle.hy_sound.specs.Merges.{left_of}
use Rattle.hy_sound.specs.inside.Steps.{IsSoundFrom}
use Rattle.hy_sound.proofs.ListLaws.{take-all}
use Rattle.hy_sound.proofs.LogLaws.{sound-next}
use Rattle.hy_sound.proofs.MergeLaws.{left-first}
use Rattle.hy_sound.proofs.SoundLaws.{sound-from}
use Rattle.hy_recovery.specs.Recovering.{AreRecovered, GoesOn, IsRecovered, LacksFrame, NoneAreTooMany, StopsAtCommit, joined}
use Rattle.hy_recovery.proofs.EndLaws.{stops-more}
use Rattle.hy_recovery.proofs.FrameLaws.{shortage-then}
use Rattle.hy_recovery.specs.inside.Ways.{Aim, AreOnWay, AreThere, IsBound, IsShortage, crossings_in, may_stand, untouched}
use Rattle.hy_recovery.proofs.PlaceLaws.{at-place, each-from, pairs-at}

-- ---- lists

joined-cons : (batch : Batch) (batches : List Batch) (place : ℕ)
    → length (joined (batch ∷ batches) place) ≡ length (list_at batch.lists place) + length (joined batches place)
joined-cons batch batches place =
    ap length (flat_map-cons (λ (batch : Batch). list_at batch.lists place) batch batches)
    ∙ length-append (list_at batch.lists place) (joined batches place)

pub joined-taken : (count : ℕ) (batches : List Batch) (place : ℕ)
    → length (joined (take count batches) place) ≤ length (joined batches place)
joined-taken zero batches place = omega arith
joined-taken (suc count) [] place = omega arith
joined-taken (suc count) (batch ∷ batches) place =
    omega (
      arith,
      joined-taken count batches place,
      joined-cons batch batches place,
      joined-cons batch (take count batches) place,
    )

pub drop-at : {Row : Type 0} (rows : List Row) (place : ℕ) (row : Row) → slice_get rows place ≡ Some row
    → drop place rows ≡ row ∷ drop (place + 1) rows
drop-at {Row = Row} rows place row at =
    let after : suc place ≡ place + 1 = omega arith in
    from rows place at ∙ ap (λ after. row ∷ drop after rows) after
  where
    from : (rows : List Row) (place : ℕ) → slice_get rows place ≡ Some row → drop place rows ≡ row ∷ drop (suc place) rows
    from [] place at = absurd (cc)
    from (first ∷ rows) zero at = let same : first ≡ row = cc in ap (λ first. first ∷ rows) same
    from (first ∷ rows) (suc place) at = from rows place at

-- each batch of a log is one
pub batch-at : (edition : Edition) (batches : List Batch) (place : ℕ) (batch : Batch)
    → are_batches_behind edition batches ≡ true → slice_get batches place ≡ Some batch → is_batch batch ≡ true
batch-at edition [] place batch all at = absurd (cc)
batch-at edition (first ∷ batches) zero batch all at =
    let same : first ≡ batch = cc in
    let front = (and_parts (is_batch first && may_follow edition first.edition) (are_batches_behind first.edition batches)
    all).0 in
    ap is_batch (sym same) ∙ (and_parts (is_batch first) (may_follow edition first.edition) front).0
batch-at edition (first ∷ batches) (suc place) batch all at =
    batch-at first.edition batches place batch
    (and_parts (is_batch first && may_follow edition first.edition) (are_batches_behind first.edition batches) all).1 at

-- what may stand in a batch of an edition may stand in one of its own
all-stand : (edition : Edition) (warehouse : ℕ) (commits : List Commit)
    → list_all (is_commit edition warehouse) commits ≡ true → list_all (may_stand warehouse) commits ≡ true
all-stand edition warehouse [] all = refl
all-stand edition warehouse (commit ∷ commits) all =
    let parts = and_parts (is_commit edition warehouse commit) (list_all (is_commit edition warehouse) commits) all in
    let one = and_parts (is_edition (edition_of commit) edition && is_allowed warehouse commit) (commit_fits commit) parts.0 in
    let allowed = (and_parts (is_edition (edition_of commit) edition) (is_allowed warehouse commit) one.0).1 in
    let fits = one.1 in
    let others = all-stand edition warehouse commits parts.1 in
    rw (allowed, fits, others) refl

lists-allowed : (edition : Edition) (number : ℕ) (lists : List (List Commit)) (place : ℕ)
    → are_lists edition number lists ≡ true → place < length lists
    → list_all (may_stand (number + place)) (list_at lists place) ≡ true
lists-allowed edition number [] place are within = absurd (omega (arith, within))
lists-allowed edition number (commits ∷ lists) zero are within =
    let same : number ≡ number + 0 = omega arith in
    let here = (and_parts (is_list edition number commits) (are_lists edition (number + 1) lists) are).0 in
    subst (λ n. list_all (may_stand n) commits ≡ true) same
    (all-stand edition number commits
    (and_parts (fits 4 (length commits)) (list_all (is_commit edition number) commits) here).1)
lists-allowed edition number (commits ∷ lists) (suc place) are within =
    let next : number + 1 + place ≡ number + suc place = omega arith in
    subst (λ n. list_all (may_stand n) (list_at lists place) ≡ true) next
    (lists-allowed edition (number + 1) lists place
    (and_parts (is_list edition number commits) (are_lists edition (number + 1) lists) are).1 (omega (arith, within)))

pub batch-allowed : (batch : Batch) (place : ℕ) → is_batch batch ≡ true → place < length batch.lists
    → list_all (may_stand (suc place)) (list_at batch.lists place) ≡ true
batch-allowed batch place is within =
    let first : 1 + place ≡ suc place = omega arith in
    subst (λ n. list_all (may_stand n) (list_at batch.lists place) ≡ true) first
    (lists-allowed batch.edition 1 batch.lists place
    (and_parts (is_between 1 max_warehouses (length batch.lists)) (are_lists batch.edition 1 batch.lists) is).1 within)

-- and has few lists
pub few-lists : (batches : List Batch) (place : ℕ) (batch : Batch) → are_batches batches ≡ true
    → slice_get batches place ≡ Some batch → length batch.lists ≤ max_warehouses
few-lists batches place batch are at =
    (bounds 1 max_warehouses (length batch.lists)
    (and_parts (is_between 1 max_warehouses (length batch.lists)) (are_lists batch.edition 1 batch.lists)
    (batch-at editions.First batches place batch are at)).0).1

-- ---- on the way through a log

abbrev pub aim_of : List Batch → ℕ → ℕ → ℕ → ℕ → Aim
aim_of batches frames most count last =
    record {
      frames = frames;
      most = most;
      goal = joined (take count batches);
      replayed = λ place. length (joined batches place);
      last = last;
    }

-- the batches before a place were run
pub record AreRun (lists : Lists) (batches : List Batch) (frames most place : ℕ) (log : Log)
    (parts : List PartitionState) : Type 0 where
  pub last : ℕ
  pub total : ℕ
  pub there : AreThere lists (aim_of batches frames most place last) log parts
  pub done : AreSound lists 0 last (take place batches)
  pub later : AreSound lists last total (drop place batches)

pub run-none : (lists : Lists) (batches : List Batch) (frames most total : ℕ) (log : Log) (parts : List PartitionState)
    → AllBegin lists frames most parts
    → ((place : ℕ) → IfSome (slice_get parts place) (λ p. p.replayed ≡ length (joined batches place)))
    → log ≡ [] → AreSound lists 0 total batches → AreRun lists batches frames most 0 log parts
run-none lists batches frames most total log parts begin from none sound = record {
  last = 0;
  total = total;
  there = record {
    count = begin.count;
    each = λ place. some-two (slice_get parts place) (Begins lists (suc place) frames most)
        (λ p. p.replayed ≡ length (joined batches place)) (IsBound lists (aim_of batches frames most 0 0) [] place)
        (begin.each place) (from place) (λ p was is. record {
          terms = was.terms ∙ ap (λ n. record { load = lists; warehouse = suc place; max_kept = most; replayed = n }) is;
          kept = append-nil p.kept ∙ was.kept;
          rest = record { running = was.running; part = was.part; finished = was.finished };
          max_frames = was.max_frames;
          snapshots = was.snapshots;
        });
    last = ap crossings_in none;
  };
  done = refl;
  later = sound;
}

module _ (lists : Lists) (batches : List Batch) (frames most place : ℕ) (log : Log)
    (parts : List PartitionState) (run : AreRun lists batches frames most place log parts)
    (batch : Batch) (at : slice_get batches place ≡ Some batch) where
  split : AreSound lists run.last run.total (batch ∷ drop (place + 1) batches)
  split = subst (λ rows. AreSound lists run.last run.total rows) (drop-at batches place batch at) run.later

  pub next_aim : Aim
  next_aim = aim_of batches frames most (place + 1) split.0

  goal-is : (k : ℕ) → joined (take (place + 1) batches) k ≡ joined (take place batches) k ++ list_at batch.lists k
  goal-is k = flat_map-taken (λ (batch : Batch). list_at batch.lists k) batches place batch at

  left-is : (k : ℕ) → left_of (untouched batch) k ≡ list_at batch.lists k
  left-is k = left-first (untouched batch) k refl

  pub run-batch : are_batches batches ≡ true → NoneAreTooMany lists batches most
      → AreOnWay lists next_aim (untouched batch) log parts
  unfolding next_aim
  run-batch are few = record {
    count = run.there.count;
    lists_are = split.1.count ∙ sym run.there.count;
    each = λ k. each-from _ (slice_get parts k) (λ p there.
        let is = at-place (IsBound lists (aim_of batches frames most place run.last) [] k) parts k p there
        (run.there.each k) in
        record {
          terms = is.terms;
          kept =
              ap (λ rows. p.kept ++ rows) (left-is k)
              ∙ ap (λ rows. rows ++ list_at batch.lists k) (sym (append-nil p.kept) ∙ is.kept)
              ∙ sym (goal-is k);
          rest = is.rest;
          max_frames = is.max_frames;
          snapshots = is.snapshots;
        });
    few = λ k within.
        let whole = few k (omega (arith, within, run.there.count)) in
        let less = joined-taken (place + 1) batches k in
        omega arith;
    from_log = λ k within. joined-taken (place + 1) batches k;
    allowed = λ k within.
        ap (list_all (may_stand (suc k))) (left-is k)
        ∙ batch-allowed batch k (batch-at editions.First batches place batch are at) within;
    sound =
        subst (λ n. IsSoundFrom lists n split.0 (untouched batch)) (sym run.there.last)
        (sound-from lists run.last split.0 batch (untouched batch) refl left-is split.1);
  }

  -- a commit of the batch that lacked a frame
  pub next-stops : (n : ℕ) (why : Refusal) → IsShortage (StopsAtCommit n lists next_aim.frames next_aim.goal) why
      → IsShortage (LacksFrame n lists frames batches) why
  unfolding next_aim
  next-stops n why =
      shortage-then (StopsAtCommit n lists frames (joined (take (place + 1) batches))) (LacksFrame n lists frames batches) why
      (stops-more n lists frames batches (place + 1))

  pub run-more : (later : Log) (news : List PartitionState) → AreThere lists next_aim later news
      → AreRun lists batches frames most (place + 1) later news
  unfolding next_aim
  run-more later news there = record {
    last = split.0;
    total = run.total;
    there = there;
    done = sound-next lists run.last split.0 place batches batch at run.done split.1;
    later = split.2;
  }

-- ---- at the end

module _ (lists : Lists) (batches : List Batch) (frames most place : ℕ) (log : Log)
    (parts : List PartitionState) (run : AreRun lists batches frames most place log parts)
    (all : length batches ≤ place) where
  whole : take place batches ≡ batches
  whole = take-all place batches all

  pub goes-on : GoesOn lists batches log
  goes-on = (
    run.last,
    subst (λ rows. AreSound lists 0 run.last rows) whole run.done,
    (omega (arith, run.there.last)),
  )

  pub recovered : (told : List PartitionState) → Pairwise (TellsHere log) 1 parts told → length told ≡ length parts
      → AreRecovered lists frames most batches told
  recovered told tells count = record {
    count = count ∙ run.there.count;
    each = λ k. each-from _ (slice_get told k) (λ new there.
        by k new (slice_get parts k) refl
        (at-place (λ new. IsSomeAnd (slice_get parts k) (λ old. TellsHere log (1 + k) old new)) told k new there
        (pairs-at (TellsHere log) 1 parts told tells k)));
  }
    where
      by : (k : ℕ) (new : PartitionState) (found : Option PartitionState) → slice_get parts k ≡ found
          → IsSomeAnd found (λ old. TellsHere log (1 + k) old new)
          → IsRecovered lists frames most (joined batches k) (suc k) new
      by k new None at has = absurd has
      by k new (Some first) at has =
          let is = at-place (IsBound lists (aim_of batches frames most place run.last) [] k) parts k first at
          (run.there.each k) in
          let goal : first.kept ≡ joined batches k =
          sym (append-nil first.kept) ∙ is.kept ∙ ap (λ rows. joined rows k) whole in
          record {
            terms = ap terms_of has.0 ∙ is.terms;
            kept = ap (λ (p : PartitionState). p.kept) has.0 ∙ goal;
            running = ap (λ (p : PartitionState). p.running) has.0 ∙ is.rest.running;
            part = ap (λ (p : PartitionState). p.part) has.0 ∙ is.rest.part;
            finished = ap (λ (p : PartitionState). p.finished) has.0 ∙ is.rest.finished;
            max_frames = ap (λ (p : PartitionState). p.space.frames.max) has.0 ∙ is.max_frames;
            snapshots = λ child.
                ap (λ (p : PartitionState). slice_index_or p.snapshots child None) has.0 ∙ is.snapshots child;
          }

-- ---- how many they are

-- those of the batches before, and of the one at a place
pub joined-then : (batches : List Batch) (number place : ℕ) (batch : Batch) → slice_get batches number ≡ Some batch
    → length (joined (take (number + 1) batches) place)
    ≡ length (joined (take number batches) place) + length (list_at batch.lists place)
joined-then batches number place batch at =
    ap length (flat_map-taken (λ (batch : Batch). list_at batch.lists place) batches number batch at)
    ∙ length-append (joined (take number batches) place) (list_at batch.lists place)

-- are no more than all
pub joined-next : (batches : List Batch) (number place : ℕ) (batch : Batch) → slice_get batches number ≡ Some batch
    → length (joined (take number batches) place) + length (list_at batch.lists place) ≤ length (joined batches place)
joined-next batches number place batch at =
    omega (arith, joined-then batches number place batch at, joined-taken (number + 1) batches place)

-- each partition that was recovered has kept all that comes from the log
pub all-replayed : (lists : Lists) (frames most : ℕ) (batches : List Batch) (parts : List PartitionState)
    → AreRecovered lists frames most batches parts
    → (place : ℕ) → IfSome (slice_get parts place) (λ p. p.replayed ≤ length p.kept)
all-replayed lists frames most batches parts are place =
    some-then (slice_get parts place) (IsRecovered lists frames most (joined batches place) (suc place))
    (λ p. p.replayed ≤ length p.kept) (are.each place) (λ p is.
    omega (arith, ap (λ t. t.replayed) is.terms, ap length is.kept))
