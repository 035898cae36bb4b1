-- A log that follows a database, from call to call, and what a stop leaves of it.
use Rattle.std.proofs.Common.{◌≡◌, ◌≤◌, ◌<◌, ◌+◌, ◌⊎◌, ℕ, Bool, true, false, List, [], ◌∷◌, ◌++◌, length, take, Option, Some, None, Result, Ok, Err, refl, sym, ap, subst, ◌∙◌, append_assoc, append-nil, arith, length-append}
use Rattle.std.specs.Prelude.{IsTrue, MatchOption, OnOk}
use mathlib.Core.List.{IsPrefix}
use Rattle.std.proofs.lemmas.List.{take-append-drop, take_all}
use Rattle.std.proofs.lemmas.List.Concat.{flat_map-append}
use Rattle.hy_rows.specs.Tables.{Lists}
use Rattle.hy_schema.specs.declared.refusal.Refusal.{Refusal}
use Rattle.hy_schema.specs.declared.refusal.Refusal.TheVariants as refusals
use Rattle.hy_passes.proofs.Beginnings.{begins_taken}
use Rattle.hy_commands.specs.declared.command.Commit.{Commit}
use Rattle.hy_batches.specs.Batches.{Batch}
use Rattle.hy_batches.specs.Grammar.{are_batches}
use Rattle.hy_batches.specs.Logs.{IsLog, Reads}
use Rattle.hy_redo.specs.Calls.{Answers, AnswersBy, AreCalls, Call, LogState, acknowledged, handed, log_behind}
use Rattle.hy_redo.specs.Disk.{BeginsBehind, LeaveBatches, MayLeave, ReadsFirst}
use Rattle.hy_redo.specs.Writers.{Told}
use Rattle.hy_redo.proofs.CallLaws.{handed-append, join, none_lost}
use Rattle.hy_sound.specs.Sound.{list_at}
use Rattle.hy_sound.proofs.LogLaws.{sound-beginning}
use Rattle.hy_forks.specs.of_partition.Jobs.{Log}
use Rattle.hy_forks.specs.of_partition.Partition.{projection_of}
use Rattle.hy_forks.specs.Logged.{SaySame, joined}
use Rattle.hy_redo_drains.specs.Following.{DrainState, Follows, LeaveBeginnings, LeavesBeginning, WasHanded, WritesDue, all_of, due_of, least_of}

-- ---- the calls of a write

-- none where nothing is due, and else one
abbrev HandsDue : LogState → LogState → Option Batch → Type 0
HandsDue old new due =
    (more : List Call) × (due_of due ≡ handed more) × AreCalls old more × (new ≡ log_behind old more)

hands-due : (old new : LogState) (due : Option Batch) (answer : Result (Unit {0}) Refusal)
    → MatchOption due ((answer ≡ Ok tt) × (new ≡ old)) (λ batch. Answers old new batch answer) → HandsDue old new due
hands-due old new None answer is = ([], refl, tt, is.1)
hands-due old new (Some batch) answer is =
    let call : Call = record { batch = batch; answer = answer; log = new } in (call ∷ [], refl, (is, tt), refl)

-- ---- what a log was handed

handed-more : (batches : List Batch) (log new : LogState) (more : List Call) → WasHanded batches log → AreCalls log more
    → new ≡ log_behind log more → WasHanded (batches ++ handed more) new
handed-more batches log new more was are is =
    let later = join was.first was.calls more was.are (subst (λ log. AreCalls log more) was.log_is are) in record {
      front = was.front;
      first = was.first;
      calls = was.calls ++ more;
      begins = was.begins;
      are = later.0;
      log_is = is ∙ ap (λ log. log_behind log more) was.log_is ∙ sym later.1;
      batches_are = ap (λ rows. rows ++ handed more) was.batches_are
          ∙ (append_assoc was.front (handed was.calls) (handed more)
          ∙ ap (λ rows. was.front ++ rows) (sym (handed-append was.calls more)));
    }

-- a log that hasn't failed begins behind all that it was handed, and has acknowledged it
pub not-failed : (batches : List Batch) (log : LogState) (was : WasHanded batches log) → log.has_failed ≡ false
    → BeginsBehind batches log × (length was.front + acknowledged was.calls ≡ length batches)
not-failed batches log was well =
    let all = none_lost was.front was.first was.calls was.begins was.are
    (sym (ap (λ (log : LogState). log.has_failed) was.log_is) ∙ well) in
    let count = all.1 in (
      subst (λ (log : LogState). BeginsBehind batches log) (sym was.log_is)
          (subst (λ rows. BeginsBehind rows (log_behind was.first was.calls)) (sym was.batches_are) all.0),
      omega (arith, ap length was.batches_are, length-append was.front (handed was.calls)),
    )

-- ---- a log that follows a database

module _ (lists : Lists) where
  -- one that was handed nothing so far
  pub begun : (front : List Batch) (log : LogState) (seen : Log) → BeginsBehind front log → SaySame lists front seen
      → Follows lists (record { log = log; seen = seen; due = None })
  begun front log seen begins same = record {
    batches = front;
    was_handed = record {
      front = front;
      first = log;
      calls = [];
      begins = begins;
      are = tt;
      log_is = refl;
      batches_are = sym (append-nil front);
    };
    same = subst (λ rows. SaySame lists rows seen) (sym (append-nil front)) same;
  }

  -- behind a drain, before which nothing was due
  pub drained : (log : LogState) (seen next : Log) (due : Option Batch) (batch : Batch) → due ≡ None
      → Follows lists (record { log = log; seen = seen; due = due })
      → ((batches : List Batch) → SaySame lists batches seen → SaySame lists (batches ++ batch ∷ []) next)
      → Follows lists (record { log = log; seen = next; due = Some batch })
  drained log seen next due batch none follows goes = record {
    batches = follows.batches;
    was_handed = follows.was_handed;
    same = goes follows.batches (subst (λ rows. SaySame lists rows seen) (append-nil follows.batches)
        (subst (λ due. SaySame lists (follows.batches ++ due_of due) seen) none follows.same));
  }

  -- behind a write
  pub written : (old new : DrainState) (answer : Result (Unit {0}) Refusal) → WritesDue old new answer
      → Follows lists old → Follows lists new
  written old new answer writes follows =
      let calls = hands-due old.log new.log old.due answer writes.written in
      let all : List Batch = follows.batches ++ handed calls.0 in record {
        batches = all;
        was_handed = handed-more follows.batches old.log new.log calls.0 follows.was_handed calls.2 calls.3;
        same = subst (λ (seen : Log). SaySame lists (all ++ due_of new.due) seen) (sym writes.seen)
            (subst (λ (due : Option Batch). SaySame lists (all ++ due_of due) old.seen) (sym writes.none)
            (subst (λ rows. SaySame lists rows old.seen) (sym (append-nil all))
            (subst (λ rows. SaySame lists (follows.batches ++ rows) old.seen) calls.1 follows.same)));
      }

  -- behind the write of a batch
  pub written-one : (log new : LogState) (seen : Log) (due left : Option Batch) (batch : Batch)
      (answer : Result (Unit {0}) Refusal) → Follows lists (record { log = log; seen = seen; due = due }) → due ≡ Some batch
      → left ≡ None → Answers log new batch answer → Follows lists (record { log = new; seen = seen; due = left })
  written-one log new seen due left batch answer follows is none answers =
      written (record { log = log; seen = seen; due = due }) (record { log = new; seen = seen; due = left }) answer
      (record {
        none = none;
        seen = refl;
        written = subst (λ (due : Option Batch). MatchOption due ((answer ≡ Ok tt) × (new ≡ log))
            (λ batch. Answers log new batch answer)) (sym is) answers;
      }) follows

  -- where nothing failed and nothing is due, its bytes are all batches, which say the same as the serial list
  pub all-there : (drains : DrainState) → Follows lists drains → drains.log.has_failed ≡ false → drains.due ≡ None
      → (batches : List Batch) × SaySame lists batches drains.seen × BeginsBehind batches drains.log
  all-there drains follows well none = (
    follows.batches,
    subst (λ rows. SaySame lists rows drains.seen) (append-nil follows.batches)
        (subst (λ due. SaySame lists (follows.batches ++ due_of due) drains.seen) none follows.same),
    (not-failed follows.batches drains.log follows.was_handed well).0,
  )

-- ---- what a stop leaves

-- the first batches have a beginning of what all have
joined-taken : (count : ℕ) (batches : List Batch) (place : ℕ)
    → IsPrefix (joined (take count batches) place) (joined batches place)
joined-taken count batches place =
    let begins = begins_taken count batches in (
      joined begins.0 place,
      sym (flat_map-append (λ (batch : Batch). list_at batch.lists place) (take count batches) begins.0)
          ∙ ap (λ rows. joined rows place) begins.1,
    )

-- the first of all batches, at least so many, are those that are read
module _ (leave : LeaveBatches) (lists : Lists) (old new : DrainState) (answer : Result (Unit {0}) Refusal) (left : List ℕ)
    (follows : Follows lists old) (writes : WritesDue old new answer) (stop : MayLeave old.log.told new.log.told left) where
  first-are-read : ReadsFirst (all_of lists old follows) (least_of lists old follows) left
  first-are-read =
      let was = follows.was_handed in
      let calls = hands-due old.log new.log old.due answer writes.written in
      let later = join was.first was.calls calls.0 was.are (subst (λ log. AreCalls log calls.0) was.log_is calls.2) in
      let same : was.front ++ handed (was.calls ++ calls.0) ≡ all_of lists old follows =
      ap (λ rows. was.front ++ rows) (handed-append was.calls calls.0)
      ∙ (sym (append_assoc was.front (handed was.calls) (handed calls.0))
      ∙ (ap (λ rows. rows ++ handed calls.0) (sym was.batches_are)
      ∙ ap (λ rows. follows.batches ++ rows) (sym calls.1))) in
      let last : new.log ≡ log_behind was.first (was.calls ++ calls.0) =
      calls.3 ∙ ap (λ log. log_behind log calls.0) was.log_is ∙ sym later.1 in
      let told : MayLeave (log_behind was.first was.calls).told (log_behind was.first (was.calls ++ calls.0)).told left =
      subst (λ (log : LogState). MayLeave log.told (log_behind was.first (was.calls ++ calls.0)).told left) was.log_is
      (subst (λ (log : LogState). MayLeave old.log.told log.told left) last stop) in
      subst (λ rows. ReadsFirst rows (least_of lists old follows) left) same
      (leave was.front was.first was.calls calls.0 left was.begins later.0
      (subst (λ rows. IsTrue (are_batches rows)) (sym same) follows.same.told) told)

  leaves-beginning : LeavesBeginning lists old follows left
  leaves-beginning =
      let first = first-are-read in
      let all : List Batch = all_of lists old follows in
      let count : ℕ = first.0 in
      let last = follows.same.numbers in record {
        count = count;
        rest = first.1;
        log = first.3;
        reads = first.4;
        acknowledged = first.2;
        sound = sound-beginning lists 0 last.0 all count last.1;
        begins = λ place within.
            subst (λ rows. IsPrefix (joined (take count all) place) rows) (follows.same.joined_are place within)
            (joined-taken count all place);
        whole = λ well none place within.
            let enough : length all ≤ count =
            omega (
              arith,
              (not-failed follows.batches old.log follows.was_handed well).1,
              first.2,
              ap (λ (due : Option Batch). length (follows.batches ++ due_of due)) none,
              ap (λ (rows : List Batch). length rows) (append-nil follows.batches),
            ) in
            ap (λ rows. joined rows place) (take_all count all enough) ∙ follows.same.joined_are place within;
      }

pub leave-beginnings : LeaveBatches → LeaveBeginnings
leave-beginnings leave lists old new answer left follows writes stop =
    leaves-beginning leave lists old new answer left follows writes stop

-- ---- what is acknowledged

well-by : (failed : Bool) (old new : LogState) (batch : Batch) (answer : Result (Unit {0}) Refusal)
    → AnswersBy failed old new batch answer → OnOk answer (new.has_failed ≡ false)
well-by true old new batch (Ok done) is = absurd is
well-by true old new batch (Err why) is = tt
well-by false old new batch (Ok done) is = ap (λ (log : LogState). log.has_failed) is
well-by false old new batch (Err why) is = tt

-- a log that has acknowledged a batch hasn't failed
pub written-well : (old new : DrainState) (answer : Result (Unit {0}) Refusal) (batch : Batch) → WritesDue old new answer
    → old.due ≡ Some batch → OnOk answer (new.log.has_failed ≡ false)
written-well old new answer batch writes is =
    well-by old.log.has_failed old.log new.log batch answer
    (subst (λ (due : Option Batch). MatchOption due ((answer ≡ Ok tt) × (new.log ≡ old.log))
    (λ batch. Answers old.log new.log batch answer)) is writes.written)
