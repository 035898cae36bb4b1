-- A run of events with the batches that its drains give.
use Rattle.std.proofs.Common.{◌≡◌, ℕ, zero, suc, ◌+◌, ◌^◌, ◌<◌, ◌≤◌, true, false, List, [], ◌∷◌, ◌++◌, take, length, inl, inr, refl, sym, ap, ◌∙◌, subst, arith, append_assoc, length-append}
use Rattle.std.specs.Prelude.{IfSome, slice_get}
use Rattle.std.specs.Option.{option_map, unwrap_or}
use Rattle.std.proofs.lemmas.List.{append-nil}
use Rattle.std.proofs.lemmas.List.Elements.{All-append, All-nil}
use Rattle.hy_rows.specs.Tables.{Lists}
use Rattle.hy_schema.specs.Loads.{IsLoad}
use Rattle.hy_passes.specs.SerialList.{IsSerial}
use Rattle.hy_passes.specs.declared.entry.Entry.{Entry}
use Rattle.hy_commands.specs.declared.command.Commit.{Commit}
use Rattle.hy_commands.specs.declared.edition.Edition.TheVariants as editions
use Rattle.hy_commands.specs.Commands.{number_of, warehouses_of_commit}
use Rattle.hy_partition.specs.Jobs.{Log}
use Rattle.hy_partition.specs.Partition.{projection_of}
use Rattle.hy_batches.specs.Batches.{Batch}
use Rattle.hy_batches.specs.Grammar.{are_batches, last_edition}
use Rattle.hy_batches.proofs.LogLaws.{batches-more}
use Rattle.hy_sound.specs.Sound.{AreSound, IsSoundBatch, list_at}
use Rattle.hy_sound.proofs.SoundLaws.{sound-more}
use Rattle.hy_schedules.specs.Schedules.{DoesAll, EventOfAll, HappensAll, KeepsEverything, KeepsPlace, Place, RunsAll, Whole, place_at, rested_places, rested_whole, with_drained, with_places}
use Rattle.hy_schedules.specs.Schedules as all
use Rattle.hy_schedules.proofs.PlaceLaws.{length-each}
use Rattle.hy_forks.specs.Logged.{crossings_in, joined}
use Rattle.hy_forks.proofs.BatchLaws.{batch-told, sound-batch}
use Rattle.hy_forks.proofs.FitsLaws.{AreFit, IsFit}
use Rattle.hy_forks.proofs.LoggedLaws.{joined-more, second-follows}
use Rattle.hy_forks.proofs.NumberLaws.{projection-behind}
use Rattle.hy_recovery.proofs.PlaceLaws.{at-place, each-from, get-some, get-within}
use Rattle.hy_durability.specs.Durability.{AreDurable, BeginsLife, RunsGiving, batch_of, given}
use Rattle.hy_durability.proofs.BatchLaws.{lists-are, lists-count}
use Rattle.hy_durability.proofs.FewLaws.{few-entries}
use Rattle.hy_durability.proofs.GrowLaws.{AllRunNew, RunsNew, drained-all, drained_at, grows, is_drain, new-each}

abbrev Batches : Type 0
Batches = List Batch

-- what every database at rest keeps, and every schedule that goes on
abbrev pub EveryRestKeeps : Type 0
EveryRestKeeps = (lists : Lists) (log : Log) (known : ℕ → ℕ) → IsLoad lists
    → IsSerial warehouses_of_commit number_of (length lists.tables.warehouses) log
    → ((client : ℕ) → known client ≤ length log) → KeepsEverything lists (rested_whole lists log known)

abbrev pub EveryScheduleGoesOn : Type 0
EveryScheduleGoesOn = (lists : Lists) (events : List EventOfAll) (old new : Whole) → IsLoad lists
    → KeepsEverything lists old → RunsAll events old new → KeepsEverything lists new

-- the batches so far have what stands in a front of the serial list, which was drained, and what runs is of the second
-- edition
record IsDrained (lists : Lists) (whole : Whole) (batches : List Batch) : Type 0 where
  front : Log
  rest : Log
  log_is : whole.log ≡ front ++ rest
  load : whole.load ≡ lists
  count : length whole.places ≡ length lists.tables.warehouses
  drained : (place : ℕ) → place < length whole.places
      → drained_at whole.places (suc place) ≡ length (projection_of (suc place) front)
  sound : AreSound lists 0 (crossings_in front) batches
  joined_are : (place : ℕ) → place < length whole.places → joined batches place ≡ projection_of (suc place) front
  fit : AreFit lists rest
  new_run : AllRunNew whole.places
  told : length whole.log < 2 ^ 32 → are_batches batches ≡ true

-- all that a database at rest has kept was drained
drained-rested : {Row : Type 0} (log : Log) (number : ℕ) (rows : List Row) (place : ℕ) → place < length rows
    → drained_at (rested_places log number rows) (suc place) ≡ length (projection_of (number + place) log)
drained-rested log number [] place within = absurd (omega (arith, within))
drained-rested log number (row ∷ rows) zero within =
    let same : number ≡ number + 0 = omega arith in ap (λ n. length (projection_of n log)) same
drained-rested log number (row ∷ rows) (suc place) within =
    let next : suc number + place ≡ number + suc place = omega arith in
    drained-rested log (suc number) rows place (omega (arith, within)) ∙ ap (λ n. length (projection_of n log)) next

-- and nothing runs in it
rests-from : {Row : Type 0} (log : Log) (number : ℕ) (rows : List Row) (place : ℕ)
    → IfSome (slice_get (rested_places log number rows) place) (λ p. RunsNew p.running)
rests-from log number [] place = tt
rests-from log number (row ∷ rows) zero = tt
rests-from log number (row ∷ rows) (suc place) = rests-from log (suc number) rows place

new-rested : {Row : Type 0} (log : Log) (rows : List Row) → AllRunNew (rested_places log 1 rows)
new-rested log rows zero = tt
new-rested log rows (suc place) = rests-from log 1 rows place

length-rested : {Row : Type 0} (log : Log) (number : ℕ) (rows : List Row)
    → length (rested_places log number rows) ≡ length rows
length-rested log number [] = refl
length-rested log number (row ∷ rows) = ap suc (length-rested log (suc number) rows)

take-front : {Row : Type 0} (front rest : List Row) → take (length front) (front ++ rest) ≡ front
take-front [] rest = refl
take-front (row ∷ front) rest = ap (λ rows. row ∷ rows) (take-front front rest)

pub runs-of : (events : List EventOfAll) (old new : Whole) (batches : Batches) → RunsGiving events old new batches
    → RunsAll events old new
runs-of [] old new batches run = run.0
runs-of (event ∷ events) old new batches run =
    (run.0, elim run.3 [ inl same ↦ inl same.0 | inr does ↦ inr does.0 ], runs-of events run.0 new run.2 run.4)

module _ (lists : Lists) where
  module _ (goes_on : EveryScheduleGoesOn) (is_load : IsLoad lists) where
    -- no batch more
    still : (whole : Whole) (batches : Batches) → IsDrained lists whole batches → IsDrained lists whole (batches ++ [])
    still whole batches is = subst (IsDrained lists whole) (sym (append-nil batches)) is

    -- an event that is no drain
    drained-other : (event : EventOfAll) (old new : Whole) (batches : Batches) → is_drain event ≡ false
        → IsDrained lists old batches → DoesAll event old new → IsDrained lists new batches
    drained-other event old new batches other is does =
        let more = grows lists event old new other is.load is.count is.new_run does in
        record {
          front = is.front;
          rest = is.rest ++ more.more;
          log_is = more.log_is ∙ ap (λ log. log ++ more.more) is.log_is ∙ append_assoc is.front is.rest more.more;
          load = more.load ∙ is.load;
          count = more.count ∙ is.count;
          drained = λ place within. more.drained (suc place) ∙ is.drained place (omega (arith, within, more.count));
          sound = is.sound;
          joined_are = λ place within. is.joined_are place (omega (arith, within, more.count));
          fit = All-append (λ (e : Entry Commit). IsFit lists e.commit) is.rest more.more is.fit more.fit;
          new_run = more.new_run;
          told = λ small. is.told (omega (arith, small, ap length more.log_is, length-append old.log more.more));
        }

    -- what each warehouse has kept
    kept-is : (whole : Whole) → KeepsEverything lists whole → (log : Log) → whole.log ≡ log → (place : ℕ)
        → IfSome (slice_get whole.places place) (λ p. p.kept ≡ projection_of (suc place) log)
    kept-is whole everything log log_is place = each-from _ (slice_get whole.places place) (λ p at.
        let here = at-place (KeepsPlace lists whole (suc place)) whole.places place p at (everything.each (suc place)) in
        here.alone.projection ∙ ap (projection_of (suc place)) log_is)

    -- a drain
    drained-drain : (old new : Whole) (batches : Batches) → KeepsEverything lists old → IsDrained lists old batches
        → new ≡ with_places with_drained old → IsDrained lists new (batches ++ batch_of old.places ∷ [])
    drained-drain old new batches everything is does =
        let batch = batch_of old.places in
        let kept = kept-is old everything (is.front ++ is.rest) is.log_is in
        let serial = subst (IsSerial warehouses_of_commit number_of (length lists.tables.warehouses)) is.log_is
        everything.serial in
        let counted = lists-count lists old.places is.front is.rest is.count kept is.drained in
        let are = lists-are lists old.places is.front is.rest is.count kept is.drained in
        let one : IsSoundBatch lists (crossings_in is.front) (crossings_in old.log) batch =
        subst (λ n. IsSoundBatch lists (crossings_in is.front) n batch) (ap crossings_in (sym is.log_is))
        (sound-batch lists batch.lists is.front is.rest counted are is.fit serial) in
        let same : length new.places ≡ length old.places =
        ap (λ (w : Whole). length w.places) does ∙ length-each with_drained 1 old.places in
        record {
          front = old.log;
          rest = [];
          log_is = ap (λ (w : Whole). w.log) does ∙ sym (append-nil old.log);
          load = ap (λ (w : Whole). w.load) does ∙ is.load;
          count = same ∙ is.count;
          drained = λ place within.
              let found = get-some old.places place (omega (arith, within, same)) in
              ap (λ (w : Whole). drained_at w.places (suc place)) does
              ∙ drained-all lists old.places place found.0 found.1
              ∙ ap length (at-place (λ (p : Place). p.kept ≡ projection_of (suc place) old.log) old.places place found.0
              found.1 (kept-is old everything old.log refl place));
          sound = sound-more lists 0 (crossings_in is.front) (crossings_in old.log) batches batch is.sound one;
          joined_are = λ place within.
              let inside : place < length old.places = omega (arith, within, same) in
              joined-more batches batch place
              ∙ ap (λ rows. rows ++ list_at batch.lists place) (is.joined_are place inside)
              ∙ ap (λ rows. projection_of (suc place) is.front ++ rows)
              (are place (omega (arith, inside, counted, is.count)))
              ∙ sym (projection-behind (suc place) is.front is.rest) ∙ ap (projection_of (suc place)) (sym is.log_is);
          fit = All-nil (λ (e : Entry Commit). IsFit lists e.commit);
          new_run = subst (λ (w : Whole). AllRunNew w.places) (sym does)
              (new-each with_drained (λ n place. refl) old.places is.new_run);
          told = λ small.
              let within : length (is.front ++ is.rest) < 2 ^ 32 =
              omega (arith, small, ap (λ (w : Whole). length w.log) does, ap length is.log_is) in
              let first = is.told (omega (arith, within, ap length is.log_is)) in
              let later = batch-told lists batch.lists is.front is.rest counted are is.fit serial is_load within in
              batches-more editions.First batches batch first later (second-follows (last_edition editions.First batches));
        }

    -- any event
    drained-event : (event : EventOfAll) (old new : Whole) (batches : Batches) → KeepsEverything lists old
        → IsDrained lists old batches → DoesAll event old new
        → IsDrained lists new (batches ++ given event old)
    drained-event all.drains old new batches everything is does = drained-drain old new batches everything is does
    drained-event (all.at number event) old new batches everything is does =
        still new batches (drained-other (all.at number event) old new batches refl is does)
    drained-event (all.crosses client command amid) old new batches everything is does =
        still new batches (drained-other (all.crosses client command amid) old new batches refl is does)
    drained-event (all.forks_all client children) old new batches everything is does =
        still new batches (drained-other (all.forks_all client children) old new batches refl is does)
    drained-event (all.forks_all_from from children) old new batches everything is does =
        still new batches (drained-other (all.forks_all_from from children) old new batches refl is does)
    drained-event (all.closes_all children) old new batches everything is does =
        still new batches (drained-other (all.closes_all children) old new batches refl is does)
    drained-event (all.looks client) old new batches everything is does =
        still new batches (drained-other (all.looks client) old new batches refl is does)

    drained-run : (events : List EventOfAll) (old new : Whole) (before batches : Batches) → KeepsEverything lists old
        → IsDrained lists old before → RunsGiving events old new batches → IsDrained lists new (before ++ batches)
    drained-run [] old new before batches everything is run =
        subst (λ rows. IsDrained lists new (before ++ rows)) (sym run.1)
        (still new before (subst (λ (w : Whole). IsDrained lists w before) (sym run.0) is))
    drained-run (event ∷ events) old new before batches everything is run =
        let mid = run.0 in
        let here : IsDrained lists mid (before ++ run.1) = elim run.3 [
          | inl same ↦ subst (λ rows. IsDrained lists mid (before ++ rows)) (sym same.1)
              (still mid before (subst (λ (w : Whole). IsDrained lists w before) (sym same.0) is))
          | inr does ↦ subst (λ rows. IsDrained lists mid (before ++ rows)) (sym does.1)
              (drained-event event old mid before everything is does.0)
        ] in
        let happens : HappensAll event old mid = elim run.3 [ inl same ↦ inl same.0 | inr does ↦ inr does.0 ] in
        let keeps : KeepsEverything lists mid = goes_on lists (event ∷ []) old mid is_load everything (mid, happens, refl) in
        let all : IsDrained lists new ((before ++ run.1) ++ run.2) =
        drained-run events mid new (before ++ run.1) run.2 keeps here run.4 in
        subst (IsDrained lists new) (append_assoc before run.1 run.2 ∙ ap (λ rows. before ++ rows) (sym run.5)) all

    module _ (rests : EveryRestKeeps) (front : Batches) (old : Whole) (begins : BeginsLife lists front old) where
      abbrev rested : Whole
      rested = rested_whole lists begins.log begins.known

      begin-keeps : KeepsEverything lists old
      begin-keeps = subst (KeepsEverything lists) (sym begins.rests)
          (rests lists begins.log begins.known is_load begins.same.serial begins.within)

      begin-drained : IsDrained lists old front
      begin-drained = subst (λ (w : Whole). IsDrained lists w front) (sym begins.rests) (record {
        front = begins.log;
        rest = [];
        log_is = sym (append-nil begins.log);
        load = refl;
        count = length-rested begins.log 1 lists.tables.warehouses;
        drained = λ place within.
            drained-rested begins.log 1 lists.tables.warehouses place
            (omega (arith, within, length-rested begins.log 1 lists.tables.warehouses))
            ∙ (let same : 1 + place ≡ suc place = omega arith in ap (λ n. length (projection_of n begins.log)) same);
        sound = subst (λ n. AreSound lists 0 n front) last-is begins.same.numbers.1;
        joined_are = λ place within.
            begins.same.joined_are place (omega (arith, within, length-rested begins.log 1 lists.tables.warehouses));
        fit = All-nil (λ (e : Entry Commit). IsFit lists e.commit);
        new_run = new-rested begins.log lists.tables.warehouses;
        told = λ small. begins.same.told;
      })
        where
          last-is : begins.same.numbers.0 ≡ crossings_in begins.log
          last-is = omega (arith, begins.same.numbers.2)

      module _ (events : List EventOfAll) (whole : Whole) (batches : Batches)
          (run : RunsGiving events old whole batches) where
        pub run-keeps : KeepsEverything lists whole
        run-keeps = goes_on lists events old whole is_load begin-keeps (runs-of events old whole batches run)

        run-drained : IsDrained lists whole (front ++ batches)
        run-drained = drained-run events old whole front batches begin-keeps begin-drained run

        pub are-durable : AreDurable lists whole (front ++ batches)
        are-durable = record {
          sound = (crossings_in run-drained.front, run-drained.sound);
          told = λ room. run-drained.told (few-entries lists is_load whole run-keeps room);
          joined_are = λ place. each-from _ (slice_get whole.places place) (λ p at.
              let is = run-drained in
              let within = get-within whole.places place p at in
              let here = at-place (λ (p : Place). p.kept ≡ projection_of (suc place) (is.front ++ is.rest)) whole.places place p at
              (kept-is whole run-keeps (is.front ++ is.rest) is.log_is place) in
              let so_far : p.drained ≡ length (projection_of (suc place) is.front) =
              sym (ap (λ found. unwrap_or (option_map (λ (place : Place). place.drained) found) 0) at)
              ∙ is.drained place within in
              is.joined_are place within
              ∙ sym (take-front (projection_of (suc place) is.front) (projection_of (suc place) is.rest))
              ∙ sym (ap (λ n. take n p.kept) so_far
              ∙ ap (take (length (projection_of (suc place) is.front)))
              (here ∙ projection-behind (suc place) is.front is.rest)));
        }
