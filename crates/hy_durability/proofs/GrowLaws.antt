-- What an event adds to the serial list can be run again and is of the second edition, as is all that runs, and no event
-- but a drain changes how much was drained.
use Rattle.std.proofs.Common.{◌≡◌, ◌⊎◌, ℕ, zero, suc, ◌==◌, Bool, true, false, cond, List, [], ◌∷◌, ◌++◌, length, Option, Some, None, inl, inr, refl, sym, ap, ◌∙◌, subst, append_assoc}
use Rattle.std.specs.Prelude.{IfSome, MatchOption, slice_get, slice_set}
use Rattle.std.specs.Option.{option_map, unwrap_or}
use Rattle.std.proofs.lemmas.Bool.{eqb-false, eqb-true, false≢true, true≢false}
use Rattle.std.proofs.lemmas.List.{append-nil}
use Rattle.std.proofs.lemmas.List.Elements.{All-append, All-cons, All-nil}
use Rattle.hy_passes.specs.declared.entry.Entry.{Entry}
use Rattle.hy_passes.specs.SerialList.{names}
use Rattle.hy_rows.specs.Tables.{Lists}
use Rattle.hy_commands.specs.declared.command.Command.{Command}
use Rattle.hy_commands.specs.declared.command.Commit.{Commit}
use Rattle.hy_commands.specs.declared.edition.Edition.TheVariants as editions
use Rattle.hy_commands.specs.Commands.{warehouses_of_commit}
use Rattle.hy_commands.specs.Replay.{HasWarehouse}
use Rattle.hy_commands.specs.Transactions.{refusal_of}
use Rattle.hy_partition.specs.Jobs.{Log}
use Rattle.hy_partition.specs.Schedules as one
use Rattle.hy_partition.specs.Schedules.{Does, Event, Underway, World, entered, rows_of, with_accepted}
use Rattle.hy_commands.specs.Parts.{refusal_in}
use Rattle.hy_commands.specs.declared.command.Commit.TheVariants as commits
use Rattle.hy_database.specs.Database.{kept_in}
use Rattle.hy_crossing.specs.Crossings.{database_behind, next_number}
use Rattle.hy_crossing.proofs.AcceptLaws.{same-refusal}
use Rattle.hy_schedules.specs.Schedules.{ChangesPlace, DoesAll, DoesAt, DoesCross, Ends, EndsIn, EventOfAll, LooksAmid, Place, Whole, each_changed, entry_behind, is_local, named_in, place_at, refusal_behind, with_commit, with_drained, with_entry, with_looks, with_place, with_snapshot, with_snapshot_from, without_snapshot, world_at}
use Rattle.hy_schedules.specs.Schedules as all
use Rattle.hy_schedules.proofs.OrderLaws.{there-between}
use Rattle.hy_schedules.proofs.PlaceLaws.{each-changed, each-replaced, holds-place, length-each, length-with_place}
use Rattle.hy_rows.proofs.BetweenLaws.{IsBetween-bounds}
use Rattle.hy_recovery.proofs.PlaceLaws.{get-set_here, get-set_other, get-within}
use Rattle.hy_forks.proofs.FitsLaws.{AreFit, IsFit}
use Rattle.hy_durability.proofs.FitLaws.{crossing-fit, entered-fit, known-local}

-- whether an event is a drain
abbrev pub is_drain : EventOfAll → Bool
is_drain all.drains = true
is_drain event = false

-- ---- how much was drained

-- of the warehouse with a number; 0 where there is none
abbrev pub drained_at : List Place → ℕ → ℕ
drained_at places number = unwrap_or (option_map (λ place. place.drained) (place_at places number)) 0

abbrev drained_in : Option Place → ℕ
drained_in found = unwrap_or (option_map (λ place. place.drained) found) 0

drained-placed : (places : List Place) (number : ℕ) (before after : Place) → place_at places number ≡ Some before
    → after.drained ≡ before.drained → (other : ℕ)
    → drained_at (with_place places number after) other ≡ drained_at places other
drained-placed places zero before after there same other = refl
drained-placed places (suc place) before after there same zero = refl
drained-placed places (suc place) before after there same (suc other) = by (other == place) refl
  where
    by : (is : Bool) → (other == place) ≡ is
        → drained_in (slice_get (slice_set places place after) other) ≡ drained_in (slice_get places other)
    by true is =
        let here : other ≡ place = eqb-true other place is in
        ap (λ n. drained_in (slice_get (slice_set places place after) n)) here
        ∙ ap drained_in (get-set_here places place after (get-within places place before there)) ∙ same
        ∙ sym (ap drained_in (ap (slice_get places) here ∙ there))
    by false is = ap drained_in (get-set_other places place other after (eqb-false other place is))

module _ (change : ℕ → Place → Place)
    (keeps : (number : ℕ) (place : Place) → (change number place).drained ≡ place.drained) where
  drained-get : (first place : ℕ) (places : List Place)
      → drained_in (slice_get (each_changed change first places) place) ≡ drained_in (slice_get places place)
  drained-get first place [] = refl
  drained-get first zero (here ∷ places) = keeps first here
  drained-get first (suc place) (here ∷ places) = drained-get (suc first) place places

  drained-each : (places : List Place) (number : ℕ)
      → drained_at (each_changed change 1 places) number ≡ drained_at places number
  drained-each places zero = refl
  drained-each places (suc place) = drained-get 1 place places

-- ---- what runs

-- it is of the second edition, if something runs
abbrev pub RunsNew : Option Underway → Type 0
RunsNew running = IfSome running (λ job. job.edition ≡ editions.Second)

-- so it is in each warehouse
abbrev pub AllRunNew : List Place → Type 0
AllRunNew places = (number : ℕ) → IfSome (place_at places number) (λ place. RunsNew place.running)

abbrev NewAt : ℕ → Place → Type 0
NewAt number place = RunsNew place.running

-- and stays so where each was changed, but for what runs there
pub new-each : (change : ℕ → Place → Place)
    → ((number : ℕ) (place : Place) → (change number place).running ≡ place.running) → (places : List Place)
    → AllRunNew places → AllRunNew (each_changed change 1 places)
new-each change same places new =
    each-changed change NewAt NewAt places (λ number place is. subst RunsNew (sym (same number place)) is) new

-- ---- one warehouse

-- the serial list of a world has more commits, which can be run again, and what runs there is of the second edition
pub record Adds (lists : Lists) (old new : World) : Type 0 where
  pub more : Log
  pub log_is : new.log ≡ old.log ++ more
  pub fit : AreFit lists more
  pub load : new.load ≡ old.load
  pub new_run : RunsNew new.running

module _ (lists : Lists) (old new : World) where
  adds-none : new.log ≡ old.log → new.load ≡ old.load → RunsNew new.running → Adds lists old new
  adds-none same load run = record {
    more = [];
    log_is = same ∙ sym (append-nil old.log);
    fit = All-nil (λ (entry : Entry Commit). IsFit lists entry.commit);
    load = load;
    new_run = run;
  }

  module _ (load : old.load ≡ lists) (there : HasWarehouse lists old.warehouse) (runs : RunsNew old.running) where
    -- what runs is no other than before, or nothing
    runs-still : new.running ≡ old.running → RunsNew new.running
    runs-still same = subst RunsNew (sym same) runs

    runs-none : new.running ≡ None → RunsNew new.running
    runs-none none = subst RunsNew (sym none) tt

    adds-accepted : (job : Underway) → old.running ≡ Some job
        → refusal_of old.load.items old.warehouse job.command (rows_of old) ≡ None → new ≡ with_accepted old job
        → Adds lists old new
    adds-accepted job runs_job none is = record {
      more = entered job;
      log_is = ap (λ (w : World). w.log) is;
      fit = entered-fit lists job.edition job.command job.stamp (subst RunsNew runs_job runs)
          (known-local lists old.warehouse old.kept job.command there
          (subst (λ (l : Lists). refusal_of l.items old.warehouse job.command
          (rows_of (record old { load = l })) ≡ None) load none));
      load = ap (λ (w : World). w.load) is;
      new_run = runs-none (ap (λ (w : World). w.running) is);
    }

    adds-does : (number : ℕ) (event : Event) → is_local event ≡ true
        → Does event old new → Adds lists old new
    adds-does number (one.begins client command) here does =
        adds-none (ap (λ (w : World). w.log) does.3) (ap (λ (w : World). w.load) does.3)
        (subst RunsNew (sym (ap (λ (w : World). w.running) does.3)) refl)
    adds-does number one.steps here does = by old.running refl does
      where
        by : (running : Option Underway) → old.running ≡ running
            → MatchOption running ⊥ (one.DoesStep old new) → Adds lists old new
        by None is none = absurd none
        by (Some job) is step = elim step [
          | inl more ↦ adds-none (ap (λ (w : World). w.log) more.1) (ap (λ (w : World). w.load) more.1)
              (subst RunsNew (sym (ap (λ (w : World). w.running) more.1)) (subst RunsNew is runs))
          | inr last ↦ elim last [
            | inl accepted ↦ adds-accepted job is accepted.1 accepted.2
            | inr refused ↦ adds-none (ap (λ (w : World). w.log) refused) (ap (λ (w : World). w.load) refused)
                (runs-none (ap (λ (w : World). w.running) refused))
          ]
        ]
    adds-does number one.takes here does =
        adds-none (ap (λ (w : World). w.log) does.1) (ap (λ (w : World). w.load) does.1)
        (runs-still (ap (λ (w : World). w.running) does.1))
    adds-does number (one.forks client child) here does =
        adds-none (ap (λ (w : World). w.log) does.1) (ap (λ (w : World). w.load) does.1)
        (runs-still (ap (λ (w : World). w.running) does.1))
    adds-does number (one.forks_from from child) here does =
        adds-none (ap (λ (w : World). w.log) does.2) (ap (λ (w : World). w.load) does.2)
        (runs-still (ap (λ (w : World). w.running) does.2))
    adds-does number (one.closes child) here does =
        adds-none (ap (λ (w : World). w.log) does.1) (ap (λ (w : World). w.load) does.1)
        (runs-still (ap (λ (w : World). w.running) does.1))
    adds-does number (one.looks client) here does = absurd (false≢true here)
    adds-does number (one.enters entry) here does = absurd (false≢true here)

    adds-ends : Ends old new → Adds lists old new
    adds-ends ends = by old.running refl ends
      where
        by : (running : Option Underway) → old.running ≡ running
            → MatchOption running (new ≡ old) (λ job.
            ((refusal_of old.load.items old.warehouse job.command (rows_of old) ≡ None) × (new ≡ with_accepted old job))
            ⊎ (new ≡ one.with_refused old))
            → Adds lists old new
        by None is same = adds-none (ap (λ (w : World). w.log) same) (ap (λ (w : World). w.load) same)
            (runs-still (ap (λ (w : World). w.running) same))
        by (Some job) is ended = elim ended [
          | inl accepted ↦ adds-accepted job is accepted.0 accepted.1
          | inr refused ↦ adds-none (ap (λ (w : World). w.log) refused) (ap (λ (w : World). w.load) refused)
              (runs-none (ap (λ (w : World). w.running) refused))
        ]

-- ---- all warehouses

-- the serial list has more commits, which can be run again; no warehouse comes or goes, no more counts as drained, and
-- what runs is of the second edition
pub record Grows (lists : Lists) (old new : Whole) : Type 0 where
  pub more : Log
  pub log_is : new.log ≡ old.log ++ more
  pub fit : AreFit lists more
  pub load : new.load ≡ old.load
  pub count : length new.places ≡ length old.places
  pub drained : (number : ℕ) → drained_at new.places number ≡ drained_at old.places number
  pub new_run : AllRunNew new.places

pub grows-same : (lists : Lists) (old new : Whole) → new.log ≡ old.log → new.load ≡ old.load
    → length new.places ≡ length old.places → ((number : ℕ) → drained_at new.places number ≡ drained_at old.places number)
    → AllRunNew new.places → Grows lists old new
grows-same lists old new same load count drained run = record {
  more = [];
  log_is = same ∙ sym (append-nil old.log);
  fit = All-nil (λ (entry : Entry Commit). IsFit lists entry.commit);
  load = load;
  count = count;
  drained = drained;
  new_run = run;
}

grows-then : (lists : Lists) (old mid new : Whole) → Grows lists old mid → Grows lists mid new → Grows lists old new
grows-then lists old mid new first later = record {
  more = first.more ++ later.more;
  log_is = later.log_is ∙ ap (λ log. log ++ later.more) first.log_is ∙ append_assoc old.log first.more later.more;
  fit = All-append (λ (entry : Entry Commit). IsFit lists entry.commit) first.more later.more first.fit later.fit;
  load = later.load ∙ first.load;
  count = later.count ∙ first.count;
  drained = λ number. later.drained number ∙ first.drained number;
  new_run = later.new_run;
}

module _ (lists : Lists) where
  -- a change in one warehouse
  grows-place : (Change : World → World → Type 0)
      → ((old new : World) → old.load ≡ lists → HasWarehouse lists old.warehouse → RunsNew old.running → Change old new
      → Adds lists old new)
      → (number : ℕ) (old new : Whole) → old.load ≡ lists → length old.places ≡ length lists.tables.warehouses
      → AllRunNew old.places → ChangesPlace Change number old new → Grows lists old new
  grows-place Change leads number old new load count runs changes =
      let ends = there-between lists old.places number changes.before count changes.there in
      let adds = leads (world_at old number changes.before) (world_at new number changes.after) load
      (IsBetween-bounds 1 (length lists.tables.warehouses) number ends.0 ends.1)
      (holds-place NewAt old.places number changes.before changes.there runs) changes.change in
      record {
        more = adds.more;
        log_is = adds.log_is;
        fit = adds.fit;
        load = adds.load;
        count = ap length changes.places ∙ length-with_place old.places number changes.after;
        drained = λ other. ap (λ places. drained_at places other) changes.places
            ∙ drained-placed old.places number changes.before changes.after changes.there changes.drained other;
        new_run = subst AllRunNew (sym changes.places)
            (each-replaced NewAt NewAt old.places number changes.before changes.after changes.there adds.new_run
            (λ other place apart is. is) runs);
      }

  -- clients look
  grows-looks : (clients : List ℕ) (old : Whole) → AllRunNew old.places → Grows lists old (with_looks clients old)
  grows-looks clients old runs = grows-same lists old (with_looks clients old) refl refl refl (λ number. refl) runs

  -- what runs in some ends, and clients look meanwhile
  grows-ends : (amid : LooksAmid) (numbers : List ℕ) (old new : Whole) → old.load ≡ lists
      → length old.places ≡ length lists.tables.warehouses → AllRunNew old.places → EndsIn amid numbers old new
      → Grows lists old new
  grows-ends amid [] old new load count runs same =
      subst (λ (w : Whole). Grows lists old w) (sym same) (grows-looks amid.before_commit old runs)
  grows-ends amid (number ∷ numbers) old new load count runs ends =
      let seen : Whole = with_looks (amid.before_end number) old in
      let first = grows-place Ends (λ a b l t r. adds-ends lists a b l t r) number seen ends.0 load count runs ends.1 in
      grows-then lists old seen new (grows-looks (amid.before_end number) old runs)
      (grows-then lists seen ends.0 new first
      (grows-ends amid numbers ends.0 new (first.load ∙ load) (first.count ∙ count) first.new_run ends.2))

  drained-commit : (commit : Commit) (number : ℕ) (place : Place)
      → (with_commit commit number place).drained ≡ place.drained
  drained-commit commit number place =
      elim (names warehouses_of_commit number commit) as (λ b.
      (cond b (record place { kept = place.kept ++ commit ∷ [] }) place).drained ≡ place.drained) [
        | true ↦ refl
        | false ↦ refl
      ]

  running-commit : (commit : Commit) (number : ℕ) (place : Place)
      → (with_commit commit number place).running ≡ place.running
  running-commit commit number place =
      elim (names warehouses_of_commit number commit) as (λ b.
      (cond b (record place { kept = place.kept ++ commit ∷ [] }) place).running ≡ place.running) [
        | true ↦ refl
        | false ↦ refl
      ]

  -- a command of several warehouses
  grows-crosses : (client : ℕ) (command : Command) (amid : LooksAmid) (old new : Whole)
      → old.load ≡ lists → length old.places ≡ length lists.tables.warehouses → AllRunNew old.places
      → DoesCross client command amid old new → Grows lists old new
  grows-crosses client command amid old new load count runs does =
      subst (λ (w : Whole). Grows lists old w) (sym does.looked)
      (grows-then lists old does.done (with_looks amid.behind does.done) done
      (grows-looks amid.behind does.done done.new_run))
    where
      ended : Grows lists old does.ended
      ended = grows-ends amid (named_in old command) old does.ended load count runs does.ends

      entry : Entry Commit
      entry = entry_behind does.ended command (old.known client)

      fit-on : (lists' : Lists) → lists' ≡ lists
          → refusal_in (database_behind lists' does.ended.log) command ≡ None
          → IsFit lists
          (commits.Cross editions.Second (next_number does.ended.log) (kept_in (database_behind lists' does.ended.log) command))
      fit-on lists' same none =
          subst (λ (l : Lists). refusal_in (database_behind l does.ended.log) command ≡ None
          → IsFit lists
          (commits.Cross editions.Second (next_number does.ended.log) (kept_in (database_behind l does.ended.log) command)))
          (sym same)
          (crossing-fit lists (database_behind lists does.ended.log) editions.Second (next_number does.ended.log) command
          (same-refusal lists does.ended.log) refl does.several)
          none

      entering : refusal_behind does.ended command ≡ None → Grows lists does.ended (with_entry does.ended client entry)
      entering none = record {
        more = entry ∷ [];
        log_is = refl;
        fit = All-cons (λ (e : Entry Commit). IsFit lists e.commit) entry []
            (fit-on does.ended.load (ended.load ∙ load) none) (All-nil (λ (e : Entry Commit). IsFit lists e.commit));
        load = refl;
        count = length-each (with_commit entry.commit) 1 does.ended.places;
        drained = drained-each (with_commit entry.commit) (drained-commit entry.commit) does.ended.places;
        new_run = new-each (with_commit entry.commit) (running-commit entry.commit) does.ended.places ended.new_run;
      }

      done : Grows lists old does.done
      done = elim does.does [
        | inl same ↦ subst (λ (w : Whole). Grows lists old w) (sym same) ended
        | inr accepted ↦ subst (λ (w : Whole). Grows lists old w) (sym accepted.1)
            (grows-then lists old does.ended (with_entry does.ended client entry) ended (entering accepted.0))
      ]

  -- an event that is no drain
  pub grows : (event : EventOfAll) (old new : Whole) → is_drain event ≡ false → old.load ≡ lists
      → length old.places ≡ length lists.tables.warehouses → AllRunNew old.places → DoesAll event old new
      → Grows lists old new
  grows (all.at number event) old new other load count runs does =
      grows-place (Does event) (λ a b l t r. adds-does lists a b l t r number event does.0) number old new load
      count runs does.1
  grows (all.crosses client command amid) old new other load count runs does =
      grows-crosses client command amid old new load count runs does
  grows (all.forks_all client children) old new other load count runs does =
      grows-same lists old new (ap (λ (w : Whole). w.log) does.1) (ap (λ (w : Whole). w.load) does.1)
      (ap (λ (w : Whole). length w.places) does.1 ∙ length-each (with_snapshot old children) 1 old.places)
      (λ number. ap (λ (w : Whole). drained_at w.places number) does.1
      ∙ drained-each (with_snapshot old children) (λ n place. refl) old.places number)
      (subst (λ (w : Whole). AllRunNew w.places) (sym does.1)
      (new-each (with_snapshot old children) (λ n place. refl) old.places runs))
  grows (all.forks_all_from from children) old new other load count runs does =
      grows-same lists old new (ap (λ (w : Whole). w.log) does.1) (ap (λ (w : Whole). w.load) does.1)
      (ap (λ (w : Whole). length w.places) does.1 ∙ length-each (with_snapshot_from from children) 1 old.places)
      (λ number. ap (λ (w : Whole). drained_at w.places number) does.1
      ∙ drained-each (with_snapshot_from from children) (λ n place. refl) old.places number)
      (subst (λ (w : Whole). AllRunNew w.places) (sym does.1)
      (new-each (with_snapshot_from from children) (λ n place. refl) old.places runs))
  grows (all.closes_all children) old new other load count runs does =
      grows-same lists old new (ap (λ (w : Whole). w.log) does.1) (ap (λ (w : Whole). w.load) does.1)
      (ap (λ (w : Whole). length w.places) does.1 ∙ length-each (without_snapshot children) 1 old.places)
      (λ number. ap (λ (w : Whole). drained_at w.places number) does.1
      ∙ drained-each (without_snapshot children) (λ n place. refl) old.places number)
      (subst (λ (w : Whole). AllRunNew w.places) (sym does.1)
      (new-each (without_snapshot children) (λ n place. refl) old.places runs))
  grows all.drains old new other load count runs does = absurd (true≢false other)
  grows (all.looks client) old new other load count runs does =
      grows-same lists old new (ap (λ (w : Whole). w.log) does) (ap (λ (w : Whole). w.load) does)
      (ap (λ (w : Whole). length w.places) does) (λ number. ap (λ (w : Whole). drained_at w.places number) does)
      (subst (λ (w : Whole). AllRunNew w.places) (sym does) runs)

  -- a drain: all that is kept counts as drained
  pub drained-all : (places : List Place) (place : ℕ) (p : Place) → slice_get places place ≡ Some p
      → drained_at (each_changed with_drained 1 places) (suc place) ≡ length p.kept
  drained-all places place p at = from 1 places place at
    where
      from : (first : ℕ) (places : List Place) (place : ℕ) → slice_get places place ≡ Some p
          → drained_in (slice_get (each_changed with_drained first places) place) ≡ length p.kept
      from first [] place at = absurd (cc)
      from first (here ∷ places) zero at = let same : here ≡ p = cc in ap (λ (p : Place). length p.kept) same
      from first (here ∷ places) (suc place) at = from (suc first) places place at
