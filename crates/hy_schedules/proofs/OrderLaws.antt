-- What no list of events breaks.
use Rattle.std.proofs.Common.{◌≡◌, ℕ, zero, suc, ◌+◌, ◌≤◌, ◌==◌, Bool, true, false, cond, nat_lt, inl, inr, List, [], ◌∷◌, ◌++◌, length, map, take, Some, None, refl, sym, ap, ◌∙◌, subst, arith, length-append}
use Rattle.std.specs.Prelude.{IfSome, slice_get}
use Rattle.std.specs.List.{list_all}
use Rattle.std.specs.Option.{ForSome, option_map, unwrap_or}
use Rattle.std.proofs.lemmas.Bool.{and_from, eq-eqb, lt-ltb}
use Rattle.std.proofs.lemmas.Option.{none-some, slice_get_within}
use Rattle.std.proofs.lemmas.List.Elements.{All-nil}
use Rattle.hy_forks.proofs.of_crossing.PlaceLaws.{get-some}
use Rattle.hy_passes.specs.Agreement.{Agree, AreProjections, IsWarehouse}
use Rattle.hy_passes.specs.SerialList.{IsSerial, are_warehouses, names, numbers_of}
use Rattle.hy_passes.specs.declared.entry.Entry.{Entry}
use Rattle.hy_passes.proofs.Lists.{kept-adds, kept-skips}
use Rattle.hy_passes.proofs.SerialLaws.{serial-more}
use Rattle.hy_rows.specs.Ranges.{is_between}
use Rattle.hy_rows.specs.Tables.{Lists, Tables}
use Rattle.hy_rows.proofs.BetweenLaws.{IsBetween-bounds}
use Rattle.hy_schema.specs.Loads.{IsLoad}
use Rattle.hy_commands.specs.declared.command.Command.{Command}
use Rattle.hy_commands.specs.declared.command.Commit.{Commit}
use Rattle.hy_commands.specs.declared.command.Commit.TheVariants as commits
use Rattle.hy_commands.specs.Commands.{number_of, warehouses_of, warehouses_of_commit}
use Rattle.hy_commands.specs.Invariant.{MeetsOwnConditions}
use Rattle.hy_commands.specs.Parts.{Database}
use Rattle.hy_commands.specs.Replay.{HasWarehouse, rows_after}
use Rattle.hy_commands.proofs.AcceptedLaws.{accepted-in}
use Rattle.hy_commands.proofs.NamedLaws.{first-named}
use Rattle.hy_database.specs.Database.{customer_rows}
use Rattle.hy_database.proofs.Consistent.{consistent-after}
use Rattle.hy_database.proofs.EachLaws.{count-after}
use Rattle.hy_database.proofs.PartLaws.{by_number-warehouses}
use Rattle.hy_database.proofs.Replays.{replay-after}
use Rattle.hy_forks.specs.of_partition.Jobs.{Log}
use Rattle.hy_forks.specs.of_partition.Partition.{projection_of}
use Rattle.hy_forks.specs.of_partition.Schedules as one
use Rattle.hy_forks.specs.of_partition.Schedules.{Does, Event, Taken, with_known}
use Rattle.hy_forks.proofs.of_partition.ReplayLaws.{sound-rows}
use Rattle.hy_forks.specs.of_crossing.Crossings.{commits_in, database_behind}
use Rattle.hy_schedules.specs.Schedules.{ChangesPlace, DoesAll, DoesCross, Ends, EndsIn, EventOfAll, HasSnapshotOf, KeepsEverything, KeepsPlace, LooksAmid, Place, RunsAll, Whole, at, closes_all, crosses, drains, entry_behind, forks_all, forks_all_from, fresh_place, fresh_whole, is_local, kept_at, looks, place_at, refusal_behind, rested_place, rested_places, rested_whole, with_all_known, with_commit, with_drained, with_entry, with_looks, with_place, with_places, with_snapshot, with_snapshot_from, without_snapshot, world_at}
use Rattle.hy_schedules.proofs.PlaceLaws.{each-changed, each-replaced, holds-place, length-each, length-with_place}
use Rattle.hy_schedules.proofs.StepLaws.{HasRows, IsStep, added-elsewhere, added-here, added-longer, added-rows, added-serial, known-more, rows-more, rows-now, step-ends, step-event}

-- ---- the invariant

-- a warehouse keeps what the serial list has of it, and each of its snapshots has the rows after a beginning of that;
-- what runs there has a stamp that is respected, and no more was drained than is kept
record IsPlaceInOrder (load : Lists) (log : Log) (number : ℕ) (place : Place) : Type 0 where
  projection : place.kept ≡ projection_of number log
  snapshots : (under : ℕ) (taken : Taken) → place.open_at under ≡ Some taken → HasRows load number place.kept taken
  stamped : ForSome place.running (λ job. job.stamp ≤ length log)
  drained : place.drained ≤ length place.kept

-- so does each, and no client knows more than the serial list
record IsInOrder (lists : Lists) (whole : Whole) : Type 0 where
  load : whole.load ≡ lists
  count : length whole.places ≡ length lists.tables.warehouses
  each : (number : ℕ) → IfSome (place_at whole.places number) (IsPlaceInOrder lists whole.log number)
  serial : IsSerial warehouses_of_commit number_of (length lists.tables.warehouses) whole.log
  known : (client : ℕ) → whole.known client ≤ length whole.log

in_order-fresh : (lists : Lists) → IsInOrder lists (fresh_whole lists)
in_order-fresh lists = record {
  load = refl;
  count = all_there lists.tables.warehouses;
  each = each;
  serial = record { named = All-nil _; marked = All-nil _; numbered = refl; stamped = refl };
  known = λ client. omega arith;
}
  where
    all_there : {Row : Type 0} (rows : List Row) → length (map (λ row. fresh_place) rows) ≡ length rows
    all_there [] = refl
    all_there (row ∷ rows) = ap suc (all_there rows)

    all_fresh : {Row : Type 0} (rows : List Row) (place number : ℕ)
        → IfSome (slice_get (map (λ row. fresh_place) rows) place) (IsPlaceInOrder lists [] number)
    all_fresh [] place number = tt
    all_fresh (row ∷ rows) zero number = record {
      projection = refl;
      snapshots = λ under taken is. absurd (cc);
      stamped = λ job is. absurd (cc);
      drained = omega arith;
    }
    all_fresh (row ∷ rows) (suc place) number = all_fresh rows place number

    each : (number : ℕ) → IfSome (place_at (map (λ warehouse. fresh_place) lists.tables.warehouses) number)
        (IsPlaceInOrder lists [] number)
    each zero = tt
    each (suc place) = all_fresh lists.tables.warehouses place (suc place)

-- a warehouse that is there has a number of the load
pub there-between : (lists : Lists) (places : List Place) (number : ℕ) (place : Place)
    → length places ≡ length lists.tables.warehouses → place_at places number ≡ Some place
    → (1 ≤ number) × (number ≤ length lists.tables.warehouses)
there-between lists places zero place count there = absurd (cc)
there-between lists places (suc before) place count there =
    let within = slice_get_within places before place there in
    (omega arith, omega (arith, within, count))

-- ---- one warehouse

-- where the serial list has nothing more of a warehouse, the warehouse stays in order
place-elsewhere : (lists : Lists) (log log' : Log) (number : ℕ) (place : Place)
    → projection_of number log' ≡ projection_of number log → length log ≤ length log'
    → IsPlaceInOrder lists log number place → IsPlaceInOrder lists log' number place
place-elsewhere lists log log' number place same longer order = record {
  projection = order.projection ∙ sym same;
  snapshots = order.snapshots;
  stamped = λ job is. omega (arith, order.stamped job is, longer);
  drained = order.drained;
}

module _ (lists : Lists) (old : Whole) (order : IsInOrder lists old) where
  place-old : (number : ℕ) (place : Place) → place_at old.places number ≡ Some place
      → IsPlaceInOrder lists old.log number place
  place-old number place there =
      holds-place (IsPlaceInOrder lists old.log) old.places number place there order.each

  -- a step of one warehouse leaves all in order
  in_order-step : (number : ℕ) (new : Whole) (before after : Place) → place_at old.places number ≡ Some before
      → after.drained ≡ before.drained → new.places ≡ with_place old.places number after
      → IsStep (world_at old number before) (world_at new number after)
      → IsInOrder lists new × (length old.log ≤ length new.log)
  in_order-step number new before after there drained places step =
      let here = place-old number before there in
      let longer = added-longer number old.log new.log before.kept after.kept step.adds in
      let has : (taken : Taken) → HasRows lists number before.kept taken → HasRows lists number after.kept taken =
      added-rows number old.log new.log before.kept after.kept step.adds lists in
      let order_here : IsPlaceInOrder lists new.log number after = record {
        projection = added-here number old.log new.log before.kept after.kept step.adds here.projection;
        snapshots = λ under taken is. elim (step.snapshots under taken is) [
          | inl was ↦ has taken (here.snapshots was.0 taken was.1)
          | inr now ↦ has taken (subst (λ (t : Taken). HasRows lists number before.kept t) (sym now)
              (subst (λ (load : Lists). HasRows lists number before.kept
              (record { commits = length before.kept; rows = rows_after load number before.kept })) (sym order.load)
              (rows-now lists number before.kept)))
        ];
        stamped = step.stamped;
        drained = omega (arith, drained, here.drained, kept_longer number new before after step);
      } in (
        record {
          load = step.load ∙ order.load;
          count = ap length places ∙ length-with_place old.places number after ∙ order.count;
          each = λ other.
              subst (λ (all : List Place). IfSome (place_at all other) (IsPlaceInOrder lists new.log other))
              (sym places)
              (each-replaced (IsPlaceInOrder lists old.log) (IsPlaceInOrder lists new.log) old.places number before
              after there order_here
              (λ other place apart was.
              place-elsewhere lists old.log new.log other place
              (added-elsewhere number old.log new.log before.kept after.kept step.adds other apart) longer was)
              order.each other);
          serial = added-serial number old.log new.log before.kept after.kept step.adds (length lists.tables.warehouses)
              (there-between lists old.places number before order.count there) order.serial;
          known = step.known;
        },
        longer,
      )
    where
      kept_longer : (number : ℕ) (new : Whole) (before after : Place)
          → IsStep (world_at old number before) (world_at new number after) → length before.kept ≤ length after.kept
      kept_longer number new before after step = elim step.adds [
        | inl same ↦ omega (arith, ap length same.1)
        | inr more ↦ omega (arith, ap length more.kept_is, length-append before.kept (commits.Local more.edition more.command ∷ []))
      ]

  in_order-at : (number : ℕ) (event : Event) (new : Whole) → is_local event ≡ true
      → ChangesPlace (Does event) number old new → IsInOrder lists new
  in_order-at number event new is_here changes =
      (in_order-step number new changes.before changes.after changes.there changes.drained changes.places
      (step-event (world_at old number changes.before) (place-old number changes.before changes.there).stamped
      order.known event (world_at new number changes.after) is_here changes.change)).0

  in_order-end : (number : ℕ) (new : Whole) → ChangesPlace Ends number old new
      → IsInOrder lists new × (length old.log ≤ length new.log)
  in_order-end number new changes =
      in_order-step number new changes.before changes.after changes.there changes.drained changes.places
      (step-ends (world_at old number changes.before) (place-old number changes.before changes.there).stamped
      order.known (world_at new number changes.after) changes.change)

-- clients that look know no more than the serial list
known-looked : (known : ℕ → ℕ) (clients : List ℕ) (log : Log) → ((client : ℕ) → known client ≤ length log)
    → (client : ℕ) → with_all_known known clients log client ≤ length log
known-looked known [] log within = within
known-looked known (client ∷ clients) log within =
    known-looked (with_known known client log) clients log (known-more known client log within)

in_order-looks : (lists : Lists) (clients : List ℕ) (whole : Whole) → IsInOrder lists whole
    → IsInOrder lists (with_looks clients whole)
in_order-looks lists clients whole order = record {
  load = order.load;
  count = order.count;
  each = order.each;
  serial = order.serial;
  known = known-looked whole.known clients whole.log order.known;
}

in_order-ends : (lists : Lists) (amid : LooksAmid) (numbers : List ℕ) (old new : Whole) → IsInOrder lists old
    → EndsIn amid numbers old new → IsInOrder lists new × (length old.log ≤ length new.log)
in_order-ends lists amid [] old new order same =
    let long : length new.log ≡ length old.log = ap (λ (w : Whole). length w.log) same in (
      subst (λ (w : Whole). IsInOrder lists w) (sym same) (in_order-looks lists amid.before_commit old order),
      omega (arith, long),
    )
in_order-ends lists amid (number ∷ numbers) old new order ends =
    let first = in_order-end lists (with_looks (amid.before_end number) old)
    (in_order-looks lists (amid.before_end number) old order) number ends.0 ends.1 in
    let later = in_order-ends lists amid numbers ends.0 new first.0 ends.2 in
    let long : length old.log ≤ length ends.0.log = first.1 in
    (later.0, omega (arith, long, later.1))

-- ---- a command over several warehouses

-- what each of some numbers passes is another test of it
all-same : (test other : ℕ → Bool) → ((number : ℕ) → test number ≡ other number) → (numbers : List ℕ)
    → list_all test numbers ≡ list_all other numbers
all-same test other same [] = refl
all-same test other same (number ∷ numbers) =
    rw (same number, all-same test other same numbers) refl

module _ (lists : Lists) (old : Whole) (order : IsInOrder lists old) (client stamp : ℕ) (command : Command)
    (several : nat_lt 1 (length (warehouses_of command)) ≡ true) (accepted : refusal_behind old command ≡ None)
    (stamped : stamp ≤ length old.log) where
  abbrev entry : Entry Commit
  entry = entry_behind old command stamp

  abbrev database : Database
  database = database_behind old.load old.log

  same-named : warehouses_of_commit entry.commit ≡ warehouses_of command
  same-named = by_number-warehouses command (customer_rows command database)

  are-there : are_warehouses (length lists.tables.warehouses) (warehouses_of command) ≡ true
  are-there =
      let first = first-named command in
      let count : length database.warehouses ≡ length lists.tables.warehouses =
      count-after old.load (commits_in old.log) ∙ ap (λ (l : Lists). length l.tables.warehouses) order.load in
      and_from (nat_lt 0 (length (warehouses_of command)))
      (list_all (is_between 1 (length lists.tables.warehouses)) (warehouses_of command))
      (lt-ltb 0 (length (warehouses_of command)) (omega (arith, ap length first.1)))
      (ap (λ n. list_all (is_between 1 n) (warehouses_of command)) (sym count)
      ∙ (accepted-in database command accepted).named)

  serial-crossed : IsSerial warehouses_of_commit number_of (length lists.tables.warehouses) (old.log ++ entry ∷ [])
  serial-crossed =
      let next : length (numbers_of warehouses_of_commit number_of old.log) + 1
      ≡ suc (length (numbers_of warehouses_of_commit number_of old.log)) = omega arith in
      serial-more warehouses_of_commit number_of (length lists.tables.warehouses) old.log entry order.serial
      (ap (are_warehouses (length lists.tables.warehouses)) same-named ∙ are-there)
      (ap Some next
      ∙ sym (ap (λ b. cond b (Some (suc (length (numbers_of warehouses_of_commit number_of old.log)))) None)
      (ap (λ named. nat_lt 1 (length named)) same-named ∙ several)))
      stamped

  -- each warehouse keeps it where it is named
  place-crossed : (number : ℕ) (place : Place) → IsPlaceInOrder lists old.log number place
      → IsPlaceInOrder lists (old.log ++ entry ∷ []) number (with_commit entry.commit number place)
  place-crossed number place was =
      elim (names warehouses_of_commit number entry.commit) as (λ b. names warehouses_of_commit number entry.commit ≡ b
      → IsPlaceInOrder lists (old.log ++ entry ∷ []) number
      (cond b (record place { kept = place.kept ++ entry.commit ∷ [] }) place)) [
        | true ↦ λ named. record {
          projection = ap (λ kept. kept ++ entry.commit ∷ []) was.projection
              ∙ sym (kept-adds warehouses_of_commit number old.log entry named);
          snapshots = λ under taken is.
              rows-more lists number place.kept (entry.commit ∷ []) taken (was.snapshots under taken is);
          stamped = λ job is. omega (arith, was.stamped job is, longer);
          drained = omega (arith, was.drained, length-append place.kept (entry.commit ∷ []));
        }
        | false ↦ λ unnamed.
            place-elsewhere lists old.log (old.log ++ entry ∷ []) number place
            (kept-skips warehouses_of_commit number old.log entry unnamed) (omega (arith, longer)) was
      ] refl
    where
      longer : length (old.log ++ entry ∷ []) ≡ length old.log + 1
      longer = length-append old.log (entry ∷ [])

  in_order-entered : IsInOrder lists (with_entry old client entry)
  in_order-entered = record {
    load = order.load;
    count = length-each (with_commit entry.commit) 1 old.places ∙ order.count;
    each = each-changed (with_commit entry.commit) (IsPlaceInOrder lists old.log)
        (IsPlaceInOrder lists (old.log ++ entry ∷ [])) old.places place-crossed order.each;
    serial = serial-crossed;
    known = known-more old.known client (old.log ++ entry ∷ [])
        (λ other. omega (arith, order.known other, length-append old.log (entry ∷ [])));
  }

module _ (lists : Lists) (old : Whole) (order : IsInOrder lists old) where
  in_order-crosses : (client : ℕ) (command : Command) (amid : LooksAmid) (new : Whole)
      → DoesCross client command amid old new → IsInOrder lists new
  in_order-crosses client command amid new does =
      let ended = in_order-ends lists amid _ old does.ended order does.ends in
      let done : IsInOrder lists does.done = elim does.does [
        | inl refused ↦ subst (λ (w : Whole). IsInOrder lists w) (sym refused) ended.0
        | inr accepts ↦ subst (λ (w : Whole). IsInOrder lists w) (sym accepts.1)
            (in_order-entered lists does.ended ended.0 client (old.known client) command does.several accepts.0
            (omega (arith, order.known client, ended.1)))
      ] in
      subst (λ (w : Whole). IsInOrder lists w) (sym does.looked) (in_order-looks lists amid.behind does.done done)

  -- ---- snapshots of all warehouses, drains and looks

  place-snapshot : (children : ℕ → ℕ) (number : ℕ) (place : Place) → IsPlaceInOrder lists old.log number place
      → IsPlaceInOrder lists old.log number (with_snapshot old children number place)
  place-snapshot children number place was = record {
    projection = was.projection;
    snapshots = λ under taken is. by under taken (under == children number) is;
    stamped = was.stamped;
    drained = was.drained;
  }
    where
      now : Taken
      now = record { commits = length place.kept; rows = rows_after old.load number place.kept }

      by : (under : ℕ) (taken : Taken) (here : Bool) → cond here (Some now) (place.open_at under) ≡ Some taken
          → HasRows lists number place.kept taken
      by under taken true is =
          let same : now ≡ taken = cc in
          subst (λ (t : Taken). HasRows lists number place.kept t) same
          (subst (λ (load : Lists). HasRows lists number place.kept
          (record { commits = length place.kept; rows = rows_after load number place.kept })) (sym order.load)
          (rows-now lists number place.kept))
      by under taken false is = was.snapshots under taken is

  place-again : (from children : ℕ → ℕ) (number : ℕ) (place : Place) → IsPlaceInOrder lists old.log number place
      → IsPlaceInOrder lists old.log number (with_snapshot_from from children number place)
  place-again from children number place was = record {
    projection = was.projection;
    snapshots = λ under taken is. by under taken (under == children number) is;
    stamped = was.stamped;
    drained = was.drained;
  }
    where
      by : (under : ℕ) (taken : Taken) (here : Bool)
          → cond here (place.open_at (from number)) (place.open_at under) ≡ Some taken
          → HasRows lists number place.kept taken
      by under taken true is = was.snapshots (from number) taken is
      by under taken false is = was.snapshots under taken is

  place-closed : (children : ℕ → ℕ) (number : ℕ) (place : Place) → IsPlaceInOrder lists old.log number place
      → IsPlaceInOrder lists old.log number (without_snapshot children number place)
  place-closed children number place was = record {
    projection = was.projection;
    snapshots = λ under taken is. by under taken (under == children number) is;
    stamped = was.stamped;
    drained = was.drained;
  }
    where
      by : (under : ℕ) (taken : Taken) (here : Bool) → cond here None (place.open_at under) ≡ Some taken
          → HasRows lists number place.kept taken
      by under taken true is = absurd (cc)
      by under taken false is = was.snapshots under taken is

  -- each place changed and stayed in order, while the serial list stays
  in_order-changed : (change : ℕ → Place → Place) (known : ℕ → ℕ) → ((client : ℕ) → known client ≤ length old.log)
      → ((number : ℕ) (place : Place) → IsPlaceInOrder lists old.log number place
      → IsPlaceInOrder lists old.log number (change number place))
      → IsInOrder lists (record (with_places change old) { known = known })
  in_order-changed change known within changed = record {
    load = order.load;
    count = length-each change 1 old.places ∙ order.count;
    each = each-changed change (IsPlaceInOrder lists old.log) (IsPlaceInOrder lists old.log) old.places changed
        order.each;
    serial = order.serial;
    known = within;
  }

  in_order-event : (event : EventOfAll) (new : Whole) → DoesAll event old new → IsInOrder lists new
  in_order-event (at number event) new does = in_order-at lists old order number event new does.0 does.1
  in_order-event (crosses client command amid) new does = in_order-crosses client command amid new does
  in_order-event (forks_all client children) new does = subst (λ (w : Whole). IsInOrder lists w) (sym does.1)
      (in_order-changed (with_snapshot old children) (with_known old.known client old.log)
      (known-more old.known client old.log order.known) (place-snapshot children))
  in_order-event (forks_all_from from children) new does = subst (λ (w : Whole). IsInOrder lists w) (sym does.1)
      (in_order-changed (with_snapshot_from from children) old.known order.known (place-again from children))
  in_order-event (closes_all children) new does = subst (λ (w : Whole). IsInOrder lists w) (sym does.1)
      (in_order-changed (without_snapshot children) old.known order.known (place-closed children))
  in_order-event drains new does = subst (λ (w : Whole). IsInOrder lists w) (sym does)
      (in_order-changed with_drained old.known order.known (λ number place was. record {
        projection = was.projection;
        snapshots = was.snapshots;
        stamped = was.stamped;
        drained = omega arith;
      }))
  in_order-event (looks client) new does = subst (λ (w : Whole). IsInOrder lists w) (sym does) (record {
    load = order.load;
    count = order.count;
    each = order.each;
    serial = order.serial;
    known = known-more old.known client old.log order.known;
  })

in_order-runs : (lists : Lists) (events : List EventOfAll) (old new : Whole) → IsInOrder lists old
    → RunsAll events old new → IsInOrder lists new
in_order-runs lists [] old new order same = subst (λ (w : Whole). IsInOrder lists w) (sym same) order
in_order-runs lists (event ∷ events) old new order run =
    let next : IsInOrder lists run.0 = elim run.1 [
      | inl same ↦ subst (λ (w : Whole). IsInOrder lists w) (sym same) order
      | inr does ↦ in_order-event lists old order event run.0 does
    ] in
    in_order-runs lists events run.0 new next run.2

-- ---- what is kept

-- the kept lists agree where they are the projections of a serial list
abbrev pub ProjectionsAgree : Type 0
ProjectionsAgree = (partitions : ℕ) (lists : ℕ → List Commit) (log : Log)
    → IsSerial warehouses_of_commit number_of partitions log → AreProjections warehouses_of_commit partitions lists log
    → Agree warehouses_of_commit number_of partitions lists

module _ (projections-agree : ProjectionsAgree) (lists : Lists) (is_load : IsLoad lists) (whole : Whole)
    (order : IsInOrder lists whole) where
  keeps-place : (number : ℕ) (place : Place) → place_at whole.places number ≡ Some place
      → IsPlaceInOrder lists whole.log number place → KeepsPlace lists whole number place
  keeps-place number place there here =
      let ends = there-between lists whole.places number place order.count there in
      let between : HasWarehouse lists number =
      IsBetween-bounds 1 (length lists.tables.warehouses) number ends.0 ends.1 in
      let meets : (commits : List Commit) → MeetsOwnConditions (rows_after lists number commits) = λ commits.
      (sound-rows lists number commits is_load between).conditions in
      record {
        alone = record {
          load = order.load;
          warehouse = refl;
          snapshots = λ under taken is.
              let right = here.snapshots under taken is in
              record {
                within = right.within;
                rows = right.rows
                    ∙ ap (λ (l : Lists). rows_after l number (take taken.commits place.kept)) (sym order.load);
                conditions = subst (λ (rows : Tables). MeetsOwnConditions rows) (sym right.rows)
                    (meets (take taken.commits place.kept));
              };
          conditions = subst (λ (l : Lists). MeetsOwnConditions (rows_after l number place.kept)) (sym order.load)
              (meets place.kept);
          projection = here.projection;
          stamps = order.serial.stamped;
          known = order.known;
        };
        drained = here.drained;
        stamped = here.stamped;
        rows =
            ap (λ (l : Lists). rows_after l number place.kept) order.load
            ∙ ap (λ kept. rows_after lists number kept) here.projection
            ∙ sym ((replay-after lists (commits_in whole.log)).rows number between);
      }

  keeps-each : (number : ℕ) → IfSome (place_at whole.places number) (KeepsPlace lists whole number)
  keeps-each number =
      elim (place_at whole.places number) as (λ found. place_at whole.places number ≡ found
      → IfSome found (IsPlaceInOrder lists whole.log number) → IfSome found (KeepsPlace lists whole number)) [
        | None ↦ λ is here. tt
        | Some place ↦ λ is here. keeps-place number place is here
      ] refl (order.each number)

  kept-projections : AreProjections warehouses_of_commit (length lists.tables.warehouses) (kept_at whole.places)
      whole.log
  kept-projections number is =
      elim (place_at whole.places number) as (λ found. place_at whole.places number ≡ found
      → IfSome found (IsPlaceInOrder lists whole.log number)
      → unwrap_or (option_map (λ (place : Place). place.kept) found) [] ≡ projection_of number whole.log) [
        | None ↦ λ none here. absurd (not-past number is none)
        | Some place ↦ λ some here. here.projection
      ] refl (order.each number)
    where
      not-past : (number : ℕ) → IsWarehouse (length lists.tables.warehouses) number
          → place_at whole.places number ≡ None → ⊥
      not-past zero is none = omega (arith, is.0)
      not-past (suc place) is none =
          let some = get-some whole.places place (omega (arith, is.1, order.count)) in
          none-some some.0 (sym none ∙ some.1)

  keeps-everything : KeepsEverything lists whole
  keeps-everything = record {
    load = order.load;
    count = order.count;
    each = keeps-each;
    serial = order.serial;
    agree = projections-agree (length lists.tables.warehouses) (kept_at whole.places)
        whole.log order.serial kept-projections;
    conditions = consistent-after lists is_load (commits_in whole.log);
  }

pub keeps-all : ProjectionsAgree → (lists : Lists) (events : List EventOfAll) (whole : Whole) → IsLoad lists
    → RunsAll events (fresh_whole lists) whole → KeepsEverything lists whole
keeps-all agree lists events whole is_load run =
    keeps-everything agree lists is_load whole
    (in_order-runs lists events (fresh_whole lists) whole (in_order-fresh lists) run)

-- ---- from any moment on

-- a database that keeps everything is in order
module _ (lists : Lists) (is_load : IsLoad lists) (whole : Whole) (keeps : KeepsEverything lists whole) where
  order-place : (number : ℕ) (place : Place) → KeepsPlace lists whole number place
      → IsPlaceInOrder lists whole.log number place
  order-place number place is = record {
    projection = is.alone.projection;
    snapshots = λ under taken at.
        let right = is.alone.snapshots under taken at in
        record {
          within = right.within;
          rows = right.rows ∙ ap (λ (l : Lists). rows_after l number (take taken.commits place.kept)) keeps.load;
        };
    stamped = is.stamped;
    drained = is.drained;
  }

  order-each : (number : ℕ) → IfSome (place_at whole.places number) (IsPlaceInOrder lists whole.log number)
  order-each number =
      elim (place_at whole.places number) as (λ found. IfSome found (KeepsPlace lists whole number)
      → IfSome found (IsPlaceInOrder lists whole.log number)) [
        | None ↦ λ here. tt
        | Some place ↦ λ here. order-place number place here
      ] (keeps.each number)

  first-there : (place : Place) × (place_at whole.places 1 ≡ Some place)
  first-there = get-some whole.places 0 (omega (arith, keeps.count, is_load.warehouses.whole))

  order-of : IsInOrder lists whole
  order-of = record {
    load = keeps.load;
    count = keeps.count;
    each = order-each;
    serial = keeps.serial;
    known = (holds-place (KeepsPlace lists whole) whole.places 1 first-there.0 first-there.1 keeps.each).alone.known;
  }

pub keeps-on : ProjectionsAgree → (lists : Lists) (events : List EventOfAll) (old new : Whole) → IsLoad lists
    → KeepsEverything lists old → RunsAll events old new → KeepsEverything lists new
keeps-on agree lists events old new is_load keeps run =
    keeps-everything agree lists is_load new
    (in_order-runs lists events old new (order-of lists is_load old keeps) run)

-- ---- at rest

length-rested : {Row : Type 0} (log : Log) (number : ℕ) (rows : List Row)
    → length (rested_places log number rows) ≡ length rows
length-rested log number [] = refl
length-rested log number (row ∷ rows) = ap suc (length-rested log (suc number) rows)

module _ (lists : Lists) (log : Log) where
  rested-place : (number : ℕ) → IsPlaceInOrder lists log number (rested_place (projection_of number log))
  rested-place number = record {
    projection = refl;
    snapshots = λ under taken is. absurd (cc);
    stamped = λ job is. absurd (cc);
    drained = omega arith;
  }

  rested-from : {Row : Type 0} (number : ℕ) (rows : List Row) (place : ℕ)
      → IfSome (slice_get (rested_places log number rows) place) (IsPlaceInOrder lists log (number + place))
  rested-from number [] place = tt
  rested-from number (row ∷ rows) zero =
      let same : number ≡ number + 0 = omega arith in
      subst (λ n. IsPlaceInOrder lists log n (rested_place (projection_of number log))) same (rested-place number)
  rested-from number (row ∷ rows) (suc place) =
      let next : suc number + place ≡ number + suc place = omega arith in
      subst (λ n. IfSome (slice_get (rested_places log (suc number) rows) place) (IsPlaceInOrder lists log n)) next
      (rested-from (suc number) rows place)

  rested-each : (number : ℕ)
      → IfSome (place_at (rested_places log 1 lists.tables.warehouses) number) (IsPlaceInOrder lists log number)
  rested-each zero = tt
  rested-each (suc place) =
      let first : 1 + place ≡ suc place = omega arith in
      subst (λ n. IfSome (slice_get (rested_places log 1 lists.tables.warehouses) place) (IsPlaceInOrder lists log n)) first
      (rested-from 1 lists.tables.warehouses place)

pub keeps-rested : ProjectionsAgree → (lists : Lists) (log : Log) (known : ℕ → ℕ) → IsLoad lists
    → IsSerial warehouses_of_commit number_of (length lists.tables.warehouses) log
    → ((client : ℕ) → known client ≤ length log) → KeepsEverything lists (rested_whole lists log known)
keeps-rested agree lists log known is_load serial within =
    keeps-everything agree lists is_load (rested_whole lists log known) (record {
      load = refl;
      count = length-rested log 1 lists.tables.warehouses;
      each = rested-each lists log;
      serial = serial;
      known = within;
    })

-- snapshots that are taken together have the rows of one database
pub of-one_moment : (lists : Lists) (client : ℕ) (children : ℕ → ℕ) (old new : Whole) → KeepsEverything lists old
    → DoesAll (forks_all client children) old new → (number : ℕ)
    → IfSome (place_at new.places number) (HasSnapshotOf (database_behind lists new.log) number (children number))
of-one_moment lists client children old new keeps does number =
    subst (λ (w : Whole). IfSome (place_at w.places number)
    (HasSnapshotOf (database_behind lists w.log) number (children number))) (sym does.1)
    (each-changed (with_snapshot old children) (KeepsPlace lists old)
    (λ number place. HasSnapshotOf (database_behind lists old.log) number (children number) place) old.places
    (λ number place right.
    ap (λ b. cond b (Some (record { commits = length place.kept; rows = one.rows_of (world_at old number place) }))
    (place.open_at (children number))) (eq-eqb (children number) (children number) refl)
    ∙ ap (λ (rows : Tables). Some (record { commits = length place.kept; rows = rows })) right.rows)
    keeps.each number)
