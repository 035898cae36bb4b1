-- What no list of events breaks, and the event of a step.
use Rattle.std.proofs.Common.{◌≡◌, ℕ, ◌+◌, ◌≤◌, Bool, true, false, cond, inl, inr, List, [], ◌∷◌, ◌++◌, length, take, Option, Some, None, refl, sym, ap, ◌∙◌, subst, arith, length-append}
use Rattle.std.specs.Prelude.{◌==◌, ◌||◌, is_some, IsSome, MatchOption, map, slice_index_or}
use Rattle.std.specs.List.{list_any}
use Rattle.std.specs.Option.{option_map, ForSome}
use Rattle.std.proofs.Common.{eq-eqb}
use Rattle.hy_passes.specs.SerialList.{respects_stamps}
use Rattle.hy_passes.proofs.Lists.{kept-adds, kept-skips}
use Rattle.hy_passes.proofs.SerialLaws.{respects-more}
use Rattle.hy_rows.specs.declared.item.Item.{Item}
use Rattle.std.proofs.lemmas.List.{append-nil, take-append-le}
use Rattle.std.proofs.Math.Seq.{take-length}
use Rattle.hy_rows.specs.Ranges.{IsBetween}
use Rattle.hy_rows.specs.Tables.{Lists, Tables}
use Rattle.hy_schema.specs.Loads.{IsLoad}
use Rattle.hy_commands.specs.declared.command.Command.{Command}
use Rattle.hy_commands.specs.declared.command.Commit.{Commit}
use Rattle.hy_commands.specs.declared.command.Commit.TheVariants as commits
use Rattle.hy_commands.specs.declared.edition.Edition.TheVariants as editions
use Rattle.hy_commands.specs.Commands.{is_reader, kept_of, warehouses_of_commit}
use Rattle.hy_commands.proofs.NamedLaws.{named-accepted}
use Rattle.hy_commands.specs.Invariant.{MeetsOwnConditions}
use Rattle.hy_commands.specs.Transactions.{refusal_of}
use Rattle.hy_space.specs.Space.{child_bytes}
use Rattle.hy_partition.specs.Jobs.{Log, RunningJob, entered_by}
use Rattle.hy_partition.specs.Partition.{PartitionState, commits_of, projection_of}
use Rattle.hy_partition.specs.Schedules.{Does, DoesStep, Event, IsTaken, IsWorldOf, KeepsAll, Leads, Runs, Taken, Underway, World, begins, closes, entered, enters, forks, forks_from, fresh_world, looks, rows_of, steps, takes, underway, with_accepted, with_known, with_open, with_refused, with_slice, world_rows}
use Rattle.hy_partition.specs.Steps.{KeepsRest, RefusesAt, StepsTo}
use Rattle.hy_partition.specs.declared.job.Progress.{Progress}
use Rattle.hy_partition.specs.declared.job.Progress.TheVariants as progress
use Rattle.hy_partition.proofs.ReplayLaws.{sound-rows}

-- ---- lists of events

-- a snapshot has the rows after a beginning of what is kept
record HasRows (world : World) (taken : Taken) : Type 0 where
  within : taken.commits ≤ length world.kept
  rows : taken.rows ≡ world_rows world (take taken.commits world.kept)

-- each open snapshot has them, and the load and the warehouse are those of the first moment; what is kept is what the
-- serial list has of the warehouse, which respects its stamps, and nobody knows more than that list
record IsInOrder (lists : Lists) (number : ℕ) (world : World) : Type 0 where
  load : world.load ≡ lists
  warehouse : world.warehouse ≡ number
  snapshots : (at : ℕ) (taken : Taken) → world.open_at at ≡ Some taken → HasRows world taken
  projection : world.kept ≡ projection_of world.warehouse world.log
  stamps : respects_stamps world.log ≡ true
  known : (client : ℕ) → world.known client ≤ length world.log
  stamped : ForSome world.running (λ job. job.stamp ≤ length world.log)

-- ---- serial lists

-- a client that knows all of a list knows no more than it, and others what they knew
known-more : (known : ℕ → ℕ) (client : ℕ) (log : Log) → ((other : ℕ) → known other ≤ length log) → (other : ℕ)
    → with_known known client log other ≤ length log
known-more known client log within other =
    elim (other == client) as (λ b. cond b (length log) (known other) ≤ length log) [
      | true ↦ omega arith
      | false ↦ within other
    ]

-- what a command that a warehouse accepts adds to the serial list: it is the warehouse's, and its stamp is respected
module _ (items : List Item) (number : ℕ) (tables : Tables) (job : Underway) (log : Log)
    (accepted : refusal_of items number job.command tables ≡ None) (stamped : job.stamp ≤ length log) where
  projection-entered : projection_of number (log ++ entered job)
      ≡ projection_of number log ++ kept_of job.edition job.command
  projection-entered =
      elim (is_reader job.command) as (λ b.
      projection_of number (log ++ map (λ commit. record { commit = commit; stamp = job.stamp })
      (cond b [] (commits.Local job.edition job.command ∷ [])))
      ≡ projection_of number log ++ cond b [] (commits.Local job.edition job.command ∷ [])) [
        | true ↦ ap (projection_of number) (append-nil log) ∙ sym (append-nil (projection_of number log))
        | false ↦ kept-adds warehouses_of_commit number log
            (record { commit = commits.Local job.edition job.command; stamp = job.stamp })
            (ap (λ all. list_any (λ named. named == number) all)
            (named-accepted items number job.command tables accepted)
            ∙ ap (λ b. b || false) (eq-eqb number number refl))
      ]

  stamps-entered : respects_stamps log ≡ true → respects_stamps (log ++ entered job) ≡ true
  stamps-entered so =
      elim (is_reader job.command) as (λ b.
      respects_stamps (log ++ map (λ commit. record { commit = commit; stamp = job.stamp })
      (cond b [] (commits.Local job.edition job.command ∷ []))) ≡ true) [
        | true ↦ ap respects_stamps (append-nil log) ∙ so
        | false ↦ respects-more 0 log (record { commit = commits.Local job.edition job.command; stamp = job.stamp }) so
            (omega (arith, stamped))
      ]

module _ (lists : Lists) (number : ℕ) where
  in_order-fresh : IsInOrder lists number (fresh_world lists number)
  in_order-fresh = record {
    load = refl;
    warehouse = refl;
    snapshots = λ at taken is. absurd (cc);
    projection = refl;
    stamps = refl;
    known = λ client. omega arith;
    stamped = λ job is. absurd (cc);
  }

  module _ (world : World) (order : IsInOrder lists number world) where
    -- snapshots keep their rows as more is kept
    in_order-accepted : (job : Underway) → world.running ≡ Some job
        → refusal_of world.load.items world.warehouse job.command (rows_of world) ≡ None
        → IsInOrder lists number (with_accepted world job)
    in_order-accepted job running accepted =
        let stamped = order.stamped job running in
        let longer = length-append world.log (entered job) in
        record {
          load = order.load;
          warehouse = order.warehouse;
          snapshots = λ at taken is.
              let old = order.snapshots at taken is in
              record {
                within = omega (arith, old.within, length-append world.kept (kept_of job.edition job.command));
                rows = old.rows
                    ∙ ap (world_rows world)
                    (sym (take-append-le taken.commits world.kept (kept_of job.edition job.command) old.within));
              };
          projection = ap (λ kept. kept ++ kept_of job.edition job.command) order.projection
              ∙ sym (projection-entered world.load.items world.warehouse (rows_of world) job world.log accepted stamped);
          stamps = stamps-entered world.load.items world.warehouse (rows_of world) job world.log accepted stamped order.stamps;
          known = known-more world.known job.client (world.log ++ entered job)
              (λ other. omega (arith, order.known other, longer));
          stamped = λ job is. absurd (cc);
        }

    -- one number has another snapshot, or none, and a client may know more
    in_order-opened : (known : ℕ → ℕ) (number' : ℕ) (snapshot : Option Taken)
        → ((client : ℕ) → known client ≤ length world.log)
        → ((taken : Taken) → snapshot ≡ Some taken → HasRows world taken)
        → IsInOrder lists number (record world { known = known; open_at = with_open world.open_at number' snapshot })
    in_order-opened known number' snapshot within right = record {
      load = order.load;
      warehouse = order.warehouse;
      snapshots = λ at taken is. by at taken (at == number') is;
      projection = order.projection;
      stamps = order.stamps;
      known = within;
      stamped = order.stamped;
    }
      where
        after : World
        after = record world { known = known; open_at = with_open world.open_at number' snapshot }

        by : (at : ℕ) (taken : Taken) (here : Bool) → cond here snapshot (world.open_at at) ≡ Some taken
            → HasRows after taken
        by at taken true is = let old = right taken is in record { within = old.within; rows = old.rows }
        by at taken false is = let old = order.snapshots at taken is in record { within = old.within; rows = old.rows }

    taken_now : (taken : Taken) → Some (record { commits = length world.kept; rows = rows_of world }) ≡ Some taken
        → HasRows world taken
    taken_now taken is =
        let same : record { commits = length world.kept; rows = rows_of world } ≡ taken = cc in
        subst (λ (t : Taken). HasRows world t) same (record {
          within = omega arith;
          rows = ap (world_rows world) (sym (take-length world.kept));
        })

    -- nothing but what runs, and whether an answer waits, changed
    in_order-same : (running : Option Underway) (waits : Bool) → ForSome running (λ job. job.stamp ≤ length world.log)
        → IsInOrder lists number (record world { running = running; waits = waits })
    in_order-same running waits stamped = record {
      load = order.load;
      warehouse = order.warehouse;
      snapshots = λ at taken is.
          let old = order.snapshots at taken is in record { within = old.within; rows = old.rows };
      projection = order.projection;
      stamps = order.stamps;
      known = order.known;
      stamped = stamped;
    }

    in_order-step : (new : World) (job : Underway) → world.running ≡ Some job → DoesStep world new job
        → IsInOrder lists number new
    in_order-step new job running does = elim does [
      | inl more ↦ subst (λ (w : World). IsInOrder lists number w) (sym more.1)
          (in_order-same (Some (record job { slices = job.slices + 1 })) world.waits
          (λ other is.
          let same : record job { slices = job.slices + 1 } ≡ other = cc in
          subst (λ (j : Underway). j.stamp ≤ length world.log) same (order.stamped job running)))
      | inr ended ↦ elim ended [
        | inl last ↦ subst (λ (w : World). IsInOrder lists number w) (sym last.2) (in_order-accepted job running last.1)
        | inr refused ↦ subst (λ (w : World). IsInOrder lists number w) (sym refused)
            (in_order-same None true (λ other is. absurd (cc)))
      ]
    ]

    abbrev begun : ℕ → Command → Underway
    begun client command =
        record { edition = editions.Second; command = command; slices = 0; client = client; stamp = world.known client }

    in_order-event : (event : Event) (new : World) → Does event world new → IsInOrder lists number new
    in_order-event (begins client command) new does = subst (λ (w : World). IsInOrder lists number w) (sym does.3)
        (in_order-same (Some (begun client command)) world.waits (λ job is.
        let same : begun client command ≡ job = cc in
        subst (λ (j : Underway). j.stamp ≤ length world.log) same (order.known client)))
    in_order-event steps new does = at world.running refl does
      where
        at : (running : Option Underway) → world.running ≡ running → MatchOption running ⊥ (DoesStep world new)
            → IsInOrder lists number new
        at None is never = absurd never
        at (Some job) is does = in_order-step new job is does
    in_order-event takes new does = subst (λ (w : World). IsInOrder lists number w) (sym does.1)
        (in_order-same world.running false order.stamped)
    in_order-event (forks client number') new does =
        subst (λ (w : World). IsInOrder lists number w) (sym does.1)
        (in_order-opened (with_known world.known client world.log) number' _
        (known-more world.known client world.log order.known) taken_now)
    in_order-event (forks_from from number') new does =
        subst (λ (w : World). IsInOrder lists number w) (sym does.2)
        (in_order-opened world.known number' (world.open_at from) order.known (λ taken is. order.snapshots from taken is))
    in_order-event (closes number') new does =
        subst (λ (w : World). IsInOrder lists number w) (sym does.1)
        (in_order-opened world.known number' None order.known (λ taken is. absurd (cc)))
    in_order-event (looks client) new does = subst (λ (w : World). IsInOrder lists number w) (sym does) (record {
      load = order.load;
      warehouse = order.warehouse;
      snapshots = λ at taken is.
          let old = order.snapshots at taken is in record { within = old.within; rows = old.rows };
      projection = order.projection;
      stamps = order.stamps;
      known = known-more world.known client world.log order.known;
      stamped = order.stamped;
    })
    in_order-event (enters entry) new does = subst (λ (w : World). IsInOrder lists number w) (sym does.2) (record {
      load = order.load;
      warehouse = order.warehouse;
      snapshots = λ at taken is.
          let old = order.snapshots at taken is in record { within = old.within; rows = old.rows };
      projection = order.projection ∙ sym (kept-skips warehouses_of_commit world.warehouse world.log entry does.0);
      stamps = respects-more 0 world.log entry order.stamps (omega (arith, does.1));
      known = λ client. omega (arith, order.known client, length-append world.log (entry ∷ []));
      stamped = λ job is. omega (arith, order.stamped job is, length-append world.log (entry ∷ []));
    })

  in_order-runs : (events : List Event) (old new : World) → IsInOrder lists number old → Runs events old new
      → IsInOrder lists number new
  in_order-runs [] old new order same = subst (λ (w : World). IsInOrder lists number w) (sym same) order
  in_order-runs (event ∷ events) old new order run =
      let next : IsInOrder lists number run.0 = elim run.1 [
        | inl same ↦ subst (λ (w : World). IsInOrder lists number w) (sym same) order
        | inr does ↦ in_order-event old order event run.0 does
      ] in
      in_order-runs events run.0 new next run.2

  pub keeps_all : (events : List Event) (world : World) → IsLoad lists
      → IsBetween 1 (length lists.tables.warehouses) number → Runs events (fresh_world lists number) world
      → KeepsAll lists number world
  keeps_all events world is_load between run =
      let order = in_order-runs events (fresh_world lists number) world in_order-fresh run in
      let meets : (commits : List Commit) → MeetsOwnConditions (world_rows world commits) = λ commits.
      rw (order.load, order.warehouse) (sound-rows lists number commits is_load between).conditions in
      record {
        load = order.load;
        warehouse = order.warehouse;
        snapshots = λ at taken is.
            let right = order.snapshots at taken is in
            record {
              within = right.within;
              rows = right.rows;
              conditions = subst (λ (rows : Tables). MeetsOwnConditions rows) (sym right.rows) (meets (take taken.commits world.kept));
            };
        conditions = meets world.kept;
        projection = order.projection;
        stamps = order.stamps;
        known = order.known;
      }

-- ---- the event of a step

-- no job changes what the snapshots of a partition are
still_taken : (n : ℕ) (p q : PartitionState) (number : ℕ) (taken : Option Taken) → KeepsRest p q
    → IsTaken n (commits_of p number) (child_bytes p.space number) taken
    → IsTaken n (commits_of q number) (child_bytes q.space number) taken
still_taken n p q number taken rest is =
    subst (λ (commits : Option ℕ). IsTaken n commits (child_bytes q.space number) taken)
    (sym (ap (λ (all : List (Option ℕ)). slice_index_or all number None) rest.snapshots))
    (subst (λ (bytes : Option (List (List (List ℕ)))). IsTaken n (commits_of p number) bytes taken)
    (sym (rest.children.bytes number)) is)

some_same : {one other : Log} → Some one ≡ Some other → one ≡ other
some_same same = cc

module _ (n : ℕ) (log after : Log) (p q : PartitionState) (world : World) (job : RunningJob) (is : IsWorldOf n log p world)
    (running : p.running ≡ Some job) where
  -- a step that leads to a world
  step_to : (next : World) → DoesStep world next (underway job) → IsWorldOf n after q next → Leads n steps world after q
  step_to next does now = (
    next,
    subst (λ (r : Option Underway). MatchOption r ⊥ (DoesStep world next)) (sym (is.running ∙ ap (option_map underway) running)) does,
    now,
  )

  refused_to : after ≡ log → RefusesAt job job.slices p q → Leads n steps world after q
  refused_to same refuses =
      let ends : (q.running ≡ None) × IsSome q.finished × KeepsRest p q = elim refuses.reason [
        | inl item ↦ (item.2.running, ap is_some item.2.finished, item.2.rest)
        | inr other ↦ elim other [
          | inl frame ↦ (frame.2.running, ap is_some frame.2.finished, frame.2.rest)
          | inr memory ↦ (memory.1.running, ap is_some memory.1.finished, memory.1.rest)
        ]
      ] in
      step_to (with_refused world) (inr (inr refl)) (record {
        load = is.load ∙ sym (ap (λ t. t.load) ends.2.terms);
        warehouse = is.warehouse ∙ sym (ap (λ t. t.warehouse) ends.2.terms);
        log_is = is.log_is ∙ sym same;
        kept = is.kept ∙ sym refuses.nothing.kept;
        running = sym (ap (option_map underway) ends.0);
        waits = sym ends.1;
        snapshots = λ number. still_taken n p q number (world.open_at number) ends.2 (is.snapshots number);
      })

  pub leads-step : (reached : Progress) → StepsTo job (Some log) (Some after) p q reached → Leads n steps world after q
  leads-step progress.More did = step_to (with_slice world (underway job)) (inl (did.0, refl)) (record {
    load = is.load ∙ sym (ap (λ t. t.load) did.2.rest.terms);
    warehouse = is.warehouse ∙ sym (ap (λ t. t.warehouse) did.2.rest.terms);
    log_is = is.log_is ∙ sym (some_same did.1);
    kept = is.kept ∙ sym did.2.nothing.kept;
    running = sym (ap (option_map underway) did.2.running);
    waits = is.waits ∙ sym (ap is_some did.2.finished);
    snapshots = λ number. still_taken n p q number (world.open_at number) did.2.rest (is.snapshots number);
  })
  leads-step progress.Finished did = elim did [
    | inl last ↦
        let accepts = last.1 in
        let does = accepts.does in
        let serial : log ≡ accepts.log = some_same accepts.before_is in
        let grown : after ≡ world.log ++ entered (underway job) =
        some_same accepts.after_is ∙ ap (λ log. log ++ entered_by job.edition job.command job.pass) (sym (is.log_is ∙ serial)) in
        let kept : q.kept ≡ world.kept ++ kept_of job.edition job.command =
        does.kept ∙ ap (λ kept. kept ++ kept_of job.edition job.command) (sym is.kept) in
        let accepted : refusal_of world.load.items world.warehouse job.command (rows_of world) ≡ None =
        rw (is.load, is.warehouse, is.kept) does.accepted in
        step_to (with_accepted world (underway job)) (inr (inl (last.0, accepted, refl))) (record {
          load = is.load ∙ sym (ap (λ t. t.load) does.ends.rest.terms);
          warehouse = is.warehouse ∙ sym (ap (λ t. t.warehouse) does.ends.rest.terms);
          log_is = sym grown;
          kept = sym kept;
          running = sym (ap (option_map underway) does.ends.running);
          waits = sym (ap is_some does.ends.finished);
          snapshots = λ number. still_taken n p q number (world.open_at number) does.ends.rest (is.snapshots number);
        })
    | inr refuses ↦ refused_to (some_same refuses.0) refuses.1
  ]
