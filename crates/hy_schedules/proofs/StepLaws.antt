-- What one warehouse adds to its kept list and to the serial list, and to the snapshots that are open.
use Rattle.std.proofs.Common.{◌≡◌, ◌≢◌, ◌⊎◌, ℕ, ◌+◌, ◌≤◌, ◌==◌, ◌||◌, Bool, true, false, cond, inl, inr, List, [], ◌∷◌, ◌++◌, length, map, take, Option, Some, None, refl, sym, ap, ◌∙◌, subst, arith, length-append}
use Rattle.std.specs.Prelude.{MatchOption}
use Rattle.std.specs.List.{list_any}
use Rattle.std.specs.Option.{ForSome}
use Rattle.std.proofs.Common.{append-nil}
use Rattle.std.proofs.lemmas.Bool.{eq-eqb, le-leb, ne_eqb}
use Rattle.std.proofs.lemmas.List.{take-append-le}
use Rattle.std.proofs.Math.Seq.{take-length}
use Rattle.hy_passes.specs.SerialList.{IsSerial}
use Rattle.hy_passes.specs.declared.entry.Entry.{Entry}
use Rattle.hy_passes.proofs.Lists.{kept-adds, kept-skips}
use Rattle.hy_passes.proofs.SerialLaws.{serial-more}
use Rattle.hy_rows.specs.Tables.{Lists}
use Rattle.hy_commands.specs.declared.command.Command.{Command}
use Rattle.hy_commands.specs.declared.command.Commit.{Commit}
use Rattle.hy_commands.specs.declared.command.Commit.TheVariants as commits
use Rattle.hy_commands.specs.declared.edition.Edition.{Edition}
use Rattle.hy_commands.specs.declared.edition.Edition.TheVariants as editions
use Rattle.hy_commands.specs.Commands.{is_reader, kept_of, number_of, warehouses_of, warehouses_of_commit}
use Rattle.hy_commands.specs.Replay.{rows_after}
use Rattle.hy_commands.specs.Transactions.{refusal_of}
use Rattle.hy_commands.proofs.NamedLaws.{named-accepted}
use Rattle.hy_forks.specs.of_partition.Jobs.{Log}
use Rattle.hy_forks.specs.of_partition.Partition.{projection_of}
use Rattle.hy_forks.specs.of_partition.Schedules.{Does, DoesStep, Event, Taken, Underway, World, begins, closes, entered, enters, forks, forks_from, looks, rows_of, steps, takes, with_accepted, with_known, with_open, with_refused}
use Rattle.hy_schedules.specs.Schedules.{Ends, is_local}

-- ---- what is added

-- nothing, or a commit that names one warehouse alone, with a stamp that is respected
pub record IsEntered (number : ℕ) (log log' : Log) (kept kept' : List Commit) : Type 0 where
  pub edition : Edition
  pub command : Command
  pub stamp : ℕ
  pub named : warehouses_of command ≡ number ∷ []
  pub within : stamp ≤ length log
  pub log_is : log' ≡ log ++ record { commit = commits.Local edition command; stamp = stamp } ∷ []
  pub kept_is : kept' ≡ kept ++ commits.Local edition command ∷ []

abbrev pub Adds : ℕ → Log → Log → List Commit → List Commit → Type 0
Adds number log log' kept kept' = ((log' ≡ log) × (kept' ≡ kept)) ⊎ IsEntered number log log' kept kept'

-- a snapshot has the rows after a beginning of what is kept
pub record HasRows (load : Lists) (number : ℕ) (kept : List Commit) (taken : Taken) : Type 0 where
  pub within : taken.commits ≤ length kept
  pub rows : taken.rows ≡ rows_after load number (take taken.commits kept)

-- it keeps them as more is kept
pub rows-more : (load : Lists) (number : ℕ) (kept more : List Commit) (taken : Taken) → HasRows load number kept taken
    → HasRows load number (kept ++ more) taken
rows-more load number kept more taken has = record {
  within = omega (arith, has.within, length-append kept more);
  rows = has.rows ∙ ap (rows_after load number) (sym (take-append-le taken.commits kept more has.within));
}

pub rows-now : (load : Lists) (number : ℕ) (kept : List Commit)
    → HasRows load number kept (record { commits = length kept; rows = rows_after load number kept })
rows-now load number kept = record {
  within = omega arith;
  rows = ap (rows_after load number) (sym (take-length kept));
}

-- whether a commit that names one warehouse names another number
names-one : (number other : ℕ) → list_any (λ named. named == other) (number ∷ []) ≡ ((number == other) || false)
names-one number other = refl

module _ (number : ℕ) (log log' : Log) (kept kept' : List Commit) (adds : Adds number log log' kept kept') where
  pub added-longer : length log ≤ length log'
  added-longer = elim adds [
    | inl same ↦ omega (arith, ap length same.0)
    | inr more ↦
        omega (
          arith,
          ap length more.log_is,
          length-append log (record { commit = commits.Local more.edition more.command; stamp = more.stamp } ∷ []),
        )
  ]

  -- the kept list is the projection still, and those of other warehouses stay
  pub added-here : kept ≡ projection_of number log → kept' ≡ projection_of number log'
  added-here is = elim adds [
    | inl same ↦ same.1 ∙ is ∙ ap (projection_of number) (sym same.0)
    | inr more ↦
        let entry : Entry Commit = record { commit = commits.Local more.edition more.command; stamp = more.stamp } in
        more.kept_is ∙ ap (λ kept. kept ++ entry.commit ∷ []) is
        ∙ sym (kept-adds warehouses_of_commit number log entry
        (ap (λ named. list_any (λ one. one == number) named) more.named
        ∙ ap (λ b. b || false) (eq-eqb number number refl)))
        ∙ ap (projection_of number) (sym more.log_is)
  ]

  pub added-elsewhere : (other : ℕ) → other ≢ number → projection_of other log' ≡ projection_of other log
  added-elsewhere other apart = elim adds [
    | inl same ↦ ap (projection_of other) same.0
    | inr more ↦
        let entry : Entry Commit = record { commit = commits.Local more.edition more.command; stamp = more.stamp } in
        ap (projection_of other) more.log_is
        ∙ kept-skips warehouses_of_commit other log entry
        (ap (λ named. list_any (λ one. one == other) named) more.named
        ∙ ap (λ b. b || false) (ne_eqb number other (λ same. apart (sym same))))
  ]

  pub added-rows : (load : Lists) (taken : Taken) → HasRows load number kept taken → HasRows load number kept' taken
  added-rows load taken has = elim adds [
    | inl same ↦ subst (λ (list : List Commit). HasRows load number list taken) (sym same.1) has
    | inr more ↦
        subst (λ (list : List Commit). HasRows load number list taken) (sym more.kept_is)
        (rows-more load number kept (commits.Local more.edition more.command ∷ []) taken has)
  ]

  -- the serial list is one still
  pub added-serial : (warehouses : ℕ) → (1 ≤ number) × (number ≤ warehouses)
      → IsSerial warehouses_of_commit number_of warehouses log
      → IsSerial warehouses_of_commit number_of warehouses log'
  added-serial warehouses there serial = elim adds [
    | inl same ↦ subst (λ (list : Log). IsSerial warehouses_of_commit number_of warehouses list) (sym same.0) serial
    | inr more ↦
        let entry : Entry Commit = record { commit = commits.Local more.edition more.command; stamp = more.stamp } in
        subst (λ (list : Log). IsSerial warehouses_of_commit number_of warehouses list) (sym more.log_is)
        (serial-more warehouses_of_commit number_of warehouses log entry serial
        (rw (more.named, le-leb 1 number there.0, le-leb number warehouses there.1) refl)
        (rw more.named refl)
        more.within)
  ]

-- what an accepted command adds
adds-accepted : (world : World) (job : Underway)
    → refusal_of world.load.items world.warehouse job.command (rows_of world) ≡ None → job.stamp ≤ length world.log
    → Adds world.warehouse world.log (world.log ++ entered job) world.kept (world.kept ++ kept_of job.edition job.command)
adds-accepted world job accepted stamped =
    elim (is_reader job.command) as (λ b.
    Adds world.warehouse world.log
    (world.log ++ map (λ commit. record { commit = commit; stamp = job.stamp })
    (cond b [] (commits.Local job.edition job.command ∷ [])))
    world.kept (world.kept ++ cond b [] (commits.Local job.edition job.command ∷ []))) [
      | true ↦ inl (append-nil world.log, append-nil world.kept)
      | false ↦ inr (record {
        edition = job.edition;
        command = job.command;
        stamp = job.stamp;
        named = named-accepted world.load.items world.warehouse job.command (rows_of world) accepted;
        within = stamped;
        log_is = refl;
        kept_is = refl;
      })
    ]

-- ---- what one warehouse does

-- no client knows more than a list, and a client may come to know all of it
pub known-more : (known : ℕ → ℕ) (client : ℕ) (log : Log) → ((other : ℕ) → known other ≤ length log) → (other : ℕ)
    → with_known known client log other ≤ length log
known-more known client log within other =
    elim (other == client) as (λ b. cond b (length log) (known other) ≤ length log) [
      | true ↦ omega arith
      | false ↦ within other
    ]

-- a snapshot that is open under some number
abbrev pub WasOpen : World → Taken → Type 0
WasOpen world taken = (number : ℕ) × (world.open_at number ≡ Some taken)

-- a step of one warehouse: it adds to the lists, no client knows more than the serial list, each snapshot was open, under
-- whatever number, or has the rows of this moment, and what runs has a stamp that is respected
pub record IsStep (old new : World) : Type 0 where
  pub load : new.load ≡ old.load
  pub adds : Adds old.warehouse old.log new.log old.kept new.kept
  pub known : (client : ℕ) → new.known client ≤ length new.log
  pub snapshots : (under : ℕ) (taken : Taken) → new.open_at under ≡ Some taken
      → WasOpen old taken ⊎ (taken ≡ record { commits = length old.kept; rows = rows_of old })
  pub stamped : ForSome new.running (λ job. job.stamp ≤ length new.log)

module _ (old : World) (stamped : ForSome old.running (λ job. job.stamp ≤ length old.log))
    (known : (client : ℕ) → old.known client ≤ length old.log) where
  -- neither list has more
  step-same : (running : Option Underway) (waits : Bool) (now : ℕ → ℕ) → ((client : ℕ) → now client ≤ length old.log)
      → ForSome running (λ job. job.stamp ≤ length old.log)
      → IsStep old (record old { running = running; waits = waits; known = now })
  step-same running waits now within stamped = record {
    load = refl;
    adds = inl (refl, refl);
    known = within;
    snapshots = λ under taken is. inl (under, is);
    stamped = stamped;
  }

  step-opened : (now : ℕ → ℕ) (number : ℕ) (snapshot : Option Taken) → ((client : ℕ) → now client ≤ length old.log)
      → ((taken : Taken) → snapshot ≡ Some taken
      → WasOpen old taken ⊎ (taken ≡ record { commits = length old.kept; rows = rows_of old }))
      → IsStep old (record old { known = now; open_at = with_open old.open_at number snapshot })
  step-opened now number snapshot within right = record {
    load = refl;
    adds = inl (refl, refl);
    known = within;
    snapshots = λ under taken is. by under taken (under == number) is;
    stamped = stamped;
  }
    where
      by : (under : ℕ) (taken : Taken) (here : Bool) → cond here snapshot (old.open_at under) ≡ Some taken
          → WasOpen old taken ⊎ (taken ≡ record { commits = length old.kept; rows = rows_of old })
      by under taken true is = right taken is
      by under taken false is = inl (under, is)

  step-accepted : (job : Underway) → old.running ≡ Some job
      → refusal_of old.load.items old.warehouse job.command (rows_of old) ≡ None → IsStep old (with_accepted old job)
  step-accepted job running accepted =
      let within = stamped job running in
      let longer = length-append old.log (entered job) in
      record {
        load = refl;
        adds = adds-accepted old job accepted within;
        known = known-more old.known job.client (old.log ++ entered job) (λ other. omega (arith, known other, longer));
        snapshots = λ under taken is. inl (under, is);
        stamped = λ job is. absurd (cc);
      }

  step-job : (new : World) (job : Underway) → old.running ≡ Some job → DoesStep old new job → IsStep old new
  step-job new job running does = elim does [
    | inl more ↦ subst (λ (w : World). IsStep old w) (sym more.1)
        (step-same (Some (record job { slices = job.slices + 1 })) old.waits old.known known
        (λ other is.
        let same : record job { slices = job.slices + 1 } ≡ other = cc in
        subst (λ (j : Underway). j.stamp ≤ length old.log) same (stamped job running)))
    | inr ended ↦ elim ended [
      | inl last ↦ subst (λ (w : World). IsStep old w) (sym last.2) (step-accepted job running last.1)
      | inr refused ↦ subst (λ (w : World). IsStep old w) (sym refused)
          (step-same None true old.known known (λ other is. absurd (cc)))
    ]
  ]

  pub step-event : (event : Event) (new : World) → is_local event ≡ true → Does event old new → IsStep old new
  step-event (begins client command) new is_here does = subst (λ (w : World). IsStep old w) (sym does.3)
      (step-same (Some (record { edition = editions.Second; command = command; slices = 0; client = client; stamp = old.known client })) old.waits
      old.known known (λ job is.
      let same : record { edition = editions.Second; command = command; slices = 0; client = client; stamp = old.known client } ≡ job = cc in
      subst (λ (j : Underway). j.stamp ≤ length old.log) same (known client)))
  step-event steps new is_here does = by old.running refl does
    where
      by : (running : Option Underway) → old.running ≡ running → MatchOption running ⊥ (DoesStep old new)
          → IsStep old new
      by None is never = absurd never
      by (Some job) is does = step-job new job is does
  step-event takes new is_here does = subst (λ (w : World). IsStep old w) (sym does.1)
      (step-same old.running false old.known known stamped)
  step-event (forks client number) new is_here does = subst (λ (w : World). IsStep old w) (sym does.1)
      (step-opened (with_known old.known client old.log) number _ (known-more old.known client old.log known)
      (λ taken is. inr (cc)))
  step-event (forks_from from number) new is_here does = subst (λ (w : World). IsStep old w) (sym does.2)
      (step-opened old.known number (old.open_at from) known (λ taken is. inl (from, is)))
  step-event (closes number) new is_here does = subst (λ (w : World). IsStep old w) (sym does.1)
      (step-opened old.known number None known (λ taken is. absurd (cc)))
  step-event (looks client) new is_here does = absurd (cc)
  step-event (enters entry) new is_here does = absurd (cc)

  pub step-ends : (new : World) → Ends old new → IsStep old new
  step-ends new ends = by old.running refl ends
    where
      by : (running : Option Underway) → old.running ≡ running
          → MatchOption running (new ≡ old) (λ job.
          ((refusal_of old.load.items old.warehouse job.command (rows_of old) ≡ None) × (new ≡ with_accepted old job))
          ⊎ (new ≡ with_refused old))
          → IsStep old new
      by None is same =
          subst (λ (w : World). IsStep old w) (sym same) (step-same old.running old.waits old.known known stamped)
      by (Some job) is does = elim does [
        | inl last ↦ subst (λ (w : World). IsStep old w) (sym last.1) (step-accepted job is last.0)
        | inr refused ↦ subst (λ (w : World). IsStep old w) (sym refused)
            (step-same None true old.known known (λ other is. absurd (cc)))
      ]
