-- What the model knows of clients behind each call, and which passes lie in the partitions then.
use Rattle.std.proofs.Common.{◌≡◌, ℕ, suc, ◌-◌, ◌<◌, ◌≤◌, false, ◌||◌, cond, inl, inr, List, [], ◌∷◌, ◌++◌, length, Option, Some, None, refl, sym, ap, ◌∙◌, subst, arith}
use Rattle.std.specs.Prelude.{All, IfSome, IsSomeAnd, MatchOption, is_some, map, slice_get, slice_index_or, slice_set}
use Rattle.std.specs.List.{range_with_len}
use Rattle.std.specs.Option.{option_map}
use Rattle.std.proofs.lemmas.Option.{IfSome_then, same_Some}
use Rattle.hy_passes.specs.Worlds.{new_client}
use Rattle.hy_worlds.specs.Origins.{Origin}
use Rattle.hy_rows.specs.Tables.{Lists}
use Rattle.hy_schema.specs.declared.refusal.Refusal.{Refusal}
use Rattle.hy_schema.specs.declared.refusal.Refusal.TheVariants as refusals
use Rattle.hy_commands.specs.declared.command.Command.{Command}
use Rattle.hy_forks.specs.of_partition.declared.job.Progress.{Progress}
use Rattle.hy_forks.specs.of_partition.declared.job.Progress.TheVariants as progress
use Rattle.hy_forks.specs.of_partition.Jobs.{DoneState, JobState, Log, RunningJob, begun}
use Rattle.hy_forks.specs.of_partition.Partition.{PartState, PartitionState}
use Rattle.hy_forks.specs.of_partition.Schedules.{Does, DoesStep, IsWorldOf, Underway, World, steps, underway, with_accepted, with_refused, with_slice}
use Rattle.hy_forks.specs.of_partition.Snapshots.{SnapshotState}
use Rattle.hy_forks.specs.of_partition.Steps.{Begins, Closes, Forks, ForksFrom, StepsTo, begin_refusal, with_job}
use Rattle.hy_forks.specs.of_crossing.Lists.{Pairwise}
use Rattle.hy_forks.specs.Drains.{TellsHere}
use Rattle.hy_forks.specs.Forks.{ClosesHere, ForksFromHere, ForksHere, IsUnforked}
use Rattle.hy_schedules.specs.Clients.{AreApart, IsWholeKnowing, KnowsClients, LeadsKnowing, passes_between, passes_in, passes_of}
use Rattle.hy_schedules.specs.Schedules.{ArePlacesOf, DoesAll, EventOfAll, IsWholeOf, LeadsAll, Whole, at, fresh_whole, rested_places, rested_whole, world_at}
use Rattle.hy_schedules.proofs.CallLaws.{leads-fitting, places-carried, snapshot-here}
use Rattle.hy_schedules.proofs.ClientLaws.{Moves, Pass, knows-kit, knows-set, moves-begin, moves-both, moves-same, moves-take, passes-beside, passes-none, passes-pairs, passes-set, some-known}
use Rattle.hy_schedules.proofs.CrossLaws.{accepted-is, ended-accepted, ended-refused, still-taken}

-- ---- an event that tells how much is known behind it

pub leads-knowing : (n : ℕ) (event : EventOfAll) (whole : Whole) (log : Log) (parts : List PartitionState)
    (held : List Pass) (known : ℕ → ℕ) → LeadsAll n event whole log parts
    → ((next : Whole) → DoesAll event whole next → next.known ≡ known) → KnowsClients known (passes_in parts ++ held)
    → LeadsKnowing n event whole log parts held
leads-knowing n event whole log parts held known leads then knows = (
  leads.0,
  leads.1,
  leads.2,
  subst (λ (now : ℕ → ℕ). KnowsClients now (passes_in parts ++ held)) (sym (then leads.0 leads.1)) knows,
)

-- ---- partitions that keep their passes

pub passes-changed : (parts news : List PartitionState) (place : ℕ) (p q : PartitionState)
    → p ≡ slice_index_or parts place p → news ≡ slice_set parts place q → q.running ≡ p.running
    → q.finished ≡ p.finished → passes_in news ≡ passes_in parts
passes-changed parts news place p q here news_is running finished =
    ap passes_in news_is ∙ passes-set p q (passes-beside p q running finished) parts place here

pub passes-told : (log : Log) (parts news : List PartitionState) → Pairwise (TellsHere log) 1 parts news
    → passes_in news ≡ passes_in parts
passes-told log parts news pairs =
    passes-pairs (TellsHere log) (λ number p q told. ap passes_of told.0) 1 parts news pairs

pub passes-unforked : (log : Log) (parts news : List PartitionState) → Pairwise (λ number. IsUnforked log) 1 parts news
    → passes_in news ≡ passes_in parts
passes-unforked log parts news pairs =
    passes-pairs (λ number. IsUnforked log)
    (λ number p q same. passes-beside p q same.job.running same.job.finished) 1 parts news pairs

pub passes-forked : (n : ℕ) (kit : Origin) (log known : Log) (snapshots : List SnapshotState)
    (parts news : List PartitionState) → Pairwise (ForksHere n kit log known snapshots) 1 parts news
    → passes_in news ≡ passes_in parts
passes-forked n kit log known snapshots parts news pairs =
    passes-pairs (ForksHere n kit log known snapshots) (λ number p q here.
    let found = snapshot-here snapshots number (λ snapshot. Forks n kit log known p q snapshot) here in
    passes-beside p q found.2.job.running found.2.job.finished) 1 parts news pairs

pub passes-forked_from : (kit : Origin) (all snapshots : List SnapshotState) (parts news : List PartitionState)
    → Pairwise (ForksFromHere kit all snapshots) 1 parts news → passes_in news ≡ passes_in parts
passes-forked_from kit all snapshots parts news pairs =
    passes-pairs (ForksFromHere kit all snapshots) (λ number p q here.
    let found = snapshot-here snapshots number (λ snapshot. IsSomeAnd (slice_get all (number - 1)) (λ from.
    ForksFrom kit from p q snapshot)) here in
    let other = snapshot-here all number (λ from. ForksFrom kit from p q found.0) found.2 in
    passes-beside p q other.2.job.running other.2.job.finished) 1 parts news pairs

pub passes-closed : (snapshots : List SnapshotState) (parts news : List PartitionState)
    → Pairwise (ClosesHere snapshots) 1 parts news → passes_in news ≡ passes_in parts
passes-closed snapshots parts news pairs =
    passes-pairs (ClosesHere snapshots) (λ number p q here.
    let found = snapshot-here snapshots number (λ snapshot. Closes p q snapshot.child) here in
    passes-beside p q found.2.job.running found.2.job.finished) 1 parts news pairs

-- ---- at first

pub knows-fresh : (lists : Lists) (frames commits clients : ℕ) (parts : List PartitionState)
    → ((place : ℕ) → IfSome (slice_get parts place) (Begins lists (suc place) frames commits))
    → KnowsClients (fresh_whole lists).known (passes_in parts ++ map new_client (range_with_len 0 clients))
knows-fresh lists frames commits clients parts each =
    subst (λ (l : List Pass). KnowsClients (λ client. 0) (l ++ map new_client (range_with_len 0 clients)))
    (sym (passes-none parts (λ place.
    IfSome_then (slice_get parts place) (each place) (λ p begins. (begins.running, begins.finished)))))
    (knows-kit clients)

-- no pass lies in partitions at rest
passes-rested : {Row : Type 0} (n : ℕ) (log list : Log) (whole : Whole) (rows : List Row) (number : ℕ)
    (parts : List PartitionState) → ArePlacesOf n log whole number parts (rested_places list number rows)
    → passes_in parts ≡ []
passes-rested n log list whole [] number [] are = refl
passes-rested n log list whole (row ∷ rows) number (p ∷ parts) are =
    ap (λ (l : List Pass). l ++ passes_in parts) (none p.running p.finished are.0.running are.0.waits)
    ∙ passes-rested n log list whole rows (suc number) parts are.1
  where
    none : (running : Option RunningJob) (finished : Option DoneState) → None ≡ option_map underway running
        → false ≡ is_some finished → passes_between running finished ≡ []
    none None None idle taken = refl
    none (Some job) finished idle taken = absurd (cc)
    none None (Some answer) idle taken = absurd (cc)
passes-rested n log list whole [] number (p ∷ parts) are = absurd are
passes-rested n log list whole (row ∷ rows) number [] are = absurd are

pub knows-rested : (n : ℕ) (lists : Lists) (log : Log) (before : ℕ → ℕ) (parts : List PartitionState)
    (held : List Pass) → IsWholeOf n log parts (rested_whole lists log before) → AreApart held
    → All (λ pass. length pass.seen ≤ length log) held
    → (known : ℕ → ℕ) × ((client : ℕ) → known client ≤ length log)
    × IsWholeKnowing n log parts held (rested_whole lists log known)
knows-rested n lists log before parts held is apart within =
    let some = some-known log held apart within in
    let none = passes-rested n log log (rested_whole lists log before) lists.tables.warehouses 1 parts is.1 in (
      some.0,
      some.1,
      (
        (
          is.0,
          places-carried n log log (rested_whole lists log before) (rested_whole lists log some.0) refl refl 1 parts
              (rested_places log 1 lists.tables.warehouses) is.1,
        ),
        subst (λ (l : List Pass). KnowsClients some.0 (l ++ held)) (sym none) some.2,
      ),
    )

-- ---- a job begins, and its answer is taken

-- neither runs a job nor waits an answer where a command begins
idle-begun : (p : PartitionState) (command : Command) → begin_refusal p command ≡ None
    → (p.running ≡ None) × (p.finished ≡ None)
idle-begun p command begins = by p.running p.part p.finished _ begins
  where
    by : (running : Option RunningJob) (part : Option PartState) (finished : Option DoneState) (later : Option Refusal)
        → cond (is_some running || is_some part || is_some finished) (Some refusals.Busy) later ≡ None
        → (running ≡ None) × (finished ≡ None)
    by None None None later none = (refl, refl)
    by (Some job) part finished later none = absurd (cc)
    by None (Some part) finished later none = absurd (cc)
    by None None (Some answer) later none = absurd (cc)

module _ (known : ℕ → ℕ) (parts news : List PartitionState) (place : ℕ) (p q : PartitionState) (held : List Pass)
    (within : place < length parts) (here : p ≡ slice_index_or parts place p)
    (news_is : news ≡ slice_set parts place q) where
  pub knows-begun : (job : JobState) → begin_refusal p job.command ≡ None → q ≡ with_job p job
      → KnowsClients known (passes_in parts ++ job.pass ∷ held) → KnowsClients known (passes_in news ++ held)
  knows-begun job begins now knows =
      let idle = idle-begun p job.command begins in
      knows-set known known p q (job.pass ∷ held) held
      (moves-begin known p q (begun job) held idle.0 idle.1 (ap (λ (one : PartitionState). one.running) now)
      (ap (λ (one : PartitionState). one.finished) now ∙ idle.1)) parts place within here news news_is knows

  pub knows-taken : (answer : DoneState) → p.finished ≡ Some answer → q ≡ record p { finished = None }
      → KnowsClients known (passes_in parts ++ held) → KnowsClients known (passes_in news ++ answer.pass ∷ held)
  knows-taken answer waits now knows =
      knows-set known known p q held (answer.pass ∷ held)
      (subst (λ (one : PartitionState). Moves known known (passes_of p ++ held) (passes_of one ++ answer.pass ∷ held))
      (sym now)
      (subst (λ (finished : Option DoneState). Moves known known (passes_between p.running finished ++ held)
      (passes_between p.running None ++ answer.pass ∷ held)) (sym waits) (moves-take known p.running answer held)))
      parts place within here news news_is knows

-- ---- a step

module _ (n : ℕ) (log after : Log) (p q : PartitionState) (world : World) (is : IsWorldOf n log p world)
    (job : RunningJob) (running : p.running ≡ Some job) where
  -- it leads to the world in which the client is told where the job was accepted, and not where it was refused
  abbrev SteppedTo : World → Type 0
  SteppedTo next =
      Does steps world next × IsWorldOf n after q next × Moves world.known next.known (passes_of p) (passes_of q)

  step-as : (next : World) → DoesStep world next (underway job) → Does steps world next
  step-as next does =
      subst (λ (r : Option Underway). MatchOption r ⊥ (DoesStep world next))
      (sym (is.running ∙ ap (option_map underway) running)) does

  stepped : (reached : Progress) → StepsTo job (Some log) (Some after) p q reached → (next : World) × SteppedTo next
  stepped progress.More did = (
    with_slice world (underway job),
    (
      step-as (with_slice world (underway job)) (inl (did.0, refl)),
      record {
        load = is.load ∙ sym (ap (λ t. t.load) did.2.rest.terms);
        warehouse = is.warehouse ∙ sym (ap (λ t. t.warehouse) did.2.rest.terms);
        log_is = is.log_is ∙ sym (same_Some after log did.1);
        kept = is.kept ∙ sym did.2.nothing.kept;
        running = sym (ap (option_map underway) did.2.running);
        waits = is.waits ∙ sym (ap is_some did.2.finished);
        snapshots = λ child. still-taken n p q child (world.open_at child) did.2.rest (is.snapshots child);
      },
      moves-same world.known (passes_of p) (passes_of q)
          (ap (λ (one : Option RunningJob). passes_between one q.finished) did.2.running
          ∙ ap (λ (one : Option DoneState). passes_between (Some job) one) did.2.finished
          ∙ sym (ap (λ (one : Option RunningJob). passes_between one p.finished) running)),
    ),
  )
  stepped progress.Finished did = elim did [
    | inl last ↦
        let ended = ended-accepted n log after p q world is job running last.1 in (
          with_accepted world (underway job),
          (
            step-as (with_accepted world (underway job))
                (inr (inl (last.0, accepted-is n log after p q world is job running last.1, refl))),
            ended.is,
            ended.moves,
          ),
        )
    | inr refuses ↦
        let ended = ended-refused n log after p q world is job running (record {
          log = refuses.0;
          done = job.slices;
          reached = omega arith;
          refused = refuses.1;
        }) in (
          with_refused world,
          (step-as (with_refused world) (inr (inr refl)), ended.is, ended.moves),
        )
  ]

pub knows-step : (n place : ℕ) (log after : Log) (parts news : List PartitionState) (held : List Pass) (whole : Whole)
    (job : RunningJob) (reached : Progress) (p q : PartitionState) → IsWholeOf n log parts whole
    → place < length parts → p ≡ slice_index_or parts place p → news ≡ slice_set parts place q
    → p.running ≡ Some job → StepsTo job (Some log) (Some after) p q reached
    → KnowsClients whole.known (passes_in parts ++ held)
    → LeadsKnowing n (at (suc place) steps) whole after news held
knows-step n place log after parts news held whole job reached p q is within here news_is running did knows =
    leads-fitting n place log after parts whole is within (λ known. KnowsClients known (passes_in news ++ held)) steps p
    q news refl here news_is (λ before world.
    let led = stepped n log after p q (world_at whole (suc place) before) world job running reached did in (
      led.0,
      led.1.0,
      led.1.1,
      knows-set whole.known led.0.known p q held held
          (moves-both whole.known led.0.known led.0.known (passes_of p) (passes_of q) held held led.1.2
          (moves-same led.0.known held held refl)) parts place within here news news_is knows,
    ))
