-- Steps one after another, until nothing runs.
use Rattle.std.proofs.Common.{◌≡◌, ℕ, ◌-◌, ◌<◌, ◌≤◌, ◌⊎◌, true, false, inl, inr, ◌++◌, Option, Some, None, Result, Ok, Err, refl, sym, ap, ◌∙◌, subst, arith}
use Rattle.std.specs.Prelude.{IsSome, MatchOption, IsOkAnd}
use Rattle.hy_schema.specs.declared.refusal.Refusal.{Refusal}
use Rattle.hy_schema.specs.declared.refusal.Refusal.TheVariants as refusals
use Rattle.hy_commands.specs.Commands.{slice_count}
use Rattle.hy_slices.specs.Slices.{has_item_at, has_items_before}
use Rattle.hy_space.specs.Space.{owner_bytes}
use Rattle.hy_undo.specs.UndoLog.{undone}
use Rattle.hy_undo.proofs.PrivatePageLaws.{SameForChildren-then}
use Rattle.hy_tpcc.specs.Executor.{ExecutorState}
use Rattle.hy_partition.specs.Jobs.{DoneState, Log, RunningJob, entered_by, with_slice_done}
use Rattle.hy_partition.specs.Partition.{PartitionState, Terms, refusal_now}
use Rattle.hy_partition.specs.Steps.{Accepts, AcceptsBehind, Ends, KeepsNothing, KeepsRest, LacksFrame, Refuses, RefusesAt, StepsTo}
use Rattle.hy_partition.specs.declared.job.Progress.{Progress}
use Rattle.hy_partition.specs.declared.job.Progress.TheVariants as progress
use Rattle.hy_partition.specs.inside.Soundness.{IsSound}
use Rattle.hy_partition.proofs.SoundLaws.{runs}

-- the same job runs, no slice was taken back, and nothing was kept
pub record IsOnItsWay (old now : PartitionState) (first job : RunningJob) : Type 0 where
  pub job_is : job ≡ record first { slices = job.slices }
  pub slices : first.slices ≤ job.slices
  pub nothing : KeepsNothing old now
  pub bytes : undone (owner_bytes now.space) now.undo ≡ undone (owner_bytes old.space) old.undo
  pub rest : KeepsRest old now

-- a job ended
abbrev pub HasEnded : RunningJob → Option Log → Option Log → PartitionState → PartitionState → Type 0
HasEnded first before after old now = Accepts first before after old now ⊎ Refuses first before after old now

-- where a job was refused, nothing runs
refused-running : (job : RunningJob) (done : ℕ) (old new : PartitionState) → RefusesAt job done old new
    → new.running ≡ None
refused-running job done old new refuses = elim refuses.reason [
  | inl item ↦ item.2.running
  | inr other ↦ elim other [ inl frame ↦ frame.2.running | inr memory ↦ memory.1.running ]
]

-- what some steps have reached of the job that ran at first
abbrev pub Reached : Log → Log → PartitionState → PartitionState → Type 0
Reached before after old now =
    MatchOption old.running ((now ≡ old) × (after ≡ before)) (λ first.
    MatchOption now.running (HasEnded first (Some before) (Some after) old now)
    (λ job. (after ≡ before) × IsOnItsWay old now first job))

keeps_rest-then : (old now new : PartitionState) → KeepsRest old now → KeepsRest now new → KeepsRest old new
keeps_rest-then old now new first second = record {
  terms = second.terms ∙ first.terms;
  part = second.part ∙ first.part;
  snapshots = second.snapshots ∙ first.snapshots;
  max_frames = second.max_frames ∙ first.max_frames;
  children = record {
    tables = second.children.tables ∙ first.children.tables;
    bytes = λ child. second.children.bytes child ∙ first.children.bytes child;
  };
}

keeps_nothing-then : (old now new : PartitionState) → KeepsNothing old now → KeepsNothing now new → KeepsNothing old new
keeps_nothing-then old now new first second = record {
  seen = second.seen ∙ first.seen;
  kept = second.kept ∙ first.kept;
  book = second.book ∙ first.book;
}

ends-then : (old now new : PartitionState) (answer : DoneState) → KeepsRest old now → Ends now new answer
    → Ends old new answer
ends-then old now new answer first ends = record {
  running = ends.running;
  undo = ends.undo;
  finished = ends.finished;
  rest = keeps_rest-then old now new first ends.rest;
}

pub reached-start : (log : Log) (p : PartitionState) → Reached log log p p
reached-start log p = at p.running refl
  where
    at : (running : Option RunningJob) → p.running ≡ running
        → MatchOption running ((p ≡ p) × (log ≡ log)) (λ first.
        MatchOption p.running (HasEnded first (Some log) (Some log) p p) (λ job. (log ≡ log) × IsOnItsWay p p first job))
    at None is = (refl, refl)
    at (Some first) is =
        subst (λ (running : Option RunningJob).
        MatchOption running (HasEnded first (Some log) (Some log) p p) (λ job. (log ≡ log) × IsOnItsWay p p first job)) (sym is) (
          refl,
          record {
            job_is = refl;
            slices = omega arith;
            nothing = record { seen = refl; kept = refl; book = refl };
            bytes = refl;
            rest = record {
              terms = refl;
              part = refl;
              snapshots = refl;
              max_frames = refl;
              children = record { tables = refl; bytes = λ child. refl };
            };
          },
        )

-- what holds of a command at the rows now holds of it at those before
module _ (old now : PartitionState) (rest : KeepsRest old now) (nothing : KeepsNothing old now)
    (P : PartitionState → Type 0) where
  pub as_before : P (record old {
    load = now.load;
    warehouse = now.warehouse;
    seen = now.seen;
    kept = now.kept;
    book = now.book;
  }) → P old
  as_before holds =
      let load : now.load ≡ old.load = ap (λ t. t.load) rest.terms in
      let warehouse : now.warehouse ≡ old.warehouse = ap (λ t. t.warehouse) rest.terms in
      rw (load, warehouse, nothing.seen, nothing.kept, nothing.book) at holds

module _ (old now new : PartitionState) (first job : RunningJob) (way : IsOnItsWay old now first job) where
  -- the partition as it was, with what stayed taken from now
  abbrev before : PartitionState
  before = record old {
    load = now.load;
    warehouse = now.warehouse;
    seen = now.seen;
    kept = now.kept;
    book = now.book;
  }

  -- the job with as many slices done as now
  abbrev again : RunningJob
  again = record first { slices = job.slices }

  accepts_before : (log : Log) → AcceptsBehind log again now new → AcceptsBehind log first before new
  accepts_before log accepts = record {
    accepted = accepts.accepted;
    told = accepts.told;
    client_told = accepts.client_told;
    seen = accepts.seen;
    kept = accepts.kept;
    book = accepts.book;
    ends = ends-back _ accepts.ends;
  }
    where
      ends-back : (answer : DoneState) → Ends now new answer → Ends before new answer
      ends-back answer ends = record {
        running = ends.running;
        undo = ends.undo;
        finished = ends.finished;
        rest = record {
          terms = ends.rest.terms ∙ ap (λ (t : Terms). record t { load = now.load; warehouse = now.warehouse }) way.rest.terms;
          part = ends.rest.part ∙ way.rest.part;
          snapshots = ends.rest.snapshots ∙ way.rest.snapshots;
          max_frames = ends.rest.max_frames ∙ way.rest.max_frames;
          children = record {
            tables = ends.rest.children.tables ∙ way.rest.children.tables;
            bytes = λ child. ends.rest.children.bytes child ∙ way.rest.children.bytes child;
          };
        };
      }

  accepts-then : (start after : Option Log) → Accepts job start after now new → Accepts first start after old new
  accepts-then start after accepts = record {
    log = accepts.log;
    before_is = accepts.before_is;
    after_is = accepts.after_is
        ∙ ap (λ (j : RunningJob). Some (accepts.log ++ entered_by j.edition j.command j.pass)) way.job_is;
    does = as_before old now way.rest way.nothing (λ p. AcceptsBehind accepts.log first p new)
        (accepts_before accepts.log
        (subst (λ (j : RunningJob). AcceptsBehind accepts.log j now new) way.job_is accepts.does));
  }

  -- what is the same for the partition as it was
  items-then : (P : PartitionState → Type 0) → P before → P old
  items-then P holds = as_before old now way.rest way.nothing P holds

  lacks-then : LacksFrame first.command job.slices now new → LacksFrame first.command job.slices old new
  lacks-then lacks = record {
    space = lacks.space;
    undo = lacks.undo;
    found = lacks.found;
    counts = lacks.counts;
    bytes = lacks.bytes ∙ way.bytes;
    children = SameForChildren-then old.space now.space lacks.space way.rest.children lacks.children;
    max_frames = lacks.max_frames ∙ way.rest.max_frames;
    gives_up = lacks.gives_up;
  }

  refuses_again : RefusesAt again job.slices now new → RefusesAt first job.slices old new
  refuses_again refuses = record {
    next = refuses.next;
    items = items-then (λ p. has_items_before p.load.items first.command job.slices ≡ true) refuses.items;
    nothing = keeps_nothing-then old now new way.nothing refuses.nothing;
    bytes = refuses.bytes ∙ way.bytes;
    reason = elim refuses.reason [
      | inl item ↦ inl (
        items-then (λ p. has_item_at p.load.items first.command job.slices ≡ false) item.0,
        items-then (λ p. refusal_now p first.command ≡ Some refusals.NoSuchItem) item.1,
        ends-then old now new _ way.rest item.2,
      )
      | inr other ↦ elim other [
        | inl frame ↦ inr (inl (
          items-then (λ p. has_item_at p.load.items first.command job.slices ≡ true) frame.0,
          lacks-then frame.1,
          ends-then old now new _ way.rest frame.2,
        ))
        | inr memory ↦ inr (inr (
          items-then (λ p. has_item_at p.load.items first.command job.slices ≡ true) memory.0,
          ends-then old now new _ way.rest memory.1,
        ))
      ]
    ];
  }

  refuses-then : (start after : Option Log) → after ≡ start → RefusesAt job job.slices now new
      → Refuses first start after old new
  refuses-then start after same refuses = record {
    log = same;
    done = job.slices;
    reached = way.slices;
    refused = refuses_again (subst (λ (j : RunningJob). RefusesAt j job.slices now new) way.job_is refuses);
  }

  -- one step more
  module _ (start mid after : Log) (mid_is : mid ≡ start) where
    ended : new.running ≡ None → HasEnded first (Some start) (Some after) old new
        → MatchOption new.running (HasEnded first (Some start) (Some after) old new)
        (λ job. (after ≡ start) × IsOnItsWay old new first job)
    ended none how =
        subst (λ (running : Option RunningJob). MatchOption running (HasEnded first (Some start) (Some after) old new)
        (λ job. (after ≡ start) × IsOnItsWay old new first job)) (sym none) how

    stepped : (reached : Progress) → StepsTo job (Some mid) (Some after) now new reached
        → MatchOption new.running (HasEnded first (Some start) (Some after) old new)
        (λ job. (after ≡ start) × IsOnItsWay old new first job)
    stepped progress.More steps =
        let more = steps.2 in
        let same : after ≡ mid = some_same steps.1 in
        subst (λ (running : Option RunningJob). MatchOption running (HasEnded first (Some start) (Some after) old new)
        (λ job. (after ≡ start) × IsOnItsWay old new first job)) (sym more.running) (
          same ∙ mid_is,
          record {
            job_is = ap with_slice_done way.job_is;
            slices = omega (arith, way.slices);
            nothing = keeps_nothing-then old now new way.nothing more.nothing;
            bytes = more.bytes ∙ way.bytes;
            rest = keeps_rest-then old now new way.rest more.rest;
          },
        )
      where
        some_same : {one other : Log} → Some one ≡ Some other → one ≡ other
        some_same same = cc
    stepped progress.Finished steps = elim steps [
      | inl last ↦ ended last.1.does.ends.running (inl (accepts-then (Some start) (Some after)
          (subst (λ (log : Log). Accepts job (Some log) (Some after) now new) mid_is last.1)))
      | inr refuses ↦ ended (refused-running job job.slices now new refuses.1)
          (inr (refuses-then (Some start) (Some after) (refuses.0 ∙ ap Some mid_is) refuses.1))
    ]

pub reached-step : (start mid after : Log) (old now new : PartitionState) (outcome : Result Progress Refusal)
    → IsSome now.running → Reached start mid old now
    → MatchOption now.running ((outcome ≡ Err refusals.NotRunning) × (new ≡ now) × (after ≡ mid))
    (λ job. IsOkAnd outcome (StepsTo job (Some mid) (Some after) now new)) → Reached start after old new
reached-step start mid after old now new outcome running reached step = at old.running now.running refl refl reached step
  where
    at : (before current : Option RunningJob) → old.running ≡ before → now.running ≡ current
        → MatchOption before ((now ≡ old) × (mid ≡ start)) (λ first.
        MatchOption current (HasEnded first (Some start) (Some mid) old now)
        (λ job. (mid ≡ start) × IsOnItsWay old now first job))
        → MatchOption current ((outcome ≡ Err refusals.NotRunning) × (new ≡ now) × (after ≡ mid))
        (λ job. IsOkAnd outcome (StepsTo job (Some mid) (Some after) now new))
        → MatchOption before ((new ≡ old) × (after ≡ start)) (λ first.
        MatchOption new.running (HasEnded first (Some start) (Some after) old new)
        (λ job. (after ≡ start) × IsOnItsWay old new first job))
    at None current before_is current_is same step =
        let none : now.running ≡ None = ap (λ p. p.running) same.0 ∙ before_is in absurd (cc)
    at (Some first) None before_is current_is way step = absurd (cc)
    at (Some first) (Some job) before_is current_is way step = by outcome step
      where
        by : (outcome : Result Progress Refusal) → IsOkAnd outcome (StepsTo job (Some mid) (Some after) now new)
            → MatchOption new.running (HasEnded first (Some start) (Some after) old new)
            (λ job. (after ≡ start) × IsOnItsWay old new first job)
        by (Ok reached) steps = stepped old now new first job way.1 start mid after way.0 reached steps
        by (Err refusal) steps = absurd steps

-- the steps have ended
pub reached-end : (start after : Log) (old now : PartitionState) → now.running ≡ None → Reached start after old now
    → MatchOption old.running ((now ≡ old) × (after ≡ start))
    (λ first. HasEnded first (Some start) (Some after) old now)
reached-end start after old now none reached = at old.running reached
  where
    at : (before : Option RunningJob) → MatchOption before ((now ≡ old) × (after ≡ start)) (λ first.
        MatchOption now.running (HasEnded first (Some start) (Some after) old now)
        (λ job. (after ≡ start) × IsOnItsWay old now first job))
        → MatchOption before ((now ≡ old) × (after ≡ start))
        (λ first. HasEnded first (Some start) (Some after) old now)
    at None same = same
    at (Some first) reached =
        subst (λ (running : Option RunningJob). MatchOption running (HasEnded first (Some start) (Some after) old now)
        (λ job. (after ≡ start) × IsOnItsWay old now first job)) none reached

-- how many steps are left at most
abbrev pub steps_left : Option RunningJob → ℕ
steps_left None = 0
steps_left (Some job) = slice_count job.command - job.slices

pub fewer_left : (n room : ℕ) (executor : ExecutorState) (before after : Log) (p new : PartitionState)
    (outcome : Result Progress Refusal) → IsSound n room executor p → IsSome p.running
    → MatchOption p.running ((outcome ≡ Err refusals.NotRunning) × (new ≡ p) × (after ≡ before))
    (λ job. IsOkAnd outcome (StepsTo job (Some before) (Some after) p new))
    → steps_left new.running < steps_left p.running
fewer_left n room executor before after p new outcome sound running step = at p.running refl step
  where
    fewer : (job : RunningJob) → p.running ≡ Some job → (reached : Progress)
        → StepsTo job (Some before) (Some after) p new reached → steps_left new.running < steps_left (Some job)
    fewer job is progress.More steps =
        omega (arith, (runs n room executor p sound job is).slices, ap steps_left steps.2.running)
    fewer job is progress.Finished steps =
        let none : new.running ≡ None = elim steps [
          | inl last ↦ last.1.does.ends.running
          | inr refuses ↦ refused-running job job.slices p new refuses.1
        ] in
        omega (arith, (runs n room executor p sound job is).slices, ap steps_left none)

    at : (current : Option RunningJob) → p.running ≡ current
        → MatchOption current ((outcome ≡ Err refusals.NotRunning) × (new ≡ p) × (after ≡ before))
        (λ job. IsOkAnd outcome (StepsTo job (Some before) (Some after) p new))
        → steps_left new.running < steps_left current
    at None is step = absurd (cc)
    at (Some job) is step = by outcome step
      where
        by : (outcome : Result Progress Refusal) → IsOkAnd outcome (StepsTo job (Some before) (Some after) p new)
            → steps_left new.running < steps_left (Some job)
        by (Ok reached) steps = fewer job is reached steps
        by (Err refusal) steps = absurd steps
