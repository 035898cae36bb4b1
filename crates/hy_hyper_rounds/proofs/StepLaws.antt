-- What the calls on a partition do to it they do to one that was told less of the serial list, and else is the same.
use Rattle.std.proofs.Common.{◌≡◌, ◌⊎◌, ◌∙◌, ◌++◌, ℕ, List, [], Option, refl, sym, ap, append-nil, append_assoc, inl, inr}
use mathlib.Core.List.{IsPrefix}
use Rattle.hy_commands.specs.declared.command.Command.{Command}
use Rattle.hy_partition.specs.declared.job.Progress.{Progress}
use Rattle.hy_partition.specs.declared.job.Progress.TheVariants as progress
use Rattle.hy_partition.specs.Jobs.{DoneState, Log, RunningJob}
use Rattle.hy_partition.specs.Partition.{PartitionState}
use Rattle.hy_partition.specs.Parts.{KeepsBeside}
use Rattle.hy_partition.specs.Steps.{Accepts, AcceptsBehind, Continues, Ends, KeepsJob, KeepsNothing, KeepsOthers, KeepsRest, LacksFrame, Refuses, RefusesAt, StepsTo}

pub prefix-same : {Row : Type 0} (rows : List Row) → IsPrefix rows rows
prefix-same rows = ([], append-nil rows)

pub prefix-then : {Row : Type 0} (some more all : List Row) → IsPrefix some more → IsPrefix more all → IsPrefix some all
prefix-then some more all first next = (
  first.0 ++ next.0,
  sym (append_assoc some first.0 next.0) ∙ ap (λ rows. rows ++ next.0) first.1 ∙ next.1,
)

-- the partition, told just this of the serial list
abbrev pub with_seen : Log → PartitionState → PartitionState
with_seen seen p = record p { seen = seen }

-- A relation between partitions that holds of what was told less too: whatever beginning of what it was told the one before had
-- been told, the one behind it was told some beginning
abbrev pub HoldsToldLess : (PartitionState → PartitionState → Type 0) → PartitionState → PartitionState → Type 0
HoldsToldLess relation old new = (seen : Log) → IsPrefix seen old.seen
    → (next : Log) × IsPrefix next new.seen × relation (with_seen seen old) (with_seen next new)

-- where the new one was told as much as the old one, and where it was told what doesn't depend on that
abbrev pub told-same : (relation : PartitionState → PartitionState → Type 0) (old new : PartitionState)
    → new.seen ≡ old.seen → ((seen : Log) → relation (with_seen seen old) (with_seen seen new))
    → HoldsToldLess relation old new
told-same relation old new same holds seen begins =
    (seen, (begins.0, begins.1 ∙ sym same), holds seen)

abbrev pub told-all : (relation : PartitionState → PartitionState → Type 0) (old new : PartitionState)
    → ((seen : Log) → IsPrefix seen old.seen → relation (with_seen seen old) new) → HoldsToldLess relation old new
told-all relation old new holds seen begins = (new.seen, prefix-same new.seen, holds seen begins)

module _ (old new : PartitionState) (seen next : Log) where
  pub rest-told : KeepsRest old new → KeepsRest (with_seen seen old) (with_seen next new)
  rest-told keeps = record {
    terms = keeps.terms;
    part = keeps.part;
    snapshots = keeps.snapshots;
    children = keeps.children;
    max_frames = keeps.max_frames;
  }

  pub job-told : KeepsJob old new → KeepsJob (with_seen seen old) (with_seen next new)
  job-told keeps = record {
    terms = keeps.terms;
    kept = keeps.kept;
    book = keeps.book;
    running = keeps.running;
    part = keeps.part;
    undo = keeps.undo;
    finished = keeps.finished;
    owner = keeps.owner;
  }

  pub others-told : (child : ℕ) → KeepsOthers old new child → KeepsOthers (with_seen seen old) (with_seen next new) child
  others-told child keeps = record { bytes = keeps.bytes; commits = keeps.commits }

  pub beside-told : KeepsBeside old new → KeepsBeside (with_seen seen old) (with_seen next new)
  beside-told keeps = record {
    terms = keeps.terms;
    running = keeps.running;
    finished = keeps.finished;
    snapshots = keeps.snapshots;
    children = keeps.children;
    max_frames = keeps.max_frames;
  }

  pub ends-told : (answer : DoneState) → Ends old new answer → Ends (with_seen seen old) (with_seen next new) answer
  ends-told answer ends = record {
    running = ends.running;
    undo = ends.undo;
    finished = ends.finished;
    rest = rest-told ends.rest;
  }

  lacks-told : (command : Command) (done : ℕ) → LacksFrame command done old new
      → LacksFrame command done (with_seen seen old) (with_seen next new)
  lacks-told command done lacks = record {
    space = lacks.space;
    undo = lacks.undo;
    found = lacks.found;
    counts = lacks.counts;
    bytes = lacks.bytes;
    children = lacks.children;
    max_frames = lacks.max_frames;
    gives_up = lacks.gives_up;
  }

module _ (old new : PartitionState) (seen : Log) where
  pub nothing-told : KeepsNothing old new → KeepsNothing (with_seen seen old) (with_seen seen new)
  nothing-told keeps = record { seen = refl; kept = keeps.kept; book = keeps.book }

  continues-told : (job : RunningJob) → Continues job old new → Continues job (with_seen seen old) (with_seen seen new)
  continues-told job continues = record {
    items = continues.items;
    running = continues.running;
    finished = continues.finished;
    nothing = nothing-told continues.nothing;
    bytes = continues.bytes;
    rest = rest-told old new seen seen continues.rest;
  }

  refused-told : (job : RunningJob) (done : ℕ) → RefusesAt job done old new
      → RefusesAt job done (with_seen seen old) (with_seen seen new)
  refused-told job done refuses = record {
    next = refuses.next;
    items = refuses.items;
    nothing = nothing-told refuses.nothing;
    bytes = refuses.bytes;
    reason = elim refuses.reason [
      | inl item ↦ inl (item.0, item.1, ends-told old new seen seen _ item.2)
      | inr other ↦ elim other [
        | inl frame ↦ inr (inl (
          frame.0,
          lacks-told old new seen seen job.command done frame.1,
          ends-told old new seen seen _ frame.2,
        ))
        | inr memory ↦ inr (inr (memory.0, ends-told old new seen seen _ memory.1))
      ]
    ];
  }

  refuses-told : (job : RunningJob) (before after : Option Log) → Refuses job before after old new
      → Refuses job before after (with_seen seen old) (with_seen seen new)
  refuses-told job before after refuses = record {
    log = refuses.log;
    done = refuses.done;
    reached = refuses.reached;
    refused = refused-told job refuses.done refuses.refused;
  }

module _ (old new : PartitionState) where
  accepts-told : (job : RunningJob) (before after : Option Log) (seen : Log) → IsPrefix seen old.seen
      → Accepts job before after old new → Accepts job before after (with_seen seen old) new
  accepts-told job before after seen begins accepts =
      let does : AcceptsBehind accepts.log job old new = accepts.does in record {
        log = accepts.log;
        before_is = accepts.before_is;
        after_is = accepts.after_is;
        does = record {
          accepted = does.accepted;
          told = prefix-then seen old.seen accepts.log begins does.told;
          client_told = does.client_told;
          seen = does.seen;
          kept = does.kept;
          book = does.book;
          ends = ends-told old new seen new.seen _ does.ends;
        };
      }

  -- a job comes to its end
  pub ended-told : (job : RunningJob) (before after : Option Log)
      → Accepts job before after old new ⊎ Refuses job before after old new
      → HoldsToldLess (λ old new. Accepts job before after old new ⊎ Refuses job before after old new) old new
  ended-told job before after ends = elim ends [
    | inl accepts ↦ told-all (λ old new. Accepts job before after old new ⊎ Refuses job before after old new) old new
        (λ seen begins. inl (accepts-told job before after seen begins accepts))
    | inr refuses ↦ told-same (λ old new. Accepts job before after old new ⊎ Refuses job before after old new) old new
        refuses.refused.nothing.seen (λ seen. inr (refuses-told old new seen job before after refuses))
  ]

  -- a job does a step
  pub steps-told : (job : RunningJob) (before after : Option Log) (done : Progress)
      → StepsTo job before after old new done
      → HoldsToldLess (λ old new. StepsTo job before after old new done) old new
  steps-told job before after progress.More steps =
      told-same (λ old new. StepsTo job before after old new progress.More) old new steps.2.nothing.seen
      (λ seen. (steps.0, steps.1, continues-told old new seen job steps.2))
  steps-told job before after progress.Finished steps = elim steps [
    | inl accepts ↦ told-all (λ old new. StepsTo job before after old new progress.Finished) old new
        (λ seen begins. inl (accepts.0, accepts-told job before after seen begins accepts.1))
    | inr refuses ↦ told-same (λ old new. StepsTo job before after old new progress.Finished) old new
        refuses.1.nothing.seen
        (λ seen. inr (refuses.0, refused-told old new seen job job.slices refuses.1))
  ]
