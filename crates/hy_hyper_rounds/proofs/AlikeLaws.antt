-- What is done to partitions that have kept the same has the same outcome in both, unless frames or memory lacked in one.
use Rattle.std.proofs.Common.{◌≡◌, ◌⊎◌, ◌∙◌, ◌+◌, ◌==◌, ◌&&◌, ◌||◌, ◌++◌, not, ℕ, suc, true, false, List, [], ◌∷◌, length, map, is_some, Option, None, Some, refl, sym, ap, subst, inl, inr, arith}
use Rattle.std.proofs.lemmas.Bool.{and_parts}
use Rattle.std.specs.Option.{option_or}
use Rattle.std.specs.Prelude.{if◌then◌else◌}
use Rattle.hy_rows.specs.Tables.{Tables}
use Rattle.hy_schema.specs.declared.refusal.Refusal.{Refusal}
use Rattle.hy_schema.specs.declared.refusal.Refusal.TheVariants as refusals
use Rattle.hy_commands.specs.declared.command.Command.{Command}
use Rattle.hy_commands.specs.declared.command.Commit.{Commit}
use Rattle.hy_commands.specs.declared.edition.Edition.{Edition}
use Rattle.hy_commands.specs.declared.edition.Edition.TheVariants as editions
use Rattle.hy_commands.specs.declared.reply.Reply.TheVariants as replies
use Rattle.hy_commands.specs.Commands.{is_reader, kept_of, slice_count}
use Rattle.hy_commands.specs.Transactions.{Outcome, begin_refusal_of}
use Rattle.hy_slices.specs.Slices.{has_item_at, has_items_before}
use Rattle.hy_passes.specs.declared.entry.Entry.{Entry}
use Rattle.hy_partition.specs.declared.job.Progress.{Progress}
use Rattle.hy_partition.specs.declared.job.Progress.TheVariants as progress
use Rattle.hy_partition.specs.Jobs.{DoneState, JobState, Log, RunningJob, begun, entered_by, is_last, refused_answer}
use Rattle.hy_partition.specs.Partition.{PartitionState, Terms, terms_of, outcome_now, refusal_now, rows_now}
use Rattle.hy_partition.specs.Steps.{Accepts, Continues, Ends, IsUnbegun, Refuses, RefusesAt, StepsTo, begin_refusal, is_busy, is_full, with_job}
use Rattle.hy_crossing.specs.Crossings.{commits_in}
use Rattle.hy_script.specs.Steps.{reply_waiting}
use Rattle.hy_hyper_rounds.specs.Restarts.{DoTheSame, KeepTheSame, RunTheSame, SayTheSame, WaitsShort}
use Rattle.hy_hyper_rounds.proofs.SayLaws.{say-more, say-nothing}

-- ---- what is the same

some-running : (one other : Option RunningJob) → RunTheSame one other → is_some other ≡ is_some one
some-running None None same = refl
some-running None (Some other) same = absurd same
some-running (Some one) None same = absurd same
some-running (Some one) (Some other) same = refl

some-waiting : (one other : Option DoneState) → reply_waiting other ≡ reply_waiting one → is_some other ≡ is_some one
some-waiting None None same = refl
some-waiting None (Some other) same = absurd (cc)
some-waiting (Some one) None same = absurd (cc)
some-waiting (Some one) (Some other) same = refl

pub runs-none : (one other : Option RunningJob) → one ≡ None → other ≡ None → RunTheSame one other
runs-none one other none its = rw (none, its) tt

module _ (number : ℕ) (one other : PartitionState) (same : KeepTheSame number one other) where
  pub rows-alike : rows_now other ≡ rows_now one
  rows-alike = rw (same.load, same.warehouse, same.kept) refl

  pub refusal-alike : (command : Command) → refusal_now other command ≡ refusal_now one command
  refusal-alike command = rw (same.load, same.warehouse, same.kept) refl

  pub outcome-alike : (edition : Edition) (command : Command)
      → outcome_now other edition command ≡ outcome_now one edition command
  outcome-alike edition command = rw (same.load, same.warehouse, same.kept) refl

  pub full-alike : is_full other ≡ is_full one
  full-alike = rw (same.kept, same.max_kept) refl

  busy-alike : is_busy other ≡ is_busy one
  busy-alike =
      ap (λ running. running || is_some other.part || is_some other.finished)
      (some-running one.running other.running same.running)
      ∙ ap (λ part. is_some one.running || is_some part || is_some other.finished) (same.part.1 ∙ sym same.part.0)
      ∙ ap (λ finished. is_some one.running || is_some one.part || finished)
      (some-waiting one.finished other.finished same.waiting)

  pub begin-alike : (command : Command) → begin_refusal other command ≡ begin_refusal one command
  begin-alike command =
      ap (λ busy. if busy then Some refusals.Busy else option_or
      (begin_refusal_of other.warehouse command (rows_now other))
      (if not (is_reader command) && is_full other then Some refusals.HistoryFull else None)) busy-alike
      ∙ ap (λ warehouse. if is_busy one then Some refusals.Busy else option_or
      (begin_refusal_of warehouse command (rows_now other))
      (if not (is_reader command) && is_full other then Some refusals.HistoryFull else None)) same.warehouse
      ∙ ap (λ (rows : Tables). if is_busy one then Some refusals.Busy else option_or
      (begin_refusal_of one.warehouse command rows)
      (if not (is_reader command) && is_full other then Some refusals.HistoryFull else None)) rows-alike
      ∙ ap (λ full. if is_busy one then Some refusals.Busy else option_or
      (begin_refusal_of one.warehouse command (rows_now one))
      (if not (is_reader command) && full then Some refusals.HistoryFull else None)) full-alike

-- the load, the warehouse and the limit on commits, which no call changes
pub terms-same : (number : ℕ) (one other last its : PartitionState) → KeepTheSame number one other
    → terms_of last ≡ terms_of one → terms_of its ≡ terms_of other
    → (its.load ≡ last.load) × (its.warehouse ≡ last.warehouse) × (its.max_kept ≡ last.max_kept)
terms-same number one other last its same stays stay = (
  ap (λ (terms : Terms). terms.load) stay ∙ same.load ∙ sym (ap (λ (terms : Terms). terms.load) stays),
  ap (λ (terms : Terms). terms.warehouse) stay ∙ same.warehouse
      ∙ sym (ap (λ (terms : Terms). terms.warehouse) stays),
  ap (λ (terms : Terms). terms.max_kept) stay ∙ same.max_kept ∙ sym (ap (λ (terms : Terms). terms.max_kept) stays),
)

-- ---- a job that comes to its end

-- the entries of an accepted command have its commits
entered-commits : (rows : List Commit) (stamp : ℕ)
    → map (λ (entry : Entry Commit). entry.commit) (map (λ (commit : Commit). record { commit = commit; stamp = stamp }) rows)
    ≡ rows
entered-commits [] stamp = refl
entered-commits (row ∷ rows) stamp = ap (λ rest. row ∷ rest) (entered-commits rows stamp)

-- both end with this reply, and what was kept is the same
module _ (number : ℕ) (one other : PartitionState) (same : KeepTheSame number one other) (last its : PartitionState)
    (answer reply : DoneState) where
  pub ends-alike : Ends one last answer → Ends other its reply → its.kept ≡ last.kept
      → reply.reply ≡ answer.reply → KeepTheSame number last its
  ends-alike ends end kept replies =
      let terms = terms-same number one other last its same ends.rest.terms end.rest.terms in record {
        load = terms.0;
        warehouse = terms.1;
        max_kept = terms.2;
        kept = kept;
        running = runs-none last.running its.running ends.running end.running;
        part = (ends.rest.part ∙ same.part.0, end.rest.part ∙ same.part.1);
        waiting = ap reply_waiting end.finished ∙ ap (λ reply. Some reply) replies
            ∙ sym (ap reply_waiting ends.finished);
      }

-- an answer that waits
waits : (p q : PartitionState) (answer : DoneState) (why : Refusal) → Ends p q answer → answer.reply ≡ replies.Refused why
    → reply_waiting q.finished ≡ Some (replies.Refused why)
waits p q answer why ends is = ap reply_waiting ends.finished ∙ ap (λ reply. Some reply) is

-- a refusal says that an item isn't there, or it is for want of frames or of memory
abbrev IsNoItem : RunningJob → ℕ → PartitionState → PartitionState → Type 0
IsNoItem job done old new = (has_item_at old.load.items job.command done ≡ false)
    × (refusal_now old job.command ≡ Some refusals.NoSuchItem) × Ends old new (refused_answer job.pass refusals.NoSuchItem)

item-or-short : (job : RunningJob) (done : ℕ) (old new : PartitionState) → RefusesAt job done old new
    → IsNoItem job done old new ⊎ WaitsShort new
item-or-short job done old new refuses = elim refuses.reason [
  | inl item ↦ inl item
  | inr lacks ↦ elim lacks [
    | inl frame ↦ inr (refusals.NoFrame, inl refl, waits old new _ refusals.NoFrame frame.2 refl)
    | inr memory ↦ inr (refusals.NoMemory, inr refl, waits old new _ refusals.NoMemory memory.1 refl)
  ]
]

abbrev pub HasEnded : RunningJob → Log → Log → PartitionState → PartitionState → Type 0
HasEnded job before after old new =
    Accepts job (Some before) (Some after) old new ⊎ Refuses job (Some before) (Some after) old new

pub some-same : {Row : Type 0} (one other : Row) → Some one ≡ Some other → one ≡ other
some-same one other same = cc

module _ (number : ℕ) (one other : PartitionState) (same : KeepTheSame number one other)
    (job run : RunningJob) (alike : DoTheSame job run) (before after earlier later : Log)
    (say : SayTheSame before earlier) (last its : PartitionState) where
  abbrev pub EndedAlike : Type 0
  EndedAlike = (KeepTheSame number last its × SayTheSame after later) ⊎ WaitsShort last ⊎ WaitsShort its

  both-accept : Accepts job (Some before) (Some after) one last → Accepts run (Some earlier) (Some later) other its
      → KeepTheSame number last its × SayTheSame after later
  both-accept accepts accept =
      let edition : run.edition ≡ job.edition = alike.editions.1 ∙ sym alike.editions.0 in
      let kept : kept_of run.edition run.command ≡ kept_of job.edition job.command =
      ap (λ e. kept_of e run.command) edition ∙ ap (kept_of job.edition) alike.command in
      let outcome : outcome_now other run.edition run.command ≡ outcome_now one job.edition job.command =
      outcome-alike number one other same run.edition run.command
      ∙ ap (λ e. outcome_now one e run.command) edition ∙ ap (outcome_now one job.edition) alike.command in
      let entered : commits_in (entered_by run.edition run.command run.pass)
      ≡ commits_in (entered_by job.edition job.command job.pass) =
      entered-commits (kept_of run.edition run.command) (length run.pass.seen) ∙ kept
      ∙ sym (entered-commits (kept_of job.edition job.command) (length job.pass.seen)) in
      let lists_say : SayTheSame accepts.log accept.log =
      subst (λ log. SayTheSame accepts.log log) (some-same earlier accept.log accept.before_is)
      (subst (λ log. SayTheSame log earlier) (some-same before accepts.log accepts.before_is) say) in (
        ends-alike number one other same last its _ _ accepts.does.ends accept.does.ends
            (accept.does.kept ∙ ap (λ (front : List Commit). front ++ kept_of run.edition run.command) same.kept
            ∙ ap (λ rest. one.kept ++ rest) kept ∙ sym accepts.does.kept)
            (ap (λ (out : Outcome). out.reply) outcome),
        subst (λ log. SayTheSame log later) (sym (some-same after _ accepts.after_is))
            (subst (λ log. SayTheSame (accepts.log ++ entered_by job.edition job.command job.pass) log)
            (sym (some-same later _ accept.after_is))
            (say-more accepts.log accept.log (entered_by job.edition job.command job.pass)
            (entered_by run.edition run.command run.pass) lists_say entered)),
      )

  both-refuse : Refuses job (Some before) (Some after) one last → Refuses run (Some earlier) (Some later) other its
      → EndedAlike
  both-refuse refuses refuse =
      elim (item-or-short job refuses.done one last refuses.refused) [
        | inr short ↦ inr (inl short)
        | inl item ↦ elim (item-or-short run refuse.done other its refuse.refused) [
          | inr short ↦ inr (inr short)
          | inl no_item ↦ inl (
            ends-alike number one other same last its _ _ item.2 no_item.2
                (refuse.refused.nothing.kept ∙ same.kept ∙ sym refuses.refused.nothing.kept) refl,
            say-nothing before earlier after later say (some-same after before refuses.log)
                (some-same later earlier refuse.log),
          )
        ]
      ]

  refusals-same : refusal_now other run.command ≡ refusal_now one job.command
  refusals-same = refusal-alike number one other same run.command ∙ ap (refusal_now one) alike.command

  pub ended-alike : HasEnded job before after one last → HasEnded run earlier later other its → EndedAlike
  ended-alike ends end = elim ends [
    | inl accepts ↦ elim end [
      | inl accept ↦ inl (both-accept accepts accept)
      | inr refuse ↦ elim (item-or-short run refuse.done other its refuse.refused) [
        | inr short ↦ inr (inr short)
        | inl no_item ↦ absurd (let none = accepts.does.accepted in let some = no_item.1 in let is = refusals-same in cc)
      ]
    ]
    | inr refuses ↦ elim end [
      | inl accept ↦ elim (item-or-short job refuses.done one last refuses.refused) [
        | inr short ↦ inr (inl short)
        | inl item ↦ absurd (let none = accept.does.accepted in let some = item.1 in let is = refusals-same in cc)
      ]
      | inr refuse ↦ both-refuse refuses refuse
    ]
  ]

-- ---- a step of a job

no-slice-more : (items : _) (command : Command) (done : ℕ) → has_items_before items command (done + 1) ≡ true
    → has_item_at items command done ≡ true
no-slice-more items command done all =
    let next : done + 1 ≡ suc done = omega arith in
    let both = and_parts (has_items_before items command done) (has_item_at items command done)
    (subst (λ n. has_items_before items command n ≡ true) next all) in both.1

module _ (number : ℕ) (one other : PartitionState) (same : KeepTheSame number one other)
    (job run : RunningJob) (alike : DoTheSame job run) (before after earlier later : Log)
    (say : SayTheSame before earlier) (last its : PartitionState) where
  both-go-on : after ≡ before → later ≡ earlier → Continues job one last → Continues run other its
      → KeepTheSame number last its × SayTheSame after later
  both-go-on still its_still goes go = let terms = terms-same number one other last its same goes.rest.terms go.rest.terms in (
    record {
      load = terms.0;
      warehouse = terms.1;
      max_kept = terms.2;
      kept = go.nothing.kept ∙ same.kept ∙ sym goes.nothing.kept;
      running = rw (goes.running, go.running) (record {
        editions = alike.editions;
        command = alike.command;
        slices = ap (λ n. n + 1) alike.slices;
      });
      part = (goes.rest.part ∙ same.part.0, go.rest.part ∙ same.part.1);
      waiting = ap reply_waiting go.finished ∙ same.waiting ∙ sym (ap reply_waiting goes.finished);
    },
    say-nothing before earlier after later say still its_still,
  )

  last-same : is_last run ≡ is_last job
  last-same = ap (λ n. n + 1 == slice_count run.command) alike.slices
      ∙ ap (λ command. job.slices + 1 == slice_count command) alike.command

  refuses-now : (runs : RunningJob) (now behind : Log) (old new : PartitionState) → behind ≡ now
      → RefusesAt runs runs.slices old new → HasEnded runs now behind old new
  refuses-now runs now behind old new still refuses = inr (record {
    log = ap (λ log. Some log) still;
    done = runs.slices;
    reached = omega arith;
    refused = refuses;
  })

  -- the one goes on, and the other one refuses
  goes-or-refuses : (runs : RunningJob) (goes : PartitionState) (p q : PartitionState) (refusing : RunningJob)
      (old new : PartitionState) → Continues runs p q → RefusesAt refusing refusing.slices old new
      → old.load ≡ p.load → refusing.command ≡ runs.command → refusing.slices ≡ runs.slices → WaitsShort new
  goes-or-refuses runs goes p q refusing old new continues refuses load command slices =
      elim (item-or-short refusing refusing.slices old new refuses) [
        | inr short ↦ short
        | inl item ↦ absurd (
            let there : has_item_at p.load.items runs.command runs.slices ≡ true =
            no-slice-more p.load.items runs.command runs.slices continues.items in
            let missing = item.0 in
            let same_item : has_item_at old.load.items refusing.command refusing.slices
            ≡ has_item_at p.load.items runs.command runs.slices = rw (load, command, slices) refl in cc)
      ]

  ends-of : (runs : RunningJob) (now behind : Log) (old new : PartitionState)
      → StepsTo runs (Some now) (Some behind) old new progress.Finished → HasEnded runs now behind old new
  ends-of runs now behind old new steps = elim steps [
    | inl accepts ↦ inl accepts.1
    | inr refuses ↦ refuses-now runs now behind old new (some-same behind now refuses.0) refuses.1
  ]

  finishes-late : (runs refusing : RunningJob) (p q old new : PartitionState) (now behind : Log)
      → is_last runs ≡ false → Continues runs p q → is_last refusing ≡ is_last runs → old.load ≡ p.load
      → refusing.command ≡ runs.command → refusing.slices ≡ runs.slices
      → StepsTo refusing (Some now) (Some behind) old new progress.Finished → WaitsShort new
  finishes-late runs refusing p q old new now behind more continues lasts load command slices steps = elim steps [
    | inl accepts ↦ absurd (let done = accepts.0 in cc)
    | inr refuses ↦ goes-or-refuses runs p p q refusing old new continues refuses.1 load command slices
  ]

  pub steps-alike : (done its_done : Progress) → StepsTo job (Some before) (Some after) one last done
      → StepsTo run (Some earlier) (Some later) other its its_done
      → ((its_done ≡ done) × KeepTheSame number last its × SayTheSame after later) ⊎ WaitsShort last ⊎ WaitsShort its
  steps-alike progress.More progress.More steps step =
      let both = both-go-on (some-same after before steps.1) (some-same later earlier step.1) steps.2 step.2 in
      inl (refl, both.0, both.1)
  steps-alike progress.Finished progress.Finished steps step =
      elim (ended-alike number one other same job run alike before after earlier later say last its
      (ends-of job before after one last steps) (ends-of run earlier later other its step)) [
        | inl both ↦ inl (refl, both.0, both.1)
        | inr short ↦ inr short
      ]
  steps-alike progress.More progress.Finished steps step =
      inr (inr (finishes-late job run one last other its earlier later steps.0 steps.2 last-same same.load alike.command
      alike.slices step))
  steps-alike progress.Finished progress.More steps step =
      inr (inl (finishes-late run job other its one last before after step.0 step.2 (sym last-same) (sym same.load)
      (sym alike.command) (sym alike.slices) steps))

-- ---- a job that is begun

pub begins-alike : (number : ℕ) (one other : PartitionState) → KeepTheSame number one other → (job run : JobState)
    → job.edition ≡ editions.Second → run.edition ≡ editions.Second → run.command ≡ job.command
    → KeepTheSame number (with_job one job) (with_job other run)
begins-alike number one other same job run second its_second command = record {
  load = same.load;
  warehouse = same.warehouse;
  max_kept = same.max_kept;
  kept = same.kept;
  running = record { editions = (second, its_second); command = command; slices = refl };
  part = same.part;
  waiting = same.waiting;
}

-- why a command isn't begun: the same in both, or memory lacked in one
pub unbegun-alike : (number : ℕ) (one other : PartitionState) (command : Command) (why its_why : Refusal)
    → KeepTheSame number one other → IsUnbegun one command why → IsUnbegun other command its_why
    → (its_why ≡ why) ⊎ (why ≡ refusals.NoMemory) ⊎ (its_why ≡ refusals.NoMemory)
unbegun-alike number one other command why its_why same unbegun its_unbegun = elim unbegun [
  | inr memory ↦ inr (inl memory.2)
  | inl is ↦ elim its_unbegun [
    | inr memory ↦ inr (inr memory.2)
    | inl its_is ↦ inl (some-same its_why why (sym its_is ∙ begin-alike number one other same command ∙ is))
  ]
]

-- what one begins the other one refuses for want of memory alone
pub begun-or-short : (begin refuse : PartitionState) (command : Command) (why : Refusal)
    → begin_refusal refuse command ≡ begin_refusal begin command → begin_refusal begin command ≡ None
    → IsUnbegun refuse command why → why ≡ refusals.NoMemory
begun-or-short begin refuse command why alike begun unbegun = elim unbegun [
  | inr memory ↦ memory.2
  | inl is ↦ absurd (cc)
]
