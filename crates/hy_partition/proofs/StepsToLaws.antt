-- What the next slice of the job that runs leaves of a partition.
use Rattle.std.proofs.Common.{◌≡◌, ℕ, ◌+◌, ◌<◌, ◌⊎◌, Bool, true, false, cond, inl, inr, List, ◌++◌, Option, Some, None, Result, Ok, Err, refl, sym, ap, ◌∙◌, subst, arith}
use Rattle.std.specs.Prelude.{IsOkAnd, IsSomeAnd, MatchOption}
use mathlib.Core.List.{IsPrefix}
use Rattle.std.proofs.lemmas.Bool.{eqb-true}
use Rattle.std.proofs.lemmas.Bool.Decides.{nat_tests}
use Rattle.hy_rows.specs.Tables.{Tables}
use Rattle.hy_schema.specs.declared.refusal.Refusal.{Refusal}
use Rattle.hy_schema.specs.declared.refusal.Refusal.TheVariants as refusals
use Rattle.hy_commands.specs.declared.command.Commit.{Commit}
use Rattle.hy_commands.specs.declared.reply.Reply.{Reply}
use Rattle.hy_commands.specs.Commands.{kept_of, slice_count}
use Rattle.hy_commands.specs.Transactions.{Outcome}
use Rattle.hy_slices.specs.Slices.{has_item_at, has_items_before}
use Rattle.hy_slices.proofs.SliceLaws.{slices-refused}
use Rattle.hy_space.specs.Space.{CountsAreExact, SpaceState, owner_bytes}
use Rattle.hy_tpcc.specs.Stored.{HasStore, stored}
use Rattle.hy_tpcc.specs.Writes.{WritesStore}
use Rattle.hy_undo.specs.PrivatePages.{GivesUpPages}
use Rattle.hy_undo.specs.UndoLog.{UndoLog, undone, empty_log}
use Rattle.hy_layout.specs.Layout.{LayoutState}
use Rattle.hy_tpcc.specs.Executor.{ExecutorState, IsUnderWay, answer_of}
use Rattle.hy_tpcc.specs.Shortages.{FindsNoFrame}
use Rattle.hy_ledger.specs.Books.{BookState}
use Rattle.hy_passes.specs.Worlds.{PassState}
use Rattle.hy_partition.specs.Accounts.{with_command}
use Rattle.hy_partition.specs.Jobs.{DoneState, Log, RunningJob, accepted_answer, entered_by, is_last, refused_answer, with_slice_done}
use Rattle.hy_partition.specs.Partition.{PartitionState, outcome_now, refusal_now, rows_now}
use Rattle.hy_partition.specs.Steps.{Ends, StepsTo}
use Rattle.hy_partition.specs.declared.job.Progress.{Progress}
use Rattle.hy_partition.specs.declared.job.Progress.TheVariants as progress
use Rattle.hy_partition.specs.inside.Soundness.{IsSound}
use Rattle.hy_partition.proofs.ReplayLaws.{act-accepted}
use Rattle.hy_partition.proofs.SoundLaws.{accepted_now, runs}

-- a step of the job that runs, before its last slice
pub early-running : (now p q : PartitionState) (job : RunningJob) (reached : Progress) (outcome : Result Progress Refusal)
    → outcome ≡ Ok reached → p ≡ now → p.running ≡ Some job → ((log : Option Log) → StepsTo job log log p q reached)
    → MatchOption now.running ((outcome ≡ Err refusals.NotRunning) × (q ≡ now))
    (λ job. IsOkAnd outcome (λ progress. (log : Option Log) → StepsTo job log log now q progress))
early-running now p q job reached outcome is same running steps =
    subst (λ (now : PartitionState). MatchOption now.running ((outcome ≡ Err refusals.NotRunning) × (q ≡ now))
    (λ job. IsOkAnd outcome (λ progress. (log : Option Log) → StepsTo job log log now q progress))) same
    (subst (λ (r : Option RunningJob). MatchOption r ((outcome ≡ Err refusals.NotRunning) × (q ≡ p))
    (λ job. IsOkAnd outcome (λ progress. (log : Option Log) → StepsTo job log log p q progress))) (sym running)
    (subst (λ (o : Result Progress Refusal).
    IsOkAnd o (λ progress. (log : Option Log) → StepsTo job log log p q progress)) (sym is) steps))

-- and at its last slice
pub last-ran : (now p q : PartitionState) (job : RunningJob) (before after : Option Log) (reached : Progress) → p ≡ now
    → p.running ≡ Some job → StepsTo job before after p q reached
    → IsSomeAnd now.running (λ job. StepsTo job before after now q reached)
last-ran now p q job before after reached same running steps =
    subst (λ (now : PartitionState). IsSomeAnd now.running (λ job. StepsTo job before after now q reached)) same
    (subst (λ (r : Option RunningJob). IsSomeAnd r (λ job. StepsTo job before after p q reached)) (sym running) steps)

-- what is known of the job that runs
pub job-known : (P : RunningJob → Type 0) (now p : PartitionState) (job : RunningJob) → p ≡ now → p.running ≡ Some job
    → IsSomeAnd now.running P → P job
job-known P now p job same running known =
    subst (λ (r : Option RunningJob). IsSomeAnd r P) (sym (ap (λ p. p.running) same) ∙ running) known

pub job-said : (P : RunningJob → Type 0) (now p : PartitionState) (job : RunningJob) → p ≡ now → p.running ≡ Some job
    → P job → IsSomeAnd now.running P
job-said P now p job same running holds =
    subst (λ (r : Option RunningJob). IsSomeAnd r P) (sym (sym (ap (λ p. p.running) same) ∙ running)) holds

-- what is answered behind a slice says whether it was the last one
answered-more : (last : Bool) (reply : Reply) → None ≡ cond last (Some reply) None → last ≡ false
answered-more false reply is = refl
answered-more true reply is = absurd (cc)

answered-last : (last : Bool) (given reply : Reply) → Some given ≡ cond last (Some reply) None
    → (last ≡ true) × (given ≡ reply)
answered-last false given reply is = absurd (cc)
answered-last true given reply is = (refl, cc)

-- where more slices are to come
pub not_last : (job : RunningJob) → job.slices < slice_count job.command → is_last job ≡ false
    → job.slices + 1 < slice_count job.command
not_last job few more = grind (arith, nat_tests, few, more)

-- an item is there or it isn't
there-or : (there : Bool) → (there ≡ false → ⊥) → there ≡ true
there-or true gone = refl
there-or false gone = absurd (gone refl)

-- the answer to a refusal
ends-refused : (old new : PartitionState) (pass : PassState Commit) (refusal other : Refusal) → refusal ≡ other
    → Ends old new (refused_answer pass refusal) → Ends old new (refused_answer pass other)
ends-refused old new pass refusal other same ends = subst (λ (r : Refusal). Ends old new (refused_answer pass r)) same ends

module _ (n room : ℕ) (executor : ExecutorState) (p : PartitionState) (sound : IsSound n room executor p)
    (job : RunningJob) (running : p.running ≡ Some job) where
  way : IsUnderWay executor job.edition job.command job.slices (rows_now p) (stored n (owner_bytes p.space))
  way = (runs n room executor p sound job running).under_way

  pub slices-running : job.slices < slice_count job.command
  slices-running = (runs n room executor p sound job running).slices

  -- what a slice needs
  pub store-running : HasStore n (owner_bytes p.space)
  store-running = (runs n room executor p sound job running).store

  pub way-running : (before : Tables)
      × IsUnderWay executor job.edition job.command job.slices before (stored n (owner_bytes p.space))
  way-running = (rows_now p, way)

  -- the slice answered nothing
  pub more-running : ((before : Tables)
      → IsUnderWay executor job.edition job.command job.slices before (stored n (owner_bytes p.space))
      → None ≡ answer_of executor.layout job.edition job.command job.slices before) → is_last job ≡ false
  more-running answered = answered-more (is_last job) _ (answered (rows_now p) way)

  -- it answered, and was the last one
  pub last-running : (reply : Reply) → ((before : Tables)
      → IsUnderWay executor job.edition job.command job.slices before (stored n (owner_bytes p.space))
      → Some reply ≡ answer_of executor.layout job.edition job.command job.slices before)
      → job.slices + 1 ≡ slice_count job.command
  last-running reply answered =
      eqb-true (job.slices + 1) (slice_count job.command)
      (answered-last (is_last job) reply _ (answered (rows_now p) way)).0

  module _ (executor' : ExecutorState) (mid : SpaceState) (log : UndoLog) (layout : executor'.layout ≡ executor.layout)
      (writes : WritesStore n p.space mid p.undo log) where
    pub steps-more : (next : RunningJob) → next ≡ with_slice_done job
        → is_last job ≡ false
        → ((before : Tables) → IsUnderWay executor job.edition job.command job.slices before (stored n (owner_bytes p.space))
        → IsUnderWay executor' job.edition job.command (job.slices + 1) before (stored n (owner_bytes mid)))
        → (same : Option Log) → StepsTo job same same p (record p { running = Some next; undo = log; space = mid }) progress.More
    steps-more next next_is more under_way same = (
      more,
      refl,
      record {
        items = subst (λ (layout : LayoutState). has_items_before layout.load.items job.command (job.slices + 1) ≡ true)
            (layout ∙ sound.layout) (under_way (rows_now p) way).slices.known;
        running = ap Some next_is;
        finished = refl;
        nothing = record { seen = refl; kept = refl; book = refl };
        bytes = writes.undoes.undone;
        rest = record {
          terms = refl;
          part = refl;
          snapshots = refl;
          children = writes.children;
          max_frames = writes.limit;
        };
      },
    )

    -- the last slice keeps the command behind a serial list, and answers it
    pub steps-accepted : (undo : UndoLog) (serial after seen : Log) (kept : List Commit) (book : BookState) (reply : Reply)
        (finished : DoneState) → HasStore n (owner_bytes mid)
        → ((before : Tables) → IsUnderWay executor job.edition job.command job.slices before (stored n (owner_bytes p.space))
        → IsUnderWay executor' job.edition job.command (job.slices + 1) before (stored n (owner_bytes mid)))
        → ((before : Tables) → IsUnderWay executor job.edition job.command job.slices before (stored n (owner_bytes p.space))
        → Some reply ≡ answer_of executor.layout job.edition job.command job.slices before)
        → undo ≡ empty_log mid → after ≡ serial ++ entered_by job.edition job.command job.pass
        → seen ≡ serial ++ entered_by job.edition job.command job.pass → kept ≡ p.kept ++ kept_of job.edition job.command
        → IsPrefix p.seen serial → IsPrefix job.pass.seen serial → book ≡ with_command p.book job.command
        → finished ≡ accepted_answer job p.warehouse reply (serial ++ entered_by job.edition job.command job.pass)
        → StepsTo job (Some serial) (Some after) p (record p {
          seen = seen;
          kept = kept;
          book = book;
          running = None;
          undo = undo;
          finished = Some finished;
          space = mid;
        }) progress.Finished
    steps-accepted undo serial after seen kept book reply finished store under_way answered none grown knows longer told
        client_told booked is =
        let answer = subst (λ (layout : LayoutState).
        Some reply ≡ answer_of layout job.edition job.command job.slices (rows_now p)) sound.layout (answered (rows_now p) way) in
        let last = answered-last (is_last job) reply _ answer in
        let accepted : refusal_now p job.command ≡ None =
        accepted_now n room executor p sound executor' mid job running layout store under_way writes.children
        (eqb-true (job.slices + 1) (slice_count job.command) last.0) in
        let replied : reply ≡ (outcome_now p job.edition job.command).reply =
        last.1 ∙ sym (ap (λ (o : Outcome). o.reply)
        (act-accepted p.load.items p.warehouse job.edition job.command (rows_now p) accepted)) in
        inl (
          last.0,
          record {
            log = serial;
            before_is = refl;
            after_is = ap Some grown;
            does = record {
              accepted = accepted;
              told = told;
              client_told = client_told;
              seen = knows;
              kept = longer;
              book = booked;
              ends = record {
                running = refl;
                undo = none;
                finished = ap Some (is
                    ∙ ap (λ reply. accepted_answer job p.warehouse reply
                    (serial ++ entered_by job.edition job.command job.pass)) replied);
                rest = record {
                  terms = refl;
                  part = refl;
                  snapshots = refl;
                  children = writes.children;
                  max_frames = writes.limit;
                };
              };
            };
          },
        )

    -- a slice that is refused ends the job, and the pages are put back
    pub steps-refused : (space : SpaceState) (undo : UndoLog) (refusal : Refusal) (finished : DoneState)
        → (refusal ≡ refusals.NoSuchItem → has_item_at executor.layout.load.items job.command job.slices ≡ false)
        → (has_item_at executor.layout.load.items job.command job.slices ≡ false → refusal ≡ refusals.NoSuchItem)
        → (refusal ≡ refusals.NoFrame → FindsNoFrame job.command job.slices mid) → CountsAreExact mid
        → (refusal ≡ refusals.NoSuchItem) ⊎ (refusal ≡ refusals.NoFrame) ⊎ (refusal ≡ refusals.NoMemory)
        → undo ≡ empty_log space → owner_bytes space ≡ undone (owner_bytes mid) log → GivesUpPages mid space
        → finished ≡ refused_answer job.pass refusal → (same : Option Log) → StepsTo job same same p (record p {
          running = None;
          undo = undo;
          finished = Some finished;
          space = space;
        }) progress.Finished
    steps-refused space undo refusal finished missing only lacks counts why none bytes gives_up is same =
        let after : PartitionState = record p {
          running = None;
          undo = undo;
          finished = Some finished;
          space = space;
        } in
        let ends : Ends p after (refused_answer job.pass refusal) = record {
          running = refl;
          undo = none;
          finished = ap Some is;
          rest = record {
            terms = refl;
            part = refl;
            snapshots = refl;
            max_frames = gives_up.limit ∙ writes.limit;
            children = record {
              tables = gives_up.children.tables ∙ writes.children.tables;
              bytes = λ child. gives_up.children.bytes child ∙ writes.children.bytes child;
            };
          };
        } in
        let there : (refusal ≡ refusals.NoSuchItem → ⊥) → has_item_at p.load.items job.command job.slices ≡ true =
        λ other. subst (λ (layout : LayoutState). has_item_at layout.load.items job.command job.slices ≡ true)
        sound.layout
        (there-or (has_item_at executor.layout.load.items job.command job.slices) (λ gone. other (only gone))) in
        inr (
          refl,
          record {
            next = slices-running;
            items = subst (λ (layout : LayoutState). has_items_before layout.load.items job.command job.slices ≡ true)
                sound.layout way.slices.known;
            nothing = record { seen = refl; kept = refl; book = refl };
            bytes = bytes ∙ writes.undoes.undone;
            reason = elim why [
              | inl item ↦
                  let gone = subst (λ (layout : LayoutState). has_item_at layout.load.items job.command job.slices ≡ false) sound.layout
                  (missing item) in
                  let begins = (runs n room executor p sound job running).begins in
                  let refused = slices-refused p.load.items p.warehouse job.command (rows_now p) job.slices begins
                  (λ there. differ there gone) in
                  inl (gone, refused, ends-refused p after job.pass refusal _ item ends)
              | inr other ↦ elim other [
                | inl frame ↦ inr (inl (
                  there (λ item. let same : refusals.NoSuchItem ≡ refusals.NoFrame = sym item ∙ frame in absurd (cc)),
                  record {
                    space = mid;
                    undo = log;
                    found = lacks frame;
                    counts = counts;
                    bytes = writes.undoes.undone;
                    children = writes.children;
                    max_frames = writes.limit;
                    gives_up = gives_up;
                  },
                  ends-refused p after job.pass refusal _ frame ends,
                ))
                | inr memory ↦ inr (inr (
                  there (λ item. let same : refusals.NoSuchItem ≡ refusals.NoMemory = sym item ∙ memory in absurd (cc)),
                  ends-refused p after job.pass refusal _ memory ends,
                ))
              ]
            ];
          },
        )
      where
        differ : {b : Bool} → b ≡ true → b ≡ false → ⊥
        differ there gone = let both : true ≡ false = sym there ∙ gone in absurd (cc)
