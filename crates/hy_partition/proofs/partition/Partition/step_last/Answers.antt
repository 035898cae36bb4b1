use Rattle.std.proofs.Common.{◌≡◌, ◌+◌, ◌∷◌, [], ◌++◌, true, false, Option, Some, None, Err, ap, sym, ◌∙◌, subst, arith, true≢false}
use Rattle.hy_rows.specs.Tables.{Tables}
use Rattle.hy_schema.specs.declared.refusal.Refusal.TheVariants as refusals
use Rattle.hy_passes.specs.Worlds.{KeptState}
use Rattle.hy_commands.specs.declared.command.Commit.{Commit}
use Rattle.hy_commands.specs.Commands.{kept_of}
use Rattle.hy_commands.proofs.NamedLaws.{named-accepted}
use Rattle.hy_space.specs.Space.{SameForChildren, SpaceState, owner_bytes}
use Rattle.hy_tpcc.specs.Stored.{stored}
use Rattle.hy_slices.specs.Slices.{has_item_at}
use Rattle.hy_tpcc.specs.Executor.{ExecutorState, IsUnderWay, answer_of}
use Rattle.hy_tpcc.specs.Shortages.{FindsNoFrame}
use Rattle.hy_partition.specs.Jobs.{DoneState, Log, RunningJob, accepted_answer, entered_by, is_last}
use Rattle.hy_partition.specs.Partition.{PartitionState, projection_of, refusal_now, rows_now}
use Rattle.hy_partition.specs.Steps.{StepsTo}
use Rattle.hy_partition.specs.declared.job.Progress.TheVariants as progress
use Rattle.hy_partition.specs.inside.Soundness.{IsSound, IsTied}
use Rattle.hy_partition.specs.inside.Views.{partition_of}
use Rattle.hy_partition.proofs.AccountLaws.{cents-small, home-few}
use Rattle.hy_partition.proofs.SoundLaws.{accepted_now, relaid, runs, sound-accepted, sound-refused}
use Rattle.hy_partition.proofs.StepsToLaws.{job-known, last-ran, last-running, more-running, steps-accepted, steps-refused}
use Rattle.hy_partition.proofs.TieLaws.{tied-accepted, tied-same}
use Rattle.hy_partition.proofs.partition.Partition.step_last.Goals as goal

-- the next slice is the last one
pub unreachable-requires-in-Ok-None : goal.unreachable-requires-in-Ok-None
unreachable-requires-in-Ok-None g c =
    let p : PartitionState = partition_of c.self.inside in
    let inside = c.self.inside in
    let job : RunningJob = record {
      edition = c.in-Some.running.edition;
      command = c.in-Some.running.command;
      slices = c.in-Some.running.slices;
      pass = c.in-Some.running.pass;
    } in
    let running : p.running ≡ Some job = sym c.take.ensures.value ∙ c.in-Some.is in
    let executor : ExecutorState = inside.executor in
    let next : ExecutorState = c.slice.new.self in
    let space : SpaceState = c.slice.new.space in
    let answered : (before : Tables)
    → IsUnderWay executor job.edition job.command job.slices before (stored g.row.N (owner_bytes p.space))
    → None ≡ answer_of executor.layout job.edition job.command job.slices before =
    rw (c.edition.ensures, c.command.ensures, c.slices-done.ensures, c.in-Ok-None.field-0-is) at c.in-Ok-None.ensures.reply in
    let more = more-running g.row.N _ executor p c.self.invariant.0 job running answered in
    let last : is_last job ≡ true =
    job-known (λ (j : RunningJob). is_last j ≡ true) c.args.self.now p job c.self.view_is running c.requires in
    absurd (true≢false (sym last ∙ more))

pub accept-done-requires-clause-alone : goal.accept-done-requires-clause-alone
accept-done-requires-clause-alone g c =
    let p : PartitionState = partition_of c.self.inside in
    let inside = c.self.inside in
    let job : RunningJob = record {
      edition = c.in-Some.running.edition;
      command = c.in-Some.running.command;
      slices = c.in-Some.running.slices;
      pass = c.in-Some.running.pass;
    } in
    let running : p.running ≡ Some job = sym c.take.ensures.value ∙ c.in-Some.is in
    let executor : ExecutorState = inside.executor in
    let next : ExecutorState = c.slice.new.self in
    let space : SpaceState = c.slice.new.space in
    let under_way : (before : Tables)
    → IsUnderWay executor job.edition job.command job.slices before (stored g.row.N (owner_bytes p.space))
    → IsUnderWay next job.edition job.command (job.slices + 1) before (stored g.row.N (owner_bytes space)) =
    rw (c.edition.ensures, c.command.ensures, c.slices-done.ensures) at c.in-Ok-Some.ensures.under_way.step in
    let answered : (before : Tables)
    → IsUnderWay executor job.edition job.command job.slices before (stored g.row.N (owner_bytes p.space))
    → Some c.in-Ok-Some.reply ≡ answer_of executor.layout job.edition job.command job.slices before =
    rw (c.edition.ensures, c.command.ensures, c.slices-done.ensures, c.in-Ok-Some.field-0-is) at c.in-Ok-Some.ensures.reply in
    let last = last-running g.row.N _ executor p c.self.invariant.0 job running c.in-Ok-Some.reply answered in
    let accepted : refusal_now p job.command ≡ None =
    accepted_now g.row.N _ executor p c.self.invariant.0 next space job running c.slice.ensures.layout
    c.in-Ok-Some.ensures.under_way.store under_way c.slice.ensures.writes.children last in
    named-accepted p.load.items p.warehouse job.command (rows_now p) accepted
    ∙ ap (λ warehouse. warehouse ∷ []) (sym c.self.invariant.1.list_of)

pub accept-done-requires-clause-few_entered : goal.accept-done-requires-clause-few_entered
accept-done-requires-clause-few_entered g c =
    let p : PartitionState = partition_of c.self.inside in
    omega (
      arith,
      c.self.invariant.1.book.commits_are,
      home-few p.warehouse p.kept,
      c.self.invariant.0.within,
      c.self.invariant.0.limit,
    )

pub accept-done-requires-clause-small : goal.accept-done-requires-clause-small
accept-done-requires-clause-small g c =
    let p : PartitionState = partition_of c.self.inside in
    let inside = c.self.inside in
    let job : RunningJob = record {
      edition = c.in-Some.running.edition;
      command = c.in-Some.running.command;
      slices = c.in-Some.running.slices;
      pass = c.in-Some.running.pass;
    } in
    let running : p.running ≡ Some job = sym c.take.ensures.value ∙ c.in-Some.is in
    let executor : ExecutorState = inside.executor in
    let next : ExecutorState = c.slice.new.self in
    let space : SpaceState = c.slice.new.space in
    let under_way : (before : Tables)
    → IsUnderWay executor job.edition job.command job.slices before (stored g.row.N (owner_bytes p.space))
    → IsUnderWay next job.edition job.command (job.slices + 1) before (stored g.row.N (owner_bytes space)) =
    rw (c.edition.ensures, c.command.ensures, c.slices-done.ensures) at c.in-Ok-Some.ensures.under_way.step in
    let answered : (before : Tables)
    → IsUnderWay executor job.edition job.command job.slices before (stored g.row.N (owner_bytes p.space))
    → Some c.in-Ok-Some.reply ≡ answer_of executor.layout job.edition job.command job.slices before =
    rw (c.edition.ensures, c.command.ensures, c.slices-done.ensures, c.in-Ok-Some.field-0-is) at c.in-Ok-Some.ensures.reply in
    let last = last-running g.row.N _ executor p c.self.invariant.0 job running c.in-Ok-Some.reply answered in
    let accepted : refusal_now p job.command ≡ None =
    accepted_now g.row.N _ executor p c.self.invariant.0 next space job running c.slice.ensures.layout
    c.in-Ok-Some.ensures.under_way.store under_way c.slice.ensures.writes.children last in
    cents-small p.load.items p.warehouse job.command (rows_now p) accepted

pub invariant_of-self : goal.invariant_of-self
invariant_of-self g c =
    let p : PartitionState = partition_of c.self.inside in
    let inside = c.self.inside in
    let job : RunningJob = record {
      edition = c.in-Some.running.edition;
      command = c.in-Some.running.command;
      slices = c.in-Some.running.slices;
      pass = c.in-Some.running.pass;
    } in
    let running : p.running ≡ Some job = sym c.take.ensures.value ∙ c.in-Some.is in
    let executor : ExecutorState = inside.executor in
    let next : ExecutorState = c.slice.new.self in
    let space : SpaceState = c.slice.new.space in
    let under_way : (before : Tables)
    → IsUnderWay executor job.edition job.command job.slices before (stored g.row.N (owner_bytes p.space))
    → IsUnderWay next job.edition job.command (job.slices + 1) before (stored g.row.N (owner_bytes space)) =
    rw (c.edition.ensures, c.command.ensures, c.slices-done.ensures) at c.in-Ok-Some.ensures.under_way.step in
    let answered : (before : Tables)
    → IsUnderWay executor job.edition job.command job.slices before (stored g.row.N (owner_bytes p.space))
    → Some c.in-Ok-Some.reply ≡ answer_of executor.layout job.edition job.command job.slices before =
    rw (c.edition.ensures, c.command.ensures, c.slices-done.ensures, c.in-Ok-Some.field-0-is) at c.in-Ok-Some.ensures.reply in
    let last = last-running g.row.N _ executor p c.self.invariant.0 job running c.in-Ok-Some.reply answered in
    let accepted : refusal_now p job.command ≡ None =
    accepted_now g.row.N _ executor p c.self.invariant.0 next space job running c.slice.ensures.layout
    c.in-Ok-Some.ensures.under_way.store under_way c.slice.ensures.writes.children last in
    let list : KeptState Commit = c.accept-done.new.kept in
    let longer : projection_of list.warehouse list.seen ≡ p.kept ++ kept_of job.edition job.command =
    ap (λ warehouse. projection_of warehouse list.seen) c.accept-done.ensures.warehouse ∙ c.accept-done.ensures.kept in
    let after : PartitionState = record p {
      seen = list.seen;
      kept = projection_of list.warehouse list.seen;
      book = c.accept-done.new.book;
      running = c.take.new.self;
      undo = c.commit.new.self;
      finished = c.put.new.place;
      space = space;
    } in
    relaid (λ q. IsSound g.row.N list.room next q × IsTied g.K.Loaded.load g.K.World.passes list inside.desk q) after next.layout
    c.slice.ensures.layout
    (subst (λ (place : Option RunningJob).
    IsSound g.row.N list.room next (record after { running = place })
    × IsTied g.K.Loaded.load g.K.World.passes list inside.desk (record after { running = place })) (sym c.take.ensures.after) (
      sound-accepted g.row.N _ executor p c.self.invariant.0 next space job running c.slice.ensures.layout
          c.in-Ok-Some.ensures.under_way.store under_way c.slice.ensures.writes.children last list.room c.commit.new.self
          list.seen (projection_of list.warehouse list.seen) c.accept-done.new.book c.put.new.place c.commit.ensures.log
          c.commit.ensures.undo_log longer,
      tied-accepted g.K.Loaded.load g.K.World.passes inside.kept inside.desk p c.self.invariant.1 g.row.N _ executor list job
          (projection_of list.warehouse list.seen) c.accept-done.new.book c.commit.new.self c.put.new.place space
          c.self.invariant.0 accepted c.accept-done.ensures.warehouse longer c.accept-done.ensures.book
          (runs g.row.N _ executor p c.self.invariant.0 job running).edition,
    ))

pub invariant_of-self-in-Err : goal.invariant_of-self-in-Err
invariant_of-self-in-Err g c =
    let p : PartitionState = partition_of c.self.inside in
    let inside = c.self.inside in
    let job : RunningJob = record {
      edition = c.in-Some.running.edition;
      command = c.in-Some.running.command;
      slices = c.in-Some.running.slices;
      pass = c.in-Some.running.pass;
    } in
    let running : p.running ≡ Some job = sym c.take.ensures.value ∙ c.in-Some.is in
    let executor : ExecutorState = inside.executor in
    let next : ExecutorState = c.slice.new.self in
    let space : SpaceState = c.slice.new.space in
    let after : PartitionState = record p {
      running = c.take.new.self;
      undo = c.roll_back.new.self;
      finished = c.put-in-Err.new.place;
      space = c.roll_back.new.space;
    } in
    let writes = c.slice.ensures.writes in
    let back = c.roll_back.ensures in
    let children : SameForChildren p.space c.roll_back.new.space = record {
      tables = back.gives_up.children.tables ∙ writes.children.tables;
      bytes = λ child. back.gives_up.children.bytes child ∙ writes.children.bytes child;
    } in
    relaid (λ q. IsSound g.row.N inside.kept.room next q × IsTied g.K.Loaded.load g.K.World.passes inside.kept inside.desk q) after
    next.layout c.slice.ensures.layout
    (subst (λ (place : Option RunningJob).
    IsSound g.row.N inside.kept.room next (record after { running = place })
    × IsTied g.K.Loaded.load g.K.World.passes inside.kept inside.desk (record after { running = place })) (sym c.take.ensures.after) (
      sound-refused g.row.N _ executor p c.self.invariant.0 next c.roll_back.new.space c.roll_back.new.self
          c.put-in-Err.new.place job running c.slice.ensures.layout back.log back.undo_log (back.bytes ∙ writes.undoes.undone) children,
      tied-same g.K.Loaded.load g.K.World.passes inside.kept inside.desk p c.self.invariant.1 inside.kept.room None c.roll_back.new.self
          c.put-in-Err.new.place c.roll_back.new.space,
    ))

pub returns-in-Ok-Some : goal.returns-in-Ok-Some
returns-in-Ok-Some g c =
    let p : PartitionState = partition_of c.self.inside in
    let inside = c.self.inside in
    let job : RunningJob = record {
      edition = c.in-Some.running.edition;
      command = c.in-Some.running.command;
      slices = c.in-Some.running.slices;
      pass = c.in-Some.running.pass;
    } in
    let running : p.running ≡ Some job = sym c.take.ensures.value ∙ c.in-Some.is in
    let executor : ExecutorState = inside.executor in
    let next : ExecutorState = c.slice.new.self in
    let space : SpaceState = c.slice.new.space in
    let under_way : (before : Tables)
    → IsUnderWay executor job.edition job.command job.slices before (stored g.row.N (owner_bytes p.space))
    → IsUnderWay next job.edition job.command (job.slices + 1) before (stored g.row.N (owner_bytes space)) =
    rw (c.edition.ensures, c.command.ensures, c.slices-done.ensures) at c.in-Ok-Some.ensures.under_way.step in
    let answered : (before : Tables)
    → IsUnderWay executor job.edition job.command job.slices before (stored g.row.N (owner_bytes p.space))
    → Some c.in-Ok-Some.reply ≡ answer_of executor.layout job.edition job.command job.slices before =
    rw (c.edition.ensures, c.command.ensures, c.slices-done.ensures, c.in-Ok-Some.field-0-is) at c.in-Ok-Some.ensures.reply in
    let last = last-running g.row.N _ executor p c.self.invariant.0 job running c.in-Ok-Some.reply answered in
    let accepted : refusal_now p job.command ≡ None =
    accepted_now g.row.N _ executor p c.self.invariant.0 next space job running c.slice.ensures.layout
    c.in-Ok-Some.ensures.under_way.store under_way c.slice.ensures.writes.children last in
    let list : KeptState Commit = c.accept-done.new.kept in
    let longer : projection_of list.warehouse list.seen ≡ p.kept ++ kept_of job.edition job.command =
    ap (λ warehouse. projection_of warehouse list.seen) c.accept-done.ensures.warehouse ∙ c.accept-done.ensures.kept in
    let after : PartitionState = record p {
      seen = list.seen;
      kept = projection_of list.warehouse list.seen;
      book = c.accept-done.new.book;
      running = c.take.new.self;
      undo = c.commit.new.self;
      finished = c.put.new.place;
      space = space;
    } in
    let serial = c.args.journal.now.list.log in
    let answer : c.accept-done.result
    ≡ accepted_answer job p.warehouse c.in-Ok-Some.reply (serial ++ entered_by job.edition job.command job.pass) =
    c.accept-done.ensures.done
    ∙ ap (λ warehouse. accepted_answer job warehouse c.in-Ok-Some.reply (serial ++ entered_by job.edition job.command job.pass))
    c.self.invariant.1.book.warehouse_is in
    let steps : StepsTo job (Some serial) (Some c.accept-done.new.journal.list.log) p
    (record after { running = None; finished = Some c.accept-done.result }) progress.Finished =
    steps-accepted g.row.N _ executor p c.self.invariant.0 job running next space c.slice.new.undo c.slice.ensures.layout
    c.slice.ensures.writes c.commit.new.self serial c.accept-done.new.journal.list.log list.seen
    (projection_of list.warehouse list.seen) c.accept-done.new.book c.in-Ok-Some.reply c.accept-done.result
    c.in-Ok-Some.ensures.under_way.store under_way answered c.commit.ensures.log c.accept-done.ensures.log
    c.accept-done.ensures.seen longer c.accept-done.ensures.told c.accept-done.ensures.client_told
    c.accept-done.ensures.book answer in
    let placed : StepsTo job (Some serial) (Some c.accept-done.new.journal.list.log) p after progress.Finished =
    subst (λ (place : Option RunningJob). StepsTo job (Some serial) (Some c.accept-done.new.journal.list.log) p
    (record after { running = place }) progress.Finished) (sym c.take.ensures.after)
    (subst (λ (place : Option DoneState). StepsTo job (Some serial) (Some c.accept-done.new.journal.list.log) p
    (record after { running = None; finished = place }) progress.Finished) (sym c.put.ensures) steps) in
    last-ran c.args.self.now p _ job _ _ progress.Finished c.self.view_is running
    (relaid (λ q. StepsTo job (Some serial) (Some c.accept-done.new.journal.list.log) p q progress.Finished) after
    next.layout c.slice.ensures.layout placed)

pub returns-in-Err : goal.returns-in-Err
returns-in-Err g c =
    let p : PartitionState = partition_of c.self.inside in
    let inside = c.self.inside in
    let job : RunningJob = record {
      edition = c.in-Some.running.edition;
      command = c.in-Some.running.command;
      slices = c.in-Some.running.slices;
      pass = c.in-Some.running.pass;
    } in
    let running : p.running ≡ Some job = sym c.take.ensures.value ∙ c.in-Some.is in
    let executor : ExecutorState = inside.executor in
    let next : ExecutorState = c.slice.new.self in
    let space : SpaceState = c.slice.new.space in
    let after : PartitionState = record p {
      running = c.take.new.self;
      undo = c.roll_back.new.self;
      finished = c.put-in-Err.new.place;
      space = c.roll_back.new.space;
    } in
    let writes = c.slice.ensures.writes in
    let back = c.roll_back.ensures in
    let missing : c.in-Err.refusal ≡ refusals.NoSuchItem
    → has_item_at executor.layout.load.items job.command job.slices ≡ false =
    λ item. (rw (c.command.ensures, c.slices-done.ensures) at c.in-Err.ensures.no_item.0) (ap Err item) in
    let only : has_item_at executor.layout.load.items job.command job.slices ≡ false
    → c.in-Err.refusal ≡ refusals.NoSuchItem =
    λ gone. (let same : Err c.in-Err.refusal ≡ Err refusals.NoSuchItem = (rw (c.command.ensures, c.slices-done.ensures) at c.in-Err.ensures.no_item.1) gone in cc) in
    let lacks : c.in-Err.refusal ≡ refusals.NoFrame → FindsNoFrame job.command job.slices space =
    λ frame. (rw (c.command.ensures, c.slices-done.ensures) at c.in-Err.ensures.no_frame) (ap Err frame) in
    let steps : (log : Option Log)
    → StepsTo job log log p (record after { running = None; finished = Some c.refuse.result }) progress.Finished =
    steps-refused g.row.N _ executor p c.self.invariant.0 job running next space c.slice.new.undo c.slice.ensures.layout
    writes c.roll_back.new.space c.roll_back.new.self c.in-Err.refusal c.refuse.result missing only lacks c.sound.ensures.counts
    c.in-Err.ensures.refused
    back.log back.bytes back.gives_up c.refuse.ensures in
    let placed : (log : Option Log) → StepsTo job log log p after progress.Finished =
    λ log. subst (λ (place : Option RunningJob). StepsTo job log log p (record after { running = place }) progress.Finished)
    (sym c.take.ensures.after)
    (subst (λ (place : Option DoneState). StepsTo job log log p (record after { running = None; finished = place }) progress.Finished)
    (sym c.put-in-Err.ensures) (steps log)) in
    last-ran c.args.self.now p _ job _ _ progress.Finished c.self.view_is running
    (relaid (λ q. StepsTo job (Some c.args.journal.now.list.log) (Some c.args.journal.now.list.log) p q progress.Finished)
    after next.layout c.slice.ensures.layout (placed (Some c.args.journal.now.list.log)))
