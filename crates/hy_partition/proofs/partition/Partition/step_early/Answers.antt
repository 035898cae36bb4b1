use Rattle.std.proofs.Common.{◌≡◌, ◌+◌, true, false, Option, Some, None, Ok, Err, ap, sym, ◌∙◌, refl, subst, eq-eqb}
use Rattle.hy_rows.specs.Tables.{Tables}
use Rattle.hy_schema.specs.declared.refusal.Refusal.TheVariants as refusals
use Rattle.hy_passes.specs.Worlds.{PassState}
use Rattle.hy_commands.specs.declared.command.Commit.{Commit}
use Rattle.hy_space.specs.Space.{SameForChildren, SpaceState, owner_bytes}
use Rattle.hy_tpcc.specs.Stored.{stored}
use Rattle.hy_commands.specs.Commands.{slice_count}
use Rattle.hy_slices.specs.Slices.{has_item_at}
use Rattle.hy_tpcc.specs.Executor.{ExecutorState, IsUnderWay, answer_of}
use Rattle.hy_tpcc.specs.Shortages.{FindsNoFrame}
use Rattle.hy_partition.specs.Jobs.{DoneState, Log, RunningJob, is_last, refused_answer}
use Rattle.hy_partition.specs.Partition.{PartitionState}
use Rattle.hy_partition.specs.Steps.{StepsTo}
use Rattle.hy_partition.specs.declared.job.Progress.TheVariants as progress
use Rattle.hy_partition.specs.inside.Soundness.{IsSound, IsTied}
use Rattle.hy_partition.specs.inside.Views.{partition_of}
use Rattle.hy_partition.proofs.SoundLaws.{relaid, sound-continued, sound-refused}
use Rattle.hy_partition.proofs.StepsToLaws.{early-running, job-said, last-running, more-running, not_last, slices-running, steps-more, steps-refused}
use Rattle.hy_partition.proofs.TieLaws.{tied-same}
use Rattle.hy_partition.proofs.partition.Partition.step_early.Goals as goal

pub invariant_of-self-in-Ok-None : goal.invariant_of-self-in-Ok-None
invariant_of-self-in-Ok-None g c =
    let p : PartitionState = partition_of c.self.inside in
    let inside = c.self.inside in
    let job : RunningJob = record {
      edition = c.in-Some.running.edition;
      command = c.in-Some.running.command;
      slices = c.in-Some.running.slices;
      pass = c.in-Some.running.pass;
    } in
    let running : p.running ≡ Some job = c.in-Some.is in
    let executor : ExecutorState = inside.executor in
    let next : ExecutorState = c.slice.new.self in
    let space : SpaceState = c.slice.new.space in
    let under_way : (before : Tables)
    → IsUnderWay executor job.edition job.command job.slices before (stored g.row.N (owner_bytes p.space))
    → IsUnderWay next job.edition job.command (job.slices + 1) before (stored g.row.N (owner_bytes space)) =
    rw (c.edition.ensures, c.command.ensures, c.slices-done.ensures) at c.in-Ok-None.ensures.under_way.step in
    let answered : (before : Tables)
    → IsUnderWay executor job.edition job.command job.slices before (stored g.row.N (owner_bytes p.space))
    → None ≡ answer_of executor.layout job.edition job.command job.slices before =
    rw (c.edition.ensures, c.command.ensures, c.slices-done.ensures, c.in-Ok-None.field-0-is) at c.in-Ok-None.ensures.reply in
    let after : PartitionState = record p { running = Some c.advance.new.self; undo = c.slice.new.undo; space = space } in
    let more = more-running g.row.N _ executor p c.self.invariant.0 job running answered in
    let writes = c.slice.ensures.writes in
    relaid (λ q. IsSound g.row.N inside.kept.room next q × IsTied g.K.Loaded.load g.K.World.passes inside.kept inside.desk q) after
    next.layout c.slice.ensures.layout (
      sound-continued g.row.N _ executor p c.self.invariant.0 next space job running c.slice.ensures.layout
          c.in-Ok-None.ensures.under_way.store under_way writes.children c.slice.new.undo c.advance.new.self c.advance.ensures
          writes.undoes.undo_log writes.undoes.undone
          (not_last job (slices-running g.row.N _ executor p c.self.invariant.0 job running) more),
      tied-same g.K.Loaded.load g.K.World.passes inside.kept inside.desk p c.self.invariant.1 inside.kept.room (Some c.advance.new.self)
          c.slice.new.undo p.finished space,
    )

pub returns-in-Ok-None : goal.returns-in-Ok-None
returns-in-Ok-None g c =
    let p : PartitionState = partition_of c.self.inside in
    let inside = c.self.inside in
    let job : RunningJob = record {
      edition = c.in-Some.running.edition;
      command = c.in-Some.running.command;
      slices = c.in-Some.running.slices;
      pass = c.in-Some.running.pass;
    } in
    let running : p.running ≡ Some job = c.in-Some.is in
    let executor : ExecutorState = inside.executor in
    let next : ExecutorState = c.slice.new.self in
    let space : SpaceState = c.slice.new.space in
    let under_way : (before : Tables)
    → IsUnderWay executor job.edition job.command job.slices before (stored g.row.N (owner_bytes p.space))
    → IsUnderWay next job.edition job.command (job.slices + 1) before (stored g.row.N (owner_bytes space)) =
    rw (c.edition.ensures, c.command.ensures, c.slices-done.ensures) at c.in-Ok-None.ensures.under_way.step in
    let answered : (before : Tables)
    → IsUnderWay executor job.edition job.command job.slices before (stored g.row.N (owner_bytes p.space))
    → None ≡ answer_of executor.layout job.edition job.command job.slices before =
    rw (c.edition.ensures, c.command.ensures, c.slices-done.ensures, c.in-Ok-None.field-0-is) at c.in-Ok-None.ensures.reply in
    let after : PartitionState = record p { running = Some c.advance.new.self; undo = c.slice.new.undo; space = space } in
    let more = more-running g.row.N _ executor p c.self.invariant.0 job running answered in
    let steps : (log : Option Log) → StepsTo job log log p after progress.More =
    λ log. (steps-more g.row.N _ executor p c.self.invariant.0 job running next space c.slice.new.undo c.slice.ensures.layout
    c.slice.ensures.writes c.advance.new.self c.advance.ensures more under_way log) in
    early-running c.args.self.now p _ job progress.More (Ok progress.More) refl c.self.view_is running
    (relaid (λ q. (log : Option Log) → StepsTo job log log p q progress.More) after next.layout c.slice.ensures.layout steps)

-- the next slice isn't the last one
pub unreachable-requires : goal.unreachable-requires
unreachable-requires g c =
    let p : PartitionState = partition_of c.self.inside in
    let inside = c.self.inside in
    let job : RunningJob = record {
      edition = c.in-Some.running.edition;
      command = c.in-Some.running.command;
      slices = c.in-Some.running.slices;
      pass = c.in-Some.running.pass;
    } in
    let running : p.running ≡ Some job = c.in-Some.is in
    let executor : ExecutorState = inside.executor in
    let next : ExecutorState = c.slice.new.self in
    let space : SpaceState = c.slice.new.space in
    let answered : (before : Tables)
    → IsUnderWay executor job.edition job.command job.slices before (stored g.row.N (owner_bytes p.space))
    → Some c.in-Ok-Some._reply ≡ answer_of executor.layout job.edition job.command job.slices before =
    rw (c.edition.ensures, c.command.ensures, c.slices-done.ensures, c.in-Ok-Some.field-0-is) at c.in-Ok-Some.ensures.reply in
    let last = last-running g.row.N _ executor p c.self.invariant.0 job running c.in-Ok-Some._reply answered in
    c.requires (job-said (λ (j : RunningJob). is_last j ≡ true) c.args.self.now p job c.self.view_is running
    (eq-eqb (job.slices + 1) (slice_count job.command) last))

pub invariant_of-self-in-Err : goal.invariant_of-self-in-Err
invariant_of-self-in-Err g c =
    let p : PartitionState = partition_of c.self.inside in
    let inside = c.self.inside in
    let job : RunningJob = record {
      edition = c.in-Some.running.edition;
      command = c.in-Some.running.command;
      slices = c.in-Some.running.slices;
      pass = c.in-Some.running.pass;
    } in
    let running : p.running ≡ Some job = c.in-Some.is in
    let executor : ExecutorState = inside.executor in
    let next : ExecutorState = c.slice.new.self in
    let space : SpaceState = c.slice.new.space in
    let after : PartitionState = record p {
      running = c.take.new.self;
      undo = c.roll_back.new.self;
      finished = c.put.new.place;
      space = c.roll_back.new.space;
    } in
    let writes = c.slice.ensures.writes in
    let back = c.roll_back.ensures in
    let children : SameForChildren p.space c.roll_back.new.space = record {
      tables = back.gives_up.children.tables ∙ writes.children.tables;
      bytes = λ child. back.gives_up.children.bytes child ∙ writes.children.bytes child;
    } in
    relaid (λ q. IsSound g.row.N inside.kept.room next q × IsTied g.K.Loaded.load g.K.World.passes inside.kept inside.desk q) after
    next.layout c.slice.ensures.layout
    (subst (λ (place : Option RunningJob).
    IsSound g.row.N inside.kept.room next (record after { running = place })
    × IsTied g.K.Loaded.load g.K.World.passes inside.kept inside.desk (record after { running = place })) (sym c.take.ensures.after) (
      sound-refused g.row.N _ executor p c.self.invariant.0 next c.roll_back.new.space c.roll_back.new.self
          c.put.new.place job running c.slice.ensures.layout back.log back.undo_log (back.bytes ∙ writes.undoes.undone) children,
      tied-same g.K.Loaded.load g.K.World.passes inside.kept inside.desk p c.self.invariant.1 inside.kept.room None c.roll_back.new.self
          c.put.new.place c.roll_back.new.space,
    ))

pub returns-in-Some-take : goal.returns-in-Some-take
returns-in-Some-take g c =
    let p : PartitionState = partition_of c.self.inside in
    let inside = c.self.inside in
    let job : RunningJob = record {
      edition = c.in-Some.running.edition;
      command = c.in-Some.running.command;
      slices = c.in-Some.running.slices;
      pass = c.in-Some.running.pass;
    } in
    let running : p.running ≡ Some job = c.in-Some.is in
    let executor : ExecutorState = inside.executor in
    let next : ExecutorState = c.slice.new.self in
    let space : SpaceState = c.slice.new.space in
    let after : PartitionState = record p {
      running = c.take.new.self;
      undo = c.roll_back.new.self;
      finished = c.put.new.place;
      space = c.roll_back.new.space;
    } in
    let writes = c.slice.ensures.writes in
    let back = c.roll_back.ensures in
    let missing : c.in-Err.refusal ≡ refusals.NoSuchItem
    → has_item_at executor.layout.load.items job.command job.slices ≡ false =
    λ item. (rw (c.command.ensures, c.slices-done.ensures) at c.in-Err.ensures.no_item.0) (ap Err item) in
    let only : has_item_at executor.layout.load.items job.command job.slices ≡ false
    → c.in-Err.refusal ≡ refusals.NoSuchItem =
    λ gone. (let same : Err c.in-Err.refusal ≡ Err refusals.NoSuchItem = (rw (c.command.ensures, c.slices-done.ensures) at c.in-Err.ensures.no_item.1) gone in cc) in
    let lacks : c.in-Err.refusal ≡ refusals.NoFrame → FindsNoFrame job.command job.slices space =
    λ frame. (rw (c.command.ensures, c.slices-done.ensures) at c.in-Err.ensures.no_frame) (ap Err frame) in
    let same : c.in-Some-take.running.pass ≡ job.pass =
    (let is = sym c.in-Some-take.is ∙ c.take.ensures.value in cc) in
    let answer : c.refuse.result ≡ refused_answer job.pass c.in-Err.refusal =
    c.refuse.ensures ∙ ap (λ (pass : PassState Commit). refused_answer pass c.in-Err.refusal) same in
    let steps : (log : Option Log)
    → StepsTo job log log p (record after { running = None; finished = Some c.refuse.result }) progress.Finished =
    steps-refused g.row.N _ executor p c.self.invariant.0 job running next space c.slice.new.undo c.slice.ensures.layout
    writes c.roll_back.new.space c.roll_back.new.self c.in-Err.refusal c.refuse.result missing only lacks c.sound.ensures.counts
    c.in-Err.ensures.refused
    back.log back.bytes back.gives_up answer in
    let placed : (log : Option Log) → StepsTo job log log p after progress.Finished =
    λ log. subst (λ (place : Option RunningJob). StepsTo job log log p (record after { running = place }) progress.Finished)
    (sym c.take.ensures.after)
    (subst (λ (place : Option DoneState). StepsTo job log log p (record after { running = None; finished = place }) progress.Finished)
    (sym c.put.ensures) (steps log)) in
    early-running c.args.self.now p _ job progress.Finished (Ok progress.Finished) refl c.self.view_is running
    (relaid (λ q. (log : Option Log) → StepsTo job log log p q progress.Finished) after next.layout c.slice.ensures.layout
    placed)
