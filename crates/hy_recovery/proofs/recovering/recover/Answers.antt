-- One batch more, and the end.
use Rattle.std.proofs.Common.{◌≡◌, ◌<◌, ◌≤◌, ℕ, suc, List, ap, refl, sym, subst, ◌∙◌, arith, length}
use Rattle.std.specs.Prelude.{IfSome, slice_get}
use Rattle.hy_worlds.specs.Origins.{replayed_of}
use Rattle.hy_rows.specs.Tables.{Lists}
use Rattle.hy_forks.specs.of_partition.Jobs.{Log}
use Rattle.hy_forks.specs.of_partition.Partition.{PartitionState}
use Rattle.hy_forks.specs.of_partition.Steps.{Begins}
use Rattle.hy_forks.specs.of_crossing.Crossings.{ArePartitions}
use Rattle.hy_forks.specs.of_crossing.Making.{AllBegin}
use Rattle.hy_forks.proofs.of_crossing.InformLaws.{pairs-count}
use Rattle.hy_forks.specs.Drains.{TellsHere}
use Rattle.hy_forks.specs.Lists.{Pairwise}
use Rattle.hy_forks.specs.Partitions.{AreWhole}
use Rattle.hy_sound.proofs.ListLaws.{item-there}
use Rattle.hy_recovery.specs.Recovering.{GoesOn, StopsAtCommit}
use Rattle.hy_recovery.specs.inside.Ways.{AreOnWay, AreThere, IsShortage, untouched}
use Rattle.hy_recovery.proofs.EndLaws.{ended-partitions, ended-whole, lacking-why}
use Rattle.hy_recovery.proofs.JoinedLaws.{aim_of, all-replayed, few-lists, goes-on, next-stops, next_aim, recovered, run-batch, run-more, run-none}
use Rattle.hy_recovery.proofs.PlaceLaws.{at-place, each-from, get-within}
use Rattle.hy_recovery.proofs.ResultLaws.{this-error}
use Rattle.hy_recovery.proofs.recovering.recover.Goals as goal

pub run_batch-requires : goal.run_batch-requires
run_batch-requires g c =
    let load = c.args.load.now in
    let log = c.loop-place.journal.list.log in
    let parts = c.loop-place.parts.items in
    let batch = c.batch.result.now in
    let within : c.loop-place.place < length c.args.batches.now =
    omega (arith, c.loop-place-test.true, c.count-place-end.ensures) in
    let at = item-there c.args.batches.now c.loop-place.place batch _ within c.batch.ensures in
    let run = c.loop-place.invariant.run in
    let aim = next_aim load c.args.batches.now c.args.max_frames c.args.max_kept c.loop-place.place log parts run batch at in
    let way = run-batch load c.args.batches.now c.args.max_frames c.args.max_kept c.loop-place.place log parts run batch at
    c.sound.ensures c.in_ok-check_batches.ensures.few in
    let few = few-lists c.args.batches.now c.loop-place.place batch c.sound.ensures at in
    (omega arith, (few, (aim, subst (λ (lists : Lists). AreOnWay lists aim (untouched batch) log parts) c.requires.load way)))

pub loop-place-preserved : goal.loop-place-preserved
loop-place-preserved g c =
    let load = c.args.load.now in
    let log = c.loop-place.journal.list.log in
    let parts = c.loop-place.parts.items in
    let batch = c.batch.result.now in
    let later = c.run_batch.new.journal.list.log in
    let news = c.run_batch.new.parts.items in
    let within : c.loop-place.place < length c.args.batches.now =
    omega (arith, c.loop-place-test.true, c.count-place-end.ensures) in
    let at = item-there c.args.batches.now c.loop-place.place batch _ within c.batch.ensures in
    let run = c.loop-place.invariant.run in
    let aim = next_aim load c.args.batches.now c.args.max_frames c.args.max_kept c.loop-place.place log parts run batch at in
    let way = run-batch load c.args.batches.now c.args.max_frames c.args.max_kept c.loop-place.place log parts run batch at
    c.sound.ensures c.in_ok-check_batches.ensures.few in
    let there : AreThere load aim later news =
    subst (λ (lists : Lists). AreThere lists aim later news) (sym c.requires.load)
    (c.in_ok-pass.ensures.way aim
    (subst (λ (lists : Lists). AreOnWay lists aim (untouched batch) log parts) c.requires.load way)) in
    record {
      run = run-more load c.args.batches.now c.args.max_frames c.args.max_kept c.loop-place.place log parts run batch at
          later news there;
      client = c.in_ok-pass.ensures.client ∙ c.loop-place.invariant.client;
    }

pub new-partitions-requires : goal.new-partitions-requires
new-partitions-requires g c =
    let load = c.args.load.now in
    let run = c.loop-place.invariant.run in
    let aim = aim_of c.args.batches.now c.args.max_frames c.args.max_kept c.loop-place.place run.last in
    let log = c.loop-place.journal.list.log in
    let parts = c.loop-place.parts.items in
    let are = ended-partitions load aim log parts run.there in
    let whole : AreWhole g.K.Loaded.load parts = record {
      some = omega (arith, are.count, c.sound-2.ensures.warehouses.whole);
      partitions = subst (λ (lists : Lists). ArePartitions lists parts) c.requires.load are;
      whole = ended-whole load aim log parts run.there;
    } in
    (omega arith, whole)

pub returns-clause-recovered : goal.returns-clause-recovered
returns-clause-recovered g c =
    let parts = c.loop-place.parts.items in
    let told = c.find_history.new.self in
    let end : length c.args.batches.now ≤ c.loop-place.place =
    omega (arith, c.loop-place-test.false, c.count-place-end.ensures) in
    let tells : Pairwise (TellsHere c.loop-place.journal.list.log) 1 parts told =
    subst (λ (rows : List PartitionState). Pairwise (TellsHere c.loop-place.journal.list.log) 1 rows told)
    c.new-partitions.ensures c.find_history.ensures.told in
    recovered c.args.load.now c.args.batches.now c.args.max_frames c.args.max_kept c.loop-place.place
    c.loop-place.journal.list.log parts c.loop-place.invariant.run end told tells
    (pairs-count (TellsHere c.loop-place.journal.list.log) 1 parts told tells)

pub loop-place-init : goal.loop-place-init
loop-place-init g c =
    let load = c.args.load.now in
    let batches = c.args.batches.now in
    let parts = c.know_replayed.new.parts.items in
    let begin : AllBegin load c.args.max_frames c.args.max_kept parts =
    subst (AllBegin load c.args.max_frames c.args.max_kept) (sym c.know_replayed.ensures.same) c.in_ok-parts.ensures.begin in
    let known : (place : ℕ) → IfSome (slice_get parts place) (λ p. p.replayed ≡ replayed_of g.K.World.passes p.warehouse) =
    subst (λ (rows : List PartitionState). (place : ℕ)
    → IfSome (slice_get rows place) (λ p. p.replayed ≡ replayed_of g.K.World.passes p.warehouse))
    (sym c.know_replayed.ensures.same) c.know_replayed.ensures.known in
    record {
      run = run-none load batches c.args.max_frames c.args.max_kept _ c.args.journal.list.log parts begin
          (λ place. each-from _ (slice_get parts place) (λ p at.
          let was = at-place (Begins load (suc place) c.args.max_frames c.args.max_kept) parts place p at (begin.each place) in
          let is = at-place (λ p. p.replayed ≡ replayed_of g.K.World.passes p.warehouse) parts place p at (known place) in
          is ∙ ap (λ t. replayed_of g.K.World.passes t.warehouse) was.terms
          ∙ c.requires.replayed c.args.max_kept c.requires.kept c.in_ok-check_batches.ensures.few place
          (omega (arith, get-within parts place p at, begin.count))))
          c.requires.log c.in_ok-check_batches.ensures.sound.1;
      client = refl;
    }

pub returns-clause-replayed : goal.returns-clause-replayed
returns-clause-replayed g c = all-replayed c.args.load.now c.args.max_frames c.args.max_kept c.args.batches.now
    c.find_history.new.self (returns-clause-recovered g c)

pub returns-clause-goes_on : goal.returns-clause-goes_on
returns-clause-goes_on g c =
    let load = c.args.load.now in
    let log = c.loop-place.journal.list.log in
    let end : length c.args.batches.now ≤ c.loop-place.place =
    omega (arith, c.loop-place-test.false, c.count-place-end.ensures) in
    subst (λ (log : Log). GoesOn load c.args.batches.now log) (sym c.find_history.ensures.log)
    (goes-on load c.args.batches.now c.args.max_frames c.args.max_kept c.loop-place.place log c.loop-place.parts.items
    c.loop-place.invariant.run end)

-- a commit of the batch lacked a frame, or memory
pub returns-in_err-pass-clause-refused : goal.returns-in_err-pass-clause-refused
returns-in_err-pass-clause-refused g c =
    let load = c.args.load.now in
    let batches = c.args.batches.now in
    let log = c.loop-place.journal.list.log in
    let parts = c.loop-place.parts.items in
    let batch = c.batch.result.now in
    let why = c.in_err-pass.field-0.0 in
    let within : c.loop-place.place < length batches = omega (arith, c.loop-place-test.true, c.count-place-end.ensures) in
    let at = item-there batches c.loop-place.place batch _ within c.batch.ensures in
    let run = c.loop-place.invariant.run in
    let aim = next_aim load batches c.args.max_frames c.args.max_kept c.loop-place.place log parts run batch at in
    let way = run-batch load batches c.args.max_frames c.args.max_kept c.loop-place.place log parts run batch at
    c.sound.ensures c.in_ok-check_batches.ensures.few in
    let stops : IsShortage (StopsAtCommit g.row.N load aim.frames aim.goal) why =
    subst (λ (lists : Lists). IsShortage (StopsAtCommit g.row.N lists aim.frames aim.goal) why) (sym c.requires.load)
    (c.in_err-pass.ensures.refused aim
    (subst (λ (lists : Lists). AreOnWay lists aim (untouched batch) log parts) c.requires.load way)) in
    this-error _ _ _ c.from_residual-in_err-pass.ensures.1
    (lacking-why g.row.N load c.args.max_frames batches c.args.max_kept why c.in_ok-check_batches.ensures.sound
    c.in_ok-check_batches.ensures.few
    (next-stops load batches c.args.max_frames c.args.max_kept c.loop-place.place log parts run batch at g.row.N why stops))
