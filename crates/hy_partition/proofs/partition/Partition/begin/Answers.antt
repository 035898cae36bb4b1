use Rattle.std.proofs.Common.{rules, ◌≡◌, true, Option, Some, ap, sym, ◌∙◌, subst, arith}
use Rattle.hy_passes.specs.Worlds.{KeptState}
use Rattle.hy_commands.specs.declared.command.Commit.{Commit}
use Rattle.hy_partition.specs.Jobs.{RunningJob}
use Rattle.hy_partition.specs.Partition.{PartitionState, may_run, replays}
use Rattle.hy_partition.specs.inside.Soundness.{IsSound, IsTied}
use Rattle.hy_partition.specs.inside.Views.{partition_of, with_list}
use Rattle.hy_partition.proofs.SoundLaws.{relaid, rests, sound-begun, sound-idle, store_now}
use Rattle.hy_partition.proofs.TieLaws.{tied-same}
use Rattle.hy_partition.proofs.partition.Partition.begin.Goals as goal

pub begin-requires : goal.begin-requires
begin-requires g c =
    let p : PartitionState = partition_of c.self.inside in (
      omega arith,
      (
        (rests g.row.N _ _ p c.self.invariant.0 (search rules) (search rules)).pages.store,
        store_now g.row.N _ _ p c.self.invariant.0 (search rules) (search rules),
      ),
    )

pub invariant_of-self : goal.invariant_of-self
invariant_of-self g c =
    let p : PartitionState = partition_of c.self.inside in
    let inside = c.self.inside in
    relaid (λ q. IsSound g.row.N inside.kept.room c.begin.new.self q × IsTied g.K.Loaded.load g.K.World.passes inside.kept inside.desk q) p
    c.begin.new.self.layout c.begin.ensures.layout
    (sound-idle g.row.N _ _ p c.self.invariant.0 _ c.begin.new.self (search rules) (search rules) c.begin.ensures.layout, c.self.invariant.1)

pub invariant_of-self-in-Err-make_room : goal.invariant_of-self-in-Err-make_room
invariant_of-self-in-Err-make_room g c =
    let p : PartitionState = partition_of c.self.inside in
    let inside = c.self.inside in
    let room = c.make_room.new.kept.room in
    subst (λ (list : KeptState Commit).
    (λ (q : PartitionState). IsSound g.row.N list.room c.begin.new.self q × IsTied g.K.Loaded.load g.K.World.passes list inside.desk q)
    (with_list (record p { load = c.begin.new.self.layout.load; warehouse = c.begin.new.self.layout.warehouse }) list))
    (sym c.make_room.ensures.kept)
    (relaid (λ q. IsSound g.row.N room c.begin.new.self q
    × IsTied g.K.Loaded.load g.K.World.passes (record inside.kept { room = room }) inside.desk q) p
    c.begin.new.self.layout c.begin.ensures.layout (
      sound-idle g.row.N _ _ p c.self.invariant.0 room c.begin.new.self (search rules) (search rules) c.begin.ensures.layout,
      tied-same g.K.Loaded.load g.K.World.passes inside.kept inside.desk p c.self.invariant.1 room p.running p.undo p.finished p.space,
    ))

pub invariant_of-self-2 : goal.invariant_of-self-2
invariant_of-self-2 g c =
    let p : PartitionState = partition_of c.self.inside in
    let inside = c.self.inside in
    let job = c.begin-2.result in
    let room = c.make_room.new.kept.room in
    let own : job.command ≡ c.args.job.command = ap (λ (j : RunningJob). j.command) c.begin-2.ensures in
    let same : c.command.result.now ≡ job.command = c.command.ensures ∙ sym own in
    let again : c.command-2.result.now ≡ job.command = c.command-2.ensures ∙ sym own in
    let begun_sound : IsSound g.row.N room c.begin.new.self (record p { running = Some job }) =
    sound-begun g.row.N _ _ p c.self.invariant.0 room c.begin.new.self job
    (search rules) (search rules) (search rules) (ap (λ (j : RunningJob). j.slices) c.begin-2.ensures) c.begin.ensures.layout
    (rw same at c.in_default.ensures.begun) (rw same at (c.in_default.ensures.under_way job.edition))
    (rw again at c.in_default-make_room.ensures.room)
    (subst (λ (j : RunningJob). may_run (replays p) j.edition ≡ true) (sym c.begin-2.ensures)
    (subst (λ (q : PartitionState). may_run (replays q) c.args.job.edition ≡ true) (sym c.self.view_is) c.requires.edition)) in
    subst (λ (list : KeptState Commit).
    (λ (q : PartitionState). IsSound g.row.N list.room c.begin.new.self q × IsTied g.K.Loaded.load g.K.World.passes list inside.desk q)
    (with_list (record p {
      load = c.begin.new.self.layout.load;
      warehouse = c.begin.new.self.layout.warehouse;
      running = c.put.new.place;
    }) list))
    (sym c.make_room.ensures.kept)
    (relaid (λ q. IsSound g.row.N room c.begin.new.self q
    × IsTied g.K.Loaded.load g.K.World.passes (record inside.kept { room = room }) inside.desk q) (record p { running = c.put.new.place })
    c.begin.new.self.layout c.begin.ensures.layout
    (subst (λ (place : Option RunningJob). IsSound g.row.N room c.begin.new.self (record p { running = place })
    × IsTied g.K.Loaded.load g.K.World.passes (record inside.kept { room = room }) inside.desk (record p { running = place }))
    (sym c.put.ensures) (
      begun_sound,
      tied-same g.K.Loaded.load g.K.World.passes inside.kept inside.desk p c.self.invariant.1 room (Some job) p.undo p.finished p.space,
    )))
