use Rattle.std.proofs.Common.{◌≡◌, ℕ, List, [], Some, None, ap, refl, ◌∙◌, sym, subst, length, arith}
use Rattle.std.specs.Arc.{arc_value}
use Rattle.std.specs.Prelude.{slice_index_or}
use Rattle.hy_passes.specs.Worlds.{KeptState}
use Rattle.hy_commands.specs.declared.command.Commit.{Commit}
use Rattle.hy_partition.specs.Partition.{PartitionState, commits_of, projection_of}
use Rattle.std.specs.Prelude.{◌≢◌}
use Rattle.hy_worlds.specs.Origins.{desk_of}
use Rattle.hy_tickets.specs.Desks.{DeskState, TicketState}
use Rattle.hy_partition.specs.Jobs.{Log}
use Rattle.hy_partition.specs.Snapshots.{SnapshotState, snapshot_of}
use Rattle.hy_partition.specs.inside.Soundness.{IsSound, IsTied}
use Rattle.hy_partition.specs.Steps.{Forks, StaysUnforked}
use Rattle.hy_partition.specs.inside.Views.{partition_of}
use Rattle.hy_partition.proofs.SoundLaws.{least_within, snapshot_fresh, sound-told}
use Rattle.hy_partition.proofs.ForkLaws.{begins_from_nothing, forks, sound-as_before, sound-opened, sound-unforked, stays-as_before, stays-same, stays_unforked, taken_behind}
use Rattle.hy_partition.proofs.TieLaws.{free_number, tied-opened, tied-unforked}
use Rattle.hy_partition.proofs.partition.Partition.fork_untold.Goals as goal

pub returns-then-is_err-clause-err : goal.returns-then-is_err-clause-err
returns-then-is_err-clause-err g c =
    let p : PartitionState = partition_of c.self.inside in
    let after : PartitionState = record p { snapshots = c.reserve.new.self.items } in
    subst (λ (old : PartitionState). StaysUnforked old after) c.self.view_is
    (stays-same p c.self.inside.space c.reserve.new.self.items refl c.reserve.ensures.items)

pub invariant_of-self-in_default-fork : goal.invariant_of-self-in_default-fork
invariant_of-self-in_default-fork g c = (
  sound-as_before g.row.N _ _ (partition_of c.self.inside) c.self.invariant.0 c.fork.new.space c.in_default-fork.ensures.err
      c.reserve.new.self.items c.reserve.ensures.items,
  tied-unforked g.K.Loaded.load g.K.World.passes c.self.inside.kept c.self.inside.desk (partition_of c.self.inside) c.self.invariant.1 c.fork.new.space c.reserve.new.self.items c.reserve.ensures.items,
)

pub returns-in_default-fork-clause-err : goal.returns-in_default-fork-clause-err
returns-in_default-fork-clause-err g c =
    let p : PartitionState = partition_of c.self.inside in
    let after : PartitionState = record p { space = c.fork.new.space; snapshots = c.reserve.new.self.items } in
    subst (λ (old : PartitionState). StaysUnforked old after) c.self.view_is
    (stays-as_before g.row.N _ _ p c.self.invariant.0 c.fork.new.space c.in_default-fork.ensures.err
    c.reserve.new.self.items c.reserve.ensures.items c.in_default-fork.ensures.limit)

pub invariant_of-self-in_default-of : goal.invariant_of-self-in_default-of
invariant_of-self-in_default-of g c =
    let child = c.in-Ok-fork.ensures in (
      sound-unforked g.row.N _ _ (partition_of c.self.inside) c.self.invariant.0 c.fork.new.space c.of.new.space c.in-Ok-fork.child child.least child.bytes child.others child.owner child.undo_log
          c.of.ensures.unchanged c.of.ensures.own c.close.new.self c.close.ensures.closed c.close.ensures.others c.close.ensures.owner c.close.ensures.kept
          c.reserve.new.self.items c.reserve.ensures.items,
      tied-unforked g.K.Loaded.load g.K.World.passes c.self.inside.kept c.self.inside.desk (partition_of c.self.inside) c.self.invariant.1 c.close.new.self c.reserve.new.self.items c.reserve.ensures.items,
    )

pub returns-in_default-of-clause-err : goal.returns-in_default-of-clause-err
returns-in_default-of-clause-err g c =
    let child = c.in-Ok-fork.ensures in
    let p : PartitionState = partition_of c.self.inside in
    let stays : StaysUnforked p (record p { space = c.close.new.self; snapshots = c.reserve.new.self.items }) =
    stays_unforked g.row.N _ _ p c.self.invariant.0 c.fork.new.space c.of.new.space c.in-Ok-fork.child child.least child.bytes child.others child.owner child.undo_log
    c.of.ensures.unchanged c.of.ensures.own c.close.new.self c.close.ensures.closed c.close.ensures.others c.close.ensures.owner c.close.ensures.kept
    c.reserve.new.self.items c.reserve.ensures.items child.users child.limit c.close.ensures.users in
    subst (λ (old : PartitionState). StaysUnforked old (record p { space = c.close.new.self; snapshots = c.reserve.new.self.items })) c.self.view_is stays

pub open_snapshot-requires-clause-within : goal.open_snapshot-requires-clause-within
open_snapshot-requires-clause-within g c =
    let within = least_within g.row.N _ _ (partition_of c.self.inside) c.self.invariant.0 c.in-Ok-fork.child c.in-Ok-fork.ensures.least in
    omega (arith, within, ap length c.reserve.ensures.items)

pub give-ticket-requires : goal.give-ticket-requires
give-ticket-requires g c =
    let p : PartitionState = partition_of c.self.inside in
    free_number g.K.Loaded.load g.K.World.passes c.self.inside.kept c.self.inside.desk p c.self.invariant.1 c.in-Ok-fork.child
    (snapshot_fresh g.row.N _ _ p c.self.invariant.0 c.in-Ok-fork.child c.in-Ok-fork.ensures.least.closed)

pub new-requires : goal.new-requires
new-requires g c =
    let child = c.in-Ok-fork.ensures in
    let p : PartitionState = partition_of c.self.inside in
    let list : KeptState Commit = c.tell.new.self in
    let layout : c.layout-layout.result.now ≡ c.self.inside.executor.layout = c.layout-layout.ensures in
    let load : c.in-Ok.load ≡ p.load = c.in-Ok.ensures ∙ c.load.ensures ∙ ap (λ l. l.load) layout in
    let still : projection_of list.warehouse list.seen ≡ p.kept =
    ap (λ warehouse. projection_of warehouse list.seen) c.tell.ensures.same.0 ∙ c.tell.ensures.kept in
    let count : length c.list.result.now ≡ length p.kept = ap length (c.list.ensures ∙ still) in
    let taken = taken_behind g.row.N _ _ p c.self.invariant.0 c.fork.new.space c.of.new.space c.in-Ok-fork.child child.least child.bytes child.others child.owner child.undo_log
    c.of.ensures.unchanged c.of.ensures.own c.sound.ensures
    (snapshot_of c.in-Ok.load c.give-ticket.result (length c.list.result.now) (arc_value c.in-Ok-of.shared)) load
    (ap (λ (t : TicketState). t.warehouse) c.give-ticket.ensures.ticket ∙ c.self.invariant.1.desk_of) count
    (c.in-Ok-of.ensures.kept ∙ c.noted-kept.ensures) c.in-Ok-of.ensures.holds in
    (omega arith, (omega arith, taken))

pub invariant_of-self-2 : goal.invariant_of-self-2
invariant_of-self-2 g c =
    let child = c.in-Ok-fork.ensures in
    let p : PartitionState = partition_of c.self.inside in
    let inside = c.self.inside in
    let list : KeptState Commit = c.tell.new.self in
    let still : projection_of list.warehouse list.seen ≡ p.kept =
    ap (λ warehouse. projection_of warehouse list.seen) c.tell.ensures.same.0 ∙ c.tell.ensures.kept in
    let count : length c.list.result.now ≡ length p.kept = ap length (c.list.ensures ∙ still) in
    let opened = c.open_snapshot.ensures.opened ∙ ap Some count in
    let others : (other : ℕ) → other ≢ c.in-Ok-fork.child
    → slice_index_or c.open_snapshot.new.snapshots.items other None ≡ commits_of p other =
    λ other apart. c.open_snapshot.ensures.others other apart ∙ ap (λ items. slice_index_or items other None) c.reserve.ensures.items in
    let sound : IsSound g.row.N inside.kept.room inside.executor
    (record p { space = c.of.new.space; snapshots = c.open_snapshot.new.snapshots.items }) =
    sound-opened g.row.N _ _ p c.self.invariant.0 c.fork.new.space c.of.new.space c.in-Ok-fork.child child.least child.bytes child.others child.owner child.undo_log
    c.of.ensures.unchanged c.of.ensures.own c.open_snapshot.new.snapshots.items opened others in (
      subst (λ (room : ℕ). IsSound g.row.N room inside.executor (record p {
        seen = list.seen;
        kept = projection_of list.warehouse list.seen;
        space = c.of.new.space;
        snapshots = c.open_snapshot.new.snapshots.items;
      })) (sym c.tell.ensures.same.1)
          (sound-told g.row.N _ _ (record p { space = c.of.new.space; snapshots = c.open_snapshot.new.snapshots.items }) sound
          list.seen (projection_of list.warehouse list.seen) still),
      subst (λ (desk : DeskState). IsTied g.K.Loaded.load g.K.World.passes list desk (record p {
        seen = list.seen;
        kept = projection_of list.warehouse list.seen;
        space = c.of.new.space;
        snapshots = c.open_snapshot.new.snapshots.items;
      })) (sym c.give-ticket.ensures.desk)
          (tied-opened g.K.Loaded.load g.K.World.passes inside.kept inside.desk p c.self.invariant.1 list
          (projection_of list.warehouse list.seen) c.of.new.space c.open_snapshot.new.snapshots.items c.in-Ok-fork.child
          (length p.kept) c.tell.ensures.same.0 still opened others),
    )

pub returns-clause-forks : goal.returns-clause-forks
returns-clause-forks g c =
    let child = c.in-Ok-fork.ensures in
    let p : PartitionState = partition_of c.self.inside in
    let list : KeptState Commit = c.tell.new.self in
    let log = c.args.journal.now.list.log in
    let still : projection_of list.warehouse list.seen ≡ p.kept =
    ap (λ warehouse. projection_of warehouse list.seen) c.tell.ensures.same.0 ∙ c.tell.ensures.kept in
    let count : length c.list.result.now ≡ length p.kept = ap length (c.list.ensures ∙ still) in
    let is = c.new.ensures in
    let layout : c.layout-layout.result.now ≡ c.self.inside.executor.layout = c.layout-layout.ensures in
    let load : c.in-Ok.load ≡ p.load = c.in-Ok.ensures ∙ c.load.ensures ∙ ap (λ l. l.load) layout in
    let ticket = c.give-ticket.ensures.ticket in
    let desk : c.self.inside.desk.warehouse ≡ p.warehouse = c.self.invariant.1.desk_of in
    let all : p.kept ≡ projection_of p.warehouse log =
    sym still ∙ ap (λ warehouse. projection_of warehouse list.seen) (c.tell.ensures.same.0 ∙ c.self.invariant.1.list_of)
    ∙ ap (projection_of p.warehouse) c.tell.ensures.seen.0 in
    let after : PartitionState = record p { seen = log; space = c.of.new.space; snapshots = c.open_snapshot.new.snapshots.items } in
    let done : Forks g.row.N g.K.World.passes log [] p after c.new.result =
    forks g.row.N _ _ p c.self.invariant.0 c.fork.new.space c.of.new.space c.in-Ok-fork.child child.least child.bytes child.others child.owner child.undo_log
    c.of.ensures.unchanged c.of.ensures.own g.K.World.passes log []
    c.open_snapshot.new.snapshots.items c.new.result
    (c.open_snapshot.ensures.opened ∙ ap Some count)
    (λ other apart. c.open_snapshot.ensures.others other apart ∙ ap (λ items. slice_index_or items other None) c.reserve.ensures.items)
    child.free child.limit (ap (λ (s : SnapshotState). s.load) is ∙ load)
    (ap (λ (s : SnapshotState). s.warehouse) is ∙ ap (λ (t : TicketState). t.warehouse) ticket ∙ desk)
    (ap (λ (s : SnapshotState). s.name) is ∙ ap (λ (t : TicketState). t.name) ticket)
    (ap (λ (s : SnapshotState). s.desk) is ∙ ap (λ (t : TicketState). t.desk) ticket
    ∙ ap (λ warehouse. desk_of g.K.World.passes warehouse) desk)
    (ap (λ (s : SnapshotState). s.child) is ∙ ap (λ (t : TicketState). t.number) ticket)
    (ap (λ (s : SnapshotState). s.commits) is ∙ count)
    (ap (λ (s : SnapshotState). s.kept) is ∙ c.in-Ok-of.ensures.kept ∙ c.noted-kept.ensures)
    (c.in-Ok-of.ensures.holds ∙ ap (λ (s : SnapshotState). Some s.bytes) (sym is))
    c.tell.ensures.seen.1 (begins_from_nothing log) all in
    subst (λ (old : PartitionState). Forks g.row.N g.K.World.passes log [] old
    (record p {
      seen = list.seen;
      kept = projection_of list.warehouse list.seen;
      space = c.of.new.space;
      snapshots = c.open_snapshot.new.snapshots.items;
    }) c.new.result) c.self.view_is
    (subst (λ (kept : List Commit). Forks g.row.N g.K.World.passes log [] p
    (record p { seen = list.seen; kept = kept; space = c.of.new.space; snapshots = c.open_snapshot.new.snapshots.items })
    c.new.result) (sym still)
    (subst (λ (seen : Log). Forks g.row.N g.K.World.passes log [] p
    (record p { seen = seen; space = c.of.new.space; snapshots = c.open_snapshot.new.snapshots.items }) c.new.result)
    (sym c.tell.ensures.seen.0) done))
