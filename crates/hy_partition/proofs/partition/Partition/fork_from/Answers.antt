use Rattle.std.proofs.Common.{◌≡◌, ◌∙◌, ◌≢◌, ℕ, None, Some, true, is_some, ap, arith, length, refl, subst, sym}
use Rattle.std.specs.Arc.{arc_value}
use Rattle.std.specs.Prelude.{slice_index_or}
use Rattle.hy_worlds.specs.Origins.{desk_of}
use Rattle.hy_tickets.specs.Desks.{DeskState, TicketState}
use Rattle.hy_partition.specs.Partition.{PartitionState, commits_of}
use Rattle.hy_partition.specs.Snapshots.{PagesState, SnapshotState, snapshot_of}
use Rattle.hy_partition.specs.Steps.{ForksFrom, StaysUnforked, is_from}
use Rattle.hy_partition.specs.inside.Soundness.{IsTied}
use Rattle.hy_partition.specs.inside.Views.{partition_of}
use Rattle.hy_partition.proofs.SoundLaws.{child_open, least_within, snapshot_fresh}
use Rattle.hy_partition.proofs.ForkLaws.{forks-from, sound-again, stays-same, taken-again, warehouse-from}
use Rattle.hy_partition.proofs.TieLaws.{free_number, tied-opened}
use Rattle.hy_partition.proofs.partition.Partition.fork_from.Goals as goal

pub returns-then-is_err-clause-err : goal.returns-then-is_err-clause-err
returns-then-is_err-clause-err g c =
    let p : PartitionState = partition_of c.self.inside in
    let after : PartitionState = record p { snapshots = c.reserve.new.self.items } in
    subst (λ (old : PartitionState). StaysUnforked old after) c.self.view_is
    (stays-same p c.self.inside.space c.reserve.new.self.items refl c.reserve.ensures.items)

-- the number is that of an open snapshot, whose child is open
pub fork_child-requires : goal.fork_child-requires
fork_child-requires g c =
    let p : PartitionState = partition_of c.self.inside in
    let first = c.number.ensures ∙ ap (λ (t : TicketState). t.number) c.ticket.ensures in
    let second = c.number-2.ensures ∙ ap (λ (t : TicketState). t.number) c.ticket-2.ensures in
    let is_open : commits_of p c.number-2.result ≡ Some c.in-Some.count =
    ap (λ child. commits_of p child) (second ∙ sym first) ∙ sym c.in-Some.ensures in
    (omega arith, child_open g.row.N _ _ p c.self.invariant.0 c.number-2.result c.in-Some.count is_open)

pub returns-in_default-fork_child-clause-err : goal.returns-in_default-fork_child-clause-err
returns-in_default-fork_child-clause-err g c =
    let p : PartitionState = partition_of c.self.inside in
    let after : PartitionState = record p { space = c.fork_child.new.self; snapshots = c.reserve.new.self.items } in
    subst (λ (old : PartitionState). StaysUnforked old after) c.self.view_is
    (stays-same p c.fork_child.new.self c.reserve.new.self.items c.in_default-fork_child.ensures.err
    c.reserve.ensures.items)

pub open_snapshot-requires-clause-within : goal.open_snapshot-requires-clause-within
open_snapshot-requires-clause-within g c =
    let within = least_within g.row.N _ _ (partition_of c.self.inside) c.self.invariant.0 c.in-Ok-fork_child.child
    c.in-Ok-fork_child.ensures.least in
    omega (arith, within, ap length c.reserve.ensures.items)

pub give-own-requires : goal.give-own-requires
give-own-requires g c =
    let p : PartitionState = partition_of c.self.inside in
    free_number g.K.Loaded.load g.K.World.passes c.self.inside.kept c.self.inside.desk p c.self.invariant.1 c.in-Ok-fork_child.child
    (snapshot_fresh g.row.N _ _ p c.self.invariant.0 c.in-Ok-fork_child.child c.in-Ok-fork_child.ensures.least.closed)

pub new-requires : goal.new-requires
new-requires g c =
    let p : PartitionState = partition_of c.self.inside in
    let kit = g.K.World.passes in
    let from : SnapshotState = c.args.snapshot.now in
    let mine : is_from from p.warehouse kit ≡ true =
    ap (λ (now : PartitionState). is_from from now.warehouse kit) c.self.view_is ∙ sym c.is_mine.ensures
    ∙ c.if-not-is_mine.false in
    let pages = c.in-Ok.ensures.pages in
    let taken = taken-again g.row.N from
    (snapshot_of c.in-Ok.load c.give-own.result c.commits.result (arc_value c.in-Ok.shared)) c.in-Ok.ensures.taken
    c.in-Ok.ensures.load
    (ap (λ (t : TicketState). t.warehouse) c.give-own.ensures.ticket ∙ c.self.invariant.1.desk_of
    ∙ sym (warehouse-from kit from p.warehouse mine)) c.commits.ensures (ap (λ (s : PagesState). s.kept) pages)
    (ap (λ (s : PagesState). s.bytes) pages) in
    (omega arith, (omega arith, taken))

pub invariant_of-self-2 : goal.invariant_of-self-2
invariant_of-self-2 g c =
    let p : PartitionState = partition_of c.self.inside in
    let child = c.in-Ok-fork_child.ensures in
    let snapshots = c.open_snapshot.new.snapshots.items in
    let first = c.number.ensures ∙ ap (λ (t : TicketState). t.number) c.ticket.ensures in
    let second = c.number-2.ensures ∙ ap (λ (t : TicketState). t.number) c.ticket-2.ensures in
    let is_open : commits_of p c.number-2.result ≡ Some c.in-Some.count =
    ap (λ child. commits_of p child) (second ∙ sym first) ∙ sym c.in-Some.ensures in
    let others : (other : ℕ) → other ≢ c.in-Ok-fork_child.child → slice_index_or snapshots other None ≡ commits_of p other =
    λ other apart. c.open_snapshot.ensures.others other apart
    ∙ ap (λ items. slice_index_or items other None) c.reserve.ensures.items in (
      sound-again g.row.N _ _ p c.self.invariant.0 c.fork_child.new.self c.in-Ok-fork_child.child c.number-2.result
          child.bytes child.others child.owner child.kept snapshots
          (c.open_snapshot.ensures.opened ∙ sym is_open) others,
      subst (λ (desk : DeskState). IsTied g.K.Loaded.load g.K.World.passes c.self.inside.kept desk
          (record p { space = c.fork_child.new.self; snapshots = snapshots })) (sym c.give-own.ensures.desk)
          (tied-opened g.K.Loaded.load g.K.World.passes c.self.inside.kept c.self.inside.desk p c.self.invariant.1 c.self.inside.kept
          p.kept c.fork_child.new.self snapshots c.in-Ok-fork_child.child c.in-Some.count refl refl
          c.open_snapshot.ensures.opened others),
    )

pub returns-clause-forks : goal.returns-clause-forks
returns-clause-forks g c =
    let p : PartitionState = partition_of c.self.inside in
    let kit = g.K.World.passes in
    let from : SnapshotState = c.args.snapshot.now in
    let child = c.in-Ok-fork_child.ensures in
    let snapshots = c.open_snapshot.new.snapshots.items in
    let mine : is_from from p.warehouse kit ≡ true =
    ap (λ (now : PartitionState). is_from from now.warehouse kit) c.self.view_is ∙ sym c.is_mine.ensures
    ∙ c.if-not-is_mine.false in
    let first = c.number.ensures ∙ ap (λ (t : TicketState). t.number) c.ticket.ensures in
    let second = c.number-2.ensures ∙ ap (λ (t : TicketState). t.number) c.ticket-2.ensures in
    let is_open : commits_of p c.number-2.result ≡ Some c.in-Some.count =
    ap (λ child. commits_of p child) (second ∙ sym first) ∙ sym c.in-Some.ensures in
    let others : (other : ℕ) → other ≢ c.in-Ok-fork_child.child → slice_index_or snapshots other None ≡ commits_of p other =
    λ other apart. c.open_snapshot.ensures.others other apart
    ∙ ap (λ items. slice_index_or items other None) c.reserve.ensures.items in
    let is = c.new.ensures in
    let ticket = c.give-own.ensures.ticket in
    let here = c.self.invariant.1.desk_of in
    let pages = c.in-Ok.ensures.pages in
    let after : PartitionState = record p { space = c.fork_child.new.self; snapshots = snapshots } in
    subst (λ (old : PartitionState). ForksFrom kit from old after c.new.result) c.self.view_is
    (forks-from g.row.N _ _ p c.self.invariant.0 c.fork_child.new.self c.in-Ok-fork_child.child c.number-2.result
    child.bytes child.others child.owner child.kept snapshots (c.open_snapshot.ensures.opened ∙ sym is_open) others kit
    from c.new.result mine (sym second) (ap is_some is_open) child.least child.table child.users
    (ap (λ (s : SnapshotState). s.load) is ∙ c.in-Ok.ensures.load)
    (ap (λ (s : SnapshotState). s.warehouse) is ∙ ap (λ (t : TicketState). t.warehouse) ticket ∙ here)
    (ap (λ (s : SnapshotState). s.name) is ∙ ap (λ (t : TicketState). t.name) ticket)
    (ap (λ (s : SnapshotState). s.desk) is ∙ ap (λ (t : TicketState). t.desk) ticket
    ∙ ap (λ warehouse. desk_of kit warehouse) here)
    (ap (λ (s : SnapshotState). s.child) is ∙ ap (λ (t : TicketState). t.number) ticket)
    (ap (λ (s : SnapshotState). s.commits) is ∙ c.commits.ensures)
    (ap (λ (s : SnapshotState). s.kept) is ∙ ap (λ (s : PagesState). s.kept) pages)
    (ap (λ (s : SnapshotState). s.bytes) is ∙ ap (λ (s : PagesState). s.bytes) pages))
