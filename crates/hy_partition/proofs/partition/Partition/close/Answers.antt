use Rattle.std.proofs.Common.{◌≡◌, ℕ, zero, suc, ◌<◌, true, List, [], ◌∷◌, length, Option, None, Some, refl, ap, ◌∙◌, subst, arith, get_or-set_other}
use Rattle.std.specs.Prelude.{IsSome, slice_index_or, slice_set}
use Rattle.std.specs.Option.{option_map}
use Rattle.hy_space.specs.Space.{table_bytes}
use Rattle.hy_undo.proofs.PrivatePageLaws.{IsUndoLog-kept, KeepsPages-unseen}
use Rattle.std.specs.Prelude.{◌≢◌, ◌==◌, ◌&&◌}
use Rattle.std.proofs.Common.{sym, true≢false}
use Rattle.hy_worlds.specs.Origins.{desk_of}
use Rattle.hy_tickets.specs.Desks.{DeskState, TicketState, is_from as from_desk, without}
use Rattle.hy_partition.specs.Partition.{PartitionState, commits_of}
use Rattle.hy_partition.specs.Snapshots.{SnapshotState, ticket_of}
use Rattle.hy_partition.specs.inside.Soundness.{IsTied}
use Rattle.hy_partition.specs.Steps.{Closes}
use Rattle.hy_partition.specs.inside.Views.{partition_of}
use Rattle.hy_partition.proofs.SoundLaws.{child_open, emptied, sound-closed}
use Rattle.hy_partition.proofs.TieLaws.{tied-closed}
use Rattle.hy_partition.proofs.partition.Partition.close.Goals as goal

-- a place of a list of options with a value is within the list
place_there : (items : List (Option ℕ)) (place item : ℕ) → slice_index_or items place None ≡ Some item → place < length items
place_there [] place item is = absurd (cc)
place_there (first ∷ items) zero item is = omega arith
place_there (first ∷ items) (suc place) item is = omega (arith, place_there items place item is)

-- a ticket with the warehouse and the name of the kit
from-here : (ticket : TicketState) (snapshot : SnapshotState) (here warehouse name : ℕ) → ticket ≡ ticket_of snapshot
    → here ≡ warehouse → from_desk ticket here name ≡ true
    → (snapshot.warehouse == warehouse) && (snapshot.name == name) ≡ true
from-here ticket snapshot here warehouse name is same said =
    ap (λ (t : TicketState). (t.warehouse == warehouse) && (t.name == name)) (sym is)
    ∙ ap (λ number. (ticket.warehouse == number) && (ticket.name == name)) (sym same) ∙ said

pub take_back-child-requires : goal.take_back-child-requires
take_back-child-requires g c =
    let p : PartitionState = partition_of c.self.inside in
    let same : p.warehouse ≡ c.args.self.now.warehouse = ap (λ (q : PartitionState). q.warehouse) c.self.view_is in
    let here : c.self.inside.desk.warehouse ≡ c.args.self.now.warehouse = c.self.invariant.1.desk_of ∙ same in
    let said = from-here c.ticket.result.now c.args.snapshot c.self.inside.desk.warehouse c.args.self.now.warehouse
    g.K.World.passes.name c.ticket.ensures here (sym c.is_from_here.ensures ∙ c.if-not-is_from_here.false) in
    ap (λ (t : TicketState). t.desk) c.spend.ensures ∙ c.requires said ∙ ap (desk_of g.K.World.passes) (sym here)

some-open : (o : Option ℕ) → IsSome o → (count : ℕ) × (o ≡ Some count)
some-open None never = absurd (true≢false (sym never))
some-open (Some count) there = (count, refl)

pub close-requires : goal.close-requires
close-requires g c =
    let p : PartitionState = partition_of c.self.inside in
    let is_open = some-open (commits_of p c.take_back-child.result)
    (subst (λ child. IsSome (commits_of p child)) (sym c.take_back-child.ensures.number)
    (c.self.invariant.1.tickets c.spend.result.number c.take_back-child.ensures.was_out)) in
    (omega arith, child_open g.row.N _ _ p c.self.invariant.0 c.take_back-child.result is_open.0 is_open.1)

-- the child of a snapshot that is open has its place
pub index_mut-requires : goal.index_mut-requires
index_mut-requires g c =
    let p : PartitionState = partition_of c.self.inside in
    let is_open = some-open (commits_of p c.take_back-child.result)
    (subst (λ child. IsSome (commits_of p child)) (sym c.take_back-child.ensures.number)
    (c.self.invariant.1.tickets c.spend.result.number c.take_back-child.ensures.was_out)) in
    omega (arith, place_there c.self.inside.snapshots.items c.take_back-child.result is_open.0 is_open.1)

pub invariant_of-self : goal.invariant_of-self
invariant_of-self g c =
    let p : PartitionState = partition_of c.self.inside in
    let inside = c.self.inside in
    let child = c.take_back-child.result in
    let pages = KeepsPages-unseen p.space c.close.new.self c.close.ensures.owner.bytes c.close.ensures.kept in
    let others : (other : ℕ) → other ≢ child
    → slice_index_or (slice_set inside.snapshots.items child None) other None ≡ commits_of p other =
    λ other apart. get_or-set_other inside.snapshots.items child other None None apart in
    let desk : c.take_back-child.new.self ≡ record inside.desk { out = without inside.desk.out child } =
    c.take_back-child.ensures.desk ∙ ap (λ number. record inside.desk { out = without inside.desk.out number })
    (sym c.take_back-child.ensures.number) in (
      sound-closed g.row.N _ _ p c.self.invariant.0 c.close.new.self _ child c.close.ensures.owner c.close.ensures.others
          (IsUndoLog-kept g.row.N p.space c.close.new.self p.undo pages c.self.invariant.0.undo_log)
          (ap (option_map (table_bytes c.close.new.self.frames)) c.close.ensures.closed)
          (emptied inside.snapshots.items child) others,
      subst (λ (desk : DeskState). IsTied g.K.Loaded.load g.K.World.passes inside.kept desk
          (record p { space = c.close.new.self; snapshots = slice_set inside.snapshots.items child None })) (sym desk)
          (tied-closed g.K.Loaded.load g.K.World.passes inside.kept inside.desk p c.self.invariant.1 c.close.new.self
          (slice_set inside.snapshots.items child None) child others),
    )

pub returns-clause-closes : goal.returns-clause-closes
returns-clause-closes g c =
    let p : PartitionState = partition_of c.self.inside in
    let child = c.take_back-child.result in
    let is_open = some-open (commits_of p child) (subst (λ child. IsSome (commits_of p child)) (sym c.take_back-child.ensures.number)
    (c.self.invariant.1.tickets c.spend.result.number c.take_back-child.ensures.was_out)) in
    let after : PartitionState = record p { space = c.close.new.self; snapshots = slice_set c.self.inside.snapshots.items child None } in
    let closes : Closes p after child = record {
      was_open = is_open;
      bytes = ap (option_map (table_bytes c.close.new.self.frames)) c.close.ensures.closed;
      commits = emptied c.self.inside.snapshots.items child;
      users = c.close.ensures.users;
      seen = refl;
      max_frames = c.close.ensures.users.limit;
      job = record {
        terms = refl;
        kept = refl;
        book = refl;
        running = refl;
        part = refl;
        undo = refl;
        finished = refl;
        owner = c.close.ensures.owner;
      };
      others = record { bytes = c.close.ensures.others; commits = λ other apart. get_or-set_other c.self.inside.snapshots.items child other None None apart };
    } in
    subst (λ (old : PartitionState). Closes old after c.args.snapshot.child) c.self.view_is
    (subst (λ (number : ℕ). Closes p after number)
    (c.take_back-child.ensures.number ∙ ap (λ (t : TicketState). t.number) c.spend.ensures) closes)
