use Rattle.std.proofs.Common.{◌≡◌, ◌<◌, List, length, lit<, refl, subst, sym, true}
use Rattle.std.proofs.lemmas.Bool.{false≢true}
use Rattle.hy_session.specs.of_partition.Snapshots.{SnapshotState}
use Rattle.hy_session.specs.of_crossing.Lists.{Pairwise}
use Rattle.hy_session.specs.of_forks.Forks.{AreOfKit, ClosesHere, are_from}
use Rattle.hy_session.proofs.of_crossing.PlaceLaws.{get-at}
use Rattle.hy_script.specs.Databases.{DatabaseState}
use Rattle.hy_script.specs.Steps.{ClosesAt}
use Rattle.hy_script.specs.inside.Invariants.{IsTaken}
use Rattle.hy_script.proofs.DatabaseLaws.{served-pairs}
use Rattle.hy_script.proofs.ListLaws.{All-remove}
use Rattle.hy_script.proofs.SnapshotLaws.{keeps-closed, taken-at}
use Rattle.hy_script.proofs.database.Database.close.Goals as goal

pub close_all-requires : goal.close_all-requires
close_all-requires g c =
    let held = c.self.inside.snapshots.items in
    let within : c.args.place < length held =
    subst (λ (now : DatabaseState). c.args.place < length now.snapshots) (sym c.self.view_is) c.requires in
    let taken = taken-at g.K.World.passes g.K.Loaded.load held c.args.place c.remove.result within
    c.remove.ensures.value c.self.invariant.taken in (
      lit< tt,
      (
        lit< tt,
        subst (λ (it : List SnapshotState). AreOfKit g.K.World.passes it) (sym c.into_session-session.ensures)
            taken.of_kit,
      ),
    )

pub unreachable-requires : goal.unreachable-requires
unreachable-requires g c =
    let kit = g.K.World.passes in
    let parts = c.self.inside.partitions in
    let held = c.self.inside.snapshots.items in
    let within : c.args.place < length held =
    subst (λ (now : DatabaseState). c.args.place < length now.snapshots) (sym c.self.view_is) c.requires in
    let taken = taken-at kit g.K.Loaded.load held c.args.place c.remove.result within c.remove.ensures.value
    c.self.invariant.taken in
    false≢true (c.in-Err.ensures.mine.1 (subst (λ (it : List SnapshotState). are_from kit it parts ≡ true)
    (sym c.into_session-session.ensures) (taken.mine parts c.sound.ensures.partitions)))

pub invariant_of-self : goal.invariant_of-self
invariant_of-self g c =
    let olds = c.self.inside.partitions in
    let news = c.close_all.new.partitions in
    let held = c.self.inside.snapshots.items in
    let within : c.args.place < length held =
    subst (λ (now : DatabaseState). c.args.place < length now.snapshots) (sym c.self.view_is) c.requires in
    record {
      served = served-pairs 1 olds news c.self.inside.terminals.items
          (keeps-closed c.into_session-session.result olds news c.in-Ok.ensures.closes) c.self.invariant.served;
      taken = rw c.remove.ensures.items
          (All-remove (IsTaken g.K.World.passes g.K.Loaded.load) held c.args.place within c.self.invariant.taken);
      pass_is = c.self.invariant.pass_is;
    }

pub returns-clause-closes : goal.returns-clause-closes
returns-clause-closes g c =
    let olds = c.self.inside.partitions in
    let news = c.close_all.new.partitions in
    let held = c.self.inside.snapshots.items in
    let within : c.args.place < length held =
    subst (λ (now : DatabaseState). c.args.place < length now.snapshots) (sym c.self.view_is) c.requires in
    let new : DatabaseState = record {
      parts = news;
      snapshots = c.remove.new.self.items;
      log = c.self.inside.journal.list.log;
    } in
    subst (λ (now : DatabaseState). ClosesAt c.args.place now new) c.self.view_is (record {
      snapshot = c.remove.result;
      there = get-at held c.args.place c.remove.result within c.remove.ensures.value;
      closes = subst (λ (it : List SnapshotState). Pairwise (ClosesHere it) 1 olds news)
          c.into_session-session.ensures c.in-Ok.ensures.closes;
      snapshots = c.remove.ensures.items;
      log = refl;
    })
