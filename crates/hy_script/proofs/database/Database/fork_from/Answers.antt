use Rattle.std.proofs.Common.{◌≡◌, ◌∙◌, ◌<◌, ◌++◌, ◌∷◌, [], List, Err, true, length, map, slice_index_or, ap, subst, sym}
use Rattle.std.proofs.lemmas.List.Elements.{All-push}
use Rattle.hy_session.specs.of_partition.Snapshots.{SnapshotState}
use Rattle.hy_session.specs.of_crossing.Lists.{Pairwise}
use Rattle.hy_session.specs.of_forks.Forks.{ForksAllFrom, IsUnforkedUntold, are_from, shown}
use Rattle.hy_session.proofs.of_crossing.PlaceLaws.{get-at}
use Rattle.hy_session.proofs.of_forks.AgainLaws.{all-untold-same}
use Rattle.hy_script.specs.Databases.{DatabaseState, OpenSnapshot}
use Rattle.hy_script.specs.Steps.{OpensFrom}
use Rattle.hy_script.specs.inside.Invariants.{IsTaken}
use Rattle.hy_script.proofs.DatabaseLaws.{served-pairs}
use Rattle.hy_script.proofs.ResultLaws.{on_err}
use Rattle.hy_script.proofs.SnapshotLaws.{just-taken, keeps-forked_from, keeps-untold, own-memory, taken-at}
use Rattle.hy_script.proofs.database.Database.fork_from.Goals as goal

pub returns-in_err-copy-clause-stays : goal.returns-in_err-copy-clause-stays
returns-in_err-copy-clause-stays g c = on_err c.from_residual.result (all-untold-same c.args.self.now.parts)

pub returns-in_err-reserve-clause-stays : goal.returns-in_err-reserve-clause-stays
returns-in_err-reserve-clause-stays g c =
    let parts = c.self.inside.partitions in
    on_err c.from_residual-in_err-reserve.result
    (subst (λ (now : DatabaseState). Pairwise (λ number. IsUnforkedUntold) 1 now.parts parts) c.self.view_is
    (all-untold-same parts))

pub invariant_of-self-in-Err-1 : goal.invariant_of-self-in-Err-1
invariant_of-self-in-Err-1 g c =
    let olds = c.self.inside.partitions in
    let news = c.fork.new.partitions in
    record {
      served = served-pairs 1 olds news c.self.inside.terminals.items
          (keeps-untold olds news c.in-Err.ensures.err) c.self.invariant.served;
      taken = rw c.reserve.ensures.items (c.self.invariant.taken);
      pass_is = c.self.invariant.pass_is;
    }

-- the snapshot that is forked is one of these partitions
pub returns-in-Err-clause-refused : goal.returns-in-Err-clause-refused
returns-in-Err-clause-refused g c =
    let kit = g.K.World.passes in
    let olds = c.self.inside.partitions in
    let held = c.self.inside.snapshots.items in
    let within : c.args.place < length held =
    subst (λ (now : DatabaseState). c.args.place < length now.snapshots) (sym c.self.view_is) c.requires in
    let is = c.index.ensures ∙ ap (λ (all : List OpenSnapshot). slice_index_or all c.args.place c.index.result.now)
    c.reserve.ensures.items in
    let taken = taken-at kit g.K.Loaded.load held c.args.place c.index.result.now within is c.self.invariant.taken in
    let from : are_from kit c.session.result.now olds ≡ true =
    subst (λ (it : List SnapshotState). are_from kit it olds ≡ true) (sym c.session.ensures)
    (taken.mine olds c.sound.ensures.partitions) in
    own-memory {T = List SnapshotState} (Err c.in-Err.refusal) (are_from kit c.session.result.now olds) from
    c.in-Err.ensures.mine c.in-Err.ensures.refused

pub invariant_of-self-in-Ok : goal.invariant_of-self-in-Ok
invariant_of-self-in-Ok g c =
    let kit = g.K.World.passes in
    let lists = g.K.Loaded.load in
    let olds = c.self.inside.partitions in
    let news = c.fork.new.partitions in
    let session = c.in-Ok.session in
    let taken = just-taken kit lists news c.args.name.now session c.sound-in-Ok.ensures.partitions c.in-Ok.ensures.kit
    c.in-Ok.ensures.own in
    record {
      served = served-pairs 1 olds news c.self.inside.terminals.items
          (keeps-forked_from kit c.session.result.now olds news session c.in-Ok.ensures.forks) c.self.invariant.served;
      taken = rw (c.push_reserved.ensures.items, c.new.ensures, c.in_ok-copy.ensures, c.reserve.ensures.items)
          (All-push (IsTaken kit lists) c.self.inside.snapshots.items (record { name = c.args.name.now; parts = session })
          c.self.invariant.taken taken);
      pass_is = c.self.invariant.pass_is;
    }

pub returns-in-Ok-clause-opens : goal.returns-in-Ok-clause-opens
returns-in-Ok-clause-opens g c =
    let kit = g.K.World.passes in
    let olds = c.self.inside.partitions in
    let news = c.fork.new.partitions in
    let held = c.self.inside.snapshots.items in
    let session = c.in-Ok.session in
    let opened : OpenSnapshot = record { name = c.args.name.now; parts = session } in
    let within : c.args.place < length held =
    subst (λ (now : DatabaseState). c.args.place < length now.snapshots) (sym c.self.view_is) c.requires in
    let is = c.index.ensures ∙ ap (λ (all : List OpenSnapshot). slice_index_or all c.args.place c.index.result.now)
    c.reserve.ensures.items in
    let new : DatabaseState = record {
      parts = news;
      snapshots = c.push_reserved.new.self.items;
      log = c.self.inside.journal.list.log;
    } in
    let more : c.push_reserved.new.self.items ≡ held ++ opened ∷ [] =
    rw (c.new.ensures, c.in_ok-copy.ensures, c.reserve.ensures.items) at c.push_reserved.ensures.items in
    subst (λ (now : DatabaseState). OpensFrom c.args.place c.args.name.now now new) c.self.view_is (record {
      kit = kit;
      from = c.index.result.now;
      there = get-at held c.args.place c.index.result.now within is;
      parts = session;
      forks = subst (λ (it : List SnapshotState). ForksAllFrom kit it olds news session) c.session.ensures
          c.in-Ok.ensures.forks;
      shows = c.in-Ok.ensures.shown ∙ ap (map shown) c.session.ensures;
      snapshots = more;
    })
