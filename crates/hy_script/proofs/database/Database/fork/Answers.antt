use Rattle.std.proofs.Common.{◌≡◌, ◌++◌, ◌∷◌, [], refl, subst}
use Rattle.std.proofs.lemmas.List.Elements.{All-push}
use Rattle.hy_session.specs.of_crossing.Lists.{Pairwise}
use Rattle.hy_session.specs.of_forks.Forks.{IsUnforked}
use Rattle.hy_session.proofs.of_forks.AllLaws.{unforked-all-same}
use Rattle.hy_script.specs.Databases.{DatabaseState, OpenSnapshot}
use Rattle.hy_script.specs.Steps.{Opens}
use Rattle.hy_script.specs.inside.Invariants.{IsTaken}
use Rattle.hy_script.proofs.DatabaseLaws.{served-pairs}
use Rattle.hy_script.proofs.ResultLaws.{on_err}
use Rattle.hy_script.proofs.SnapshotLaws.{just-taken, keeps-forked, keeps-unforked}
use Rattle.hy_script.proofs.database.Database.fork.Goals as goal

pub returns-in_err-copy-clause-stays : goal.returns-in_err-copy-clause-stays
returns-in_err-copy-clause-stays g c =
    on_err c.from_residual.result (unforked-all-same c.args.self.now.log c.args.self.now.parts)

pub returns-in_err-reserve-clause-stays : goal.returns-in_err-reserve-clause-stays
returns-in_err-reserve-clause-stays g c =
    let parts = c.self.inside.partitions in
    on_err c.from_residual-in_err-reserve.result
    (subst (λ (now : DatabaseState). Pairwise (λ number. IsUnforked now.log) 1 now.parts parts) c.self.view_is
    (unforked-all-same c.self.inside.journal.list.log parts))

pub invariant_of-self-in_err-snapshot : goal.invariant_of-self-in_err-snapshot
invariant_of-self-in_err-snapshot g c =
    let olds = c.self.inside.partitions in
    let news = c.fork_all.new.self in
    record {
      served = served-pairs 1 olds news c.self.inside.terminals.items
          (keeps-unforked c.self.inside.journal.list.log olds news c.in_err-snapshot.ensures.err)
          c.self.invariant.served;
      taken = rw c.reserve.ensures.items (c.self.invariant.taken);
      pass_is = refl;
    }

pub returns-in_err-snapshot-clause-stays : goal.returns-in_err-snapshot-clause-stays
returns-in_err-snapshot-clause-stays g c =
    on_err c.from_residual-in_err-snapshot.result
    (subst (λ (now : DatabaseState). Pairwise (λ number. IsUnforked now.log) 1 now.parts c.fork_all.new.self)
    c.self.view_is c.in_err-snapshot.ensures.err)

pub invariant_of-self-2 : goal.invariant_of-self-2
invariant_of-self-2 g c =
    let kit = g.K.World.passes in
    let lists = g.K.Loaded.load in
    let olds = c.self.inside.partitions in
    let news = c.fork_all.new.self in
    let snapshot = c.in_ok-snapshot.snapshot in
    let taken = just-taken kit lists news c.args.name.now snapshot c.sound-2.ensures.partitions c.in_ok-snapshot.ensures.kit
    c.in_ok-snapshot.ensures.mine in
    record {
      served = served-pairs 1 olds news c.self.inside.terminals.items
          (keeps-forked g.row.N kit c.self.inside.journal.list.log c.in-Some.pass.seen olds news snapshot
          c.in_ok-snapshot.ensures.forks) c.self.invariant.served;
      taken = rw (c.push_reserved.ensures.items, c.new.ensures, c.in_ok-copy.ensures, c.new-session.ensures, c.reserve.ensures.items)
          (All-push (IsTaken kit lists) c.self.inside.snapshots.items
          (record { name = c.args.name.now; parts = snapshot }) c.self.invariant.taken taken);
      pass_is = refl;
    }

pub returns-clause-opens : goal.returns-clause-opens
returns-clause-opens g c =
    let held = c.self.inside.snapshots.items in
    let snapshot = c.in_ok-snapshot.snapshot in
    let opened : OpenSnapshot = record { name = c.args.name.now; parts = snapshot } in
    let new : DatabaseState = record {
      parts = c.fork_all.new.self;
      snapshots = c.push_reserved.new.self.items;
      log = c.fork_all.new.journal.list.log;
    } in
    let more : c.push_reserved.new.self.items ≡ held ++ opened ∷ [] =
    rw (c.new.ensures, c.in_ok-copy.ensures, c.new-session.ensures, c.reserve.ensures.items) at c.push_reserved.ensures.items in
    subst (λ (now : DatabaseState). Opens g.row.N c.args.name.now now new) c.self.view_is (record {
      kit = g.K.World.passes;
      known = c.in-Some.pass.seen;
      parts = snapshot;
      forks = c.in_ok-snapshot.ensures.forks;
      lists = g.K.Loaded.load;
      load = c.sound.ensures;
      spells = c.in_ok-snapshot.ensures.database;
      snapshots = more;
    })
