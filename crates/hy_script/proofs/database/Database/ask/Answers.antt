use Rattle.std.proofs.Common.{◌<◌, List, arith, length, lit<, OnOk, refl, slice_set, subst, sym}
use Rattle.hy_session.specs.of_partition.Partition.{PartitionState}
use Rattle.hy_script.specs.Databases.{DatabaseState}
use Rattle.hy_script.specs.Printed.{IsAsked}
use Rattle.hy_script.specs.inside.Invariants.{AreServed, IsServed}
use Rattle.hy_script.proofs.DatabaseLaws.{asked, served-at, served-count, served-set}
use Rattle.hy_script.proofs.database.Database.ask.Goals as goal

pub index_mut-requires : goal.index_mut-requires
index_mut-requires g c =
    let place = c.in-Some.place in
    let parts = c.self.inside.partitions in
    let within : place < length parts =
    subst (λ (it : DatabaseState). place < length it.parts) (sym c.self.view_is) c.in-Some.ensures.1 in
    omega (arith, within, served-count parts c.self.inside.terminals.items c.self.invariant.served)

pub grant-requires : goal.grant-requires
grant-requires g c =
    let place = c.in-Some.place in
    let parts = c.self.inside.partitions in
    let within : place < length parts =
    subst (λ (it : DatabaseState). place < length it.parts) (sym c.self.view_is) c.in-Some.ensures.1 in (
      lit< tt,
      (
        lit< tt,
        (
          within,
          served-at parts c.self.inside.terminals.items place c.index_mut.result.now c.self.invariant.served within
              c.index_mut.ensures.value,
        ),
      ),
    )

pub invariant_of-self : goal.invariant_of-self
invariant_of-self g c =
    let place = c.in-Some.place in
    let terminals = c.self.inside.terminals.items in
    let terminal = c.grant.new.terminal in
    let changes = c.grant.ensures.granted in
    record {
      served = subst (λ (parts : List PartitionState). AreServed parts (slice_set terminals place terminal))
          (sym changes.3) (served-set c.self.inside.partitions terminals place changes.1 terminal
          c.self.invariant.served changes.4.1);
      taken = c.self.invariant.taken;
      pass_is = c.self.invariant.pass_is;
    }

pub returns-in-Some-clause-asked : goal.returns-in-Some-clause-asked
returns-in-Some-clause-asked g c =
    let place = c.in-Some.place in
    let before = g.O.Output.contents c.args.out.now in
    let after = g.O.Output.contents c.grant.new.out in
    let old : DatabaseState = record {
      parts = c.self.inside.partitions;
      snapshots = c.self.inside.snapshots.items;
      log = c.self.inside.journal.list.log;
    } in
    let new : DatabaseState = record {
      parts = c.grant.new.partitions;
      snapshots = c.self.inside.snapshots.items;
      log = c.grant.new.journal.list.log;
    } in
    let within : place < length c.self.inside.partitions =
    subst (λ (it : DatabaseState). place < length it.parts) (sym c.self.view_is) c.in-Some.ensures.1 in
    let said = asked c.grant.result c.args.number place c.args.request old new before after
    (λ p q. IsServed q c.grant.new.terminal) c.in-Some.ensures.0 within refl c.grant.ensures.granted in
    subst (λ (now : DatabaseState). OnOk c.grant.result (IsAsked c.args.number c.args.request now new before after))
    c.self.view_is said
