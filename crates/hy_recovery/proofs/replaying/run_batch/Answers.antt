-- From one commit of several warehouses to the next.
use Rattle.std.proofs.Common.{◌≡◌, ◌<◌, ◌-◌, ◌+◌, ◌^◌, suc, refl, sym, subst, ◌∙◌, arith}
use Rattle.hy_commands.specs.declared.command.Command.{Command}
use Rattle.hy_commands.specs.declared.command.Commit.TheVariants as commits
use Rattle.hy_forks.specs.of_crossing.Lists.{Pairwise}
use Rattle.hy_sound.specs.Merges.{FindsCrossing, FindsNone}
use Rattle.hy_sound.proofs.MergeLaws.{left-first}
use Rattle.hy_recovery.specs.Recovering.{StopsAtCommit}
use Rattle.hy_recovery.specs.inside.Ways.{CanRunCrossing, Enters, KeepsWhereNamed, SomeHasNoFrame, crossings_in, untouched}
use Rattle.hy_recovery.proofs.FrameLaws.{shortage-then}
use Rattle.hy_recovery.proofs.ResultLaws.{this-error}
use Rattle.hy_recovery.proofs.WayLaws.{can-crossing, crossings-next, not-lacking, stops-crossing, way-crossing, way-end, way-partitions, way-same, way-whole}
use Rattle.hy_recovery.proofs.replaying.run_batch.Goals as goal

-- the merge begins with all of the batch
pub crossings-init : goal.crossings-init
crossings-init g c = record {
  way = λ aim is.
      way-same g.K.Loaded.load aim (untouched c.args.batch.now) c.args.journal.now.list.log c.args.parts.now.items is
      c.new-merge.result c.new-merge.ensures.count
      (λ place. c.new-merge.ensures.left place ∙ sym (left-first (untouched c.args.batch.now) place refl));
  client = refl;
}

pub run_all_locals-requires : goal.run_all_locals-requires
run_all_locals-requires g c = let aim = c.requires.way.0 in (omega arith, (aim, c.crossings.invariant.way aim c.requires.way.1))

pub run_crossing-requires : goal.run_crossing-requires
run_crossing-requires g c =
    let lists = g.K.Loaded.load in
    let aim = c.requires.way.0 in
    let merge = c.run_all_locals.new.merge in
    let log = c.run_all_locals.new.journal.list.log in
    let parts = c.run_all_locals.new.parts.items in
    let way = c.in_ok-pass.ensures.way aim (c.crossings.invariant.way aim c.requires.way.1) in
    let same : c.next_crossing-last.result - 1 ≡ crossings_in log = omega (arith, c.next_crossing-last.ensures) in
    let edition = c.in-Some.edition in
    let number = c.in-Some.number in
    let command = c.in-Some.command.now in
    let finds : FindsCrossing merge (crossings_in log) edition number command =
    subst (λ n. FindsCrossing merge n edition number command) same c.in-Some.ensures in
    let can = subst (λ (command : Command). CanRunCrossing lists number command log parts) (sym c.in_ok-copy.ensures)
    (can-crossing lists aim merge log parts way edition number command finds c.in_ok-pass.ensures.stops) in
    (omega arith, (way-partitions lists aim merge log parts way, (way-whole lists aim merge log parts way, can)))

pub crossings-preserved : goal.crossings-preserved
crossings-preserved g c =
    let lists = g.K.Loaded.load in
    let merge = c.run_all_locals.new.merge in
    let log = c.run_all_locals.new.journal.list.log in
    let parts = c.run_all_locals.new.parts.items in
    let news = c.run_crossing.new.parts.items in
    let later = c.run_crossing.new.journal.list.log in
    let same : c.next_crossing-last.result - 1 ≡ crossings_in log = omega (arith, c.next_crossing-last.ensures) in
    let edition = c.in-Some.edition in
    let number = c.in-Some.number in
    let command = c.in-Some.command.now in
    let finds : FindsCrossing merge (crossings_in log) edition number command =
    subst (λ n. FindsCrossing merge n edition number command) same c.in-Some.ensures in
    let keeps : Pairwise (KeepsWhereNamed command (commits.Cross edition number command)) 1 parts news =
    subst (λ (command : Command). Pairwise (KeepsWhereNamed command (commits.Cross edition number command)) 1 parts news)
    c.in_ok-copy.ensures c.in_ok-pass-2.ensures.kept in
    let enters : Enters (commits.Cross edition number command) log later =
    subst (λ (command : Command). Enters (commits.Cross edition number command) log later) c.in_ok-copy.ensures
    c.in_ok-pass-2.ensures.log in
    record {
      way = λ aim is.
          way-crossing lists aim merge log parts (c.in_ok-pass.ensures.way aim (c.crossings.invariant.way aim is)) edition
          number command finds c.in_ok-pass.ensures.stops c.pass_crossing.new.self news later c.if-not-pass_crossing.ensures keeps
          enters;
      client = c.in_ok-pass-2.ensures.client ∙ c.in_ok-pass.ensures.client ∙ c.crossings.invariant.client;
    }

pub crossings-smaller : goal.crossings-smaller
crossings-smaller g c =
    let log = c.run_all_locals.new.journal.list.log in
    let later = c.run_crossing.new.journal.list.log in
    let first = c.crossings.journal.list.log in
    let edition = c.in-Some.edition in
    let number = c.in-Some.number in
    let enters : Enters (commits.Cross edition number c.in_ok-copy.field-0) log later = c.in_ok-pass-2.ensures.log in
    let more : crossings_in later ≡ suc (crossings_in log) = crossings-next edition number c.in_ok-copy.field-0 log later enters in
    let same : crossings_in log ≡ crossings_in first = c.in_ok-pass.ensures.numbers in
    let next : c.next_crossing-last.result ≡ crossings_in log + 1 = c.next_crossing-last.ensures in
    let less : 2 ^ 64 - crossings_in later < 2 ^ 64 - crossings_in first = omega (arith, more, same, next, c.next_crossing-last.type_inv) in
    less

pub unreachable-requires : goal.unreachable-requires
unreachable-requires g c =
    let lists = g.K.Loaded.load in
    let aim = c.requires.way.0 in
    let merge = c.run_all_locals.new.merge in
    let log = c.run_all_locals.new.journal.list.log in
    let parts = c.run_all_locals.new.parts.items in
    let way = c.in_ok-pass.ensures.way aim (c.crossings.invariant.way aim c.requires.way.1) in
    let same : c.next_crossing-last.result - 1 ≡ crossings_in log = omega (arith, c.next_crossing-last.ensures) in
    let edition = c.in-Some.edition in
    let number = c.in-Some.number in
    let command = c.in-Some.command.now in
    let finds : FindsCrossing merge (crossings_in log) edition number command =
    subst (λ n. FindsCrossing merge n edition number command) same c.in-Some.ensures in
    not-lacking lists aim merge log parts way edition number command finds c.in_ok-pass.ensures.stops
    c.if-not-pass_crossing.ensures

pub returns-in_default-clause-way : goal.returns-in_default-clause-way
returns-in_default-clause-way g c =
    let lists = g.K.Loaded.load in
    let merge = c.run_all_locals.new.merge in
    let log = c.run_all_locals.new.journal.list.log in
    let parts = c.run_all_locals.new.parts.items in
    let same : c.next_crossing-last.result - 1 ≡ crossings_in log = omega (arith, c.next_crossing-last.ensures) in
    let none : FindsNone merge (crossings_in log) = subst (λ n. FindsNone merge n) same c.in_default.ensures in
    λ aim is.
    way-end lists aim merge log parts (c.in_ok-pass.ensures.way aim (c.crossings.invariant.way aim is)) none
    c.in_ok-pass.ensures.stops

pub returns-in_err-pass-clause-refused : goal.returns-in_err-pass-clause-refused
returns-in_err-pass-clause-refused g c =
    this-error _ _ _ c.from_residual.ensures.1 (λ aim is.
    c.in_err-pass.ensures.refused aim (c.crossings.invariant.way aim is))

pub returns-in_err-pass-2-clause-refused : goal.returns-in_err-pass-2-clause-refused
returns-in_err-pass-2-clause-refused g c =
    let lists = g.K.Loaded.load in
    let merge = c.run_all_locals.new.merge in
    let log = c.run_all_locals.new.journal.list.log in
    let parts = c.run_all_locals.new.parts.items in
    let same : c.next_crossing-last.result - 1 ≡ crossings_in log = omega (arith, c.next_crossing-last.ensures) in
    let edition = c.in-Some.edition in
    let number = c.in-Some.number in
    let command = c.in-Some.command.now in
    let finds : FindsCrossing merge (crossings_in log) edition number command =
    subst (λ n. FindsCrossing merge n edition number command) same c.in-Some.ensures in
    this-error _ _ _ c.from_residual-in_err-pass-2.ensures.1 (λ aim is.
    shortage-then (SomeHasNoFrame g.row.N parts) (StopsAtCommit g.row.N lists aim.frames aim.goal) c.in_err-pass-2.field-0.0
    (stops-crossing lists aim merge log parts (c.in_ok-pass.ensures.way aim (c.crossings.invariant.way aim is)) edition
    number command finds c.in_ok-pass.ensures.stops g.row.N) c.in_err-pass-2.ensures.refused)
