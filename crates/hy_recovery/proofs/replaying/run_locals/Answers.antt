-- The partition at the place keeps the next commit of its list.
use Rattle.std.proofs.Common.{◌≡◌, ◌<◌, suc, Some, ap, sym, subst, ◌∙◌, arith, drop, length, rules, vec_len}
use Rattle.hy_commands.specs.declared.command.Command.{Command}
use Rattle.hy_commands.specs.declared.command.Commit.TheVariants as commits
use Rattle.hy_sound.specs.Merges.{count_of, left_of, next_of}
use Rattle.hy_sound.proofs.ListLaws.{next-first}
use Rattle.hy_recovery.specs.Recovering.{StopsAtCommit}
use Rattle.hy_recovery.specs.inside.Ways.{CanRunLocal, Enters, HasNoFrameFor, IsShortage, KeepsOne}
use Rattle.hy_recovery.proofs.FrameLaws.{shortage-then}
use Rattle.hy_recovery.proofs.ResultLaws.{this-error}
use Rattle.hy_recovery.proofs.LocalLaws.{begins}
use Rattle.hy_recovery.proofs.WayLaws.{can-local, crossings-local, stops-local, way-local}
use Rattle.hy_recovery.proofs.replaying.run_locals.Goals as goal

pub run_local-requires : goal.run_local-requires
run_local-requires g c =
    let lists = g.K.Loaded.load in
    let aim = c.requires.way.0 in
    let way = c.commits.invariant.way aim c.requires.way.1 in
    let within : c.args.place < count_of c.commits.merge = omega (arith, c.requires.within, c.commits.invariant.count) in
    let next : next_of (left_of c.commits.merge c.args.place) ≡ Some (commits.Local c.in-Some-Local.edition c.in-Some-Local.command) =
    sym (ap Some (sym c.in-Some-Local.field-0-is) ∙ c.in-Some-Local.ensures) in
    let edition = c.in-Some-Local.edition in
    let p = c.index_mut.result.now in
    let can : CanRunLocal edition c.in_ok-copy.field-0 p =
    subst (λ (command : Command). CanRunLocal edition command p)
    (sym c.in_ok-copy.ensures)
    (can-local lists aim c.commits.merge c.commits.journal.list.log c.commits.parts.items way c.args.place
    edition c.in-Some-Local.command p within c.index_mut.ensures.value next) in
    (omega arith, (can, begins edition c.in_ok-copy.field-0 p can))

pub commits-preserved : goal.commits-preserved
commits-preserved g c =
    let lists = g.K.Loaded.load in
    let merge = c.commits.merge in
    let log = c.commits.journal.list.log in
    let parts = c.commits.parts.items in
    let within : c.args.place < count_of merge = omega (arith, c.requires.within, c.commits.invariant.count) in
    let edition = c.in-Some-Local.edition in
    let command = c.in-Some-Local.command in
    let next : next_of (left_of merge c.args.place) ≡ Some (commits.Local edition command) =
    sym (ap Some (sym c.in-Some-Local.field-0-is) ∙ c.in-Some-Local.ensures) in
    let p = c.index_mut.result.now in
    let new = c.run_local.new.part in
    let later = c.run_local.new.journal.list.log in
    let keeps : KeepsOne (commits.Local edition command) p new =
    subst (λ (command : Command). KeepsOne (commits.Local edition command) p new) c.in_ok-copy.ensures c.in_ok-pass.ensures.kept in
    let enters : Enters (commits.Local edition command) log later =
    subst (λ (command : Command). Enters (commits.Local edition command) log later) c.in_ok-copy.ensures c.in_ok-pass.ensures.log in
    record {
      way = λ aim is.
          way-local lists aim merge log parts (c.commits.invariant.way aim is) c.args.place edition command p within
          c.index_mut.ensures.value next c.pass-in-Some-Local.new.self new later keeps enters c.pass-in-Some-Local.ensures.count c.pass-in-Some-Local.ensures.here
          c.pass-in-Some-Local.ensures.others;
      count = c.pass-in-Some-Local.ensures.count ∙ c.commits.invariant.count;
      others = λ other apart. c.pass-in-Some-Local.ensures.others other apart ∙ c.commits.invariant.others other apart;
      numbers = crossings-local edition command log later enters ∙ c.commits.invariant.numbers;
      client = c.in_ok-pass.ensures.client ∙ c.commits.invariant.client;
    }

pub index_mut-requires : goal.index_mut-requires
index_mut-requires g c =
    let aim = c.requires.way.0 in
    let way = c.commits.invariant.way aim c.requires.way.1 in
    let within : c.args.place < length c.commits.parts.items =
    omega (arith, c.requires.within, c.commits.invariant.count, way.lists_are) in
    let count : vec_len c.commits.parts ≡ length c.commits.parts.items = search rules in
    omega (arith, within, count)

pub commits-smaller : goal.commits-smaller
commits-smaller g c =
    let merge = c.commits.merge in
    let after = c.pass-in-Some-Local.new.self in
    let next : next_of (left_of merge c.args.place) ≡ Some (commits.Local c.in-Some-Local.edition c.in-Some-Local.command) =
    sym (ap Some (sym c.in-Some-Local.field-0-is) ∙ c.in-Some-Local.ensures) in
    let rest = next-first (left_of merge c.args.place) (commits.Local c.in-Some-Local.edition c.in-Some-Local.command) next in
    let one : length (left_of merge c.args.place) ≡ suc (length (drop 1 (left_of merge c.args.place))) = ap length rest in
    let same : length (left_of after c.args.place) ≡ length (drop 1 (left_of merge c.args.place)) =
    ap length c.pass-in-Some-Local.ensures.here in
    let less : length (left_of after c.args.place) < length (left_of merge c.args.place) = omega (arith, one, same) in
    less

pub returns-in_err-pass-clause-refused : goal.returns-in_err-pass-clause-refused
returns-in_err-pass-clause-refused g c =
    let lists = g.K.Loaded.load in
    let merge = c.commits.merge in
    let within : c.args.place < count_of merge = omega (arith, c.requires.within, c.commits.invariant.count) in
    let edition = c.in-Some-Local.edition in
    let command = c.in-Some-Local.command in
    let next : next_of (left_of merge c.args.place) ≡ Some (commits.Local edition command) =
    sym (ap Some (sym c.in-Some-Local.field-0-is) ∙ c.in-Some-Local.ensures) in
    let p = c.index_mut.result.now in
    let lacks = subst (λ (command : Command). IsShortage (HasNoFrameFor g.row.N command p) c.in_err-pass.field-0.0)
    c.in_ok-copy.ensures c.in_err-pass.ensures.refused in
    this-error _ _ _ c.from_residual-in_err-pass.ensures.1 (λ aim is.
    shortage-then (HasNoFrameFor g.row.N command p) (StopsAtCommit g.row.N lists aim.frames aim.goal) c.in_err-pass.field-0.0
    (stops-local lists aim merge c.commits.journal.list.log c.commits.parts.items (c.commits.invariant.way aim is)
    c.args.place edition command p within c.index_mut.ensures.value next g.row.N) lacks)
