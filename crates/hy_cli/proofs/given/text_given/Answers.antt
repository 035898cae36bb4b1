use Rattle.std.proofs.Common.{◌≡◌, ◌∙◌, true, false, ap, sym}
use Rattle.std.specs.Option.{is_some}
use Rattle.clap.specs.Words.{found_of}
use Rattle.clap.proofs.WalkLemmas.{first_value-rows}
use Rattle.hy_cli.proofs.given.text_given.Goals as goal

pub unreachable-requires : goal.unreachable-requires
unreachable-requires c =
    let none = rw c.in_default.is at c.get_str.ensures in
    let bad : false ≡ true = ap is_some (none ∙ first_value-rows (found_of c.args.given.now) c.args.name.now) ∙ c.requires in
    absurd (cc)

pub returns : goal.returns
returns c =
    let some = rw c.in-Some.is at c.get_str.ensures in
    sym (some ∙ first_value-rows (found_of c.args.given.now) c.args.name.now)
