use Rattle.std.proofs.Common.{rules, [], ◌∷◌, codes}
use Rattle.std.proofs.lemmas.Result.{IfOk-weaker}
use Rattle.hy_cli.specs.CommandLine.{required_number, required_text, rule_for}
use Rattle.hy_cli.proofs.ProgramLaws.{HasRules, adds}
use Rattle.hy_cli.proofs.program.generate.Goals as goal

pub returns : goal.returns
returns c =
    let directory = rule_for (required_text (codes "directory")) in
    let warehouses = rule_for (required_number (codes "warehouses")) in
    let customers = rule_for (required_number (codes "customers")) in
    let items = rule_for (required_number (codes "items")) in
    let none : HasRules (codes "gen") [] c.about.result = search rules in
    let one = adds (codes "gen") [] directory c.about.result c.in_ok-arg.field-0 c.positional.result none c.positional.ensures c.in_ok-arg.ensures in
    let two = adds (codes "gen") (directory ∷ []) warehouses c.in_ok-arg.field-0 c.in_ok-arg-2.field-0 c.required_option.result one c.required_option.ensures c.in_ok-arg-2.ensures in
    let three = adds (codes "gen") (directory ∷ warehouses ∷ []) customers c.in_ok-arg-2.field-0 c.in_ok-arg-3.field-0 c.required_option-2.result two c.required_option-2.ensures c.in_ok-arg-3.ensures in
    IfOk-weaker c.arg-4.result _ _
    (λ command added. adds (codes "gen") (directory ∷ warehouses ∷ customers ∷ []) items c.in_ok-arg-3.field-0 command c.required_option-3.result three c.required_option-3.ensures added) c.arg-4.ensures
