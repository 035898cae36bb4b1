use Rattle.std.proofs.Common.{rules, [], ◌∷◌, codes}
use Rattle.std.proofs.lemmas.Result.{IfOk-weaker}
use Rattle.hy_cli.specs.CommandLine.{most_commands, most_sessions, most_terminals, optional_text, required_text, required_within, rule_for}
use Rattle.hy_cli.proofs.ProgramLaws.{HasRules, adds}
use Rattle.hy_cli.proofs.program.storm.Goals as goal

pub returns : goal.returns
returns c =
    let directory = rule_for (required_text (codes "directory")) in
    let terminals = rule_for (required_within 1 most_terminals (codes "terminals")) in
    let sessions = rule_for (required_within 0 most_sessions (codes "sessions")) in
    let commands = rule_for (required_within 0 most_commands (codes "commands")) in
    let log = rule_for (optional_text (codes "log")) in
    let none : HasRules (codes "storm") [] c.about.result = search rules in
    let one = adds (codes "storm") [] directory c.about.result c.in_ok-arg.field-0 c.positional.result none c.positional.ensures c.in_ok-arg.ensures in
    let two = adds (codes "storm") (directory ∷ []) terminals c.in_ok-arg.field-0 c.in_ok-arg-2.field-0 c.required_within.result one c.required_within.ensures c.in_ok-arg-2.ensures in
    let three = adds (codes "storm") (directory ∷ terminals ∷ []) sessions c.in_ok-arg-2.field-0 c.in_ok-arg-3.field-0 c.required_within-2.result two c.required_within-2.ensures c.in_ok-arg-3.ensures in
    let four = adds (codes "storm") (directory ∷ terminals ∷ sessions ∷ []) commands c.in_ok-arg-3.field-0 c.in_ok-arg-4.field-0 c.required_within-3.result three c.required_within-3.ensures c.in_ok-arg-4.ensures in
    IfOk-weaker c.arg-5.result _ _
    (λ command added. adds (codes "storm") (directory ∷ terminals ∷ sessions ∷ commands ∷ []) log c.in_ok-arg-4.field-0 command c.text_option.result four c.text_option.ensures added) c.arg-5.ensures
