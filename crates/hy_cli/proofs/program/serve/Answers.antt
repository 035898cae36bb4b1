use Rattle.std.proofs.Common.{rules, [], ◌∷◌, codes}
use Rattle.std.proofs.lemmas.Result.{IfOk-weaker}
use Rattle.hy_cli.specs.CommandLine.{bounded_number, flag, most_frames, most_kept, named_text, required_text, rule_for}
use Rattle.hy_cli.proofs.ProgramLaws.{HasRules, adds}
use Rattle.hy_cli.proofs.program.serve.Goals as goal

pub returns : goal.returns
returns c =
    let directory = rule_for (required_text (codes "directory")) in
    let log = rule_for (named_text (codes "log")) in
    let frames = rule_for (bounded_number 1 most_frames (codes "frames")) in
    let kept = rule_for (bounded_number 1 most_kept (codes "kept")) in
    let numbered = rule_for (flag (codes "numbered")) in
    let none : HasRules (codes "serve") [] c.about.result = search rules in
    let one = adds (codes "serve") [] directory c.about.result c.in_ok-arg.field-0 c.positional.result none c.positional.ensures c.in_ok-arg.ensures in
    let two = adds (codes "serve") (directory ∷ []) log c.in_ok-arg.field-0 c.in_ok-arg-2.field-0 c.required_text_option.result one c.required_text_option.ensures c.in_ok-arg-2.ensures in
    let three = adds (codes "serve") (directory ∷ log ∷ []) frames c.in_ok-arg-2.field-0 c.in_ok-arg-3.field-0 c.bounded_option.result two c.bounded_option.ensures c.in_ok-arg-3.ensures in
    let four = adds (codes "serve") (directory ∷ log ∷ frames ∷ []) kept c.in_ok-arg-3.field-0 c.in_ok-arg-4.field-0 c.bounded_option-2.result three c.bounded_option-2.ensures c.in_ok-arg-4.ensures in
    IfOk-weaker c.arg-5.result _ _
    (λ command added. adds (codes "serve") (directory ∷ log ∷ frames ∷ kept ∷ []) numbered c.in_ok-arg-4.field-0 command c.flag.result four c.flag.ensures added) c.arg-5.ensures
