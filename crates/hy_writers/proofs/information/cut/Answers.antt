use Rattle.std.proofs.Common.{◌∙◌, ◌++◌, List, ℕ, ap, arith, take}
use Rattle.hy_writers.proofs.InformationLaws.{noted-is}
use Rattle.hy_writers.proofs.information.cut.Goals as goal

pub returns : goal.returns
returns c =
    c.push_all-2.ensures.text
    ∙ ap (λ (text : List ℕ). text ++ take c.min-kept.result c.args.old.now)
    (c.push_all.ensures.text ∙ ap (λ (text : List ℕ). text ++ c.args.note.now) c.new-bytes.ensures)
    ∙ noted-is c.args.note.now c.args.old.now c.min-kept.result (omega (arith, c.requires)) c.min-kept.ensures
