use Rattle.std.proofs.Common.{◌∙◌, ◌<◌, length, arith}
use Rattle.hy_crossing.proofs.FullLaws.{set-same}
use Rattle.hy_crossing.proofs.looking.warehouses_of_load.Goals as goal

pub returns-clause-same : goal.returns-clause-same
returns-clause-same g c =
    let rows = g.P.Parts.states c.args.parts.now in
    let p = c.part-part.result.now in
    let within : 0 < length rows = omega (arith, c.requires) in
    g.P.Parts.states_put c.args.parts.now 0 p within ∙ set-same rows 0 p c.part-part.ensures.value
