use Rattle.std.proofs.Common.{◌-◌, ◌<◌, ◌∙◌, length, arith}
use Rattle.hy_crossing.proofs.FullLaws.{set-same}
use Rattle.hy_forks.proofs.knowing.know_load.Goals as goal

pub returns-then-count-gt0-clause-same : goal.returns-then-count-gt0-clause-same
returns-then-count-gt0-clause-same g c =
    let rows = g.P.Parts.states c.args.parts.now in
    let p = c.part-last.result.now in
    let last = c.len-count.result - 1 in
    let within : last < length rows = omega (arith, c.len-count.ensures, c.if-count-gt0.true) in
    g.P.Parts.states_put c.args.parts.now last p within ∙ set-same rows last p c.part-last.ensures.value
