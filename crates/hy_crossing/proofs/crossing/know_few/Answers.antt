use Rattle.std.proofs.Common.{◌<◌, length, ap, ◌∙◌, subst, arith}
use Rattle.hy_rows.specs.Tables.{Lists}
use Rattle.hy_schema.specs.Loads.{IsLoad}
use Rattle.hy_loads.proofs.ThereLaws.{few_warehouses}
use Rattle.hy_crossing.proofs.FullLaws.{set-same}
use Rattle.hy_crossing.proofs.crossing.know_few.Goals as goal

pub part-requires : goal.part-requires
part-requires g c = omega (arith, c.len.ensures, c.if-len-eq0.false)

pub returns-clause-few : goal.returns-clause-few
returns-clause-few g c =
    let rows = g.P.Parts.states c.args.parts.now in
    let p = c.part.result.now in
    let lists : Lists = g.K.Loaded.load in
    let sound : IsLoad lists = subst IsLoad c.ties.ensures.load c.ties.ensures.sound in
    let within : 0 < length rows = omega (arith, c.len.ensures, c.if-len-eq0.false) in
    let same = g.P.Parts.states_put c.args.parts.now 0 p within ∙ set-same rows 0 p c.part.ensures.value in
    omega (arith, ap length same, c.requires.parts.count, few_warehouses lists.tables.warehouses sound.warehouses)

pub returns-clause-same : goal.returns-clause-same
returns-clause-same g c =
    let rows = g.P.Parts.states c.args.parts.now in
    let p = c.part.result.now in
    let within : 0 < length rows = omega (arith, c.len.ensures, c.if-len-eq0.false) in
    g.P.Parts.states_put c.args.parts.now 0 p within ∙ set-same rows 0 p c.part.ensures.value
