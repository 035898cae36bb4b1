use Rattle.std.proofs.Common.{◌≡◌, arith, map}
use Rattle.std.proofs.lemmas.Result.{IfOk-weaker}
use Rattle.hy_tallies.specs.Lines.{column_in, row_at}
use Rattle.hy_tallies.proofs.FoundLaws.{numbered-known}
use Rattle.hy_tallies.proofs.groups.number_for.Goals as goal

pub returns-then-found-groups-clause-numbered : goal.returns-then-found-groups-clause-numbered
returns-then-found-groups-clause-numbered c = λ are code.
    numbered-known c.args.groups.now (row_at (map column_in c.args.columns.now) c.args.line) c.group_of-found.result
    c.if-found-groups.true (c.group_of-found.ensures.there c.if-found-groups.true) are

pub returns-clause-numbered : goal.returns-clause-numbered
returns-clause-numbered c =
    let last : c.group_of-found.result ≡ c.args.groups.now.count = omega (arith, c.group_of-found.ensures.within, c.if-found-groups.false) in
    IfOk-weaker c.push_group.result _ _
    (λ number pushed are code. pushed are code (c.group_of-found.ensures.none last c.requires.room.within are.found code))
    c.push_group.ensures.pushed
