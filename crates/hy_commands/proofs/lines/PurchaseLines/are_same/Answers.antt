-- A line more is the same.
use Rattle.std.proofs.Common.{◌≡◌, rules}
use Rattle.hy_commands.proofs.LineLaws.{still-same}
use Rattle.hy_commands.proofs.lines.PurchaseLines.are_same.Goals as goal

pub loop-place-preserved : goal.loop-place-preserved
loop-place-preserved c =
    let is : c.line.result ≡ c.line-in-loop-place.result = search rules in
    still-same c.args.self.now c.args.other.now c.loop-place.place c.line.result c.line-in-loop-place.result
    c.line.ensures c.line-in-loop-place.ensures c.loop-place.invariant is
