use Rattle.std.proofs.Common.{◌<◌, List, Some, length, ap, sym, ◌∙◌, arith}
use Rattle.std.specs.Prelude.{slice_get}
use Rattle.hy_commands.specs.declared.command.PurchaseLine.{PurchaseLine}
use Rattle.hy_batches.proofs.SeenLaws.{length-lines, line-here}
use Rattle.hy_batches.proofs.seen.SeenLines.line.Goals as goal

pub returns : goal.returns
returns c =
    let lines = c.self.inside in
    let within : c.args.place < lines.count =
    omega (arith, length-lines lines.count lines.bytes.now, ap length c.self.view_is, c.requires) in
    ap (λ (now : List PurchaseLine). slice_get now c.args.place) (sym c.self.view_is)
    ∙ (line-here lines.count lines.bytes.now c.args.place within ∙ ap (λ (line : PurchaseLine). Some line) (sym c.line_behind.ensures))

pub line_behind-requires-clause-few : goal.line_behind-requires-clause-few
line_behind-requires-clause-few c =
    let lines = c.self.inside in
    omega (arith, length-lines lines.count lines.bytes.now, ap length c.self.view_is, c.requires, c.self.invariant.0)

pub line_behind-requires-clause-there : goal.line_behind-requires-clause-there
line_behind-requires-clause-there c =
    let lines = c.self.inside in
    omega (arith, length-lines lines.count lines.bytes.now, ap length c.self.view_is, c.requires, c.self.invariant.1)
