use Rattle.std.proofs.Common.{ℕ, List, drop, length, ◌*◌, ap, sym, ◌∙◌}
use Rattle.hy_commands.specs.declared.command.PurchaseLine.{PurchaseLine}
use Rattle.hy_batches.specs.inside.Reading.{lines_in}
use Rattle.hy_batches.proofs.FormLaws.{same_some}
use Rattle.hy_batches.proofs.SeenLaws.{lines-six}
use Rattle.hy_batches.proofs.seen.lines_of.Goals as goal

pub unreachable-requires : goal.unreachable-requires
unreachable-requires c =
    let found = lines-six (length c.args.lines.now) c.args.bytes.now c.requires in
    let none = c.in-Err.ensures in
    cc

pub returns : goal.returns
returns c =
    let count = length c.args.lines.now in
    let bytes = c.args.bytes.now in
    ap (λ (p : List PurchaseLine × List ℕ). p.0)
    (same_some (c.lines_at.new.lines, c.in-Ok._rest.now) (lines_in count bytes, drop (6 * count) bytes)
    (sym c.in-Ok.ensures ∙ lines-six count bytes c.requires))
