use Rattle.std.proofs.Common.{◌-◌, ◌*◌, ℕ, List, drop, length, ap, sym, ◌∙◌, arith}
use Rattle.std.proofs.lemmas.List.{length-drop, take_all}
use Rattle.hy_commands.specs.declared.command.PurchaseLine.{PurchaseLine}
use Rattle.hy_batches.specs.inside.Reading.{line_at, line_in}
use Rattle.hy_batches.proofs.FormLaws.{same_some}
use Rattle.hy_batches.proofs.SeenLaws.{line-read}
use Rattle.hy_batches.proofs.seen.line_behind.Goals as goal

pub unreachable-requires : goal.unreachable-requires
unreachable-requires c =
    let before = 6 * c.args.place in
    let tail = drop before c.args.bytes.now in
    let long = length-drop before c.args.bytes.now in
    let all = take_all (length c.args.bytes.now - before) tail (omega (arith, long)) in
    let found = ap line_at all ∙ line-read tail (omega (arith, long, c.requires.there)) in
    let none = c.in-Err.ensures in
    cc

pub returns : goal.returns
returns c =
    let before = 6 * c.args.place in
    let tail = drop before c.args.bytes.now in
    let long = length-drop before c.args.bytes.now in
    let all = take_all (length c.args.bytes.now - before) tail (omega (arith, long)) in
    let found = ap line_at all ∙ line-read tail (omega (arith, long, c.requires.there)) in
    ap (λ (p : PurchaseLine × List ℕ). p.0)
    (same_some (c.in-Ok.line, c.in-Ok._rest.now) (line_in tail, drop 6 tail) (sym c.in-Ok.ensures ∙ found))
