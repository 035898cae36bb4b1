-- Each line is put behind those that are there.
use Rattle.std.proofs.Common.{◌≡◌, suc, ◌+◌, true, subst, arith}
use Rattle.std.specs.Prelude.{All}
use Rattle.hy_commands.specs.declared.command.Command.TheVariants as commands
use Rattle.hy_commands.specs.NewOrders.{order_number}
use Rattle.hy_slices.specs.Between.{IsLineBefore}
use Rattle.hy_slices.specs.Slices.{after_slices, has_items_before}
use Rattle.hy_slices.proofs.BetweenSlices.{number-slices, placing-slices}
use Rattle.hy_slices.proofs.theorem.lines_are_new.Goals as goal

pub returns-clause-number : goal.returns-clause-number
returns-clause-number c = λ items number edition order tables lines places.
    let head : suc lines ≡ lines + 1 = omega arith in
    subst (λ done. order_number order (after_slices items number edition (commands.NewOrder order) done tables)
    ≡ order_number order tables + 1) head
    (number-slices items number edition order tables places.sound places.begins lines)

pub returns-clause-lines : goal.returns-clause-lines
returns-clause-lines c = λ items number edition order tables lines places known.
    let head : suc lines ≡ lines + 1 = omega arith in
    subst (λ done. has_items_before items (commands.NewOrder order) done ≡ true
    → All (IsLineBefore order (order_number order tables) lines)
    (after_slices items number edition (commands.NewOrder order) done tables).order_lines) head
    (λ known. (placing-slices items number edition order tables places.sound places.begins lines known).lines) known
