-- The numbers from 1 to the count are those of items, and no others.
use Rattle.std.proofs.Common.{List, length, ap, ◌∙◌}
use Rattle.hy_rows.specs.declared.item.Item.{Item}
use Rattle.hy_commands.specs.Commands.{are_items_up_to}
use Rattle.hy_layout.proofs.ItemLaws.{items-there}
use Rattle.hy_layout.proofs.items.has_items.Goals as goal

pub returns : goal.returns
returns c =
    c.names_items_up_to.ensures
    ∙ ap (λ (items : List Item). are_items_up_to (length items) c.args.command.now) c.list.ensures
    ∙ items-there c.args.load.now.items c.sound.ensures.items c.args.command.now
