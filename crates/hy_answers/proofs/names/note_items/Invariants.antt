use Rattle.std.proofs.Common.{◌≡◌, fold, take}
use Rattle.std.specs.List.{flat_map}
use Rattle.hy_answers.specs.inside.Names.{with_name}
use Rattle.hy_answers.specs.inside.Reading.{names_in_item}
use Rattle.hy_answers.proofs.names.note_items.Given as goal

-- those so far
abbrev pub invariant-loop-item : goal.invariant-loop-item
invariant-loop-item l =
    l.names.items ≡ fold with_name l.fn.names.items (flat_map names_in_item (take l.item-index l.items))
