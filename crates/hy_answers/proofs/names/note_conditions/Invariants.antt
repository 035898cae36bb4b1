use Rattle.std.proofs.Common.{◌≡◌, fold, take}
use Rattle.std.specs.List.{flat_map}
use Rattle.hy_answers.specs.inside.Names.{with_name}
use Rattle.hy_answers.specs.inside.Reading.{names_in_condition}
use Rattle.hy_answers.proofs.names.note_conditions.Given as goal

-- those so far
abbrev pub invariant-loop-condition : goal.invariant-loop-condition
invariant-loop-condition l =
    l.names.items ≡ fold with_name l.fn.names.items (flat_map names_in_condition (take l.condition-index l.conditions))
