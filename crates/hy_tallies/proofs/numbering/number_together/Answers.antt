use Rattle.std.proofs.Common.{map, ◌∙◌}
use Rattle.std.proofs.lemmas.List.{length-map}
use Rattle.hy_tallies.specs.Lines.{column_in}
use Rattle.std.proofs.Common.{ap}
use Rattle.hy_tallies.proofs.NumberedLaws.{together}
use Rattle.hy_tallies.proofs.numbering.number_together.Goals as goal

pub returns-clause-numbered : goal.returns-clause-numbered
returns-clause-numbered c = λ are.
    together c.args.groups.now c.number_for.new.groups _ c.args.count (map column_in c.args.columns.now)
    c.begin_numbers.new.numbers.items (ap (map column_in) c.requires.none)
    (length-map c.args.columns.now column_in ∙ c.requires.keys) c.if-count-eq0.false
    (λ code. c.in_ok-number_for.ensures.numbered are code) c.in_ok-begin_numbers.ensures are
