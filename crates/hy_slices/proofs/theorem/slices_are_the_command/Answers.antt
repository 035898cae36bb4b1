-- A purchase by induction on its lines; the others compute.
use Rattle.hy_slices.proofs.SliceLaws.{slices-accepted, slices-act, slices-not_refused, slices-part, slices-refused}
use Rattle.hy_slices.proofs.theorem.slices_are_the_command.Goals as goal

pub returns-clause-whole : goal.returns-clause-whole
returns-clause-whole c = λ items number edition command tables. slices-accepted items number edition command tables

pub returns-clause-part : goal.returns-clause-part
returns-clause-part c = λ items number edition command tables begins.
    slices-part items number edition command tables begins

pub returns-clause-rows : goal.returns-clause-rows
returns-clause-rows c = λ items number edition command tables begins known.
    slices-act items number edition command tables begins known

pub returns-clause-accepted : goal.returns-clause-accepted
returns-clause-accepted c =
    λ items number command tables begins known. slices-not_refused items number command tables begins known

pub returns-clause-refused : goal.returns-clause-refused
returns-clause-refused c =
    λ items number command tables done begins lacks.
    slices-refused items number command tables done begins lacks.lacks
