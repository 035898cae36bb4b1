-- Each event leaves all warehouses in order, and every replay meets the conditions.
use Rattle.hy_schedules.proofs.OrderLaws.{keeps-all, keeps-on, keeps-rested, of-one_moment}
use Rattle.hy_schedules.proofs.theorem.every_schedule_of_all.Goals as goal

pub returns-clause-keeps : goal.returns-clause-keeps
returns-clause-keeps c = λ lists events whole is_load run.
    keeps-all c.projections_agree.ensures lists events whole is_load run

pub returns-clause-rests : goal.returns-clause-rests
returns-clause-rests c = λ lists log known is_load serial within.
    keeps-rested c.projections_agree.ensures lists log known is_load serial within

pub returns-clause-goes_on : goal.returns-clause-goes_on
returns-clause-goes_on c = λ lists events old new is_load keeps run.
    keeps-on c.projections_agree.ensures lists events old new is_load keeps run

pub returns-clause-one_moment : goal.returns-clause-one_moment
returns-clause-one_moment c = λ lists client children old new keeps does number.
    of-one_moment lists client children old new keeps does number
