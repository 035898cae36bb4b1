-- The log at the end of a storm.
use Rattle.std.proofs.Common.{◌≡◌, false, Option, None, Some, Result, Ok, Err, IfOk, subst, sym}
use Rattle.std.specs.Prelude.{IfSome, OnOk}
use Rattle.std.specs.Option.{option_or}
use Rattle.std.specs.Result.{result_err}
use Rattle.hy_rows.specs.Tables.{Lists}
use Rattle.hy_schema.specs.declared.refusal.Refusal.{Refusal}
use Rattle.hy_redo.specs.Calls.{LogState}
use Rattle.hy_redo.specs.Disk.{BeginsBehind}
use Rattle.hy_session.specs.of_partition.Jobs.{Log}
use Rattle.hy_session.specs.of_forks.Logged.{SaySame}
use Rattle.hy_engine.specs.Following.{DrainState, Follows}
use Rattle.hy_engine.proofs.FollowLaws.{all-there}
use Rattle.hy_storm.specs.declared.ending.Figures.{Figures}
use Rattle.hy_storm.specs.Storms.{AreFigures, AreFiguresBehind, AreLogged, HasAll}

-- where there is none of two reasons, there is none of the second
pub none-behind : (one other : Option Refusal) → option_or one other ≡ None → other ≡ None
none-behind None other is = is
none-behind (Some why) other is = cc

-- what was drained last was acknowledged
pub has-all : (lists : Lists) (serial : Log) (drains : DrainState) (log : LogState) (answer : Result (Unit {0}) Refusal)
    → Follows lists drains → OnOk answer (drains.log.has_failed ≡ false) → OnOk answer (drains.due ≡ None)
    → OnOk answer (drains.seen ≡ serial) → log ≡ drains.log → result_err answer ≡ None → HasAll lists serial log
has-all lists serial drains log (Ok done) follows well none seen is nothing =
    let all = all-there lists drains follows well none in (
      all.0,
      subst (λ (it : Log). SaySame lists all.0 it) seen all.1,
      subst (λ (it : LogState). BeginsBehind all.0 it) (sym is) all.2,
    )
has-all lists serial drains log (Err why) follows well none seen is nothing = cc

-- the figures of the serial list that the log has
pub reckoned : (lists : Lists) (serial : Log) (result : Result Figures Refusal) (log : Option LogState)
    (before unlogged : Option Refusal) → IfOk result (AreFiguresBehind lists serial)
    → IfOk result (λ figures. figures.refusal ≡ None → option_or before unlogged ≡ None)
    → (unlogged ≡ None → IfSome log (HasAll lists serial)) → IfOk result (λ figures. AreLogged lists figures log)
reckoned lists serial (Ok figures) log before unlogged are told all =
    (serial, are, λ nothing. all (none-behind before unlogged (told nothing)))
reckoned lists serial (Err why) log before unlogged are told all = tt

pub figures-logged : (lists : Lists) (result : Result Figures Refusal) (log : Option LogState)
    → IfOk result (λ figures. AreLogged lists figures log) → IfOk result (AreFigures lists)
figures-logged lists (Ok figures) log is = (is.0, is.1)
figures-logged lists (Err why) log is = tt
