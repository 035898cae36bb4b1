-- A life of a service, from its first line to its last.
use Rattle.std.specs.Prelude.{◌≡◌, ℕ, List, IsTrue, Bool, Option, codes}
use Rattle.std.specs.declared.io.Error.{Error}
use Rattle.hy_rows.specs.Tables.{Lists}
use Rattle.hy_redo.specs.Calls.{LogState}
use Rattle.hy_hyper_input.specs.Inputs.{InputState}
use Rattle.hy_hyper_service.specs.declared.service.ServiceFault.{ServiceFault}
use Rattle.hy_hyper_service.specs.declared.service.ServiceFault.TheVariants as faults
use Rattle.hy_hyper_service.specs.Endings.{EndsLife}
use Rattle.hy_hyper_service.specs.Rounds.{PrintsKept, ServesInput, ServiceState}

abbrev pub ready : List ℕ
ready = codes "ready commits"

abbrev pub closed : List ℕ
closed = codes "closed commits"

-- how many commits each warehouse has kept is printed at the begin, then all that the input says is served, and at the end it
-- is printed again
pub record IsLived (page_size : ℕ) (lists : Lists) (start : ServiceState) (before after : InputState) (log : LogState)
    (out : Option (List ℕ)) : Type 0 where
  pub first : ServiceState
  pub last : ServiceState
  pub ended : ServiceState
  pub begins : PrintsKept ready start first
  pub serves : ServesInput page_size lists first last before after
  pub ends : PrintsKept closed last ended
  pub log_is : log ≡ ended.log
  pub out_is : out ≡ ended.out

-- why it ended before: the output failed at the begin; or a round or the input ended it; or the output failed at the end
pub data IsCutOff (page_size : ℕ) (lists : Lists) (start : ServiceState) (before after : InputState) (log : LogState)
    (out : Option (List ℕ)) (has_failed : Bool) (why : ServiceFault) : Type 0 where
  at_begin : (error : Error) → why ≡ faults.Output error → IsTrue has_failed → after ≡ before → log ≡ start.log
      → IsCutOff page_size lists start before after log out has_failed why
  under_way : (first : ServiceState) → PrintsKept ready start first
      → EndsLife page_size lists first before after log out has_failed why
      → IsCutOff page_size lists start before after log out has_failed why
  at_end : (first last : ServiceState) → PrintsKept ready start first
      → ServesInput page_size lists first last before after → (error : Error) → why ≡ faults.Output error
      → IsTrue has_failed → log ≡ last.log → IsCutOff page_size lists start before after log out has_failed why
