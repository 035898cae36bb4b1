-- Scripts on a database without warehouses, up to a bad event.
use Rattle.std.proofs.Common.{[], None, Some, ap, codes, inl, inr, refl, sym}
use Rattle.std.specs.Prelude.{bytes_eq}
use Rattle.std.specs.Fmt.{digits}
use Rattle.std.proofs.lemmas.Bool.{false≢true}
use Rattle.hy_events.specs.declared.event.Event.TheVariants as events
use Rattle.hy_events.specs.Lines.{lines, numbered}
use Rattle.hy_decimal.specs.Numbers.{number_of as number_in}
use Rattle.hy_script.specs.declared.answer.Request.TheVariants as requests
use Rattle.hy_script.specs.Answers.{Answers, Asks}
use Rattle.hy_script.specs.Databases.{DatabaseState}
use Rattle.hy_script.specs.Scripts.{IsBad, Prints}
use Rattle.hy_script.specs.WorkedScripts.{payment_of, small_payment_of}

-- a database without warehouses
abbrev nothing : DatabaseState
nothing = record { parts = []; snapshots = []; log = [] }

warehouse_0_is_not_there : Asks 0 requests.Step nothing nothing (codes "refused E4 NoSuchWarehouse\n")
warehouse_0_is_not_there = (refl, refl)

-- a home that isn't there comes before all else, also before a value out of range, and for a command over two warehouses
crossing_without_its_home : Answers 256 (events.Run (payment_of 2)) nothing nothing (codes "refused E4 NoSuchWarehouse\n")
crossing_without_its_home = (refl, refl)

no_range_without_its_home : Answers 256 (events.Run (small_payment_of 2)) nothing nothing (codes "refused E8 OutOfRange\n")
    → ⊥
no_range_without_its_home answers = false≢true (sym (ap (bytes_eq (codes "refused E8 OutOfRange\n")) answers.1))

command_without_its_home : Answers 256 (events.Run (payment_of 1)) nothing nothing
    (codes "refused E4 NoSuchWarehouse\n")
command_without_its_home = (refl, refl)

nothing_printed : Prints 256 (numbered 1 (lines [])) nothing [] None
nothing_printed = (refl, refl)

name_that_is_not_open : IsBad nothing (codes "close A")
name_that_is_not_open = ((λ same. absurd (cc)), (λ has. has.1))

-- an empty line, a refused event, and a line that says none, at which the script ends
refused_and_bad : Prints 256 (numbered 1 (lines (codes "\ndone 7\nx\nstep 1"))) nothing
    (codes "refused E4 NoSuchWarehouse\n") (Some 3)
unfolding number_in digits
refused_and_bad = inr (
  nothing,
  [],
  _,
  inl (refl, refl, refl),
  refl,
  inr (
    nothing,
    _,
    [],
    inr (inl (events.Done 7, refl, (refl, refl))),
    refl,
    inl (((λ same. absurd (cc)), tt), refl, refl),
  ),
)
