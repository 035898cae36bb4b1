-- What is printed of scenarios.
use Rattle.std.specs.Prelude.{◌≡◌, ◌==◌, ℕ, ◌++◌, Bool, true, false, if◌then◌else◌, List, [], ◌∷◌, Option, None, Some, bytes_eq, codes, filter, length, not, string_bytes}
use Rattle.std.specs.Fmt.{decimal}
use Rattle.hy_scenarios.specs.declared.report.Scenario.{Scenario}
use Rattle.hy_scenarios.specs.Scenarios.{IsVerdict}

-- the line of a scenario that holds, and that of one that doesn't, which goes on with the reason
abbrev pub IsLine : List ℕ → Bool → List ℕ → Type 0
IsLine name true line = line ≡ name ++ codes " holds\n"
IsLine name false line = (why : List ℕ) × (line ≡ name ++ codes " fails: " ++ why)

-- each scenario has its verdict, and its line
abbrev pub AreReported : List Scenario → List Bool → List ℕ → Type 0
AreReported [] [] text = text ≡ []
AreReported (scenario ∷ others) (holds ∷ verdicts) text = (line : List ℕ) × (later : List ℕ)
    × IsVerdict scenario.text.items holds × IsLine (string_bytes scenario.name) holds line × (text ≡ line ++ later)
    × AreReported others verdicts later
AreReported [] (holds ∷ verdicts) text = ⊥
AreReported (scenario ∷ others) [] text = ⊥

-- how many of them don't hold
abbrev pub failed_in : List Bool → ℕ
failed_in verdicts = length (filter not verdicts)

abbrev pub closing_line : ℕ → ℕ → List ℕ
closing_line total failed =
    if failed == 0 then decimal total ++ codes " scenarios hold\n"
    else decimal failed ++ codes " of " ++ decimal total ++ codes " scenarios fail\n"

-- the lines of all scenarios, and behind them the one that says whether all hold
abbrev pub IsReport : List Scenario → List ℕ → Bool → Type 0
IsReport scenarios text all_hold = (verdicts : List Bool) × (lines : List ℕ) × AreReported scenarios verdicts lines
    × (text ≡ lines ++ closing_line (length scenarios) (failed_in verdicts)) × (all_hold ≡ (failed_in verdicts == 0))

-- the first line in which two texts differ, as it is in each
abbrev pub is_line : Option (List ℕ) → List ℕ → Bool
is_line None other = false
is_line (Some line) other = bytes_eq line other

abbrev pub first_other : List (List ℕ) → List (List ℕ) → Option (Option (List ℕ) × Option (List ℕ))
first_other [] [] = None
first_other [] (wanted ∷ later) = Some (None, Some wanted)
first_other (printed ∷ later) [] = Some (Some printed, None)
first_other (printed ∷ later) (wanted ∷ others) =
    if bytes_eq wanted printed then first_other later others else Some (Some printed, Some wanted)
