-- Laws on what is printed of scenarios.
use Rattle.std.proofs.Common.{◌≡◌, ◌∙◌, ◌+◌, ◌<◌, ◌++◌, ℕ, suc, Bool, true, false, Option, None, Some, List, [], ◌∷◌, add-one, ap, append_assoc, append-nil, get_or, is_none, is_some, length, not, refl, string_bytes, subst, sym, take}
use Rattle.std.proofs.Math.Seq.{take-suc}
use Rattle.hy_scenarios.specs.declared.report.Scenario.{Scenario}
use Rattle.hy_scenarios.specs.Reports.{AreReported, IsLine}
use Rattle.hy_scenarios.specs.Scenarios.{IsVerdict}

reported-one : (some : List Scenario) (verdicts : List Bool) (text : List ℕ) → AreReported some verdicts text
    → (scenario : Scenario) (holds : Bool) (line : List ℕ) → IsVerdict scenario.text.items holds
    → IsLine (string_bytes scenario.name) holds line
    → AreReported (some ++ scenario ∷ []) (verdicts ++ holds ∷ []) (text ++ line)
reported-one [] [] text none scenario holds line verdict is =
    (line, [], verdict, is, ap (λ t. t ++ line) none ∙ sym (append-nil line), refl)
reported-one [] (other ∷ verdicts) text none scenario holds line verdict is = absurd none
reported-one (first ∷ others) [] text none scenario holds line verdict is = absurd none
reported-one (first ∷ others) (one ∷ verdicts) text (front, later, first_verdict, first_is, whole, rest) scenario holds
    line verdict is = (
      front,
      later ++ line,
      first_verdict,
      first_is,
      ap (λ t. t ++ line) whole ∙ append_assoc front later line,
      reported-one others verdicts later rest scenario holds line verdict is,
    )

-- one scenario more
pub reported-more : (scenarios : List Scenario) (place : ℕ) (scenario : Scenario) → place < length scenarios
    → scenario ≡ get_or scenarios place scenario
    → (verdicts : List Bool) (text : List ℕ) → AreReported (take place scenarios) verdicts text
    → (holds : Bool) (line : List ℕ) → IsVerdict scenario.text.items holds
    → IsLine (string_bytes scenario.name) holds line
    → AreReported (take (place + 1) scenarios) (verdicts ++ holds ∷ []) (text ++ line)
reported-more scenarios place scenario within same verdicts text so_far holds line verdict is =
    let taken : take (suc place) scenarios ≡ take place scenarios ++ scenario ∷ [] =
    take-suc scenarios place scenario within ∙ ap (λ one. take place scenarios ++ one ∷ []) (sym same) in
    rw (add-one place, taken) (reported-one (take place scenarios) verdicts text so_far scenario holds line verdict is)

-- whether there is none, by whether there is some
pub none-is : {A : Type 0} (found : Option A) (answer : Bool) → is_some found ≡ not answer → answer ≡ is_none found
none-is None true is = refl
none-is None false is = absurd (cc)
none-is (Some value) true is = absurd (cc)
none-is (Some value) false is = refl
