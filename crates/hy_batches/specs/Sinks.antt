-- What a text keeps of the bytes that it is handed.
use Rattle.std.specs.Prelude.{◌≡◌, ℕ, List, [], ◌++◌, Option, None, Some}
use Rattle.std.proofs.Common.{append_assoc, sym, ap, ◌∙◌}
use Rattle.std.proofs.lemmas.List.{append-nil}

-- where it has its bytes now, it had them before too, and the new ones stand behind them
abbrev pub Keeps : Option (List ℕ) → Option (List ℕ) → List ℕ → Type 0
Keeps old None text = Unit {0}
Keeps None (Some now) text = ⊥
Keeps (Some before) (Some now) text = now ≡ before ++ text

pub keeps_none : (sink : Option (List ℕ)) → Keeps sink sink []
keeps_none None = tt
keeps_none (Some bytes) = sym (append-nil bytes)

pub keeps_both : (first second third : Option (List ℕ)) (front back : List ℕ) → Keeps first second front
    → Keeps second third back → Keeps first third (front ++ back)
keeps_both first second None front back one other = tt
keeps_both first None (Some now) front back one other = absurd other
keeps_both None (Some between) (Some now) front back one other = absurd one
keeps_both (Some before) (Some between) (Some now) front back one other =
    other ∙ (ap (λ bytes. bytes ++ back) one ∙ append_assoc before front back)
