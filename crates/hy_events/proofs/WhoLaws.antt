-- A customer is a last name behind `=`, or a number.
use Rattle.std.specs.Prelude.{◌≡◌, ◌≢◌, ℕ, List, [], ◌∷◌, length, get_or, None, option_map, refl}
use Rattle.std.proofs.Common.{arith, ap, sym}
use Rattle.std.proofs.lemmas.Bool.{ne_eqb}
use Rattle.hy_commands.specs.declared.command.Who.TheVariants as who
use Rattle.hy_events.specs.Events.{who_of}
use Rattle.hy_events.specs.Words.{number_of}
use Rattle.hy_decimal.proofs.NumberLaws.{not_written}

no_number : number_of [] ≡ None
no_number = sym (not_written [] (λ written. omega (arith, written.some)))

pub none-first : (word : List ℕ) → length word ≡ 0 → get_or word 0 0 ≢ 61
none-first [] none = λ is. omega (arith, is)
none-first (byte ∷ later) none = absurd (omega (arith, none))

pub who-number : (word : List ℕ) → get_or word 0 0 ≢ 61 → option_map who.Number (number_of word) ≡ who_of word
who-number [] other = ap (option_map who.Number) no_number
who-number (byte ∷ later) other = rw (ne_eqb byte 61 other) refl
