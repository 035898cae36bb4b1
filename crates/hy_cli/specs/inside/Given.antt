-- What is given to a command where the parser takes the words.
use Rattle.std.specs.Prelude.{◌≡◌, ◌⊎◌, ⊤, List, [], ◌∷◌, codes}
use Rattle.std.specs.Prelude.{IfSome, IsSome, IsSomeAnd}
use Rattle.clap.specs.Walk.{first_of}
use Rattle.clap.specs.Words.{IsUnsignedIn, Row, Text, one_of}
use Rattle.hy_cli.specs.CommandLine.{IsNumber, Parameter, commands}
use Rattle.hy_cli.specs.CommandLine.{required_text, optional_text, named_text, required_number, optional_number}
use Rattle.hy_cli.specs.CommandLine.{bounded_number, required_within, flag}

-- the text is the word of a truth value
abbrev pub IsTruth : Text → Type 0
IsTruth text = (text ≡ codes "true") ⊎ (text ≡ codes "false")

abbrev pub IsGiven : List Row → Parameter → Type 0
IsGiven rows (required_text name) = IsSome (first_of name rows)
IsGiven rows (optional_text name) = ⊤
IsGiven rows (named_text name) = IsSome (first_of name rows)
IsGiven rows (required_number name) = IsSomeAnd (one_of name rows) IsNumber
IsGiven rows (optional_number name) = IfSome (one_of name rows) IsNumber
IsGiven rows (bounded_number low high name) = IfSome (one_of name rows) (IsUnsignedIn low high)
IsGiven rows (required_within low high name) = IsSomeAnd (one_of name rows) (IsUnsignedIn low high)
IsGiven rows (flag name) = IfSome (one_of name rows) IsTruth

-- each of the parameters is
abbrev pub AreGiven : List Row → List Parameter → Type 0
AreGiven rows [] = ⊤
AreGiven rows (parameter ∷ rest) = IsGiven rows parameter × AreGiven rows rest

-- the command is one of these, and its parameters are given
abbrev pub IsOneOf : List (Text × List Parameter) → Text × List Row → Type 0
IsOneOf [] command = ⊥
IsOneOf (known ∷ rest) command = ((command.0 ≡ known.0) × AreGiven command.1 known.1) ⊎ IsOneOf rest command

abbrev pub IsKnown : Text × List Row → Type 0
IsKnown = IsOneOf commands
