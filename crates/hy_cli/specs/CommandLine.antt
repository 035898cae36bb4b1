-- The command line of the program: what it takes, and what its words say.
use Rattle.std.specs.Prelude.{◌≡◌, ◌≢◌, ◌≤◌, ⊤, ℕ, Bool, true, false, List, [], ◌∷◌, Option, Some, Ok, codes, map}
use Rattle.std.specs.Prelude.{IsSomeAnd, MatchOption}
use Rattle.std.specs.Borrow.{Bor}
use Rattle.std.specs.Option.{option_copied}
use Rattle.std.specs.Str.Parse.{ParsesUnsigned}
use Rattle.std.specs.declared.num.ParseIntError.{ParseIntError}
use Rattle.clap.specs.Walk.{first_of}
use Rattle.clap.specs.Words.{App, Row, Rule, Shape, Text, new_rule, one_of, subcommand_of, IsAmong, IsUnsignedIn}
use Rattle.clap.specs.Values.{bool_text, kind_of}
use Rattle.clap.specs.Faults.{fault_of}
use Rattle.clap.specs.Simple.{new_shape}
use Rattle.clap.specs.declared.builder.action.ArgAction.TheVariants as action
use Rattle.clap.specs.declared.builder.value_parser.ValueParser.TheVariants as parser
use Rattle.clap.specs.declared.error.Error.{Error}
use Rattle.clap.specs.declared.error.kind.ErrorKind.TheVariants as kind
use Rattle.hy_cli.specs.declared.words.Line.{Line}
use Rattle.hy_cli.specs.declared.words.Line.TheVariants as line
use Rattle.hy_cli.specs.declared.words.LineFault.{LineFault}
use Rattle.hy_cli.specs.declared.words.LineFault.TheVariants as fault

-- ---- what the program takes

-- a parameter of a command: any word at its place, `--name TEXT` that may be left out, `--name TEXT`, `--name NUMBER`,
-- `--name NUMBER` that may be left out, either of the last two, that which may be left out first, with a number that is at
-- least the first and at most the second of two others, or `--name` alone, which may be left out
pub data Parameter : Type 0 where
  required_text : Text → Parameter
  optional_text : Text → Parameter
  named_text : Text → Parameter
  required_number : Text → Parameter
  optional_number : Text → Parameter
  bounded_number : ℕ → ℕ → Text → Parameter
  required_within : ℕ → ℕ → Text → Parameter
  flag : Text → Parameter

-- a word at its place; where several have one, they come in the order of the parameters
abbrev pub text_rule : Text → Rule
text_rule name = record (new_rule name) { value_names = 1 }

-- `--name TEXT`
abbrev pub option_rule : Text → Rule
option_rule name = record (new_rule name) { long = Some name; value_names = 1 }

-- `--name NUMBER`, where the number is within bounds
abbrev pub bounded_rule : ℕ → ℕ → Text → Rule
bounded_rule low high name = record (new_rule name) {
  long = Some name;
  value_names = 1;
  parser = Some (parser.Unsigned low high);
}

-- `--name NUMBER`, where the number is one of 64 bits
abbrev pub number_rule : Text → Rule
number_rule = bounded_rule 0 18446744073709551615

-- `--name`
abbrev pub flag_rule : Text → Rule
flag_rule name = record (new_rule name) { long = Some name; action = Some action.SetTrue }

-- it has to be given
abbrev pub required : Rule → Rule
required rule = record rule { required = true }

-- what the parser knows of a parameter
abbrev pub rule_for : Parameter → Rule
rule_for (required_text name) = required (text_rule name)
rule_for (optional_text name) = option_rule name
rule_for (named_text name) = required (option_rule name)
rule_for (required_number name) = required (number_rule name)
rule_for (optional_number name) = number_rule name
rule_for (bounded_number low high name) = bounded_rule low high name
rule_for (required_within low high name) = required (bounded_rule low high name)
rule_for (flag name) = flag_rule name

-- `first [--amount CENTS]`
abbrev pub first_parameters : List Parameter
first_parameters = optional_number (codes "amount") ∷ []

-- `gen DIR --warehouses W --customers C --items I`
abbrev pub generate_parameters : List Parameter
generate_parameters = required_text (codes "directory") ∷ required_number (codes "warehouses")
    ∷ required_number (codes "customers") ∷ required_number (codes "items") ∷ []

-- `check DIR [--log FILE]`
abbrev pub check_parameters : List Parameter
check_parameters = required_text (codes "directory") ∷ optional_text (codes "log") ∷ []

-- how many frames each partition may have at most, and how many commits it may keep
abbrev pub most_frames : ℕ
most_frames = 10_000_000

abbrev pub most_kept : ℕ
most_kept = 100_000_000

-- `script DIR FILE [--frames F] [--kept K]`
abbrev pub script_parameters : List Parameter
script_parameters = required_text (codes "directory") ∷ required_text (codes "file")
    ∷ bounded_number 1 most_frames (codes "frames") ∷ bounded_number 1 most_kept (codes "kept") ∷ []

-- `serve DIR --log FILE [--frames F] [--kept K] [--numbered]`
abbrev pub serve_parameters : List Parameter
serve_parameters = required_text (codes "directory") ∷ named_text (codes "log")
    ∷ bounded_number 1 most_frames (codes "frames") ∷ bounded_number 1 most_kept (codes "kept") ∷ flag (codes "numbered")
    ∷ []

-- `query DIR TEXT [--log FILE]`
abbrev pub query_parameters : List Parameter
query_parameters = required_text (codes "directory") ∷ required_text (codes "text") ∷ optional_text (codes "log") ∷ []

-- how many terminals and sessions a storm has at most, and how many commands a terminal hands in
abbrev pub most_terminals : ℕ
most_terminals = 64

abbrev pub most_sessions : ℕ
most_sessions = 16

abbrev pub most_commands : ℕ
most_commands = 100_000

-- `storm DIR --terminals T --sessions S --commands K [--log FILE]`
abbrev pub storm_parameters : List Parameter
storm_parameters = required_text (codes "directory") ∷ required_within 1 most_terminals (codes "terminals")
    ∷ required_within 0 most_sessions (codes "sessions") ∷ required_within 0 most_commands (codes "commands")
    ∷ optional_text (codes "log") ∷ []

-- `recover DIR LOG [--out DIR2]`
abbrev pub recover_parameters : List Parameter
recover_parameters = required_text (codes "directory") ∷ required_text (codes "log") ∷ optional_text (codes "out") ∷ []

-- what the parser knows of a command
abbrev pub command_of : Text → List Parameter → Shape
command_of name parameters = record (new_shape name) { rules = map rule_for parameters }

-- the commands with their parameters
abbrev pub commands : List (Text × List Parameter)
commands = (codes "first", first_parameters) ∷ (codes "gen", generate_parameters) ∷ (codes "check", check_parameters)
    ∷ (codes "script", script_parameters) ∷ (codes "serve", serve_parameters) ∷ (codes "query", query_parameters)
    ∷ (codes "storm", storm_parameters) ∷ (codes "recover", recover_parameters) ∷ []

-- the program without its commands
abbrev pub bare_app : App
bare_app = record {
  top = record (new_shape (codes "hyper")) {
    no_binary_name = true;
    subcommand_required = true;
    disable_help_subcommand = true;
  };
  subs = [];
}

-- the program, which wants one of its commands
abbrev pub program_app : App
program_app = record {
  top = record (new_shape (codes "hyper")) {
    is_leaf = false;
    no_binary_name = true;
    subcommand_required = true;
    disable_help_subcommand = true;
  };
  subs = map (λ command. command_of command.0 command.1) commands;
}

-- ---- what the words say

-- the texts behind references
abbrev pub texts_of : List (Bor Text) → List Text
texts_of = map (λ word. word.now)

-- the parser takes the words
abbrev pub AreTaken : List Text → Type 0
AreTaken words = fault_of program_app words ≡ []

-- the text spells a number of 64 bits
abbrev pub IsNumber : Text → Type 0
IsNumber = IsUnsignedIn 0 18446744073709551615

-- the text spells this number
abbrev pub Spells : ℕ → Text → Type 0
Spells number text = ParsesUnsigned {E = ParseIntError} 64 10 text (Ok number)

-- what is given for the name is this text
abbrev pub SaysText : Text → List Row → Text → Type 0
SaysText name rows text = first_of name rows ≡ Some text

-- what is given for the name is this text, and where nothing is, there is none
abbrev pub SaysTextOrNone : Text → List Row → Option Text → Type 0
SaysTextOrNone name rows text = first_of name rows ≡ text

-- what is given for the name spells this number
abbrev pub SaysNumber : Text → List Row → ℕ → Type 0
SaysNumber name rows number = IsSomeAnd (one_of name rows) (Spells number)

-- what is given for the name spells this number, or where nothing is, it is `default`
abbrev pub SaysNumberOr : ℕ → Text → List Row → ℕ → Type 0
SaysNumberOr default name rows number = MatchOption (one_of name rows) (number ≡ default) (Spells number)

-- the flag of the name is given or not, which the parser holds as `true` or `false`; where it holds nothing, it isn't given
abbrev pub SaysFlag : Text → List Row → Bool → Type 0
SaysFlag name rows is_given = MatchOption (one_of name rows) (is_given ≡ false) (λ text. text ≡ bool_text is_given)

-- a command's name and what is given to it say this command line
abbrev pub SaysLine : Text × List Row → Line → Type 0
SaysLine command (line.First amount) = (command.0 ≡ codes "first")
    × SaysNumberOr 100 (codes "amount") command.1 amount
SaysLine command (line.Generate directory warehouses customers items) = (command.0 ≡ codes "gen")
    × SaysText (codes "directory") command.1 directory.now
    × SaysNumber (codes "warehouses") command.1 warehouses
    × SaysNumber (codes "customers") command.1 customers
    × SaysNumber (codes "items") command.1 items
SaysLine command (line.Check directory log) = (command.0 ≡ codes "check")
    × SaysText (codes "directory") command.1 directory.now
    × SaysTextOrNone (codes "log") command.1 (option_copied log)
SaysLine command (line.Script directory file frames kept) = (command.0 ≡ codes "script")
    × SaysText (codes "directory") command.1 directory.now
    × SaysText (codes "file") command.1 file.now
    × SaysNumberOr 100_000 (codes "frames") command.1 frames
    × SaysNumberOr 1_000_000 (codes "kept") command.1 kept
SaysLine command (line.Serve directory log frames kept is_numbered) = (command.0 ≡ codes "serve")
    × SaysText (codes "directory") command.1 directory.now
    × SaysText (codes "log") command.1 log.now
    × SaysNumberOr most_frames (codes "frames") command.1 frames
    × SaysNumberOr most_kept (codes "kept") command.1 kept
    × SaysFlag (codes "numbered") command.1 is_numbered
SaysLine command (line.Query directory text log) = (command.0 ≡ codes "query")
    × SaysText (codes "directory") command.1 directory.now
    × SaysText (codes "text") command.1 text.now
    × SaysTextOrNone (codes "log") command.1 (option_copied log)
SaysLine command (line.Storm directory terminals sessions commands log) = (command.0 ≡ codes "storm")
    × SaysText (codes "directory") command.1 directory.now
    × SaysNumber (codes "terminals") command.1 terminals
    × SaysNumber (codes "sessions") command.1 sessions
    × SaysNumber (codes "commands") command.1 commands
    × SaysTextOrNone (codes "log") command.1 (option_copied log)
SaysLine command (line.Recover directory log out) = (command.0 ≡ codes "recover")
    × SaysText (codes "directory") command.1 directory.now
    × SaysText (codes "log") command.1 log.now
    × SaysTextOrNone (codes "out") command.1 (option_copied out)

-- a number is at least one and at most another
abbrev pub IsIn : ℕ → ℕ → ℕ → Type 0
IsIn low high number = (low ≤ number) × (number ≤ high)

-- a command line's limits are ones that a partition may have, and a storm's size is one that a storm may have
abbrev pub HasLimits : Line → Type 0
HasLimits (line.Script directory file frames kept) = IsIn 1 most_frames frames × IsIn 1 most_kept kept
HasLimits (line.Serve directory log frames kept is_numbered) = IsIn 1 most_frames frames × IsIn 1 most_kept kept
HasLimits (line.Storm directory terminals sessions commands log) =
    IsIn 1 most_terminals terminals × IsIn 0 most_sessions sessions × IsIn 0 most_commands commands
HasLimits other = ⊤

-- the words say this command line
abbrev pub Says : List Text → Line → Type 0
Says words said = AreTaken words × IsSomeAnd (subcommand_of program_app words) (λ command. SaysLine command said)

-- the words have this fault; memory may be refused at any words
abbrev pub HasFault : List Text → LineFault → Type 0
HasFault words (fault.Parser error) = IsAmong (kind_of error) (fault_of program_app words)
HasFault words fault.NoMemory = ⊤

-- the fault behind an error of the parser: it keeps each error but the one that says that memory ran out
abbrev pub IsBehind : Error → LineFault → Type 0
IsBehind error (fault.Parser kept) = (kept ≡ error) × (kind_of error ≢ kind.OutOfMemory)
IsBehind error fault.NoMemory = kind_of error ≡ kind.OutOfMemory
