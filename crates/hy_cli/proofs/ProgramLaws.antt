-- What a step of the builders makes of a command that the parser knows.
use Rattle.std.proofs.Common.{◌≡◌, ◌∙◌, Bool, false, ◌||◌, List, [], ◌∷◌, ◌++◌, ap, ap₂}
use Rattle.clap.specs.Built.{AddsArg, AddsSubcommand}
use Rattle.clap.specs.Simple.{App, Shape, app_of, new_shape, shape_of, with_subcommand}
use Rattle.clap.specs.Walk.{Rule, Text, rule_of}
use Rattle.clap.specs.declared.builder.arg.Arg.{Arg}
use Rattle.clap.specs.declared.builder.command.Command.{Command}
use Rattle.clap.specs.declared.builder.command.Command.TheViews.{out-Command}

-- the command has these arguments and nothing else
abbrev pub HasRules : Text → List Rule → Command → Type 0
HasRules name rules command = (shape_of command ≡ record (new_shape name) { rules = rules }) × ((out-Command command).has_globals ≡ false)

-- one argument more
pub adds : (name : Text) (rules : List Rule) (rule : Rule) (old new : Command) (arg : Arg) → HasRules name rules old
    → (rule_of arg ≡ rule) × (arg.global ≡ false) → AddsArg old arg new → HasRules name (rules ++ rule ∷ []) new
adds name rules rule old new arg was is added = (
  ap (λ (a : App). a.top) (added.shape is.1) ∙ ap₂ (λ (s : Shape) (r : Rule). record s { rules = s.rules ++ r ∷ [] }) was.0 is.0,
  added.globals ∙ ap₂ (λ (a b : Bool). a || b) was.1 is.1,
)

abbrev pub IsApp : App → Command → Type 0
IsApp app command = (app_of command ≡ app) × ((out-Command command).has_globals ≡ false)

-- one command more
pub adds_command : (app : App) (shape : Shape) (old sub new : Command) → IsApp app old → (shape_of sub ≡ shape) × ((out-Command sub).has_globals ≡ false)
    → AddsSubcommand old sub new → IsApp (with_subcommand app shape) new
adds_command app shape old sub new was is added =
    (added.shape is.1 ∙ ap₂ with_subcommand was.0 is.0, added.globals ∙ ap₂ (λ (a b : Bool). a || b) was.1 is.1)
