-- Worked examples, which the checker computes: what words say, and which faults they have.
use Rattle.std.specs.Prelude.{◌≡◌, Option, None, Some, List, [], ◌∷◌, true, false, codes, option_map, refl}
use Rattle.std.specs.Borrow.{Bor}
use Rattle.clap.specs.Walk.{first_of}
use Rattle.clap.specs.Words.{Text, one_of, subcommand_of}
use Rattle.clap.specs.Faults.{fault_of}
use Rattle.clap.proofs.OnLiterals.{clap_on_literals}
use Rattle.clap.specs.declared.error.kind.ErrorKind.TheVariants as kind
use Rattle.hy_cli.specs.declared.words.Line.TheVariants as line
use Rattle.hy_cli.specs.CommandLine.{Says, program_app}

-- a reference to a text
abbrev pub reference_to : Text → Bor Text
reference_to text = record { ref_ptr = (0, 0); now = text }

-- the command that words name, with the text of `--amount`
abbrev pub amount_text : List Text → Option (Text × Option Text)
amount_text words =
    option_map (λ command. (command.0, one_of (codes "amount") command.1)) (subcommand_of program_app words)

-- the command that words name, with the text of `DIR`
abbrev pub directory_text : List Text → Option (Text × Option Text)
directory_text words =
    option_map (λ command. (command.0, first_of (codes "directory") command.1)) (subcommand_of program_app words)

-- the texts of the three numbers of `gen`
abbrev pub number_texts : List Text → Option (Option Text × Option Text × Option Text)
number_texts words = option_map (λ command. (
  one_of (codes "warehouses") command.1,
  one_of (codes "customers") command.1,
  one_of (codes "items") command.1,
)) (subcommand_of program_app words)

-- `first` alone is a payment of 1.00
pub first-says : Says (codes "first" ∷ []) (line.First 100)
unfolding clap_on_literals
first-says = (refl, (refl, refl))

-- an amount behind a space, or behind `=`
pub amount-taken : fault_of program_app (codes "first" ∷ codes "--amount" ∷ codes "7" ∷ []) ≡ []
unfolding clap_on_literals
amount-taken = refl

pub amount-text : amount_text (codes "first" ∷ codes "--amount" ∷ codes "7" ∷ [])
    ≡ Some (codes "first", Some (codes "7"))
unfolding clap_on_literals
amount-text = refl

pub equals-taken : fault_of program_app (codes "first" ∷ codes "--amount=7" ∷ []) ≡ []
unfolding clap_on_literals
equals-taken = refl

pub equals-text : amount_text (codes "first" ∷ codes "--amount=7" ∷ []) ≡ Some (codes "first", Some (codes "7"))
unfolding clap_on_literals
equals-text = refl

-- 2^64 is no number of 64 bits, and `x` is no number
pub large-refused : fault_of program_app (codes "first" ∷ codes "--amount" ∷ codes "18446744073709551616" ∷ [])
    ≡ kind.ValueValidation ∷ []
unfolding clap_on_literals
large-refused = refl

pub letter-refused : fault_of program_app (codes "first" ∷ codes "--amount" ∷ codes "x" ∷ [])
    ≡ kind.ValueValidation ∷ []
unfolding clap_on_literals
letter-refused = refl

-- a folder and three numbers, in any order
abbrev pub four_given : List Text
four_given = codes "gen" ∷ codes "--items=4" ∷ codes "d" ∷ codes "--customers" ∷ codes "3" ∷ codes "--warehouses=2"
    ∷ []

pub four-taken : fault_of program_app four_given ≡ []
unfolding clap_on_literals
four-taken = refl

pub four-directory : directory_text four_given ≡ Some (codes "gen", Some (codes "d"))
unfolding clap_on_literals
four-directory = refl

pub four-numbers : number_texts four_given ≡ Some (Some (codes "2"), Some (codes "3"), Some (codes "4"))
unfolding clap_on_literals
four-numbers = refl

-- one of them is missing
pub items-missing : fault_of program_app
    (codes "gen" ∷ codes "d" ∷ codes "--warehouses=2" ∷ codes "--customers=3" ∷ []) ≡ kind.MissingRequiredArgument ∷ []
unfolding clap_on_literals
items-missing = refl

pub directory-missing : fault_of program_app (codes "check" ∷ []) ≡ kind.MissingRequiredArgument ∷ []
unfolding clap_on_literals
directory-missing = refl

-- the folder is any word, also the empty one, and behind `--` also one with two hyphens
pub check-taken : fault_of program_app (codes "check" ∷ [] ∷ []) ≡ []
unfolding clap_on_literals
check-taken = refl

pub check-directory : directory_text (codes "check" ∷ [] ∷ []) ≡ Some (codes "check", Some [])
unfolding clap_on_literals
check-directory = refl

pub hyphens-directory : directory_text (codes "check" ∷ codes "--" ∷ codes "--d" ∷ [])
    ≡ Some (codes "check", Some (codes "--d"))
unfolding clap_on_literals
hyphens-directory = refl

-- a check with a log, and one without
abbrev pub log_text : List Text → Option (Option Text)
log_text words = option_map (λ command. first_of (codes "log") command.1) (subcommand_of program_app words)

pub check-says : Says (codes "check" ∷ codes "d" ∷ codes "--log" ∷ codes "f" ∷ [])
    (line.Check (reference_to (codes "d")) (Some (reference_to (codes "f"))))
unfolding clap_on_literals
check-says = (refl, (refl, refl, refl))

pub check_alone-says : Says (codes "check" ∷ codes "d" ∷ []) (line.Check (reference_to (codes "d")) None)
unfolding clap_on_literals
check_alone-says = (refl, (refl, refl, refl))

-- a log is one word behind its option
pub check_log-refused : fault_of program_app (codes "check" ∷ codes "d" ∷ codes "f" ∷ []) ≡ kind.UnknownArgument ∷ []
unfolding clap_on_literals
check_log-refused = refl

-- no word, another word, and the words for help
pub nothing-refused : fault_of program_app [] ≡ kind.MissingSubcommand ∷ []
unfolding clap_on_literals
nothing-refused = refl

pub other-refused : fault_of program_app (codes "second" ∷ []) ≡ kind.UnknownArgument ∷ kind.InvalidSubcommand ∷ []
unfolding clap_on_literals
other-refused = refl

pub help-refused : fault_of program_app (codes "help" ∷ []) ≡ kind.UnknownArgument ∷ kind.InvalidSubcommand ∷ []
unfolding clap_on_literals
help-refused = refl

pub help_option-refused : fault_of program_app (codes "--help" ∷ []) ≡ kind.DisplayHelp ∷ []
unfolding clap_on_literals
help_option-refused = refl

-- a folder, a file and two limits, the greatest that there are
abbrev pub script_given : List Text
script_given = codes "script" ∷ codes "d" ∷ codes "--kept=100000000" ∷ codes "f" ∷ codes "--frames" ∷ codes "10000000" ∷ []

pub script-taken : fault_of program_app script_given ≡ []
unfolding clap_on_literals
script-taken = refl

-- the texts of the folder, of the file and of both limits
abbrev pub script_texts : List Text → Option (Option Text × Option Text × Option Text × Option Text)
script_texts words = option_map (λ command. (
  first_of (codes "directory") command.1,
  first_of (codes "file") command.1,
  one_of (codes "frames") command.1,
  one_of (codes "kept") command.1,
)) (subcommand_of program_app words)

pub script-texts : script_texts script_given
    ≡ Some (Some (codes "d"), Some (codes "f"), Some (codes "10000000"), Some (codes "100000000"))
unfolding clap_on_literals
script-texts = refl

-- one frame more than the greatest limit, and a limit of no commits
pub frames-refused : fault_of program_app
    (codes "script" ∷ codes "d" ∷ codes "f" ∷ codes "--frames" ∷ codes "10000001" ∷ []) ≡ kind.ValueValidation ∷ []
unfolding clap_on_literals
frames-refused = refl

pub kept-refused : fault_of program_app (codes "script" ∷ codes "d" ∷ codes "f" ∷ codes "--kept" ∷ codes "0" ∷ [])
    ≡ kind.ValueValidation ∷ []
unfolding clap_on_literals
kept-refused = refl

-- a folder and a log: the limits are the greatest that there are, and answers have no numbers
pub serve-says : Says (codes "serve" ∷ codes "d" ∷ codes "--log" ∷ codes "f" ∷ [])
    (line.Serve (reference_to (codes "d")) (reference_to (codes "f")) 10_000_000 100_000_000 false)
unfolding clap_on_literals
serve-says = (refl, (refl, refl, refl, refl, refl, refl))

-- with numbers
pub numbered-says : Says (codes "serve" ∷ codes "--numbered" ∷ codes "d" ∷ codes "--log=f" ∷ [])
    (line.Serve (reference_to (codes "d")) (reference_to (codes "f")) 10_000_000 100_000_000 true)
unfolding clap_on_literals
numbered-says = (refl, (refl, refl, refl, refl, refl, refl))

-- all options, in any order
abbrev pub serve_given : List Text
serve_given = codes "serve" ∷ codes "--kept=1" ∷ codes "--numbered" ∷ codes "--log=f" ∷ codes "d" ∷ codes "--frames"
    ∷ codes "10000000" ∷ []

pub serve-taken : fault_of program_app serve_given ≡ []
unfolding clap_on_literals
serve-taken = refl

-- the texts of the folder, of the log, of both limits and of the flag
abbrev pub serve_texts : List Text
    → Option (Option Text × Option Text × Option Text × Option Text × Option Text)
serve_texts words = option_map (λ command. (
  first_of (codes "directory") command.1,
  first_of (codes "log") command.1,
  one_of (codes "frames") command.1,
  one_of (codes "kept") command.1,
  one_of (codes "numbered") command.1,
)) (subcommand_of program_app words)

pub serve-texts : serve_texts serve_given
    ≡ Some (Some (codes "d"), Some (codes "f"), Some (codes "10000000"), Some (codes "1"), Some (codes "true"))
unfolding clap_on_literals
serve-texts = refl

-- without a log
pub serve_log-missing : fault_of program_app (codes "serve" ∷ codes "d" ∷ codes "--numbered" ∷ [])
    ≡ kind.MissingRequiredArgument ∷ []
unfolding clap_on_literals
serve_log-missing = refl

-- no frame, one frame more than the greatest limit, and the same of commits
pub no_frame-refused : fault_of program_app
    (codes "serve" ∷ codes "d" ∷ codes "--log=f" ∷ codes "--frames" ∷ codes "0" ∷ []) ≡ kind.ValueValidation ∷ []
unfolding clap_on_literals
no_frame-refused = refl

pub serve_frames-refused : fault_of program_app
    (codes "serve" ∷ codes "d" ∷ codes "--log=f" ∷ codes "--frames" ∷ codes "10000001" ∷ [])
    ≡ kind.ValueValidation ∷ []
unfolding clap_on_literals
serve_frames-refused = refl

pub no_commit-refused : fault_of program_app
    (codes "serve" ∷ codes "d" ∷ codes "--log=f" ∷ codes "--kept=0" ∷ []) ≡ kind.ValueValidation ∷ []
unfolding clap_on_literals
no_commit-refused = refl

pub serve_kept-refused : fault_of program_app
    (codes "serve" ∷ codes "d" ∷ codes "--log=f" ∷ codes "--kept=100000001" ∷ []) ≡ kind.ValueValidation ∷ []
unfolding clap_on_literals
serve_kept-refused = refl

-- the flag twice, and with a value
pub flag_again-refused : fault_of program_app
    (codes "serve" ∷ codes "d" ∷ codes "--log=f" ∷ codes "--numbered" ∷ codes "--numbered" ∷ [])
    ≡ kind.ArgumentConflict ∷ []
unfolding clap_on_literals
flag_again-refused = refl

pub flag_value-refused : fault_of program_app
    (codes "serve" ∷ codes "d" ∷ codes "--log=f" ∷ codes "--numbered=true" ∷ []) ≡ kind.TooManyValues ∷ []
unfolding clap_on_literals
flag_value-refused = refl

-- a folder and a query, which is one word
abbrev pub query_given : List Text
query_given = codes "query" ∷ codes "d" ∷ codes "from item select count" ∷ []

pub query-taken : fault_of program_app query_given ≡ []
unfolding clap_on_literals
query-taken = refl

-- the texts of the folder and of the query
abbrev pub query_texts : List Text → Option (Option Text × Option Text)
query_texts words = option_map (λ command. (first_of (codes "directory") command.1, first_of (codes "text") command.1))
    (subcommand_of program_app words)

pub query-text : query_texts query_given ≡ Some (Some (codes "d"), Some (codes "from item select count"))
unfolding clap_on_literals
query-text = refl

-- a query with a log, and one without
pub query-says : Says (codes "query" ∷ codes "d" ∷ codes "--log" ∷ codes "f" ∷ codes "q" ∷ [])
    (line.Query (reference_to (codes "d")) (reference_to (codes "q")) (Some (reference_to (codes "f"))))
unfolding clap_on_literals
query-says = (refl, (refl, refl, refl, refl))

pub query_alone-says : Says (codes "query" ∷ codes "d" ∷ codes "q" ∷ [])
    (line.Query (reference_to (codes "d")) (reference_to (codes "q")) None)
unfolding clap_on_literals
query_alone-says = (refl, (refl, refl, refl, refl))

-- a query of several words
pub words-refused : fault_of program_app (codes "query" ∷ codes "d" ∷ codes "from" ∷ codes "item" ∷ [])
    ≡ kind.UnknownArgument ∷ []
unfolding clap_on_literals
words-refused = refl

-- a folder and three numbers, the greatest that a storm may have
abbrev pub storm_given : List Text
storm_given = codes "storm" ∷ codes "--commands=100000" ∷ codes "d" ∷ codes "--terminals" ∷ codes "64"
    ∷ codes "--sessions=16" ∷ []

pub storm-taken : fault_of program_app storm_given ≡ []
unfolding clap_on_literals
storm-taken = refl

-- the texts of the folder and of the three numbers
abbrev pub storm_texts : List Text → Option (Option Text × Option Text × Option Text × Option Text)
storm_texts words = option_map (λ command. (
  first_of (codes "directory") command.1,
  one_of (codes "terminals") command.1,
  one_of (codes "sessions") command.1,
  one_of (codes "commands") command.1,
)) (subcommand_of program_app words)

pub storm-texts : storm_texts storm_given
    ≡ Some (Some (codes "d"), Some (codes "64"), Some (codes "16"), Some (codes "100000"))
unfolding clap_on_literals
storm-texts = refl

-- one terminal more, none, and no number of sessions
pub terminals-refused : fault_of program_app
    (codes "storm" ∷ codes "d" ∷ codes "--terminals=65" ∷ codes "--sessions=0" ∷ codes "--commands=0" ∷ [])
    ≡ kind.ValueValidation ∷ []
unfolding clap_on_literals
terminals-refused = refl

pub no_terminal-refused : fault_of program_app
    (codes "storm" ∷ codes "d" ∷ codes "--terminals=0" ∷ codes "--sessions=0" ∷ codes "--commands=0" ∷ [])
    ≡ kind.ValueValidation ∷ []
unfolding clap_on_literals
no_terminal-refused = refl

pub sessions-missing : fault_of program_app
    (codes "storm" ∷ codes "d" ∷ codes "--terminals=1" ∷ codes "--commands=0" ∷ []) ≡ kind.MissingRequiredArgument ∷ []
unfolding clap_on_literals
sessions-missing = refl

-- a storm with a log, and one without
abbrev pub logged_given : List Text
logged_given = codes "storm" ∷ codes "d" ∷ codes "--terminals=1" ∷ codes "--log" ∷ codes "l" ∷ codes "--sessions=0"
    ∷ codes "--commands=5" ∷ []

pub logged-taken : fault_of program_app logged_given ≡ []
unfolding clap_on_literals
logged-taken = refl

pub logged-text : log_text logged_given ≡ Some (Some (codes "l"))
unfolding clap_on_literals
logged-text = refl

pub unlogged-text : log_text storm_given ≡ Some None
unfolding clap_on_literals
unlogged-text = refl

-- a folder, a log and a folder for what comes of it
abbrev pub recover_given : List Text
recover_given = codes "recover" ∷ codes "d" ∷ codes "--out=e" ∷ codes "l" ∷ []

pub recover-taken : fault_of program_app recover_given ≡ []
unfolding clap_on_literals
recover-taken = refl

-- the texts of the folder, of the log and of the other folder
abbrev pub recover_texts : List Text → Option (Option Text × Option Text × Option Text)
recover_texts words = option_map (λ command. (
  first_of (codes "directory") command.1,
  first_of (codes "log") command.1,
  first_of (codes "out") command.1,
)) (subcommand_of program_app words)

pub recover-texts : recover_texts recover_given ≡ Some (Some (codes "d"), Some (codes "l"), Some (codes "e"))
unfolding clap_on_literals
recover-texts = refl

-- without the other folder, and without a log
pub recover_alone-texts : recover_texts (codes "recover" ∷ codes "d" ∷ codes "l" ∷ [])
    ≡ Some (Some (codes "d"), Some (codes "l"), None)
unfolding clap_on_literals
recover_alone-texts = refl

pub log-missing : fault_of program_app (codes "recover" ∷ codes "d" ∷ []) ≡ kind.MissingRequiredArgument ∷ []
unfolding clap_on_literals
log-missing = refl
