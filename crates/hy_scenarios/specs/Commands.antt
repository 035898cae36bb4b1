-- The commands of a scenario: their words, and what they print.
use Rattle.std.specs.Prelude.{◌≡◌, ◌≢◌, ℕ, not, ◌==◌, List, [], ◌∷◌, ◌++◌, Option, None, Some, if◌then◌else◌, bytes_eq, codes, filter, length}
use Rattle.hy_events.specs.Words.{parts}
use Rattle.hy_files.specs.Files.{FilesByPath}
use Rattle.hy_cli.specs.CommandLine.{AreTaken}
use Rattle.hy_program.specs.declared.ending.Ending.{Ending}
use Rattle.hy_program.specs.declared.ending.Ending.TheVariants as ending
use Rattle.hy_program.specs.Runs.{AreRefused, Completes, KeepsFiles, status_of}
use Rattle.hy_scenarios.specs.declared.commands.Output.{Output}
use Rattle.hy_scenarios.specs.Marks.{behind, output_of, status_in, text_behind}

-- words have spaces between them; what stands in double quotes is one word
abbrev pub unquoted_words : List ℕ → List (List ℕ)
unquoted_words part = filter (λ word. not (length word == 0)) (parts 32 part)

abbrev pub words_between : List (List ℕ) → List (List ℕ)
words_between [] = []
words_between (part ∷ []) = unquoted_words part
words_between (part ∷ quoted ∷ later) = unquoted_words part ++ quoted ∷ words_between later

abbrev pub words_of : List ℕ → List (List ℕ)
words_of line = words_between (parts 34 line)

-- the words that the program is given, where the first one names it
abbrev pub given_words : List (List ℕ) → Option (List (List ℕ))
given_words [] = None
given_words (word ∷ later) = if bytes_eq word (codes "./hyper") then Some later else None

-- what a command printed, and its exit status
pub record Printed : Type 0 where
  pub out : List ℕ
  pub err : List ℕ
  pub status : ℕ

abbrev pub printed_in : Output → Printed
printed_in output = record { out = output.out.items; err = output.err.items; status = output.status }

-- what the lines behind a command want
abbrev pub wanted_by : List (List ℕ) → Printed
wanted_by steps = record {
  out = output_of steps;
  err = text_behind 33 steps;
  status = status_in steps;
}

-- a run of the program on these words, with these bytes to read, and on these files may print this and leave those files:
-- what its contract says of a reader of just these bytes, and of two writers that were empty and didn't fail
pub record Prints (words : List (List ℕ)) (input : List ℕ) (old new : FilesByPath) (printed : Printed) (end : Ending)
    : Type 0 where
  pub status : printed.status ≡ status_of end
  pub printed_all : end ≢ ending.WriterFailed
  pub files : KeepsFiles words (Some old, Some new)
  pub done : end ≡ ending.Done
      → Completes words (Some old, Some new) (Some input) (Some [], Some printed.out) × (printed.err ≡ [])
  pub refused : end ≡ ending.Refused
      → AreRefused words (Some old, Some new) (None, None) (Some input) (Some [], Some printed.out) (printed.out ≡ [])
      (Some [], Some printed.err)
  pub no_line : end ≡ ending.NoLine → (¬ (AreTaken words)) × (printed.out ≡ []) × (new ≡ old)
