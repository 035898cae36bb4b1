-- What rounds printed beside what a script prints, to which nobody drains anything.
use Rattle.std.specs.Prelude.{◌≡◌, ⊤, ℕ, List, [], ◌∷◌, ◌++◌, Option, None}
use Rattle.std.specs.List.{flat_map}
use mathlib.Core.List.{IsPrefix}
use Rattle.hy_rows.specs.Tables.{Lists}
use Rattle.hy_partition.specs.Partition.{PartitionState}
use Rattle.hy_crossing.specs.Lists.{Pairwise}
use Rattle.hy_script.specs.Databases.{DatabaseState}
use Rattle.hy_script.specs.Scripts.{Prints}
use Rattle.hy_hyper_input.specs.Received.{Said}
use Rattle.hy_hyper_answers.specs.declared.answers.Style.{Style}
use Rattle.hy_hyper_answers.specs.declared.answers.Style.TheVariants as styles
use Rattle.hy_hyper_answers.specs.Served.{Serves, number_of, printed}
use Rattle.hy_hyper_service.specs.Rounds.{AreRounds, RoundState, ServiceState, said_in}

-- ---- databases that are drained or aren't

-- a partition that was told less of the serial list, and else is the same
pub record IsToldLess (number : ℕ) (told less : PartitionState) : Type 0 where
  pub same : less ≡ record told { seen = less.seen }
  pub begins : IsPrefix less.seen told.seen

-- the same partitions, but for that, with the same snapshots and the same serial list
pub record AreToldLess (told less : DatabaseState) : Type 0 where
  pub parts : Pairwise IsToldLess 1 told.parts less.parts
  pub snapshots : less.snapshots ≡ told.snapshots
  pub log : less.log ≡ told.log

-- ---- rounds

-- what rounds printed, one behind another
abbrev pub printed_in : List RoundState → List ℕ
printed_in rounds = flat_map (λ (round : RoundState). round.text) rounds

-- What was said in rounds may be answered from the first database on, one line behind another, with nothing drained between them,
-- so that just the text comes that the rounds printed; and the last database is the same but for what its partitions were told.
abbrev pub RoundsPrintTheSame : Type 0
RoundsPrintTheSame =
    (page_size : ℕ) (lists : Lists) (first last : ServiceState) (rounds : List RoundState)
    → AreRounds page_size lists first rounds last
    → (done : DatabaseState) × Serves page_size first.style (said_in rounds) first.database done (printed_in rounds)
    × AreToldLess last.database done

-- ---- scripts

-- the lines of what was said, up to one that is too long
abbrev pub lines_of : List Said → List (ℕ × List ℕ)
lines_of [] = []
lines_of (Said.a_line number line ∷ later) = (number, line) ∷ lines_of later
lines_of (Said.too_long number ∷ later) = []

abbrev pub AreLines : List Said → Type 0
AreLines [] = ⊤
AreLines (Said.a_line number line ∷ later) = AreLines later
AreLines (Said.too_long number ∷ later) = ⊥

-- a script of the same lines prints the front of a text, up to the line that ends it; all of it, where none does
pub record IsOfScript (page_size : ℕ) (said : List Said) (database : DatabaseState) (text : List ℕ) : Type 0 where
  pub printed : List ℕ
  pub bad : Option ℕ
  pub prints : Prints page_size (lines_of said) database printed bad
  pub rest : List ℕ
  pub front : text ≡ printed ++ rest
  pub whole : AreLines said → bad ≡ None → rest ≡ []

-- answers to what was said, each printed in a style
abbrev pub styled : Style → List Said → List (List ℕ) → List ℕ
styled style [] answers = []
styled style (one ∷ later) [] = []
styled style (one ∷ later) (answer ∷ answers) = printed style (number_of one) answer ++ styled style later answers

-- The same answers could have been printed plainly, by the same databases; and that is what a script prints.
pub record AnswersOfScripts : Type 0 where
  pub plainly : (page_size : ℕ) (style : Style) (said : List Said) (old new : DatabaseState) (text : List ℕ)
      → Serves page_size style said old new text
      → (answers : List (List ℕ)) × (text ≡ styled style said answers)
      × Serves page_size styles.Plain said old new (styled styles.Plain said answers)
  pub by_script : (page_size : ℕ) (said : List Said) (old new : DatabaseState) (text : List ℕ)
      → Serves page_size styles.Plain said old new text → IsOfScript page_size said old text
