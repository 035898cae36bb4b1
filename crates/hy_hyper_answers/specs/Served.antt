-- What a service answers to what an input says, and how it is printed.
use Rattle.std.specs.Prelude.{◌≡◌, ◌⊎◌, ℕ, ◌==◌, List, [], ◌∷◌, ◌++◌, codes, decimal, filter, length}
use Rattle.hy_script.specs.Databases.{DatabaseState}
use Rattle.hy_script.specs.Scripts.{AnswersLine, IsBad}
use Rattle.hy_hyper_input.specs.Inputs.{line_feed}
use Rattle.hy_hyper_input.specs.Received.{Said}
use Rattle.hy_hyper_answers.specs.declared.answers.Style.{Style}
use Rattle.hy_hyper_answers.specs.declared.answers.Style.TheVariants as styles

-- ---- texts

abbrev pub bad_event_text : ℕ → List ℕ
bad_event_text number = codes "bad event on line " ++ decimal number ++ codes "\n"

-- how many lines a text has
abbrev pub line_count : List ℕ → ℕ
line_count text = length (filter (λ byte. byte == line_feed) text)

-- the number of an event's line, and how many lines its answer has
abbrev pub header : ℕ → List ℕ → List ℕ
header number text = codes "@" ++ decimal number ++ codes " " ++ decimal (line_count text) ++ codes "\n"

-- an answer as it is printed; of an empty line, which has none, nothing is
abbrev pub printed : Style → ℕ → List ℕ → List ℕ
printed styles.Plain number text = text
printed styles.Numbered number [] = []
printed styles.Numbered number (byte ∷ text) = header number (byte ∷ text) ++ byte ∷ text

-- ---- answers

-- answers that are held
pub record HeldAnswers : Type 0 where
  pub style : Style
  pub text : List ℕ

abbrev pub number_of : Said → ℕ
number_of (Said.a_line number line) = number
number_of (Said.too_long number) = number

-- a line is answered as a script answers it; a bad event, and a line that is too long, by its number, and nothing changes
abbrev pub AnswersSaid : ℕ → Said → DatabaseState → DatabaseState → List ℕ → Type 0
AnswersSaid page_size (Said.a_line number line) old new text =
    AnswersLine page_size line old new text
    ⊎ (IsBad old line × (new ≡ old) × (text ≡ bad_event_text number))
AnswersSaid page_size (Said.too_long number) old new text = (new ≡ old) × (text ≡ bad_event_text number)

-- from one database to another all that an input says is answered, in its order, and this is what is to be printed
abbrev pub Serves : ℕ → Style → List Said → DatabaseState → DatabaseState → List ℕ → Type 0
Serves page_size style [] old new text = (new ≡ old) × (text ≡ [])
Serves page_size style (one ∷ later) old new text =
    (next : DatabaseState) × (answer : List ℕ) × (rest : List ℕ) × AnswersSaid page_size one old next answer
    × (text ≡ printed style (number_of one) answer ++ rest) × Serves page_size style later next new rest

-- one more is answered behind others, by the database behind them
abbrev pub ServeOneMore : Type 0
ServeOneMore =
    (page_size : ℕ) (style : Style) (all : List Said) (one : Said) (old middle new : DatabaseState) (text answer : List ℕ)
    → Serves page_size style all old middle text → AnswersSaid page_size one middle new answer
    → Serves page_size style (all ++ one ∷ []) old new (text ++ printed style (number_of one) answer)
