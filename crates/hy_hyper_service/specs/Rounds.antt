-- What a service does with the lines that are there.
use Rattle.std.specs.Prelude.{◌≡◌, ⊤, ◌⊎◌, ◌-◌, ◌^◌, ◌≤◌, ℕ, length, List, [], ◌∷◌, ◌++◌, Option, codes, false}
use Rattle.std.specs.List.{flat_map}
use Rattle.std.specs.Io.KnownBytes.{Appends, IsAtEnd}
use Rattle.hy_rows.specs.Tables.{Lists}
use Rattle.hy_redo.specs.Calls.{LogState}
use Rattle.hy_redo_drains.specs.Following.{Follows}
use Rattle.hy_script.specs.Answers.{kept_text}
use Rattle.hy_script.specs.Databases.{DatabaseState}
use Rattle.hy_hyper_input.specs.Inputs.{InputState, is_ended}
use Rattle.hy_hyper_input.specs.Received.{Hears, Said}
use Rattle.hy_hyper_answers.specs.declared.answers.Style.{Style}
use Rattle.hy_hyper_answers.specs.Served.{HeldAnswers, Serves}
use Rattle.hy_hyper_service.specs.declared.lines.RoundEnd.{RoundEnd}
use Rattle.hy_hyper_service.specs.declared.lines.RoundEnd.TheVariants as ends
use Rattle.hy_hyper_service.specs.Keeping.{KeepsCommits, LoggedState, nothing_due}

-- ---- lines

-- the line that ends a service, which has no answer
abbrev pub quit_line : List ℕ
quit_line = codes "quit"

-- what was told of an input up to the end of a round: what is to be answered, and behind it the line that ends the service,
-- where that came
abbrev pub told_at : RoundEnd → ℕ → List Said → List Said
told_at ends.Waits number said = said
told_at ends.Full number said = said
told_at ends.Quit number said = said ++ Said.a_line number quit_line ∷ []

-- it is that line
abbrev pub Quits : Said → Type 0
Quits (Said.a_line number line) = line ≡ quit_line
Quits (Said.too_long number) = ⊥

abbrev pub NoneQuits : List Said → Type 0
NoneQuits [] = ⊤
NoneQuits (one ∷ later) = (Quits one → ⊥) × NoneQuits later

-- how many lines a round has at most, and how many bytes of answers end one
abbrev pub max_lines : ℕ
max_lines = 4096

abbrev pub max_held : ℕ
max_held = 1_048_576

-- why a round ended: only one that has so many lines, or holds so many bytes, says that more may be there
abbrev pub IsEndFor : RoundEnd → List Said → List ℕ → Type 0
IsEndFor ends.Full said text = (length said ≡ max_lines) ⊎ (max_held ≤ length text)
IsEndFor ends.Waits said text = ⊤
IsEndFor ends.Quit said text = ⊤

-- what was told of an input up to the end of a round is what was to be answered: few lines, none of which ends the service, and
-- as many as there were
pub record OfLines (old new : InputState) (said : List Said) (text : List ℕ) (end : RoundEnd) : Type 0 where
  pub heard : Hears old new (told_at end new.number said)
  pub none_quits : NoneQuits said
  pub few : length said ≤ max_lines
  pub ended : IsEndFor end said text

-- the lines that are there are answered
pub record AnswersLines (page_size : ℕ) (before after : DatabaseState) (held holds : HeldAnswers) (old new : InputState)
    (end : RoundEnd) : Type 0 where
  pub said : List Said
  pub text : List ℕ
  pub of_lines : OfLines old new said (held.text ++ text) end
  pub serves : Serves page_size held.style said before after text
  pub holds_are : holds ≡ record held { text = held.text ++ text }

-- ---- rounds

-- a service between two rounds: its database, its log, how it prints answers, and the bytes that its output has, where they
-- are known
pub record ServiceState : Type 0 where
  pub database : DatabaseState
  pub log : LogState
  pub style : Style
  pub out : Option (List ℕ)

-- the log, and the beginning of the serial list that it has: all of it
abbrev pub logged : ServiceState → LoggedState
logged service = record { log = service.log; seen = service.database.log }

-- all that the database has stands in batches of the log, each of which was acknowledged
pub record IsSettled (lists : Lists) (service : ServiceState) : Type 0 where
  pub follows : Follows lists (nothing_due service.log service.database.log)
  pub well : service.log.has_failed ≡ false

-- A round: all that was said is answered in its order, what it committed is written and acknowledged, and then the answers are
-- printed.
pub record IsRound (page_size : ℕ) (lists : Lists) (said : List Said) (text : List ℕ) (old new : ServiceState)
    : Type 0 where
  pub done : DatabaseState
  pub serves : Serves page_size old.style said old.database done text
  pub keeps : KeepsCommits lists (logged old) (logged new) done new.database
  pub printed : Appends old.out new.out text
  pub style : new.style ≡ old.style

-- of the lines that were there
pub record RunsRound (page_size : ℕ) (lists : Lists) (old new : ServiceState) (before after : InputState) (end : RoundEnd)
    : Type 0 where
  pub said : List Said
  pub text : List ℕ
  pub of_lines : OfLines before after said text end
  pub round : IsRound page_size lists said text old new

-- the same over the parts of a service, each before and behind it
pub record RunsParts (page_size : ℕ) (lists : Lists) (databases : DatabaseState × DatabaseState)
    (logs : LoggedState × LoggedState) (answers : HeldAnswers × HeldAnswers) (outs : Option (List ℕ) × Option (List ℕ))
    (before after : InputState) (end : RoundEnd) : Type 0 where
  pub said : List Said
  pub text : List ℕ
  pub of_lines : OfLines before after said text end
  pub done : DatabaseState
  pub serves : Serves page_size answers.0.style said databases.0 done text
  pub keeps : KeepsCommits lists logs.0 logs.1 done databases.1
  pub printed : Appends outs.0 outs.1 text
  pub style : answers.1.style ≡ answers.0.style

-- ---- a life

-- a round, by what was said, what was printed, and the service behind it
pub record RoundState : Type 0 where
  pub said : List Said
  pub text : List ℕ
  pub behind : ServiceState

-- rounds one behind another, from a service to another one
abbrev pub AreRounds : ℕ → Lists → ServiceState → List RoundState → ServiceState → Type 0
AreRounds page_size lists first [] last = last ≡ first
AreRounds page_size lists first (round ∷ later) last =
    IsRound page_size lists round.said round.text first round.behind × AreRounds page_size lists round.behind later last

-- all that was said in them
abbrev pub said_in : List RoundState → List Said
said_in rounds = flat_map (λ (round : RoundState). round.said) rounds

-- why no further round comes, behind so many: a line ended the service; the input is at its end, and no line is left; or there
-- were as many rounds as 64 bits can count
pub data IsOver (end : RoundEnd) (count : ℕ) (input : InputState) : Type 0 where
  by_line : end ≡ ends.Quit → IsOver end count input
  at_end : end ≡ ends.Waits → is_ended input.left ≡ false → IsAtEnd input.coming → IsOver end count input
  counted : count ≡ 2 ^ 64 - 1 → IsOver end count input

-- from one service to another all that an input says was served, round by round, up to its end or to the line that ends it
pub record ServesInput (page_size : ℕ) (lists : Lists) (first last : ServiceState) (before after : InputState) : Type 0 where
  pub rounds : List RoundState
  pub are : AreRounds page_size lists first rounds last
  pub end : RoundEnd
  pub heard : Hears before after (told_at end after.number (said_in rounds))
  pub over : IsOver end (length rounds) after

-- ---- how many commits there are

-- a word, and how many commits each warehouse has kept
abbrev pub kept_line : List ℕ → DatabaseState → List ℕ
kept_line word database = word ++ flat_map kept_text database.parts ++ codes "\n"

pub record PrintsKept (word : List ℕ) (old new : ServiceState) : Type 0 where
  pub same : new ≡ record old { out = new.out }
  pub printed : Appends old.out new.out (kept_line word old.database)
