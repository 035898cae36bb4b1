-- A command is run as a whole, by whether its home is there.
use Rattle.std.proofs.Common.{◌≡◌, ℕ, List, Option, None, Some, true, false, inl, inr, refl}
use Rattle.std.specs.Prelude.{MatchOption, is_some}
use Rattle.hy_commands.specs.Commands.{home_of}
use Rattle.hy_commands.specs.declared.command.Command.{Command}
use Rattle.hy_commands.specs.declared.reply.Reply.{Reply}
use Rattle.hy_events.specs.Replies.{reply_text}
use Rattle.hy_script.specs.declared.answer.Request.TheVariants as requests
use Rattle.hy_script.specs.Answers.{Asks, RunsWhole}
use Rattle.hy_script.specs.Databases.{DatabaseState, part_at}
use Rattle.hy_script.specs.Steps.{RunsAcross, is_crossing}

-- what holds where something is there
all-there : {Row : Type 0} (found : Option Row) (Lacks : Type 0) (Does : Row → Type 0) → is_some found ≡ true
    → ((row : Row) → Does row) → MatchOption found Lacks Does
all-there None Lacks Does there does = absurd (cc)
all-there (Some row) Lacks Does there does = does row

from-there : {Row : Type 0} (found : Option Row) (Lacks : Type 0) (Was Does : Row → Type 0) → is_some found ≡ true
    → MatchOption found Lacks Was → ((row : Row) → Was row → Does row) → MatchOption found Lacks Does
from-there None Lacks Was Does there was does = absurd (cc)
from-there (Some row) Lacks Was Does there was does = does row was

module _ (command : Command) (old new : DatabaseState) where
  -- it names several warehouses
  pub run-across : is_some (part_at old (home_of command)) ≡ true → is_crossing command ≡ true → (reply : Reply)
      → RunsAcross command old new reply → RunsWhole command old new (reply_text reply)
  run-across there several reply across =
      all-there (part_at old (home_of command)) _ _ there (λ p. inl (several, reply, across, refl))

  -- it names its home alone
  pub run-at_home : is_some (part_at old (home_of command)) ≡ true → is_crossing command ≡ false → (text : List ℕ)
      → Asks (home_of command) (requests.Run command) old new text → RunsWhole command old new text
  run-at_home there one text asks =
      from-there (part_at old (home_of command)) _ _ _ there asks (λ p asked. inr (one, asked))
