-- A database keeps a command that it accepts with who pays named by number: it isn't refused so either, and the commit
-- does what the command did.
use Rattle.std.proofs.Common.{◌≡◌, ℕ, None, refl, sym, ap, subst, ◌∙◌}
use Rattle.hy_rows.specs.Tables.{Tables}
use Rattle.hy_commands.specs.declared.command.Command.{Command}
use Rattle.hy_commands.specs.declared.command.Command.TheVariants as commands
use Rattle.hy_commands.specs.declared.command.Commit.TheVariants as commits
use Rattle.hy_commands.specs.declared.edition.Edition.{Edition}
use Rattle.hy_commands.specs.declared.command.Payment.{Payment}
use Rattle.hy_commands.specs.inside.Kinds.{by_payment}
use Rattle.hy_commands.specs.Parts.{Database, refusal_in}
use Rattle.hy_commands.proofs.AcceptedLaws.{IsAcceptedIn, accepted-in}
use Rattle.hy_database.specs.Database.{act_on_all, committed_in, customer_rows, kept_in, parts_done, whole_outcome}
use Rattle.hy_database.proofs.PartLaws.{by_number-in_range, by_number-known, same-numbered}

-- a command that has passed all isn't refused
pub passed-in : (database : Database) (command : Command) → IsAcceptedIn database command
    → refusal_in database command ≡ None
passed-in database command passed =
    rw (passed.in_range, passed.named, passed.districts, passed.customer, passed.known) refl

-- so a command isn't refused either as it is kept, with who pays named by number
kept-passed : (database : Database) (command : Command) → IsAcceptedIn database command
    → IsAcceptedIn database (kept_in database command)
kept-passed database =
    by_payment (λ command. IsAcceptedIn database command → IsAcceptedIn database (kept_in database command))
    of_payment
    (λ command nobody. subst (IsAcceptedIn database) (sym (same-numbered command nobody (customer_rows command database))))
  where
    of_payment : (payment : Payment) → IsAcceptedIn database (commands.Payment payment)
        → IsAcceptedIn database (kept_in database (commands.Payment payment))
    of_payment payment passed =
        let rows : Tables = customer_rows (commands.Payment payment) database in
        record {
          in_range = by_number-in_range (commands.Payment payment) rows passed.in_range;
          named = passed.named;
          districts = passed.districts;
          customer = by_number-known (commands.Payment payment) rows passed.customer;
          known = passed.known;
        }

pub kept-accepted : (database : Database) (command : Command) → refusal_in database command ≡ None
    → refusal_in database (kept_in database command) ≡ None
kept-accepted database command accepted =
    passed-in database (kept_in database command)
    (kept-passed database command (accepted-in database command accepted))

-- what a database does with a command is what the commit that it keeps does
pub act-kept : (database : Database) (edition : Edition) (command : Command) (number : ℕ)
    → refusal_in database command ≡ None
    → (act_on_all edition command database).database
    ≡ committed_in database (commits.Cross edition number (kept_in database command))
act-kept database edition command number accepted =
    ap (λ refusal. (whole_outcome refusal edition command database).database) accepted
    ∙ sym (ap (λ refusal. parts_done refusal edition (kept_in database command) database)
    (kept-accepted database command accepted))
