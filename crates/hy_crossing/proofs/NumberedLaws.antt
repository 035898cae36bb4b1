-- A command with the payer's number in place of a name: it names the same warehouses, and its share is the same.
use Rattle.std.proofs.Common.{◌≡◌, ◌==◌, ℕ, suc, true, List, filter, refl, sym, ap, ◌∙◌, subst}
use Rattle.std.specs.List.{list_any, range_with_len}
use Rattle.hy_ledger.specs.Books.{BookState}
use Rattle.hy_commands.specs.declared.command.Command.{Command}
use Rattle.hy_commands.specs.declared.command.Command.TheVariants as commands
use Rattle.hy_commands.specs.declared.command.Payment.{Payment}
use Rattle.hy_commands.specs.inside.Kinds.{NobodyPays, by_payment}
use Rattle.hy_commands.specs.Commands.{customer_home_of, home_of, warehouses_of}
use Rattle.hy_commands.specs.Parts.{is_by_number, with_number}
use Rattle.hy_partition.specs.Accounts.{with_command}
use Rattle.hy_partition.specs.Jobs.{share_of}
use Rattle.hy_crossing.specs.Named.{places_of}

pub record IsNumbered (command numbered : Command) : Type 0 where
  pub warehouses : warehouses_of numbered ≡ warehouses_of command
  pub home : home_of numbered ≡ home_of command
  pub customer_home : customer_home_of numbered ≡ customer_home_of command
  pub by_number : is_by_number numbered ≡ true
  pub share : (warehouse : ℕ) → share_of warehouse numbered ≡ share_of warehouse command
  pub entered : (book : BookState) → with_command book numbered ≡ with_command book command

pub is_numbered : (number : ℕ) (command : Command) → IsNumbered command (with_number number command)
is_numbered number =
    by_payment (λ command. IsNumbered command (with_number number command)) of_payment
    (λ command nobody. subst (IsNumbered command) (sym (nobody.same number)) (itself command nobody))
  where
    of_payment : (payment : Payment) → IsNumbered (commands.Payment payment) (with_number number (commands.Payment payment))
    of_payment payment = record {
      warehouses = refl;
      home = refl;
      customer_home = refl;
      by_number = refl;
      share = λ w. refl;
      entered = λ book. refl;
    }

    itself : (command : Command) → NobodyPays command → IsNumbered command command
    itself command nobody = record {
      warehouses = refl;
      home = refl;
      customer_home = refl;
      by_number = nobody.by_number;
      share = λ w. refl;
      entered = λ book. refl;
    }

-- it has the same places
pub same-places : (command numbered : Command) (number : ℕ) → numbered ≡ with_number number command
    → places_of numbered ≡ places_of command
same-places command numbered number is =
    let same = is_numbered number command in
    ap places_of is ∙ ap (λ (ws : List ℕ). filter (λ place. list_any (λ named. named == suc place) ws) (range_with_len 0 16))
    same.warehouses
