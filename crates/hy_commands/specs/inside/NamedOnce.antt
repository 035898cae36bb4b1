-- A command and a commit name each warehouse once.
use Rattle.std.specs.Prelude.{◌≡◌, ◌≢◌, ℕ, ◌==◌, true, false, List, [], ◌∷◌, ◌++◌, fold, All, refl}
use Rattle.std.specs.List.{AllPairs, list_any}
use Rattle.std.proofs.Common.{arith, cond, subst, sym}
use Rattle.std.proofs.lemmas.Bool.{eqb-false, or_parts}
use Rattle.std.proofs.lemmas.List.Elements.{All-cons, All-nil}
use Rattle.std.proofs.lemmas.List.Quantifiers.{all_pairs_push}
use Rattle.hy_schema.specs.Keys.{AreUnique}
use Rattle.hy_commands.specs.declared.command.Command.{Command}
use Rattle.hy_commands.specs.declared.command.Commit.{Commit}
use Rattle.hy_commands.specs.declared.command.PurchaseLine.{PurchaseLine}
use Rattle.hy_commands.specs.Commands.{command_of, home_of, warehouses_of, warehouses_of_commit, with_named}
use Rattle.hy_commands.specs.inside.Kinds.{by_several}

alone : (number : ℕ) → AreUnique (number ∷ [])
alone number = λ i j d before within. absurd (omega arith)

-- a number that isn't among them differs from each
apart : (number : ℕ) (named : List ℕ) → list_any (λ other. other == number) named ≡ false
    → All (λ other. other ≢ number) named
apart number [] none = All-nil (λ other. other ≢ number)
apart number (other ∷ named) none =
    let parts = or_parts (other == number) (list_any (λ other. other == number) named) none in
    All-cons (λ other. other ≢ number) other named (λ same. differs same parts.0) (apart number named parts.1)
  where
    differs : other ≡ number → (other == number) ≡ false → ⊥
    differs same not_same = eqb-false other number not_same same

once-with : (named : List ℕ) (number : ℕ) → AreUnique named → AreUnique (with_named named number)
once-with named number unique =
    elim (list_any (λ other. other == number) named) as (λ b. list_any (λ other. other == number) named ≡ b
    → AreUnique (cond b named (named ++ number ∷ []))) [
      | true ↦ λ there. unique
      | false ↦ λ new. all_pairs_push (λ one other. one ≢ other) named number unique (apart number named new)
    ] refl

once-suppliers : (lines : List PurchaseLine) (named : List ℕ) → AreUnique named
    → AreUnique (fold (λ named (line : PurchaseLine). with_named named line.supply_warehouse) named lines)
once-suppliers [] named unique = unique
once-suppliers (line ∷ lines) named unique =
    once-suppliers lines (with_named named line.supply_warehouse) (once-with named line.supply_warehouse unique)

-- each warehouse that a command names stands there once
pub named_once : (command : Command) → AllPairs (λ one other. one ≢ other) (warehouses_of command)
named_once =
    by_several (λ command. AllPairs (λ one other. one ≢ other) (warehouses_of command))
    (λ order. once-suppliers order.lines (order.warehouse ∷ []) (alone order.warehouse))
    (λ payment. once-with (payment.warehouse ∷ []) payment.customer_warehouse (alone payment.warehouse))
    (λ command home. subst (AllPairs (λ one other. one ≢ other)) (sym home.warehouses) (alone (home_of command)))

pub named_once-commit : (commit : Commit) → AllPairs (λ one other. one ≢ other) (warehouses_of_commit commit)
named_once-commit commit = named_once (command_of commit)
