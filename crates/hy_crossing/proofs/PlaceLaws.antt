-- What holds of the partition at a place, and that the customer whom a command names is one of a warehouse that it names.
use Rattle.std.proofs.Common.{◌≡◌, ℕ, zero, suc, ◌<◌, ◌==◌, true, false, not, List, [], ◌∷◌, length, Some, refl, sym, ap, ◌∙◌, subst, arith}
use Rattle.std.specs.Prelude.{Option, IfSome, slice_get, slice_index_or}
use Rattle.std.specs.List.{list_all, list_any}
use Rattle.std.proofs.lemmas.Bool.{eq-eqb, false≢true, or_parts}
use Rattle.hy_commands.specs.declared.command.Command.{Command}
use Rattle.hy_commands.specs.Commands.{customer_home_of, warehouses_of}
use Rattle.hy_commands.proofs.NamedLaws.{named-customer_home}
use Rattle.hy_crossing.specs.Crossings.{is_named}

-- ---- the element at a place

pub get-at : {Row : Type 0} (rows : List Row) (place : ℕ) (row : Row) → place < length rows
    → row ≡ slice_index_or rows place row → slice_get rows place ≡ Some row
get-at [] place row within here = absurd (omega (arith, within))
get-at (first ∷ rows) zero row within here = ap Some (sym here)
get-at (first ∷ rows) (suc place) row within here = get-at rows place row (omega (arith, within)) here

pub holds-at : {Row : Type 0} (Holds : Row → Type 0) (rows : List Row) (place : ℕ) (row : Row) → place < length rows
    → row ≡ slice_index_or rows place row → IfSome (slice_get rows place) Holds → Holds row
holds-at {Row = Row} Holds rows place row within here holds =
    subst (λ (found : Option Row). IfSome found Holds) (get-at rows place row within here) holds

pub held-at : {Row : Type 0} (Holds : Row → Type 0) (rows : List Row) (place : ℕ) (row : Row) → place < length rows
    → row ≡ slice_index_or rows place row → Holds row → IfSome (slice_get rows place) Holds
held-at {Row = Row} Holds rows place row within here holds =
    subst (λ (found : Option Row). IfSome found Holds) (sym (get-at rows place row within here)) holds

pub get-some : {Row : Type 0} (rows : List Row) (place : ℕ) → place < length rows
    → (row : Row) × (slice_get rows place ≡ Some row)
get-some [] place within = absurd (omega (arith, within))
get-some (first ∷ rows) zero within = (first, refl)
get-some (first ∷ rows) (suc place) within = get-some rows place (omega (arith, within))

-- ---- the warehouse of the customer

pub all-apart : (number : ℕ) (rows : List ℕ) → list_any (λ row. row == number) rows ≡ false
    → list_all (λ row. not (row == number)) rows ≡ true
all-apart number [] none = refl
all-apart number (row ∷ rows) none =
    let parts = or_parts (row == number) (list_any (λ row. row == number) rows) none in
    rw (parts.0) (all-apart number rows parts.1)

pub customer_home-named : (command : Command) → is_named command (customer_home_of command) ≡ true
customer_home-named command =
    elim (is_named command home) as (λ b. is_named command home ≡ b → b ≡ true) [
      | true ↦ λ is. refl
      | false ↦ λ none.
          absurd (false≢true (sym (ap not (eq-eqb home home refl)) ∙ named-customer_home (λ row. not (row == home))
          command (all-apart home (warehouses_of command) none)))
    ] refl
  where
    home : ℕ
    home = customer_home_of command
