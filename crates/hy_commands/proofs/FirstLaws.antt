-- The warehouses that a command names, as they are found in it one after the other.
use Rattle.std.proofs.Common.{◌≡◌, ℕ, zero, suc, ◌+◌, ◌<◌, ◌==◌, ◌||◌, Bool, true, false, cond, List, [], ◌∷◌, ◌++◌, Option, None, Some, refl, sym, ap, subst, ◌∙◌, arith, append_assoc, take, drop, slice_get, rules}
use Rattle.std.specs.Option.{option_eq}
use Rattle.std.specs.Prelude.{fold, map}
use Rattle.std.specs.List.{list_any}
use Rattle.std.proofs.lemmas.Bool.{eq-eqb, eqb-true}
use Rattle.std.proofs.lemmas.List.Folds.{list_any-append}
use Rattle.hy_commands.specs.declared.command.Command.{Command}
use Rattle.hy_commands.specs.declared.command.Command.TheVariants as commands
use Rattle.hy_commands.specs.declared.command.Payment.{Payment}
use Rattle.hy_commands.specs.declared.command.PurchaseLine.{PurchaseLine}
use Rattle.hy_commands.specs.Commands.{warehouses_of, with_named}
use Rattle.hy_commands.specs.inside.Named.{firsts, named_from, numbers_in}
use Rattle.hy_commands.specs.inside.Kinds.{by_several}
use Rattle.hy_commands.proofs.LineLaws.{drop-row, take-next}
use Rattle.hy_commands.proofs.NamedLaws.{named-with, or-false}

-- whether a number is among some
abbrev is_in : ℕ → List ℕ → Bool
is_in number numbers = list_any (λ other. other == number) numbers

-- two lists have the same numbers
abbrev HaveTheSame : List ℕ → List ℕ → Type 0
HaveTheSame one other = (number : ℕ) → is_in number one ≡ is_in number other

or-all : (b : Bool) → (b || true) ≡ true
or-all true = refl
or-all false = refl

-- with a number more, which the first has once
same-with : (one other : List ℕ) (number : ℕ) → HaveTheSame one other
    → HaveTheSame (with_named one number) (other ++ number ∷ [])
same-with one other number same sought =
    named-with sought one number
    ∙ ap (λ b. b || (number == sought)) (same sought)
    ∙ ap (λ b. is_in sought other || b) (sym (or-false (number == sought)))
    ∙ sym (list_any-append (λ it. it == sought) other (number ∷ []))

-- the suppliers that are named behind some warehouses are those that stand first
suppliers-firsts : (lines : List PurchaseLine) (named before : List ℕ) → HaveTheSame named before
    → fold (λ named (line : PurchaseLine). with_named named line.supply_warehouse) named lines
    ≡ named ++ firsts before (map (λ (line : PurchaseLine). line.supply_warehouse) lines)
suppliers-firsts [] named before same = search rules
suppliers-firsts (line ∷ lines) named before same =
    let number = line.supply_warehouse in
    let later = firsts (before ++ number ∷ []) (map (λ (line : PurchaseLine). line.supply_warehouse) lines) in
    suppliers-firsts lines (with_named named number) (before ++ number ∷ []) (same-with named before number same)
    ∙ subst (λ b. with_named named number ++ later ≡ named ++ cond b later (number ∷ later)) (same number)
    (put (is_in number named))
  where
    put : (b : Bool) → cond b named (named ++ line.supply_warehouse ∷ [])
        ++ firsts (before ++ line.supply_warehouse ∷ []) (map (λ (line : PurchaseLine). line.supply_warehouse) lines)
        ≡ named ++ cond b (firsts (before ++ line.supply_warehouse ∷ [])
        (map (λ (line : PurchaseLine). line.supply_warehouse) lines)) (line.supply_warehouse
        ∷ firsts (before ++ line.supply_warehouse ∷ []) (map (λ (line : PurchaseLine). line.supply_warehouse) lines))
    put true = refl
    put false = append_assoc named (line.supply_warehouse ∷ []) _

-- from the begin on those are all
pub named-all : (command : Command) → named_from command 0 ≡ warehouses_of command
named-all =
    by_several (λ command. named_from command 0 ≡ warehouses_of command)
    (λ order. sym (suppliers-firsts order.lines (order.warehouse ∷ []) (order.warehouse ∷ []) (λ number. refl)))
    of_payment
    (λ command home. ap (firsts []) home.numbers ∙ sym home.warehouses)
  where
    of_payment : (payment : Payment) → named_from (commands.Payment payment) 0 ≡ warehouses_of (commands.Payment payment)
    of_payment payment =
        elim (payment.warehouse == payment.customer_warehouse) as (λ b.
        payment.warehouse ∷ cond (b || false) [] (payment.customer_warehouse ∷ [])
        ≡ cond (b || false) (payment.warehouse ∷ []) (payment.warehouse ∷ payment.customer_warehouse ∷ [])) [
          | true ↦ refl
          | false ↦ refl
        ]

-- behind the last number the first ones are all
take-end : (numbers : List ℕ) (place : ℕ) → slice_get numbers place ≡ None
    → take (place + 1) numbers ≡ take place numbers
take-end numbers place none =
    let after : suc place ≡ place + 1 = omega arith in
    ap (λ after. take after numbers) (sym after) ∙ from numbers place none
  where
    from : (numbers : List ℕ) (place : ℕ) → slice_get numbers place ≡ None → take (suc place) numbers ≡ take place numbers
    from [] zero none = refl
    from [] (suc place) none = refl
    from (first ∷ numbers) zero none = absurd (cc)
    from (first ∷ numbers) (suc place) none = ap (λ rest. first ∷ rest) (from numbers place none)

-- another number more leaves whether one is among the first
pub others-in : (numbers : List ℕ) (place sought : ℕ) (found : Option ℕ) → found ≡ slice_get numbers place
    → option_eq (λ one other. one == other) found (Some sought) ≡ false → is_in sought (take place numbers) ≡ false → is_in sought (take (place + 1) numbers) ≡ false
others-in numbers place sought None at others none =
    ap (is_in sought) (take-end numbers place (sym at)) ∙ none
others-in numbers place sought (Some number) at others none =
    ap (is_in sought) (take-next numbers place number (sym at))
    ∙ list_any-append (λ it. it == sought) (take place numbers) (number ∷ [])
    ∙ ap (λ b. b || ((number == sought) || false)) none
    ∙ ap (λ b. b || false) others

-- a number at a place is among the first behind it
there-at : (numbers : List ℕ) (place at sought : ℕ) → at < place → slice_get numbers at ≡ Some sought
    → is_in sought (take place numbers) ≡ true
there-at [] place at sought before found = absurd (cc)
there-at (first ∷ numbers) zero at sought before found = absurd (search rules)
there-at (first ∷ numbers) (suc place) zero sought before found =
    ap (λ b. b || is_in sought (take place numbers)) (eq-eqb first sought (some-is found))
  where
    some-is : {one other : ℕ} → Some one ≡ Some other → one ≡ other
    some-is same = cc
there-at (first ∷ numbers) (suc place) (suc at) sought before found =
    ap (λ b. (first == sought) || b) (there-at numbers place at sought (omega (arith, before)) found) ∙ or-all (first == sought)

pub there-in : (numbers : List ℕ) (place at sought : ℕ) (found : Option ℕ) → at < place → found ≡ slice_get numbers at
    → option_eq (λ one other. one == other) found (Some sought) ≡ true → is_in sought (take place numbers) ≡ true
there-in numbers place at sought None before is same = absurd (cc)
there-in numbers place at sought (Some number) before is same =
    there-at numbers place at sought before (sym is ∙ ap Some (eqb-true number sought same))

-- the number at a place is named there, unless it stands before
pub named-more : (command : Command) (place number : ℕ) → slice_get (numbers_in command) place ≡ Some number
    → named_from command place
    ≡ cond (is_in number (take place (numbers_in command))) (named_from command (place + 1))
    (number ∷ named_from command (place + 1))
named-more command place number at =
    ap (firsts (take place (numbers_in command))) (drop-row (numbers_in command) place number at)
    ∙ ap (λ before. cond (is_in number (take place (numbers_in command)))
    (firsts before (drop (place + 1) (numbers_in command)))
    (number ∷ firsts before (drop (place + 1) (numbers_in command)))) (sym (take-next (numbers_in command) place number at))

-- behind the last number none is named
pub named-end : (command : Command) (place : ℕ) → slice_get (numbers_in command) place ≡ None
    → named_from command place ≡ []
named-end command place none =
    ap (firsts (take place (numbers_in command))) (nothing (numbers_in command) place none)
  where
    nothing : (numbers : List ℕ) (place : ℕ) → slice_get numbers place ≡ None → drop place numbers ≡ []
    nothing [] zero none = refl
    nothing [] (suc place) none = refl
    nothing (first ∷ numbers) zero none = absurd (cc)
    nothing (first ∷ numbers) (suc place) none = nothing numbers place none

-- ---- all numbers

-- those before a place, with the number at it
pub among-more : (numbers : List ℕ) (place number sought : ℕ) → slice_get numbers place ≡ Some number
    → is_in sought (take (place + 1) numbers) ≡ (is_in sought (take place numbers) || (number == sought))
among-more numbers place number sought at =
    ap (is_in sought) (take-next numbers place number at)
    ∙ list_any-append (λ it. it == sought) (take place numbers) (number ∷ [])
    ∙ ap (λ b. is_in sought (take place numbers) || b) (or-false (number == sought))

-- behind the last number they are all before
pub among-all : (numbers : List ℕ) (place sought : ℕ) → slice_get numbers place ≡ None
    → is_in sought (take place numbers) ≡ is_in sought numbers
among-all numbers place sought none = ap (is_in sought) (whole numbers place none)
  where
    whole : (numbers : List ℕ) (place : ℕ) → slice_get numbers place ≡ None → take place numbers ≡ numbers
    whole [] zero none = refl
    whole [] (suc place) none = refl
    whole (first ∷ numbers) zero none = absurd (cc)
    whole (first ∷ numbers) (suc place) none = ap (λ rest. first ∷ rest) (whole numbers place none)
