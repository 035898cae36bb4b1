-- What the seats of a desk's table know, and the rule.
use Rattle.std.specs.Prelude.{◌≡◌, ℕ, true, List, [], ◌∷◌, Option, Some, None}
use mathlib.Core.Option.{some}
use lib.ListN.{get_elem?}
use Rattle.atomic_table.specs.Table.{Me}
use Rattle.hy_tickets.specs.declared.view.View.{View}
use Rattle.hy_tickets.specs.Desks.{is_out, without}

-- a desk with these tickets out
abbrev pub desk_with : List ℕ → View
desk_with out = record { out = out; mine = None; guest = None }

abbrev pub empty_desk : View
empty_desk = desk_with []

-- a ticket, and what is left of one that was taken back
abbrev pub ticket_of : Option ℕ → View
ticket_of number = record { out = []; mine = number; guest = None }

abbrev pub spent : View
spent = ticket_of None

-- the desk with a ticket that it has just written
abbrev pub written : ℕ → View → View
written number v = record { out = number ∷ v.out; mine = Some number; guest = v.guest }

-- the ticket is handed out
abbrev pub handed : View → View
handed v = record { out = v.out; mine = None; guest = v.guest }

abbrev pub handing : View → View
handing v = ticket_of v.mine

-- a ticket lies on the desk
abbrev pub laid : View → View → View
laid v w = record { out = v.out; mine = v.mine; guest = w.mine }

-- the numbers that are out without that of the ticket on the desk
abbrev pub out_without : List ℕ → Option ℕ → List ℕ
out_without out None = out
out_without out (Some number) = without out number

-- it is taken back
abbrev pub taken : View → View
taken v = record { out = out_without v.out v.guest; mine = v.mine; guest = None }

-- a number that a seat stands for is out, and no other seat stands for it
abbrev pub Stands : View → (ℕ → ℕ) → ℕ → Option ℕ → Type 0
Stands desk seat_of seat number =
    (n : ℕ) → number ≡ Some n → (is_out desk.out n ≡ true) × (seat_of n ≡ seat)

-- the rule: the first seat is the desk's
pub record IsKept (views : List View) : Type 0 where
  pub desk : View
  pub seat_of : ℕ → ℕ
  pub first : get_elem? views 0 ≡ some desk
  pub each : (seat : ℕ) (v : View) → get_elem? views seat ≡ some v
      → Stands desk seat_of seat v.mine × Stands desk seat_of seat v.guest

-- the desk writes a ticket; it takes one back, which was out
abbrev pub Writes : {S : Type 0} → ℕ → Me S View → Me S View → Type 0
Writes number before after = after ≡ (written number before.0, before.1)

abbrev pub Takes : {S : Type 0} → Me S View → Me S View → Type 0
Takes before after =
    (after ≡ (taken before.0, before.1)) × ((n : ℕ) → before.0.guest ≡ Some n → is_out before.0.out n ≡ true)
