-- Desks, and the tickets that are out.
use Rattle.std.specs.Prelude.{ℕ, Bool, ◌==◌, ◌&&◌, not, List, filter}
use Rattle.std.specs.List.{list_any}
use Rattle.atomic_table.specs.Seated.{TableId}

-- the desk of a warehouse's partition, and the numbers of the tickets that it has given out and not taken back
pub record DeskState : Type 0 where
  pub warehouse : ℕ
  pub out : List ℕ

-- a ticket: the warehouse, the name of the kit and the desk that it comes from, and its number
pub record TicketState : Type 0 where
  pub warehouse : ℕ
  pub name : ℕ
  pub desk : TableId
  pub number : ℕ

-- whether a ticket of this number is out
abbrev pub is_out : List ℕ → ℕ → Bool
is_out out number = list_any (λ other. other == number) out

-- the numbers without one
abbrev pub without : List ℕ → ℕ → List ℕ
without out number = filter (λ other. not (other == number)) out

-- whether a ticket says that it comes from the desk of a warehouse, in the kit of a name
abbrev pub is_from : TicketState → ℕ → ℕ → Bool
is_from ticket warehouse name = (ticket.warehouse == warehouse) && (ticket.name == name)
