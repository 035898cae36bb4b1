-- What a line of a script says.
use Rattle.std.specs.Prelude.{◌≡◌, ◌≢◌, ℕ, ◌+◌, ◌==◌, ◌||◌, if◌then◌else◌, Bool, true, false, List, [], ◌∷◌, Option, None, Some, IsSomeAnd, option_map, Result, Ok, Err, bytes_eq, codes, drop, length, nat_le, take}
use Rattle.std.specs.List.{position_or_len}
use Rattle.hy_commands.specs.declared.command.Command.{Command}
use Rattle.hy_commands.specs.declared.command.Command.TheVariants as commands
use Rattle.hy_commands.specs.declared.command.Delivery.{Delivery}
use Rattle.hy_commands.specs.declared.command.OrderStatus.{OrderStatus}
use Rattle.hy_commands.specs.declared.command.Payment.{Payment}
use Rattle.hy_commands.specs.declared.command.Purchase.{Purchase}
use Rattle.hy_commands.specs.declared.command.PurchaseLine.{PurchaseLine}
use Rattle.hy_commands.specs.declared.command.StockLevel.{StockLevel}
use Rattle.hy_commands.specs.declared.command.Who.{Who}
use Rattle.hy_commands.specs.declared.command.Who.TheVariants as who
use Rattle.hy_events.specs.declared.event.Event.{Event}
use Rattle.hy_events.specs.declared.event.Event.TheVariants as events
use Rattle.hy_events.specs.declared.event.EventFault.{EventFault}
use Rattle.hy_events.specs.declared.event.EventFault.TheVariants as faults
use Rattle.hy_events.specs.Words.{◌>>=◌, fields, first_word, later_words, number_at, number_of, of_words, word_at, words, words_from}

-- ---- commands

-- `=` and a last name, which may be empty, or a number
abbrev pub who_of : List ℕ → Option Who
who_of [] = None
who_of (first ∷ name) =
    if first == 61 then Some (who.Last name) else option_map who.Number (number_of (first ∷ name))

abbrev pub who_at : ℕ → List (List ℕ) → Option Who
who_at place words = word_at place words >>= who_of

-- ITEM:SUPPLY:QTY
abbrev pub line_of : List ℕ → Option PurchaseLine
line_of word =
    let given = fields word in
    number_at 0 given >>= λ item.
    number_at 1 given >>= λ supply_warehouse.
    number_at 2 given >>= λ quantity.
    of_words 3 given (record { item = item; supply_warehouse = supply_warehouse; quantity = quantity })

-- a line for each word, and at least one
abbrev pub each_line : List (List ℕ) → Option (List PurchaseLine)
each_line [] = Some []
each_line (word ∷ later) = line_of word >>= λ line. each_line later >>= λ lines. Some (line ∷ lines)

abbrev pub lines_of : List (List ℕ) → Option (List PurchaseLine)
lines_of words = first_word words >>= λ word. each_line words

-- W D C AT ITEM:SUPPLY:QTY ..
abbrev pub purchase_of : List (List ℕ) → Option Purchase
purchase_of given =
    number_at 0 given >>= λ warehouse.
    number_at 1 given >>= λ district.
    number_at 2 given >>= λ customer.
    number_at 3 given >>= λ moment.
    lines_of (words_from 4 given) >>= λ lines.
    Some (record { warehouse = warehouse; district = district; customer = customer; at = moment; lines = lines })

-- W D CW CD WHO AMOUNT AT
abbrev pub payment_of : List (List ℕ) → Option Payment
payment_of given =
    number_at 0 given >>= λ warehouse.
    number_at 1 given >>= λ district.
    number_at 2 given >>= λ customer_warehouse.
    number_at 3 given >>= λ customer_district.
    who_at 4 given >>= λ who.
    number_at 5 given >>= λ amount.
    number_at 6 given >>= λ moment.
    of_words 7 given (record {
      warehouse = warehouse;
      district = district;
      customer_warehouse = customer_warehouse;
      customer_district = customer_district;
      who = who;
      amount = amount;
      at = moment;
    })

-- W D WHO
abbrev pub order_status_of : List (List ℕ) → Option OrderStatus
order_status_of given =
    number_at 0 given >>= λ warehouse.
    number_at 1 given >>= λ district.
    who_at 2 given >>= λ who.
    of_words 3 given (record { warehouse = warehouse; district = district; who = who })

-- W CARRIER AT
abbrev pub delivery_of : List (List ℕ) → Option Delivery
delivery_of given =
    number_at 0 given >>= λ warehouse.
    number_at 1 given >>= λ carrier.
    number_at 2 given >>= λ moment.
    of_words 3 given (record { warehouse = warehouse; carrier = carrier; at = moment })

-- W D T
abbrev pub stock_level_of : List (List ℕ) → Option StockLevel
stock_level_of given =
    number_at 0 given >>= λ warehouse.
    number_at 1 given >>= λ district.
    number_at 2 given >>= λ threshold.
    of_words 3 given (record { warehouse = warehouse; district = district; threshold = threshold })

-- the command of this name with these words behind it
abbrev pub command_of : List ℕ → List (List ℕ) → Option Command
command_of name given =
    if bytes_eq name (codes "neworder") then option_map commands.NewOrder (purchase_of given)
    else if bytes_eq name (codes "payment") then option_map commands.Payment (payment_of given)
    else if bytes_eq name (codes "orderstatus") then option_map commands.OrderStatus (order_status_of given)
    else if bytes_eq name (codes "delivery") then option_map commands.Delivery (delivery_of given)
    else if bytes_eq name (codes "stocklevel") then option_map commands.StockLevel (stock_level_of given)
    else None

-- ---- events

-- W
abbrev pub warehouse_of : List (List ℕ) → Option ℕ
warehouse_of given = number_at 0 given >>= λ warehouse. of_words 1 given warehouse

-- NAME: a word that isn't empty
abbrev pub name_of : List ℕ → Option (List ℕ)
name_of [] = None
name_of (first ∷ later) = Some (first ∷ later)

abbrev pub snapshot_of : List (List ℕ) → Option (List ℕ)
snapshot_of given = word_at 0 given >>= λ word. name_of word >>= λ name. of_words 1 given name

-- NAME, or NAME from OLD
abbrev pub forked_of : List ℕ → List (List ℕ) → Option Event
forked_of name [] = Some (events.Fork name)
forked_of name (word ∷ later) =
    if bytes_eq word (codes "from") then option_map (events.ForkFrom name) (snapshot_of later) else None

abbrev pub fork_of : List (List ℕ) → Option Event
fork_of given = first_word given >>= λ word. name_of word >>= λ name. forked_of name (later_words given)

-- NAME TEXT: the name ends at the first space, and the text is all that stands behind it
abbrev pub query_of : List ℕ → Option Event
query_of given =
    let end : ℕ = position_or_len (λ byte. byte == 32) given in
    if (end == 0) || nat_le (length given) end then None
    else Some (events.Query (take end given) (drop (end + 1) given))

-- W F
abbrev pub limit_of : List (List ℕ) → Option Event
limit_of given =
    number_at 0 given >>= λ warehouse.
    number_at 1 given >>= λ frames.
    of_words 2 given (events.Limit warehouse frames)

-- a command's own words
abbrev pub begun_of : List (List ℕ) → Option Command
begun_of given = first_word given >>= λ name. command_of name (later_words given)

-- the event of this name with these words behind it
abbrev pub event_named : List ℕ → List (List ℕ) → Option Event
event_named name given =
    if bytes_eq name (codes "begin") then option_map events.Begin (begun_of given)
    else if bytes_eq name (codes "step") then option_map events.Step (warehouse_of given)
    else if bytes_eq name (codes "done") then option_map events.Done (warehouse_of given)
    else if bytes_eq name (codes "fork") then fork_of given
    else if bytes_eq name (codes "close") then option_map events.Close (snapshot_of given)
    else if bytes_eq name (codes "check") then option_map events.Check (snapshot_of given)
    else if bytes_eq name (codes "touched") then option_map events.Touched (warehouse_of given)
    else if bytes_eq name (codes "free") then option_map events.Free (warehouse_of given)
    else if bytes_eq name (codes "shared") then option_map events.Shared (warehouse_of given)
    else if bytes_eq name (codes "limit") then limit_of given
    else option_map events.Run (command_of name given)

-- the event that a line says, if it says one
abbrev pub event_of : List ℕ → Option Event
event_of line =
    if bytes_eq (take 6 line) (codes "query ") then query_of (drop 6 line)
    else first_word (words line) >>= λ name. event_named name (later_words (words line))

-- ---- which events take memory to be read

-- a customer by last name
abbrev pub is_by_name : Who → Bool
is_by_name (who.Number number) = false
is_by_name (who.Last name) = true

-- a command has the lines of an order, or a last name
abbrev pub takes_memory : Command → Bool
takes_memory (commands.NewOrder order) = true
takes_memory (commands.Payment payment) = is_by_name payment.who
takes_memory (commands.OrderStatus status) = is_by_name status.who
takes_memory (commands.Delivery delivery) = false
takes_memory (commands.StockLevel level) = false

-- an event runs or begins such a command; no other event takes memory
abbrev pub TakesMemory : Event → Type 0
TakesMemory (events.Run command) = takes_memory command ≡ true
TakesMemory (events.Begin command) = takes_memory command ≡ true
TakesMemory other = ⊥

-- ---- lines

-- a line was read: an empty one says nothing, and each other one says its event or is a bad event. Memory may be refused
-- where the line says an event that takes some
abbrev pub IsRead : List ℕ → Result (Option Event) EventFault → Type 0
IsRead line (Ok None) = line ≡ []
IsRead line (Ok (Some event)) = event_of line ≡ Some event
IsRead line (Err faults.BadEvent) = (line ≢ []) × (event_of line ≡ None)
IsRead line (Err faults.NoMemory) = IsSomeAnd (event_of line) TakesMemory
