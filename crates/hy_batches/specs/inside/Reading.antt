-- Reading a batch from left to right: what is read, and what is left; nothing where no batch can begin so.
use Rattle.std.specs.Prelude.{◌≡◌, ℕ, zero, suc, ◌+◌, ◌==◌, Bool, true, false, not, ◌&&◌, bytes_eq, nat_le, nat_lt, if◌then◌else◌, List, [], ◌∷◌, ◌++◌, length, take, drop, Option, Some, None, Result, Ok, Err}
use Rattle.hy_page.specs.Bytes.{number_of}
use Rattle.hy_rows.specs.Limits.{max_lines, max_warehouses}
use Rattle.hy_rows.specs.Ranges.{is_between}
use Rattle.hy_commands.specs.declared.command.Command.{Command}
use Rattle.hy_commands.specs.declared.command.Command.TheVariants as commands
use Rattle.hy_commands.specs.declared.command.Commit.{Commit}
use Rattle.hy_commands.specs.declared.command.Commit.TheVariants as commits
use Rattle.hy_commands.specs.declared.command.Delivery.{Delivery}
use Rattle.hy_commands.specs.declared.command.Payment.{Payment}
use Rattle.hy_commands.specs.declared.command.Purchase.{Purchase}
use Rattle.hy_commands.specs.declared.command.PurchaseLine.{PurchaseLine}
use Rattle.hy_commands.specs.declared.command.Who.{Who}
use Rattle.hy_commands.specs.declared.command.Who.TheVariants as who
use Rattle.hy_commands.specs.declared.edition.Edition.{Edition}
use Rattle.hy_commands.specs.declared.edition.Edition.TheVariants as editions
use Rattle.hy_batches.specs.Batches.{Batch}
use Rattle.hy_batches.specs.declared.fault.Malformed.{Malformed}
use Rattle.hy_batches.specs.declared.fault.ReadFault.{ReadFault}
use Rattle.hy_batches.specs.declared.fault.ReadFault.TheVariants as faults
use Rattle.hy_batches.specs.Encoding.{mark}
use Rattle.hy_commands.specs.Parts.{is_by_number}
use Rattle.hy_batches.specs.Grammar.{is_allowed, names_several}

infixl 10 ◌>>=◌
abbrev pub ◌>>=◌ : {A B : Type 0} → Option A → (A → Option B) → Option B
(Some x) >>= f = f x
None >>= f = None

-- what a function returned, seen by `view`, is what is read, unless memory ran out
abbrev pub Fails : {Y : Type 0} → ReadFault → Option Y → Type 0
Fails faults.NoMemory read = Unit {0}
Fails faults.Malformed read = read ≡ None

abbrev pub Gives : {X Y : Type 0} → (X → Y) → Result X ReadFault → Option Y → Type 0
Gives view (Ok x) read = read ≡ Some (view x)
Gives view (Err fault) read = Fails fault read

-- the same, of a function that takes no memory
abbrev pub Sees : {X Y : Type 0} → (X → Y) → Result X Malformed → Option Y → Type 0
Sees view (Ok x) read = read ≡ Some (view x)
Sees view (Err fault) read = read ≡ None

-- a commit that is read is added to others
abbrev pub Adds : {X : Type 0} → (X → List ℕ) → List Commit → List Commit → Result X ReadFault → Option (Commit × List ℕ) → Type 0
Adds view old new (Ok rest) read = (commit : Commit) × (read ≡ Some (commit, view rest)) × (new ≡ old ++ commit ∷ [])
Adds view old new (Err fault) read = Fails fault read

-- ---- values

-- so many bytes, and a number of so many
unfoldable pub front_at : ℕ → List ℕ → Option (List ℕ × List ℕ)
front_at count bytes = if nat_lt (length bytes) count then None else Some (take count bytes, drop count bytes)

unfoldable pub number_at : ℕ → List ℕ → Option (ℕ × List ℕ)
number_at width bytes = do
  front ← front_at width bytes
  Some (number_of front.0, front.1)

unfoldable pub who_at : List ℕ → Option (Who × List ℕ)
who_at [] = None
who_at (zero ∷ rest) = do
  number ← number_at 2 rest
  Some (who.Number number.0, number.1)
who_at (suc zero ∷ rest) = do
  size ← number_at 1 rest
  name ← front_at size.0 size.1
  Some (who.Last name.0, name.1)
who_at (suc (suc tag) ∷ rest) = None

unfoldable pub line_at : List ℕ → Option (PurchaseLine × List ℕ)
line_at bytes = do
  item ← number_at 4 bytes
  supply_warehouse ← number_at 1 item.1
  quantity ← number_at 1 supply_warehouse.1
  Some (record { item = item.0; supply_warehouse = supply_warehouse.0; quantity = quantity.0 }, quantity.1)

unfoldable pub lines_at : ℕ → List ℕ → Option (List PurchaseLine × List ℕ)
lines_at zero bytes = Some ([], bytes)
lines_at (suc count) bytes = do
  line ← line_at bytes
  others ← lines_at count line.1
  Some (line.0 ∷ others.0, others.1)

-- the line that stands in the first six bytes, and so many lines, six bytes each
abbrev pub line_in : List ℕ → PurchaseLine
line_in bytes =
    record {
      item = number_of (take 4 bytes);
      supply_warehouse = number_of (take 1 (drop 4 bytes));
      quantity = number_of (take 1 (drop 5 bytes));
    }

abbrev pub lines_in : ℕ → List ℕ → List PurchaseLine
lines_in zero bytes = []
lines_in (suc count) bytes = line_in bytes ∷ lines_in count (drop 6 bytes)

-- a number of lines, no more than a purchase may have, and they
unfoldable pub counted_lines_at : List ℕ → Option (List PurchaseLine × List ℕ)
counted_lines_at bytes = do
  count ← number_at 1 bytes
  if nat_lt max_lines count.0 then None else lines_at count.0 count.1

-- ---- commands

unfoldable pub purchase_at : List ℕ → Option (Purchase × List ℕ)
purchase_at bytes = do
  warehouse ← number_at 1 bytes
  district ← number_at 1 warehouse.1
  customer ← number_at 2 district.1
  at ← number_at 8 customer.1
  lines ← counted_lines_at at.1
  Some (record { warehouse = warehouse.0; district = district.0; customer = customer.0; at = at.0; lines = lines.0 }, lines.1)

unfoldable pub payment_at : List ℕ → Option (Payment × List ℕ)
payment_at bytes = do
  warehouse ← number_at 1 bytes
  district ← number_at 1 warehouse.1
  customer_warehouse ← number_at 1 district.1
  customer_district ← number_at 1 customer_warehouse.1
  who ← who_at customer_district.1
  amount ← number_at 4 who.1
  at ← number_at 8 amount.1
  Some (
    record {
      warehouse = warehouse.0;
      district = district.0;
      customer_warehouse = customer_warehouse.0;
      customer_district = customer_district.0;
      who = who.0;
      amount = amount.0;
      at = at.0;
    },
    at.1,
  )

unfoldable pub delivery_at : List ℕ → Option (Delivery × List ℕ)
delivery_at bytes = do
  warehouse ← number_at 1 bytes
  carrier ← number_at 1 warehouse.1
  at ← number_at 8 carrier.1
  Some (record { warehouse = warehouse.0; carrier = carrier.0; at = at.0 }, at.1)

unfoldable pub command_at : List ℕ → Option (Command × List ℕ)
command_at [] = None
command_at (zero ∷ rest) = None
command_at (suc zero ∷ rest) = do
  order ← purchase_at rest
  Some (commands.NewOrder order.0, order.1)
command_at (suc (suc zero) ∷ rest) = do
  payment ← payment_at rest
  Some (commands.Payment payment.0, payment.1)
command_at (suc (suc (suc zero)) ∷ rest) = do
  delivery ← delivery_at rest
  Some (commands.Delivery delivery.0, delivery.1)
command_at (suc (suc (suc (suc tag))) ∷ rest) = None

-- ---- commits

-- any commit, and one that may stand in the list of a warehouse
unfoldable pub any_commit_at : Edition → List ℕ → Option (Commit × List ℕ)
any_commit_at edition [] = None
any_commit_at edition (zero ∷ rest) = do
  command ← command_at rest
  Some (commits.Local edition command.0, command.1)
any_commit_at edition (suc zero ∷ rest) = do
  number ← number_at 8 rest
  command ← command_at number.1
  Some (commits.Cross edition number.0 command.0, command.1)
any_commit_at edition (suc (suc tag) ∷ rest) = None

unfoldable pub commit_at : Edition → ℕ → List ℕ → Option (Commit × List ℕ)
commit_at edition warehouse bytes = do
  commit ← any_commit_at edition bytes
  if is_allowed warehouse commit.0 then Some commit else None

-- the commit of a command: that of one warehouse, or with a number that of several; whether the command may have such a one
abbrev pub commit_of : Edition → Option ℕ → Command → Commit
commit_of edition None command = commits.Local edition command
commit_of edition (Some number) command = commits.Cross edition number command

abbrev pub may_have : Option ℕ → Command → Bool
may_have None command = not (names_several command)
may_have (Some number) command = names_several command && nat_le 1 number && is_by_number command

-- the same in two steps: the number of a commit, if it has one, and a command that may stand behind it
unfoldable pub commit_number_at : List ℕ → Option (Option ℕ × List ℕ)
commit_number_at [] = None
commit_number_at (zero ∷ rest) = Some (None, rest)
commit_number_at (suc zero ∷ rest) = do
  number ← number_at 8 rest
  Some (Some number.0, number.1)
commit_number_at (suc (suc tag) ∷ rest) = None

unfoldable pub numbered_at : Edition → Option ℕ → ℕ → List ℕ → Option (Commit × List ℕ)
numbered_at edition number warehouse bytes = do
  command ← command_at bytes
  if is_allowed warehouse (commit_of edition number command.0)
      then Some (commit_of edition number command.0, command.1)
      else None

unfoldable pub commits_at : Edition → ℕ → ℕ → List ℕ → Option (List Commit × List ℕ)
commits_at edition warehouse zero bytes = Some ([], bytes)
commits_at edition warehouse (suc count) bytes = do
  commit ← commit_at edition warehouse bytes
  others ← commits_at edition warehouse count commit.1
  Some (commit.0 ∷ others.0, others.1)

-- ---- batches

unfoldable pub list_at : Edition → ℕ → List ℕ → Option (List Commit × List ℕ)
list_at edition warehouse bytes = do
  count ← number_at 4 bytes
  commits_at edition warehouse count.0 count.1

unfoldable pub lists_at : Edition → ℕ → ℕ → List ℕ → Option (List (List Commit) × List ℕ)
lists_at edition warehouse zero bytes = Some ([], bytes)
lists_at edition warehouse (suc count) bytes = do
  list ← list_at edition warehouse bytes
  others ← lists_at edition (warehouse + 1) count list.1
  Some (list.0 ∷ others.0, others.1)

-- all of the bytes
unfoldable pub content_of : Edition → List ℕ → Option Batch
content_of edition bytes = do
  count ← number_at 1 bytes
  lists ← (if is_between 1 max_warehouses count.0 then lists_at edition 1 count.0 count.1 else None)
  if length lists.1 == 0 then Some (record { edition = edition; lists = lists.0 }) else None

-- the edition that a mark tells
unfoldable pub edition_marked : List ℕ → Option Edition
edition_marked front =
    if bytes_eq front (mark editions.First) then Some editions.First
    else if bytes_eq front (mark editions.Second) then Some editions.Second
    else None

-- the edition that a mark tells with the bytes behind it, and those behind the end of a batch
unfoldable pub marked_at : List ℕ → Option (Edition × List ℕ)
marked_at bytes = do
  front ← front_at 4 bytes
  edition ← edition_marked front.0
  Some (edition, front.1)

unfoldable pub ended_at : List ℕ → Option (List ℕ)
ended_at bytes = do
  last ← number_at 1 bytes
  if last.0 == 69 then Some last.1 else None

unfoldable pub batch_at : List ℕ → Option (Batch × List ℕ)
batch_at bytes = do
  marked ← marked_at bytes
  size ← number_at 8 marked.1
  content ← front_at size.0 size.1
  batch ← content_of marked.0 content.0
  after ← ended_at content.1
  Some (batch, after)

-- ---- what is left behind what is read, whether something is, and of which edition a batch is

abbrev pub left : {A : Type 0} → Option (A × List ℕ) → Option (List ℕ)
left None = None
left (Some read) = Some read.1

abbrev pub is_read : {A : Type 0} → Option A → Bool
is_read None = false
is_read (Some read) = true

abbrev pub passed : Option (Batch × List ℕ) → Option (Edition × List ℕ)
passed None = None
passed (Some read) = Some (read.0.edition, read.1)
