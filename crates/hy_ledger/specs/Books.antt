-- Books, shares and purses as clauses see them, and what an audit says.
use Rattle.std.specs.Prelude.{◌≡◌, ℕ, suc, ◌+◌, ◌≤◌, ◌==◌, List, [], ◌∷◌, filter, length}
use Rattle.hy_ledger.specs.declared.view.ShareState.{ShareState}
use Rattle.hy_ledger.specs.declared.totals.Totals.{Totals}

-- so many commands can one book enter, and so many cents has each at most
abbrev pub max_commits : ℕ
max_commits = 4294967296

abbrev pub max_cents : ℕ
max_cents = 8000000

-- the book of a warehouse: how many commands were accepted there, and their cents
pub record BookState : Type 0 where
  pub warehouse : ℕ
  pub commits : ℕ
  pub cents : ℕ

-- a purse: the shares that it took, in order
pub record PurseState : Type 0 where
  pub shares : List ShareState

-- the book of a warehouse where nothing was accepted yet
abbrev pub new_book : ℕ → BookState
new_book warehouse = record { warehouse = warehouse; commits = 0; cents = 0 }

-- the shares that a warehouse's book gave
abbrev pub own : ℕ → List ShareState → List ShareState
own warehouse shares = filter (λ s. s.warehouse == warehouse) shares

-- the cents of shares
abbrev pub cents_of : List ShareState → ℕ
cents_of [] = 0
cents_of (share ∷ shares) = share.cents + cents_of shares

-- what shares come to
abbrev pub totals_of : List ShareState → Totals
totals_of shares = record { commits = length shares; cents = cents_of shares }

-- what purses come to beside what books come to: no more commits, no more cents, and the same cents where they have as
-- many commits
pub record IsCovered (purses books : Totals) : Type 0 where
  pub commits : purses.commits ≤ books.commits
  pub cents : purses.cents ≤ books.cents
  pub settled : purses.commits ≡ books.commits → purses.cents ≡ books.cents

-- the audit of a book beside a purse: the shares of its warehouse are covered by it
abbrev pub Audits : BookState → List ShareState → Type 0
Audits book shares = IsCovered (totals_of (own book.warehouse shares)) record { commits = book.commits; cents = book.cents }

-- what no book and no share comes to, and what books come to with one more
abbrev pub no_totals : Totals
no_totals = record { commits = 0; cents = 0 }

abbrev pub with_book : Totals → BookState → Totals
with_book books book = record { commits = books.commits + book.commits; cents = books.cents + book.cents }

-- what books come to
abbrev pub totals_of_books : List BookState → Totals
totals_of_books [] = no_totals
totals_of_books (book ∷ books) = with_book (totals_of_books books) book

-- a purse beside the books of the first warehouses: its shares, how many books were audited, and what they come to
pub record BalanceState : Type 0 where
  pub shares : List ShareState
  pub audited : ℕ
  pub books : Totals

-- a warehouse of a kit with so many partitions
abbrev pub IsWarehouse : ℕ → ℕ → Type 0
IsWarehouse partitions warehouse = (1 ≤ warehouse) × (warehouse ≤ partitions)

-- the books are those of this warehouse, the next one, and so on
abbrev pub AreBooksFrom : ℕ → List BookState → Type 0
AreBooksFrom warehouse [] = Unit {0}
AreBooksFrom warehouse (book ∷ books) = (book.warehouse ≡ warehouse) × AreBooksFrom (suc warehouse) books
