-- What always holds inside a book, a share and a purse.
use Rattle.std.specs.Prelude.{◌≡◌, ℕ, ◌*◌, ◌≤◌, List, [], ◌∷◌, filter, length, nat_le, All}
use Rattle.atomic_table.specs.Seated.{TableId}
use Rattle.atomic_table.specs.Table.{Me}
use Rattle.hy_worlds.specs.Origins.{Origin}
use Rattle.hy_ledger.specs.declared.view.ShareState.{ShareState}
use Rattle.hy_ledger.specs.declared.view.View.{View}
use Rattle.hy_ledger.specs.declared.totals.Totals.{Totals}
use Rattle.hy_ledger.specs.Books.{cents_of, max_cents, max_commits, totals_of, BookState, IsCovered, IsWarehouse}
use Rattle.hy_ledger.specs.Law.{holder, keeper, weigh}

-- warehouses have numbers of one byte
abbrev pub max_warehouse : ℕ
max_warehouse = 255

-- a book counts what its seat has entered
pub record IsBook (kit : Origin) (table word : TableId) (me : Me (Unit {0}) View) (book : BookState) : Type 0 where
  pub table_is : table ≡ kit.accounts
  pub word_is : word ≡ kit.accounts
  pub seat : me ≡ (keeper book.warehouse me.0.paid, [])
  pub warehouse : IsWarehouse kit.partitions book.warehouse
  pub commits_are : book.commits ≡ length me.0.paid
  pub cents_are : book.cents ≡ weigh (λ c. c) me.0.paid
  pub few : book.commits ≤ max_commits
  pub small : book.cents ≤ max_cents * book.commits

-- what is true of each share
abbrev pub IsGiven : Origin → ShareState → Type 0
IsGiven kit share = IsWarehouse kit.partitions share.warehouse × (share.warehouse ≤ max_warehouse) × (share.cents ≤ max_cents)

-- a share has its seat, and no other share is there
pub record IsShare (kit : Origin) (word : TableId) (me : Me (Unit {0}) View) (share : ShareState) : Type 0 where
  pub word_is : word ≡ kit.accounts
  pub seat : me ≡ (holder (share ∷ []), [])
  pub given : IsGiven kit share

-- a purse counts the shares of its seat
pub record IsPurse (kit : Origin) (table word : TableId) (me : Me (Unit {0}) View) (commits cents : ℕ) : Type 0 where
  pub table_is : table ≡ kit.accounts
  pub word_is : word ≡ kit.accounts
  pub seat : me ≡ (holder me.0.held, [])
  pub given : All (IsGiven kit) me.0.held
  pub commits_are : commits ≡ length me.0.held
  pub cents_are : cents ≡ cents_of me.0.held
  pub few : commits ≤ max_warehouse * max_commits

-- the shares of the first warehouses
abbrev pub up_to : ℕ → List ShareState → List ShareState
up_to last shares = filter (λ s. nat_le s.warehouse last) shares

-- the shares of the warehouses whose books were audited are covered by these
pub record IsBalance (shares : List ShareState) (audited : ℕ) (books : Totals) : Type 0 where
  pub covered : IsCovered (totals_of (up_to audited shares)) books
  pub few : books.commits ≤ audited * max_commits
  pub small : books.cents ≤ max_cents * books.commits
  pub warehouses : audited ≤ max_warehouse
