-- What the seats know, and the rule that ties the shares to the books.
use Rattle.std.specs.Prelude.{ℕ, suc, ◌+◌, ◌==◌, ◌<◌, ◌≤◌, ◌≡◌, true, false, if◌then◌else◌, List, [], ◌∷◌, ◌++◌, length}
use mathlib.Core.Option.{some}
use lib.ListN.{get_elem?}
use Rattle.atomic_table.specs.Table.{Me}
use Rattle.hy_ledger.specs.declared.view.ShareState.{ShareState}
use Rattle.hy_ledger.specs.declared.view.View.{View}
use Rattle.hy_ledger.specs.Books.{max_commits}

-- the weights of cents, added up
abbrev pub weigh : (ℕ → ℕ) → List ℕ → ℕ
weigh h [] = 0
weigh h (cents ∷ others) = h cents + weigh h others

-- the weights of the shares of one warehouse, added up
abbrev pub weigh_own : (ℕ → ℕ) → ℕ → List ShareState → ℕ
weigh_own h warehouse [] = 0
weigh_own h warehouse (share ∷ shares) = (if share.warehouse == warehouse then h share.cents else 0) + weigh_own h warehouse shares

-- what a function of the views comes to
abbrev pub total : (View → ℕ) → List View → ℕ
total f [] = 0
total f (v ∷ views) = f v + total f views

-- what is held at a seat of one warehouse's shares
abbrev pub held_at : (ℕ → ℕ) → ℕ → View → ℕ
held_at h warehouse v = weigh_own h warehouse v.held + weigh_own h warehouse v.guest

-- who has shares, and no more
abbrev pub holder : List ShareState → View
holder shares = record { held = shares; guest = []; paid = []; warehouse = 0; is_book = false; dealt = 0; is_dealer = false }

-- a book that entered commands of these cents
abbrev pub keeper : ℕ → List ℕ → View
keeper warehouse paid = record { held = []; guest = []; paid = paid; warehouse = warehouse; is_book = true; dealt = 0; is_dealer = false }

-- who dealt so many books
abbrev pub dealer : ℕ → View
dealer dealt = record { held = []; guest = []; paid = []; warehouse = 0; is_book = false; dealt = dealt; is_dealer = true }

-- the same view with other shares
abbrev pub with_shares : View → List ShareState → List ShareState → View
with_shares v held guest = record { held = held; guest = guest; paid = v.paid; warehouse = v.warehouse; is_book = v.is_book; dealt = v.dealt; is_dealer = v.is_dealer }

-- the dealer, and the book of the next warehouse
abbrev pub after_dealing : View → View
after_dealing v = record { held = v.held; guest = v.guest; paid = v.paid; warehouse = v.warehouse; is_book = v.is_book; dealt = suc v.dealt; is_dealer = v.is_dealer }

abbrev pub new_keeper : View → View
new_keeper v = keeper (suc v.dealt) []

-- a book that entered one command more, and has its share
abbrev pub entered : ℕ → View → View
entered cents v = record {
  held = v.held ++ record { warehouse = v.warehouse; cents = cents } ∷ [];
  guest = v.guest;
  paid = v.paid ++ cents ∷ [];
  warehouse = v.warehouse;
  is_book = v.is_book;
  dealt = v.dealt;
  is_dealer = v.is_dealer;
}

-- who gave all shares away, and who got them
abbrev pub after_handing : View → View
after_handing v = with_shares v [] v.guest

abbrev pub handed : View → View
handed v = holder v.held

-- who took another's shares
abbrev pub gathered : View → View → View
gathered v other = with_shares v (v.held ++ other.held) v.guest

-- a book with a purse beside it; the book, and the purse, when the purse was taken away
abbrev pub boarded : View → View → View
boarded v purse = with_shares v v.held purse.held

abbrev pub after_leaving : View → View
after_leaving v = with_shares v v.held []

abbrev pub leaving : View → View
leaving v = holder v.guest

-- what the rule says of a seat: one alone deals books, and each warehouse has one book at most
abbrev pub Fits : ℕ → (ℕ → ℕ) → (ℕ → List ℕ) → ℕ → View → Type 0
Fits dealt seat_of paid seat v =
    (v.is_dealer ≡ true → (seat ≡ 0) × (v.dealt ≡ dealt))
    × (v.is_book ≡ true → (seat_of v.warehouse ≡ seat) × (v.warehouse ≤ dealt) × (v.paid ≡ paid v.warehouse))

-- the rule: of each warehouse no more is held at all seats together than its book entered, however cents are weighed
pub record IsKept (views : List View) : Type 0 where
  pub dealt : ℕ
  pub seat_of : ℕ → ℕ
  pub paid : ℕ → List ℕ
  pub each : (seat : ℕ) (v : View) → get_elem? views seat ≡ some v → Fits dealt seat_of paid seat v
  pub unpaid : (warehouse : ℕ) → dealt < warehouse → paid warehouse ≡ []
  pub few : (warehouse : ℕ) → length (paid warehouse) ≤ max_commits
  pub within : (warehouse : ℕ) (h : ℕ → ℕ) → total (held_at h warehouse) views ≤ weigh h (paid warehouse)

module _ {S : Type 0} where
  -- a command is entered
  abbrev pub Enters : ℕ → Me S View → Me S View → Type 0
  Enters cents before after = after ≡ (entered cents before.0, before.1)

  -- what lies beside a book weighs no more than what it entered
  abbrev pub Meets : Me S View → Me S View → Type 0
  Meets before after =
      (after ≡ before)
      × (before.0.is_book ≡ true → (h : ℕ → ℕ) → weigh_own h before.0.warehouse before.0.guest ≤ weigh h before.0.paid)

  -- nobody has more shares of a warehouse than its book can give
  abbrev pub Counts : Me S View → Me S View → Type 0
  Counts before after = (after ≡ before) × ((warehouse : ℕ) → weigh_own (λ _. 1) warehouse before.0.held ≤ max_commits)
