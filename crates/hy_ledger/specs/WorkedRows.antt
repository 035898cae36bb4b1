-- Worked rows, which the checker computes: three shares of two warehouses, and their books.
use Rattle.std.specs.Prelude.{◌≡◌, ℕ, ◌==◌, List, [], ◌∷◌, refl}
use Rattle.std.proofs.Common.{ap, true≢false}
use Rattle.hy_ledger.specs.declared.view.ShareState.{ShareState}
use Rattle.hy_ledger.specs.declared.totals.Totals.{Totals}
use Rattle.hy_ledger.specs.Books.{new_book, own, totals_of, totals_of_books, AreBooksFrom, BookState, IsCovered}
use Rattle.hy_ledger.specs.Law.{after_handing, entered, handed, holder, keeper, weigh, weigh_own}

abbrev share : ℕ → ℕ → ShareState
share warehouse cents = record { warehouse = warehouse; cents = cents }

abbrev totals : ℕ → ℕ → Totals
totals commits cents = record { commits = commits; cents = cents }

-- a purse with two shares of warehouse 1 and one of warehouse 2
abbrev shares : List ShareState
shares = share 1 500 ∷ share 2 70 ∷ share 1 30 ∷ []

own-1 : own 1 shares ≡ share 1 500 ∷ share 1 30 ∷ []
own-1 = refl

own-3 : own 3 shares ≡ []
own-3 = refl

purse : totals_of shares ≡ totals 3 600
purse = refl

-- warehouse 1 entered what is in the purse, and warehouse 2 another command of 100 cents
abbrev books : List BookState
books = record { warehouse = 1; commits = 2; cents = 530 } ∷ record { warehouse = 2; commits = 2; cents = 170 } ∷ []

all-books : totals_of_books books ≡ totals 4 700
all-books = refl

in-order : AreBooksFrom 1 books
in-order = (refl, (refl, tt))

settled-1 : totals_of (own 1 shares) ≡ totals 2 530
settled-1 = refl

open-2 : totals_of (own 2 shares) ≡ totals 1 70
open-2 = refl

-- a purse with as many commits and other cents isn't covered, neither with more nor with fewer
more-cents : IsCovered (totals 2 531) (totals 2 530) → ⊥
more-cents covered = true≢false (ap (λ n. n == 531) (covered.settled refl))

fewer-cents : IsCovered (totals 2 529) (totals 2 530) → ⊥
fewer-cents covered = true≢false (ap (λ n. n == 529) (covered.settled refl))

-- a new book has nothing; one that enters a command of 30 cents has its share until it gives it away
no-book : new_book 1 ≡ record { warehouse = 1; commits = 0; cents = 0 }
no-book = refl

given : handed (entered 30 (keeper 1 (500 ∷ []))) ≡ holder (share 1 30 ∷ [])
given = refl

kept : after_handing (entered 30 (keeper 1 (500 ∷ []))) ≡ keeper 1 (500 ∷ 30 ∷ [])
kept = refl

-- the rule's weights: one for each share, and the cents
counted : weigh_own (λ _. 1) 1 shares ≡ 2
counted = refl

weighed : weigh_own (λ c. c) 1 shares ≡ weigh (λ c. c) (500 ∷ 30 ∷ [])
weighed = refl
