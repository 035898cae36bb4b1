-- What is covered: the shares of one warehouse by its book, and all shares by all books.
use Rattle.std.proofs.Common.{◌≡◌, ℕ, zero, suc, ◌+◌, ◌*◌, ◌-◌, ◌≤◌, ◌==◌, Bool, true, false, cond, List, [], ◌∷◌, length, refl, ap, sym, subst, ◌∙◌, arith, suc-mul}
use Rattle.std.specs.Prelude.{All}
use Rattle.std.proofs.lemmas.List.Elements.{All-head, All-tail}
use Rattle.hy_ledger.specs.declared.view.ShareState.{ShareState}
use Rattle.hy_ledger.specs.declared.totals.Totals.{Totals}
use Rattle.hy_ledger.specs.Books.{cents_of, no_totals, own, totals_of, totals_of_books, with_book, AreBooksFrom, Audits, BookState, IsCovered, IsWarehouse}
use Rattle.hy_ledger.specs.Inside.{up_to}
use Rattle.hy_ledger.specs.Law.{weigh, weigh_own}
use Rattle.hy_ledger.proofs.Shares.{cents-own, cents-up_to, length-own, length-up_to, up_to-all, up_to-none, All-map}

-- what is left to a bound, added to what is there
rest : (most : ℕ) (xs : List ℕ) → weigh (λ c. c) xs ≤ most
    → weigh (λ c. most - c) xs + weigh (λ c. c) xs ≡ length xs * most
rest most [] less = omega arith
rest most (x ∷ xs) less =
    let a : weigh (λ c. most - c) xs + weigh (λ c. c) xs ≡ length xs * most = rest most xs (omega arith) in
    let b : suc (length xs) * most ≡ length xs * most + most = suc-mul (length xs) most in
    let n : ℕ = length xs * most in
    let c : (most - x) + weigh (λ c. most - c) xs + (x + weigh (λ c. c) xs) ≡ n + most = omega arith in
    c ∙ sym b

rest-if : (b : Bool) (most x others : ℕ) → cond b x 0 + others ≤ most → cond b (most - x) 0 + cond b x 0 ≡ cond b 1 0 * most
rest-if true most x others less = omega arith
rest-if false most x others less = omega arith

mul-add : (n m k : ℕ) → (n + m) * k ≡ n * k + m * k
mul-add n zero k = omega arith
mul-add n (suc m) k =
    let a = mul-add n m k in
    let b = suc-mul (n + m) k in
    let c = suc-mul m k in
    let e : n + suc m ≡ suc (n + m) = omega arith in
    ap (λ i. i * k) e ∙ b ∙ omega arith

rest-own : (most w : ℕ) (shares : List ShareState) → weigh_own (λ c. c) w shares ≤ most
    → weigh_own (λ c. most - c) w shares + weigh_own (λ c. c) w shares ≡ weigh_own (λ _. 1) w shares * most
rest-own most w [] less = omega arith
rest-own most w (s ∷ shares) less =
    let test : Bool = s.warehouse == w in
    let here : ℕ = cond test s.cents 0 in
    let less' : here + weigh_own (λ c. c) w shares ≤ most = less in
    let a = rest-own most w shares (omega arith) in
    let b = rest-if test most s.cents (weigh_own (λ c. c) w shares) less in
    let c = mul-add (cond test 1 0) (weigh_own (λ _. 1) w shares) most in
    let left : ℕ = cond test (most - s.cents) 0 in
    let b' : left + here ≡ cond test 1 0 * most = b in
    let d : left + weigh_own (λ c. most - c) w shares + (here + weigh_own (λ c. c) w shares) ≡ cond test 1 0 * most + weigh_own (λ _. 1) w shares * most = omega arith in
    d ∙ sym c

weigh-ones : (xs : List ℕ) → weigh (λ _. 1) xs ≡ length xs
weigh-ones [] = refl
weigh-ones (x ∷ xs) = let e = weigh-ones xs in omega arith

-- what weighs no more, however cents are weighed, is covered
pub covers : (w : ℕ) (paid : List ℕ) (shares : List ShareState)
    → ((h : ℕ → ℕ) → weigh_own h w shares ≤ weigh h paid)
    → IsCovered (totals_of (own w shares)) record { commits = length paid; cents = weigh (λ c. c) paid }
covers w paid shares less =
    let most : ℕ = weigh (λ c. c) paid in
    let count : weigh_own (λ _. 1) w shares ≤ length paid = subst (λ n. weigh_own (λ _. 1) w shares ≤ n) (weigh-ones paid) (less (λ _. 1)) in
    let sum : weigh_own (λ c. c) w shares ≤ most = less (λ c. c) in
    let n = length-own w shares in
    let c = cents-own w shares in
    record {
      commits = omega arith;
      cents = omega arith;
      settled = λ same.
          let all : weigh_own (λ _. 1) w shares ≡ length paid = n ∙ same in
          let a = rest-own most w shares sum in
          let b = rest most paid (omega arith) in
          let left = less (λ c. most - c) in
          let whole : ℕ = length paid * most in
          let a' : weigh_own (λ c. most - c) w shares + weigh_own (λ c. c) w shares ≡ whole = a ∙ ap (λ k. k * most) all in
          let b' : weigh (λ c. most - c) paid + most ≡ whole = b in
          omega arith;
    }

-- nothing is covered by nothing
pub covered-none : (shares : List ShareState) → All (λ s. 1 ≤ s.warehouse) shares → IsCovered (totals_of (up_to 0 shares)) no_totals
covered-none shares all =
    let e = up_to-none shares all in
    let n = ap length e in
    let c = ap cents_of e in
    record { commits = omega arith; cents = omega arith; settled = λ _. omega arith }

-- and one book more covers the shares of its warehouse too
pub covered-more : (n : ℕ) (shares : List ShareState) (books : Totals) (book : BookState) → book.warehouse ≡ suc n
    → IsCovered (totals_of (up_to n shares)) books → Audits book shares
    → IsCovered (totals_of (up_to (suc n) shares)) (with_book books book)
covered-more n shares books book is covered audits =
    let mine : IsCovered (totals_of (own (suc n) shares)) record { commits = book.commits; cents = book.cents } =
    subst (λ w. IsCovered (totals_of (own w shares)) record { commits = book.commits; cents = book.cents }) is audits in
    let a = length-up_to n shares in
    let b = cents-up_to n shares in
    let c = covered.commits in
    let d = mine.commits in
    let e = covered.cents in
    let f = mine.cents in
    record {
      commits = omega arith;
      cents = omega arith;
      settled = λ same.
          let g = covered.settled (omega arith) in
          let h = mine.settled (omega arith) in
          omega arith;
    }

-- the shares of all warehouses are all shares
pub covered-all : (n : ℕ) (shares : List ShareState) (books : Totals) → All (λ s. IsWarehouse n s.warehouse) shares
    → IsCovered (totals_of (up_to n shares)) books → IsCovered (totals_of shares) books
covered-all n shares books all covered =
    subst (λ l. IsCovered (totals_of l) books)
    (up_to-all n shares (All-map (λ (s : ShareState). IsWarehouse n s.warehouse) (λ (s : ShareState). s.warehouse ≤ n) (λ s w. w.1) shares all))
    covered

same-books : (purses books others : Totals) → books.commits ≡ others.commits → books.cents ≡ others.cents
    → IsCovered purses books → IsCovered purses others
same-books purses books others commits cents covered =
    let a = covered.commits in
    let b = covered.cents in
    record { commits = omega arith; cents = omega arith; settled = λ same. covered.settled (same ∙ sym commits) ∙ cents }

-- what two lists of books come to
abbrev together : Totals → Totals → Totals
together books others = record { commits = books.commits + others.commits; cents = books.cents + others.cents }

covered-from : (n : ℕ) (shares : List ShareState) (before : Totals) (books : List BookState)
    → IsCovered (totals_of (up_to n shares)) before → AreBooksFrom (suc n) books → All (λ book. Audits book shares) books
    → IsCovered (totals_of (up_to (n + length books) shares)) (together before (totals_of_books books))
covered-from n shares before [] covered are audits =
    subst (λ k. IsCovered (totals_of (up_to k shares)) (together before no_totals)) (omega arith)
    (same-books (totals_of (up_to n shares)) before (together before no_totals) (omega arith) (omega arith) covered)
covered-from n shares before (book ∷ books) covered are audits =
    let first = All-head (λ (book : BookState). Audits book shares) book books audits in
    let later = All-tail (λ (book : BookState). Audits book shares) book books audits in
    let more = covered-from (suc n) shares (with_book before book) books (covered-more n shares before book are.0 covered first) are.1 later in
    subst (λ k. IsCovered (totals_of (up_to k shares)) (together before (totals_of_books (book ∷ books)))) (omega arith)
    (same-books (totals_of (up_to (suc n + length books) shares)) (together (with_book before book) (totals_of_books books)) (together before (totals_of_books (book ∷ books)))
    (omega arith) (omega arith) more)

-- all books cover all shares of their warehouses
pub audited-covered : (books : List BookState) (shares : List ShareState) → AreBooksFrom 1 books
    → All (λ s. IsWarehouse (length books) s.warehouse) shares → All (λ book. Audits book shares) books
    → IsCovered (totals_of shares) (totals_of_books books)
audited-covered books shares are all audits =
    let none = covered-none shares (All-map (λ (s : ShareState). IsWarehouse (length books) s.warehouse) (λ (s : ShareState). 1 ≤ s.warehouse) (λ s w. w.0) shares all) in
    let from = covered-from 0 shares no_totals books none are audits in
    let here : 0 + length books ≡ length books = omega arith in
    covered-all (length books) shares (totals_of_books books) all
    (subst (λ k. IsCovered (totals_of (up_to k shares)) (totals_of_books books)) here
    (same-books (totals_of (up_to (0 + length books) shares)) (together no_totals (totals_of_books books)) (totals_of_books books) (omega arith) (omega arith) from))
