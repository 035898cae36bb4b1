-- What holds inside a book, a purse and a balance holds still after each call.
use Rattle.std.proofs.Common.{◌≡◌, ℕ, suc, ◌+◌, ◌*◌, ◌<◌, ◌≤◌, List, [], ◌∷◌, ◌++◌, length, ap, sym, subst, ◌∙◌, arith, length-append}
use Rattle.std.specs.Prelude.{All}
use Rattle.std.proofs.lemmas.List.Elements.{All-nil, All-cons, All-append}
use Rattle.atomic_table.specs.Seated.{TableId}
use Rattle.atomic_table.specs.Table.{Me}
use Rattle.hy_worlds.specs.Origins.{Origin}
use Rattle.hy_ledger.specs.declared.view.ShareState.{ShareState}
use Rattle.hy_ledger.specs.declared.view.View.{View}
use Rattle.hy_ledger.specs.declared.totals.Totals.{Totals}
use Rattle.hy_ledger.specs.Books.{cents_of, max_cents, max_commits, no_totals, with_book, Audits, BookState, IsWarehouse}
use Rattle.hy_ledger.specs.Inside.{max_warehouse, IsBalance, IsBook, IsGiven, IsPurse}
use Rattle.hy_ledger.specs.Law.{holder, keeper, weigh, weigh_own}
use Rattle.hy_ledger.proofs.Covering.{covered-more, covered-none, covers}
use Rattle.hy_ledger.proofs.Lists.{weigh-append}
use Rattle.hy_ledger.proofs.Shares.{cents-append, few-shares, small-shares, All-map}

-- a book with one command more
pub entered-book : (kit : Origin) (table word : TableId) (me : Me (Unit {0}) View) (warehouse commits cents paid : ℕ)
    → IsBook kit table word me record { warehouse = warehouse; commits = commits; cents = cents }
    → commits < max_commits → paid ≤ max_cents → (word' : TableId) (me' : Me (Unit {0}) View) → word' ≡ kit.accounts
    → me' ≡ (keeper me.0.warehouse (me.0.paid ++ paid ∷ []), [])
    → IsBook kit table word' me' record { warehouse = warehouse; commits = commits + 1; cents = cents + paid }
entered-book kit table word me warehouse commits cents paid is room small word' me' word_is me_is =
    let list : me'.0.paid ≡ me.0.paid ++ paid ∷ [] = ap (λ m. m.0.paid) me_is in
    let count = ap length list in
    let sum = ap (weigh (λ c. c)) list in
    let one : weigh (λ c. c) (paid ∷ []) ≡ paid = omega arith in
    let all = weigh-append (λ c. c) me.0.paid (paid ∷ []) in
    let commits_are = is.commits_are in
    let cents_are = is.cents_are in
    let before = is.small in
    record {
      table_is = is.table_is;
      word_is = word_is;
      seat = me_is ∙ ap (λ w. (keeper w (me.0.paid ++ paid ∷ []), [])) (ap (λ m. m.0.warehouse) is.seat) ∙ ap (λ p. (keeper warehouse p, [])) (sym list);
      warehouse = is.warehouse;
      commits_are = omega (arith, length-append me.0.paid (paid ∷ []));
      cents_are = omega arith;
      few = omega arith;
      small = omega arith;
    }

-- a purse with more shares
pub more-shares : (kit : Origin) (table word : TableId) (me : Me (Unit {0}) View) (commits cents : ℕ)
    → IsPurse kit table word me commits cents → (shares : List ShareState) (count sum : ℕ) → All (IsGiven kit) shares
    → count ≡ length shares → sum ≡ cents_of shares
    → (word' : TableId) (me' : Me (Unit {0}) View) → word' ≡ kit.accounts → me' ≡ (holder (me.0.held ++ shares), [])
    → ((w : ℕ) → weigh_own (λ _. 1) w (me.0.held ++ shares) ≤ max_commits)
    → IsPurse kit table word' me' (commits + count) (cents + sum)
more-shares kit table word me commits cents is shares count sum given count_is sum_is word' me' word_is me_is few =
    let list : me'.0.held ≡ me.0.held ++ shares = ap (λ m. m.0.held) me_is in
    let all : All (IsGiven kit) (me.0.held ++ shares) = All-append (IsGiven kit) me.0.held shares is.given given in
    let length_is = ap length list in
    let cents_is = ap cents_of list in
    let both = cents-append me.0.held shares in
    let commits_are = is.commits_are in
    let cents_are = is.cents_are in
    let most = few-shares kit (me.0.held ++ shares) all few in
    record {
      table_is = is.table_is;
      word_is = word_is;
      seat = me_is ∙ ap (λ l. (holder l, [])) (sym list);
      given = subst (All (IsGiven kit)) (sym list) all;
      commits_are = omega (arith, length-append me.0.held shares);
      cents_are = omega arith;
      few = omega (arith, length-append me.0.held shares);
    }

-- and with one
pub one-share : (kit : Origin) (table word : TableId) (me : Me (Unit {0}) View) (commits cents : ℕ)
    → IsPurse kit table word me commits cents → (shares : List ShareState) (share : ShareState) → shares ≡ share ∷ []
    → IsGiven kit share
    → (word' : TableId) (me' : Me (Unit {0}) View) → word' ≡ kit.accounts → me' ≡ (holder (me.0.held ++ shares), [])
    → ((w : ℕ) → weigh_own (λ _. 1) w (me.0.held ++ shares) ≤ max_commits)
    → IsPurse kit table word' me' (commits + 1) (cents + share.cents)
one-share kit table word me commits cents is shares share shares_are given word' me' word_is me_is few =
    let sum = ap cents_of shares_are in
    more-shares kit table word me commits cents is shares 1 share.cents
    (subst (All (IsGiven kit)) (sym shares_are) (All-cons (IsGiven kit) share [] given (All-nil (IsGiven kit))))
    (sym (ap length shares_are)) (omega arith) word' me' word_is me_is few

-- the cents of a purse have room for those of another
pub room : (kit : Origin) (table word : TableId) (me : Me (Unit {0}) View) (commits cents : ℕ)
    → IsPurse kit table word me commits cents → cents ≤ max_cents * (max_warehouse * max_commits)
room kit table word me commits cents is =
    let a = small-shares kit me.0.held is.given in
    let b = is.commits_are in
    let c = is.cents_are in
    let d = is.few in
    omega arith

-- a book beside which a purse was laid
pub audited-book : (kit : Origin) (table word : TableId) (me : Me (Unit {0}) View) (book : BookState) (shares : List ShareState)
    → IsBook kit table word me book
    → ((h : ℕ → ℕ) → weigh_own h me.0.warehouse shares ≤ weigh h me.0.paid) → Audits book shares
audited-book kit table word me book shares is less =
    let w : me.0.warehouse ≡ book.warehouse = ap (λ m. m.0.warehouse) is.seat in
    let covered = covers book.warehouse me.0.paid shares (λ h. subst (λ w. weigh_own h w shares ≤ weigh h me.0.paid) w (less h)) in
    let a = covered.commits in
    let b = covered.cents in
    record {
      commits = let e = is.commits_are in omega arith;
      cents = let e = is.cents_are in omega arith;
      settled = λ same. covered.settled (same ∙ is.commits_are) ∙ sym is.cents_are;
    }

-- a balance before the first book, and with one book more
pub first-balance : (partitions : ℕ) (shares : List ShareState) → All (λ s. IsWarehouse partitions s.warehouse) shares
    → IsBalance shares 0 no_totals
first-balance partitions shares all = record {
  covered = covered-none shares (All-map (λ (s : ShareState). IsWarehouse partitions s.warehouse) (λ (s : ShareState). 1 ≤ s.warehouse) (λ s w. w.0) shares all);
  few = omega arith;
  small = omega arith;
  warehouses = omega arith;
}

pub more-books : (shares : List ShareState) (audited : ℕ) (books : Totals) (book : BookState) → IsBalance shares audited books
    → book.warehouse ≡ suc audited → book.warehouse ≤ max_warehouse → book.commits ≤ max_commits
    → book.cents ≤ max_cents * book.commits → Audits book shares → IsBalance shares book.warehouse (with_book books book)
more-books shares audited books book is next low few small audits =
    let a = is.few in
    let b = is.small in
    subst (λ w. IsBalance shares w (with_book books book)) (sym next)
    record {
      covered = covered-more audited shares books book next is.covered audits;
      few = omega arith;
      small = omega arith;
      warehouses = omega (arith, next);
    }
