-- Each step keeps the rule, and tells what it says.
use Rattle.std.proofs.Common.{◌≡◌, ◌≢◌, ℕ, zero, suc, ◌+◌, ◌<◌, ◌≤◌, ◌==◌, true, false, cond, List, [], ◌∷◌, ◌++◌, length, set, refl, ap, sym, subst, ◌∙◌, arith, true≢false, length-append, eq-eqb, ne_eqb}
use mathlib.Core.Option.{some, some-injective, some-ne-none}
use mathlib.Core.Logic.{dite}
use native.Mathlib.Decide.{ℕ_discrete}
use lib.ListN.{get_elem?}
use Rattle.atomic_table.specs.Table.{State, Me, keeps, Allows, Splits, Joins, Enters as Comes}
use Rattle.hy_ledger.specs.declared.view.ShareState.{ShareState}
use Rattle.hy_ledger.specs.declared.view.View.{View}
use Rattle.hy_ledger.specs.Books.{max_commits}
use Rattle.hy_ledger.specs.Law.{total, weigh, weigh_own, held_at, holder, dealer, with_shares, after_dealing, new_keeper, entered, after_handing, handed, gathered, boarded, after_leaving, leaving, Fits, IsKept, Enters, Meets, Counts}
use Rattle.hy_ledger.proofs.Lists.{each_set, each_more, total-set, total-more, total-at, weigh-append, weigh_own-append}

abbrev pub Kept : State (Unit {0}) View → Type 0
Kept s = IsKept s.views

one-seat : (v : View) (seat : ℕ) (u : View) → get_elem? (v ∷ []) seat ≡ some u → (seat ≡ 0) × (v ≡ u)
one-seat v zero u at = (refl, some-injective v u at)
one-seat v (suc seat) u at = absurd (some-ne-none u (sym at))

not-false : {A : Type 0} → false ≡ true → A
not-false e = absurd (true≢false (sym e))

-- the rule at the start
pub begins : IsKept (dealer 0 ∷ [])
begins = record {
  dealt = 0;
  seat_of = λ w. 0;
  paid = λ w. [];
  each = λ seat v at.
      let is = one-seat (dealer 0) seat v at in
      subst (λ u. Fits 0 (λ w. 0) (λ w. []) seat u) is.1 ((λ e. (is.0, refl)), λ e. not-false e);
  unpaid = λ w more. refl;
  few = λ w. omega arith;
  within = λ w h. omega arith;
}

-- who has shares alone fits anywhere
holder-fits : (dealt : ℕ) (seat_of : ℕ → ℕ) (paid : ℕ → List ℕ) (seat : ℕ) (shares : List ShareState)
    → Fits dealt seat_of paid seat (holder shares)
holder-fits dealt seat_of paid seat shares = ((λ e. not-false e), λ e. not-false e)

-- other views keep the rule, if each fits, and no more is held
pub kept-by : (views others : List View) (kept : IsKept views)
    → ((seat : ℕ) (v : View) → get_elem? others seat ≡ some v → Fits kept.dealt kept.seat_of kept.paid seat v)
    → ((w : ℕ) (h : ℕ → ℕ) → total (held_at h w) others ≤ total (held_at h w) views) → IsKept others
kept-by views others kept fits less = record {
  dealt = kept.dealt;
  seat_of = kept.seat_of;
  paid = kept.paid;
  each = fits;
  unpaid = kept.unpaid;
  few = kept.few;
  within = λ w h. let a = kept.within w h in let b = less w h in omega arith;
}

-- a seat that is still what it was, with other shares
kept-set : (views : List View) (kept : IsKept views) (id : ℕ) (v : View) (held guest : List ShareState)
    → get_elem? views id ≡ some v
    → (seat : ℕ) (u : View) → get_elem? (set views id (with_shares v held guest)) seat ≡ some u
    → Fits kept.dealt kept.seat_of kept.paid seat u
kept-set views kept id v held guest at =
    each_set (Fits kept.dealt kept.seat_of kept.paid) views id (with_shares v held guest)
    (λ j u _ e. kept.each j u e) (kept.each id v at)

-- a new seat that has nothing
pub comes : (slots : ℕ) → Comes Kept slots 0 (λ n w. ◌≡◌ {A = Me (Unit {0}) View} (w, []) (holder [], []))
comes slots s kept count below = (
  holder [],
  kept-by s.views (s.views ++ holder [] ∷ []) kept
      (each_more (Fits kept.dealt kept.seat_of kept.paid) s.views (holder []) kept.each (holder-fits kept.dealt kept.seat_of kept.paid (length s.views) []))
      (λ w h. let e = total-more (held_at h w) s.views (holder []) in omega arith),
  refl,
)

-- a part of the shares goes to a new seat
parts : (id : ℕ) (v : View) (held guest part : List ShareState)
    → ((w : ℕ) (h : ℕ → ℕ) → weigh_own h w held + weigh_own h w guest + weigh_own h w part ≤ held_at h w v)
    → Splits Kept id v (with_shares v held guest) (holder part)
parts id v held guest part less s kept at =
    let now = with_shares v held guest in
    kept-by s.views (set s.views id now ++ holder part ∷ []) kept
    (each_more (Fits kept.dealt kept.seat_of kept.paid) (set s.views id now) (holder part)
    (kept-set s.views kept id v held guest at)
    (holder-fits kept.dealt kept.seat_of kept.paid (length (set s.views id now)) part))
    (λ w h.
    let a = total-set (held_at h w) s.views id v now at in
    let b = total-more (held_at h w) (set s.views id now) (holder part) in
    let c = less w h in
    omega arith)

pub hands : (id : ℕ) (v : View) → Splits Kept id v (after_handing v) (handed v)
hands id v = parts id v [] v.guest v.held (λ w h. omega arith)

pub leaves : (id : ℕ) (v : View) → Splits Kept id v (after_leaving v) (leaving v)
leaves id v = parts id v v.held [] v.guest (λ w h. omega arith)

-- the shares of another seat come in
joins : (id : ℕ) (v : View) (other : ℕ) (u : View) (held guest : List ShareState)
    → ((w : ℕ) (h : ℕ → ℕ) → weigh_own h w held + weigh_own h w guest ≤ held_at h w v + held_at h w u)
    → Joins Kept id v other u (with_shares v held guest) (holder [])
joins id v other u held guest less s kept at apart there =
    let now = with_shares v held guest in
    kept-by s.views (set (set s.views id now) other (holder [])) kept
    (each_set (Fits kept.dealt kept.seat_of kept.paid) (set s.views id now) other (holder [])
    (λ j x _ e. kept-set s.views kept id v held guest at j x e)
    (holder-fits kept.dealt kept.seat_of kept.paid other []))
    (λ w h.
    let a = total-set (held_at h w) s.views id v now at in
    let b = total-set (held_at h w) (set s.views id now) other u (holder []) there in
    let c = less w h in
    omega arith)

pub gathers : (id : ℕ) (v : View) (other : ℕ) (u : View) → Joins Kept id v other u (gathered v u) (holder [])
gathers id v other u =
    joins id v other u (v.held ++ u.held) v.guest (λ w h. let e = weigh_own-append h w v.held u.held in omega arith)

-- a purse is laid beside a book with no other beside it
pub boards : (id : ℕ) (v : View) (other : ℕ) (u : View) → Joins Kept id v other u (boarded v u) (holder [])
boards id v other u = joins id v other u v.held u.held (λ w h. omega arith)

-- a step that changes nothing
stays : (views : List View) (kept : IsKept views) (id : ℕ) (v : View) → get_elem? views id ≡ some v → IsKept (set views id v)
stays views kept id v at =
    kept-by views (set views id v) kept (kept-set views kept id v v.held v.guest at)
    (λ w h. let a = total-set (held_at h w) views id v v at in omega arith)

weigh-ones : (xs : List ℕ) → weigh (λ _. 1) xs ≡ length xs
weigh-ones [] = refl
weigh-ones (x ∷ xs) = let e = weigh-ones xs in omega arith

pub counts : (slots id : ℕ) (me : Me (Unit {0}) View) → Allows Kept slots id me 0 (λ n. n) (λ _. Counts me)
counts slots id me s kept count at below = (
  me.0,
  keeps,
  tt,
  stays s.views kept id me.0 at,
  (
    refl,
    λ w.
        let a = total-at (held_at (λ _. 1) w) s.views id me.0 at in
        let b = kept.within w (λ _. 1) in
        let c = kept.few w in
        let d = weigh-ones (kept.paid w) in
        omega arith,
  ),
)

pub meets : (slots id : ℕ) (me : Me (Unit {0}) View) → Allows Kept slots id me 0 (λ n. n) (λ _. Meets me)
meets slots id me s kept count at below = (
  me.0,
  keeps,
  tt,
  stays s.views kept id me.0 at,
  (
    refl,
    λ is h.
        let w = me.0.warehouse in
        let a = total-at (held_at h w) s.views id me.0 at in
        let b = kept.within w h in
        let c = ap (weigh h) ((kept.each id me.0 at).1 is).2 in
        omega arith,
  ),
)

-- a book for the next warehouse
pub deals : (id : ℕ) (v : View) → v.is_dealer ≡ true → Splits Kept id v (after_dealing v) (new_keeper v)
deals id v is s kept at =
    let now = after_dealing v in
    let next = length (set s.views id now) in
    let mine = (kept.each id v at).0 is in
    let seat_of' : ℕ → ℕ = λ w. cond (w == suc kept.dealt) next (kept.seat_of w) in
    let older : (w : ℕ) → w ≤ kept.dealt → seat_of' w ≡ kept.seat_of w =
    λ w less. ap (λ b. cond b next (kept.seat_of w)) (ne_eqb w (suc kept.dealt) (λ same. omega arith)) in
    let book : (seat : ℕ) (u : View) → Fits kept.dealt kept.seat_of kept.paid seat u → u.is_book ≡ true
    → (seat_of' u.warehouse ≡ seat) × (u.warehouse ≤ suc kept.dealt) × (u.paid ≡ kept.paid u.warehouse) =
    λ seat u fits e. let f = fits.1 e in (older u.warehouse f.1 ∙ f.0, omega arith, f.2) in
    record {
      dealt = suc kept.dealt;
      seat_of = seat_of';
      paid = kept.paid;
      each = each_more (Fits (suc kept.dealt) seat_of' kept.paid) (set s.views id now) (new_keeper v)
          (each_set (Fits (suc kept.dealt) seat_of' kept.paid) s.views id now
          (λ j u apart e.
          let fits = kept.each j u e in
          ((λ deals. absurd (apart ((fits.0 deals).0 ∙ sym mine.0))), book j u fits))
          ((λ deals. (mine.0, ap suc mine.1)), book id v (kept.each id v at))) (
            (λ e. not-false e),
            λ e. (
              ap (λ b. cond b next (kept.seat_of (suc v.dealt))) (eq-eqb (suc v.dealt) (suc kept.dealt) (ap suc mine.1)),
              omega (arith, mine.1),
              sym (kept.unpaid (suc v.dealt) (omega (arith, mine.1))),
            ),
          );
      unpaid = λ w more. kept.unpaid w (omega arith);
      few = kept.few;
      within = λ w h.
          let a = total-set (held_at h w) s.views id v now at in
          let b = total-more (held_at h w) (set s.views id now) (new_keeper v) in
          let c = kept.within w h in
          omega arith;
    }

-- a book enters a command
pub enters : (slots id : ℕ) (me : Me (Unit {0}) View) (cents : ℕ) → me.0.is_book ≡ true → length me.0.paid < max_commits
    → Allows Kept slots id me 0 (λ n. n) (λ _. Enters cents me)
enters slots id me cents is room s kept count at below =
    let v = me.0 in
    let now = entered cents v in
    let mine = (kept.each id v at).1 is in
    let paid' : ℕ → List ℕ = λ w. cond (v.warehouse == w) (v.paid ++ cents ∷ []) (kept.paid w) in
    let same : (w : ℕ) → v.warehouse ≢ w → paid' w ≡ kept.paid w =
    λ w apart. ap (λ b. cond b (v.paid ++ cents ∷ []) (kept.paid w)) (ne_eqb v.warehouse w apart) in
    let more : (w : ℕ) → v.warehouse ≡ w → paid' w ≡ v.paid ++ cents ∷ [] =
    λ w is'. ap (λ b. cond b (v.paid ++ cents ∷ []) (kept.paid w)) (eq-eqb v.warehouse w is') in
    let grown : (w : ℕ) (h : ℕ → ℕ) → total (held_at h w) (set s.views id now) ≡ total (held_at h w) s.views + cond (v.warehouse == w) (h cents) 0 =
    λ w h.
    let n : ℕ = cond (v.warehouse == w) (h cents) 0 in
    let a = total-set (held_at h w) s.views id v now at in
    let b : weigh_own h w now.held ≡ weigh_own h w v.held + (n + 0) = weigh_own-append h w v.held (record { warehouse = v.warehouse; cents = cents } ∷ []) in
    omega arith in (
      now,
      keeps,
      tt,
      record {
        dealt = kept.dealt;
        seat_of = kept.seat_of;
        paid = paid';
        each = each_set (Fits kept.dealt kept.seat_of paid') s.views id now
            (λ j u apart e.
            let fits = kept.each j u e in (
              fits.0,
              λ book.
                  let f = fits.1 book in
                  (f.0, f.1, f.2 ∙ sym (same u.warehouse (λ is'. apart (sym f.0 ∙ ap kept.seat_of (sym is') ∙ mine.0)))),
            ))
            ((kept.each id v at).0, λ book. (mine.0, mine.1, sym (more v.warehouse refl)));
        unpaid = λ w beyond. same w (λ is'. omega (arith, mine.1)) ∙ kept.unpaid w beyond;
        few = λ w.
            dite (ℕ_discrete v.warehouse w)
            (λ is'. omega (arith, ap length (more w is'), length-append v.paid (cents ∷ [])))
            (λ apart. let f = kept.few w in omega (arith, ap length (same w apart)));
        within = λ w h.
            let g = grown w h in
            let k = kept.within w h in
            dite (ℕ_discrete v.warehouse w)
            (λ is'.
            let a : cond (v.warehouse == w) (h cents) 0 ≡ h cents = ap (λ b. cond b (h cents) 0) (eq-eqb v.warehouse w is') in
            let b = ap (weigh h) (more w is') in
            let c = weigh-append h v.paid (cents ∷ []) in
            let d = ap (weigh h) (mine.2 ∙ ap kept.paid is') in
            let e : weigh h (cents ∷ []) ≡ h cents = omega arith in
            omega arith)
            (λ apart.
            let a : cond (v.warehouse == w) (h cents) 0 ≡ 0 = ap (λ b. cond b (h cents) 0) (ne_eqb v.warehouse w apart) in
            let b = ap (weigh h) (same w apart) in
            omega arith);
      },
      refl,
    )
