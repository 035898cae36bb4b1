-- Each step keeps the rule, and tells what it says.
use Rattle.std.proofs.Common.{◌≡◌, ◌≢◌, ℕ, zero, suc, ◌+◌, ◌==◌, ◌<◌, Bool, true, false, not, ◌||◌, cond, List, [], ◌∷◌, filter, length, set, Option, Some, None, refl, ap, sym, subst, ◌∙◌, arith, eq-eqb, ne_eqb, true≢false}
use Rattle.std.specs.List.{list_any}
use Rattle.std.proofs.lemmas.Bool.{eqb-true, false_from_ne_true}
use mathlib.Core.Option.{some, some-injective, some-ne-none}
use lib.ListN.{get_elem?}
use prog.Atomic.{either}
use Rattle.atomic_table.specs.Table.{State, Me, keeps, Allows, Splits, Joins}
use Rattle.atomic_table.proofs.Lists.{set_here, set_else, at_longer}
use Rattle.hy_worlds.proofs.Views.{each_set, each_more}
use Rattle.hy_tickets.specs.declared.view.View.{View}
use Rattle.hy_tickets.specs.Desks.{is_out, without}
use Rattle.hy_tickets.specs.Law.{IsKept, Stands, Takes, Writes, empty_desk, handed, handing, laid, out_without, spent, taken, written}

-- ---- numbers that are out

or_true : (a b : Bool) → b ≡ true → (a || b) ≡ true
or_true true b is = refl
or_true false b is = is

none-some : {n : ℕ} → None ≡ Some n → ⊥
none-some e = cc

-- a number that is out is so when one more is
out-more : (out : List ℕ) (number n : ℕ) → is_out out n ≡ true → is_out (number ∷ out) n ≡ true
out-more out number n is = or_true (number == n) (is_out out n) is

out-first : (out : List ℕ) (number : ℕ) → is_out (number ∷ out) number ≡ true
out-first out number = ap (λ b. b || is_out out number) (eq-eqb number number refl)

-- and when another one is taken back
out-without : (out : List ℕ) (number n : ℕ) → n ≢ number → is_out out n ≡ true → is_out (without out number) n ≡ true
out-without [] number n apart is = is
out-without (first ∷ out) number n apart is =
    by (first == number) refl (first == n) refl (out-without out number n apart)
  where
    by : (gone : Bool) → (first == number) ≡ gone → (here : Bool) → (first == n) ≡ here
        → (is_out out n ≡ true → is_out (without out number) n ≡ true) → is_out (without (first ∷ out) number) n ≡ true
    by true gone true here later = absurd (apart (sym (eqb-true first n here) ∙ eqb-true first number gone))
    by true gone false here later =
        ap (λ b. is_out (cond (not b) (first ∷ without out number) (without out number)) n) gone
        ∙ later (ap (λ b. b || is_out out n) (sym here) ∙ is)
    by false gone true here later =
        ap (λ b. is_out (cond (not b) (first ∷ without out number) (without out number)) n) gone
        ∙ ap (λ b. b || is_out (without out number) n) here
    by false gone false here later =
        ap (λ b. is_out (cond (not b) (first ∷ without out number) (without out number)) n) gone
        ∙ ap (λ b. b || is_out (without out number) n) here
        ∙ later (ap (λ b. b || is_out out n) (sym here) ∙ is)

-- whether a seat stands for a number
abbrev is_for : Option ℕ → ℕ → Bool
is_for None n = false
is_for (Some number) n = n == number

for-some : (number : Option ℕ) (n : ℕ) → number ≡ Some n → is_for number n ≡ true
for-some number n is = subst (λ o. is_for o n ≡ true) (sym is) (eq-eqb n n refl)

some-for : (number : Option ℕ) (n : ℕ) → is_for number n ≡ true → number ≡ Some n
some-for None n is = absurd (true≢false (sym is))
some-for (Some number) n is = ap Some (sym (eqb-true n number is))

-- ---- the rule

abbrev pub Kept : State (Unit {0}) View → Type 0
Kept s = IsKept s.views

-- what the rule says of a seat
abbrev Known : View → (ℕ → ℕ) → ℕ → View → Type 0
Known desk seat_of seat v = Stands desk seat_of seat v.mine × Stands desk seat_of seat v.guest

-- who stands for nothing
stands-none : (desk : View) (seat_of : ℕ → ℕ) (seat : ℕ) (number : Option ℕ) → number ≡ None
    → Stands desk seat_of seat number
stands-none desk seat_of seat number none n is = absurd (none-some (sym none ∙ is))

one-seat : (v : View) (seat : ℕ) (u : View) → get_elem? (v ∷ []) seat ≡ some u → (seat ≡ 0) × (v ≡ u)
one-seat v zero u at = (refl, some-injective v u at)
one-seat v (suc seat) u at = absurd (some-ne-none u (sym at))

-- the rule at the start
pub begins : IsKept (empty_desk ∷ [])
begins = record {
  desk = empty_desk;
  seat_of = λ n. 0;
  first = refl;
  each = λ seat v at.
      subst (λ (u : View). Known empty_desk (λ n. 0) seat u) (one-seat empty_desk seat v at).1
      (stands-none empty_desk (λ n. 0) seat None refl, stands-none empty_desk (λ n. 0) seat None refl);
}

some-views : (views : List View) (v : View) → get_elem? views 0 ≡ some v → 0 < length views
some-views [] v at = absurd (some-ne-none v (sym at))
some-views (x ∷ views) v at = omega arith

-- the rule, with the desk's view at hand
record IsKeptBy (desk : View) (views : List View) : Type 0 where
  pub seat_of : ℕ → ℕ
  pub each : (seat : ℕ) (v : View) → get_elem? views seat ≡ some v → Known desk seat_of seat v

by : (views : List View) (v : View) → IsKept views → get_elem? views 0 ≡ some v → IsKeptBy v views
by views v kept at =
    subst (λ desk. IsKeptBy desk views) (some-injective kept.desk v (sym kept.first ∙ at))
    record { seat_of = kept.seat_of; each = kept.each }

-- the desk writes a ticket
writes : (slots : ℕ) (me : Me (Unit {0}) View) (number : ℕ) → is_out me.0.out number ≡ false → me.0.guest ≡ None
    → Allows Kept slots 0 me 0 (λ n. either (n == number) number n) (λ _. Writes number me)
writes slots me number free no_guest s kept count at below =
    let k = by s.views me.0 kept at in
    let now = written number me.0 in
    let seat_of' : ℕ → ℕ = λ n. cond (n == number) 0 (k.seat_of n) in
    let stays : (seat : ℕ) (o : Option ℕ) → Stands me.0 k.seat_of seat o → Stands now seat_of' seat o =
    λ seat o stands n is.
    let was = stands n is in
    let apart : n ≢ number = λ same. true≢false (sym was.0 ∙ ap (is_out me.0.out) same ∙ free) in (
      out-more me.0.out number n was.0,
      ap (λ b. cond b 0 (k.seat_of n)) (ne_eqb n number apart) ∙ was.1,
    ) in (
      now,
      keeps,
      tt,
      record {
        desk = now;
        seat_of = seat_of';
        first = set_here s.views 0 now (some-views s.views me.0 at);
        each = each_set (Known now seat_of') s.views 0 now
            (λ j u elsewhere e. let f = k.each j u e in (stays j u.mine f.0, stays j u.guest f.1)) (
              λ n is.
                  let same : number ≡ n = cc (is) in (
                    subst (λ m. is_out (number ∷ me.0.out) m ≡ true) same (out-first me.0.out number),
                    ap (λ b. cond b 0 (k.seat_of n)) (eq-eqb n number (sym same)),
                  ),
              stands-none now seat_of' 0 me.0.guest no_guest,
            );
      },
      refl,
    )

-- it hands it out
hands : (v : View) → v.guest ≡ None → Splits Kept 0 v (handed v) (handing v)
hands v no_guest s kept at =
    let k = by s.views v kept at in
    let now = handed v in
    let next = length (set s.views 0 now) in
    let theirs = (k.each 0 v at).0 in
    let seat_of' : ℕ → ℕ = λ n. cond (is_for v.mine n) next (k.seat_of n) in
    let stays : (seat : ℕ) (o : Option ℕ) → seat ≢ 0 → Stands v k.seat_of seat o → Stands now seat_of' seat o =
    λ seat o elsewhere stands n is.
    let was = stands n is in
    let isnt : is_for v.mine n ≡ true → ⊥ = λ here. elsewhere (sym was.1 ∙ (theirs n (some-for v.mine n here)).1) in (
      was.0,
      ap (λ b. cond b next (k.seat_of n)) (false_from_ne_true (is_for v.mine n) isnt) ∙ was.1,
    ) in
    record {
      desk = now;
      seat_of = seat_of';
      first = at_longer (set s.views 0 now) (handing v ∷ []) 0 now (set_here s.views 0 now (some-views s.views v at));
      each = each_more (Known now seat_of') (set s.views 0 now) (handing v)
          (each_set (Known now seat_of') s.views 0 now
          (λ j u elsewhere e. let f = k.each j u e in (stays j u.mine elsewhere f.0, stays j u.guest elsewhere f.1))
          (stands-none now seat_of' 0 None refl, stands-none now seat_of' 0 v.guest no_guest)) (
            λ n is. ((theirs n is).0, ap (λ b. cond b next (k.seat_of n)) (for-some v.mine n is)),
            stands-none now seat_of' next None refl,
          );
    }

-- a ticket is laid on it
lays : (v : View) (other : ℕ) (w : View) → v.mine ≡ None → Joins Kept 0 v other w (laid v w) spent
lays v other w no_ticket s kept at apart there =
    let k = by s.views v kept at in
    let now = laid v w in
    let at_other : get_elem? s.views other ≡ some w = sym (set_else s.views 0 other now apart) ∙ there in
    let theirs = (k.each other w at_other).0 in
    let seat_of' : ℕ → ℕ = λ n. cond (is_for w.mine n) 0 (k.seat_of n) in
    let stays : (seat : ℕ) (o : Option ℕ) → seat ≢ other → Stands v k.seat_of seat o → Stands now seat_of' seat o =
    λ seat o elsewhere stands n is.
    let was = stands n is in
    let isnt : is_for w.mine n ≡ true → ⊥ = λ here. elsewhere (sym was.1 ∙ (theirs n (some-for w.mine n here)).1) in (
      was.0,
      ap (λ b. cond b 0 (k.seat_of n)) (false_from_ne_true (is_for w.mine n) isnt) ∙ was.1,
    ) in
    record {
      desk = now;
      seat_of = seat_of';
      first = set_else (set s.views 0 now) other 0 spent (λ e. apart (sym e)) ∙ set_here s.views 0 now (some-views s.views v at);
      each = each_set (Known now seat_of') (set s.views 0 now) other spent
          (λ j u elsewhere e.
          each_set (λ i x. i ≢ other → Known now seat_of' i x) s.views 0 now
          (λ i x _ e' apart'. let f = k.each i x e' in (stays i x.mine apart' f.0, stays i x.guest apart' f.1))
          (λ apart'. (
            stands-none now seat_of' 0 v.mine no_ticket,
            λ n is. ((theirs n is).0, ap (λ b. cond b 0 (k.seat_of n)) (for-some w.mine n is)),
          ))
          j u e elsewhere)
          (stands-none now seat_of' other None refl, stands-none now seat_of' other None refl);
    }

-- what is out without the number of a guest
still-out : (out : List ℕ) (guest : Option ℕ) (n : ℕ) → (guest ≡ Some n → ⊥) → is_out out n ≡ true
    → is_out (out_without out guest) n ≡ true
still-out out None n isnt is = is
still-out out (Some number) n isnt is = out-without out number n (λ same. isnt (ap Some (sym same))) is

-- and takes it back
takes : (slots : ℕ) (me : Me (Unit {0}) View) → me.0.mine ≡ None → Allows Kept slots 0 me 0 (λ n. n) (λ _. Takes me)
takes slots me no_ticket s kept count at below =
    let k = by s.views me.0 kept at in
    let now = taken me.0 in
    let here = (k.each 0 me.0 at).1 in
    let stays : (seat : ℕ) (o : Option ℕ) → seat ≢ 0 → Stands me.0 k.seat_of seat o → Stands now k.seat_of seat o =
    λ seat o elsewhere stands n is.
    let was = stands n is in
    (still-out me.0.out me.0.guest n (λ same. elsewhere (sym was.1 ∙ (here n same).1)) was.0, was.1) in (
      now,
      keeps,
      tt,
      record {
        desk = now;
        seat_of = k.seat_of;
        first = set_here s.views 0 now (some-views s.views me.0 at);
        each = each_set (Known now k.seat_of) s.views 0 now
            (λ j u elsewhere e. let f = k.each j u e in (stays j u.mine elsewhere f.0, stays j u.guest elsewhere f.1))
            (stands-none now k.seat_of 0 me.0.mine no_ticket, stands-none now k.seat_of 0 None refl);
      },
      (refl, λ n is. (here n is).0),
    )

-- ---- the same at a seat that is the desk's

pub writes_at : (slots id : ℕ) (me : Me (Unit {0}) View) (number : ℕ) → id ≡ 0 → is_out me.0.out number ≡ false
    → me.0.guest ≡ None → Allows Kept slots id me 0 (λ n. either (n == number) number n) (λ _. Writes number me)
writes_at slots id me number is free no_guest =
    subst (λ i. Allows Kept slots i me 0 (λ n. either (n == number) number n) (λ _. Writes number me)) (sym is)
    (writes slots me number free no_guest)

pub hands_at : (id : ℕ) (v : View) → id ≡ 0 → v.guest ≡ None → Splits Kept id v (handed v) (handing v)
hands_at id v is no_guest = subst (λ i. Splits Kept i v (handed v) (handing v)) (sym is) (hands v no_guest)

pub lays_at : (id : ℕ) (v : View) (other : ℕ) (w : View) → id ≡ 0 → v.mine ≡ None
    → Joins Kept id v other w (laid v w) spent
lays_at id v other w is no_ticket = subst (λ i. Joins Kept i v other w (laid v w) spent) (sym is) (lays v other w no_ticket)

pub takes_at : (slots id : ℕ) (me : Me (Unit {0}) View) → id ≡ 0 → me.0.mine ≡ None
    → Allows Kept slots id me 0 (λ n. n) (λ _. Takes me)
takes_at slots id me is no_ticket =
    subst (λ i. Allows Kept slots i me 0 (λ n. n) (λ _. Takes me)) (sym is) (takes slots me no_ticket)
