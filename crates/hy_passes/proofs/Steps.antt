-- Each step keeps the rule, and tells what it says.
use Rattle.std.proofs.Common.{◌≡◌, ◌≢◌, ℕ, zero, suc, ◌+◌, ◌==◌, ◌<◌, true, cond, List, [], ◌∷◌, length, set, Some, None, ⊎_elim, refl, ap, sym, subst, ◌∙◌, arith}
use Rattle.std.specs.Prelude.{slice_index, slice_set}
use mathlib.Core.Option.{some, some-injective, some-ne-none}
use native.Mathlib.Decide.{ℕ_discrete}
use lib.ListN.{get_elem?}
use Rattle.std.proofs.Common.{length-append, eq-eqb, ne_eqb}
use Rattle.std.proofs.lemmas.Bool.{false_from_ne_true}
use prog.Atomic.{either}
use Rattle.atomic_table.specs.Table.{State, Me, keeps, Allows, Splits, Joins}
use Rattle.atomic_table.proofs.Lists.{set_here, set_else, at_longer, exchanged}
use Rattle.hy_passes.specs.declared.entry.Entry.{Entry}
use Rattle.hy_passes.specs.declared.view.Knowledge.{Knowledge}
use Rattle.hy_passes.specs.declared.view.View.{View}
use Rattle.hy_passes.specs.Law.{nothing, beginner, after_dealing, new_seat, new_pass, boarded, is_served, after_leaving, leaving, appended, Fits, IsKept, Looks, Meets, Appends}
use Rattle.hy_passes.proofs.Beginnings.{begins_itself, begins_longer}
use Rattle.hy_worlds.proofs.Views.{each_set, each_more}
use Rattle.hy_passes.proofs.Lists.{told-more, told-left, kept-skips, served-here, serves-here}

not-none : {w : ℕ} → None ≡ Some w → ⊥
not-none e = cc

module _ {C : Type 0} (warehouses : C → List ℕ) where
  abbrev pub Kept : State (Entry C) (View C) → Type 0
  Kept s = IsKept warehouses s.words s.views

  -- who knows nothing fits
  fits-nothing : (journal : View C) (seat_of : ℕ → ℕ) (seat : ℕ) → Fits warehouses journal seat_of seat nothing
  fits-nothing journal seat_of seat = ((journal.mine.seen, refl), λ w e. absurd (not-none e))

  one-seat : (v : View C) (views : List (View C)) (seat : ℕ) (u : View C) → get_elem? (v ∷ []) seat ≡ some u → (seat ≡ 0) × (v ≡ u)
  one-seat v views zero u at = (refl, some-injective v u at)
  one-seat v views (suc seat) u at = absurd (some-ne-none u (sym at))

  -- the rule at the start
  pub begins : IsKept warehouses (0 ∷ []) (beginner ∷ [])
  begins = record {
    journal = beginner;
    seat_of = λ w. 0;
    first = refl;
    word = refl;
    apart = refl;
    each = λ seat v at.
        subst (λ (u : View C). Fits warehouses beginner (λ w. 0) seat u.mine × Fits warehouses beginner (λ w. 0) seat u.guest)
        (one-seat beginner [] seat v at).1
        (fits-nothing beginner (λ w. 0) seat, fits-nothing beginner (λ w. 0) seat);
  }

  -- what the rule says of a seat
  abbrev Known : View C → (ℕ → ℕ) → ℕ → View C → Type 0
  Known journal seat_of seat v = Fits warehouses journal seat_of seat v.mine × Fits warehouses journal seat_of seat v.guest

  some-views : (views : List (View C)) (v : View C) → get_elem? views 0 ≡ some v → 0 < length views
  some-views [] v at = absurd (some-ne-none v (sym at))
  some-views (x ∷ views) v at = omega arith

  -- a view at the journal's seat is the journal's
  is-journal : {words : List ℕ} {views : List (View C)} (kept : IsKept warehouses words views) (v : View C)
      → get_elem? views 0 ≡ some v → kept.journal ≡ v
  is-journal kept v at = some-injective kept.journal v (sym kept.first ∙ at)

  -- the rule, with the journal's view at hand
  record IsKeptBy (journal : View C) (words : List ℕ) (views : List (View C)) : Type 0 where
    pub seat_of : ℕ → ℕ
    pub first : get_elem? views 0 ≡ some journal
    pub word : words ≡ length journal.mine.seen ∷ []
    pub apart : journal.mine.serves ≡ None
    pub each : (seat : ℕ) (v : View C) → get_elem? views seat ≡ some v → Known journal seat_of seat v

  by : (words : List ℕ) (views : List (View C)) (v : View C) → IsKept warehouses words views → get_elem? views 0 ≡ some v
      → IsKeptBy v words views
  by words views v kept at =
      subst (λ j. IsKeptBy j words views) (is-journal kept v at)
      record { seat_of = kept.seat_of; first = kept.first; word = kept.word; apart = kept.apart; each = kept.each }

  abbrev looked : View C → View C → View C
  looked journal v = record {
    mine = record { seen = journal.mine.seen; looks = v.mine.looks + 1; serves = v.mine.serves };
    guest = v.guest;
    behind = v.behind;
    dealt = v.dealt;
  }

  same-word : (words : List ℕ) (n : ℕ) → words ≡ n ∷ [] → slice_set words 0 (slice_index words 0) ≡ n ∷ []
  same-word words n is = ap (λ (ws : List ℕ). slice_set ws 0 (slice_index ws 0)) is

  -- who looks at the whole list fits as before
  looked-fits : (journal : View C) (seat_of : ℕ → ℕ) (seat : ℕ) (v : View C) → Known journal seat_of seat v
      → Known journal seat_of seat (looked journal v)
  looked-fits journal seat_of seat v known =
      ((begins_itself journal.mine.seen, λ w e. let s = known.0.1 w e in (s.0, s.1, λ told. refl)), known.1)

  looks-kept : (words : List ℕ) (views : List (View C)) (kept : IsKept warehouses words views) (id : ℕ) (v : View C)
      → get_elem? views id ≡ some v → Dec (id ≡ 0)
      → IsKept warehouses (slice_set words 0 (slice_index words 0)) (set views id (looked kept.journal v))
  looks-kept words views kept id v at (yes is) =
      let at' : get_elem? views 0 ≡ some v = subst (λ i. get_elem? views i ≡ some v) is at in
      let k = by words views v kept at' in
      let j = is-journal kept v at' in
      subst (λ i. IsKept warehouses (slice_set words 0 (slice_index words 0)) (set views i (looked kept.journal v))) (sym is)
      (subst (λ u. IsKept warehouses (slice_set words 0 (slice_index words 0)) (set views 0 (looked u v))) (sym j)
      record {
        journal = looked v v;
        seat_of = k.seat_of;
        first = set_here views 0 (looked v v) (some-views views v at');
        word = same-word words (length v.mine.seen) k.word;
        apart = k.apart;
        each = each_set (Known v k.seat_of) views 0 (looked v v) (λ j u _ e. k.each j u e) (looked-fits v k.seat_of 0 v (k.each 0 v at'));
      })
  looks-kept words views kept id v at (no isnt) = record {
    journal = kept.journal;
    seat_of = kept.seat_of;
    first = set_else views id 0 (looked kept.journal v) (λ e. isnt (sym e)) ∙ kept.first;
    word = same-word words (length kept.journal.mine.seen) kept.word;
    apart = kept.apart;
    each = each_set (Known kept.journal kept.seat_of) views id (looked kept.journal v) (λ j u _ e. kept.each j u e) (looked-fits kept.journal kept.seat_of id v (kept.each id v at));
  }

  pub looks : (slots id : ℕ) (me : Me (Entry C) (View C)) → Allows Kept slots id me 0 (λ n. n) (Looks me)
  looks slots id me s kept count at below =
      let w = looked kept.journal me.0 in (
        w,
        keeps,
        tt,
        looks-kept s.words s.views kept id me.0 at (ℕ_discrete id 0),
        ((kept.each id me.0 at).0.0, ap (λ (ws : List ℕ). slice_index ws 0) kept.word, refl, refl, refl),
      )

  pub meets : (slots : ℕ) (me : Me (Entry C) (View C)) → Allows Kept slots 0 me 0 (λ n. n) (λ _. Meets warehouses me)
  meets slots me s kept count at below =
      let k = by s.words s.views me.0 kept at in
      let guest = (k.each 0 me.0 at).1 in (
        me.0,
        keeps,
        tt,
        record {
          journal = me.0;
          seat_of = k.seat_of;
          first = set_here s.views 0 me.0 (some-views s.views me.0 at);
          word = same-word s.words (length me.0.mine.seen) k.word;
          apart = k.apart;
          each = each_set (Known me.0 k.seat_of) s.views 0 me.0 (λ j u _ e. k.each j u e) (k.each 0 me.0 at);
        },
        (refl, guest.0, λ w e told. (guest.1 w e).2 told),
      )

  -- a commit keeps what others know
  appended-fits : (journal : View C) (seat_of : ℕ → ℕ) (seat : ℕ) (k : Knowledge C) (entry : Entry C)
      → Fits warehouses journal seat_of seat k → Fits warehouses (appended warehouses entry journal) seat_of seat k
  appended-fits journal seat_of seat k entry fits = (
    begins_longer k.seen journal.mine.seen (entry ∷ []) fits.0,
    λ w e.
        let s = fits.1 w e in (
          s.0,
          s.1,
          λ told.
              let t = told-more journal.behind (warehouses entry.commit) w told in
              s.2 t.0 ∙ sym (kept-skips warehouses w journal.mine.seen entry t.1),
        ),
  )

  pub appends : (slots : ℕ) (me : Me (Entry C) (View C)) (entry : Entry C) (old new : ℕ) → old ≡ length me.0.mine.seen
      → new ≡ old + 1
      → Allows Kept slots 0 me 0 (λ n. either (n == old) new n) (λ _. Appends warehouses (some entry) me)
  appends slots me entry old new is next s kept count at below =
      let k = by s.words s.views me.0 kept at in
      let w = appended warehouses entry me.0 in
      let found : slice_index s.words 0 ≡ old = ap (λ (ws : List ℕ). slice_index ws 0) k.word ∙ sym is in
      let n : ℕ = slice_index s.words 0 in
      let grown : either (n == old) new n ≡ length w.mine.seen =
      exchanged n old new (λ m. m ≡ length w.mine.seen)
      (λ _. omega (arith, length-append me.0.mine.seen (entry ∷ [])))
      (λ apart. absurd (apart found)) in (
        w,
        keeps,
        tt,
        record {
          journal = w;
          seat_of = k.seat_of;
          first = set_here s.views 0 w (some-views s.views me.0 at);
          word = ap (λ (ws : List ℕ). slice_set ws 0 (either (n == old) new n)) k.word ∙ ap (λ m. m ∷ []) grown;
          apart = k.apart;
          each = each_set (Known w k.seat_of) s.views 0 w
              (λ j u _ e. let f = k.each j u e in (appended-fits me.0 k.seat_of j u.mine entry f.0, appended-fits me.0 k.seat_of j u.guest entry f.1))
              ((begins_itself w.mine.seen, λ v e. absurd (not-none (sym k.apart ∙ e))), appended-fits me.0 k.seat_of 0 me.0.guest entry (k.each 0 me.0 at).1);
        },
        refl,
      )

  -- a seat for the next partition
  pub deals : (v : View C) → Splits Kept 0 v (after_dealing v) (new_seat v)
  deals v s kept at =
      let k = by s.words s.views v kept at in
      let left = after_dealing v in
      let next = length (set s.views 0 left) in
      let seat_of' : ℕ → ℕ = λ w. cond (w == suc v.dealt) next (k.seat_of w) in
      let stays : (seat : ℕ) (u : Knowledge C) → Fits warehouses v k.seat_of seat u → Fits warehouses left seat_of' seat u =
      λ seat u fits. (
        fits.0,
        λ w e.
            let f = fits.1 w e in
            (ap (λ b. cond b next (k.seat_of w)) (ne_eqb w (suc v.dealt) (λ same. omega arith)) ∙ f.0, omega arith, f.2),
      ) in
      record {
        journal = left;
        seat_of = seat_of';
        first = at_longer (set s.views 0 left) (new_seat v ∷ []) 0 left (set_here s.views 0 left (some-views s.views v at));
        word = k.word;
        apart = k.apart;
        each = each_more (Known left seat_of') (set s.views 0 left) (new_seat v)
            (each_set (Known left seat_of') s.views 0 left
            (λ j u _ e. let f = k.each j u e in (stays j u.mine f.0, stays j u.guest f.1))
            (let f = k.each 0 v at in (stays 0 v.mine f.0, stays 0 v.guest f.1))) (
              (
                begins_itself v.mine.seen,
                λ w e.
                    let is : suc v.dealt ≡ w = cc (e) in
                    (ap (λ b. cond b next (k.seat_of w)) (eq-eqb w (suc v.dealt) (sym is)), omega (arith, is), λ told. refl),
              ),
              fits-nothing left seat_of' next,
            );
      }

  -- a pass for a client
  pub admits : (v : View C) → Splits Kept 0 v v (new_pass v)
  admits v s kept at =
      let k = by s.words s.views v kept at in
      record {
        journal = v;
        seat_of = k.seat_of;
        first = at_longer (set s.views 0 v) (new_pass v ∷ []) 0 v (set_here s.views 0 v (some-views s.views v at));
        word = k.word;
        apart = k.apart;
        each = each_more (Known v k.seat_of) (set s.views 0 v) (new_pass v)
            (each_set (Known v k.seat_of) s.views 0 v (λ j u _ e. k.each j u e) (k.each 0 v at))
            ((begins_itself v.mine.seen, λ w e. absurd (not-none e)), fits-nothing v k.seat_of (length (set s.views 0 v)));
      }

  -- a guest comes to the journal
  pub boards : (v : View C) (other : ℕ) (w : View C) → Joins Kept 0 v other w (boarded v w) beginner
  boards v other guest s kept at apart there =
      let k = by s.words s.views v kept at in
      let now = boarded v guest in
      let at_other : get_elem? s.views other ≡ some guest = sym (set_else s.views 0 other now apart) ∙ there in
      let theirs = (k.each other guest at_other).0 in
      let seat_of' : ℕ → ℕ = λ w. cond (is_served guest.mine.serves w) 0 (k.seat_of w) in
      let stays : (seat : ℕ) (u : Knowledge C) → seat ≢ other → Fits warehouses v k.seat_of seat u → Fits warehouses now seat_of' seat u =
      λ seat u elsewhere fits. (
        fits.0,
        λ w e.
            let f = fits.1 w e in (
              ap (λ b. cond b 0 (k.seat_of w))
                  (false_from_ne_true (is_served guest.mine.serves w) (λ t. elsewhere (sym f.0 ∙ (theirs.1 w (served-here guest.mine.serves w t)).0)))
                  ∙ f.0,
              f.1,
              f.2,
            ),
      ) in
      record {
        journal = now;
        seat_of = seat_of';
        first = set_else (set s.views 0 now) other 0 beginner (λ e. apart (sym e)) ∙ set_here s.views 0 now (some-views s.views v at);
        word = k.word;
        apart = k.apart;
        each = each_set (Known now seat_of') (set s.views 0 now) other beginner
            (λ j u elsewhere e.
            each_set (λ i x. i ≢ other → Known now seat_of' i x) s.views 0 now
            (λ i x _ e' apart'. let f = k.each i x e' in (stays i x.mine apart' f.0, stays i x.guest apart' f.1))
            (λ apart'. (
              stays 0 v.mine apart' (k.each 0 v at).0,
              (
                theirs.0,
                λ w e'. let f = theirs.1 w e' in
                    (ap (λ b. cond b 0 (k.seat_of w)) (serves-here guest.mine.serves w e'), f.1, f.2),
              ),
            ))
            j u e elsewhere)
            (fits-nothing now seat_of' other, fits-nothing now seat_of' other);
      }

  -- the guest leaves, and has been told
  pub leaves : (v : View C) → Splits Kept 0 v (after_leaving v) (leaving v)
  leaves v s kept at =
      let k = by s.words s.views v kept at in
      let now = after_leaving v in
      let next = length (set s.views 0 now) in
      let theirs = (k.each 0 v at).1 in
      let seat_of' : ℕ → ℕ = λ w. cond (is_served v.guest.serves w) next (k.seat_of w) in
      let stays : (seat : ℕ) (u : Knowledge C) → seat ≢ 0 → Fits warehouses v k.seat_of seat u → Fits warehouses now seat_of' seat u =
      λ seat u elsewhere fits. (
        fits.0,
        λ w e.
            let f = fits.1 w e in
            let isnt : is_served v.guest.serves w ≡ true → ⊥ = λ t. elsewhere (sym f.0 ∙ (theirs.1 w (served-here v.guest.serves w t)).0) in (
              ap (λ b. cond b next (k.seat_of w)) (false_from_ne_true (is_served v.guest.serves w) isnt) ∙ f.0,
              f.1,
              λ told. ⊎_elim (λ same. absurd (isnt (serves-here v.guest.serves w same))) (λ before. f.2 before) (told-left v.guest.serves v.behind w told),
            ),
      ) in
      record {
        journal = now;
        seat_of = seat_of';
        first = at_longer (set s.views 0 now) (leaving v ∷ []) 0 now (set_here s.views 0 now (some-views s.views v at));
        word = k.word;
        apart = k.apart;
        each = each_more (Known now seat_of') (set s.views 0 now) (leaving v)
            (each_set (Known now seat_of') s.views 0 now
            (λ j u elsewhere e. let f = k.each j u e in (stays j u.mine elsewhere f.0, stays j u.guest elsewhere f.1))
            ((begins_itself v.mine.seen, λ w e. absurd (not-none (sym k.apart ∙ e))), fits-nothing now seat_of' 0)) (
              (
                begins_itself v.mine.seen,
                λ w e. let f = theirs.1 w e in
                    (ap (λ b. cond b next (k.seat_of w)) (serves-here v.guest.serves w e), f.1, λ told. refl),
              ),
              fits-nothing now seat_of' next,
            );
      }

  -- the same at a seat that is the journal's
  pub meets_at : (slots id : ℕ) (me : Me (Entry C) (View C)) → id ≡ 0
      → Allows Kept slots id me 0 (λ n. n) (λ _. Meets warehouses me)
  meets_at slots id me is = subst (λ i. Allows Kept slots i me 0 (λ n. n) (λ _. Meets warehouses me)) (sym is) (meets slots me)

  pub appends_at : (slots id : ℕ) (me : Me (Entry C) (View C)) (entry : Entry C) (old new : ℕ) → id ≡ 0
      → old ≡ length me.0.mine.seen → new ≡ old + 1
      → Allows Kept slots id me 0 (λ n. either (n == old) new n) (λ _. Appends warehouses (some entry) me)
  appends_at slots id me entry old new is length_is next =
      subst (λ i. Allows Kept slots i me 0 (λ n. either (n == old) new n) (λ _. Appends warehouses (some entry) me)) (sym is)
      (appends slots me entry old new length_is next)

  pub deals_at : (id : ℕ) (v : View C) → id ≡ 0 → Splits Kept id v (after_dealing v) (new_seat v)
  deals_at id v is = subst (λ i. Splits Kept i v (after_dealing v) (new_seat v)) (sym is) (deals v)

  pub admits_at : (id : ℕ) (v : View C) → id ≡ 0 → Splits Kept id v v (new_pass v)
  admits_at id v is = subst (λ i. Splits Kept i v v (new_pass v)) (sym is) (admits v)

  pub boards_at : (id : ℕ) (v : View C) (other : ℕ) (w : View C) → id ≡ 0 → Joins Kept id v other w (boarded v w) beginner
  boards_at id v other w is = subst (λ i. Joins Kept i v other w (boarded v w) beginner) (sym is) (boards v other w)

  pub leaves_at : (id : ℕ) (v : View C) → id ≡ 0 → Splits Kept id v (after_leaving v) (leaving v)
  leaves_at id v is = subst (λ i. Splits Kept i v (after_leaving v) (leaving v)) (sym is) (leaves v)
