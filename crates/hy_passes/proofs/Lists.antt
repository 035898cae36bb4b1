-- Views by seat, and warehouses that are behind.
use Rattle.std.proofs.Common.{◌≡◌, ◌≢◌, ◌⊎◌, ℕ, zero, suc, ◌==◌, Bool, true, false, not, ◌||◌, cond, List, [], ◌∷◌, ◌++◌, map, filter, length, set, Option, Some, None, inl, inr, ⊎_elim, refl, ap, sym, subst, ◌∙◌, true≢false}
use mathlib.Core.Option.{some, some-injective, some-ne-none}
use Rattle.std.specs.Prelude.{slice_index_or}
use Rattle.std.specs.List.{list_any}
use Rattle.std.proofs.lemmas.Bool.{eqb-true}
use Rattle.std.proofs.lemmas.List.{map-append}
use Rattle.std.proofs.lemmas.List.Elements.{filter-append}
use Rattle.std.proofs.lemmas.List.Folds.{list_any-append}
use Rattle.std.proofs.Common.{append-nil, eq-eqb}
use Rattle.atomic_table.proofs.Lists.{at_set}
use Rattle.hy_passes.specs.declared.entry.Entry.{Entry}
use Rattle.hy_passes.specs.SerialList.{names, projection, kept_of}
use Rattle.hy_passes.specs.Law.{is_served, is_told}

or_false : (a b : Bool) → not (a || b) ≡ true → (not a ≡ true) × (b ≡ false)
or_false true b e = absurd (true≢false (sym e))
or_false false true e = absurd (true≢false (sym e))
or_false false false e = (refl, refl)

-- who has been told of all, after more came, had been told before, and isn't among them
pub told-more : (behind more : List ℕ) (w : ℕ) → is_told (behind ++ more) w ≡ true
    → (is_told behind w ≡ true) × (list_any (λ named. named == w) more ≡ false)
told-more behind more w e =
    or_false (list_any (λ named. named == w) behind) (list_any (λ named. named == w) more) (ap not (sym (list_any-append (λ named. named == w) behind more)) ∙ e)

-- a guest that serves no warehouse takes none away
pub without-none : (behind : List ℕ) → filter (λ x. not (is_served None x)) behind ≡ behind
without-none [] = refl
without-none (x ∷ xs) = ap (λ l. x ∷ l) (without-none xs)

-- who has been told of all once a guest was, is the one that the guest serves, or had been told
pub told-left : (serves : Option ℕ) (behind : List ℕ) (w : ℕ)
    → is_told (filter (λ x. not (is_served serves x)) behind) w ≡ true → (serves ≡ Some w) ⊎ (is_told behind w ≡ true)
told-left None behind w e = inr (ap (λ l. is_told l w) (sym (without-none behind)) ∙ e)
told-left (Some v) [] w e = inr refl
told-left (Some v) (x ∷ behind) w e = first (x == v) refl (x == w) refl (told-left (Some v) behind w)
  where
    rest : List ℕ
    rest = filter (λ y. not (is_served (Some v) y)) behind

    first : (a : Bool) → (x == v) ≡ a → (b : Bool) → (x == w) ≡ b
        → (is_told rest w ≡ true → (Some v ≡ Some w) ⊎ (is_told behind w ≡ true))
        → (Some v ≡ Some w) ⊎ (is_told (x ∷ behind) w ≡ true)
    first true xv true xw later = inl (ap Some (sym (eqb-true x v xv) ∙ eqb-true x w xw))
    first true xv false xw later =
        let e' : is_told rest w ≡ true = ap (λ a. is_told (cond (not a) (x ∷ rest) rest) w) (sym xv) ∙ e in
        ⊎_elim (λ same. inl same) (λ told. inr (ap (λ b. not (b || list_any (λ named. named == w) behind)) xw ∙ told)) (later e')
    first false xv true xw later =
        let e' : is_told (x ∷ rest) w ≡ true = ap (λ a. is_told (cond (not a) (x ∷ rest) rest) w) (sym xv) ∙ e in
        absurd (true≢false (sym e' ∙ ap (λ b. not (b || list_any (λ named. named == w) rest)) xw))
    first false xv false xw later =
        let e' : is_told (x ∷ rest) w ≡ true = ap (λ a. is_told (cond (not a) (x ∷ rest) rest) w) (sym xv) ∙ e in
        let e'' : is_told rest w ≡ true = ap (λ b. not (b || list_any (λ named. named == w) rest)) (sym xw) ∙ e' in
        ⊎_elim (λ same. inl same) (λ told. inr (ap (λ b. not (b || list_any (λ named. named == w) behind)) xw ∙ told)) (later e'')

-- a commit that doesn't name the warehouse changes nothing that it keeps
pub kept-skips : {C : Type 0} (warehouses : C → List ℕ) (w : ℕ) (log : List (Entry C)) (entry : Entry C)
    → names warehouses w entry.commit ≡ false
    → kept_of warehouses w (log ++ entry ∷ []) ≡ kept_of warehouses w log
kept-skips {C} warehouses w log entry skip =
    let commit_of : Entry C → C = λ e. e.commit in
    ap (λ l. projection warehouses w l) (map-append commit_of log (entry ∷ []))
    ∙ filter-append (names warehouses w) (map commit_of log) (entry.commit ∷ [])
    ∙ ap (λ b. kept_of warehouses w log ++ cond b (entry.commit ∷ []) []) skip
    ∙ append-nil (kept_of warehouses w log)

-- one that names it is kept last
pub kept-adds : {C : Type 0} (warehouses : C → List ℕ) (w : ℕ) (log : List (Entry C)) (entry : Entry C)
    → names warehouses w entry.commit ≡ true
    → kept_of warehouses w (log ++ entry ∷ []) ≡ kept_of warehouses w log ++ entry.commit ∷ []
kept-adds {C} warehouses w log entry here =
    let commit_of : Entry C → C = λ e. e.commit in
    ap (λ l. projection warehouses w l) (map-append commit_of log (entry ∷ []))
    ∙ filter-append (names warehouses w) (map commit_of log) (entry.commit ∷ [])
    ∙ ap (λ b. kept_of warehouses w log ++ cond b (entry.commit ∷ []) []) here

-- whose seat it is, as a test
pub served-here : (serves : Option ℕ) (w : ℕ) → is_served serves w ≡ true → serves ≡ Some w
served-here None w e = absurd (true≢false (sym e))
served-here (Some v) w e = ap Some (sym (eqb-true w v e))

pub serves-here : (serves : Option ℕ) (w : ℕ) → serves ≡ Some w → is_served serves w ≡ true
serves-here serves w e = subst (λ o. is_served o w ≡ true) (sym e) (eq-eqb w w refl)

-- what stands behind a list
pub index-behind : {A : Type 0} (xs : List A) (x : A) (ys : List A) (d : A) → slice_index_or (xs ++ x ∷ ys) (length xs) d ≡ x
index-behind [] x ys d = refl
index-behind (y ∷ xs) x ys d = index-behind xs x ys d
