-- Loops over all partitions, one after the other.
use Rattle.std.proofs.Common.{◌≡◌, ℕ, zero, suc, ◌+◌, ◌<◌, ◌≤◌, List, [], ◌∷◌, ◌++◌, length, drop, take, slice_index_or, slice_set, refl, sym, ap, ◌∙◌, subst, arith}
use Rattle.std.specs.Prelude.{slice_get}
use lib.Seq.{take-suc, take-suc-set}
use Rattle.std.proofs.lemmas.List.{drop-set-lt, drop_more, length-set, length-take-le, take_all}
use Rattle.hy_crossing.specs.Lists.{InTurn, IsDoneUpTo, IsLedUpTo, Pairwise, Stepping}

-- ---- one element more

in_turn-push : {State Row : Type 0} (step : ℕ → State → State → Row → Row → Type 0) (number : ℕ)
    (before middle after : State) (olds news : List Row) (old new : Row) → InTurn step number before middle olds news
    → step (number + length olds) middle after old new
    → InTurn step number before after (olds ++ old ∷ []) (news ++ new ∷ [])
in_turn-push step number before middle after [] [] old new turn one =
    let first : number + 0 ≡ number = omega arith in (
      after,
      subst (λ (state : _). step number state after old new) turn
          (subst (λ n. step n middle after old new) first one),
      refl,
    )
in_turn-push step number before middle after (x ∷ olds) (y ∷ news) old new turn one =
    let next : number + suc (length olds) ≡ suc number + length olds = omega arith in (
      turn.0,
      turn.1,
      in_turn-push step (suc number) turn.0 middle after olds news old new turn.2
          (subst (λ n. step n middle after old new) next one),
    )
in_turn-push step number before middle after [] (y ∷ news) old new turn one = absurd turn
in_turn-push step number before middle after (x ∷ olds) [] old new turn one = absurd turn

-- what stands at a place within a list doesn't depend on what is given for one past its end
get_or-other : {Row : Type 0} (rows : List Row) (place : ℕ) → place < length rows → (one other : Row)
    → slice_index_or rows place other ≡ slice_index_or rows place one
get_or-other [] place within one other = absurd (omega (arith, within))
get_or-other (row ∷ rows) zero within one other = refl
get_or-other (row ∷ rows) (suc place) within one other = get_or-other rows place (omega (arith, within)) one other

pub some-row : {Row : Type 0} (rows : List Row) (place : ℕ) → place < length rows → Row
some-row [] place within = absurd (omega (arith, within))
some-row (row ∷ rows) place within = row

-- ---- loops

module _ {State Row : Type 0} (step : ℕ → State → State → Row → Row → Type 0) where
  pub led-start : (state : State) (rows : List Row) → IsLedUpTo step 0 state state rows rows
  led-start state rows = record { count = refl; done = refl; rest = refl }

  module _ (place : ℕ) (before now : State) (olds news : List Row) (led : IsLedUpTo step place before now olds news)
      (within : place < length news) where
    within_olds : place < length olds
    within_olds = omega (arith, within, led.count)

    same-drops : (row : Row) → slice_index_or news place row ∷ drop (place + 1) news
        ≡ slice_index_or olds place row ∷ drop (place + 1) olds
    same-drops row = sym (drop_more news place row within) ∙ led.rest ∙ drop_more olds place row within_olds

    -- the element at the place is the old one, and those behind it are too
    same-at : (row : Row) → slice_index_or news place row ≡ slice_index_or olds place row
    same-at row = ap head (same-drops row)
      where
        head : List Row → Row
        head [] = row
        head (first ∷ later) = first

    same-behind : (row : Row) → drop (suc place) news ≡ drop (suc place) olds
    same-behind row =
        let next : place + 1 ≡ suc place = omega arith in
        subst (λ n. drop n news ≡ drop n olds) next (ap tail (same-drops row))
      where
        tail : List Row → List Row
        tail [] = []
        tail (first ∷ later) = later

    pushed : (next : State) (old new : Row) → slice_index_or news place old ≡ old → step (suc place) now next old new
        → InTurn step 1 before next (take place olds ++ slice_index_or olds place old ∷ []) (take place news ++ new ∷ [])
    pushed next old new here one =
        let at : slice_index_or olds place old ≡ old = sym (same-at old) ∙ here in
        let number : suc place ≡ 1 + length (take place olds) =
        omega (arith, length-take-le place olds (omega (arith, within_olds))) in
        subst (λ row. InTurn step 1 before next (take place olds ++ row ∷ []) (take place news ++ new ∷ [])) (sym at)
        (in_turn-push step 1 before now next (take place olds) (take place news) old new led.done
        (subst (λ n. step n now next old new) number one))

    led-suc : (next : State) (old new : Row) → slice_index_or news place old ≡ old
        → step (suc place) now next old new
        → IsLedUpTo step (suc place) before next olds (slice_set news place new)
    led-suc next old new here one = record {
      count = length-set news place new ∙ led.count;
      done =
          subst (λ rows. InTurn step 1 before next rows (take (suc place) (slice_set news place new)))
          (sym (take-suc olds place old within_olds))
          (subst (λ rows. InTurn step 1 before next (take place olds ++ slice_index_or olds place old ∷ []) rows)
          (sym (take-suc-set news place new within)) (pushed next old new here one));
      rest = drop-set-lt (suc place) news place new (omega arith) ∙ same-behind old;
    }

    stays-suc : (next : State) (row : Row) → ((row : Row) → step (suc place) now next row row)
        → IsLedUpTo step (suc place) before next olds news
    stays-suc next row still =
        let old : Row = slice_index_or news place row in
        let here : slice_index_or news place old ≡ old = get_or-other news place within row old in
        record {
          count = led.count;
          done =
              subst (λ rows. InTurn step 1 before next rows (take (suc place) news))
              (sym (take-suc olds place old within_olds))
              (subst (λ rows. InTurn step 1 before next (take place olds ++ slice_index_or olds place old ∷ []) rows)
              (sym (take-suc news place old within ∙ ap (λ row. take place news ++ row ∷ []) here))
              (pushed next old old here (still old)));
          rest = same-behind old;
        }

    -- it was led through
    pub led-more : (next : State) (old new : Row) → slice_index_or news place old ≡ old
        → step (place + 1) now next old new
        → IsLedUpTo step (place + 1) before next olds (slice_set news place new)
    led-more next old new here one =
        let number : suc place ≡ place + 1 = omega arith in
        subst (λ n. IsLedUpTo step n before next olds (slice_set news place new)) number
        (led-suc next old new here (subst (λ n. step n now next old new) (sym number) one))

    -- it stayed
    pub led-same : (next : State) → ((row : Row) → step (place + 1) now next row row)
        → IsLedUpTo step (place + 1) before next olds news
    led-same next still =
        let row : Row = some-row news place within in
        let number : suc place ≡ place + 1 = omega arith in
        subst (λ n. IsLedUpTo step n before next olds news) number
        (stays-suc next row (subst (λ n. (row : Row) → step n now next row row) (sym number) still))

  pub led-end : (place : ℕ) (before now : State) (olds news : List Row) → IsLedUpTo step place before now olds news
      → length olds ≤ place → InTurn step 1 before now olds news
  led-end place before now olds news led all =
      subst (λ (rows : List Row). InTurn step 1 before now rows news) (take_all place olds all)
      (subst (λ (rows : List Row). InTurn step 1 before now (take place olds) rows)
      (take_all place news (omega (arith, all, led.count))) led.done)

-- ---- loops without a state

get-drop : {Row : Type 0} (rows : List Row) (place : ℕ) → slice_get rows place ≡ slice_get (drop place rows) 0
get-drop [] zero = refl
get-drop [] (suc place) = refl
get-drop (row ∷ rows) zero = refl
get-drop (row ∷ rows) (suc place) = get-drop rows place

pairwise-in_turn : {Row : Type 0} (relation : ℕ → Row → Row → Type 0) (number before after : ℕ) (olds news : List Row)
    → InTurn (Stepping relation) number before after olds news → Pairwise relation number olds news
pairwise-in_turn relation number before after [] [] turn = tt
pairwise-in_turn relation number before after (old ∷ olds) (new ∷ news) turn =
    (turn.1.0, pairwise-in_turn relation (suc number) turn.0 after olds news turn.2)
pairwise-in_turn relation number before after [] (new ∷ news) turn = absurd turn
pairwise-in_turn relation number before after (old ∷ olds) [] turn = absurd turn

module _ {Row : Type 0} (relation : ℕ → Row → Row → Type 0) where
  pub done-start : (rows : List Row) → IsDoneUpTo relation 0 rows rows
  done-start rows = led-start (Stepping relation) 0 rows

  pub done-more : (place : ℕ) (olds news : List Row) → IsDoneUpTo relation place olds news → place < length news
      → (old new : Row) → slice_index_or news place old ≡ old → relation (place + 1) old new
      → IsDoneUpTo relation (place + 1) olds (slice_set news place new)
  done-more place olds news done within old new here one =
      led-more (Stepping relation) place 0 0 olds news done within 0 old new here (one, refl)

  pub done-same : (place : ℕ) (olds news : List Row) → IsDoneUpTo relation place olds news → place < length news
      → ((row : Row) → relation (place + 1) row row) → IsDoneUpTo relation (place + 1) olds news
  done-same place olds news done within still =
      led-same (Stepping relation) place 0 0 olds news done within 0 (λ row. (still row, refl))

  -- the element at the place is still the old one
  pub done-here : (place : ℕ) (olds news : List Row) → IsDoneUpTo relation place olds news → place < length news
      → (row : Row) → row ≡ slice_index_or news place row → row ≡ slice_index_or olds place row
  done-here place olds news done within row here =
      here ∙ same-at (Stepping relation) place 0 0 olds news done within row

  pub done-still : (place : ℕ) (olds news : List Row) → IsDoneUpTo relation place olds news → place < length news
      → (row : Row) → row ≡ slice_index_or olds place row → row ≡ slice_index_or news place row
  done-still place olds news done within row here =
      here ∙ sym (same-at (Stepping relation) place 0 0 olds news done within row)

  pub done-get : (place : ℕ) (olds news : List Row) → IsDoneUpTo relation place olds news
      → slice_get news place ≡ slice_get olds place
  done-get place olds news done =
      get-drop news place ∙ ap (λ (rows : List Row). slice_get rows 0) done.rest ∙ sym (get-drop olds place)

  pub done-end : (place : ℕ) (olds news : List Row) → IsDoneUpTo relation place olds news → length olds ≤ place
      → Pairwise relation 1 olds news
  done-end place olds news done all =
      pairwise-in_turn relation 1 0 0 olds news (led-end (Stepping relation) place 0 0 olds news done all)
