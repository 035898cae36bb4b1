-- Which warehouses have still to be told of a commit, once those up to a number were.
use Rattle.std.proofs.Common.{◌≡◌, ℕ, ◌+◌, ◌<◌, ◌≤◌, ◌==◌, ◌&&◌, Bool, true, false, not, cond, nat_lt, List, [], ◌∷◌, filter, refl, sym, ap, ◌∙◌, arith}
use Rattle.std.specs.List.{list_all, list_any}
use Rattle.std.proofs.lemmas.Bool.{and_parts, eqb-false, eqb-true, false_from_ne_true, lt-ltb, ltb-true, or_parts, true≢false}
use Rattle.hy_rows.specs.Ranges.{is_between}
use Rattle.hy_rows.proofs.BetweenLaws.{bounds}

-- those behind a number are those behind the one before, without the number
later-split : (place w : ℕ) → nat_lt (place + 1) w ≡ (nat_lt place w && not (w == place + 1))
later-split place w =
    elim (nat_lt place w) as (λ b. nat_lt place w ≡ b → nat_lt (place + 1) w ≡ (b && not (w == place + 1))) [
      | true ↦ λ is.
          elim (w == place + 1) as (λ b. (w == place + 1) ≡ b → nat_lt (place + 1) w ≡ (true && not b)) [
            | true ↦ λ same. false_from_ne_true (nat_lt (place + 1) w)
                (λ later. omega (arith, ltb-true (place + 1) w later, eqb-true w (place + 1) same))
            | false ↦ λ other. lt-ltb (place + 1) w
                (omega (arith, ltb-true place w is, eqb-false w (place + 1) other))
          ] refl
      | false ↦ λ no. false_from_ne_true (nat_lt (place + 1) w) (λ later.
          let before : place < w = omega (arith, ltb-true (place + 1) w later) in
          true≢false (sym (lt-ltb place w before) ∙ no))
    ] refl

filter-both : (p q r : ℕ → Bool) → ((w : ℕ) → r w ≡ (q w && p w)) → (ws : List ℕ)
    → filter p (filter q ws) ≡ filter r ws
filter-both p q r same [] = refl
filter-both p q r same (w ∷ ws) =
    let rest = filter-both p q r same ws in
    elim (q w) as (λ b. q w ≡ b → filter p (cond b (w ∷ filter q ws) (filter q ws))
    ≡ cond (r w) (w ∷ filter r ws) (filter r ws)) [
      | true ↦ λ is.
          ap (λ (later : List ℕ). cond (p w) (w ∷ later) later) rest
          ∙ sym (ap (λ (b : Bool). cond b (w ∷ filter r ws) (filter r ws)) (same w ∙ ap (λ (b : Bool). b && p w) is))
      | false ↦ λ is.
          rest
          ∙ sym (ap (λ (b : Bool). cond b (w ∷ filter r ws) (filter r ws)) (same w ∙ ap (λ (b : Bool). b && p w) is))
    ] refl

and_true : (b : Bool) → (b && true) ≡ b
and_true true = refl
and_true false = refl

-- a number that isn't among them
pub told-same : (place : ℕ) (ws : List ℕ) → list_any (λ named. named == place + 1) ws ≡ false
    → filter (λ w. nat_lt place w) ws ≡ filter (λ w. nat_lt (place + 1) w) ws
told-same place [] none = refl
told-same place (w ∷ ws) none =
    let parts = or_parts (w == place + 1) (list_any (λ named. named == place + 1) ws) none in
    let rest = told-same place ws parts.1 in
    let same : nat_lt place w ≡ nat_lt (place + 1) w =
    sym (later-split place w ∙ ap (λ (b : Bool). nat_lt place w && not b) parts.0 ∙ and_true (nat_lt place w)) in
    ap (λ (b : Bool). cond b (w ∷ filter (λ w. nat_lt place w) ws) (filter (λ w. nat_lt place w) ws)) same
    ∙ ap (λ (later : List ℕ). cond (nat_lt (place + 1) w) (w ∷ later) later) rest

-- one number more
pub told-more : (place : ℕ) (ws : List ℕ)
    → filter (λ w. not (w == place + 1)) (filter (λ w. nat_lt place w) ws) ≡ filter (λ w. nat_lt (place + 1) w) ws
told-more place ws =
    filter-both (λ w. not (w == place + 1)) (λ w. nat_lt place w) (λ w. nat_lt (place + 1) w) (later-split place) ws

-- none at first, and all in the end
pub told-none : (count : ℕ) (ws : List ℕ) → list_all (is_between 1 count) ws ≡ true
    → filter (λ w. nat_lt 0 w) ws ≡ ws
told-none count [] all = refl
told-none count (w ∷ ws) all =
    let parts = and_parts (is_between 1 count w) (list_all (is_between 1 count) ws) all in
    let ends = bounds 1 count w parts.0 in
    ap (λ (b : Bool). cond b (w ∷ filter (λ w. nat_lt 0 w) ws) (filter (λ w. nat_lt 0 w) ws))
    (lt-ltb 0 w (omega (arith, ends.0)))
    ∙ ap (λ (later : List ℕ). w ∷ later) (told-none count ws parts.1)

pub told-all : (count place : ℕ) (ws : List ℕ) → list_all (is_between 1 count) ws ≡ true → count ≤ place
    → filter (λ w. nat_lt place w) ws ≡ []
told-all count place [] all past = refl
told-all count place (w ∷ ws) all past =
    let parts = and_parts (is_between 1 count w) (list_all (is_between 1 count) ws) all in
    let ends = bounds 1 count w parts.0 in
    ap (λ (b : Bool). cond b (w ∷ filter (λ w. nat_lt place w) ws) (filter (λ w. nat_lt place w) ws))
    (false_from_ne_true (nat_lt place w) (λ later. omega (arith, ltb-true place w later, ends.1, past)))
    ∙ told-all count place ws parts.1 past
