-- Where the first line ends.
use Rattle.std.proofs.Common.{◌≡◌, ℕ, zero, suc, ◌+◌, ◌-◌, ◌<◌, ◌≤◌, ◌==◌, Bool, true, false, List, [], ◌∷◌, None, Some, take, drop, length, refl, sym, ap, subst, ◌∙◌, arith}
use Rattle.std.proofs.lemmas.Bool.{eqb-true}
use Rattle.memchr.specs.Find.{IsFirstByte, Passes, is_byte}
use Rattle.hy_hyper_input.specs.Inputs.{EndsLine, between, is_ended, line_feed}
use Rattle.hy_hyper_input.proofs.BytesLaws.{between-behind, between-front, take-few}

abbrev EndsAt : List ℕ → ℕ → Type 0
EndsAt bytes place = Passes (is_byte line_feed) bytes place

nowhere-ended : (bytes : List ℕ) → ((place : ℕ) → place < length bytes → EndsAt bytes place → ⊥) → is_ended bytes ≡ false
nowhere-ended [] nowhere = refl
nowhere-ended (byte ∷ bytes) nowhere =
    by (byte == line_feed) refl (nowhere-ended bytes (λ place within. nowhere (suc place) (omega (arith, within))))
  where
    by : (is : Bool) → (byte == line_feed) ≡ is → is_ended bytes ≡ false → is_ended (byte ∷ bytes) ≡ false
    by true is later = absurd (nowhere 0 (omega arith) is)
    by false is later = rw is later

pub not-ended : (bytes : List ℕ) → IsFirstByte (is_byte line_feed) bytes None → is_ended bytes ≡ false
not-ended bytes none = nowhere-ended bytes (λ place within. none place (omega arith) within)

-- a line feed that none stands before ends the first line
ends-here : (bytes : List ℕ) (place : ℕ) → place < length bytes
    → ((before : ℕ) → before < place → EndsAt bytes before → ⊥) → EndsAt bytes place
    → EndsLine bytes (take place bytes) (drop (suc place) bytes)
ends-here [] place within none here = absurd (omega (arith, within))
ends-here (byte ∷ bytes) zero within none here = record {
  whole = ap (λ byte. byte ∷ bytes) (eqb-true byte line_feed here);
  one = refl;
}
ends-here (byte ∷ bytes) (suc place) within none here =
    let later = ends-here bytes place (omega (arith, within)) (λ before less. none (suc before) (omega (arith, less))) here in
    record {
      whole = ap (λ rest. byte ∷ rest) later.whole;
      one = by (byte == line_feed) refl later.one;
    }
  where
    by : (is : Bool) → (byte == line_feed) ≡ is → is_ended (take place bytes) ≡ false
        → is_ended (byte ∷ take place bytes) ≡ false
    by true is one = absurd (none 0 (omega arith) is)
    by false is one = rw is one

pub ends-between : (start end place : ℕ) (bytes : List ℕ) → start ≤ end → end ≤ length bytes
    → IsFirstByte (is_byte line_feed) (between start end bytes) (Some place)
    → EndsLine (between start end bytes) (between start (start + place) bytes) (between (start + place + 1) end bytes)
ends-between start end place bytes order within first =
    let all = between start end bytes in
    let inside : start + suc place ≤ end =
    omega (arith, order, first.0.high, take-few (end - start) (drop start bytes)) in
    let ends = ends-here all place first.0.high (λ before less. first.0.before before (omega arith) less) first.1 in
    let next : start + suc place ≡ start + place + 1 = omega arith in
    let line : take place all ≡ between start (start + place) bytes =
    sym (between-front start place end bytes (omega (arith, inside))) in
    let rest : drop (suc place) all ≡ between (start + place + 1) end bytes =
    between-behind start (suc place) end bytes inside ∙ ap (λ n. between n end bytes) next in
    subst (λ front. EndsLine all front (between (start + place + 1) end bytes)) line
    (subst (λ rest. EndsLine all (take place all) rest) rest ends)
