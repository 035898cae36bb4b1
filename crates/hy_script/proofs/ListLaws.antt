-- Lists: what stands at a place, and what is left where an item comes or goes.
use Rattle.std.proofs.Common.{◌≡◌, ◌∙◌, ◌+◌, ◌<◌, ℕ, List, [], ◌∷◌, ◌++◌, Option, None, Some, All, IsSomeAnd, length, slice_get, slice_index_or, remove, ap, refl, sym, subst, arith, inl, inr}
use Rattle.std.proofs.lemmas.Bool.{cases_lt}
use Rattle.hy_session.proofs.of_crossing.PlaceLaws.{get-at}
use Rattle.hy_session.proofs.of_forks.PlaceLaws.{get-last}
use Rattle.std.proofs.lemmas.List.Edits.{get_or-remove_above, get_or-remove_below, length-remove}

-- what follows of a value that is there
pub from_some : {X : Type 0} {P : X → Type 0} {Q : Type 0} (value : Option X) → ((x : X) → P x → Q) → IsSomeAnd value P
    → Q
from_some None leads holds = absurd holds
from_some (Some x) leads holds = leads x holds

pub length-push : {X : Type 0} (all : List X) (last : X) → length (all ++ last ∷ []) ≡ length all + 1
length-push [] last = refl
length-push (x ∷ xs) last = omega (arith, length-push xs last)

-- the last one
pub last-item : {X : Type 0} (all others : List X) (item last : X) (place : ℕ) → all ≡ others ++ last ∷ []
    → place + 1 ≡ length all → item ≡ slice_index_or all place item → item ≡ last
last-item {X = X} all others item last place is counted at =
    let more : length all ≡ length others + 1 = ap length is ∙ length-push others last in
    let one : slice_get all place ≡ Some item = get-at all place item (omega (arith, counted)) at in
    let other : slice_get all place ≡ Some last =
    ap (λ (list : List X). slice_get list place) is ∙ get-last others last place (omega (arith, more, counted)) in
    same (sym one ∙ other)
  where
    same : {one other : X} → Some one ≡ Some other → one ≡ other
    same is = cc

-- what holds of each item holds of each that is left
pub All-remove : {X : Type 0} (P : X → Type 0) (all : List X) (place : ℕ) → place < length all → All P all
    → All P (remove all place)
All-remove P all place within each k d below =
    let more = length-remove all place within in
    elim (cases_lt k place) [
      | inl less ↦ subst P (sym (get_or-remove_below all place d k less within)) (each k d (omega (arith, more, below)))
      | inr most ↦ subst P (sym (get_or-remove_above all place d k most within)) (each (k + 1) d (omega (arith, more, below)))
    ]
