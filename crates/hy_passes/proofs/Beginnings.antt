-- Beginnings of one list.
use Rattle.std.proofs.Common.{◌≤◌, ℕ, List, [], ◌++◌, drop, length, take, ap, sym, ◌∙◌, arith, append_assoc, append-nil, length-append}
use mathlib.Core.List.{IsPrefix}
use Rattle.std.proofs.lemmas.List.{take-append-drop}

module _ {A : Type 0} where
  pub begins_itself : (xs : List A) → IsPrefix xs xs
  begins_itself xs = ([], append-nil xs)

  pub begins_longer : (xs ys more : List A) → IsPrefix xs ys → IsPrefix xs (ys ++ more)
  begins_longer xs ys more p = (p.0 ++ more, sym (append_assoc xs p.0 more) ∙ ap (λ w. w ++ more) p.1)

  pub begins_through : (xs ys zs : List A) → IsPrefix xs ys → IsPrefix ys zs → IsPrefix xs zs
  begins_through xs ys zs p q = (p.0 ++ q.0, sym (append_assoc xs p.0 q.0) ∙ (ap (λ w. w ++ q.0) p.1 ∙ q.1))

  pub begins_shorter : (xs ys : List A) → IsPrefix xs ys → length xs ≤ length ys
  begins_shorter xs ys p = omega (arith, sym (ap length p.1) ∙ length-append xs p.0)

  pub begins_taken : (n : ℕ) (xs : List A) → IsPrefix (take n xs) xs
  begins_taken n xs = (drop n xs, take-append-drop n xs)
