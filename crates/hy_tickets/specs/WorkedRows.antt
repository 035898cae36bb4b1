-- Worked rows, which the checker computes.
use Rattle.std.specs.Prelude.{◌≡◌, true, false, [], ◌∷◌, refl}
use Rattle.hy_tickets.specs.Desks.{is_out, without}

out : is_out (4 ∷ 0 ∷ 2 ∷ []) 0 ≡ true
out = refl

not-out : is_out (4 ∷ 0 ∷ 2 ∷ []) 3 ≡ false
not-out = refl

taken : without (4 ∷ 0 ∷ 2 ∷ []) 0 ≡ 4 ∷ 2 ∷ []
taken = refl
