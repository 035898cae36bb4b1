-- Numbers in order.
use Rattle.std.specs.Prelude.{ℕ, zero, suc, List, [], ◌∷◌, ◌++◌}

-- the numbers below one, in order
abbrev pub upto : ℕ → List ℕ
upto zero = []
upto (suc count) = upto count ++ count ∷ []
