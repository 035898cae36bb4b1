-- Texts one behind another in some bytes, by the places at which they end.
use Rattle.std.specs.Prelude.{◌≡◌, ℕ, zero, suc, ◌-◌, ◌≤◌, List, [], ◌∷◌, slice_index}
use Rattle.hy_page.specs.Bytes.{bytes_at}

-- the texts from a place on
abbrev pub texts_from : List ℕ → ℕ → List ℕ → List (List ℕ)
texts_from bytes start [] = []
texts_from bytes start (end ∷ ends) = bytes_at bytes start (end - start) ∷ texts_from bytes end ends

-- none ends before it begins, and the last one where all bytes do
abbrev pub AreEnds : ℕ → List ℕ → ℕ → Type 0
AreEnds start [] total = start ≡ total
AreEnds start (end ∷ ends) total = (start ≤ end) × AreEnds end ends total

-- where the text at a place begins: where the one before it ends
abbrev pub begin_of : ℕ → List ℕ → ℕ → ℕ
begin_of start ends zero = start
begin_of start ends (suc place) = slice_index ends place
