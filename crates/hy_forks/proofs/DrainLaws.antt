-- What is copied for a drain.
use Rattle.std.proofs.Common.{◌≡◌, ◌≤◌, ℕ, zero, suc, Bool, true, List, [], ◌∷◌, ◌-◌, drop, length, take, refl, sym, ap, ◌∙◌, arith}
use Rattle.std.specs.List.{list_all}
use Rattle.std.proofs.Math.Seq.{take-length}
use Rattle.std.proofs.lemmas.Bool.{and_parts}
use Rattle.std.proofs.lemmas.List.{length-drop}

-- ---- what stands behind so many rows

all-behind : {Row : Type 0} (test : Row → Bool) (count : ℕ) (rows : List Row) → list_all test rows ≡ true
    → list_all test (drop count rows) ≡ true
all-behind test zero rows all = all
all-behind test (suc count) [] all = refl
all-behind test (suc count) (row ∷ rows) all =
    all-behind test count rows (and_parts (test row) (list_all test rows) all).1

pub all-later : {Row : Type 0} (test : Row → Bool) (first later : ℕ) (rows : List Row) → first ≤ later
    → list_all test (drop first rows) ≡ true → list_all test (drop later rows) ≡ true
all-later test zero later rows far all = all-behind test later rows all
all-later test (suc first) zero rows far all = absurd (omega (arith, far))
all-later test (suc first) (suc later) [] far all = refl
all-later test (suc first) (suc later) (row ∷ rows) far all =
    all-later test first later rows (omega (arith, far)) all

pub take-rest : {Row : Type 0} (count : ℕ) (rows : List Row)
    → take (length rows - count) (drop count rows) ≡ drop count rows
take-rest count rows = ap (λ n. take n (drop count rows)) (sym (length-drop count rows)) ∙ take-length (drop count rows)
