-- The digests of one text more.
use Rattle.std.proofs.Common.{◌≡◌, ◌<◌, ℕ, zero, suc, ◌+◌, List, [], ◌∷◌, ◌++◌, take, map, get_or, length, refl, sym, ap, ◌∙◌, append-nil, append_assoc, arith}
use Rattle.hy_rows.specs.declared.catalogue.Table.{Table}
use Rattle.hy_files_sums.specs.Sums.{sum_line, sums_text}

sums-suc : (tables : List Table) (texts : List (List ℕ)) (place : ℕ) (table : Table) (text : List ℕ)
    → place < length tables → place < length texts
    → sums_text (take (suc place) tables) (take (suc place) texts)
    ≡ sums_text (take place tables) (take place texts) ++ sum_line (get_or tables place table) (get_or texts place text)
sums-suc [] texts place table text within there = absurd (omega (arith, within))
sums-suc (first ∷ tables) [] place table text within there = absurd (omega (arith, there))
sums-suc (first ∷ tables) (one ∷ texts) zero table text within there = append-nil (sum_line first one)
sums-suc (first ∷ tables) (one ∷ texts) (suc place) table text within there =
    ap (λ rest. sum_line first one ++ rest)
    (sums-suc tables texts place table text (omega (arith, within)) (omega (arith, there)))
    ∙ sym (append_assoc (sum_line first one) (sums_text (take place tables) (take place texts))
    (sum_line (get_or tables place table) (get_or texts place text)))

pub sums-next : (tables : List Table) (texts : List (List ℕ)) (place : ℕ) (table : Table) (text : List ℕ)
    → place < length tables → place < length texts
    → sums_text (take (place + 1) tables) (take (place + 1) texts)
    ≡ sums_text (take place tables) (take place texts) ++ sum_line (get_or tables place table) (get_or texts place text)
sums-next tables texts place table text within there =
    let next : place + 1 ≡ suc place = omega arith in
    ap (λ n. sums_text (take n tables) (take n texts)) next ∙ sums-suc tables texts place table text within there

pub get-map : {Row Value : Type 0} (of : Row → Value) (rows : List Row) (place : ℕ) (row : Row)
    → get_or (map of rows) place (of row) ≡ of (get_or rows place row)
get-map of [] place row = refl
get-map of (first ∷ rows) zero row = refl
get-map of (first ∷ rows) (suc place) row = get-map of rows place row

pub count-map : {Row Value : Type 0} (of : Row → Value) (rows : List Row) → length (map of rows) ≡ length rows
count-map of [] = refl
count-map of (first ∷ rows) = ap suc (count-map of rows)
