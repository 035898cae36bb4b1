-- Laws of lists that are written one row after another.
use Rattle.std.proofs.Common.{◌≡◌, ℕ, zero, suc, ◌+◌, List, [], ◌∷◌, ◌++◌, ◌≤◌, length, take, slice_get, Some, refl, sym, ap, ◌∙◌, append_assoc, arith}
use Rattle.std.specs.List.{flat_map}
use Rattle.std.proofs.lemmas.List.{append-nil}
use Rattle.std.proofs.lemmas.List.Concat.{flat_map-cons}

-- a row more, each of which becomes a list
pub flat_map-taken : {Row Item : Type 0} (text : Row → List Item) (rows : List Row) (place : ℕ) (row : Row)
    → slice_get rows place ≡ Some row → flat_map text (take (place + 1) rows) ≡ flat_map text (take place rows) ++ text row
flat_map-taken {Row = Row} text rows place row at =
    let after : place + 1 ≡ suc place = omega arith in
    ap (λ n. flat_map text (take n rows)) after ∙ from rows place at
  where
    from : (rows : List Row) (place : ℕ) → slice_get rows place ≡ Some row
        → flat_map text (take (suc place) rows) ≡ flat_map text (take place rows) ++ text row
    from [] place at = absurd (cc)
    from (first ∷ rows) zero at =
        let same : first ≡ row = cc in
        flat_map-cons text first [] ∙ (append-nil (text first) ∙ ap text same)
    from (first ∷ rows) (suc place) at =
        flat_map-cons text first (take (suc place) rows)
        ∙ (ap (λ rest. text first ++ rest) (from rows place at)
        ∙ (sym (append_assoc (text first) (flat_map text (take place rows)) (text row))
        ∙ ap (λ front. front ++ text row) (sym (flat_map-cons text first (take place rows)))))

-- all of a list
pub take-past : {Row : Type 0} (count : ℕ) (rows : List Row) → length rows ≤ count → take count rows ≡ rows
take-past zero [] within = refl
take-past (suc count) [] within = refl
take-past zero (row ∷ rows) within = absurd (omega arith)
take-past (suc count) (row ∷ rows) within = ap (λ rows. row ∷ rows) (take-past count rows (omega arith))
