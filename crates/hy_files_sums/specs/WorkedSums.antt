-- Examples of the digests of texts; the checker computes them.
use Rattle.std.specs.Prelude.{◌≡◌, [], ◌∷◌, ◌++◌, codes, refl}
use Rattle.hy_rows.specs.declared.catalogue.Table.TheVariants as tables
use Rattle.hy_files_sums.specs.Sums.{sum_line, sums_text}

-- no line without a table and its text
abbrev none : sums_text [] (codes "a" ∷ []) ≡ []
none = refl

abbrev no_text : sums_text (tables.Item ∷ []) [] ≡ []
no_text = refl

-- one behind another, each with its own name
abbrev two : sums_text (tables.Item ∷ tables.Stock ∷ []) (codes "a" ∷ codes "b" ∷ [])
    ≡ sum_line tables.Item (codes "a") ++ (sum_line tables.Stock (codes "b") ++ [])
two = refl
