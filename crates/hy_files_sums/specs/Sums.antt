-- The digests of the nine files of a load.
use Rattle.std.specs.Prelude.{◌≡◌, ℕ, List, [], ◌∷◌, ◌++◌, codes}
use Rattle.sha2.specs.Sha256.{sha256}
use Rattle.hex.specs.Hex.{encode_lower}
use Rattle.hy_rows.specs.Catalogue.{file_of}
use Rattle.hy_rows.specs.declared.catalogue.Table.{Table}

-- the digest of a text in hexadecimal digits, two spaces, and the name of its table's file
abbrev pub sum_line : Table → List ℕ → List ℕ
sum_line table text = encode_lower (sha256 text) ++ codes "  " ++ file_of table ++ codes "\n"

-- one line behind another, of tables and their texts
abbrev pub sums_text : List Table → List (List ℕ) → List ℕ
sums_text [] texts = []
sums_text (table ∷ tables) [] = []
sums_text (table ∷ tables) (text ∷ texts) = sum_line table text ++ sums_text tables texts

-- one text begins another one
abbrev pub Begins : List ℕ → List ℕ → Type 0
Begins front whole = (rest : List ℕ) × (whole ≡ front ++ rest)
