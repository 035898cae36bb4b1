-- Columns of a made segment whose slots are spanned; the checker computes each row.
use Rattle.std.specs.Prelude.{◌≡◌, ℕ, ◌+◌, ◌*◌, List, [], ◌∷◌, ◌++◌, codes, length, map, refl, replicate}
use Rattle.hy_page.specs.Bytes.{bytes_at, bytes_of}
use Rattle.hy_rows.specs.Spelling.{first_items, is_spanned, rows_of, slot_start}
use Rattle.hy_rows.specs.Texts.{padded}
use Rattle.hy_columns.specs.declared.spanned.SpannedColumn.{SpannedColumn}
use Rattle.hy_columns.specs.inside.Pages.{whole_row}
use Rattle.hy_columns.specs.inside.Spanned.{bits_in, text_in}

-- rows of 574 bytes: a number of eight bytes, 66 others, and a text of at most 500
abbrev row : ℕ → List ℕ → List ℕ
row number text = bytes_of 8 number ++ (replicate 66 7 ++ padded 500 text)

-- a text that is longer than a page
abbrev long_text : List ℕ
long_text = replicate 300 65 ++ codes "Z"

-- five slots, of which the third has no row, over twelve pages of 256 bytes
abbrev joined : List ℕ
joined =
    (1 ∷ row 11 (codes "A")) ++ ((1 ∷ row 22 long_text) ++ ((0 ∷ row 33 (codes "C"))
    ++ ((1 ∷ row 44 []) ++ ((1 ∷ row 18_364_758_544_493_064_720 (codes "E")) ++ replicate 197 0))))

abbrev pages : List (List ℕ)
pages = (bytes_of 8 5 ++ replicate 248 0) ∷ first_items (λ page. bytes_at joined (256 * page) 256) 12

abbrev number : SpannedColumn
number = record { segment = record { number = 0; row_bytes = 574 }; offset = 0; width = 8 }

abbrev text : SpannedColumn
text = record { segment = record { number = 0; row_bytes = 574 }; offset = 74; width = 500 }

-- the last row begins with its mark at byte 252 of the ninth page, so that its number lies on two
last-start : slot_start 256 574 4 ≡ 8 * 256 + 252
last-start = refl

numbers : rows_of 256 574 (bits_in (λ bits. bits) number) pages ≡ 11 ∷ 22 ∷ 44 ∷ 18_364_758_544_493_064_720 ∷ []
numbers = refl

texts : rows_of 256 574 (text_in text) pages ≡ codes "A" ∷ long_text ∷ [] ∷ codes "E" ∷ []
texts = refl

count : length (rows_of 256 574 whole_row pages) ≡ 4
count = refl
