-- The bytes of a row say the values that they are made of.
use Rattle.std.proofs.Common.{◌≡◌, ℕ, pos, negsuc, ◌+◌, List, [], ◌∷◌, ◌++◌, length, refl, sym, ap, ap₂, ◌∙◌, arith, append_assoc, length-append}
use Rattle.std.proofs.lemmas.Int.{to_z-of_z}
use Rattle.std.specs.Int.{w64, cast_signed, cast_unsigned}
use Rattle.hy_page.specs.Bytes.{bytes_at, number_of}
use Rattle.hy_page.proofs.ByteLaws.{length-bytes_of, number_of-bytes_of}
use Rattle.hy_rows.specs.Columns.{AllFit, Column, Domain, Fits, OneOf, Signed, Text, Unsigned, row_bytes, row_width, value_at, value_bytes, values_from, values_in, width_of}
use Rattle.hy_rows.specs.Texts.{text_of}
use Rattle.hy_rows.specs.declared.value.Value.{Value}
use Rattle.hy_rows.specs.declared.value.Value.TheVariants as values
use Rattle.hy_rows.proofs.TextLaws.{length-padded, text_of-padded}
use Rattle.hy_rows.proofs.ColumnLaws.{bytes_at-column, cast_unsigned-below}

-- a value takes the bytes of its column
length-value_bytes : (domain : Domain) (value : Value) → Fits domain value → length (value_bytes domain value) ≡ width_of domain
length-value_bytes (Unsigned width low high) (values.Whole (pos number)) fits = length-bytes_of width number
length-value_bytes (Unsigned width low high) (values.Whole (negsuc number)) fits = absurd fits
length-value_bytes (Unsigned width low high) (values.Text text) fits = absurd fits
length-value_bytes (Signed low high) (values.Whole number) fits = length-bytes_of 8 (cast_unsigned w64 number)
length-value_bytes (Signed low high) (values.Text text) fits = absurd fits
length-value_bytes (Text width) (values.Whole number) fits = absurd fits
length-value_bytes (Text width) (values.Text text) fits = length-padded width text fits.fits
length-value_bytes (OneOf width words) (values.Whole number) fits = absurd fits
length-value_bytes (OneOf width words) (values.Text text) fits = length-padded width text fits.fits

-- bytes that are those of a value say this value
value_at-bytes : (domain : Domain) (value : Value) (bytes : List ℕ) (offset : ℕ) → Fits domain value
    → bytes_at bytes offset (width_of domain) ≡ value_bytes domain value → value_at domain bytes offset ≡ value
value_at-bytes (Unsigned width low high) (values.Whole (pos number)) bytes offset fits is =
    ap (λ at. values.Whole (pos (number_of at))) is
    ∙ ap (λ n. values.Whole (pos n)) (number_of-bytes_of width number fits)
value_at-bytes (Unsigned width low high) (values.Whole (negsuc number)) bytes offset fits is = absurd fits
value_at-bytes (Unsigned width low high) (values.Text text) bytes offset fits is = absurd fits
value_at-bytes (Signed low high) (values.Whole number) bytes offset fits is =
    ap (λ at. values.Whole (cast_signed w64 (number_of at))) is
    ∙ ap (λ n. values.Whole (cast_signed w64 n))
    (number_of-bytes_of 8 (cast_unsigned w64 number) (cast_unsigned-below number fits))
    ∙ ap values.Whole (to_z-of_z w64 number fits)
value_at-bytes (Signed low high) (values.Text text) bytes offset fits is = absurd fits
value_at-bytes (Text width) (values.Whole number) bytes offset fits is = absurd fits
value_at-bytes (Text width) (values.Text text) bytes offset fits is =
    ap (λ at. values.Text (text_of at)) is ∙ ap values.Text (text_of-padded width text fits)
value_at-bytes (OneOf width words) (values.Whole number) bytes offset fits is = absurd fits
value_at-bytes (OneOf width words) (values.Text text) bytes offset fits is =
    ap (λ at. values.Text (text_of at)) is ∙ ap values.Text (text_of-padded width text fits)

-- a row takes the bytes of its columns
pub length-row_bytes : (columns : List Column) (row : List Value) → AllFit columns row
    → length (row_bytes columns row) ≡ row_width columns
length-row_bytes [] [] fits = refl
length-row_bytes [] (value ∷ row) fits = absurd fits
length-row_bytes (column ∷ columns) [] fits = absurd fits
length-row_bytes (column ∷ columns) (value ∷ row) fits =
    length-append (value_bytes column.domain value) (row_bytes columns row)
    ∙ ap₂ (λ one others. one + others) (length-value_bytes column.domain value fits.0)
    (length-row_bytes columns row fits.1)

-- the bytes of a row behind others
pub values_from-bytes : (columns : List Column) (row : List Value) (front : List ℕ) → AllFit columns row
    → values_from columns (length front) (front ++ row_bytes columns row) ≡ row
values_from-bytes [] [] front fits = refl
values_from-bytes [] (value ∷ row) front fits = absurd fits
values_from-bytes (column ∷ columns) [] front fits = absurd fits
values_from-bytes (column ∷ columns) (value ∷ row) front fits =
    let bytes = value_bytes column.domain value in
    let later = row_bytes columns row in
    let width = width_of column.domain in
    let size = length-value_bytes column.domain value fits.0 in
    let split = sym (append_assoc front bytes later) in
    let here : bytes_at (front ++ (bytes ++ later)) (length front) width ≡ bytes =
    ap (λ all. bytes_at all (length front) width) split
    ∙ bytes_at-column front bytes (later ∷ []) (length front) width refl size in
    let end : length front + width ≡ length (front ++ bytes) = omega (arith, length-append front bytes, size) in
    ap₂ (λ first others. first ∷ others)
    (value_at-bytes column.domain value (front ++ (bytes ++ later)) (length front) fits.0 here)
    (ap₂ (values_from columns) end split ∙ values_from-bytes columns row (front ++ bytes) fits.1)

pub values_in-row_bytes : (columns : List Column) (row : List Value) → AllFit columns row
    → values_in columns (row_bytes columns row) ≡ row
values_in-row_bytes columns row fits = values_from-bytes columns row [] fits
