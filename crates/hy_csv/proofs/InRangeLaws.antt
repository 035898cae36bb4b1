-- A row whose values a load may have is one that a record can say.
use Rattle.std.proofs.Common.{◌≡◌, ◌&&◌, ◌≤ℤ◌, ◌*◌, ◌^◌, ℕ, ℤ, pos, negsuc, true, List, [], ◌∷◌, length, IsTrue, arith, inl, inr, subst, w64, FitsSigned}
use Rattle.std.specs.List.{list_all}
use Rattle.std.specs.Prelude.{bytes_eq, nat_le}
use Rattle.std.proofs.lemmas.Bool.{and_parts, cases_Bool, false≢true, leb-true, ltb-true}
use Rattle.std.proofs.lemmas.Int.{ints}
use Rattle.std.proofs.lemmas.Slice.Eq.{bytes_eq-Decides}
use Rattle.hy_rows.specs.Catalogue.{columns_of}
use Rattle.hy_rows.specs.Columns.{Column, Domain, OneOf, Signed, Text, Unsigned, allows, are_allowed, is_printable}
use Rattle.hy_rows.specs.Ranges.{IsLoadedText}
use Rattle.hy_rows.specs.declared.catalogue.Table.{Table}
use Rattle.hy_rows.specs.declared.value.Value.{Value}
use Rattle.hy_rows.specs.declared.value.Value.TheVariants as values
use Rattle.hy_rows.proofs.RangeLaws.{amount-bounds, text-loaded}
use Rattle.hy_csv.specs.Fields.{AllFitFields, FitsField, is_signed}
use Rattle.hy_csv.proofs.TableLaws.{columns-bounded, is_bounded}

-- a number between two of 64 bits
signed_fits : (low high number : ℤ) → is_signed low ≡ true → is_signed high ≡ true → low ≤ℤ number → number ≤ℤ high
    → FitsSigned w64 number
signed_fits low (pos high) (pos number) first last above below =
    record { sfits = omega (arith, ints, below, ltb-true high (2 ^ 63) last) }
signed_fits low (negsuc high) (pos number) first last above below = absurd (omega (arith, ints, below))
signed_fits (pos low) high (negsuc number) first last above below = absurd (omega (arith, ints, above))
signed_fits (negsuc low) high (negsuc number) first last above below =
    record { sfits = omega (arith, ints, above, ltb-true low (2 ^ 63) first) }

-- a text that is one of these
word_fits : (width : ℕ) (words : List (List ℕ)) (text : List ℕ)
    → list_all (λ word. nat_le (length word) width && is_printable word) words ≡ true
    → IsTrue (allows (OneOf width words) (values.Text text)) → IsLoadedText width text
word_fits width [] text all one = absurd (false≢true one)
word_fits width (word ∷ words) text all one =
    let parts = and_parts (nat_le (length word) width && is_printable word) _ all in
    elim (cases_Bool (bytes_eq word text)) [
      | inl same ↦
          subst (λ text. IsLoadedText width text) ((bytes_eq-Decides word text).0 same) (text-loaded width word parts.0)
      | inr other ↦ word_fits width words text parts.1 (rw other at one)
    ]

-- a value that a load may have
value-fits : (domain : Domain) (value : Value) → is_bounded domain ≡ true → IsTrue (allows domain value)
    → FitsField domain value
value-fits (Unsigned width low high) (values.Whole (pos number)) bounded allowed =
    let within = leb-true number high (and_parts (nat_le low number) (nat_le number high) allowed).1 in
    omega (arith, within, ltb-true high (2 ^ (8 * width)) bounded)
value-fits (Unsigned width low high) (values.Whole (negsuc number)) bounded allowed = absurd (false≢true allowed)
value-fits (Unsigned width low high) (values.Text text) bounded allowed = absurd (false≢true allowed)
value-fits (Signed low high) (values.Whole number) bounded allowed =
    let ends = and_parts (is_signed low) (is_signed high) bounded in
    let within = amount-bounds low high number allowed in
    signed_fits low high number ends.0 ends.1 within.0 within.1
value-fits (Signed low high) (values.Text text) bounded allowed = absurd (false≢true allowed)
value-fits (Text width) (values.Whole number) bounded allowed = absurd (false≢true allowed)
value-fits (Text width) (values.Text text) bounded allowed = text-loaded width text allowed
value-fits (OneOf width words) (values.Whole number) bounded allowed = absurd (false≢true allowed)
value-fits (OneOf width words) (values.Text text) bounded allowed = word_fits width words text bounded allowed

values-fit : (columns : List Column) (row : List Value) → list_all (λ column. is_bounded column.domain) columns ≡ true
    → IsTrue (are_allowed columns row) → AllFitFields columns row
values-fit [] [] bounded allowed = tt
values-fit [] (value ∷ row) bounded allowed = absurd (false≢true allowed)
values-fit (column ∷ columns) [] bounded allowed = absurd (false≢true allowed)
values-fit (column ∷ columns) (value ∷ row) bounded allowed =
    let ends = and_parts (is_bounded column.domain) (list_all (λ column. is_bounded column.domain) columns) bounded in
    let tests = and_parts (allows column.domain value) (are_allowed columns row) allowed in
    (value-fits column.domain value ends.0 tests.0, values-fit columns row ends.1 tests.1)

-- the same of a row of a table
pub row-fits : (table : Table) (row : List Value) → IsTrue (are_allowed (columns_of table) row)
    → AllFitFields (columns_of table) row
row-fits table row allowed = values-fit (columns_of table) row (columns-bounded table) allowed
