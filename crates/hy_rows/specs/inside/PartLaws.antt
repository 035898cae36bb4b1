-- What some bytes of a row say by themselves.
use Rattle.std.proofs.Common.{◌≡◌, ℕ, pos, ◌+◌, ◌-◌, ◌≤◌, List, [], ◌∷◌, length, drop, take, lit≤, refl, sym, ap, ap₂, ◌∙◌, arith}
use Rattle.std.specs.Int.{w64, cast_signed}
use Rattle.std.proofs.lemmas.List.{drop-drop, drop-take, take-take}
use Rattle.hy_page.specs.Bytes.{bytes_at, number_of}
use Rattle.hy_rows.specs.Columns.{Column, Domain, OneOf, Signed, Text, Unsigned, row_width, value_at, values_from, width_of}
use Rattle.hy_rows.specs.RowParts.{account_columns, account_in, account_of, account_with, discount_columns, discount_in, discount_of, identity_columns, identity_in, identity_of, identity_with, number_columns, number_in, number_of_customer}
use Rattle.hy_rows.specs.Rows.{customer_of, number_of as number_at}
use Rattle.hy_rows.specs.Texts.{text_of}
use Rattle.hy_rows.specs.declared.value.Value.TheVariants as values

-- a value is that of its bytes
pub value_at-same : (domain : Domain) (one other : List ℕ) (at there : ℕ) → bytes_at one at (width_of domain) ≡ bytes_at other there (width_of domain)
    → value_at domain one at ≡ value_at domain other there
value_at-same (Unsigned width low high) one other at there same = ap (λ bytes. values.Whole (pos (number_of bytes))) same
value_at-same (Signed low high) one other at there same = ap (λ bytes. values.Whole (cast_signed w64 (number_of bytes))) same
value_at-same (Text width) one other at there same = ap (λ bytes. values.Text (text_of bytes)) same
value_at-same (OneOf width words) one other at there same = ap (λ bytes. values.Text (text_of bytes)) same

-- what some bytes of a row say, by themselves
pub values_from-part : (columns : List Column) (bytes : List ℕ) (start count offset from : ℕ) → offset + row_width columns ≤ count → start + offset ≡ from
    → values_from columns from bytes ≡ values_from columns offset (bytes_at bytes start count)
values_from-part [] bytes start count offset from within at = refl
values_from-part (column ∷ columns) bytes start count offset from within at =
    let width : ℕ = width_of column.domain in
    ap₂ (λ value others. value ∷ others)
    (value_at-same column.domain bytes (bytes_at bytes start count) from offset (sym (bytes_at-part bytes start count offset from width (omega (arith, within)) at)))
    (values_from-part columns bytes start count (offset + width) (from + width) (omega (arith, within)) (omega (arith, at)))
  where
    bytes_at-part : (bytes : List ℕ) (start count offset from width : ℕ) → offset + width ≤ count → start + offset ≡ from
        → bytes_at (bytes_at bytes start count) offset width ≡ bytes_at bytes from width
    bytes_at-part bytes start count offset from width within at =
        ap (λ size. take width (drop offset (take size (drop start bytes)))) (let all : count ≡ offset + (count - offset) = omega (arith, within) in all)
        ∙ ap (take width) (drop-take offset (count - offset) (drop start bytes)) ∙ take-take width (count - offset) (drop offset (drop start bytes)) (omega (arith, within))
        ∙ ap (take width) (drop-drop offset start bytes ∙ ap (λ place. drop place bytes) at)

-- ---- the parts of a customer

pub account_said : (row : List ℕ) → length row ≡ 574 → account_of (customer_of row) ≡ account_in (bytes_at row 38 36)
account_said row size = ap account_with (values_from-part account_columns row 38 36 0 38 (lit≤ tt) refl)

pub identity_said : (row : List ℕ) → length row ≡ 574 → identity_of (customer_of row) ≡ identity_in (bytes_at row 0 38)
identity_said row size = ap identity_with (values_from-part identity_columns row 0 38 0 0 (lit≤ tt) refl)

pub number_said : (row : List ℕ) → length row ≡ 574 → number_of_customer (customer_of row) ≡ number_in (bytes_at row 0 2)
number_said row size =
    ap (λ values. record { number = number_at values 0 }) (values_from-part number_columns row 0 2 0 0 (lit≤ tt) refl)

pub discount_said : (row : List ℕ) → length row ≡ 574 → discount_of (customer_of row) ≡ discount_in (bytes_at row 40 2)
discount_said row size =
    ap (λ values. record { discount = number_at values 0 }) (values_from-part discount_columns row 40 2 0 40 (lit≤ tt) refl)
