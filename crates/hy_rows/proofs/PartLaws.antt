-- Some columns of a row, one behind another: where they are written anew, the others say what they said.
use Rattle.std.proofs.Common.{◌≡◌, ℕ, ◌+◌, ◌≤◌, List, [], ◌∷◌, ◌++◌, length, drop, take, refl, sym, ap, ap₂, ◌∙◌, arith, length-append}
use Rattle.std.proofs.lemmas.List.{drop-append-le, length-drop, length-take-le, take-append-le}
use Rattle.hy_page.specs.Bytes.{bytes_at, overwritten}
use Rattle.hy_page.proofs.ByteLaws.{bytes_at-overwritten_before, bytes_at-overwritten_behind}
use Rattle.hy_rows.specs.Columns.{AllFit, Column, row_bytes, row_width, value_at, values_from, values_in, width_of}
use Rattle.hy_rows.specs.declared.value.Value.{Value}
use Rattle.hy_rows.specs.inside.PartLaws.{value_at-same}
use Rattle.hy_rows.proofs.RowLaws.{length-row_bytes, values_from-bytes}

-- the values of some columns, and of those behind them
pub values_from-append : (columns more : List Column) (offset : ℕ) (bytes : List ℕ)
    → values_from (columns ++ more) offset bytes ≡ values_from columns offset bytes ++ values_from more (offset + row_width columns) bytes
values_from-append [] more offset bytes = ap (λ at. values_from more at bytes) (let same : offset ≡ offset + 0 = omega arith in same)
values_from-append (column ∷ columns) more offset bytes =
    let next : offset + width_of column.domain + row_width columns ≡ offset + (width_of column.domain + row_width columns) = omega arith in
    ap (λ others. value_at column.domain bytes offset ∷ others)
    (values_from-append columns more (offset + width_of column.domain) bytes
    ∙ ap (λ at. values_from columns (offset + width_of column.domain) bytes ++ values_from more at bytes) next)

module _ (bytes part : List ℕ) (start : ℕ) (within : start + length part ≤ length bytes) where
  -- the columns before what is written
  pub values_from-before : (columns : List Column) (offset : ℕ) → offset + row_width columns ≤ start
      → values_from columns offset (overwritten bytes start part) ≡ values_from columns offset bytes
  values_from-before [] offset before = refl
  values_from-before (column ∷ columns) offset before =
      ap₂ (λ value others. value ∷ others)
      (value_at-same column.domain (overwritten bytes start part) bytes offset offset
      (bytes_at-overwritten_before bytes start part offset (width_of column.domain) (omega (arith, within)) (omega (arith, before))))
      (values_from-before columns (offset + width_of column.domain) (omega (arith, before)))

  -- and those behind it
  pub values_from-behind : (columns : List Column) (offset : ℕ) → start + length part ≤ offset
      → values_from columns offset (overwritten bytes start part) ≡ values_from columns offset bytes
  values_from-behind [] offset behind = refl
  values_from-behind (column ∷ columns) offset behind =
      ap₂ (λ value others. value ∷ others)
      (value_at-same column.domain (overwritten bytes start part) bytes offset offset
      (bytes_at-overwritten_behind bytes start part offset (width_of column.domain) within behind))
      (values_from-behind columns (offset + width_of column.domain) (omega (arith, behind)))

-- columns say the same whatever stands behind them
values_from-within : (columns : List Column) (offset : ℕ) (bytes rest : List ℕ) → offset + row_width columns ≤ length bytes
    → values_from columns offset (bytes ++ rest) ≡ values_from columns offset bytes
values_from-within [] offset bytes rest within = refl
values_from-within (column ∷ columns) offset bytes rest within =
    let width : ℕ = width_of column.domain in
    let here : bytes_at (bytes ++ rest) offset width ≡ bytes_at bytes offset width =
    ap (take width) (drop-append-le offset bytes rest (omega (arith, within)))
    ∙ take-append-le width (drop offset bytes) rest (omega (arith, within, length-drop offset bytes)) in
    ap₂ (λ value others. value ∷ others) (value_at-same column.domain (bytes ++ rest) bytes offset offset here)
    (values_from-within columns (offset + width) bytes rest (omega (arith, within)))

-- what is written says the values that it is made of
values_from-written : (columns : List Column) (row : List Value) (bytes : List ℕ) (start : ℕ) → AllFit columns row
    → start ≤ length bytes → values_from columns start (overwritten bytes start (row_bytes columns row)) ≡ row
values_from-written columns row bytes start fits within =
    let front : List ℕ = take start bytes in
    let part : List ℕ = row_bytes columns row in
    let size : length front ≡ start = length-take-le start bytes within in
    let wide : start + row_width columns ≤ length (front ++ part) = omega (arith, length-append front part, size, length-row_bytes columns row fits) in
    values_from-within columns start (front ++ part) (drop (start + length part) bytes) wide
    ∙ ap (λ at. values_from columns at (front ++ part)) (sym size)
    ∙ values_from-bytes columns row front fits

-- a row with some of its columns written anew: those before and behind them are as they were
pub values_in-part : (front columns back : List Column) (row : List Value) (bytes : List ℕ) → AllFit columns row
    → row_width front + row_width columns ≤ length bytes
    → values_in (front ++ (columns ++ back)) (overwritten bytes (row_width front) (row_bytes columns row))
    ≡ values_from front 0 bytes ++ (row ++ values_from back (row_width front + row_width columns) bytes)
values_in-part front columns back row bytes fits within =
    let start : ℕ = row_width front in
    let part : List ℕ = row_bytes columns row in
    let now : List ℕ = overwritten bytes start part in
    let size : length part ≡ row_width columns = length-row_bytes columns row fits in
    let zero : 0 + start ≡ start = omega arith in
    values_from-append front (columns ++ back) 0 now
    ∙ ap (λ at. values_from front 0 now ++ values_from (columns ++ back) at now) zero
    ∙ ap₂ (λ one other. one ++ other) (values_from-before bytes part start (omega (arith, size, within)) front 0 (omega arith))
    (values_from-append columns back start now
    ∙ ap₂ (λ one other. one ++ other) (values_from-written columns row bytes start fits (omega (arith, within)))
    (values_from-behind bytes part start (omega (arith, size, within)) back (start + row_width columns) (omega (arith, size))))
