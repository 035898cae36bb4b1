-- What was read is the same, told in other words.
use Rattle.std.proofs.Common.{◌≡◌, ℕ, pos, List, Result, Ok, Err, IfOk, Vec, Global, map, subst, sym, ◌∙◌}
use Rattle.std.specs.List.{flat_map}
use Rattle.hy_rows.specs.Columns.{number_at}
use Rattle.hy_rows.specs.declared.value.Value.{Value}
use Rattle.hy_rows.specs.declared.value.Value.TheVariants.{Whole}
use Rattle.hy_columns.specs.declared.block.Block.{Block}
use Rattle.hy_columns.specs.declared.fields.Segment.{Segment}
use Rattle.hy_columns.specs.declared.values.ColumnValues.{ColumnValues}
use Rattle.hy_columns.specs.Columns.{values_of}
use Rattle.hy_columns.specs.inside.Scans.{read_in}

pub values-same : {E : Type 0} (result : Result ColumnValues E) {read told : List Value} → read ≡ told
    → IfOk result (λ found. values_of found ≡ read) → IfOk result (λ found. values_of found ≡ told)
values-same (Ok found) same is = is ∙ same
values-same (Err error) same is = is

-- the numbers of some width in the rows of blocks
abbrev pub AreNumbers : {E : Type 0} → ℕ → Segment → ℕ → List (List (List (List ℕ))) → List Block
    → Result (Vec ℕ Global) E → ℕ → Type 0
AreNumbers n segment offset pages blocks result width = IfOk result (λ numbers.
    map (λ number. Whole (pos number)) numbers.items
    ≡ flat_map (read_in n segment (λ bytes. Whole (pos (number_at bytes offset width))) pages) blocks)

pub numbers-same : {E : Type 0} (n : ℕ) (segment : Segment) (offset : ℕ) (pages : List (List (List (List ℕ))))
    → (blocks : List Block) (result : Result (Vec ℕ Global) E) {width known : ℕ} → width ≡ known
    → AreNumbers n segment offset pages blocks result known → AreNumbers n segment offset pages blocks result width
numbers-same n segment offset pages blocks result same are =
    subst (AreNumbers n segment offset pages blocks result) (sym same) are
