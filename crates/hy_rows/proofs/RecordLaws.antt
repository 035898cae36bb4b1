-- Values that are taken one after another.
use Rattle.std.proofs.Common.{◌≡◌, Result, Ok, Err, OnOk, ap, ◌∙◌}
use Rattle.hy_rows.specs.Columns.{Column}
use Rattle.hy_rows.specs.declared.value.Value.{Value}

-- a value behind others
pub and_then : {State : Type 0} (after : State → Column → Value → State) {column : Column} {value : Value}
    → {from now next : State} → next ≡ after now column value → now ≡ from → next ≡ after from column value
and_then after {column = column} {value = value} one others = one ∙ ap (λ state. after state column value) others

-- a value that is known as another one
pub and_known : {State : Type 0} (after : State → Column → Value → State) {column : Column} {value known : Value}
    → {from now next : State} → next ≡ after now column value → value ≡ known → now ≡ from
    → next ≡ after from column known
and_known after {column = column} {from = from} one same others =
    and_then after one others ∙ ap (after from column) same

-- the last one
pub at_last : {State Taken Refused : Type 0} (after : State → Column → Value → State) (column : Column) (value : Value)
    → (from now next : State) (result : Result Taken Refused) → OnOk result (next ≡ after now column value)
    → now ≡ from → OnOk result (next ≡ after from column value)
at_last after column value from now next (Ok taken) one others = and_then after one others
at_last after column value from now next (Err refused) one others = one

-- the last one, where its value is known as another one
pub at_last_known : {State Taken Refused : Type 0} (after : State → Column → Value → State) (column : Column) (value known : Value)
    → (from now next : State) (result : Result Taken Refused) → OnOk result (next ≡ after now column value)
    → value ≡ known → now ≡ from → OnOk result (next ≡ after from column known)
at_last_known after column value known from now next (Ok taken) one same others = and_known after one same others
at_last_known after column value known from now next (Err refused) one same others = one
