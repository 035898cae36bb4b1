-- What a result tells of one that is made of it.
use Rattle.std.proofs.Common.{◌≡◌, Result, Ok, Err, sym, subst}
use Rattle.std.specs.Prelude.{IfErr, IfOk, IsErrAnd, OnOk}

pub ok-then : {Value Error : Type 0} (result : Result Value Error) (Given : Value → Type 0) (Wanted : Type 0)
    → IfOk result Given → ((value : Value) → Given value → Wanted) → OnOk result Wanted
ok-then (Ok value) Given Wanted given leads = leads value given
ok-then (Err error) Given Wanted given leads = tt

pub ok-gives : {Value Error : Type 0} (result : Result Value Error) (Given Wanted : Value → Type 0) → IfOk result Given
    → ((value : Value) → Given value → Wanted value) → IfOk result Wanted
ok-gives (Ok value) Given Wanted given leads = leads value given
ok-gives (Err error) Given Wanted given leads = tt

pub err-gives : {Value Error : Type 0} (result : Result Value Error) (Given Wanted : Error → Type 0) → IfErr result Given
    → ((error : Error) → Given error → Wanted error) → IfErr result Wanted
err-gives (Ok value) Given Wanted given leads = tt
err-gives (Err error) Given Wanted given leads = leads error given

-- what holds of an error, of the answer that has it
pub this-error : {Value Error : Type 0} (answer : Result Value Error) (value : Error) (Wanted : Error → Type 0)
    → IsErrAnd answer (λ error. error ≡ value) → Wanted value → IfErr answer Wanted
this-error (Ok found) value Wanted is wanted = tt
this-error (Err error) value Wanted is wanted = subst Wanted (sym is) wanted
