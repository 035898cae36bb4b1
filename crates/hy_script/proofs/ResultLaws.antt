-- What holds of a call that succeeded, and of one that didn't.
use Rattle.std.proofs.Common.{Result, Ok, Err, OnErr, OnOk}

pub on_ok : {A E P Q : Type 0} (result : Result A E) → OnOk result P → (P → Q) → OnOk result Q
on_ok (Ok value) holds then = then holds
on_ok (Err error) holds then = tt

pub on_err : {A E P : Type 0} (result : Result A E) → P → OnErr result P
on_err (Ok value) holds = tt
on_err (Err error) holds = holds
