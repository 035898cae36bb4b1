-- Place by place.
use Rattle.hy_recovery.proofs.LoggedLaws.{recovered-same}
use Rattle.hy_recovery.proofs.logged.recovered_say_the_same.Goals as goal

pub returns : goal.returns
returns c = λ lists frames most batches log parts told recovered history numbers.
    recovered-same lists frames most batches log parts recovered history told numbers
