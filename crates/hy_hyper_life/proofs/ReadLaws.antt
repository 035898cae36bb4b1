-- Why no load and no log are read.
use Rattle.std.proofs.Common.{ℕ, List, Option, inl}
use Rattle.hy_files.specs.Files.{FilesByPath}
use Rattle.hy_hyper_life.specs.declared.fault.LifeFault.{LifeFault}
use Rattle.hy_hyper_life.specs.declared.fault.LifeFault.TheVariants as faults
use Rattle.hy_hyper_life.specs.Faults.{HasNine, IsLogUnread, IsReadFault}

-- the log can't be read, behind the nine files
pub log-unread : (files : Option FilesByPath) (directory path : List ℕ) (why : LifeFault) → HasNine files directory
    → IsLogUnread files path why → IsReadFault files directory path why
log-unread files directory path faults.CannotReadLog nine missing = (nine, missing)
log-unread files directory path (faults.Refused refusal) nine is = inl is
log-unread files directory path (faults.CannotRead table) nine is = absurd is
log-unread files directory path faults.CannotWriteLog nine is = absurd is
log-unread files directory path faults.CannotReadSums nine is = absurd is
log-unread files directory path faults.CannotWriteSums nine is = absurd is
log-unread files directory path faults.OtherLoad nine is = absurd is
log-unread files directory path (faults.Output error) nine is = absurd is
log-unread files directory path (faults.Input error) nine is = absurd is
