-- Why `serve` isn't done, in the words of a command line. What it does is said by hy_hyper_life.
use Rattle.std.specs.Prelude.{◌≡◌, ℕ, List, Bool, Option, if◌then◌else◌}
use Rattle.hy_files.specs.Files.{FilesByPath, KnownPaths}
use Rattle.hy_hyper_answers.specs.declared.answers.Style.TheVariants as styles
use Rattle.hy_hyper_life.specs.declared.fault.LifeFault.{LifeFault}
use Rattle.hy_hyper_life.specs.declared.fault.LifeFault.TheVariants as lives
use Rattle.hy_hyper_life.specs.declared.serving.Terms.{Terms}
use Rattle.hy_hyper_life.specs.Served.{IsServeFault}
use Rattle.hy_program.specs.declared.fault.RunFault.{RunFault}
use Rattle.hy_program.specs.declared.fault.RunFault.TheVariants as fault
use Rattle.hy_program.specs.declared.fault.ServeFault.TheVariants as serves

-- what `serve` is given
abbrev pub terms_of : ℕ → ℕ → Bool → Terms
terms_of frames kept is_numbered = record {
  frames = frames;
  kept = kept;
  style = if is_numbered then styles.Numbered else styles.Plain;
}

-- what a fault of a service over a folder and a log is for a command line
abbrev pub IsAboutLife : List ℕ → List ℕ → LifeFault → RunFault → Type 0
IsAboutLife directory log (lives.Refused refusal) made = made ≡ fault.Refused refusal
IsAboutLife directory log (lives.CannotRead table) (fault.CannotRead path) =
    (path.directory.now ≡ directory) × (path.table ≡ table)
IsAboutLife directory log lives.CannotReadLog (fault.CannotReadFile path) = path.now ≡ log
IsAboutLife directory log lives.CannotWriteLog (fault.CannotWriteFile path) = path.now ≡ log
IsAboutLife directory log lives.CannotReadSums (fault.Serve (serves.CannotReadSums path)) = path.now ≡ log
IsAboutLife directory log lives.CannotWriteSums (fault.Serve (serves.CannotWriteSums path)) = path.now ≡ log
IsAboutLife directory log lives.OtherLoad (fault.Serve (serves.OtherLoad path)) = path.now ≡ log
IsAboutLife directory log (lives.Output error) made = made ≡ fault.Writer error
IsAboutLife directory log (lives.Input error) made = made ≡ fault.Serve (serves.Input error)
IsAboutLife directory log found made = ⊥

-- a service wasn't served to its end, for a reason that is this one for a command line
abbrev pub IsServeFaultOf : List ℕ → List ℕ → Terms → Option FilesByPath × Option FilesByPath → KnownPaths × KnownPaths
    → Option (List ℕ) → Option (List ℕ) × Option (List ℕ) → Type 0 → RunFault → Type 0
IsServeFaultOf directory log terms files unwritten coming bytes unprinted why =
    (found : LifeFault) × (has_failed : Bool) × IsAboutLife directory log found why
    × IsServeFault directory log terms files unwritten coming bytes has_failed unprinted found
