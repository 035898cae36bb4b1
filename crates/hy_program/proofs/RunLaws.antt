-- Why a command line isn't done, and what was printed then.
use Rattle.std.proofs.Common.{ℕ, List, Option, inl, inr}
use Rattle.std.specs.Option.{option_copied}
use Rattle.hy_cli.specs.declared.words.Line.{Line}
use Rattle.hy_cli.specs.declared.words.Line.TheVariants as line
use Rattle.hy_program.specs.declared.fault.RunFault.{RunFault}
use Rattle.hy_program.specs.declared.fault.RunFault.TheVariants as fault
use Rattle.hy_program.specs.Runs.{AreRefused, AreUndone, BothPaths, IsFaultOf, KnownBytes, KnownFiles}
use Rattle.hy_program.proofs.AskLaws.{query_weaker}
use Rattle.hy_program.specs.Serve.{terms_of}
use Rattle.hy_program.proofs.CheckLaws.{check_weaker}
use Rattle.hy_program.proofs.ServeLaws.{serve_weaker}

-- where less is said of what wasn't printed, less holds
module _ (files : KnownFiles) (unwritten : BothPaths) (coming : Option (List ℕ)) (bytes : KnownBytes) (Unprinted Other : Type 0) (leads : Unprinted → Other) where
  fault_weaker : (line : Line) (why : RunFault)
      → IsFaultOf line files unwritten coming bytes Unprinted why → IsFaultOf line files unwritten coming bytes Other why
  fault_weaker (line.First amount) (fault.Refused refusal) is = (is.0, leads is.1)
  fault_weaker (line.First amount) (fault.Writer error) is = is
  fault_weaker (line.First amount) (fault.CannotRead path) is = absurd (is)
  fault_weaker (line.First amount) (fault.CannotWrite path) is = absurd (is)
  fault_weaker (line.First amount) (fault.CannotReadFile path) is = absurd (is)
  fault_weaker (line.First amount) (fault.CannotWriteFile path) is = absurd (is)
  fault_weaker (line.First amount) (fault.BadEvent number) is = absurd (is)
  fault_weaker (line.First amount) (fault.Serve served) is = absurd (is)
  fault_weaker (line.Generate directory warehouses customers items) (fault.Refused refusal) is = (is.0, leads is.1)
  fault_weaker (line.Generate directory warehouses customers items) (fault.Writer error) is = is
  fault_weaker (line.Generate directory warehouses customers items) (fault.CannotRead path) is = (is.0, is.1, leads is.2)
  fault_weaker (line.Generate directory warehouses customers items) (fault.CannotWrite path) is = (is.0, is.1, leads is.2)
  fault_weaker (line.Generate directory warehouses customers items) (fault.CannotReadFile path) is = absurd (is.0)
  fault_weaker (line.Generate directory warehouses customers items) (fault.CannotWriteFile path) is = absurd (is.0)
  fault_weaker (line.Generate directory warehouses customers items) (fault.BadEvent number) is = absurd (is.0)
  fault_weaker (line.Generate directory warehouses customers items) (fault.Serve served) is = absurd (is.0)
  fault_weaker (line.Check directory log) why is =
      check_weaker directory.now files.0 Unprinted Other leads (option_copied log) why is
  fault_weaker (line.Script directory file frames kept) (fault.Refused refusal) is = (is.0, leads is.1)
  fault_weaker (line.Script directory file frames kept) (fault.Writer error) is = is
  fault_weaker (line.Script directory file frames kept) (fault.CannotRead path) is = (is.0, leads is.1)
  fault_weaker (line.Script directory file frames kept) (fault.CannotWrite path) is = absurd (is.0)
  fault_weaker (line.Script directory file frames kept) (fault.CannotReadFile path) is = (is.0, leads is.1)
  fault_weaker (line.Script directory file frames kept) (fault.CannotWriteFile path) is = absurd (is.0)
  fault_weaker (line.Script directory file frames kept) (fault.BadEvent number) is = is
  fault_weaker (line.Script directory file frames kept) (fault.Serve served) is = absurd (is.0)
  fault_weaker (line.Serve directory log frames kept is_numbered) why is =
      serve_weaker directory.now log.now (terms_of frames kept is_numbered) files unwritten coming bytes Unprinted Other leads
      why is
  fault_weaker (line.Query directory text log) why is =
      query_weaker directory.now text.now files.0 Unprinted Other leads (option_copied log) why is
  fault_weaker (line.Storm directory terminals sessions commands log) (fault.Refused refusal) (inl is) = inl (is.0, leads is.1)
  fault_weaker (line.Storm directory terminals sessions commands log) (fault.Refused refusal) (inr (lists, load, inl unprinted)) =
      inr (lists, load, inl (leads unprinted))
  fault_weaker (line.Storm directory terminals sessions commands log) (fault.Refused refusal) (inr (lists, load, inr printed)) =
      inr (lists, load, inr printed)
  fault_weaker (line.Storm directory terminals sessions commands log) (fault.Writer error) is = is
  fault_weaker (line.Storm directory terminals sessions commands log) (fault.CannotRead path) is = (is.0, leads is.1)
  fault_weaker (line.Storm directory terminals sessions commands log) (fault.CannotWrite path) is = (is.0, leads is.1)
  fault_weaker (line.Storm directory terminals sessions commands log) (fault.CannotReadFile path) is = absurd (is.0)
  fault_weaker (line.Storm directory terminals sessions commands log) (fault.CannotWriteFile path) is = (is.0, is.1, is.2, leads is.3)
  fault_weaker (line.Storm directory terminals sessions commands log) (fault.BadEvent number) is = absurd (is.0)
  fault_weaker (line.Storm directory terminals sessions commands log) (fault.Serve served) is = absurd (is.0)
  fault_weaker (line.Recover directory log out) (fault.Refused refusal) (inl is) = inl (is.0, is.1, leads is.2)
  fault_weaker (line.Recover directory log out) (fault.Refused refusal) (inr is) = inr is
  fault_weaker (line.Recover directory log out) (fault.Writer error) is = is
  fault_weaker (line.Recover directory log out) (fault.CannotRead path) is = (is.0, is.1, leads is.2)
  fault_weaker (line.Recover directory log out) (fault.CannotReadFile path) is = (is.0, is.1, leads is.2)
  fault_weaker (line.Recover directory log out) (fault.CannotWrite path) is = is
  fault_weaker (line.Recover directory log out) (fault.CannotWriteFile path) is = absurd (is.0)
  fault_weaker (line.Recover directory log out) (fault.BadEvent number) is = absurd (is.0)
  fault_weaker (line.Recover directory log out) (fault.Serve served) is = absurd (is.0)

  undone_weaker : (words : List (List ℕ)) (why : RunFault) → AreUndone words files unwritten coming bytes Unprinted why
      → AreUndone words files unwritten coming bytes Other why
  undone_weaker words why (inl memory) = inl (memory.0, memory.1, leads memory.2)
  undone_weaker words why (inr is) = inr (is.0, is.1, is.2, fault_weaker is.0 why is.3)

  pub refused_weaker : (words : List (List ℕ)) (second : KnownBytes)
      → AreRefused words files unwritten coming bytes Unprinted second → AreRefused words files unwritten coming bytes Other second
  refused_weaker words second refused = (refused.0, undone_weaker words refused.0 refused.1, refused.2)
