-- Where less is said of what a service didn't print, less holds.
use Rattle.std.proofs.Common.{ℕ, List, Bool, Option}
use Rattle.hy_rows.specs.Tables.{Lists}
use Rattle.hy_batches.specs.Batches.{Batch}
use Rattle.hy_files.specs.Files.{FilesByPath, KnownPaths}
use Rattle.hy_hyper_input.specs.Inputs.{InputState}
use Rattle.hy_hyper_life.specs.declared.fault.LifeFault.{LifeFault}
use Rattle.hy_hyper_life.specs.declared.serving.Terms.{Terms}
use Rattle.hy_hyper_life.specs.Served.{IsServeFault, IsUnserved, IsUnservedFrom}
use Rattle.hy_hyper_life.specs.Served.IsServeFault.{unheld, unserved, untouched}
use Rattle.hy_hyper_life.specs.Served.IsUnserved.{behind, malformed, unread, unsure}
use Rattle.hy_hyper_life.specs.Served.IsUnservedFrom.{ended, unbegun, unopened}
use Rattle.hy_program.specs.declared.fault.RunFault.{RunFault}
use Rattle.hy_program.specs.Serve.{IsServeFaultOf}

module _ (terms : Terms) (unwritten : KnownPaths × KnownPaths) (outs : Option (List ℕ) × Option (List ℕ)) (has_failed : Bool)
    (Unprinted Other : Type 0) (leads : Unprinted → Other) (why : LifeFault) where
  from_weaker : (path beside sums : List ℕ) (lists : Lists) (batches : List Batch)
      (files : Option FilesByPath × Option FilesByPath) (inputs : InputState × InputState)
      → IsUnservedFrom path beside sums terms lists batches files unwritten inputs outs has_failed Unprinted why
      → IsUnservedFrom path beside sums terms lists batches files unwritten inputs outs has_failed Other why
  from_weaker path beside sums lists batches files inputs (unopened refusal is short same none) =
      unopened refusal is short same (leads none)
  from_weaker path beside sums lists batches files inputs (unbegun fault left none) = unbegun fault left (leads none)
  from_weaker path beside sums lists batches files inputs (ended start begins badly digests) =
      ended start begins badly digests

  held_weaker : (directory path : List ℕ) (files : Option FilesByPath × Option FilesByPath) (inputs : InputState × InputState)
      → IsUnserved directory path terms files unwritten inputs outs has_failed Unprinted why
      → IsUnserved directory path terms files unwritten inputs outs has_failed Other why
  held_weaker directory path files inputs (unread fault same none) = unread fault same (leads none)
  held_weaker directory path files inputs (unsure lists sums load fault same none) =
      unsure lists sums load fault same (leads none)
  held_weaker directory path files inputs (malformed lists sums load own bytes has refusal reads is same none) =
      malformed lists sums load own bytes has refusal reads is same (leads none)
  held_weaker directory path files inputs (behind lists sums load own batches log is) =
      behind lists sums load own batches log (from_weaker path _ sums lists batches files inputs is)

  life_weaker : (directory path : List ℕ) (files : Option FilesByPath × Option FilesByPath) (coming : Option (List ℕ))
      → IsServeFault directory path terms files unwritten coming outs has_failed Unprinted why
      → IsServeFault directory path terms files unwritten coming outs has_failed Other why
  life_weaker directory path files coming (untouched is same none) = untouched is same (leads none)
  life_weaker directory path files coming (unheld fault left none) = unheld fault left (leads none)
  life_weaker directory path files coming (unserved held holds after is) =
      unserved held holds after (held_weaker directory path _ _ is)

pub serve_weaker : (directory log : List ℕ) (terms : Terms) (files : Option FilesByPath × Option FilesByPath)
    (unwritten : KnownPaths × KnownPaths) (coming : Option (List ℕ)) (bytes : Option (List ℕ) × Option (List ℕ))
    (Unprinted Other : Type 0) → (Unprinted → Other) → (why : RunFault)
    → IsServeFaultOf directory log terms files unwritten coming bytes Unprinted why
    → IsServeFaultOf directory log terms files unwritten coming bytes Other why
serve_weaker directory log terms files unwritten coming bytes Unprinted Other leads why is = (
  is.0,
  is.1,
  is.2,
  life_weaker terms unwritten bytes is.1 Unprinted Other leads is.0 directory log files coming is.3,
)
