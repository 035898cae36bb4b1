use Rattle.std.proofs.Common.{◌≡◌, ◌∙◌, arith, List, All, length, refl, subst, sym}
use Rattle.hy_script.specs.Databases.{OpenSnapshot}
use Rattle.hy_script.specs.inside.Invariants.{IsTaken}
use Rattle.hy_script.proofs.DatabaseLaws.{served-rest}
use Rattle.hy_script.proofs.database.Database.over.Goals as goal

pub invariant_of-result : goal.invariant_of-result
invariant_of-result g c =
    let terminals = c.in_ok-terminals.terminals.items in
    let count : length terminals ≡ length c.args.partitions = c.in_ok-terminals.ensures.count ∙ c.len.ensures in
    record {
      served = served-rest c.args.max_frames c.args.partitions terminals c.requires.rest count
          c.in_ok-terminals.ensures.ready;
      taken = subst (λ (all : List OpenSnapshot). All (IsTaken g.K.World.passes g.K.Loaded.load) all)
          (sym c.new.ensures.items) (λ k d within. absurd (omega (arith, within)));
      pass_is = refl;
    }
