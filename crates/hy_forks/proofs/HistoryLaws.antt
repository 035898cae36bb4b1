-- The kept lists of all partitions, beside the serial list.
use Rattle.std.proofs.Common.{◌≡◌, ◌∙◌, ◌≤◌, ◌<◌, ℕ, zero, suc, List, length, ap, arith, subst, sym}
use Rattle.std.specs.Prelude.{IfSome, Option, slice_get}
use Rattle.std.specs.List.{AllPairs, filter_map}
use Rattle.hy_commands.specs.declared.command.Commit.{Commit}
use Rattle.hy_commands.specs.Commands.{number_of, warehouses_of_commit}
use Rattle.hy_passes.specs.Agreement.{Agree, IsWarehouse, Stands}
use Rattle.hy_passes.specs.SerialList.{IsSerial}
use Rattle.hy_crossing.specs.of_partition.Jobs.{Log}
use Rattle.hy_crossing.specs.of_partition.Partition.{PartitionState, projection_of}
use Rattle.hy_forks.specs.Histories.{IsOneHistory, kept_at, kept_in}
use Rattle.hy_crossing.proofs.PlaceLaws.{get-some}

module _ (partitions : ℕ) (log : Log) (parts : List PartitionState)
    (serial : IsSerial warehouses_of_commit number_of partitions log)
    (whole : Agree warehouses_of_commit number_of partitions (λ w. projection_of w log))
    (within : length parts ≤ partitions)
    (kept : (place : ℕ) → IfSome (slice_get parts place) (λ p. p.kept ≡ projection_of (suc place) log)) where
  -- the kept list of a warehouse that is there
  here : (w : ℕ) → IsWarehouse (length parts) w → kept_at parts w ≡ projection_of w log
  here zero is = absurd (omega (arith, is.0))
  here (suc place) is =
      let found = get-some parts place (omega (arith, is.1)) in
      ap kept_in found.1 ∙ subst (λ (p : Option PartitionState). IfSome p (λ p. p.kept ≡ projection_of (suc place) log))
      found.1 (kept place)

  wide : (w : ℕ) → IsWarehouse (length parts) w → IsWarehouse partitions w
  wide w is = (is.0, omega (arith, is.1, within))

  pub one-history : IsOneHistory partitions log parts
  one-history = record {
    serial = serial;
    kept = kept;
    agree = record {
      rising = λ w is. subst (λ (commits : List Commit). AllPairs (λ a b. a < b) (filter_map number_of commits))
          (sym (here w is)) (whole.rising w (wide w is));
      everywhere = λ v w commit n first second stands number_is named.
          subst (λ (commits : List Commit). Stands commit commits) (sym (here w second))
          (whole.everywhere v w commit n (wide v first) (wide w second)
          (subst (λ (commits : List Commit). Stands commit commits) (here v first) stands) number_is named);
      nowhere_else = λ v w commit other n first second stands number_is others other_number_is.
          whole.nowhere_else v w commit other n (wide v first) (wide w second)
          (subst (λ (commits : List Commit). Stands commit commits) (here v first) stands) number_is
          (subst (λ (commits : List Commit). Stands other commits) (here w second) others) other_number_is;
    };
  }
