-- A life begins with nothing, or with what was recovered.
use Rattle.std.proofs.Common.{◌≡◌, ℕ, suc, ◌+◌, ◌≤◌, true, List, [], ◌∷◌, length, map, Some, None, refl, sym, ap, ◌∙◌, subst, arith}
use Rattle.std.specs.Prelude.{IfSome, is_some, slice_get}
use Rattle.std.specs.Option.{option_map}
use Rattle.hy_rows.specs.Tables.{Lists}
use Rattle.hy_batches.specs.Batches.{Batch}
use Rattle.hy_batches.specs.Grammar.{are_batches}
use Rattle.hy_partition.specs.Jobs.{Log}
use Rattle.hy_partition.specs.Partition.{PartitionState, projection_of}
use Rattle.hy_partition.specs.Schedules.{IsTaken, underway}
use Rattle.hy_space.specs.Space.{child_bytes}
use Rattle.hy_forks.specs.Histories.{IsOneHistory}
use Rattle.hy_forks.proofs.LoggedLaws.{nothing-same}
use Rattle.hy_recovery.specs.Recovering.{AreRecovered, GoesOn, IsRecovered, joined}
use Rattle.hy_recovery.proofs.LoggedLaws.{recovered-same}
use Rattle.hy_schedules.specs.Schedules.{ArePlacesOf, IsPlaceOf, IsWholeOf, Place, Whole, fresh_place, fresh_whole, rested_place, rested_places, rested_whole}
use Rattle.hy_durability.specs.Durability.{BeginsLife}

-- ---- the first one

fresh-rests : {Row : Type 0} (number : ℕ) (rows : List Row)
    → map (λ row. fresh_place) rows ≡ rested_places [] number rows
fresh-rests number [] = refl
fresh-rests number (row ∷ rows) = ap (λ (places : List Place). fresh_place ∷ places) (fresh-rests (suc number) rows)

pub begins-fresh : (lists : Lists) → BeginsLife lists [] (fresh_whole lists)
begins-fresh lists = record {
  log = [];
  known = λ client. 0;
  within = λ client. omega arith;
  same = nothing-same lists;
  rests = ap (λ (places : List Place). record { load = lists; log = []; known = λ client. 0; places = places })
      (fresh-rests 1 lists.tables.warehouses);
}

-- ---- a later one

module _ (lists : Lists) (frames most : ℕ) (batches : List Batch) (parts : List PartitionState) (log : Log)
    (recovered : AreRecovered lists frames most batches parts)
    (history : IsOneHistory (length lists.tables.warehouses) log parts) where
  module _ (n : ℕ) (known : ℕ → ℕ) where
    abbrev whole : Whole
    whole = rested_whole lists log known

    place-rests : (number : ℕ) (p : PartitionState) (commits : List Batch) (place : ℕ)
        → IsRecovered lists frames most (joined commits place) number p → p.kept ≡ projection_of number log
        → IsPlaceOf n log whole number p (rested_place (projection_of number log))
    place-rests number p commits place is kept = record {
      load = sym (ap (λ t. t.load) is.terms);
      warehouse = sym (ap (λ t. t.warehouse) is.terms);
      log_is = refl;
      kept = sym kept;
      running = sym (ap (option_map underway) is.running);
      waits = sym (ap is_some is.finished);
      snapshots = λ child.
          subst (λ count. IsTaken n count (child_bytes p.space child) None) (sym (is.snapshots child)) refl;
    }

    places-rest : {Row : Type 0} (rows : List Row) (number before : ℕ) (some : List PartitionState) → number ≡ suc before
        → length some ≡ length rows
        → ((place : ℕ) → IfSome (slice_get some place) (λ p.
        IsRecovered lists frames most (joined batches (before + place)) (number + place) p
        × (p.kept ≡ projection_of (number + place) log)))
        → ArePlacesOf n log whole number some (rested_places log number rows)
    places-rest [] number before [] next count each = tt
    places-rest (row ∷ rows) number before (p ∷ some) next count each =
        let first : number + 0 ≡ number = omega arith in
        let here = each 0 in (
          place-rests number p batches (before + 0)
              (subst (λ k. IsRecovered lists frames most (joined batches (before + 0)) k p) first here.0)
              (here.1 ∙ ap (λ k. projection_of k log) first),
          places-rest rows (suc number) (suc before) some (ap suc next) (omega (arith, count)) (λ place.
              let other : number + suc place ≡ suc number + place = omega arith in
              let behind : before + suc place ≡ suc before + place = omega arith in
              subst (λ k. IfSome (slice_get some place) (λ p.
              IsRecovered lists frames most (joined batches (suc before + place)) k p
              × (p.kept ≡ projection_of k log))) other
              (subst (λ k. IfSome (slice_get some place) (λ p.
              IsRecovered lists frames most (joined batches k) (number + suc place) p
              × (p.kept ≡ projection_of (number + suc place) log))) behind (each (suc place)))),
        )
    places-rest [] number before (p ∷ some) next count each = absurd (omega (arith, count))
    places-rest (row ∷ rows) number before [] next count each = absurd (omega (arith, count))

    both-at : (place : ℕ) → IfSome (slice_get parts place) (λ p.
        IsRecovered lists frames most (joined batches (0 + place)) (1 + place) p
        × (p.kept ≡ projection_of (1 + place) log))
    both-at place =
        let behind : place ≡ 0 + place = omega arith in
        let next : suc place ≡ 1 + place = omega arith in
        subst (λ k. IfSome (slice_get parts place) (λ p.
        IsRecovered lists frames most (joined batches k) (1 + place) p × (p.kept ≡ projection_of (1 + place) log))) behind
        (subst (λ k. IfSome (slice_get parts place) (λ p.
        IsRecovered lists frames most (joined batches place) k p × (p.kept ≡ projection_of k log))) next
        (elim (slice_get parts place) as (λ found.
        IfSome found (IsRecovered lists frames most (joined batches place) (suc place))
        → IfSome found (λ p. p.kept ≡ projection_of (suc place) log)
        → IfSome found (λ p. IsRecovered lists frames most (joined batches place) (suc place) p
        × (p.kept ≡ projection_of (suc place) log))) [
          | None ↦ λ one other. tt
          | Some p ↦ λ one other. (one, other)
        ] (recovered.each place) (history.kept place)))

    pub whole-is : IsWholeOf n log parts whole
    whole-is = (refl, places-rest lists.tables.warehouses 1 0 parts refl recovered.count both-at)

    pub begins-again : are_batches batches ≡ true → GoesOn lists batches log
        → ((client : ℕ) → known client ≤ length log) → BeginsLife lists batches whole
    begins-again told numbers within = record {
      log = log;
      known = known;
      within = within;
      same = recovered-same lists frames most batches log parts recovered history told numbers;
      rests = refl;
    }
