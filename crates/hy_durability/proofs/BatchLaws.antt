-- The batch of a drain has what entered the serial list since the drain before it.
use Rattle.std.proofs.Common.{◌≡◌, ℕ, suc, ◌<◌, List, ◌++◌, drop, length, Some, sym, ap, ◌∙◌, subst, arith}
use Rattle.std.specs.Prelude.{IfSome, slice_get}
use Rattle.std.specs.Option.{option_map, unwrap_or}
use Rattle.std.proofs.Math.Seq.{drop-append_seam}
use Rattle.std.proofs.lemmas.List.{length-map}
use Rattle.hy_rows.specs.Tables.{Lists}
use Rattle.hy_partition.specs.Jobs.{Log}
use Rattle.hy_partition.specs.Partition.{projection_of}
use Rattle.hy_sound.specs.Sound.{list_at}
use Rattle.hy_forks.proofs.LoggedLaws.{get-mapped}
use Rattle.hy_forks.proofs.NumberLaws.{projection-behind}
use Rattle.hy_schedules.specs.Schedules.{Place}
use Rattle.hy_recovery.proofs.PlaceLaws.{get-some}
use Rattle.hy_durability.specs.Durability.{batch_of}
use Rattle.hy_durability.proofs.GrowLaws.{drained_at}

module _ (lists : Lists) (places : List Place) (front rest : Log)
    (count : length places ≡ length lists.tables.warehouses)
    (kept : (place : ℕ) → IfSome (slice_get places place) (λ p. p.kept ≡ projection_of (suc place) (front ++ rest)))
    (drained : (place : ℕ) → place < length places → drained_at places (suc place) ≡ length (projection_of (suc place) front))
  where
    length-batch : length (batch_of places).lists ≡ length places
    length-batch = length-map places (λ (place : Place). drop place.drained place.kept)

    -- there is one for each warehouse
    pub lists-count : length (batch_of places).lists ≡ length lists.tables.warehouses
    lists-count = length-batch ∙ count

    -- each list has what entered the serial list since then
    list-is : (place : ℕ) (p : Place) → slice_get places place ≡ Some p → place < length places
        → list_at (batch_of places).lists place ≡ projection_of (suc place) rest
    list-is place p at within =
        let here : p.kept ≡ projection_of (suc place) (front ++ rest) =
        subst (λ found. IfSome found (λ p. p.kept ≡ projection_of (suc place) (front ++ rest))) at (kept place) in
        let so_far : p.drained ≡ length (projection_of (suc place) front) =
        sym (ap (λ found. unwrap_or (option_map (λ (place : Place). place.drained) found) 0) at) ∙ drained place within in
        get-mapped (λ (place : Place). drop place.drained place.kept) places place p at
        ∙ ap (λ n. drop n p.kept) so_far ∙ ap (drop (length (projection_of (suc place) front))) (here ∙ projection-behind (suc place) front rest)
        ∙ drop-append_seam (projection_of (suc place) front) (projection_of (suc place) rest)

    pub lists-are : (place : ℕ) → place < length (batch_of places).lists
        → list_at (batch_of places).lists place ≡ projection_of (suc place) rest
    lists-are place within =
        let inside : place < length places = omega (arith, within, length-batch) in
        let found = get-some places place inside in
        list-is place found.0 found.1 inside
