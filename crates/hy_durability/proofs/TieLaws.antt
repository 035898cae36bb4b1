-- What a drain answers is the batch of the model, and a whole of partitions has room.
use Rattle.std.proofs.Common.{◌≡◌, ℕ, zero, suc, ◌+◌, ◌≤◌, List, [], ◌∷◌, drop, length, map, refl, sym, ap, ap₂, ◌∙◌, subst, arith}
use Rattle.std.specs.Prelude.{IfSome, slice_get}
use Rattle.hy_partition.specs.Jobs.{Log}
use Rattle.hy_partition.specs.Limits.{most_kept}
use Rattle.hy_partition.specs.Partition.{PartitionState, projection_of}
use Rattle.hy_forks.specs.Drains.{drained_of, kept_behind}
use Rattle.hy_forks.proofs.BatchLaws.{of_second}
use Rattle.hy_schedules.specs.Schedules.{ArePlacesOf, IsDrainedTo, IsWholeOf, Place, Whole}
use Rattle.hy_durability.specs.Durability.{HasRoom, batch_of}

behind-placed : (n : ℕ) (log seen : Log) (whole : Whole) (number : ℕ) (parts : List PartitionState)
    (places : List Place) → ArePlacesOf n log whole number parts places
    → ((place : ℕ) → IfSome (slice_get places place) (λ p. p.drained ≡ length (projection_of (number + place) seen)))
    → map (kept_behind seen) parts ≡ (batch_of places).lists
behind-placed n log seen whole number [] [] are drained = refl
behind-placed n log seen whole number (p ∷ parts) (place ∷ places) are drained =
    let here : number + 0 ≡ p.warehouse = omega (arith, are.0.warehouse) in
    let far : length (projection_of p.warehouse seen) ≡ place.drained =
    ap (λ w. length (projection_of w seen)) (sym here) ∙ sym (drained 0) in
    ap₂ (λ row rows. row ∷ rows) (ap₂ drop far (sym are.0.kept))
    (behind-placed n log seen whole (suc number) parts places are.1 (λ k.
    let next : number + suc k ≡ suc number + k = omega arith in
    subst (λ w. IfSome (slice_get places k) (λ p. p.drained ≡ length (projection_of w seen))) next (drained (suc k))))
behind-placed n log seen whole number [] (place ∷ places) are drained = absurd are
behind-placed n log seen whole number (p ∷ parts) [] are drained = absurd are

pub drained-are : (n : ℕ) (log seen : Log) (parts : List PartitionState) (whole : Whole) → IsWholeOf n log parts whole
    → IsDrainedTo seen whole → drained_of seen parts ≡ batch_of whole.places
drained-are n log seen parts whole is drained =
    ap of_second (behind-placed n log seen whole 1 parts whole.places is.1 (λ place.
    let first : suc place ≡ 1 + place = omega arith in
    subst (λ w. IfSome (slice_get whole.places place) (λ p. p.drained ≡ length (projection_of w seen))) first
    (drained (suc place))))

-- a whole of partitions that keep no more than they may has room
pub has-room : (n : ℕ) (log : Log) (parts : List PartitionState) (whole : Whole) → IsWholeOf n log parts whole
    → ((place : ℕ) → IfSome (slice_get parts place) (λ p. length p.kept ≤ most_kept)) → HasRoom whole
has-room n log parts whole is few zero = tt
has-room n log parts whole is few (suc place) = from 1 parts whole.places is.1 few place
  where
    from : (number : ℕ) (parts : List PartitionState) (places : List Place) → ArePlacesOf n log whole number parts places
        → ((place : ℕ) → IfSome (slice_get parts place) (λ p. length p.kept ≤ most_kept)) → (place : ℕ)
        → IfSome (slice_get places place) (λ p. length p.kept ≤ most_kept)
    from number [] [] are few place = tt
    from number (p ∷ parts) (row ∷ places) are few zero =
        subst (λ rows. length rows ≤ most_kept) (sym are.0.kept) (few 0)
    from number (p ∷ parts) (row ∷ places) are few (suc place) =
        from (suc number) parts places are.1 (λ place. few (suc place)) place
    from number [] (row ∷ places) are few place = absurd are
    from number (p ∷ parts) [] are few place = absurd are
