-- Partitions that are whole ones of a load, each at its place.
use Rattle.std.proofs.Common.{◌≡◌, ℕ, suc, List, Option, None, Some, length}
use Rattle.std.specs.Prelude.{IfSome, slice_get}
use Rattle.hy_rows.specs.Tables.{Lists}
use Rattle.hy_partition.specs.Partition.{PartitionState}
use Rattle.hy_crossing.specs.Crossings.{ArePartitions, HaveNoPart, IsWhole}

some-leads : {Row : Type 0} (F G : Row → Type 0) (found : Option Row) → ((row : Row) → F row → G row) → IfSome found F
    → IfSome found G
some-leads F G None leads holds = tt
some-leads F G (Some row) leads holds = leads row holds

-- as many as the load has warehouses are all of them, and none has a part done
pub all-whole : (lists : Lists) (parts : List PartitionState) → length parts ≡ length lists.tables.warehouses
    → ((place : ℕ) → IfSome (slice_get parts place) (IsWhole lists (suc place)))
    → ArePartitions lists parts × HaveNoPart parts
all-whole lists parts count each = (
  record {
    count = count;
    each = λ place. some-leads (IsWhole lists (suc place)) _ (slice_get parts place) (λ p whole. whole.0) (each place);
  },
  λ place. some-leads (IsWhole lists (suc place)) _ (slice_get parts place) (λ p whole. whole.1) (each place),
)
