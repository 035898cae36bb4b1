use Rattle.std.proofs.Common.{◌≡◌, ◌+◌, ◌≤◌, suc, length, map, vec_capacity}
use Rattle.std.specs.Prelude.{IfSome, slice_get}
use Rattle.std.specs.List.{range_with_len}
use Rattle.std.specs.Vec.Iter.{into_iter_items, into_iter_len}
use Rattle.hy_passes.specs.Worlds.{new_partition}
use Rattle.hy_partition.specs.Steps.{Begins}
use Rattle.hy_crossing.proofs.making.partitions_of.Given as goal

-- the seats that are left are those of the warehouses behind what was made
abbrev pub invariant-loop-seat : goal.invariant-loop-seat
invariant-loop-seat g l =
    record {
      seats : into_iter_items l.seat-iterator
          ≡ map new_partition (range_with_len (length l.made.items + 1) (into_iter_len l.seat-iterator));
      count : length l.made.items + into_iter_len l.seat-iterator ≡ length l.fn.load.tables.warehouses;
      room : length l.made.items + into_iter_len l.seat-iterator ≤ vec_capacity l.made;
      begin : (place : _) → IfSome (slice_get l.made.items place)
          (Begins l.fn.load (suc place) l.max_frames l.max_kept);
    }
