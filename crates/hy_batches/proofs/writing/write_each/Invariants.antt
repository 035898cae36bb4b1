use Rattle.std.proofs.Common.{map, take}
use Rattle.std.specs.List.{flat_map}
use Rattle.hy_batches.specs.Encoding.{list_bytes}
use Rattle.hy_batches.proofs.writing.write_each.Given as goal

-- the lists before this one were written
abbrev pub invariant-loop-commits : goal.invariant-loop-commits
invariant-loop-commits g l =
    g.S.Sink.takes l.fn.sink l.sink (flat_map list_bytes (map (λ commits. commits.items) (take l.commits-index l.lists)))
