use Rattle.std.proofs.Common.{take}
use Rattle.std.specs.List.{flat_map}
use Rattle.hy_batches.specs.Encoding.{commit_bytes}
use Rattle.hy_batches.proofs.writing.write_commits.Given as goal

-- the commits before this one were written
abbrev pub invariant-loop-commit : goal.invariant-loop-commit
invariant-loop-commit g l = g.S.Sink.takes l.fn.sink l.sink (flat_map commit_bytes (take l.commit-index l.commits))
