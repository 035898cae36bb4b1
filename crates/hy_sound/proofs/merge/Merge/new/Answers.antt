-- Nothing was passed.
use Rattle.std.proofs.Common.{replicate}
use Rattle.hy_rows.specs.Limits.{max_warehouses}
use Rattle.hy_sound.proofs.ListLaws.{index-replicate}
use Rattle.hy_sound.proofs.MergeLaws.{left-first}
use Rattle.hy_sound.proofs.merge.Merge.new.Goals as goal

pub returns-clause-left : goal.returns-clause-left
returns-clause-left c = λ place.
    left-first (record { lists = c.args.batch.now.lists; passed = replicate max_warehouses 0 }) place
    (index-replicate max_warehouses place)
