use Rattle.std.proofs.Common.{sym}
use Rattle.hy_batches.proofs.NumberLaws.{spread_8}
use Rattle.hy_batches.proofs.writing.write_delivery.Goals as goal

pub returns : goal.returns
returns g c =
    rw (
      sym c.low-warehouse.ensures,
      sym c.low-carrier.ensures,
      spread_8 c.all_eight.result c.args.delivery.now.at c.all_eight.ensures,
    ) c.put.ensures
