-- The lines that entries name.
use Rattle.std.specs.Prelude.{◌<◌, List, length, slice_get, All}
use Rattle.hy_rows.specs.declared.order_line.OrderLine.{OrderLine}
use Rattle.hy_writers.specs.of_index.declared.key.Entry.{Entry}
use Rattle.hy_writers.specs.of_index.Index.{between}
use Rattle.hy_writers.specs.of_store.declared.keys.LineKey.{LineKey}
use Rattle.hy_writers.specs.of_store.Keys.{is_lesser_line as is_lesser_key}
use Rattle.hy_writers.specs.of_indexes.Finds.{IsIndexOf}
use Rattle.hy_writers.specs.of_indexes.Indexes.{line_key_at}
use Rattle.hy_writers.proofs.of_indexes.IndexLaws.{between-in}
use Rattle.hy_writers.proofs.of_indexes.KeyOrders.{order-of_lines}
use Rattle.hy_writers.proofs.FindLaws.{within-at}
use Rattle.hy_writers.proofs.WaitingLaws.{all-in}

-- what entries of the index of lines name is there
pub between-there : (rows : List OrderLine) (entries : List (Entry LineKey)) (low high : LineKey)
    → IsIndexOf line_key_at (slice_get rows) entries
    → All (λ (entry : Entry LineKey). entry.slot < length rows) (between is_lesser_key low high entries)
between-there rows entries low high index =
    all-in (λ (entry : Entry LineKey). entry.slot < length rows) (between is_lesser_key low high entries)
    (λ entry there.
    let kept = between-in is_lesser_key order-of_lines low high entries entry there in
    let row = index.there entry kept.0 in
    within-at rows entry.slot row.0 row.1)
