use Rattle.std.proofs.Common.{◌≡◌, length, take, drop, ◌-◌, ◌*◌, arith}
use Rattle.std.proofs.lemmas.List.{length-drop, take_all}
use Rattle.std.proofs.lemmas.Result.{err_from_is_err_and}
use Rattle.hy_batches.proofs.SeenLaws.{counted-few, counted-many, counted-none, counted-short}
use Rattle.hy_batches.proofs.values.counted_lines_at.Goals as goal

pub returns-in_err-count : goal.returns-in_err-count
returns-in_err-count c =
    let p = err_from_is_err_and c.from_residual.result c.from_residual.ensures.1 in
    rw p.1 (counted-none c.args.bytes.now c.in_err-count.ensures)

pub returns-then-count-gt-MAX_PURCHASE_LINES : goal.returns-then-count-gt-MAX_PURCHASE_LINES
returns-then-count-gt-MAX_PURCHASE_LINES c =
    counted-many c.args.bytes.now c.in_ok-count.bytes.now c.in_ok-count.count c.in_ok-count.ensures
    c.if-count-gt-MAX_PURCHASE_LINES.true

pub returns-then-bytes-count : goal.returns-then-bytes-count
returns-then-bytes-count c =
    counted-short c.args.bytes.now c.in_ok-count.bytes.now c.in_ok-count.count c.in_ok-count.ensures
    c.if-count-gt-MAX_PURCHASE_LINES.false c.if-bytes-count.true

pub returns : goal.returns
returns c =
    let bytes = c.in_ok-count.bytes.now in
    let count = c.in_ok-count.count in
    let tail = drop (6 * count) bytes in
    let all : take (length bytes - 6 * count) tail ≡ tail =
    take_all (length bytes - 6 * count) tail (omega (arith, length-drop (6 * count) bytes)) in
    rw all (counted-few c.args.bytes.now bytes count c.in_ok-count.ensures c.if-count-gt-MAX_PURCHASE_LINES.false
    c.if-bytes-count.false)
