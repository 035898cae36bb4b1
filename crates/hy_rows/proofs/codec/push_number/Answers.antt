use Rattle.std.proofs.Common.{◌+◌, ◌-◌, ◌/◌, ◌++◌, ap, ◌∙◌, arith}
use Rattle.hy_page.specs.Bytes.{bytes_of}
use Rattle.hy_rows.proofs.ColumnLaws.{append-lowest_byte}
use Rattle.hy_rows.proofs.codec.push_number.Goals as goal

-- the lowest byte of the rest was pushed
pub loop-preserved : goal.loop-preserved
loop-preserved g c =
    let left = c.args.width - (c.loop.counter + 1) in
    record {
      bytes =
          ap (λ items. items ++ bytes_of left (c.loop.rest / 256)) c.push.ensures.items
          ∙ append-lowest_byte c.loop.out.items left (c.args.width - c.loop.counter) c.loop.rest (omega arith)
          ∙ c.loop.invariant.bytes;
      len = omega arith;
    }
