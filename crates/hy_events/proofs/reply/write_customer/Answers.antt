use Rattle.std.specs.Prelude.{◌++◌, codes, decimal}
use Rattle.hy_events.proofs.WriterLaws.{appends-last, appends-then}
use Rattle.hy_events.proofs.reply.write_customer.Goals as goal

pub returns-clause-written : goal.returns-clause-written
returns-clause-written g c =
    let start = g.O.Output.contents c.args.out.now in
    let one = g.O.Output.contents c.write.new.self in
    let two = g.O.Output.contents c.write_all.new.self in
    let three = g.O.Output.contents c.write_all-2.new.self in
    let four = g.O.Output.contents c.write_all-3.new.self in
    let five = g.O.Output.contents c.write_all-4.new.self in
    let six = g.O.Output.contents c.write_all-5.new.self in
    let number = codes "status customer " ++ decimal c.args.customer ++ codes " " in
    let first = number ++ c.as_bytes.result.now in
    let to_first = appends-then start one two number c.as_bytes.result.now c.in_ok-write.ensures.bytes c.in_ok-write_all.ensures.bytes in
    let to_space = appends-then start two three first (codes " ") to_first c.in_ok-write_all-2.ensures.bytes in
    let middle = first ++ codes " " ++ c.as_bytes-2.result.now in
    let to_middle = appends-then start three four (first ++ codes " ") c.as_bytes-2.result.now to_space c.in_ok-write_all-3.ensures.bytes in
    let to_end = appends-then start four five middle (codes " ") to_middle c.in_ok-write_all-4.ensures.bytes in
    let all = appends-last c.write_all-5.result start five six (middle ++ codes " ") c.as_bytes-3.result.now to_end c.write_all-5.ensures.bytes in
    rw (c.as_bytes.ensures.bytes, c.as_bytes-2.ensures.bytes, c.as_bytes-3.ensures.bytes) at all
