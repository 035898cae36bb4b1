use Rattle.std.proofs.Common.{[], ◌∷◌, ◌++◌, length, map, subst}
use Rattle.hy_batches.specs.Encoding.{content_bytes, mark, number_bytes}
use Rattle.hy_batches.proofs.writing.write_lists.Goals as goal

pub returns : goal.returns
returns g c =
    let takes = g.S.Sink.takes in
    let both = g.met.S.Sink.takes_both in
    let front = mark c.args.edition in
    let content = content_bytes (map (λ commits. commits.items) c.args.lists.now) in
    let size = number_bytes 8 (length content) in
    let marked : takes c.args.sink.now c.put.new.self front = rw c.mark.ensures at c.put.ensures in
    let said : takes c.put.new.self c.write_number.new.sink size =
    subst (takes c.put.new.self c.write_number.new.sink) c.content_length.ensures c.write_number.ensures in
    both _ _ _ (front ++ size ++ content) (69 ∷ [])
    (both _ _ _ (front ++ size) content (both _ _ _ front size marked said) c.write_content.ensures)
    c.put-2.ensures
