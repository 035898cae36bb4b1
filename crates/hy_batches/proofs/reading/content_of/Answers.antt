use Rattle.std.proofs.Common.{map, sym, ◌∙◌, arith}
use Rattle.hy_batches.proofs.BatchForms.{read_batch}
use Rattle.hy_batches.proofs.FormLaws.{number_form}
use Rattle.hy_batches.proofs.reading.content_of.Goals as goal

pub new-requires : goal.new-requires
new-requires c =
    let count = c.in_ok-count.count in
    let rest = c.in_ok-count.rest.now in
    let read = (number_form 1).takes c.args.bytes.now count rest (λ i. omega (arith, c.type_inv.bytes i)) c.in_ok-count.ensures in
    read_batch c.args.edition count rest (map (λ commits. commits.items) c.in_ok-lists.lists.items) c.in_ok-lists.after.now
    read.0.are_bytes (sym c.are_warehouses.ensures ∙ c.if-not-are_warehouses.false) c.in_ok-lists.ensures
