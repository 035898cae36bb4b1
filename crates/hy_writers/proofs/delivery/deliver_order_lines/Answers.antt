use Rattle.std.proofs.Common.{◌<◌, ◌≤◌, ◌∙◌, List, ap, length, lit<, subst, sym}
use Rattle.std.specs.Prelude.{All}
use Rattle.hy_rows.specs.Limits.{max_lines}
use Rattle.hy_indexes.specs.of_index.declared.key.Entry.{Entry}
use Rattle.hy_indexes.specs.of_store.declared.keys.LineKey.{LineKey}
use Rattle.hy_indexes.specs.of_store.Stored.{Stored}
use Rattle.hy_indexes.specs.of_store.Writes.{stored_in}
use Rattle.hy_writers.specs.Deliveries.{places_of, walk_over, with_lines, with_walked}
use Rattle.hy_writers.proofs.DeliveryLaws.{entries-few, entries-there, walk-cents, walk-rows}
use Rattle.hy_writers.proofs.WritesLaws.{if_ok-then, on_ok-then}
use Rattle.hy_writers.proofs.delivery.deliver_order_lines.Goals as goal

pub deliver_lines-requires : goal.deliver_lines-requires
deliver_lines-requires g c =
    let s : Stored = stored_in g.row.N c.args.space.now in
    let order = c.args.order.now in
    let are = c.deref.ensures.value ∙ c.in_ok-read_entries.ensures in
    let lines = c.requires.lines in
    let there = subst (All (λ (entry : Entry LineKey). entry.slot < length s.tables.order_lines)) (sym are)
    (entries-there c.args.moment order s c.know_entries.ensures lines) in
    let few = subst (λ (entries : List (Entry LineKey)). length entries ≤ max_lines) (sym are)
    (entries-few c.args.moment order s c.know_entries.ensures lines) in
    (lit< tt, (lit< tt, (c.requires.writable, (there, (lines.amounts, few)))))

pub returns-clause-delivered : goal.returns-clause-delivered
returns-clause-delivered g c =
    let s : Stored = stored_in g.row.N c.args.space.now in
    let order = c.args.order.now in
    let are = c.deref.ensures.value ∙ c.in_ok-read_entries.ensures in
    on_ok-then c.deliver_lines.result (λ is.
    record {
      store = is.store;
      changed = is.changed
          ∙ ap (λ (entries : List (Entry LineKey)). with_walked c.args.moment (places_of entries) s) are
          ∙ ap (with_lines s) (walk-rows c.args.moment order s c.know_entries.ensures c.requires.lines);
    })
    c.deliver_lines.ensures.delivered

pub returns-clause-cents : goal.returns-clause-cents
returns-clause-cents g c =
    let s : Stored = stored_in g.row.N c.args.space.now in
    let order = c.args.order.now in
    let are = c.deref.ensures.value ∙ c.in_ok-read_entries.ensures in
    if_ok-then c.deliver_lines.result (λ cents is.
    is
    ∙ ap (λ (entries : List (Entry LineKey)).
    (walk_over c.args.moment (places_of entries) s).cents) are
    ∙ walk-cents c.args.moment order s c.know_entries.ensures c.requires.lines)
    c.deliver_lines.ensures.cents
