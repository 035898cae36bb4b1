use Rattle.std.proofs.Common.{rules, ◌≡◌, ◌++◌, ◌∷◌, [], ℕ, ◌+◌, ◌<◌, List, length, take, get_or, lit<, sym, ap, subst, arith, ◌∙◌}
use Rattle.std.proofs.lemmas.List.{take_all, take_more}
use Rattle.std.proofs.lemmas.Option.{slice_get-get_or}
use Rattle.hy_rows.specs.declared.order.Order.{Order}
use Rattle.hy_indexes.specs.of_index.declared.key.Entry.{Entry}
use Rattle.hy_indexes.specs.of_store.declared.keys.CustomerKey.{CustomerKey}
use Rattle.hy_indexes.specs.of_store.Stored.{Stored, last_order_index}
use Rattle.hy_indexes.specs.of_store.Writes.{stored_in}
use Rattle.hy_layout.specs.Finds.{IsIn}
use Rattle.hy_indexes.specs.Indexes.{AreLastOrders}
use Rattle.hy_fill.specs.inside.LastOrders.{AreLastOf, with_order}
use Rattle.hy_fill.proofs.CountLaws.{keeps-then, length-with_order}
use Rattle.hy_fill.proofs.EntryLaws.{in-take}
use Rattle.hy_fill.proofs.LastOrderLaws.{found-within, last-all, last-given, slot-within}
use Rattle.hy_layout.proofs.MemberLaws.{in-place}
use Rattle.hy_fill.proofs.last_orders.give_orders.Goals as goal

pub give_order-requires : goal.give_order-requires
give_order-requires g c =
    let first : Stored = stored_in g.row.N c.args.space.now in
    let s : Stored = stored_in g.row.N c.loop-entry.space in
    let none : Entry CustomerKey = record { key = record { district = 0; customer = 0 }; slot = 0 } in
    let entries : List (Entry CustomerKey) = c.args.entries.now in
    let index : ℕ = c.loop-entry.entry-index in
    let entry : Entry CustomerKey = get_or entries index none in
    let here : IsIn entry entries =
    in-place entries index entry (slice_get-get_or entries index none c.loop-entry-test.true) in
    let same : first.tables.orders ≡ s.tables.orders = sym (ap (λ (x : Stored). x.tables.orders) c.loop-entry.invariant.only) in (
      lit< tt,
      (
        lit< tt,
        (
          c.loop-entry.invariant.writable,
          (
            subst (λ (orders : List Order). entry.slot < length orders) same
                (slot-within first.tables.orders entries c.requires.orders entry here),
            λ slot is. subst (λ (orders : List Order). slot < length orders) same
                (found-within first.tables.orders entries (take index entries) s.last_orders c.requires.orders
                (in-take index entries) c.loop-entry.invariant.last_orders entry.key slot is),
          ),
        ),
      ),
    )

-- one order more
pub loop-entry-preserved : goal.loop-entry-preserved
loop-entry-preserved g c =
    let first : Stored = stored_in g.row.N c.args.space.now in
    let s : Stored = stored_in g.row.N c.loop-entry.space in
    let now : Stored = stored_in g.row.N c.give_order.new.space in
    let none : Entry CustomerKey = record { key = record { district = 0; customer = 0 }; slot = 0 } in
    let entries : List (Entry CustomerKey) = c.args.entries.now in
    let index : ℕ = c.loop-entry.entry-index in
    let entry : Entry CustomerKey = get_or entries index none in
    let same : s.tables.orders ≡ first.tables.orders = ap (λ (x : Stored). x.tables.orders) c.loop-entry.invariant.only in
    let last : now.last_orders ≡ with_order first.tables.orders entry s.last_orders =
    ap (λ (x : Stored). x.last_orders) c.in_ok-give_order.ensures.given.changed
    ∙ ap (λ (orders : List Order). with_order orders entry s.last_orders) same in
    record {
      writable = record { store = c.in_ok-give_order.ensures.given.store; undo_log = c.in_ok-give_order.ensures.undo_log };
      last_orders = subst (λ (given : List (Entry CustomerKey)). AreLastOf first.tables.orders given now.last_orders)
          (sym (take_more entries index none c.loop-entry-test.true))
          (subst (AreLastOf first.tables.orders (take index entries ++ entry ∷ [])) (sym last)
          (last-given first.tables.orders (take index entries) s.last_orders entry c.loop-entry.invariant.last_orders));
      count = omega (
        arith,
        ap length last,
        length-with_order first.tables.orders entry s.last_orders,
        c.loop-entry.invariant.count,
      );
      only = c.in_ok-give_order.ensures.given.changed
          ∙ ap (λ (x : Stored). record x { last_orders = with_order s.tables.orders entry s.last_orders })
          c.loop-entry.invariant.only
          ∙ ap (λ (last : List (Entry CustomerKey)). record first { last_orders = last })
          (sym (ap (λ (x : Stored). x.last_orders) c.in_ok-give_order.ensures.given.changed));
      stays = search rules;
      pages = keeps-then g.row.N last_order_index (length s.last_orders + 1) (length entries) c.args.space.now c.loop-entry.space c.give_order.new.space
          (omega (arith, c.loop-entry.invariant.count, c.loop-entry-test.true)) c.loop-entry.invariant.pages c.give_order.ensures.pages;
    }

pub returns-clause-only : goal.returns-clause-only
returns-clause-only g c = record { store = c.loop-entry.invariant.writable.store; changed = c.loop-entry.invariant.only }

pub returns-clause-last_orders : goal.returns-clause-last_orders
returns-clause-last_orders g c =
    let first : Stored = stored_in g.row.N c.args.space.now in
    let s : Stored = stored_in g.row.N c.loop-entry.space in
    let entries : List (Entry CustomerKey) = c.args.entries.now in
    subst (λ (orders : List Order). AreLastOrders orders s.last_orders)
    (sym (ap (λ (x : Stored). x.tables.orders) c.loop-entry.invariant.only))
    (last-all first.tables.orders entries s.last_orders c.requires.orders
    (subst (λ (given : List (Entry CustomerKey)). AreLastOf first.tables.orders given s.last_orders)
    (take_all c.loop-entry.entry-index entries c.loop-entry-test.false) c.loop-entry.invariant.last_orders))

pub returns-in_err-give_order-clause-pages : goal.returns-in_err-give_order-clause-pages
returns-in_err-give_order-clause-pages g c =
    keeps-then g.row.N last_order_index (length (stored_in g.row.N c.loop-entry.space).last_orders + 1) (length c.args.entries.now)
    c.args.space.now c.loop-entry.space c.give_order.new.space
    (omega (arith, c.loop-entry.invariant.count, c.loop-entry-test.true)) c.loop-entry.invariant.pages c.give_order.ensures.pages
