use Rattle.std.proofs.Common.{◌≡◌, ◌∙◌, lit<, ap, subst, sym}
use Rattle.std.proofs.lemmas.Bool.{false≢true}
use Rattle.std.specs.Prelude.{Err, is_some}
use Rattle.hy_schema.specs.declared.refusal.Refusal.TheVariants as refusals
use Rattle.hy_schema.specs.Loads.{IsLoad}
use Rattle.hy_schema.specs.Related.{is_item}
use Rattle.hy_commands.proofs.ListLaws.{found-any}
use Rattle.hy_writers.specs.of_store.Writes.{stored_in}
use Rattle.hy_tpcc.proofs.PurchaseLaws.{can-add_line, item-there, line-next, not-no_item}
use Rattle.hy_tpcc.proofs.purchase.place_line.Goals as goal

pub add_line-requires : goal.add_line-requires
add_line-requires g c =
    let can = can-add_line c.args.layout.now c.requires.done.0 c.args.order.now c.args.place c.args.done c.requires.done.1
    (stored_in g.row.N c.args.space.now) c.line_behind-line.result c.in-Some.item.now
    (subst IsLoad c.load.ensures c.sound.ensures) c.know_places.ensures.warehouse c.requires.behind
    c.requires.next c.line_behind-line.ensures
    c.in-Some.ensures.item c.in-Some.ensures.number c.requires.done.2 in
    (lit< tt, (lit< tt, (c.requires.writable, can)))

pub returns-in-Ok-clause-done : goal.returns-in-Ok-clause-done
returns-in-Ok-clause-done g c = record {
  store = c.in-Ok.ensures.added.store;
  step = λ edition before now.
      line-next c.args.layout.now edition c.args.order.now c.args.place c.args.done before
      (stored_in g.row.N c.args.space.now) (stored_in g.row.N c.add_line.new.space) c.line_behind-line.result
      c.requires.behind c.line_behind-line.ensures
      (sym (found-any (is_item c.line_behind-line.result.item) c.args.layout.now.load.items)
      ∙ ap is_some c.in-Some.ensures.item) c.in-Ok.ensures.added.changed now;
}

pub returns-in-Ok-clause-no_item : goal.returns-in-Ok-clause-no_item
returns-in-Ok-clause-no_item g c =
    let there = item-there c.args.layout.now.load.items c.args.order.now c.args.done c.line_behind-line.result
    c.in-Some.item.now c.requires.behind c.line_behind-line.ensures c.in-Some.ensures.item in (
      λ bad. absurd (cc),
      λ none. absurd (false≢true (sym none ∙ there)),
    )

pub returns-in-Err-clause-no_item : goal.returns-in-Err-clause-no_item
returns-in-Err-clause-no_item g c =
    let there = item-there c.args.layout.now.load.items c.args.order.now c.args.done c.line_behind-line.result
    c.in-Some.item.now c.requires.behind c.line_behind-line.ensures c.in-Some.ensures.item in (
      λ same. absurd (not-no_item c.in-Err.shortage (sym c.refusal_of_shortage.ensures
          ∙ (let refused : Err c.refusal_of_shortage.result ≡ Err refusals.NoSuchItem = same in cc))),
      λ none. absurd (false≢true (sym none ∙ there)),
    )
