use Rattle.std.proofs.Common.{◌∙◌, ap, arith, length, map, subst, sym}
use Rattle.std.proofs.lemmas.List.{length-map, with_items_is}
use Rattle.std.proofs.lemmas.Result.{on_ok_weaker}
use Rattle.std.specs.Vec.{with_items}
use Rattle.hy_tallies.specs.Lines.{column_in}
use Rattle.hy_tallies.specs.Tallies.{IsTally}
use Rattle.hy_tallies.specs.inside.Steps.{noted_all}
use Rattle.hy_tallies.proofs.TallyLaws.{tally-more}
use Rattle.hy_tallies.proofs.tallies.Tallies.take.Goals as goal

pub returns-clause-tally : goal.returns-clause-tally
returns-clause-tally c =
    let inside = c.self.inside in
    let values = map column_in c.args.values.now in
    let lent = c.deref_mut.ensures.value in
    on_ok_weaker c.note_columns.result
    (λ noted lines wide is.
    tally-more lines inside.aggregates.items inside.columns.items (with_items inside.columns c.note_columns.new.columns).items
    inside.groups c.number_lines.new.groups c.number_lines.new.numbers.items (map column_in c.args.keys.now) values c.args.count
    inside.alone c.in_ok-number_lines.ensures.counted
    (with_items_is inside.columns c.note_columns.new.columns (omega (arith, c.note_columns.auto.columns, c.deref_mut.ensures.len, ap length lent))
    ∙ noted
    ∙ (λ i. noted_all (c.deref.ensures.value i) (lent i) (c.deref-2.ensures.value i) values (length (c.deref-2.ensures.value i))))
    (length-map c.args.values.now column_in ∙ wide ∙ ap (λ state. length state.aggregates) (sym c.self.view_is))
    (λ alone. length-map c.args.keys.now column_in
    ∙ c.requires.keys (ap (λ state. state.alone) (sym c.self.view_is) ∙ alone)
    ∙ ap (λ state. length state.keys) (sym c.self.view_is))
    c.number_lines.ensures.keys
    (subst (IsTally lines) (sym c.self.view_is) is)) c.note_columns.ensures
