use Rattle.std.proofs.Common.{◌≡◌, ◌∙◌, ap, length, map, sym}
use Rattle.std.proofs.lemmas.List.{length-map}
use Rattle.std.proofs.lemmas.Result.{on_ok_weaker}
use Rattle.hy_tallies.specs.Lines.{column_in}
use Rattle.hy_tallies.proofs.AppendLaws.{append-tally, tally-wide}
use Rattle.hy_tallies.proofs.tallies.Tallies.append.Goals as goal

pub returns-clause-tally : goal.returns-clause-tally
returns-clause-tally c =
    let old = c.args.self.now in
    let other = c.args.other.now in
    let shape = c.take.ensures.shape in
    let keys : map column_in c.deref-3.result.now ≡ other.keys =
    ap (map column_in) c.deref-3.ensures.value ∙ c.in_ok-keys.ensures ∙ c.deref.ensures.value
    ∙ ap (λ state. state.keys) c.other.view_is in
    let columns : map column_in c.deref-4.result.now ≡ other.columns =
    ap (map column_in) c.deref-4.ensures.value ∙ c.in_ok-values.ensures ∙ c.deref-2.ensures.value
    ∙ ap (λ state. state.columns) c.other.view_is in
    on_ok_weaker c.take.result
    (λ tally lines more is other_is.
    append-tally lines more (map column_in c.deref-3.result.now) (map column_in c.deref-4.result.now) c.other.inside.groups.count
    other c.take.new.self keys columns (ap (λ state. state.count) c.other.view_is)
    (shape.0 ∙ sym c.requires.alone) (shape.2 ∙ sym c.requires.values) (shape.1 ∙ sym c.requires.keys) other_is
    (tally lines
    (sym (length-map c.deref-4.result.now column_in) ∙ ap length columns ∙ tally-wide more other other_is
    ∙ ap length c.requires.values) is)) c.take.ensures.tally
