use Rattle.std.proofs.Common.{◌∙◌, ap, rules, sym}
use Rattle.hy_query.specs.Meaning.{comes_before}
use Rattle.hy_query.specs.Sorting.{sorted}
use Rattle.hy_tallies.specs.Lines.{row_at}
use Rattle.hy_tallies.specs.Numbers.{upto}
use Rattle.hy_answers.proofs.RankLaws.{sorted-by_closure}
use Rattle.hy_answers.proofs.SortLaws.{sorted-none}
use Rattle.hy_answers.proofs.sorting.order_rows.Goals as goal

pub returns-then-is_empty : goal.returns-then-is_empty
returns-then-is_empty c =
    c.in_ok-order.ensures
    ∙ sym (sorted-none c.args.keys.now (row_at c.args.columns.now) (upto c.args.count) (search (rules, c.is_empty.ensures, c.if-is_empty.true)))

pub returns : goal.returns
returns c =
    let row = row_at c.args.columns.now in
    sorted-by_closure c.args.keys.now row c.in_ok-order.order.items c.sort_by.new.self.items
    c.in_ok-sort_by.ensures.sorted c.in_ok-sort_by.ensures.stable (λ a r f' k. search rules)
    ∙ ap (sorted (λ one other. comes_before c.args.keys.now (row one) (row other))) c.in_ok-order.ensures
