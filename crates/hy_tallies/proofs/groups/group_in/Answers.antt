use Rattle.std.proofs.Common.{◌≡◌, ◌∙◌, ◌-◌, ap, arith, map, sym}
use Rattle.hy_query.specs.Meaning.{are_equal}
use Rattle.hy_tallies.specs.Lines.{column_in, row_at}
use Rattle.hy_tallies.proofs.KeyLaws.{apart-rows, same-row}
use Rattle.hy_tallies.proofs.groups.group_in.Goals as goal

pub returns-then-have_equal-clause-there : goal.returns-then-have_equal-clause-there
returns-then-have_equal-clause-there c = λ within.
    same-row _ _
    (ap (λ keys. are_equal (row_at keys (c.args.groups.now.room - 1 - c.args.row)) (row_at (map column_in c.args.columns.now) c.args.line))
    (sym c.deref.ensures.value) ∙ sym c.have_equal.ensures ∙ c.if-have_equal.true)

pub returns-else-have_equal-clause-none : goal.returns-else-have_equal-clause-none
returns-else-have_equal-clause-none c = λ same room group within is equal.
    let at : group ≡ c.args.groups.now.room - 1 - c.args.row = omega arith in
    apart-rows _ _
    (ap (λ keys. are_equal (row_at keys (c.args.groups.now.room - 1 - c.args.row)) (row_at (map column_in c.args.columns.now) c.args.line))
    (sym c.deref.ensures.value) ∙ sym c.have_equal.ensures ∙ c.if-have_equal.false)
    (ap (row_at c.args.groups.now.keys.items) (sym at) ∙ equal)
