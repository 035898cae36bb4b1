use Rattle.std.proofs.Common.{◌∙◌, [], ap, length, replicate, sym}
use Rattle.hy_tallies.proofs.TallyLaws.{new-tally}
use Rattle.hy_tallies.proofs.tallies.Tallies.new.Goals as goal

pub returns-clause-tally : goal.returns-clause-tally
returns-clause-tally c =
    new-tally c.args.alone c.in_ok-aggregates.aggregates.items c.in_ok-columns.columns.items c.in_ok-groups.groups c.args.keys
    c.in_ok-groups.ensures.keys c.in_ok-groups.ensures.none
    (c.in_ok-columns.ensures ∙ ap (λ some. replicate (length some) []) (sym c.in_ok-aggregates.ensures))
