use Rattle.std.proofs.Common.{ℕ, ◌+◌, ◌≤◌, sym, subst, arith}
use Rattle.hy_space.specs.Space.{HasPage}
use Rattle.hy_joins.proofs.PageLaws.{child-small, count-items, offset-page, there-node}
use Rattle.hy_joins.proofs.PairLaws.{IsPair-at, child-is, page-is}
use Rattle.hy_joins.proofs.pair_at.Goals as goal

pub child-first-requires : goal.child-first-requires
child-first-requires g c =
    let space = c.args.space.now in
    let tree = c.args.tree in
    let large : 256 ≤ g.row.N = omega (arith, c.sound.ensures.size.smallest) in
    let leads = c.requires.leads in
    let above = page-is g.row.N space tree c.requires.there c.sound.ensures c.requires.tree large c.requires.width leads.0 leads.1 c.args.page leads.2 in
    let child = child-is g.row.N space tree c.requires.there c.sound.ensures c.requires.tree large c.requires.width leads.0 leads.1 c.args.page leads.2 c.args.left (omega (arith, c.requires.within)) in (
      omega arith,
      (
        c.requires.width,
        (
          above.there,
          (
            omega (arith, c.requires.within, count-items space tree c.args.page above.there),
            (
              offset-page space tree c.args.page g.row.N (omega (arith, large)) above,
              child-small space tree c.args.page g.row.N c.args.left c.sound.ensures above.there (omega (arith, c.requires.within)) child.there,
            ),
          ),
        ),
      ),
    )

pub child-second-requires : goal.child-second-requires
child-second-requires g c =
    let space = c.args.space.now in
    let tree = c.args.tree in
    let large : 256 ≤ g.row.N = omega (arith, c.sound.ensures.size.smallest) in
    let leads = c.requires.leads in
    let above = page-is g.row.N space tree c.requires.there c.sound.ensures c.requires.tree large c.requires.width leads.0 leads.1 c.args.page leads.2 in
    let child = child-is g.row.N space tree c.requires.there c.sound.ensures c.requires.tree large c.requires.width leads.0 leads.1 c.args.page leads.2 (c.args.left + 1) c.requires.within in (
      omega arith,
      (
        c.requires.width,
        (
          above.there,
          (
            omega (arith, c.requires.within, count-items space tree c.args.page above.there),
            (
              offset-page space tree c.args.page g.row.N (omega (arith, large)) above,
              child-small space tree c.args.page g.row.N (c.args.left + 1) c.sound.ensures above.there c.requires.within child.there,
            ),
          ),
        ),
      ),
    )

pub count-count-requires : goal.count-count-requires
count-count-requires g c =
    let space = c.args.space.now in
    let tree = c.args.tree in
    let large : 256 ≤ g.row.N = omega (arith, c.sound.ensures.size.smallest) in
    let leads = c.requires.leads in
    let child = child-is g.row.N space tree c.requires.there c.sound.ensures c.requires.tree large c.requires.width leads.0 leads.1 c.args.page leads.2 c.args.left (omega (arith, c.requires.within)) in
    (omega arith, subst (λ (page : ℕ). HasPage space tree.segment page) (sym c.child-first.ensures) child.there)

pub count-more-requires : goal.count-more-requires
count-more-requires g c =
    let space = c.args.space.now in
    let tree = c.args.tree in
    let large : 256 ≤ g.row.N = omega (arith, c.sound.ensures.size.smallest) in
    let leads = c.requires.leads in
    let child = child-is g.row.N space tree c.requires.there c.sound.ensures c.requires.tree large c.requires.width leads.0 leads.1 c.args.page leads.2 (c.args.left + 1) c.requires.within in
    (omega arith, subst (λ (page : ℕ). HasPage space tree.segment page) (sym c.child-second.ensures) child.there)

pub returns-clause-pair : goal.returns-clause-pair
returns-clause-pair g c =
    let space = c.args.space.now in
    let tree = c.args.tree in
    let large : 256 ≤ g.row.N = omega (arith, c.sound.ensures.size.smallest) in
    let leads = c.requires.leads in
    IsPair-at g.row.N space tree c.requires.there c.sound.ensures c.requires.tree large c.requires.width leads.0 leads.1 c.args.page leads.2
    c.args.left c.requires.within (there-node space tree 0 c.requires.there c.requires.tree.first)
    c.child-first.result c.child-second.result c.count-count.result c.count-more.result
    c.child-first.ensures c.child-second.ensures c.count-count.ensures.items c.count-more.ensures.items
