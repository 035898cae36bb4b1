use Rattle.std.proofs.Common.{ℕ, ◌≡◌, suc, ◌-◌, ◌<◌, ◌≤◌, length, ap, sym, subst, arith}
use Rattle.std.proofs.lemmas.Result.{IfOk-weaker}
use Rattle.hy_space.specs.Space.{HasPage}
use Rattle.hy_trees.specs.Nodes.{capacity, least_items}
use Rattle.hy_nodes.specs.Pages.{nodes_in}
use Rattle.hy_nodes.specs.Ways.{LeadsTo}
use Rattle.hy_joins.specs.Pairs.{HasChildToSpare, HasSpare, IsWay, LeadsOn, child_at, items_at}
use Rattle.hy_joins.proofs.PageLaws.{child-small, count-items, offset-page}
use Rattle.hy_joins.proofs.PairLaws.{HasSpare-more, IsWanting-at, LeadsOn-down, child-is, page-is, page-two}
use Rattle.hy_joins.proofs.spare_child.Goals as goal

pub child-child-requires : goal.child-child-requires
child-child-requires g c =
    let space = c.args.space.now in
    let tree = c.args.tree in
    let key = c.args.key.now in
    let below : ℕ = c.args.depth - 1 in
    let deep : c.args.depth ≡ suc below = omega (arith, c.requires.inner) in
    let large : 256 ≤ g.row.N = omega (arith, c.sound.ensures.size.smallest) in
    let leads : LeadsTo g.row.N space tree key (suc below) c.args.page = subst (λ (d : ℕ). LeadsTo g.row.N space tree key d c.args.page) deep c.requires.leads in
    let way : IsWay (items_at (nodes_in space tree) c.args.page) key c.place_in-place.result = c.place_in-place.ensures in
    let child = child-is g.row.N space tree c.requires.there c.sound.ensures c.requires.tree large c.requires.width key below c.args.page leads c.place_in-place.result way.within in
    let above = page-is g.row.N space tree c.requires.there c.sound.ensures c.requires.tree large c.requires.width key below c.args.page leads in (
      omega arith,
      (
        c.requires.width,
        (
          above.there,
          (
            omega (arith, way.within, count-items space tree c.args.page above.there),
            (
              offset-page space tree c.args.page g.row.N (omega (arith, large)) above,
              child-small space tree c.args.page g.row.N c.place_in-place.result c.sound.ensures above.there way.within child.there,
            ),
          ),
        ),
      ),
    )

pub count-requires : goal.count-requires
count-requires g c =
    let space = c.args.space.now in
    let tree = c.args.tree in
    let key = c.args.key.now in
    let below : ℕ = c.args.depth - 1 in
    let deep : c.args.depth ≡ suc below = omega (arith, c.requires.inner) in
    let large : 256 ≤ g.row.N = omega (arith, c.sound.ensures.size.smallest) in
    let leads : LeadsTo g.row.N space tree key (suc below) c.args.page = subst (λ (d : ℕ). LeadsTo g.row.N space tree key d c.args.page) deep c.requires.leads in
    let way : IsWay (items_at (nodes_in space tree) c.args.page) key c.place_in-place.result = c.place_in-place.ensures in
    let child = child-is g.row.N space tree c.requires.there c.sound.ensures c.requires.tree large c.requires.width key below c.args.page leads c.place_in-place.result way.within in
    (omega arith, subst (λ (q : ℕ). HasPage space tree.segment q) (sym c.child-child.ensures) child.there)

pub pair_at-pair-requires : goal.pair_at-pair-requires
pair_at-pair-requires g c =
    let space = c.args.space.now in
    let tree = c.args.tree in
    let key = c.args.key.now in
    let below : ℕ = c.args.depth - 1 in
    let deep : c.args.depth ≡ suc below = omega (arith, c.requires.inner) in
    let large : 256 ≤ g.row.N = omega (arith, c.sound.ensures.size.smallest) in
    let leads : LeadsTo g.row.N space tree key (suc below) c.args.page = subst (λ (d : ℕ). LeadsTo g.row.N space tree key d c.args.page) deep c.requires.leads in
    let way : IsWay (items_at (nodes_in space tree) c.args.page) key c.place_in-place.result = c.place_in-place.ensures in
    let two = page-two g.row.N space tree c.requires.there c.sound.ensures c.requires.tree large c.requires.width key below c.args.page leads in
    (omega arith, (c.requires.there, (c.requires.width, (c.requires.tree, ((key, below, leads), omega (arith, two, way.within, c.saturating_sub.ensures))))))

pub fill_child-requires : goal.fill_child-requires
fill_child-requires g c =
    let space = c.args.space.now in
    let tree = c.args.tree in
    let key = c.args.key.now in
    let below : ℕ = c.args.depth - 1 in
    let deep : c.args.depth ≡ suc below = omega (arith, c.requires.inner) in
    let large : 256 ≤ g.row.N = omega (arith, c.sound.ensures.size.smallest) in
    let leads : LeadsTo g.row.N space tree key (suc below) c.args.page = subst (λ (d : ℕ). LeadsTo g.row.N space tree key d c.args.page) deep c.requires.leads in
    let way : IsWay (items_at (nodes_in space tree) c.args.page) key c.place_in-place.result = c.place_in-place.ensures in
    let on : LeadsOn g.row.N space tree key below c.args.page c.place_in-place.result = record { leads = leads; way = way } in
    let same = c.pair_at-pair.ensures.page in
    let few : length (items_at (nodes_in space tree) (child_at (nodes_in space tree) c.args.page c.place_in-place.result).number) ≤ least_items g.row.N tree.key_bytes =
    omega (arith, c.if-count-least.false, c.count.ensures.items, c.least.ensures, ap (λ (q : ℕ). length (items_at (nodes_in space tree) q)) c.child-child.ensures) in
    let spare : HasChildToSpare (least_items g.row.N tree.key_bytes) (capacity g.row.N tree.key_bytes) (nodes_in space tree) c.args.page =
    subst (λ (d : ℕ). HasSpare (least_items g.row.N tree.key_bytes) (capacity g.row.N tree.key_bytes) (nodes_in space tree) d c.args.page) deep c.requires.spare in (
      omega arith,
      (
        omega arith,
        (
          c.requires.width,
          (
            c.requires.tree,
            (
              (key, below, subst (λ (q : ℕ). LeadsOn g.row.N space tree key below q c.place_in-place.result) (sym same) on),
              (
                c.pair_at-pair.ensures.pair,
                (
                  subst (λ (q : ℕ). HasChildToSpare (least_items g.row.N tree.key_bytes) (capacity g.row.N tree.key_bytes) (nodes_in space tree) q) (sym same) spare,
                  (
                    IsWanting-at g.row.N space tree c.pair_at-pair.result c.args.page c.place_in-place.result c.pair_at-pair.ensures.pair same (omega (arith, c.pair_at-pair.ensures.left, c.saturating_sub.ensures)) few,
                    c.requires.undo_log,
                  ),
                ),
              ),
            ),
          ),
        ),
      ),
    )

pub returns-then-count-least-clause-leads : goal.returns-then-count-least-clause-leads
returns-then-count-least-clause-leads g c =
    let space = c.args.space.now in
    let tree = c.args.tree in
    let key = c.args.key.now in
    let below : ℕ = c.args.depth - 1 in
    let deep : c.args.depth ≡ suc below = omega (arith, c.requires.inner) in
    let large : 256 ≤ g.row.N = omega (arith, c.sound.ensures.size.smallest) in
    let leads : LeadsTo g.row.N space tree key (suc below) c.args.page = subst (λ (d : ℕ). LeadsTo g.row.N space tree key d c.args.page) deep c.requires.leads in
    let way : IsWay (items_at (nodes_in space tree) c.args.page) key c.place_in-place.result = c.place_in-place.ensures in
    let on : LeadsOn g.row.N space tree key below c.args.page c.place_in-place.result = record { leads = leads; way = way } in
    subst (λ (q : ℕ). LeadsTo g.row.N space tree key below q) (sym c.child-child.ensures) (LeadsOn-down g.row.N space tree key below c.args.page c.place_in-place.result on)

pub returns-then-count-least-clause-spare : goal.returns-then-count-least-clause-spare
returns-then-count-least-clause-spare g c =
    HasSpare-more (least_items g.row.N c.args.tree.key_bytes) (capacity g.row.N c.args.tree.key_bytes) (nodes_in c.args.space.now c.args.tree) (c.args.depth - 1) c.child-child.result
    (omega (arith, c.if-count-least.true, c.count.ensures.items, c.least.ensures))

pub returns-clause-leads : goal.returns-clause-leads
returns-clause-leads g c =
    let space = c.args.space.now in
    let tree = c.args.tree in
    let key = c.args.key.now in
    let below : ℕ = c.args.depth - 1 in
    let deep : c.args.depth ≡ suc below = omega (arith, c.requires.inner) in
    let large : 256 ≤ g.row.N = omega (arith, c.sound.ensures.size.smallest) in
    let leads : LeadsTo g.row.N space tree key (suc below) c.args.page = subst (λ (d : ℕ). LeadsTo g.row.N space tree key d c.args.page) deep c.requires.leads in
    let way : IsWay (items_at (nodes_in space tree) c.args.page) key c.place_in-place.result = c.place_in-place.ensures in
    let on : LeadsOn g.row.N space tree key below c.args.page c.place_in-place.result = record { leads = leads; way = way } in
    let same = c.pair_at-pair.ensures.page in
    IfOk-weaker c.fill_child.result _ (λ child. LeadsTo g.row.N c.fill_child.new.space tree key below child)
    (λ child leads_on. leads_on key below (subst (λ (q : ℕ). LeadsOn g.row.N space tree key below q c.place_in-place.result) (sym same) on)) c.fill_child.ensures.leads

pub returns-clause-spare : goal.returns-clause-spare
returns-clause-spare g c =
    let new = nodes_in c.fill_child.new.space c.args.tree in
    IfOk-weaker c.fill_child.result (λ child. least_items g.row.N c.args.tree.key_bytes < length (items_at new child)) (λ child. HasSpare (least_items g.row.N c.args.tree.key_bytes) (capacity g.row.N c.args.tree.key_bytes) new (c.args.depth - 1) child)
    (λ child more. HasSpare-more (least_items g.row.N c.args.tree.key_bytes) (capacity g.row.N c.args.tree.key_bytes) new (c.args.depth - 1) child more) c.fill_child.ensures.more
