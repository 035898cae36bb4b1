use Rattle.std.proofs.Common.{ℕ, ◌≡◌, suc, ◌-◌, replicate, arith}
use Rattle.hy_trees.specs.Trees.{height_of}
use Rattle.hy_nodes.specs.Pages.{nodes_in}
use Rattle.hy_joins.proofs.PairLaws.{LeadsTo-zeros, page-two}
use Rattle.hy_joins.proofs.small_root.Goals as goal

pub pair_at-pair-requires : goal.pair_at-pair-requires
pair_at-pair-requires g c =
    let space = c.args.space.now in
    let tree = c.args.tree in
    let below : ℕ = c.height.result - 1 in
    let high : suc below ≡ height_of (nodes_in space tree) = omega (arith, c.height.ensures, c.if-height-eq0.false) in
    let leads = LeadsTo-zeros g.row.N space tree c.requires.tree (suc below) high in (
      omega arith,
      (
        c.requires.there,
        (
          c.requires.width,
          (
            c.requires.tree,
            (
              (replicate tree.key_bytes 0, below, leads),
              page-two g.row.N space tree c.requires.there c.sound.ensures c.requires.tree (omega (arith, c.sound.ensures.size.smallest)) c.requires.width (replicate tree.key_bytes 0) below 0 leads,
            ),
          ),
        ),
      ),
    )
