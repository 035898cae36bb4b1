use Rattle.std.proofs.Common.{sym, subst, ◌<◌, length, arith, rules}
use Rattle.std.specs.Prelude.{IsSome, List, find}
use Rattle.hy_trees.specs.Nodes.{Item}
use Rattle.hy_trees.specs.Searches.{is_at}
use Rattle.hy_joins.proofs.of_nodes.WriteLaws.{writes-then}
use Rattle.hy_index.proofs.LeafLaws.{sought-found}
use Rattle.hy_index.proofs.edit.remove_by_joins.Goals as goal

pub take_there-requires : goal.take_there-requires
take_there-requires g c =
    let to = c.in_ok-leaf.ensures in
    let there : c.args.tree.segment < length c.make_spare.new.space.owner = omega (arith, to.writes.segments, c.requires.there) in (
      omega arith,
      (
        omega arith,
        (
          there,
          (
            c.requires.width,
            (
              c.requires.key,
              (
                to.kept.is_tree,
                (
                  to.leaf.0,
                  (
                    sought-found g.row.N c.make_spare.new.space c.args.tree c.args.key.now there c.sound.ensures to.kept.is_tree c.in_ok-leaf.leaf to.leaf.0 c.seek_in-place.result.place c.seek_in-place.result.is_there c.seek_in-place.ensures.sought
                        (subst (λ (items : List Item). IsSome (find (is_at c.args.key.now) items)) (sym to.kept.entries) c.requires.found),
                    (to.leaf.1, search rules),
                  ),
                ),
              ),
            ),
          ),
        ),
      ),
    )

pub returns-clause-writes : goal.returns-clause-writes
returns-clause-writes g c = writes-then g.row.N c.args.tree.segment c.args.space.now c.make_spare.new.space c.take_there.new.space c.args.undo.now c.make_spare.new.undo c.take_there.new.undo c.in_ok-leaf.ensures.writes c.take_there.ensures.writes
