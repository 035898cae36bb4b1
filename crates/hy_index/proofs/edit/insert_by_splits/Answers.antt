use Rattle.std.proofs.Common.{ap, ◌∙◌, ◌<◌, length, arith, rules}
use Rattle.std.specs.Prelude.{find}
use Rattle.hy_trees.specs.Searches.{is_at}
use Rattle.hy_index.proofs.LeafLaws.{sought-absent}
use Rattle.hy_index.proofs.edit.insert_by_splits.Goals as goal

pub put_new-requires : goal.put_new-requires
put_new-requires g c =
    let to = c.in_ok-leaf.ensures in
    let there : c.args.tree.segment < length c.make_room.new.space.owner = omega (arith, to.writes.segments, c.requires.there) in (
      omega arith,
      (
        omega arith,
        (
          there,
          (
            c.requires.width,
            (
              c.requires.key,
              (
                to.kept.is_tree,
                (
                  to.leaf.0,
                  (
                    sought-absent g.row.N c.make_room.new.space c.args.tree c.args.key.now there c.sound.ensures to.kept.is_tree c.in_ok-leaf.leaf to.leaf.0 c.seek_in-place.result.place c.seek_in-place.result.is_there c.seek_in-place.ensures.sought
                        (ap (find (is_at c.args.key.now)) to.kept.entries ∙ c.requires.absent),
                    (to.leaf.1, search rules),
                  ),
                ),
              ),
            ),
          ),
        ),
      ),
    )
