use Rattle.std.proofs.Common.{◌≡◌, replicate, inl, inr, ◌⊎◌, arith, rules}
use Rattle.hy_undo.specs.Writes.{HasChild}
use Rattle.hy_trees.specs.Nodes.{capacity, least_items, node_at}
use Rattle.hy_nodes.specs.Pages.{nodes_in}
use Rattle.hy_nodes.proofs.WriteLaws.{writes-then}
use Rattle.hy_splits.proofs.TopLaws.{root-free, space-few, space-full, space-height, space-higher, space-keeps, space-pages, space-room}
use Rattle.hy_splits.proofs.WayLaws.{HasFewFree-none, KeepsPages-grown, grows-pages}
use Rattle.hy_splits.proofs.split_root.Goals as goal

pub raise_root-requires : goal.raise_root-requires
raise_root-requires g c =
    let space = c.args.space.now in
    let tree = c.args.tree in
    let free = root-free (least_items g.row.N tree.key_bytes) (capacity g.row.N tree.key_bytes) (replicate tree.key_bytes 0) (nodes_in space tree) c.requires.tree in
    let height = space-height g.row.N space tree c.requires.tree c.requires.there c.sound.ensures in
    (omega arith, (omega arith, (c.requires.there, (c.requires.width, (free, (omega (arith, c.requires.full), (height, c.requires.undo_log)))))))

pub returns-in_err-raise_root-clause-pages : goal.returns-in_err-raise_root-clause-pages
returns-in_err-raise_root-clause-pages g c =
    let space = c.args.space.now in
    let tree = c.args.tree in
    let between = c.raise_root.new.space in
    let first = grows-pages space between tree c.requires.there (omega (arith, c.requires.there, c.raise_root.ensures.writes.segments)) c.raise_root.ensures.pages c.raise_root.ensures.kept in
    KeepsPages-grown g.row.N space tree c.requires.tree between first

pub returns-in_err-raise_root-clause-wanted : goal.returns-in_err-raise_root-clause-wanted
returns-in_err-raise_root-clause-wanted g c failed =
    let wanted : HasChild c.raise_root.new.space ⊎ ((node_at (nodes_in c.args.space.now c.args.tree) 0).next ≡ 0) = search rules in
    elim wanted [
      | inl child ↦ inl child
      | inr none ↦ inr (HasFewFree-none g.row.N c.args.space.now c.args.tree c.requires.tree 2 none)
    ]

pub split_child-requires : goal.split_child-requires
split_child-requires g c =
    let space = c.args.space.now in
    let tree = c.args.tree in
    let between = c.raise_root.new.space in
    let segment = c.raise_root.ensures.writes.segments in
    let full = space-full g.row.N space tree c.requires.tree between c.sound.ensures.size.smallest c.requires.width c.requires.full c.in_ok-raise_root.ensures.raised in
    (omega arith, (omega arith, (omega (arith, c.requires.there, segment), (c.requires.width, (c.requires.key, (full, c.raise_root.ensures.writes.undoes.undo_log))))))

pub returns-in_err-split_child-clause-writes : goal.returns-in_err-split_child-clause-writes
returns-in_err-split_child-clause-writes g c = writes-then g.row.N c.args.tree.segment c.args.space.now c.raise_root.new.space c.split_child.new.space c.args.undo.now c.raise_root.new.undo c.split_child.new.undo c.raise_root.ensures.writes c.split_child.ensures.writes

pub returns-in_err-split_child-clause-pages : goal.returns-in_err-split_child-clause-pages
returns-in_err-split_child-clause-pages g c =
    let space = c.args.space.now in
    let tree = c.args.tree in
    let between = c.raise_root.new.space in
    let first = grows-pages space between tree c.requires.there (omega (arith, c.requires.there, c.raise_root.ensures.writes.segments)) c.raise_root.ensures.pages c.raise_root.ensures.kept in
    let second = grows-pages between c.split_child.new.space tree (omega (arith, c.requires.there, c.raise_root.ensures.writes.segments)) (omega (arith, c.requires.there, c.raise_root.ensures.writes.segments, c.split_child.ensures.writes.segments)) c.split_child.ensures.pages c.split_child.ensures.kept in
    space-pages g.row.N space tree c.requires.tree between c.sound.ensures.size.smallest c.requires.width c.requires.full c.in_ok-raise_root.ensures.raised c.split_child.new.space first second

pub returns-in_err-split_child-clause-wanted : goal.returns-in_err-split_child-clause-wanted
returns-in_err-split_child-clause-wanted g c failed =
    let space = c.args.space.now in
    let tree = c.args.tree in
    let between = c.raise_root.new.space in
    let wanted : HasChild c.split_child.new.space ⊎ ((node_at (nodes_in between tree) 0).next ≡ 0) = search rules in
    elim wanted [
      | inl child ↦ inl child
      | inr none ↦ inr (space-few g.row.N space tree c.requires.tree between c.sound.ensures.size.smallest c.requires.width c.requires.full c.in_ok-raise_root.ensures.raised none)
    ]

pub returns-clause-writes : goal.returns-clause-writes
returns-clause-writes g c = writes-then g.row.N c.args.tree.segment c.args.space.now c.raise_root.new.space c.split_child.new.space c.args.undo.now c.raise_root.new.undo c.split_child.new.undo c.raise_root.ensures.writes c.split_child.ensures.writes

pub returns-clause-kept : goal.returns-clause-kept
returns-clause-kept g c =
    let space = c.args.space.now in
    let tree = c.args.tree in
    let between = c.raise_root.new.space in
    let first = grows-pages space between tree c.requires.there (omega (arith, c.requires.there, c.raise_root.ensures.writes.segments)) c.raise_root.ensures.pages c.raise_root.ensures.kept in
    let second = grows-pages between c.split_child.new.space tree (omega (arith, c.requires.there, c.raise_root.ensures.writes.segments)) (omega (arith, c.requires.there, c.raise_root.ensures.writes.segments, c.split_child.ensures.writes.segments)) c.split_child.ensures.pages c.split_child.ensures.kept in
    space-keeps g.row.N space tree c.requires.tree between c.sound.ensures.size.smallest c.requires.width c.requires.full c.in_ok-raise_root.ensures.raised c.split_child.new.space first second c.args.key.now c.in_ok-split_child.field-0 c.in_ok-split_child.ensures.split

pub returns-clause-height : goal.returns-clause-height
returns-clause-height g c =
    let space = c.args.space.now in
    let tree = c.args.tree in
    let between = c.raise_root.new.space in
    let first = grows-pages space between tree c.requires.there (omega (arith, c.requires.there, c.raise_root.ensures.writes.segments)) c.raise_root.ensures.pages c.raise_root.ensures.kept in
    let second = grows-pages between c.split_child.new.space tree (omega (arith, c.requires.there, c.raise_root.ensures.writes.segments)) (omega (arith, c.requires.there, c.raise_root.ensures.writes.segments, c.split_child.ensures.writes.segments)) c.split_child.ensures.pages c.split_child.ensures.kept in
    space-higher g.row.N space tree c.requires.tree between c.sound.ensures.size.smallest c.requires.width c.requires.full c.in_ok-raise_root.ensures.raised c.split_child.new.space first second c.args.key.now c.in_ok-split_child.field-0 c.in_ok-split_child.ensures.split

pub returns-clause-room : goal.returns-clause-room
returns-clause-room g c =
    let space = c.args.space.now in
    let tree = c.args.tree in
    let between = c.raise_root.new.space in
    let first = grows-pages space between tree c.requires.there (omega (arith, c.requires.there, c.raise_root.ensures.writes.segments)) c.raise_root.ensures.pages c.raise_root.ensures.kept in
    let second = grows-pages between c.split_child.new.space tree (omega (arith, c.requires.there, c.raise_root.ensures.writes.segments)) (omega (arith, c.requires.there, c.raise_root.ensures.writes.segments, c.split_child.ensures.writes.segments)) c.split_child.ensures.pages c.split_child.ensures.kept in
    space-room g.row.N space tree c.requires.tree between c.sound.ensures.size.smallest c.requires.width c.requires.full c.in_ok-raise_root.ensures.raised c.split_child.new.space first second c.args.key.now c.in_ok-split_child.field-0 c.in_ok-split_child.ensures.split

pub returns-clause-pages : goal.returns-clause-pages
returns-clause-pages g c =
    let space = c.args.space.now in
    let tree = c.args.tree in
    let between = c.raise_root.new.space in
    let first = grows-pages space between tree c.requires.there (omega (arith, c.requires.there, c.raise_root.ensures.writes.segments)) c.raise_root.ensures.pages c.raise_root.ensures.kept in
    let second = grows-pages between c.split_child.new.space tree (omega (arith, c.requires.there, c.raise_root.ensures.writes.segments)) (omega (arith, c.requires.there, c.raise_root.ensures.writes.segments, c.split_child.ensures.writes.segments)) c.split_child.ensures.pages c.split_child.ensures.kept in
    space-pages g.row.N space tree c.requires.tree between c.sound.ensures.size.smallest c.requires.width c.requires.full c.in_ok-raise_root.ensures.raised c.split_child.new.space first second
