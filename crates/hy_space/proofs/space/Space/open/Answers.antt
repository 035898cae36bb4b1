use Rattle.std.proofs.Common.{◌≡◌, ◌<◌, ◌^◌, set, length, Some, ap, sym, ◌∙◌, arith}
use Rattle.hy_frames.specs.FrameTable.{count_of}
use Rattle.hy_space.specs.Space.{SpaceState, child_table, child_bytes}
use Rattle.hy_space.proofs.SpaceLaws.{room_for_user, forked}
use Rattle.hy_space.proofs.space.Space.open.Goals as goal

-- each frame of the table has a user, and room for one more
pub share_table-requires : goal.share_table-requires
share_table-requires g c =
    let s : SpaceState = record { owner = c.self.inside.owner; children = c.self.inside.children.items; frames = c.self.inside.frames } in
    let children = c.self.inside.children in
    let short : length children.items < 2 ^ 63 = omega (arith, children.ok.0, children.ok.1, children.small) in (
      omega arith,
      (
        λ f more. omega (arith, c.requires.used f, ap (λ (now : SpaceState). count_of now.frames f) c.self.view_is),
        λ f. omega (arith, room_for_user g.row.N s c.self.invariant f, c.requires.once f, short),
      ),
    )

pub returns-clause-others : goal.returns-clause-others
returns-clause-others g c =
    let s : SpaceState = record { owner = c.self.inside.owner; children = c.self.inside.children.items; frames = c.self.inside.frames } in
    let is : s ≡ c.args.self.now = c.self.view_is in
    let children = c.place_for_child.new.children.items in
    let seen = forked g.row.N s c.self.invariant c.args.table children c.in_ok-child.child c.share_table.new.frames
    c.in_ok-child.ensures.padded c.share_table.ensures in
    record {
      tables = λ other apart. (seen other apart).0 ∙ ap (λ now. child_table now other) is;
      bytes = λ other apart. (seen other apart).1 ∙ ap (λ now. child_bytes now other) is;
    }
