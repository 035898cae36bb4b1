use Rattle.std.proofs.Common.{inl, inr, ◌≤◌, arith}
use Rattle.hy_trees.specs.Nodes.{least_items}
use Rattle.hy_joins.proofs.PairLaws.{half-fits}
use Rattle.hy_joins.proofs.FilledLaws.{join-keeps, join-leads, join-more, left-keeps, left-leads, left-more, right-keeps, right-leads, right-more}
use Rattle.hy_joins.proofs.fill_child.Goals as goal

pub join-requires : goal.join-requires
join-requires g c =
    (omega arith, (omega arith, (c.requires.width, (c.requires.pair, (omega (arith, c.if-pair-capacity.true, c.capacity.ensures), c.requires.undo_log)))))

pub share_left-requires : goal.share_left-requires
share_left-requires g c =
    let half = half-fits g.row.N c.args.tree.key_bytes (omega (arith, c.sound.ensures.size.smallest)) c.requires.width in
    let least : c.args.pair.count ≤ least_items g.row.N c.args.tree.key_bytes =
    elim c.requires.wanting [ inl first ↦ first.2 | inr second ↦ absurd (omega (arith, second.0, c.if-place-eq0.true)) ] in
    (omega arith, (omega arith, (c.requires.width, (c.requires.pair, (omega (arith, half, least, c.if-pair-capacity.false, c.capacity.ensures), c.requires.undo_log)))))

pub share_right-requires : goal.share_right-requires
share_right-requires g c =
    let half = half-fits g.row.N c.args.tree.key_bytes (omega (arith, c.sound.ensures.size.smallest)) c.requires.width in
    let least : c.args.pair.more ≤ least_items g.row.N c.args.tree.key_bytes =
    elim c.requires.wanting [ inl first ↦ absurd (c.if-place-eq0.false first.0) | inr second ↦ second.1 ] in
    (omega arith, (omega arith, (c.requires.width, (c.requires.pair, (omega (arith, half, least, c.if-pair-capacity.false, c.capacity.ensures), c.requires.undo_log)))))

pub returns-then-pair-capacity-clause-kept : goal.returns-then-pair-capacity-clause-kept
returns-then-pair-capacity-clause-kept g c =
    join-keeps g.row.N c.args.space.now c.join.new.space c.args.tree c.args.pair c.args.place c.requires.tree
    (omega (arith, c.sound.ensures.size.smallest)) c.requires.width c.requires.pair c.requires.wanting c.requires.leads.0 c.requires.leads.1 c.requires.leads.2
    c.requires.spare (omega (arith, c.if-pair-capacity.true, c.capacity.ensures)) c.in_ok-join.ensures.joins

pub returns-then-pair-capacity-clause-leads : goal.returns-then-pair-capacity-clause-leads
returns-then-pair-capacity-clause-leads g c =
    λ key depth on. join-leads g.row.N c.args.space.now c.join.new.space c.args.tree c.args.pair c.args.place c.requires.tree
    (omega (arith, c.sound.ensures.size.smallest)) c.requires.width c.requires.pair c.requires.wanting key depth on
    c.requires.spare (omega (arith, c.if-pair-capacity.true, c.capacity.ensures)) c.in_ok-join.ensures.joins

pub returns-then-pair-capacity-clause-more : goal.returns-then-pair-capacity-clause-more
returns-then-pair-capacity-clause-more g c =
    join-more g.row.N c.args.space.now c.join.new.space c.args.tree c.args.pair c.args.place c.requires.tree
    (omega (arith, c.sound.ensures.size.smallest)) c.requires.width c.requires.pair c.requires.wanting c.requires.leads.0 c.requires.leads.1 c.requires.leads.2
    c.requires.spare (omega (arith, c.if-pair-capacity.true, c.capacity.ensures)) c.in_ok-join.ensures.joins

pub returns-then-place-eq0-clause-kept : goal.returns-then-place-eq0-clause-kept
returns-then-place-eq0-clause-kept g c =
    left-keeps g.row.N c.args.space.now c.share_left.new.space c.args.tree c.args.pair c.args.place c.requires.tree
    (omega (arith, c.sound.ensures.size.smallest)) c.requires.width c.requires.pair c.requires.wanting c.requires.leads.0 c.requires.leads.1 c.requires.leads.2
    c.if-place-eq0.true (omega (arith, c.if-pair-capacity.false, c.capacity.ensures)) c.in_ok-share_left.ensures.shares

pub returns-then-place-eq0-clause-leads : goal.returns-then-place-eq0-clause-leads
returns-then-place-eq0-clause-leads g c =
    λ key depth on. left-leads g.row.N c.args.space.now c.share_left.new.space c.args.tree c.args.pair c.args.place c.requires.tree
    (omega (arith, c.sound.ensures.size.smallest)) c.requires.width c.requires.pair c.requires.wanting key depth on
    c.if-place-eq0.true (omega (arith, c.if-pair-capacity.false, c.capacity.ensures)) c.in_ok-share_left.ensures.shares

pub returns-then-place-eq0-clause-more : goal.returns-then-place-eq0-clause-more
returns-then-place-eq0-clause-more g c =
    left-more g.row.N c.args.space.now c.share_left.new.space c.args.tree c.args.pair c.args.place c.requires.tree
    (omega (arith, c.sound.ensures.size.smallest)) c.requires.width c.requires.pair c.requires.wanting c.requires.leads.0 c.requires.leads.1 c.requires.leads.2
    c.if-place-eq0.true (omega (arith, c.if-pair-capacity.false, c.capacity.ensures)) c.in_ok-share_left.ensures.shares

pub returns-clause-kept : goal.returns-clause-kept
returns-clause-kept g c =
    right-keeps g.row.N c.args.space.now c.share_right.new.space c.args.tree c.args.pair c.args.place c.requires.tree
    (omega (arith, c.sound.ensures.size.smallest)) c.requires.width c.requires.pair c.requires.wanting c.requires.leads.0 c.requires.leads.1 c.requires.leads.2
    c.if-place-eq0.false (omega (arith, c.if-pair-capacity.false, c.capacity.ensures)) c.in_ok-share_right.ensures.shares

pub returns-clause-leads : goal.returns-clause-leads
returns-clause-leads g c =
    λ key depth on. right-leads g.row.N c.args.space.now c.share_right.new.space c.args.tree c.args.pair c.args.place c.requires.tree
    (omega (arith, c.sound.ensures.size.smallest)) c.requires.width c.requires.pair c.requires.wanting key depth on
    c.if-place-eq0.false (omega (arith, c.if-pair-capacity.false, c.capacity.ensures)) c.in_ok-share_right.ensures.shares

pub returns-clause-more : goal.returns-clause-more
returns-clause-more g c =
    right-more g.row.N c.args.space.now c.share_right.new.space c.args.tree c.args.pair c.args.place c.requires.tree
    (omega (arith, c.sound.ensures.size.smallest)) c.requires.width c.requires.pair c.requires.wanting c.requires.leads.0 c.requires.leads.1 c.requires.leads.2
    c.if-place-eq0.false (omega (arith, c.if-pair-capacity.false, c.capacity.ensures)) c.in_ok-share_right.ensures.shares
