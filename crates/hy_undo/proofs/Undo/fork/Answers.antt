use Rattle.std.proofs.Common.{lit<, ◌≡◌, ◌+◌, Some, None, get_or, ap, ◌∙◌, sym}
use Rattle.hy_frames.specs.FrameTable.{count_of}
use Rattle.hy_space.specs.Space.{child_table, child_times}
use Rattle.hy_undo.specs.inside.Fork.{rows_of}
use Rattle.hy_undo.proofs.ForkLaws.{users_now, lent_now, forked_beside, forked_rows, forked_images, still_undo_log, writable, as_before, undo_log_as_before}
use Rattle.hy_undo.proofs.SplitLaws.{ChangesChild-then}
use Rattle.hy_undo.proofs.Undo.fork.Goals as goal

pub split_touched-requires : goal.split_touched-requires
split_touched-requires g c =
    let old = c.args.space.now in
    let fork = c.in-Ok.ensures in
    let beside = forked_beside g.row.N old c.sound.ensures c.fork.new.self c.in-Ok.child fork.table fork.owner fork.users in
    let rows = forked_rows g.row.N old c.sound.ensures c.fork.new.self c.in-Ok.child fork.table fork.owner fork.users in
    let images = forked_images g.row.N old c.sound.ensures c.fork.new.self c.in-Ok.child fork.table fork.owner fork.users c.args.self.now.images c.requires.images in
    (lit< tt, (lit< tt, (beside, (rows, images))))

pub returns-then-is_err-clause-err : goal.returns-then-is_err-clause-err
returns-then-is_err-clause-err g c =
    let fork = c.in-Ok.ensures in
    let close = c.close.ensures in
    as_before g.row.N c.args.space.now c.sound.ensures c.fork.new.self c.in-Ok.child fork.table fork.owner fork.users
    c.split_touched.new.space c.split_touched.ensures.changes c.close.new.self fork.least fork.others c.split_touched.ensures.beside
    close.closed close.others close.owner close.users

pub returns-then-is_err-clause-undo_log : goal.returns-then-is_err-clause-undo_log
returns-then-is_err-clause-undo_log g c =
    undo_log_as_before g.row.N c.args.space.now c.close.new.self c.args.self.now (returns-then-is_err-clause-err g c) c.requires

pub put_back_in_child-requires : goal.put_back_in_child-requires
put_back_in_child-requires g c =
    let fork = c.in-Ok.ensures in
    let child = c.in-Ok.child in
    let forked = c.fork.new.self in
    let now = c.cut_child.new.space in
    let cut = c.cut_child.ensures in
    let changes = ChangesChild-then forked c.split_touched.new.space now child c.split_touched.ensures.changes cut.changes in
    let images = writable g.row.N c.args.space.now c.sound.ensures forked child fork.table fork.owner fork.users now changes c.args.self.now c.requires cut.beside cut.split cut.short in
    (lit< tt, (lit< tt, (cut.beside.is_open, images)))

pub returns-clause-undo_log : goal.returns-clause-undo_log
returns-clause-undo_log g c =
    let fork = c.in-Ok.ensures in
    let child = c.in-Ok.child in
    let forked = c.fork.new.self in
    let now = c.cut_child.new.space in
    let cut = c.cut_child.ensures in
    let back = c.put_back_in_child.ensures in
    let changes = ChangesChild-then forked c.split_touched.new.space now child c.split_touched.ensures.changes cut.changes in
    still_undo_log g.row.N c.args.space.now c.sound.ensures forked child fork.table fork.owner fork.users now changes
    c.args.self.now c.put_back_in_child.new.space c.requires cut.split cut.apart back.only.owner.table back.only.counts back.only.lent

pub returns-clause-users : goal.returns-clause-users
returns-clause-users g c f =
    let fork = c.in-Ok.ensures in
    let child = c.in-Ok.child in
    let forked = c.fork.new.self in
    let now = c.cut_child.new.space in
    let cut = c.cut_child.ensures in
    let back = c.put_back_in_child.ensures in
    let changes = ChangesChild-then forked c.split_touched.new.space now child c.split_touched.ensures.changes cut.changes in
    let table : child_table c.put_back_in_child.new.space child ≡ Some (rows_of now child) = ap (λ all. get_or all child None) back.only.tables ∙ cut.beside.is_open in
    back.only.counts f ∙ users_now g.row.N c.args.space.now c.sound.ensures forked child fork.table fork.owner fork.users now changes f
    ∙ ap (λ t. count_of c.args.space.now.frames f + child_times f t) (sym table)

pub returns-clause-lent : goal.returns-clause-lent
returns-clause-lent g c f used =
    let fork = c.in-Ok.ensures in
    let child = c.in-Ok.child in
    let forked = c.fork.new.self in
    let now = c.cut_child.new.space in
    let changes = ChangesChild-then forked c.split_touched.new.space now child c.split_touched.ensures.changes c.cut_child.ensures.changes in
    c.put_back_in_child.ensures.only.lent f ∙ lent_now g.row.N c.args.space.now c.sound.ensures forked child fork.table fork.owner fork.users now changes f used
