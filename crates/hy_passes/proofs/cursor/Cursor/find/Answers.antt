use Rattle.std.proofs.Common.{List, subst, take}
use mathlib.Core.List.{IsPrefix}
use Rattle.hy_passes.specs.declared.entry.Entry.{Entry}
use Rattle.hy_passes.proofs.Beginnings.{begins_taken, begins_through}
use Rattle.hy_passes.proofs.cursor.Cursor.find.Goals as goal

pub returns-clause-begins : goal.returns-clause-begins
returns-clause-begins g c =
    let seen = c.self.inside.pass.seen in
    let log = c.args.journal.now.list.log in
    subst (λ (front : List (Entry g.row.C.Denot)). IsPrefix front log) c.self.view_is
    (begins_through (take c.self.inside.size seen) seen log (begins_taken c.self.inside.size seen)
    c.tell_client.ensures.begins)
