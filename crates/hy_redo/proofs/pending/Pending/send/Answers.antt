use Rattle.std.proofs.Common.{◌≡◌, [], sym, ap, subst, ◌∙◌}
use Rattle.hy_redo.specs.inside.Sending.{Hands, Held}
use Rattle.hy_redo.proofs.SendingLaws.{sent_whole}
use Rattle.hy_redo.proofs.pending.Pending.send.Goals as goal

pub returns-else-is_err-clause-sent : goal.returns-else-is_err-clause-sent
returns-else-is_err-clause-sent g c =
    let told = g.W.LogOut.told in
    let none : c.self.inside.bytes.items ≡ [] = ap (λ (held : Held). held.bytes) c.self.view_is ∙ c.requires in
    let old : Held =
    record { told = told c.self.inside.out; bytes = c.self.inside.bytes.items; has_failed = c.self.inside.has_failed } in
    let new : Held =
    record { told = told c.write_all.new.out; bytes = c.self.inside.bytes.items; has_failed = c.self.inside.has_failed } in
    subst (λ (held : Held). Hands held new c.args.bytes.now) c.self.view_is
    (sent_whole old new c.args.bytes.now c.write_all.result (sym c.is_err.ensures.value ∙ c.if-is_err.false)
    c.write_all.ensures c.if-self.false c.if-self.false none none)
