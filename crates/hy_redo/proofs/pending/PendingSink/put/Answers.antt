use Rattle.std.proofs.Common.{◌≡◌, [], sym, ap, subst, ◌∙◌}
use Rattle.hy_redo.specs.inside.Sending.{Hands, Held, hands_both}
use Rattle.hy_redo.proofs.SendingLaws.{kept}
use Rattle.hy_redo.proofs.pending.PendingSink.put.Goals as goal

pub returns-then-is_err : goal.returns-then-is_err
returns-then-is_err g c =
    let held = kept c.extend_from_slice.result _ c.self.inside.bytes.items
    (sym c.is_err.ensures.value ∙ c.if-is_err.true) in
    let same = ap (λ bytes. record {
      told = g.W.LogOut.told c.self.inside.out;
      bytes = bytes;
      has_failed = c.self.inside.has_failed;
    }) (c.extend_from_slice.ensures.items ∙ held) ∙ c.self.view_is in
    hands_both c.args.self.now c.flush.new.self c.send.new.self [] c.args.bytes.now
    (subst (λ (before : Held). Hands before c.flush.new.self []) same c.flush.ensures.sent) c.send.ensures.sent
