use Rattle.std.proofs.Common.{refl, ◌∙◌, sym}
use Rattle.hy_frames.proofs.FrameLaws.{user_added}
use Rattle.hy_frames.proofs.frames.Frames.share.Goals as goal

pub invariant_of-self : goal.invariant_of-self
invariant_of-self g c =
    user_added g.row.N _ c.args.self.now c.self.inside.unused.items _ c.self.inside.shared _ _ c.index.result c.args.f c.index_mut-slot.result.now c.self.invariant c.self.view_is c.index.ensures c.requires.used c.index_mut-slot.ensures.value c.add_user.new.self _ c.add_user.ensures (λ _. refl) (λ many. absurd (many (sym c.count-count.ensures ∙ c.if-count-eq1.true)))

pub invariant_of-self-else-count-eq1 : goal.invariant_of-self-else-count-eq1
invariant_of-self-else-count-eq1 g c =
    user_added g.row.N _ c.args.self.now c.self.inside.unused.items _ c.self.inside.shared _ _ c.index.result c.args.f c.index_mut-slot.result.now c.self.invariant c.self.view_is c.index.ensures c.requires.used c.index_mut-slot.ensures.value c.add_user.new.self _ c.add_user.ensures (λ one. absurd (c.if-count-eq1.false (c.count-count.ensures ∙ one))) (λ _. refl)
