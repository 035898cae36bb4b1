use Rattle.std.proofs.Common.{refl, ap, ◌++◌, ◌∷◌, [], ◌∙◌, sym}
use Rattle.hy_frames.proofs.FrameLaws.{user_dropped, last_dropped}
use Rattle.hy_frames.proofs.frames.Frames.drop_one.Goals as goal

pub invariant_of-self : goal.invariant_of-self
invariant_of-self g c =
    last_dropped g.row.N _ c.args.self.now c.self.inside.unused.items _ c.self.inside.shared _ _ c.index.result c.args.f c.index_mut-slot.result.now c.self.invariant c.self.view_is c.index.ensures c.requires c.index_mut-slot.ensures.value c.empty-page.new.self c.push_reserved.new.self.items _ _ _ (sym c.count-count.ensures ∙ c.if-count-eq1.true) c.empty-page.ensures (c.push_reserved.ensures.items ∙ ap (λ n. c.self.inside.unused.items ++ n ∷ []) (sym c.index.ensures)) c.push_reserved.ensures.capacity c.keep_spare.ensures.more c.keep_spare.ensures.room

pub invariant_of-self-then-count-eq2 : goal.invariant_of-self-then-count-eq2
invariant_of-self-then-count-eq2 g c =
    user_dropped g.row.N _ c.args.self.now c.self.inside.unused.items _ c.self.inside.shared _ _ c.index.result c.args.f c.index_mut-slot.result.now c.self.invariant c.self.view_is c.index.ensures c.requires c.index_mut-slot.ensures.value c.drop_user.new.self _ (λ one. c.if-count-eq1.false (c.count-count.ensures ∙ one)) c.drop_user.ensures (λ _. refl) (λ more. absurd (more (sym c.count-count.ensures ∙ c.if-count-eq2.true)))

pub invariant_of-self-else-count-eq2 : goal.invariant_of-self-else-count-eq2
invariant_of-self-else-count-eq2 g c =
    user_dropped g.row.N _ c.args.self.now c.self.inside.unused.items _ c.self.inside.shared _ _ c.index.result c.args.f c.index_mut-slot.result.now c.self.invariant c.self.view_is c.index.ensures c.requires c.index_mut-slot.ensures.value c.drop_user.new.self _ (λ one. c.if-count-eq1.false (c.count-count.ensures ∙ one)) c.drop_user.ensures (λ two. absurd (c.if-count-eq2.false (c.count-count.ensures ∙ two))) (λ _. refl)
