use Rattle.std.proofs.Common.{◌≡◌, ◌<◌, [], length, get_or, ap, sym, ◌∙◌, subst, arith}
use Rattle.std.proofs.lemmas.List.{get_or_read}
use Rattle.hy_space.specs.Space.{SpaceState}
use Rattle.hy_space.proofs.SizeLaws.{page_count-le}
use Rattle.hy_space.proofs.space.Space.pages.Goals as goal

-- a segment has no more pages than frames are in use
pub overflow_cast-result : goal.overflow_cast-result
overflow_cast-result g c =
    let s : SpaceState = record { owner = c.self.inside.owner; children = c.self.inside.children.items; frames = c.self.inside.frames } in
    let is : s ≡ c.args.self.now = c.self.view_is in
    let there : c.args.segment < length s.owner = subst (λ now. c.args.segment < length now.owner) (sym is) c.requires in
    let row : c.index-segments-segment.result ≡ get_or s.owner c.args.segment [] = get_or_read c.segments.result.now c.args.segment c.index-segments-segment.result (omega (arith, ap length c.segments.ensures)) c.index-segments-segment.is [] ∙ ap (λ rows. get_or rows c.args.segment []) c.segments.ensures in
    omega (arith, page_count-le g.row.N s c.args.segment c.self.invariant there, ap length (c.frames.ensures ∙ row), c.sound.ensures.within, c.sound.ensures.limit)
