use Rattle.std.proofs.Common.{◌<◌, ap, ◌∙◌, arith, get_or, rules}
use Rattle.std.proofs.lemmas.List.{get_or_default}
use Rattle.hy_frames.specs.FrameTable.{Frame, empty_frame}
use Rattle.hy_frames.proofs.FrameLaws.{used_in_range}
use Rattle.hy_frames.proofs.frames.fill.Goals as goal

-- the slot of a frame in use is there
pub bounds-slots-index : goal.bounds-slots-index
bounds-slots-index g c = used_in_range c.args.slots.now c.index.result (omega (arith, c.requires.used c.in-Some.f c.in-Some.is, ap (λ f. (get_or c.args.slots.now f empty_frame).count) c.index.ensures))

pub page-requires : goal.page-requires
page-requires g c =
    let slots = c.args.slots.now in
    let used : 0 < (get_or slots c.index.result empty_frame).count = omega (arith, c.requires.used c.in-Some.f c.in-Some.is, ap (λ f. (get_or slots f empty_frame).count) c.index.ensures) in
    let within = used_in_range slots c.index.result used in
    let is = c.index-slots-index.is ∙ get_or_default slots c.index.result c.index-slots-index.result empty_frame within in
    (omega arith, (search rules, omega (arith, ap (λ (x : Frame). x.count) is)))
