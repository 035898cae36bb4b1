use Rattle.std.proofs.Common.{◌≡◌, ℕ, true, ◌∷◌, [], map, subst, sym, ap, ◌∙◌, arith, length, get_or, ◌<◌, take, ◌+◌}
use Rattle.std.proofs.lemmas.List.{map-append}
use Rattle.hy_frames.specs.FrameTable.{occurrences, lent_at}
use Rattle.hy_space.specs.Space.{Lends}
use Rattle.hy_space.proofs.UserLaws.{IsHeld, IsHeld-next}
use Rattle.hy_space.proofs.users.holds_of_table.Goals as goal

-- the next segment's pages are held too
pub loop-segment-preserved : goal.loop-segment-preserved
loop-segment-preserved g c =
    let table = c.args.table.now in
    let items = c.segments-segment-items.result.now in
    let i = c.loop-segment.segment-index in
    let segment = c.segment-item.result in
    let same_table : items ≡ table = c.segments-segment-items.ensures in
    let within : i < length table = omega (arith, ap length same_table) in
    let read : segment ≡ get_or table i segment = c.segment-item.is ∙ ap (λ t. get_or t i segment) same_table in
    let pages = c.in_ok-holds_of_each.ensures.holds ∙ ap (map _) c.frames.ensures in
    let lends = subst (λ numbers. Lends c.loop-segment.frames c.holds_of_each.new.frames (λ f. occurrences f numbers)) c.frames.ensures c.holds_of_each.ensures.lends in
    let lent = subst (λ numbers. (f : ℕ) → 0 < occurrences f numbers → lent_at c.holds_of_each.new.frames f ≡ true) c.frames.ensures c.in_ok-holds_of_each.ensures.lent in
    let next = IsHeld-next c.args.frames.now c.loop-segment.frames c.holds_of_each.new.frames _ table i segment _ within read c.loop-segment.invariant pages lends lent in
    subst (λ held. IsHeld c.args.frames.now c.holds_of_each.new.frames held (take (i + 1) table)) (sym (ap (map _) c.in_ok-push.ensures.items ∙ map-append _ c.loop-segment.holds.items (c.in_ok-holds_of_each.field-0 ∷ []))) next
