-- One layout more.
use Rattle.std.proofs.Common.{◌≡◌, ◌+◌, ℕ, suc, length, ap, arith, ◌∙◌}
use Rattle.hy_layout.specs.Layout.{LayoutState}
use Rattle.hy_sound.proofs.ListLaws.{each-next, length-next}
use Rattle.hy_sound.proofs.known.layouts_of.Goals as goal

pub loop-before-preserved : goal.loop-before-preserved
loop-before-preserved c =
    let made = c.loop-before.layouts.items in
    let count : length made ≡ c.loop-before.before = c.loop-before.invariant.count in
    let more : length c.push_reserved.new.self.items ≡ length made + 1 =
    ap length c.push_reserved.ensures.items ∙ length-next made c.in_ok-new.field-0 in
    let next : c.loop-before.before + 1 ≡ suc (length made) = omega (arith, count) in
    let here : c.in_ok-new.field-0 ≡ record { load = c.args.load.now; warehouse = suc (length made) } =
    c.in_ok-new.ensures ∙ ap (λ n. record { load = c.args.load.now; warehouse = n }) next in
    record {
      count = omega (arith, more, count);
      room = omega (arith, c.push_reserved.ensures.capacity, c.loop-before.invariant.room);
      each = rw c.push_reserved.ensures.items (each-next
          (λ (place : ℕ) (layout : LayoutState). layout ≡ record { load = c.args.load.now; warehouse = suc place })
          made c.in_ok-new.field-0 c.loop-before.invariant.each here);
    }
