use Rattle.std.proofs.Common.{rules, ℕ, List, subst, sym}
use Rattle.hy_engine.specs.Engines.{HavePlaces}
use Rattle.hy_engine.proofs.RoomLaws.{places-more}
use Rattle.hy_engine.proofs.engine.lines.Goals as goal

pub loop-preserved : goal.loop-preserved
loop-preserved g c = (
  search rules,
  search rules,
  subst (λ (queues : List ℕ). HavePlaces c.args.capacity queues) (sym c.push_reserved.ensures.items)
      (places-more c.args.capacity c.in_ok-new.field-0 c.loop.lines.items c.loop.invariant.2 c.in_ok-new.ensures),
)
