use Rattle.std.proofs.Common.{◌∙◌, ◌≤◌, ℕ, subst, sym}
use Rattle.hy_rows.specs.Limits.{max_warehouses}
use Rattle.hy_engine.proofs.RoomLaws.{same-rooms}
use Rattle.hy_engine.proofs.engine.engine_in.Goals as goal

pub invariant_of-result : goal.invariant_of-result
invariant_of-result g c =
    let rooms = same-rooms (record { jobs = c.rooms.inside.jobs.items; answers = c.rooms.inside.answers.items })
    c.args.rooms c.rooms.view_is _ _ _ c.requires.jobs c.requires.answers in (
      rooms.0 ∙ sym c.locked.ensures,
      subst (λ (n : ℕ). n ≤ max_warehouses) (sym c.locked.ensures) c.requires.few,
      rooms.1,
      rooms.2,
      rooms.3,
    )
