use Rattle.std.proofs.Common.{subst}
use Rattle.hy_space.specs.Space.{IsSound}
use Rattle.hy_space.proofs.SoundLaws.{IsSound-from}
use Rattle.hy_space.proofs.space.Space.sound.Goals as goal

pub returns : goal.returns
returns g c = subst (IsSound g.row.N) c.self.view_is (IsSound-from g.row.N (record { owner = c.self.inside.owner; children = c.self.inside.children.items; frames = c.self.inside.frames }) c.self.invariant c.sound.ensures)
