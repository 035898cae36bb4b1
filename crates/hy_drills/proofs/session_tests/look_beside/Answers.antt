use denote.RattleType.{RattleType}
use denote.Param.{number}
use denote.Param.Send.{IsSend, recorded_send, sendable, struct_send}
use denote.Struct.Declared.{shape}
use Rattle.std.proofs.Crossing.{crosses}
use Rattle.hy_partition.specs.declared.world.Loaded
use Rattle.hy_crossing.below.hy_worlds.specs.declared.world.World
use Rattle.hy_storm.proofs.of_engine.engine.Engine.TheSendSync as engine
use Rattle.hy_storm.proofs.of_session.SendLaws.{send}
use Rattle.hy_drills.proofs.gates.Held.TheSendSync as held
use Rattle.hy_drills.specs.contracts.session_tests.Opened
use Rattle.hy_drills.proofs.session_tests.look_beside.Goals as goal

module _ (T : RattleType) (g : Loaded.Ghosts T.Denot) (h : World.Ghosts T.Denot) where
  opened_send : IsSend T → IsSend (Opened.the_row T g h)
  opened_send is =
      recorded_send _ _ (Opened.the_type T g h).to (Opened.the_type T g h).to_one
      (struct_send (shape (Opened.the_type T g h)) (send (number 4096), (search sendable depth 20, tt)))

pub join-requires-send-F : goal.join-requires-send-F
join-requires-send-F g c κs within =
    search (crosses, sendable, engine.the_sync, held.the_sync, opened_send) depth 60 fits 20000
