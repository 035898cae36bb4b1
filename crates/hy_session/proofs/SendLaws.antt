-- A session may go to another thread, since its snapshot may.
use denote.RattleType.{RattleType}
use denote.Param.Send.{IsSend, recorded_send, struct_send, view_send}
use denote.Struct.Declared.{shape}
use Rattle.hy_forks.proofs.SendLaws as snapshots
use Rattle.hy_session.specs.contracts.session.Session.{the_row}
use Rattle.hy_session.specs.contracts.session.Session.TheInside as inside

module _ (N : RattleType) where
  pub send : IsSend (the_row N)
  send =
      view_send _ _ _ _ _ (recorded_send _ _ (inside.the_type N).to (inside.the_type N).to_one
      (struct_send (shape (inside.the_type N)) (snapshots.send N, tt)))
