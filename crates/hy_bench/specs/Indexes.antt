-- A space whose first segment is an index of orders, between two transactions.
use Rattle.std.specs.Prelude.{◌<◌, length}
use Rattle.hy_space.specs.Space.{SpaceState}
use Rattle.hy_undo.specs.UndoLog.{UndoLog}
use Rattle.hy_undo.specs.PrivatePages.{IsUndoLog}
use Rattle.hy_nodes.specs.Writes.{pages_of}
use Rattle.hy_index.specs.Writes.{IsIndex}
use Rattle.hy_store.specs.Keys.{IsOrderKey, order_key_bytes, order_key_of}

pub record IsIndexed (space : SpaceState) (log : UndoLog) : Type 0 where
  pub there : 0 < length space.owner
  pub undo_log : IsUndoLog 4096 space log
  pub index : IsIndex 4096 5 order_key_bytes order_key_of IsOrderKey (pages_of space 0)
