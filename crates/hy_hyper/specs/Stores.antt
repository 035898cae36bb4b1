-- A table and an index that tests keep beside plain lists: NEW-ORDER in its segment, and an index behind the tables.
use Rattle.std.specs.Prelude.{◌≡◌, ℕ, List, length}
use Rattle.hy_rows.specs.Spelling.{HasSlots, list_at}
use Rattle.hy_space.specs.Space.{SpaceState, owner_bytes}
use Rattle.hy_undo.specs.UndoLog.{UndoLog, undone}
use Rattle.hy_undo.specs.PrivatePages.{IsUndoLog}
use Rattle.hy_index.specs.Writes.{IsIndex}

module _ {Key : Type 0} (key_width : ℕ) (bytes_of_key : Key → List ℕ) (key_of_bytes : List ℕ → Key)
    (IsKey : Key → Type 0) where
  -- the pages of both segments are a relation and an index
  pub record AreStored (n : ℕ) (bytes : List (List (List ℕ))) : Type 0 where
    pub relation : HasSlots n 6 (list_at bytes 4)
    pub index : IsIndex n key_width bytes_of_key key_of_bytes IsKey (list_at bytes 8)

  -- they are now, and so were they when the transaction began
  pub record IsStore (n : ℕ) (space : SpaceState) (log : UndoLog) : Type 0 where
    pub undo_log : IsUndoLog n space log
    pub counts : length log.counts ≡ 9
    pub now : AreStored n (owner_bytes space)
    pub begin : AreStored n (undone (owner_bytes space) log)
