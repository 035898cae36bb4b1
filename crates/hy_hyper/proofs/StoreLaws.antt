-- A table and an index, as they begin, and as a roll-back and a child leave them.
use Rattle.std.proofs.Common.{◌≡◌, ℕ, List, [], length, replicate, sym, ap, ◌∙◌, arith, subst}
use Rattle.hy_rows.specs.Spelling.{HasSlots, list_at}
use Rattle.hy_space.specs.Space.{SpaceState, IsUnchanged, KeepsOwn, SameForOwner, owner_bytes, page_count, table_bytes}
use Rattle.hy_space.proofs.TableLaws.{same_bytes}
use Rattle.hy_undo.specs.UndoLog.{UndoLog, empty_log, undone}
use Rattle.hy_undo.specs.PrivatePages.{GivesUpPages, IsUndoLog}
use Rattle.hy_undo.specs.Writes.{CanUndoGrowth}
use Rattle.hy_undo.proofs.PrivatePageLaws.{IsUndoLog-kept, KeepsPages-unseen, length-segment-owner_bytes}
use Rattle.hy_undo.proofs.RollBackLaws.{undone-empty_log}
use Rattle.hy_nodes.specs.Writes.{WritesSegment}
use Rattle.hy_index.specs.Writes.{IsIndex}
use Rattle.hy_relation.specs.Relation.{ChangesSegment}
use Rattle.hy_hyper.specs.Stores.{AreStored, IsStore}

-- the index's segment has no page while the table's alone changes
pub no_page : (old new : SpaceState) → page_count old 8 ≡ 0 → ChangesSegment (owner_bytes old) (owner_bytes new) 4
    → page_count new 8 ≡ 0
no_page old new none changes =
    sym (length-segment-owner_bytes new 8) ∙ ap length (changes.others 8 (λ same. absurd (omega (arith, same))))
    ∙ length-segment-owner_bytes old 8 ∙ none

-- a log of a space counts the same segments before and after
pub nine_segments : (n : ℕ) (first space : SpaceState) (log : UndoLog) → first.owner ≡ replicate 9 []
    → IsUndoLog n first log → IsUndoLog n space log → length space.owner ≡ 9
nine_segments n first space log nine before after =
    sym after.segments ∙ before.segments ∙ ap length nine

-- pages that are lent now have the same bytes
unchanged_bytes : (old new : SpaceState) → IsUnchanged old new → owner_bytes new ≡ owner_bytes old
unchanged_bytes old new same =
    ap (table_bytes new.frames) same.owner
    ∙ same_bytes old.frames new.frames old.owner (λ f more. same.pages f)

module _ {Key : Type 0} {width : ℕ} {bytes_of_key : Key → List ℕ} {key_of_bytes : List ℕ → Key}
    {IsKey : Key → Type 0} (n : ℕ) where
  -- a transaction that begins
  pub begins : (space : SpaceState) (log : UndoLog) → length space.owner ≡ 9
      → AreStored width bytes_of_key key_of_bytes IsKey n (owner_bytes space) → IsUndoLog n space log
      → undone (owner_bytes space) log ≡ owner_bytes space
      → IsStore width bytes_of_key key_of_bytes IsKey n space log
  begins space log segments stored undo_log same = record {
    undo_log = undo_log;
    counts = undo_log.segments ∙ segments;
    now = stored;
    begin = subst (AreStored width bytes_of_key key_of_bytes IsKey n) (sym same) stored;
  }

  -- a row was added to the table
  pub pushed : (old new : SpaceState) (before after : UndoLog) (writes most : ℕ)
      → IsStore width bytes_of_key key_of_bytes IsKey n old before → HasSlots n 6 (list_at (owner_bytes new) 4)
      → ChangesSegment (owner_bytes old) (owner_bytes new) 4 → CanUndoGrowth n writes most old new before after
      → IsStore width bytes_of_key key_of_bytes IsKey n new after
  pushed old new before after writes most store slots only can = record {
    undo_log = can.undo_log;
    counts = ap length can.counts ∙ store.counts;
    now = record {
      relation = slots;
      index = subst (IsIndex n width bytes_of_key key_of_bytes IsKey) (sym (only.others 8 (λ same. absurd (omega (arith, same))))) store.now.index;
    };
    begin = subst (AreStored width bytes_of_key key_of_bytes IsKey n) (sym can.undone) store.begin;
  }

  -- an index that was made beside a table
  pub created : (old new : SpaceState) (before after log : UndoLog) (segment : ℕ) → segment ≡ 8
      → HasSlots n 6 (list_at (owner_bytes old) 4)
      → IsIndex n width bytes_of_key key_of_bytes IsKey (list_at (owner_bytes new) segment)
      → WritesSegment n segment old new before after → length old.owner ≡ 9 → IsUndoLog n new log
      → undone (owner_bytes new) log ≡ owner_bytes new
      → IsStore width bytes_of_key key_of_bytes IsKey n new log
  created old new before after log segment place relation index writes segments undo_log same =
      begins new log (writes.segments ∙ segments) (record {
        relation = subst (HasSlots n 6) (sym (writes.others 4 (λ is. absurd (omega (arith, is, place))))) relation;
        index = subst (λ s. IsIndex n width bytes_of_key key_of_bytes IsKey (list_at (owner_bytes new) s)) place index;
      }) undo_log same

  pub rolled_back : (old new : SpaceState) (before after : UndoLog)
      → IsStore width bytes_of_key key_of_bytes IsKey n old before
      → owner_bytes new ≡ undone (owner_bytes old) before → after ≡ empty_log new → IsUndoLog n new after
      → GivesUpPages old new → IsStore width bytes_of_key key_of_bytes IsKey n new after
  rolled_back old new before after store bytes log undo_log gives_up =
      begins new after (gives_up.fewer.segments ∙ sym store.undo_log.segments ∙ store.counts)
      (subst (AreStored width bytes_of_key key_of_bytes IsKey n) (sym bytes) store.begin) undo_log
      (ap (undone (owner_bytes new)) log ∙ undone-empty_log new)

  -- a call that was refused, and then rolled back
  pub refused : (old mid new : SpaceState) (before between after : UndoLog) (segment : ℕ)
      → IsStore width bytes_of_key key_of_bytes IsKey n old before → WritesSegment n segment old mid before between
      → owner_bytes new ≡ undone (owner_bytes mid) between → after ≡ empty_log new → IsUndoLog n new after
      → GivesUpPages mid new → IsStore width bytes_of_key key_of_bytes IsKey n new after
  refused old mid new before between after segment store writes bytes log undo_log gives_up =
      begins new after
      (gives_up.fewer.segments ∙ writes.segments ∙ sym store.undo_log.segments ∙ store.counts)
      (subst (AreStored width bytes_of_key key_of_bytes IsKey n) (sym (bytes ∙ writes.undoes.undone)) store.begin)
      undo_log (ap (undone (owner_bytes new)) log ∙ undone-empty_log new)

  -- the owner's pages stay, with the same bytes
  pub same_pages : (old new : SpaceState) (log : UndoLog) → IsStore width bytes_of_key key_of_bytes IsKey n old log
      → owner_bytes new ≡ owner_bytes old → IsUndoLog n new log
      → IsStore width bytes_of_key key_of_bytes IsKey n new log
  same_pages old new log store same undo_log = record {
    undo_log = undo_log;
    counts = store.counts;
    now = subst (AreStored width bytes_of_key key_of_bytes IsKey n) (sym same) store.now;
    begin = subst (λ bytes. AreStored width bytes_of_key key_of_bytes IsKey n (undone bytes log)) (sym same) store.begin;
  }

  -- a child that was opened, of whose pages holds were taken, and that was closed
  pub seen : (old opened held new : SpaceState) (log : UndoLog)
      → IsStore width bytes_of_key key_of_bytes IsKey n old log → SameForOwner old opened → IsUndoLog n opened log
      → IsUnchanged opened held → KeepsOwn opened held → SameForOwner held new → KeepsOwn held new
      → IsStore width bytes_of_key key_of_bytes IsKey n new log
  seen old opened held new log store opens undo_log lends kept closes kept_still =
      let lent = unchanged_bytes opened held lends in
      same_pages old new log store (closes.bytes ∙ lent ∙ opens.bytes)
      (IsUndoLog-kept n held new log (KeepsPages-unseen held new closes.bytes kept_still)
      (IsUndoLog-kept n opened held log (KeepsPages-unseen opened held lent kept) undo_log))
