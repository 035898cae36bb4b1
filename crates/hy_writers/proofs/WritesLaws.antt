-- Writes one behind another, and what holds of a row that is found.
use Rattle.std.proofs.Common.{◌≡◌, ℕ, List, Some, Result, Ok, Err, subst, ◌∙◌}
use Rattle.std.specs.Prelude.{slice_get, All, IfOk, OnOk}
use Rattle.std.proofs.lemmas.Option.{get_or_from_slice_get, slice_get_within}
use Rattle.hy_space.specs.Space.{SpaceState}
use Rattle.hy_undo.specs.UndoLog.{UndoLog}
use Rattle.hy_undo.proofs.PrivatePageLaws.{SameForChildren-then}
use Rattle.hy_indexes.specs.of_store.Writes.{WritesStore}

pub writes-then : {n : ℕ} {old mid new : SpaceState} {before between after : UndoLog} → WritesStore n old mid before between
    → WritesStore n mid new between after → WritesStore n old new before after
writes-then {old = old} {mid = mid} {new = new} first then = record {
  undoes = record { undone = then.undoes.undone ∙ first.undoes.undone; undo_log = then.undoes.undo_log };
  counts = then.counts ∙ first.counts;
  children = SameForChildren-then old mid new first.children then.children;
  segments = then.segments ∙ first.segments;
  limit = then.limit ∙ first.limit;
}

pub all-at : {Row : Type 0} (P : Row → Type 0) (rows : List Row) (place : ℕ) (row : Row) → All P rows
    → slice_get rows place ≡ Some row → P row
all-at P rows place row all here =
    subst P (get_or_from_slice_get rows place row row here) (all place row (slice_get_within rows place row here))

pub on_ok-then : {Value Refused : Type 0} (result : Result Value Refused) {P Q : Type 0} → (P → Q) → OnOk result P
    → OnOk result Q
on_ok-then (Ok value) then holds = then holds
on_ok-then (Err refused) then holds = tt

pub if_ok-then : {Value Refused : Type 0} (result : Result Value Refused) {P Q : Value → Type 0}
    → ((value : Value) → P value → Q value) → IfOk result P → IfOk result Q
if_ok-then (Ok value) then holds = then value holds
if_ok-then (Err refused) then holds = tt
