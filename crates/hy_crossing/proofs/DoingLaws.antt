-- A part that isn't done leaves the partition as it was.
use Rattle.std.proofs.Common.{◌≡◌, ℕ, None, Ok, Err, refl, sym, ap, ◌∙◌, subst}
use Rattle.std.specs.Prelude.{IfErr, IfOk, IsErrAnd, OnErr, Result}
use Rattle.hy_space.specs.Space.{owner_bytes}
use Rattle.hy_undo.specs.UndoLog.{UndoLog, empty_log, undone}
use Rattle.hy_undo.proofs.RollBackLaws.{undone-empty_log}
use Rattle.hy_partition.specs.Headline.{Headline}
use Rattle.hy_partition.specs.Partition.{PartitionState}
use Rattle.hy_partition.specs.Parts.{HasNoPart}
use Rattle.hy_crossing.specs.Crossings.{IsAsBefore}

-- an error of which it is said which it is
pub err-given : {T E : Type 0} (F : E → Type 0) (result : Result T E) (value : E)
    → IsErrAnd result (λ error. error ≡ value) → F value → IfErr result F
err-given F (Ok x) value is holds = absurd (is)
err-given F (Err error) value is holds = subst F (sym is) holds

-- two things that are said of an error
pub err-both : {T E : Type 0} (A : Type 0) (B C : E → Type 0) (result : Result T E) → OnErr result A → IfErr result B
    → ((error : E) → A → B error → C error) → IfErr result C
err-both A B C (Ok x) one other joins = tt
err-both A B C (Err error) one other joins = joins error one other

-- what follows from what is said of a value
pub ok-leads : {T E : Type 0} (A B : T → Type 0) (result : Result T E) → IfOk result A
    → ((value : T) → A value → B value) → IfOk result B
ok-leads A B (Ok value) one leads = leads value one
ok-leads A B (Err error) one leads = tt

-- where nothing was to be undone
module _ (n : ℕ) (p : PartitionState) (headline : Headline n p) (idle : (p.running ≡ None) × (p.part ≡ None)) where
  nothing : p.undo ≡ empty_log p.space
  nothing = headline.nothing_to_undo_where_nothing_runs idle.0 idle.1

  pub as-before : (new : PartitionState) → HasNoPart p new → IsAsBefore p new
  as-before new none = record {
    part = none.part;
    undo = none.undo;
    bytes =
        none.bytes ∙ ap (λ (undo : UndoLog). undone (owner_bytes p.space) undo) nothing ∙ undone-empty_log p.space;
    nothing = none.nothing;
    beside = none.beside;
  }

  pub untouched : IsAsBefore p p
  untouched = record {
    part = idle.1;
    undo = nothing;
    bytes = refl;
    nothing = record { seen = refl; kept = refl; book = refl };
    beside = record {
      terms = refl;
      running = refl;
      finished = refl;
      snapshots = refl;
      children = record { tables = refl; bytes = λ child. refl };
      max_frames = refl;
    };
  }
