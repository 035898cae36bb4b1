-- What became of bytes that were handed on.
use Rattle.std.specs.Prelude.{◌≡◌, ℕ, ◌+◌, Bool, true, false, List, [], ◌++◌, Result, Ok, Err}
use Rattle.std.proofs.Common.{append_assoc, refl, sym, ap, ◌∙◌}
use Rattle.std.proofs.lemmas.List.{append-nil}
use Rattle.hy_redo.specs.declared.out.Failed.{Failed}
use Rattle.hy_redo.specs.Writers.{IsFront, Told, failed_behind, with_more, with_sync}

-- all bytes were written, or the writer failed behind some of them
abbrev pub WritesAll : Told → Told → List ℕ → Result (Unit {0}) Failed → Type 0
WritesAll old new bytes (Ok done) = new ≡ with_more old bytes
WritesAll old new bytes (Err failed) = (front : List ℕ) × IsFront front bytes × (new ≡ failed_behind old front)

-- what a writer tells, the bytes that are held back for it, and whether it has failed
pub record Held : Type 0 where
  pub told : Told
  pub bytes : List ℕ
  pub has_failed : Bool

-- by whether the writer had failed before and has now: it took the first of the bytes that were held back and of the new
-- ones, and the others are held back; it took some of them and failed; or it had failed, and nothing came to it
abbrev pub HandsBy : Bool → Bool → Held → Held → List ℕ → Type 0
HandsBy false false old new text =
    (front : List ℕ) × (old.bytes ++ text ≡ front ++ new.bytes) × (new.told ≡ with_more old.told front)
HandsBy false true old new text =
    (front : List ℕ) × IsFront front (old.bytes ++ text) × (new.told ≡ failed_behind old.told front)
HandsBy true false old new text = ⊥
HandsBy true true old new text = new.told ≡ old.told

abbrev pub Hands : Held → Held → List ℕ → Type 0
Hands old new text = HandsBy old.has_failed new.has_failed old new text

-- a sync syncs all, or the writer fails; one that has failed isn't called
abbrev pub EndsBy : Bool → Bool → Held → Held → Type 0
EndsBy false false old new = new.told ≡ with_sync old.told
EndsBy false true old new = new.told ≡ failed_behind old.told []
EndsBy true false old new = ⊥
EndsBy true true old new = new.told ≡ old.told

abbrev pub EndsSynced : Held → Held → Type 0
EndsSynced old new = EndsBy old.has_failed new.has_failed old new

none_by : (failed : Bool) (held : Held) → HandsBy failed failed held held []
none_by true held = refl
none_by false held =
    ([], append-nil held.bytes, ap (λ written. record { written = written; synced = held.told.synced; failures = held.told.failures }) (sym (append-nil held.told.written)))

pub hands_none : (held : Held) → Hands held held []
hands_none held = none_by held.has_failed held

joined : (first second : Held) (front back sent : List ℕ) → first.bytes ++ front ≡ sent ++ second.bytes
    → first.bytes ++ (front ++ back) ≡ sent ++ (second.bytes ++ back)
joined first second front back sent same =
    sym (append_assoc first.bytes front back) ∙ (ap (λ bytes. bytes ++ back) same ∙ append_assoc sent second.bytes back)

both_by : (one two three : Bool) (first second third : Held) (front back : List ℕ) → HandsBy one two first second front
    → HandsBy two three second third back → HandsBy one three first third (front ++ back)
both_by true true true first second third front back one other = other ∙ one
both_by true true false first second third front back one other = other
both_by true false three first second third front back one other = absurd one
both_by false true true first second third front back one other = (
  one.0,
  (
    one.1.0 ++ back,
    sym (append_assoc first.bytes front back)
        ∙ (ap (λ bytes. bytes ++ back) one.1.1 ∙ append_assoc one.0 one.1.0 back),
  ),
  other ∙ one.2,
)
both_by false true false first second third front back one other = absurd other
both_by false false false first second third front back one other = (
  one.0 ++ other.0,
  joined first second front back one.0 one.1 ∙ (ap (λ bytes. one.0 ++ bytes) other.1 ∙ sym (append_assoc one.0 other.0 third.bytes)),
  other.2 ∙ (ap (λ told. with_more told other.0) one.2 ∙ ap (λ written. record { written = written; synced = first.told.synced; failures = first.told.failures }) (append_assoc first.told.written one.0 other.0)),
)
both_by false false true first second third front back one other = (
  one.0 ++ other.0,
  (other.1.0, joined first second front back one.0 one.1 ∙ (ap (λ bytes. one.0 ++ bytes) other.1.1 ∙ sym (append_assoc one.0 other.0 other.1.0))),
  other.2 ∙ (ap (λ told. failed_behind told other.0) one.2 ∙ ap (λ written. record { written = written; synced = first.told.synced; failures = first.told.failures + 1 }) (append_assoc first.told.written one.0 other.0)),
)

pub hands_both : (first second third : Held) (front back : List ℕ) → Hands first second front → Hands second third back
    → Hands first third (front ++ back)
hands_both first second third front back one other =
    both_by first.has_failed second.has_failed third.has_failed first second third front back one other
