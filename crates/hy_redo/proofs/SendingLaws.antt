-- What a batch comes to, put, flushed and synced.
use Rattle.std.proofs.Common.{◌≡◌, ℕ, ◌+◌, Bool, true, false, List, [], ◌++◌, Result, Ok, Err, refl, sym, ap, subst, ◌∙◌, append_assoc}
use Rattle.std.proofs.lemmas.List.{append-nil}
use Rattle.std.proofs.lemmas.Bool.{false≢true}
use Rattle.std.specs.Prelude.{is_err, is_ok, if◌then◌else◌}
use Rattle.hy_schema.specs.declared.refusal.Refusal.{Refusal}
use Rattle.hy_schema.specs.declared.refusal.Refusal.TheVariants as refusals
use Rattle.hy_batches.specs.Batches.{Batch}
use Rattle.hy_redo.specs.declared.out.Failed.{Failed}
use Rattle.hy_redo.specs.Writers.{IsFront, Told, failed_behind, with_more}
use Rattle.hy_redo.specs.Calls.{Answers, AnswersBy, IsCutShort, LogState}
use Rattle.hy_redo.specs.inside.Sending.{EndsBy, EndsSynced, Hands, HandsBy, Held, WritesAll, hands_both}

pub hands_from : (before now : Bool) (old new : Held) (text : List ℕ) → old.has_failed ≡ before → new.has_failed ≡ now
    → HandsBy before now old new text → Hands old new text
hands_from before now old new text one other by =
    subst (λ b. HandsBy b new.has_failed old new text) (sym one) (subst (λ n. HandsBy before n old new text) (sym other) by)

pub hands_by : (before now : Bool) (old new : Held) (text : List ℕ) → old.has_failed ≡ before → new.has_failed ≡ now
    → Hands old new text → HandsBy before now old new text
hands_by before now old new text one other by =
    subst (λ b. HandsBy b now old new text) one (subst (λ n. HandsBy old.has_failed n old new text) other by)

-- bytes that were written behind nothing that was held back
pub sent_whole : (old new : Held) (text : List ℕ) (answer : Result (Unit {0}) Failed) → is_err answer ≡ false
    → WritesAll old.told new.told text answer → old.has_failed ≡ false → new.has_failed ≡ false → old.bytes ≡ []
    → new.bytes ≡ [] → Hands old new text
sent_whole old new text (Err failed) well writes before now nothing none = absurd (false≢true (sym well))
sent_whole old new text (Ok done) well writes before now nothing none =
    hands_from false false old new text before now
    (text, ap (λ bytes. bytes ++ text) nothing ∙ (sym (append-nil text) ∙ ap (λ bytes. text ++ bytes) (sym none)), writes)

-- what the log is, seen from what its writer has
abbrev pub state : Held → LogState
state held = record { told = held.told; has_failed = held.has_failed }

cut_by : (sent : Bool) (start all end : Held) (bytes : List ℕ) → start.bytes ≡ [] → all.bytes ≡ []
    → HandsBy false sent start all bytes → EndsBy sent true all end
    → (front : List ℕ) × IsFront front bytes × (end.told ≡ failed_behind start.told front)
cut_by true start all end bytes nothing none hands ends =
    (hands.0, (hands.1.0, sym (ap (λ front. front ++ bytes) nothing) ∙ hands.1.1), ends ∙ hands.2)
cut_by false start all end bytes nothing none hands ends =
    let whole : bytes ≡ hands.0 =
    sym (ap (λ front. front ++ bytes) nothing) ∙ (hands.1 ∙ (ap (λ back. hands.0 ++ back) none ∙ append-nil hands.0)) in (
      hands.0,
      ([], whole ∙ sym (append-nil hands.0)),
      ends ∙ (ap (λ told. failed_behind told []) hands.2
          ∙ ap (λ written. record { written = written; synced = start.told.synced; failures = start.told.failures + 1 })
          (append-nil (start.told.written ++ hands.0))),
    )

cut_short_by : (sent : Bool) (start kept all end : Held) (bytes : List ℕ) → start.has_failed ≡ false → start.bytes ≡ []
    → Hands start kept bytes → Hands kept all [] → all.bytes ≡ [] → EndsSynced all end → end.has_failed ≡ true
    → all.has_failed ≡ sent → IsCutShort (state start) (state end) bytes refusals.LogFailed
cut_short_by sent start kept all end bytes well nothing puts flushes none ends failed is =
    let hands : HandsBy false sent start all bytes = subst (λ text. HandsBy false sent start all text) (append-nil bytes)
    (hands_by false sent start all (bytes ++ []) well is (hands_both start kept all bytes [] puts flushes)) in
    let ending : EndsBy sent true all end =
    subst (λ s. EndsBy s true all end) is (subst (λ e. EndsBy all.has_failed e all end) failed ends) in
    let cut = cut_by sent start all end bytes nothing none hands ending in
    record {
      refused = refl;
      front = cut.0;
      begins = cut.1;
      changed = ap (λ told. record { told = told; has_failed = end.has_failed }) cut.2
          ∙ ap (λ has_failed. record { told = failed_behind start.told cut.0; has_failed = has_failed }) failed;
    }

pub cut_short : (start kept all end : Held) (bytes : List ℕ) → start.has_failed ≡ false → start.bytes ≡ []
    → Hands start kept bytes → Hands kept all [] → all.bytes ≡ [] → EndsSynced all end → end.has_failed ≡ true
    → IsCutShort (state start) (state end) bytes refusals.LogFailed
cut_short start kept all end bytes well nothing puts flushes none ends failed =
    cut_short_by all.has_failed start kept all end bytes well nothing puts flushes none ends failed refl

pub answers_from : (old new : LogState) (batch : Batch) (answer : Result (Unit {0}) Refusal)
    → old.has_failed ≡ false → AnswersBy false old new batch answer → Answers old new batch answer
answers_from old new batch answer is by = subst (λ failed. AnswersBy failed old new batch answer) (sym is) by

-- bytes that found no memory
pub kept : {E : Type 0} (answer : Result (Unit {0}) E) (more same : List ℕ) → is_err answer ≡ true
    → (if is_ok answer then more else same) ≡ same
kept (Ok done) more same failed = absurd (false≢true failed)
kept (Err error) more same failed = refl

-- a writer that failed behind bytes that it had taken before
pub cut_all : (old between new : Told) (bytes rest front more : List ℕ) → bytes ≡ front ++ rest → between ≡ with_more old front
    → IsFront more rest → new ≡ failed_behind between more
    → (taken : List ℕ) × IsFront taken bytes × (new ≡ failed_behind old taken)
cut_all old between new bytes rest front more parts one is two = (
  front ++ more,
  (is.0, parts ∙ (ap (λ back. front ++ back) is.1 ∙ sym (append_assoc front more is.0))),
  two ∙ (ap (λ told. failed_behind told more) one
      ∙ ap (λ written. record { written = written; synced = old.synced; failures = old.failures + 1 })
      (append_assoc old.written front more)),
)
