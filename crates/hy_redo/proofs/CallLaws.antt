-- Runs of calls.
use Rattle.std.proofs.Common.{◌≡◌, ℕ, suc, ◌+◌, ◌<◌, ◌≤◌, Bool, true, false, List, [], ◌∷◌, ◌++◌, length, take, Result, Ok, Err, refl, sym, ap, subst, ◌∙◌, append_assoc, arith, inl, inr, length-append}
use Rattle.std.specs.Prelude.{IsTrue}
use Rattle.std.proofs.lemmas.Bool.{cases_lt, false≢true}
use Rattle.std.proofs.lemmas.List.{append-nil, take-append-le, take_all, take_at}
use Rattle.std.proofs.lemmas.List.Concat.{flat_map-append}
use Rattle.hy_schema.specs.declared.refusal.Refusal.{Refusal}
use Rattle.hy_schema.specs.declared.refusal.Refusal.TheVariants as refusals
use Rattle.hy_batches.specs.Batches.{Batch}
use Rattle.hy_batches.specs.Encoding.{batch_bytes, log_bytes}
use Rattle.hy_batches.specs.Grammar.{are_batches}
use Rattle.hy_batches.proofs.LogLaws.{cut_log, log_is_read}
use Rattle.hy_batches.specs.Logs.{IsLog}
use Rattle.hy_redo.specs.Writers.{IsFront, with_more, with_sync}
use Rattle.hy_redo.specs.Calls.{Answers, AnswersBy, AreCalls, Call, LogState, acknowledged, handed, log_behind, once}
use Rattle.hy_redo.specs.Disk.{BeginsBehind, HaveCauses, LeaveBatches, ReadsFirst}

-- ---- why a call is refused

abbrev Known : ℕ → LogState → Type 0
Known base log = (base ≤ log.told.failures) × (log.has_failed ≡ true → base < log.told.failures)

keeps_by : (failed : Bool) (base : ℕ) (old new : LogState) (batch : Batch) (answer : Result (Unit {0}) Refusal)
    → AnswersBy failed old new batch answer → Known base old → Known base new
keeps_by true base old new batch (Ok done) by known = absurd by
keeps_by true base old new batch (Err refusal) by known = subst (Known base) (sym by.1) known
keeps_by false base old new batch (Ok done) by known =
    subst (Known base) (sym by) (known.0, λ failed. absurd (false≢true failed))
keeps_by false base old new batch (Err refusal) by known =
    let known_at = known.0 in
    subst (Known base) (sym by.changed) (omega arith, λ failed. omega arith)

cause_by : (failed : Bool) (base : ℕ) (old new : LogState) (batch : Batch) (refusal : Refusal)
    → old.has_failed ≡ failed → AnswersBy failed old new batch (Err refusal) → Known base old
    → (refusal ≡ refusals.LogFailed) × (base < new.told.failures)
cause_by true base old new batch refusal is by known =
    (by.0, subst (λ (log : LogState). base < log.told.failures) (sym by.1) (known.1 is))
cause_by false base old new batch refusal is by known =
    let known_at = known.0 in
    (by.refused, subst (λ (log : LogState). base < log.told.failures) (sym by.changed) (omega arith))

causes : (base : ℕ) (log : LogState) (calls : List Call) (call : Call) (refusal : Refusal) → Known base log
    → AreCalls log (calls ++ call ∷ []) → call.answer ≡ Err refusal
    → (refusal ≡ refusals.LogFailed) × (base < call.log.told.failures)
causes base log [] call refusal known are is =
    cause_by log.has_failed base log call.log call.batch refusal refl
    (subst (λ answer. Answers log call.log call.batch answer) is are.0) known
causes base log (other ∷ calls) call refusal known are is =
    causes base other.log calls call refusal
    (keeps_by log.has_failed base log other.log other.batch other.answer are.0 known) are.1 is

pub have_causes : HaveCauses
have_causes log calls call refusal well are is =
    causes log.told.failures log calls call refusal (omega arith, λ failed. absurd (false≢true (sym well ∙ failed))) are is

-- ---- a log that has failed

stays_once : (failed : Bool) (old new : LogState) (batch : Batch) (answer : Result (Unit {0}) Refusal)
    → failed ≡ true → AnswersBy failed old new batch answer → (new ≡ old) × (once answer ≡ 0)
stays_once false old new batch answer is by = absurd (false≢true is)
stays_once true old new batch (Ok done) is by = absurd by
stays_once true old new batch (Err refusal) is by = (by.1, refl)

stays : (log : LogState) (calls : List Call) → log.has_failed ≡ true → AreCalls log calls
    → (log_behind log calls ≡ log) × (acknowledged calls ≡ 0)
stays log [] failed are = (refl, refl)
stays log (call ∷ calls) failed are =
    let one = stays_once log.has_failed log call.log call.batch call.answer failed are.0 in
    let later = stays call.log calls (ap (λ (log : LogState). log.has_failed) one.0 ∙ failed) are.1 in
    let none = one.1 in
    let none_later = later.1 in
    (later.0 ∙ one.0, omega arith)

-- ---- a batch more

one_more : (first : List Batch) (batch : Batch)
    → log_bytes (first ++ batch ∷ []) ≡ log_bytes first ++ batch_bytes batch
one_more first batch =
    flat_map-append batch_bytes first (batch ∷ []) ∙ ap (λ bytes. log_bytes first ++ bytes) (append-nil (batch_bytes batch))

begins_behind : (first : List Batch) (log new : LogState) (batch : Batch) → BeginsBehind first log
    → new ≡ record { told = with_sync (with_more log.told (batch_bytes batch)); has_failed = false }
    → BeginsBehind (first ++ batch ∷ []) new
begins_behind first log new batch begins is =
    let written : log.told.written ++ batch_bytes batch ≡ log_bytes (first ++ batch ∷ []) =
    ap (λ bytes. bytes ++ batch_bytes batch) begins.written ∙ sym (one_more first batch) in
    let size = ap length written in
    subst (λ log. BeginsBehind (first ++ batch ∷ []) log) (sym is)
    (record { written = written; synced = omega arith; not_failed = refl })

answers_well : (log new : LogState) (batch : Batch) (answer : Result (Unit {0}) Refusal)
    → log.has_failed ≡ false → Answers log new batch answer → AnswersBy false log new batch answer
answers_well log new batch answer is by = subst (λ failed. AnswersBy failed log new batch answer) is by

-- ---- what is written is the front of what was handed

pushed : (first : List Batch) (batch : Batch) (later : List Batch)
    → (first ++ batch ∷ []) ++ later ≡ first ++ batch ∷ later
pushed first batch later = append_assoc first (batch ∷ []) later

fronts : (first : List Batch) (log : LogState) (calls : List Call) → BeginsBehind first log
    → AreCalls log calls → IsFront (log_behind log calls).told.written (log_bytes (first ++ handed calls))
fronts first log [] begins are =
    ([], ap log_bytes (append-nil first) ∙ (sym begins.written ∙ sym (append-nil log.told.written)))
fronts first log (call ∷ calls) begins are =
    next (λ begins. fronts (first ++ call.batch ∷ []) call.log calls begins are.1) call.answer
    (answers_well log call.log call.batch call.answer begins.not_failed are.0)
  where
    next : (BeginsBehind (first ++ call.batch ∷ []) call.log
        → IsFront (log_behind call.log calls).told.written (log_bytes ((first ++ call.batch ∷ []) ++ handed calls)))
        → (answer : Result (Unit {0}) Refusal) → AnswersBy false log call.log call.batch answer
        → IsFront (log_behind call.log calls).told.written (log_bytes (first ++ call.batch ∷ handed calls))
    next later (Ok done) by =
        subst (λ batches. IsFront (log_behind call.log calls).told.written (log_bytes batches))
        (pushed first call.batch (handed calls))
        (later (begins_behind first log call.log call.batch begins by))
    next later (Err refusal) by =
        let same = stays call.log calls (ap (λ (log : LogState). log.has_failed) by.changed) are.1 in
        let written : (log_behind call.log calls).told.written ≡ log_bytes first ++ by.front =
        ap (λ (log : LogState). log.told.written) (same.0 ∙ by.changed) ∙ ap (λ bytes. bytes ++ by.front) begins.written in
        let back = by.begins.0 ++ log_bytes (handed calls) in (
          back,
          flat_map-append batch_bytes first (call.batch ∷ handed calls)
              ∙ (ap (λ bytes. log_bytes first ++ (bytes ++ log_bytes (handed calls))) by.begins.1
              ∙ (ap (λ bytes. log_bytes first ++ bytes) (append_assoc by.front by.begins.0 (log_bytes (handed calls)))
              ∙ (sym (append_assoc (log_bytes first) by.front back) ∙ ap (λ bytes. bytes ++ back) (sym written)))),
        )

-- ---- what was acknowledged is synced

abbrev least : List Batch → ℕ → List Batch → ℕ
least first more later = length (log_bytes (take (length first + more) (first ++ later)))

least_none : (first later : List Batch) (more : ℕ) → more ≡ 0
    → least first more later ≡ length (log_bytes first)
least_none first later more none =
    ap (λ batches. length (log_bytes batches))
    (ap (λ n. take n (first ++ later)) (omega arith) ∙ take_at first later (length first) refl)

least_more : (first : List Batch) (batch : Batch) (later : List Batch) (more : ℕ)
    → least (first ++ batch ∷ []) more later ≡ least first (1 + more) (batch ∷ later)
least_more first batch later more =
    let size = length-append first (batch ∷ []) in
    ap (λ n. length (log_bytes (take n ((first ++ batch ∷ []) ++ later)))) (omega arith)
    ∙ ap (λ batches. length (log_bytes (take (length first + (1 + more)) batches))) (pushed first batch later)

are_synced : (first : List Batch) (log : LogState) (calls : List Call) (later : List Batch)
    → BeginsBehind first log → AreCalls log calls
    → (least first (acknowledged calls) (handed calls ++ later) ≤ (log_behind log calls).told.synced)
    × (least first (acknowledged calls) (handed calls ++ later) ≤ length (log_behind log calls).told.written)
are_synced first log [] later begins are =
    let same = least_none first later 0 refl in
    let synced = begins.synced in
    let written = ap length begins.written in
    (omega arith, omega arith)
are_synced first log (call ∷ calls) later begins are =
    next (λ begins. are_synced (first ++ call.batch ∷ []) call.log calls later begins are.1) call.answer
    (answers_well log call.log call.batch call.answer begins.not_failed are.0)
  where
    next : (BeginsBehind (first ++ call.batch ∷ []) call.log
        → (least (first ++ call.batch ∷ []) (acknowledged calls) (handed calls ++ later)
        ≤ (log_behind call.log calls).told.synced)
        × (least (first ++ call.batch ∷ []) (acknowledged calls) (handed calls ++ later)
        ≤ length (log_behind call.log calls).told.written))
        → (answer : Result (Unit {0}) Refusal) → AnswersBy false log call.log call.batch answer
        → (least first (once answer + acknowledged calls) (call.batch ∷ handed calls ++ later)
        ≤ (log_behind call.log calls).told.synced)
        × (least first (once answer + acknowledged calls) (call.batch ∷ handed calls ++ later)
        ≤ length (log_behind call.log calls).told.written)
    next behind (Ok done) by =
        let more = behind (begins_behind first log call.log call.batch begins by) in
        let same = least_more first call.batch (handed calls ++ later) (acknowledged calls) in (
          subst (λ n. n ≤ (log_behind call.log calls).told.synced) same more.0,
          subst (λ n. n ≤ length (log_behind call.log calls).told.written) same more.1,
        )
    next behind (Err refusal) by =
        let rests = stays call.log calls (ap (λ (log : LogState). log.has_failed) by.changed) are.1 in
        let same = least_none first (call.batch ∷ handed calls ++ later) (once (Err refusal) + acknowledged calls)
        (omega (arith, rests.1)) in
        let synced = begins.synced in
        let kept : (log_behind call.log calls).told.synced ≡ log.told.synced =
        ap (λ (log : LogState). log.told.synced) (rests.0 ∙ by.changed) in
        let written : length (log_behind call.log calls).told.written ≡ length (log_bytes first) + length by.front =
        ap (λ (log : LogState). length log.told.written) (rests.0 ∙ by.changed)
        ∙ (length-append log.told.written by.front ∙ ap (λ bytes. length bytes + length by.front) begins.written) in
        (omega arith, omega arith)

few : (calls : List Call) → acknowledged calls ≤ length (handed calls)
few [] = omega arith
few (call ∷ calls) =
    next (few calls) call.answer
  where
    next : acknowledged calls ≤ length (handed calls) → (answer : Result (Unit {0}) Refusal)
        → once answer + acknowledged calls ≤ suc (length (handed calls))
    next later (Ok done) = omega (arith, later)
    next later (Err refusal) = omega (arith, later)

-- ---- more calls

pub handed-append : (calls more : List Call) → handed (calls ++ more) ≡ handed calls ++ handed more
handed-append [] more = refl
handed-append (call ∷ calls) more = ap (λ batches. call.batch ∷ batches) (handed-append calls more)

split : (log : LogState) (calls more : List Call) → AreCalls log (calls ++ more)
    → AreCalls log calls × AreCalls (log_behind log calls) more
    × (log_behind log (calls ++ more) ≡ log_behind (log_behind log calls) more)
split log [] more are = (tt, are, refl)
split log (call ∷ calls) more are =
    let later = split call.log calls more are.1 in
    ((are.0, later.0), later.1, later.2)

-- calls behind calls
pub join : (log : LogState) (calls more : List Call) → AreCalls log calls → AreCalls (log_behind log calls) more
    → AreCalls log (calls ++ more) × (log_behind log (calls ++ more) ≡ log_behind (log_behind log calls) more)
join log [] more are later = (later, refl)
join log (call ∷ calls) more are later =
    let joined = join call.log calls more are.1 later in
    ((are.0, joined.0), joined.1)

grows_by : (failed : Bool) (old new : LogState) (batch : Batch) (answer : Result (Unit {0}) Refusal)
    → AnswersBy failed old new batch answer → length old.told.written ≤ length new.told.written
grows_by true old new batch (Ok done) by = absurd by
grows_by true old new batch (Err refusal) by =
    let same = ap (λ (log : LogState). length log.told.written) by.1 in
    omega arith
grows_by false old new batch (Ok done) by =
    let same = ap (λ (log : LogState). length log.told.written) by ∙ length-append old.told.written (batch_bytes batch) in
    omega arith
grows_by false old new batch (Err refusal) by =
    let same = ap (λ (log : LogState). length log.told.written) by.changed ∙ length-append old.told.written by.front in
    omega arith

grows : (log : LogState) (calls : List Call) → AreCalls log calls
    → length log.told.written ≤ length (log_behind log calls).told.written
grows log [] are = omega arith
grows log (call ∷ calls) are =
    let one = grows_by log.has_failed log call.log call.batch call.answer are.0 in
    let later = grows call.log calls are.1 in
    omega arith

-- ---- a log that hasn't failed

-- all that it was handed is written and synced behind what was there, and each call was acknowledged
pub none_lost : (first : List Batch) (log : LogState) (calls : List Call) → BeginsBehind first log → AreCalls log calls
    → (log_behind log calls).has_failed ≡ false
    → BeginsBehind (first ++ handed calls) (log_behind log calls) × (acknowledged calls ≡ length (handed calls))
none_lost first log [] begins are well =
    (subst (λ batches. BeginsBehind batches log) (sym (append-nil first)) begins, refl)
none_lost first log (call ∷ calls) begins are well =
    next (λ begins. none_lost (first ++ call.batch ∷ []) call.log calls begins are.1 well) call.answer
    (answers_well log call.log call.batch call.answer begins.not_failed are.0)
  where
    next : (BeginsBehind (first ++ call.batch ∷ []) call.log
        → BeginsBehind ((first ++ call.batch ∷ []) ++ handed calls) (log_behind call.log calls)
        × (acknowledged calls ≡ length (handed calls)))
        → (answer : Result (Unit {0}) Refusal) → AnswersBy false log call.log call.batch answer
        → BeginsBehind (first ++ call.batch ∷ handed calls) (log_behind call.log calls)
        × (once answer + acknowledged calls ≡ suc (length (handed calls)))
    next behind (Ok done) by =
        let later = behind (begins_behind first log call.log call.batch begins by) in
        let count = later.1 in (
          subst (λ batches. BeginsBehind batches (log_behind call.log calls)) (pushed first call.batch (handed calls)) later.0,
          omega arith,
        )
    next behind (Err refusal) by =
        let same = stays call.log calls (ap (λ (log : LogState). log.has_failed) by.changed) are.1 in
        let failed : (log_behind call.log calls).has_failed ≡ true =
        ap (λ (log : LogState). log.has_failed) (same.0 ∙ by.changed) in
        absurd (false≢true (sym well ∙ failed))

-- ---- the theorem

-- the first bytes of the front of a list, which are so many, are the first of the list
cut_front : (front whole : List ℕ) (size low : ℕ) → IsFront front whole → low ≤ size → low ≤ length front
    → (many : ℕ) × (low ≤ many) × (take size front ≡ take many whole)
cut_front front whole size low is enough within =
    elim (cases_lt (length front) size) [
      | inl more ↦ (
        length front,
        within,
        take_all size front (omega arith)
            ∙ sym (ap (take (length front)) is.1 ∙ take_at front is.0 (length front) refl),
      )
      | inr less ↦ (size, enough, sym (ap (take size) is.1 ∙ take-append-le size front is.0 less))
    ]

reads : (batches : List Batch) (low many : ℕ) (left : List ℕ) → IsTrue (are_batches batches)
    → low ≤ length batches → length (log_bytes (take low batches)) ≤ many → left ≡ take many (log_bytes batches)
    → ReadsFirst batches low left
reads batches low many left whole few within is =
    let cut = cut_log batches many whole in
    let log = subst (λ bytes. IsLog bytes (take cut.0 batches) cut.1) (sym is) cut.2 in
    (cut.0, cut.1, cut.3 low few within, log, λ read by. log_is_read left (take cut.0 batches) cut.1 read log by)

pub leave_batches : LeaveBatches
leave_batches first log calls more left begins are whole leaves =
    let parts = split log calls more are in
    let all = first ++ handed (calls ++ more) in
    let low = length first + acknowledged calls in
    let spread : handed (calls ++ more) ≡ handed calls ++ handed more = handed-append calls more in
    let synced = are_synced first log calls (handed more) begins parts.0 in
    let same : least first (acknowledged calls) (handed calls ++ handed more) ≡ length (log_bytes (take low all)) =
    ap (λ batches. length (log_bytes (take low (first ++ batches)))) (sym spread) in
    let end = log_behind log (calls ++ more) in
    let begun = log_behind log calls in
    let longer : length begun.told.written ≤ length end.told.written =
    subst (λ (last : LogState). length begun.told.written ≤ length last.told.written) (sym parts.2) (grows begun more parts.1) in
    let at_least : length (log_bytes (take low all)) ≤ leaves.0 =
    omega (arith, same, synced.0, leaves.1) in
    let within : length (log_bytes (take low all)) ≤ length end.told.written =
    omega (arith, same, synced.1, longer) in
    let cut = cut_front end.told.written (log_bytes all) leaves.0 (length (log_bytes (take low all)))
    (fronts first log (calls ++ more) begins are) at_least within in
    let enough : low ≤ length all =
    omega (arith, length-append first (handed (calls ++ more)), ap length spread, length-append (handed calls) (handed more), few calls) in
    reads all low cut.0 left whole enough cut.1 (leaves.2 ∙ cut.2)
