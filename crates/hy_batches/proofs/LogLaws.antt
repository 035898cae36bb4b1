-- Whole logs: there is one way to read bytes, and each list of bytes is a log or fails at a place.
use Rattle.std.proofs.Common.{◌≡◌, ℕ, zero, suc, ◌+◌, ◌-◌, ◌<◌, ◌≤◌, ◌⊎◌, true, false, ◌&&◌, ◌||◌, List, [], ◌∷◌, ◌++◌, length, take, Option, None, Some, Result, Ok, Err, refl, sym, ap, subst, ◌∙◌, append_assoc, arith, inl, inr, length-append}
use Rattle.std.specs.Prelude.{◌==◌, IsTrue, nat_lt}
use Rattle.std.proofs.lemmas.Bool.{and_right, cases_Bool, cases_lt, false≢true, le-ltb, lt-ltb, ne_eqb, or_from, or_left, or_right}
use Rattle.std.proofs.lemmas.List.{append-nil, length-take-le, take-append-le, take-take, take_at}
use Rattle.std.proofs.lemmas.Slice.Eq.{bytes_eq-Decides}
use Rattle.std.proofs.Math.Seq.{take-append-add, take-nil}
use Rattle.std.proofs.lemmas.List.Concat.{flat_map-append, flat_map-cons}
use Rattle.hy_page.specs.Bytes.{AreBytes, number_of}
use Rattle.hy_page.proofs.ByteLaws.{number_of-bytes_of}
use Rattle.hy_schema.specs.declared.refusal.Refusal.{Refusal}
use Rattle.hy_schema.specs.declared.refusal.Refusal.TheVariants as refusals
use Rattle.hy_commands.specs.declared.edition.Edition.{Edition}
use Rattle.hy_commands.specs.declared.edition.Edition.TheVariants as editions
use Rattle.hy_batches.specs.Batches.{Batch, may_follow}
use Rattle.hy_batches.specs.Encoding.{batch_bytes, content_bytes, log_bytes, mark, number_bytes}
use Rattle.hy_batches.specs.Grammar.{IsBatch, are_batches, are_batches_behind, is_batch, last_edition}
use Rattle.hy_batches.specs.Logs.{BeginsLog, IsDecided, IsFaultyAt, IsLog, Reads, has_mark, is_beginning, is_end, is_short, said_length}
use Rattle.hy_batches.specs.inside.Nexts.{BeginsNoBatch}
use Rattle.hy_batches.specs.inside.Reading.{batch_at}
use Rattle.hy_batches.proofs.BatchForms.{batch_again, batch_takes, length-mark}
use Rattle.hy_batches.proofs.FormLaws.{all_three, same_some, three}
use Rattle.hy_batches.proofs.CommandForms.{length-number_bytes}
use Rattle.hy_batches.proofs.LengthLaws.{length-content}

-- ---- the next batch

pub next_found : (rest : List ℕ) (batch : Batch) (after : List ℕ) → AreBytes rest
    → batch_at rest ≡ Some (batch, after) → (rest ≡ batch_bytes batch ++ after) × IsBatch batch
next_found rest batch after are is =
    let t = batch_takes rest batch after are is in
    (t.0.parts, t.1)

pub next_missing : (edition : Edition) (rest : List ℕ) → batch_at rest ≡ None → BeginsNoBatch edition rest
next_missing edition rest is batch more fit follows spelled =
    let found : batch_at rest ≡ Some (batch, more) = ap batch_at spelled ∙ batch_again batch more fit in
    cc

-- a whole batch that may not stand there
pub next_falls : (edition : Edition) (rest : List ℕ) (batch : Batch) (after : List ℕ) → batch_at rest ≡ Some (batch, after)
    → may_follow edition batch.edition ≡ false → BeginsNoBatch edition rest
next_falls edition rest batch after is falls other more fit follows spelled =
    let found : batch_at rest ≡ Some (other, more) = ap batch_at spelled ∙ batch_again other more fit in
    let one : batch ≡ other = ap (λ (p : Batch × List ℕ). p.0) (same_some (batch, after) (other, more) (sym is ∙ found)) in
    false≢true (sym falls ∙ (ap (λ (batch : Batch). may_follow edition batch.edition) one ∙ follows))

-- ---- a whole batch is no begin of one

length-batch : (batch : Batch) → length (batch_bytes batch) ≡ 13 + length (content_bytes batch.lists)
length-batch batch =
    let content = content_bytes batch.lists in
    let size = number_bytes 8 (length content) in
    omega (
      arith,
      length-append (mark batch.edition ++ size ++ content) (69 ∷ []),
      length-append (mark batch.edition ++ size) content,
      length-append (mark batch.edition) size,
      length-mark batch.edition,
      length-number_bytes 8 (length content),
    )

-- the length that bytes with a mark say is that of the eight bytes behind it
behind_mark : (edition : Edition) (rest : List ℕ) → said_length (mark edition ++ rest) ≡ number_of (take 8 rest)
behind_mark editions.First rest = refl
behind_mark editions.Second rest = refl

-- the length that the first twelve bytes of a batch say, whatever is behind them
said : (batch : Batch) (more : List ℕ) → is_batch batch ≡ true
    → number_of (take 8 (number_bytes 8 (length (content_bytes batch.lists)) ++ more)) ≡ length (content_bytes batch.lists)
unfolding number_bytes
said batch more fit =
    let size = length (content_bytes batch.lists) in
    ap number_of (take_at (number_bytes 8 size) more 8 (length-number_bytes 8 size))
    ∙ number_of-bytes_of 8 size (length-content batch fit)

regrouped : (batch : Batch) (more : List ℕ) → batch_bytes batch ++ more
    ≡ mark batch.edition ++ (number_bytes 8 (length (content_bytes batch.lists)) ++ (content_bytes batch.lists ++ (69 ∷ more)))
regrouped batch more =
    let content = content_bytes batch.lists in
    let size = number_bytes 8 (length content) in
    append_assoc (mark batch.edition ++ size ++ content) (69 ∷ []) more
    ∙ (append_assoc (mark batch.edition ++ size) content (69 ∷ more) ∙ append_assoc (mark batch.edition) size (content ++ (69 ∷ more)))

pub whole_goes_on : (batch : Batch) (more : List ℕ) → IsBatch batch → is_end (batch_bytes batch ++ more) ≡ false
whole_goes_on batch more fit =
    let bytes = batch_bytes batch ++ more in
    let content = content_bytes batch.lists in
    let size : length bytes ≡ 13 + length content + length more =
    length-append (batch_bytes batch) more ∙ ap (λ n. n + length more) (length-batch batch) in
    let says : said_length bytes ≡ length content =
    ap said_length (regrouped batch more)
    ∙ (behind_mark batch.edition (number_bytes 8 (length content) ++ (content ++ (69 ∷ more)))
    ∙ said batch (content ++ (69 ∷ more)) fit) in
    let some : (length bytes == 0) ≡ false = ne_eqb _ _ (λ none. omega arith) in
    let long : nat_lt (length bytes) 12 ≡ false = le-ltb _ _ (omega arith) in
    let enough : nat_lt (length bytes) (13 + said_length bytes) ≡ false = le-ltb _ _ (omega arith) in
    or_from (length bytes == 0) (is_beginning bytes) some
    (and_right (nat_lt 0 (length bytes) && (has_mark bytes editions.First || has_mark bytes editions.Second)) (is_short bytes)
    (or_from (nat_lt (length bytes) 12) (nat_lt (length bytes) (13 + said_length bytes)) long enough))

-- ---- one way to read

ended_begins_none : (edition : Edition) (rest : List ℕ) → is_end rest ≡ true → BeginsNoBatch edition rest
ended_begins_none edition rest ended batch more fit follows spelled =
    false≢true (sym (whole_goes_on batch more fit) ∙ (ap is_end (sym spelled) ∙ ended))

-- a batch and those behind it
behind : (batch : Batch) (batches : List Batch) (rest : List ℕ)
    → log_bytes (batch ∷ batches) ++ rest ≡ batch_bytes batch ++ (log_bytes batches ++ rest)
behind batch batches rest =
    ap (λ bytes. bytes ++ rest) (flat_map-cons batch_bytes batch batches)
    ∙ append_assoc (batch_bytes batch) (log_bytes batches) rest

-- what holds of the first batch behind one of an edition, and of those behind it
parts_of : (edition : Edition) (batch : Batch) (batches : List Batch) → are_batches_behind edition (batch ∷ batches) ≡ true
    → (is_batch batch ≡ true) × (may_follow edition batch.edition ≡ true) × (are_batches_behind batch.edition batches ≡ true)
parts_of edition batch batches whole =
    three (is_batch batch) (may_follow edition batch.edition) (are_batches_behind batch.edition batches) whole

first_batch : (edition : Edition) (batch : Batch) (batches : List Batch) (rest : List ℕ)
    → are_batches_behind edition (batch ∷ batches) ≡ true
    → batch_at (log_bytes (batch ∷ batches) ++ rest) ≡ Some (batch, log_bytes batches ++ rest)
first_batch edition batch batches rest whole =
    ap batch_at (behind batch batches rest)
    ∙ batch_again batch (log_bytes batches ++ rest) (parts_of edition batch batches whole).0

pub same_reading : (edition : Edition) (batches others : List Batch) (rest left : List ℕ)
    → are_batches_behind edition batches ≡ true → are_batches_behind edition others ≡ true
    → log_bytes batches ++ rest ≡ log_bytes others ++ left → BeginsNoBatch (last_edition edition batches) rest
    → BeginsNoBatch (last_edition edition others) left → (batches ≡ others) × (rest ≡ left)
same_reading edition [] [] rest left whole too same none neither = (refl, same)
same_reading edition [] (batch ∷ others) rest left whole too same none neither =
    let parts = parts_of edition batch others too in
    absurd (none batch (log_bytes others ++ left) parts.0 parts.1 (same ∙ behind batch others left))
same_reading edition (batch ∷ batches) [] rest left whole too same none neither =
    let parts = parts_of edition batch batches whole in
    absurd (neither batch (log_bytes batches ++ rest) parts.0 parts.1 (sym same ∙ behind batch batches rest))
same_reading edition (batch ∷ batches) (first ∷ others) rest left whole too same none neither =
    let pair : (batch, log_bytes batches ++ rest) ≡ (first, log_bytes others ++ left) =
    same_some _ _ (sym (first_batch edition batch batches rest whole) ∙ (ap batch_at same ∙ first_batch edition first others left too)) in
    let one : batch ≡ first = ap (λ (p : Batch × List ℕ). p.0) pair in
    let later : log_bytes batches ++ rest ≡ log_bytes others ++ left = ap (λ (p : Batch × List ℕ). p.1) pair in
    let other_whole : are_batches_behind batch.edition others ≡ true =
    subst (λ (b : Batch). are_batches_behind b.edition others ≡ true) (sym one) (parts_of edition first others too).2 in
    let none_left : BeginsNoBatch (last_edition batch.edition others) left =
    subst (λ (b : Batch). BeginsNoBatch (last_edition b.edition others) left) (sym one) neither in
    let more = same_reading batch.edition batches others rest left (parts_of edition batch batches whole).2 other_whole later none none_left in
    (ap (λ batch. batch ∷ batches) one ∙ ap (λ batches. first ∷ batches) more.0, more.1)

pub one_log : (bytes : List ℕ) (batches others : List Batch) (rest left : List ℕ)
    → IsLog bytes batches rest → IsLog bytes others left → (batches ≡ others) × (rest ≡ left)
one_log bytes batches others rest left log other =
    same_reading editions.First batches others rest left log.whole other.whole (sym log.spelled ∙ other.spelled)
    (ended_begins_none (last_edition editions.First batches) rest log.ended)
    (ended_begins_none (last_edition editions.First others) left other.ended)

pub no_log_fails : (bytes : List ℕ) (batches : List Batch) (rest : List ℕ) (place : ℕ)
    → IsLog bytes batches rest → IsFaultyAt bytes place → ⊥
no_log_fails bytes batches rest place log faulty =
    let same = same_reading editions.First batches faulty.0 rest faulty.1 log.whole faulty.2.whole (sym log.spelled ∙ faulty.2.spelled)
    (ended_begins_none (last_edition editions.First batches) rest log.ended) faulty.2.fault in
    false≢true (sym faulty.2.goes_on ∙ (ap is_end (sym same.1) ∙ log.ended))

pub one_fault : (bytes : List ℕ) (place other : ℕ) → IsFaultyAt bytes place → IsFaultyAt bytes other → place ≡ other
one_fault bytes place other faulty too =
    let same = same_reading editions.First faulty.0 too.0 faulty.1 too.1 faulty.2.whole too.2.whole (sym faulty.2.spelled ∙ too.2.spelled)
    faulty.2.fault too.2.fault in
    faulty.3 ∙ (ap (λ batches. length (log_bytes batches)) same.0 ∙ sym too.3)

-- ---- all bytes are read

-- what bytes begin with behind a batch of an edition: whole batches, and then the end, or what is neither
record IsReading (edition : Edition) (bytes : List ℕ) (batches : List Batch) (rest : List ℕ) : Type 0 where
  spelled : bytes ≡ log_bytes batches ++ rest
  whole : are_batches_behind edition batches ≡ true
  over : (is_end rest ≡ true) ⊎ ((is_end rest ≡ false) × BeginsNoBatch (last_edition edition batches) rest)

abbrev IsRead : Edition → List ℕ → Type 0
IsRead edition bytes = (batches : List Batch) × (rest : List ℕ) × IsReading edition bytes batches rest

step : (edition : Edition) (bytes : List ℕ) → AreBytes bytes
    → ((edition : Edition) (after : List ℕ) → AreBytes after → length after < length bytes → IsRead edition after)
    → IsRead edition bytes
step edition bytes are later =
    elim (cases_Bool (is_end bytes)) [
      | inl ended ↦ ([], bytes, record { spelled = refl; whole = refl; over = inl ended })
      | inr goes_on ↦ next goes_on (batch_at bytes) refl
    ]
  where
    fails : is_end bytes ≡ false → BeginsNoBatch edition bytes → IsRead edition bytes
    fails goes_on none = ([], bytes, record { spelled = refl; whole = refl; over = inr (goes_on, none) })

    further : (batch : Batch) (after : List ℕ) → bytes ≡ batch_bytes batch ++ after → IsBatch batch
        → may_follow edition batch.edition ≡ true → IsRead batch.edition after → IsRead edition bytes
    further batch after spelled fit follows (batches, rest, reading) = (
      batch ∷ batches,
      rest,
      record {
        spelled = spelled ∙ (ap (λ bytes. batch_bytes batch ++ bytes) reading.spelled ∙ sym (behind batch batches rest));
        whole = all_three (is_batch batch) (may_follow edition batch.edition) (are_batches_behind batch.edition batches) fit follows reading.whole;
        over = reading.over;
      },
    )

    next : is_end bytes ≡ false → (read : Option (Batch × List ℕ)) → batch_at bytes ≡ read → IsRead edition bytes
    next goes_on None is = fails goes_on (next_missing edition bytes is)
    next goes_on (Some (batch, after)) is =
        let t = batch_takes bytes batch after are is in
        let less : length after < length bytes =
        omega (arith, ap length t.0.parts, length-append (batch_bytes batch) after, length-batch batch) in
        elim (cases_Bool (may_follow edition batch.edition)) [
          | inl follows ↦ further batch after t.0.parts t.1 follows (later batch.edition after t.0.are_bytes less)
          | inr falls ↦ fails goes_on (next_falls edition bytes batch after is falls)
        ]

read_within : (most : ℕ) (edition : Edition) (bytes : List ℕ) → AreBytes bytes → length bytes ≤ most → IsRead edition bytes
read_within zero edition bytes are within = step edition bytes are (λ other after after_are less. absurd (omega arith))
read_within (suc most) edition bytes are within =
    step edition bytes are (λ other after after_are less. read_within most other after after_are (omega arith))

pub all_read : (bytes : List ℕ) → AreBytes bytes → IsDecided bytes
all_read bytes are = decided (read_within (length bytes) editions.First bytes are (omega arith))
  where
    from : (batches : List Batch) (rest : List ℕ) → bytes ≡ log_bytes batches ++ rest → are_batches batches ≡ true
        → (is_end rest ≡ true) ⊎ ((is_end rest ≡ false) × BeginsNoBatch (last_edition editions.First batches) rest)
        → IsDecided bytes
    from batches rest spelled whole (inl ended) =
        inl (batches, rest, record { spelled = spelled; whole = whole; ended = ended })
    from batches rest spelled whole (inr (goes_on, none)) =
        inr (
          length (log_bytes batches),
          (batches, rest, record { spelled = spelled; whole = whole; goes_on = goes_on; fault = none }, refl),
        )

    decided : IsRead editions.First bytes → IsDecided bytes
    decided (batches, rest, reading) = from batches rest reading.spelled reading.whole reading.over

-- what is written is a log
pub written_log : (batches : List Batch) → IsTrue (are_batches batches) → IsLog (log_bytes batches) batches []
written_log batches whole = record { spelled = sym (append-nil (log_bytes batches)); whole = whole; ended = refl }

-- what reading answers on a log, and on what is none
pub log_is_read : (bytes : List ℕ) (batches : List Batch) (rest : List ℕ)
    (read : Result (List Batch) Refusal) → IsLog bytes batches rest → Reads bytes read
    → (read ≡ Ok batches) ⊎ (read ≡ Err refusals.NoMemory)
log_is_read bytes batches rest (Ok found) log reads =
    inl (ap (λ (b : List Batch). Ok b) (one_log bytes found batches reads.0 rest reads.1 log).0)
log_is_read bytes batches rest (Err refusals.NoMemory) log reads = inr refl
log_is_read bytes batches rest (Err (refusals.LogMalformed place)) log reads = absurd (no_log_fails bytes batches rest place log reads)
log_is_read bytes batches rest (Err _) log reads = absurd reads

-- ---- a batch more

-- the edition of the last of some batches, and of one behind them
pub last_edition-more : (edition : Edition) (batches : List Batch) (batch : Batch)
    → last_edition edition (batches ++ batch ∷ []) ≡ batch.edition
last_edition-more edition [] batch = refl
last_edition-more edition (first ∷ batches) batch = last_edition-more first.edition batches batch

pub log-more : (bytes : List ℕ) (batches : List Batch) (rest : List ℕ) (batch : Batch) (after : List ℕ)
    → bytes ≡ log_bytes batches ++ rest → rest ≡ batch_bytes batch ++ after
    → bytes ≡ log_bytes (batches ++ batch ∷ []) ++ after
log-more bytes batches rest batch after spelled next =
    let more : log_bytes (batches ++ batch ∷ []) ≡ log_bytes batches ++ batch_bytes batch =
    flat_map-append batch_bytes batches (batch ∷ [])
    ∙ ap (λ bytes. log_bytes batches ++ bytes) (flat_map-cons batch_bytes batch [] ∙ append-nil (batch_bytes batch)) in
    spelled ∙ (ap (λ bytes. log_bytes batches ++ bytes) next ∙ (sym (append_assoc (log_bytes batches) (batch_bytes batch) after)
    ∙ ap (λ bytes. bytes ++ after) (sym more)))

pub batches-more : (edition : Edition) (batches : List Batch) (batch : Batch) → are_batches_behind edition batches ≡ true
    → is_batch batch ≡ true → may_follow (last_edition edition batches) batch.edition ≡ true
    → are_batches_behind edition (batches ++ batch ∷ []) ≡ true
batches-more edition [] batch whole fit follows =
    all_three (is_batch batch) (may_follow edition batch.edition) true fit follows refl
batches-more edition (first ∷ batches) batch whole fit follows =
    let parts = parts_of edition first batches whole in
    all_three (is_batch first) (may_follow edition first.edition) (are_batches_behind first.edition (batches ++ batch ∷ [])) parts.0 parts.1
    (batches-more first.edition batches batch parts.2 fit follows)

-- ---- a log that was cut

-- the first bytes of a mark begin one
has_own_mark : (edition : Edition) (rest : List ℕ) → has_mark (mark edition ++ rest) edition ≡ true
has_own_mark editions.First rest =
    let mark = mark editions.First in
    (bytes_eq-Decides (take 4 (mark ++ rest)) (take (length (mark ++ rest)) mark)).1
    (sym (ap (λ rest. mark ++ rest) (take-nil (length rest))))
has_own_mark editions.Second rest =
    let mark = mark editions.Second in
    (bytes_eq-Decides (take 4 (mark ++ rest)) (take (length (mark ++ rest)) mark)).1
    (sym (ap (λ rest. mark ++ rest) (take-nil (length rest))))

has_some_mark : (edition : Edition) (rest : List ℕ)
    → (has_mark (mark edition ++ rest) editions.First || has_mark (mark edition ++ rest) editions.Second) ≡ true
has_some_mark editions.First rest =
    let bytes = mark editions.First ++ rest in
    or_left (has_mark bytes editions.First) (has_mark bytes editions.Second) (has_own_mark editions.First rest)
has_some_mark editions.Second rest =
    let bytes = mark editions.Second ++ rest in
    or_right (has_mark bytes editions.First) (has_mark bytes editions.Second) (has_own_mark editions.Second rest)

-- up to four bytes of a mark, whatever stands behind it, are the end of a log
few_end : (edition : Edition) (rest : List ℕ) (size : ℕ) → size < 4 → is_end (take size (mark edition ++ rest)) ≡ true
few_end editions.First rest zero few = refl
few_end editions.First rest (suc zero) few = refl
few_end editions.First rest (suc (suc zero)) few = refl
few_end editions.First rest (suc (suc (suc zero))) few = refl
few_end editions.First rest (suc (suc (suc (suc size)))) few = absurd (omega arith)
few_end editions.Second rest zero few = refl
few_end editions.Second rest (suc zero) few = refl
few_end editions.Second rest (suc (suc zero)) few = refl
few_end editions.Second rest (suc (suc (suc zero))) few = refl
few_end editions.Second rest (suc (suc (suc (suc size)))) few = absurd (omega arith)

-- what stands behind the mark of a batch
abbrev behind_its_mark : Batch → List ℕ
behind_its_mark batch = number_bytes 8 (length (content_bytes batch.lists)) ++ (content_bytes batch.lists ++ 69 ∷ [])

length-behind_its_mark : (batch : Batch) → length (behind_its_mark batch) ≡ 9 + length (content_bytes batch.lists)
length-behind_its_mark batch =
    let content = content_bytes batch.lists in
    omega (
      arith,
      length-append (number_bytes 8 (length content)) (content ++ 69 ∷ []),
      length-append content (69 ∷ []),
      length-number_bytes 8 (length content),
    )

take-mark : (edition : Edition) (rest : List ℕ) (more : ℕ) → take (4 + more) (mark edition ++ rest) ≡ mark edition ++ take more rest
take-mark edition rest more =
    ap (λ n. take (n + more) (mark edition ++ rest)) (sym (length-mark edition)) ∙ take-append-add (mark edition) rest more

-- the mark and some bytes behind it
cut_behind_mark : (batch : Batch) (more : ℕ) → is_batch batch ≡ true → more < 9 + length (content_bytes batch.lists)
    → is_end (mark batch.edition ++ take more (behind_its_mark batch)) ≡ true
cut_behind_mark batch more fit less =
    let content = content_bytes batch.lists in
    let rest = behind_its_mark batch in
    let cut = mark batch.edition ++ take more rest in
    let whole : length rest ≡ 9 + length content = length-behind_its_mark batch in
    let size : length cut ≡ 4 + more =
    omega (
      arith,
      length-append (mark batch.edition) (take more rest),
      length-mark batch.edition,
      length-take-le more rest (omega arith),
    ) in
    let short : is_short cut ≡ true = elim (cases_lt (length cut) 12) [
      | inl few ↦ or_left (nat_lt (length cut) 12) (nat_lt (length cut) (13 + said_length cut)) (lt-ltb _ _ few)
      | inr enough ↦
          let room : 8 ≤ more = omega arith in
          let says : said_length cut ≡ length content =
          behind_mark batch.edition (take more rest)
          ∙ (ap number_of (take-take 8 more rest room) ∙ said batch (content ++ 69 ∷ []) fit) in
          or_right (nat_lt (length cut) 12) (nat_lt (length cut) (13 + said_length cut)) (lt-ltb _ _ (omega arith))
    ] in
    or_right (length cut == 0) (is_beginning cut)
    (all_three (nat_lt 0 (length cut)) (has_mark cut editions.First || has_mark cut editions.Second) (is_short cut)
    (lt-ltb _ _ (omega arith)) (has_some_mark batch.edition (take more rest)) short)

-- a batch that was cut is the end of a log
cut_ends : (batch : Batch) (size : ℕ) → is_batch batch ≡ true → size < length (batch_bytes batch)
    → is_end (take size (batch_bytes batch)) ≡ true
cut_ends batch size fit less =
    let content = content_bytes batch.lists in
    let rest = behind_its_mark batch in
    let joined : batch_bytes batch ≡ mark batch.edition ++ rest =
    append_assoc (mark batch.edition ++ number_bytes 8 (length content)) content (69 ∷ [])
    ∙ append_assoc (mark batch.edition) (number_bytes 8 (length content)) (content ++ 69 ∷ []) in
    elim (cases_lt size 4) [
      | inl few ↦ ap (λ bytes. is_end (take size bytes)) joined ∙ few_end batch.edition rest size few
      | inr many ↦
          let split : size ≡ 4 + (size - 4) = omega arith in
          let cut : take size (batch_bytes batch) ≡ mark batch.edition ++ take (size - 4) rest =
          ap (take size) joined
          ∙ (ap (λ n. take n (mark batch.edition ++ rest)) split ∙ take-mark batch.edition rest (size - 4)) in
          ap is_end cut ∙ cut_behind_mark batch (size - 4) fit (omega (arith, length-batch batch))
    ]

-- a log behind a batch of an edition
record IsLogBehind (edition : Edition) (bytes : List ℕ) (batches : List Batch) (rest : List ℕ) : Type 0 where
  spelled : bytes ≡ log_bytes batches ++ rest
  whole : are_batches_behind edition batches ≡ true
  ended : is_end rest ≡ true

abbrev BeginsBehind : Edition → List Batch → ℕ → Type 0
BeginsBehind edition batches size =
    (count : ℕ) × (rest : List ℕ) × IsLogBehind edition (take size (log_bytes batches)) (take count batches) rest
    × ((whole : ℕ) → whole ≤ length batches → length (log_bytes (take whole batches)) ≤ size → whole ≤ count)

cut_behind : (edition : Edition) (batches : List Batch) (size : ℕ) → are_batches_behind edition batches ≡ true
    → BeginsBehind edition batches size
cut_behind edition [] size whole =
    (0, [], record { spelled = take-nil size; whole = refl; ended = refl }, λ k few within. few)
cut_behind edition (batch ∷ batches) size whole =
    let parts = parts_of edition batch batches whole in
    let front = batch_bytes batch in
    let spelled : log_bytes (batch ∷ batches) ≡ front ++ log_bytes batches = flat_map-cons batch_bytes batch batches in
    elim (cases_lt size (length front)) [
      | inl less ↦
          let cut : take size (log_bytes (batch ∷ batches)) ≡ take size front =
          ap (take size) spelled ∙ take-append-le size front (log_bytes batches) (omega arith) in
          (0, take size front, record { spelled = cut; whole = refl; ended = cut_ends batch size parts.0 less }, none less)
      | inr more ↦
          let later = cut_behind batch.edition batches (size - length front) parts.2 in
          let cut : take size (log_bytes (batch ∷ batches)) ≡ front ++ take (size - length front) (log_bytes batches) =
          cut_at front (log_bytes batches) spelled more in (
            suc later.0,
            later.1,
            record {
              spelled = cut ∙ (ap (λ bytes. front ++ bytes) later.2.spelled ∙ sym (behind batch (take later.0 batches) later.1));
              whole =
                  all_three (is_batch batch) (may_follow edition batch.edition)
                  (are_batches_behind batch.edition (take later.0 batches)) parts.0 parts.1 later.2.whole;
              ended = later.2.ended;
            },
            others more later.0 later.3,
          )
    ]
  where
    cut_at : (front rest : List ℕ) → log_bytes (batch ∷ batches) ≡ front ++ rest → length front ≤ size
        → take size (log_bytes (batch ∷ batches)) ≡ front ++ take (size - length front) rest
    cut_at front rest spelled more =
        let split : size ≡ length front + (size - length front) = omega arith in
        ap (take size) spelled ∙ (ap (λ n. take n (front ++ rest)) split ∙ take-append-add front rest (size - length front))

    none : size < length (batch_bytes batch) → (k : ℕ) → k ≤ length (batch ∷ batches)
        → length (log_bytes (take k (batch ∷ batches))) ≤ size → k ≤ 0
    none less zero few within = omega arith
    none less (suc k) few within =
        absurd (omega (
          arith,
          length-append (batch_bytes batch) (log_bytes (take k batches)),
          ap length (flat_map-cons batch_bytes batch (take k batches)),
        ))

    others : length (batch_bytes batch) ≤ size → (count : ℕ)
        → ((k : ℕ) → k ≤ length batches → length (log_bytes (take k batches)) ≤ size - length (batch_bytes batch) → k ≤ count)
        → (k : ℕ) → k ≤ length (batch ∷ batches) → length (log_bytes (take k (batch ∷ batches))) ≤ size → k ≤ suc count
    others more count each zero few within = omega arith
    others more count each (suc k) few within =
        let one : length (log_bytes (batch ∷ take k batches)) ≡ length (batch_bytes batch) + length (log_bytes (take k batches)) =
        ap length (flat_map-cons batch_bytes batch (take k batches)) ∙ length-append (batch_bytes batch) (log_bytes (take k batches)) in
        omega (arith, each k (omega arith) (omega arith))

pub cut_log : (batches : List Batch) (size : ℕ) → are_batches batches ≡ true → BeginsLog batches size
cut_log batches size whole =
    let cut = cut_behind editions.First batches size whole in
    (cut.0, cut.1, record { spelled = cut.2.spelled; whole = cut.2.whole; ended = cut.2.ended }, cut.3)
