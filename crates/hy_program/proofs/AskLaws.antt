-- Why `query` isn't done, and what it prints.
use Rattle.std.proofs.Common.{◌≡◌, ◌∙◌, ℕ, List, Option, None, Some, Result, Ok, Err, IfErr, ap, inl, inr, refl, subst, sym}
use Rattle.std.specs.Prelude.{IsOk, IsOkAnd, MatchResult}
use Rattle.std.specs.Io.KnownBytes.{Appends}
use Rattle.std.specs.declared.io.Error.{Error}
use Rattle.hy_rows.specs.Tables.{Lists}
use Rattle.hy_files.specs.declared.directory.FileFault.{FileFault}
use Rattle.hy_files.specs.declared.directory.FileFault.TheVariants as files
use Rattle.hy_files.specs.Files.{FilesByPath}
use Rattle.hy_files.specs.Loads.{IsReadFault}
use Rattle.hy_rows.specs.declared.catalogue.Table.{Table}
use Rattle.hy_schema.specs.declared.refusal.Refusal.{Refusal}
use Rattle.hy_schema.specs.declared.refusal.Refusal.TheVariants as refusals
use Rattle.hy_batches.specs.Batches.{Batch}
use Rattle.hy_batches.specs.Logs.{IsLog}
use Rattle.hy_recovery.specs.of_crossing.Crossings.{database_behind}
use Rattle.hy_recovery.specs.of_partition.Jobs.{Log}
use Rattle.hy_storm.specs.of_session.Databases.{lists_of}
use Rattle.hy_query.specs.Language.{query_of}
use Rattle.hy_query.specs.Meaning.{answer_of}
use Rattle.hy_query.specs.Queries.{QueryState}
use Rattle.hy_storm.specs.of_session.Texts.{answer_text}
use Rattle.hy_program.specs.declared.fault.RunFault.{RunFault}
use Rattle.hy_program.specs.declared.fault.RunFault.TheVariants as fault
use Rattle.hy_program.specs.Faults.{IsAboutFiles}
use Rattle.hy_program.specs.Query.{HasHistory, IsAnswerBehind, IsAnswerOn, IsQueryDone, IsQueryFault, IsWhyUnaskedBehind, WhyUnaskedBehind, by_warehouse}
use Rattle.hy_program.specs.Reading.{HasBoth, HasLoad}
use Rattle.hy_program.specs.Replay.{AreListsBehind, IsWhyLost, greatest_limits}

abbrev Said : Lists → List ℕ → QueryState → Type 0
Said lists printed query = printed ≡ answer_text (answer_of query (by_warehouse lists))

there-is : (lists : Lists) (printed : List ℕ) (said : Result QueryState ℕ) → IsOkAnd said (Said lists printed) → IsOk said
there-is lists printed (Ok query) is = refl
there-is lists printed (Err place) is = absurd is

-- what is printed is the answer
pub printed-answer : (lists : Lists) (printed : List ℕ) (said : Result QueryState ℕ) (before after : Option (List ℕ))
    → IsOkAnd said (Said lists printed) → Appends before after printed
    → IsOkAnd said (λ query. Appends before after (answer_text (answer_of query (by_warehouse lists))))
printed-answer lists printed (Ok query) before after is appends =
    subst (λ (text : List ℕ). Appends before after text) is appends
printed-answer lists printed (Err place) before after is appends = absurd is

module _ (directory text : List ℕ) (known : Option FilesByPath) (Unprinted : Type 0) where
  -- a fault of the files of the folder
  pub query_fault : (found : FileFault) (made : RunFault) → IsAboutFiles directory found made
      → IsReadFault known directory found → Unprinted → IsQueryFault directory text None known Unprinted made
  query_fault (files.Refused refusal) made is why unprinted =
      subst (λ (it : RunFault). IsQueryFault directory text None known Unprinted it) (sym is) (inl why, unprinted)
  query_fault (files.CannotRead table) (fault.CannotRead path) is missing unprinted = (
    (is.0, subst (λ (it : Table). IsReadFault known directory (files.CannotRead it)) (sym is.1) missing),
    unprinted,
  )
  query_fault (files.CannotRead table) (fault.Refused refusal) is missing unprinted = absurd (is)
  query_fault (files.CannotRead table) (fault.CannotWrite path) is missing unprinted = absurd (is)
  query_fault (files.CannotRead table) (fault.CannotReadFile path) is missing unprinted = absurd (is)
  query_fault (files.CannotRead table) (fault.CannotWriteFile path) is missing unprinted = absurd (is)
  query_fault (files.CannotRead table) (fault.BadEvent number) is missing unprinted = absurd (is)
  query_fault (files.CannotRead table) (fault.Serve served) is missing unprinted = absurd (is)
  query_fault (files.CannotRead table) (fault.Writer error) is missing unprinted = absurd (is)
  query_fault (files.CannotWrite table) made is never unprinted = absurd (never)

  -- one of the output, behind an answer
  pub writer_fault : {X : Type 0} (result : Result X RunFault) (made : RunFault)
      → IsQueryFault directory text None known Unprinted made → result ≡ Err made
      → IfErr result (IsQueryFault directory text None known Unprinted)
  writer_fault {X = X} result made is_fault is =
      subst (λ (r : Result X RunFault). IfErr r (IsQueryFault directory text None known Unprinted)) (sym is) is_fault

  pub answered : (lists : Lists) (printed : List ℕ) → HasLoad known directory lists
      → IsOkAnd (query_of text) (Said lists printed) → (all : Lists) × HasLoad known directory all × IsOk (query_of text)
  answered lists printed load said = (lists, load, there-is lists printed (query_of text) said)

-- ---- behind a log

-- what is answered over the lists of a database behind batches
pub answered_on : (lists : Lists) (batches : List Batch) (query : QueryState) (all : Lists) (printed : List ℕ)
    → AreListsBehind lists batches all → printed ≡ answer_text (answer_of query all) → IsAnswerOn lists batches query printed
answered_on lists batches query all printed behind is = (
  behind.log,
  behind.history,
  is ∙ ap (λ (it : Lists). answer_text (answer_of query it)) behind.spelled,
)

-- and for bytes of which these batches were read, and a text of which the query was
pub answered_behind : (lists : Lists) (bytes : List ℕ) (batches : List Batch) (rest : List ℕ) (query : QueryState)
    (said : Result QueryState ℕ) (printed : List ℕ) → IsLog bytes batches rest → said ≡ Ok query
    → IsAnswerOn lists batches query printed → IsOkAnd said (λ it. IsAnswerBehind lists bytes it printed)
answered_behind lists bytes batches rest query said printed whole is answer =
    subst (λ (it : Result QueryState ℕ). IsOkAnd it (λ query. IsAnswerBehind lists bytes query printed)) (sym is)
    (batches, rest, whole, answer)

-- why there is no answer
pub unread_behind : {X : Type 0} (lists : Lists) (bytes text : List ℕ) (result : Result X Refusal) (why : Refusal)
    → MatchResult (query_of text) (λ query. why ≡ refusals.NoMemory) (λ place. why ≡ refusals.BadQuery place)
    → result ≡ Err why → IfErr result (IsWhyUnaskedBehind lists bytes text)
unread_behind {X = X} lists bytes text result why refused is =
    subst (λ (r : Result X Refusal). IfErr r (IsWhyUnaskedBehind lists bytes text)) (sym is) (unread (query_of text) refused)
  where
    unread : (said : Result QueryState ℕ) → MatchResult said (λ query. why ≡ refusals.NoMemory) (λ place. why ≡ refusals.BadQuery place)
        → WhyUnaskedBehind lists bytes said why
    unread (Ok query) memory = inl memory
    unread (Err place) bad = bad

lost_behind : (lists : Lists) (bytes text : List ℕ) (query : QueryState) (why : Refusal) → query_of text ≡ Ok query
    → IsWhyLost greatest_limits lists bytes why → IsWhyUnaskedBehind lists bytes text why
lost_behind lists bytes text query why is lost =
    subst (λ (said : Result QueryState ℕ). WhyUnaskedBehind lists bytes said why) (sym is) (inr lost)

pub lost_behind_by : {X : Type 0} (lists : Lists) (bytes text : List ℕ) (query : QueryState) (result : Result X Refusal)
    → query_of text ≡ Ok query → IfErr result (IsWhyLost greatest_limits lists bytes)
    → IfErr result (IsWhyUnaskedBehind lists bytes text)
lost_behind_by lists bytes text query (Ok done) is lost = tt
lost_behind_by lists bytes text query (Err why) is lost = lost_behind lists bytes text query why is lost

module _ (directory text log : List ℕ) (known : Option FilesByPath) where
  -- the serial list behind an answer
  history_behind : (lists : Lists) (bytes printed : List ℕ) (said : Result QueryState ℕ) → HasBoth directory log known lists bytes
      → IsOkAnd said (λ query. IsAnswerBehind lists bytes query printed)
      → (all : Lists) × (history : Log) × HasHistory directory log known all history × IsOk said
  history_behind lists bytes printed (Ok query) has answer = (
    lists,
    answer.3.0,
    (answer.0, (bytes, answer.1, has, answer.2), answer.3.1),
    refl,
  )
  history_behind lists bytes printed (Err place) has answer = absurd answer

  -- the answer is printed
  done : (lists : Lists) (bytes printed : List ℕ) (said : Result QueryState ℕ) (old new : Option (List ℕ))
      → HasBoth directory log known lists bytes → IsOkAnd said (λ query. IsAnswerBehind lists bytes query printed)
      → Appends old new printed
      → (all : Lists) × (history : Log) × HasHistory directory log known all history
      × IsOkAnd said (λ query. Appends old new (answer_text (answer_of query (lists_of (database_behind all history)))))
  done lists bytes printed (Ok query) old new has answer appends = (
    lists,
    answer.3.0,
    (answer.0, (bytes, answer.1, has, answer.2), answer.3.1),
    subst (λ (text : List ℕ). Appends old new text) answer.3.2 appends,
  )
  done lists bytes printed (Err place) old new has answer appends = absurd answer

  pub done_behind : (lists : Lists) (bytes printed : List ℕ) (old new : Option (List ℕ)) → HasBoth directory log known lists bytes
      → IsOkAnd (query_of text) (λ query. IsAnswerBehind lists bytes query printed) → Appends old new printed
      → IsQueryDone directory text (Some log) known old new
  done_behind lists bytes printed old new has answer appends = done lists bytes printed (query_of text) old new has answer appends

module _ (directory text log : List ℕ) (known : Option FilesByPath) (Unprinted : Type 0) where
  -- the text, the bytes, frames or memory are at fault
  pub unanswered_fault : {X : Type 0} (lists : Lists) (given : List ℕ) → HasBoth directory log known lists given
      → (refusal : Refusal) → IsWhyUnaskedBehind lists given text refusal → Unprinted → (result : Result X RunFault)
      → result ≡ Err (fault.Refused refusal) → IfErr result (IsQueryFault directory text (Some log) known Unprinted)
  unanswered_fault {X = X} lists given has refusal why unprinted result is =
      subst (λ (r : Result X RunFault). IfErr r (IsQueryFault directory text (Some log) known Unprinted)) (sym is)
      (inr (lists, given, has, why), unprinted)

  -- the output is, behind an answer
  pub unprinted_fault : {X : Type 0} (lists : Lists) (given printed : List ℕ) → HasBoth directory log known lists given
      → IsOkAnd (query_of text) (λ query. IsAnswerBehind lists given query printed) → (error : Error)
      → (result : Result X RunFault) → result ≡ Err (fault.Writer error)
      → IfErr result (IsQueryFault directory text (Some log) known Unprinted)
  unprinted_fault {X = X} lists given printed has answer error result is =
      subst (λ (r : Result X RunFault). IfErr r (IsQueryFault directory text (Some log) known Unprinted)) (sym is)
      (history_behind directory text log known lists given printed (query_of text) has answer)

-- where less is said of what wasn't printed, less holds
module _ (directory text : List ℕ) (known : Option FilesByPath) (Unprinted Other : Type 0) (leads : Unprinted → Other) where
  pub query_weaker : (log : Option (List ℕ)) (why : RunFault) → IsQueryFault directory text log known Unprinted why
      → IsQueryFault directory text log known Other why
  query_weaker None (fault.Refused refusal) is = (is.0, leads is.1)
  query_weaker None (fault.Writer error) is = is
  query_weaker None (fault.CannotRead path) is = (is.0, leads is.1)
  query_weaker None (fault.CannotWrite path) is = (is.0, leads is.1)
  query_weaker None (fault.CannotReadFile path) is = absurd (is.0)
  query_weaker None (fault.CannotWriteFile path) is = absurd (is.0)
  query_weaker None (fault.BadEvent number) is = absurd (is.0)
  query_weaker None (fault.Serve served) is = absurd (is.0)
  query_weaker (Some log) (fault.Refused refusal) is = (is.0, leads is.1)
  query_weaker (Some log) (fault.Writer error) is = is
  query_weaker (Some log) (fault.CannotRead path) is = (is.0, leads is.1)
  query_weaker (Some log) (fault.CannotWrite path) is = absurd (is.0)
  query_weaker (Some log) (fault.CannotReadFile path) is = (is.0, leads is.1)
  query_weaker (Some log) (fault.CannotWriteFile path) is = absurd (is.0)
  query_weaker (Some log) (fault.BadEvent number) is = absurd (is.0)
  query_weaker (Some log) (fault.Serve served) is = absurd (is.0)
