-- What rounds print is printed where nothing is drained between them.
use Rattle.std.specs.Prelude.{⊤}
use Rattle.std.proofs.Common.{◌≡◌, ◌∙◌, ◌++◌, ℕ, suc, List, [], ◌∷◌, Option, None, Some, MatchOption, refl, sym, ap, subst, append_assoc, inl, inr}
use mathlib.Core.List.{IsPrefix}
use Rattle.hy_rows.specs.Tables.{Lists}
use Rattle.hy_events.specs.declared.event.Event.{Event}
use Rattle.hy_events.specs.Events.{event_of}
use Rattle.hy_partition.specs.Jobs.{Log}
use Rattle.hy_partition.specs.Partition.{PartitionState}
use Rattle.hy_crossing.specs.Lists.{Pairwise}
use Rattle.hy_forks.specs.Drains.{TellsHere}
use Rattle.hy_script.specs.Databases.{DatabaseState}
use Rattle.hy_script.specs.Answers.{IsMisnamed}
use Rattle.hy_script.specs.Scripts.{AnswersLine, IsBad}
use Rattle.hy_hyper_input.specs.Received.{Said}
use Rattle.hy_hyper_answers.specs.declared.answers.Style.{Style}
use Rattle.hy_hyper_answers.specs.Served.{AnswersSaid, Serves, number_of, printed}
use Rattle.hy_hyper_service.specs.Keeping.{IsTold, KeepsCommits, LoggedState}
use Rattle.hy_hyper_service.specs.Rounds.{AreRounds, IsRound, RoundState, ServiceState, logged, said_in}
use Rattle.hy_hyper_rounds.specs.Rounds.{IsToldLess, RoundsPrintTheSame, printed_in}
use Rattle.hy_hyper_rounds.proofs.AnswerLaws.{HoldsOfLess, event-told, misnamed-told, same-told, told_just}
use Rattle.hy_hyper_rounds.proofs.ListLaws.{AreBegins, seens-begin, seens-same, seens_of, with_seens}
use Rattle.hy_hyper_rounds.proofs.StepLaws.{prefix-then, with_seen}

-- ---- lines

bad-told : (line : List ℕ) (seens : List Log) (database : DatabaseState) → IsBad database line
    → IsBad (told_just seens database) line
bad-told line seens database bad = (bad.0, misnamed (event_of line) bad.1)
  where
    misnamed : (found : Option Event) → MatchOption found ⊤ (IsMisnamed database)
        → MatchOption found ⊤ (IsMisnamed (told_just seens database))
    misnamed None is = is
    misnamed (Some event) is = misnamed-told event seens database is

line-told : (page_size : ℕ) (line : List ℕ) (old new : DatabaseState) (text : List ℕ) → AnswersLine page_size line old new text
    → HoldsOfLess (λ old new. AnswersLine page_size line old new text) old new
line-told page_size line old new text answers = elim answers [
  | inl empty ↦ same-told (λ old new. AnswersLine page_size line old new text) old new empty.1
      (λ seens same. inl (empty.0, same, empty.2))
  | inr other ↦ elim other [
    | inl event ↦ λ seens begins.
        let less = event-told page_size event.0 old new text event.2 seens begins in
        (less.0, less.1, inr (inl (event.0, event.1, less.2)))
    | inr memory ↦ same-told (λ old new. AnswersLine page_size line old new text) old new memory.1
        (λ seens same. inr (inr (memory.0, same, memory.2)))
  ]
]

said-told : (page_size : ℕ) (one : Said) (old new : DatabaseState) (text : List ℕ) → AnswersSaid page_size one old new text
    → HoldsOfLess (λ old new. AnswersSaid page_size one old new text) old new
said-told page_size (Said.a_line number line) old new text answers = λ seens begins. elim answers [
  | inl answered ↦
      let less = line-told page_size line old new text answered seens begins in (less.0, less.1, inl less.2)
  | inr bad ↦ same-told (λ old new. AnswersSaid page_size (Said.a_line number line) old new text) old new bad.1
      (λ seens same. inr (bad-told line seens old bad.0, same, bad.2)) seens begins
]
said-told page_size (Said.too_long number) old new text answers =
    same-told (λ old new. AnswersSaid page_size (Said.too_long number) old new text) old new answers.0
    (λ seens same. (same, answers.1))

module _ (page_size : ℕ) (style : Style) where
  serves-told : (said : List Said) (old new : DatabaseState) (text : List ℕ) → Serves page_size style said old new text
      → HoldsOfLess (λ old new. Serves page_size style said old new text) old new
  serves-told [] old new text serves =
      same-told (λ old new. Serves page_size style [] old new text) old new serves.0 (λ seens same. (same, serves.1))
  serves-told (one ∷ later) old new text serves = λ seens begins.
      let here = said-told page_size one old serves.0 serves.1 serves.3 seens begins in
      let rest = serves-told later serves.0 new serves.2 serves.5 here.0 here.1 in (
        rest.0,
        rest.1,
        (told_just here.0 serves.0, serves.1, serves.2, here.2, serves.4, rest.2),
      )

  -- one stretch behind another
  serves-then : (some more : List Said) (old middle new : DatabaseState) (text rest : List ℕ)
      → Serves page_size style some old middle text → Serves page_size style more middle new rest
      → Serves page_size style (some ++ more) old new (text ++ rest)
  serves-then [] more old middle new text rest first next =
      let here = subst (λ database. Serves page_size style more database new rest) first.0 next in
      subst (λ (front : List ℕ). Serves page_size style more old new (front ++ rest)) (sym first.1) here
  serves-then (one ∷ later) more old middle new text rest first next = (
    first.0,
    first.1,
    first.2 ++ rest,
    first.3,
    ap (λ front. front ++ rest) first.4 ∙ append_assoc (printed style (number_of one) first.1) first.2 rest,
    serves-then later more first.0 middle new first.2 rest first.5 next,
  )

-- ---- drains

-- partitions that were told the whole serial list are, told less, those that weren't
tells-same : (log : Log) (number : ℕ) (olds news : List PartitionState) → Pairwise (TellsHere log) number olds news
    → (seens : List Log) → AreBegins seens olds
    → AreBegins seens news × (with_seens seens news ≡ with_seens seens olds)
tells-same log number [] [] tells [] begins = (tt, refl)
tells-same log number [] [] tells (seen ∷ later) begins = absurd begins
tells-same log number (old ∷ olds) (new ∷ news) tells [] begins = absurd begins
tells-same log number (old ∷ olds) (new ∷ news) tells (seen ∷ later) begins =
    let rest = tells-same log (suc number) olds news tells.1 later begins.1 in (
      (
        subst (IsPrefix seen) (sym (ap (λ (p : PartitionState). p.seen) tells.0.0))
            (prefix-then seen old.seen log begins.0 tells.0.2),
        rest.0,
      ),
      ap (λ (p : PartitionState). p ∷ with_seens later news) (ap (with_seen seen) tells.0.0)
          ∙ ap (λ parts. with_seen seen old ∷ parts) rest.1,
    )
tells-same log number [] (new ∷ news) tells seens begins = absurd tells
tells-same log number (old ∷ olds) [] tells seens begins = absurd tells

-- a database behind a drain is, told less, the one before it
keeps-same : (lists : Lists) (old new : LoggedState) (done database : DatabaseState)
    → KeepsCommits lists old new done database → (seens : List Log) → AreBegins seens done.parts
    → AreBegins seens database.parts × (told_just seens database ≡ told_just seens done)
keeps-same lists old new done database keeps seens begins = elim keeps [
  | inl nothing ↦ (
    subst (λ (now : DatabaseState). AreBegins seens now.parts) (sym nothing.2) begins,
    ap (told_just seens) nothing.2,
  )
  | inr batch ↦
      let told : IsTold done database = batch.1.told in
      let same = tells-same done.log 1 done.parts database.parts told.told seens begins in (
        same.0,
        ap (λ parts. record { parts = parts; snapshots = database.snapshots; log = database.log }) same.1
            ∙ ap (λ snapshots. record {
              parts = with_seens seens done.parts;
              snapshots = snapshots;
              log = database.log;
            }) told.snapshots
            ∙ ap (λ log. record { parts = with_seens seens done.parts; snapshots = done.snapshots; log = log }) told.log,
      )
]

-- ---- rounds

module _ (page_size : ℕ) (lists : Lists) where
  rounds-told : (first last : ServiceState) (rounds : List RoundState) → AreRounds page_size lists first rounds last
      → HoldsOfLess (λ old new. Serves page_size first.style (said_in rounds) old new (printed_in rounds))
      first.database last.database
  rounds-told first last [] are =
      let same = ap (λ (service : ServiceState). service.database) are in
      same-told (λ old new. Serves page_size first.style [] old new []) first.database last.database same
      (λ seens is. (is, refl))
  rounds-told first last (round ∷ later) are = λ seens begins.
      let is : IsRound page_size lists round.said round.text first round.behind = are.0 in
      let here = serves-told page_size first.style round.said first.database is.done round.text is.serves seens begins in
      let kept = keeps-same lists (logged first) (logged round.behind) is.done round.behind.database is.keeps here.0 here.1
      in
      let rest = rounds-told round.behind last later are.1 here.0 kept.0 in
      let next = subst (λ style. Serves page_size style (said_in later) (told_just here.0 is.done)
      (told_just rest.0 last.database) (printed_in later)) is.style
      (subst (λ (database : DatabaseState). Serves page_size round.behind.style (said_in later) database
      (told_just rest.0 last.database) (printed_in later)) kept.1 rest.2) in (
        rest.0,
        rest.1,
        serves-then page_size first.style round.said (said_in later) (told_just seens first.database)
            (told_just here.0 is.done) (told_just rest.0 last.database) round.text (printed_in later) here.2 next,
      )

-- partitions beside those that were told less
less : (number : ℕ) (seens : List Log) (parts : List PartitionState) → AreBegins seens parts
    → Pairwise IsToldLess number parts (with_seens seens parts)
less number [] [] begins = tt
less number [] (p ∷ parts) begins = absurd begins
less number (seen ∷ later) [] begins = absurd begins
less number (seen ∷ later) (p ∷ parts) begins =
    (record { same = refl; begins = begins.0 }, less (suc number) later parts begins.1)

pub rounds-print : RoundsPrintTheSame
rounds-print page_size lists first last rounds are =
    let parts : List PartitionState = first.database.parts in
    let all = rounds-told page_size lists first last rounds are (seens_of parts) (seens-begin parts) in
    let same : told_just (seens_of parts) first.database ≡ first.database =
    ap (λ parts. record { parts = parts; snapshots = first.database.snapshots; log = first.database.log })
    (seens-same parts) in (
      told_just all.0 last.database,
      subst (λ (database : DatabaseState). Serves page_size first.style (said_in rounds) database
          (told_just all.0 last.database) (printed_in rounds)) same all.2,
      record { parts = less 1 all.0 last.database.parts all.1; snapshots = refl; log = refl },
    )
