-- A command over several warehouses does the same to partitions that were told less of the serial list.
use Rattle.std.proofs.Common.{append-nil, ◌≡◌, ◌⊎◌, ◌∙◌, ◌&&◌, ◌||◌, ℕ, suc, List, [], ◌∷◌, Option, None, Some, MatchOption, refl, sym, ap, inl, inr}
use mathlib.Core.List.{IsPrefix}
use Rattle.hy_rows.specs.Tables.{Lists}
use Rattle.hy_schema.specs.declared.refusal.Refusal.{Refusal}
use Rattle.hy_commands.specs.declared.command.Command.{Command}
use Rattle.hy_commands.specs.declared.command.Commit.{Commit}
use Rattle.hy_commands.specs.Parts.{refusal_in}
use Rattle.hy_partition.specs.Jobs.{DoneState, JobState, Log, RunningJob}
use Rattle.hy_partition.specs.Partition.{PartitionState}
use Rattle.hy_partition.specs.Steps.{Accepts, Refuses, is_full}
use Rattle.hy_crossing.specs.Crossings.{AcceptsAll, Crosses, EndsIfNamed, Informs, IsAsBefore, IsWhyRefused, KeepsIfNamed, LeavesIfNamed, RefusesAll, SomeLacksFrame, TellsIfNamed, crossing_refusal, database_behind, entry_of, is_named, some_is_full, with_full}
use Rattle.hy_forks.specs.Drains.{TellsHere}
use Rattle.hy_forks.specs.Partitions.{CrossesAndTells}
use Rattle.hy_hyper_rounds.proofs.ListLaws.{AreBegins, HoldToldLess, pairs-told, turn-told, with_seens}
use Rattle.hy_hyper_rounds.proofs.StepLaws.{HoldsToldLess, beside-told, ended-told, nothing-told, prefix-then, told-all, told-same, with_seen}

-- ---- one partition

-- nothing changes
abbrev pub still-told : (relation : PartitionState → PartitionState → Type 0) (old new : PartitionState) → new ≡ old
    → ((seen : Log) → with_seen seen new ≡ with_seen seen old → relation (with_seen seen old) (with_seen seen new))
    → HoldsToldLess relation old new
still-told relation old new same holds =
    told-same relation old new (ap (λ (p : PartitionState). p.seen) same) (λ seen. holds seen (ap (with_seen seen) same))

-- it is told the serial list
abbrev pub list-told : (log : Log) (relation : PartitionState → PartitionState → Type 0) (old new : PartitionState)
    → new ≡ record old { seen = log } → IsPrefix old.seen log
    → ((seen : Log) → IsPrefix seen log → with_seen log new ≡ record (with_seen seen old) { seen = log }
    → relation (with_seen seen old) (with_seen log new))
    → HoldsToldLess relation old new
list-told log relation old new is told holds seen begins = (
  log,
  ([], append-nil log ∙ sym (ap (λ (p : PartitionState). p.seen) is)),
  holds seen (prefix-then seen old.seen log begins told) (ap (with_seen log) is),
)

finished-told : (before after : Log) (old new : PartitionState) (running : Option RunningJob)
    → MatchOption running ((new ≡ old) × (after ≡ before)) (λ job.
    Accepts job (Some before) (Some after) old new ⊎ Refuses job (Some before) (Some after) old new)
    → HoldsToldLess (λ old new. MatchOption running ((new ≡ old) × (after ≡ before)) (λ job.
    Accepts job (Some before) (Some after) old new ⊎ Refuses job (Some before) (Some after) old new)) old new
finished-told before after old new None ends =
    still-told (λ old new. (new ≡ old) × (after ≡ before)) old new ends.0 (λ seen same. (same, ends.1))
finished-told before after old new (Some job) ends = ended-told old new job (Some before) (Some after) ends

as_before-told : (old new : PartitionState) (seen : Log) → IsAsBefore old new
    → IsAsBefore (with_seen seen old) (with_seen seen new)
as_before-told old new seen is = record {
  part = is.part;
  undo = is.undo;
  bytes = is.bytes;
  nothing = nothing-told old new seen is.nothing;
  beside = beside-told old new seen seen is.beside;
}

module _ (command : Command) where
  job-ends : (number : ℕ) (before after : Log) (old new : PartitionState) → EndsIfNamed command number before after old new
      → HoldsToldLess (EndsIfNamed command number before after) old new
  job-ends number before after old new ends = elim ends [
    | inl named ↦ λ seen begins.
        let ended = finished-told before after old new old.running named.1 seen begins in
        (ended.0, ended.1, inl (named.0, ended.2))
    | inr unnamed ↦ still-told (EndsIfNamed command number before after) old new unnamed.1.0
        (λ seen same. inr (unnamed.0, (same, unnamed.1.1)))
  ]

  named-told : (log : Log) (number : ℕ) (old new : PartitionState) → TellsIfNamed command log number old new
      → HoldsToldLess (TellsIfNamed command log number) old new
  named-told log number old new tells = elim tells [
    | inl named ↦ list-told log (TellsIfNamed command log number) old new named.1.0 named.1.2
        (λ seen begins is. inl (named.0, (is, named.1.1, begins)))
    | inr unnamed ↦ still-told (TellsIfNamed command log number) old new unnamed.1
        (λ seen same. inr (unnamed.0, same))
  ]

  kept-told : (commit : Commit) (log : Log) (number : ℕ) (old new : PartitionState)
      → KeepsIfNamed command commit log number old new
      → HoldsToldLess (KeepsIfNamed command commit log number) old new
  kept-told commit log number old new keeps = elim keeps [
    | inl named ↦ told-all (KeepsIfNamed command commit log number) old new (λ seen begins. inl (
      named.0,
      record {
        part = named.1.part;
        undo = named.1.undo;
        seen = named.1.seen;
        kept = named.1.kept;
        book = named.1.book;
        beside = beside-told old new seen new.seen named.1.beside;
      },
    ))
    | inr unnamed ↦ still-told (KeepsIfNamed command commit log number) old new unnamed.1
        (λ seen same. inr (unnamed.0, same))
  ]

  left-told : (number : ℕ) (old new : PartitionState) → LeavesIfNamed command number old new
      → HoldsToldLess (LeavesIfNamed command number) old new
  left-told number old new leaves = elim leaves [
    | inl named ↦ elim named.1 [
      | inl same ↦ still-told (LeavesIfNamed command number) old new same (λ seen is. inl (named.0, inl is))
      | inr before ↦ told-same (LeavesIfNamed command number) old new before.nothing.seen
          (λ seen. inl (named.0, inr (as_before-told old new seen before)))
    ]
    | inr unnamed ↦ still-told (LeavesIfNamed command number) old new unnamed.1
        (λ seen same. inr (unnamed.0, same))
  ]

tells-here : (log : Log) (number : ℕ) (old new : PartitionState) → TellsHere log number old new
    → HoldsToldLess (TellsHere log number) old new
tells-here log number old new tells =
    list-told log (TellsHere log number) old new tells.0 tells.2 (λ seen begins is. (is, tells.1, begins))

-- ---- all partitions

full-told : (command : Command) (number : ℕ) (seens : List Log) (parts : List PartitionState) → AreBegins seens parts
    → some_is_full command number (with_seens seens parts) ≡ some_is_full command number parts
full-told command number [] parts begins = refl
full-told command number (seen ∷ later) [] begins = absurd begins
full-told command number (seen ∷ later) (p ∷ parts) begins =
    ap (λ full. is_named command number && is_full p || full) (full-told command (suc number) later parts begins.1)

lack-told : (seens nexts : List Log) (olds news : List PartitionState) → AreBegins seens olds → AreBegins nexts news
    → SomeLacksFrame olds news → SomeLacksFrame (with_seens seens olds) (with_seens nexts news)
lack-told [] [] olds news begins are lacks = lacks
lack-told (seen ∷ later) [] (old ∷ olds) (new ∷ news) begins are lacks = absurd are
lack-told [] (next ∷ nexts) (old ∷ olds) (new ∷ news) begins are lacks = absurd begins
lack-told (seen ∷ later) (next ∷ nexts) (old ∷ olds) (new ∷ news) begins are lacks = elim lacks [
  | inl here ↦ inl here
  | inr there ↦ inr (lack-told later nexts olds news begins.1 are.1 there)
]
lack-told seens nexts [] news begins are lacks = absurd lacks
lack-told seens nexts (old ∷ olds) [] begins are lacks = absurd lacks

module _ (lists : Lists) (job : JobState) where
  refusal-told : (log : Log) (seens : List Log) (parts : List PartitionState) → AreBegins seens parts
      → crossing_refusal lists log (with_seens seens parts) job.command ≡ crossing_refusal lists log parts job.command
  refusal-told log seens parts begins =
      ap (λ full. with_full full (refusal_in (database_behind lists log) job.command))
      (full-told job.command 1 seens parts begins)

  accepts-all : (log after : Log) (olds news : List PartitionState) (answer : DoneState)
      → AcceptsAll lists job log after olds news answer
      → HoldToldLess (λ olds news. AcceptsAll lists job log after olds news answer) olds news
  accepts-all log after olds news answer accepts seens begins =
      let commit : Commit = (entry_of lists job log).commit in
      let kept = pairs-told (KeepsIfNamed job.command commit after) (KeepsIfNamed job.command commit after)
      (kept-told job.command commit after) 1 olds news accepts.parts seens begins in (
        kept.0,
        kept.1,
        record {
          accepted = refusal-told log seens olds begins ∙ accepts.accepted;
          client_told = accepts.client_told;
          log_is = accepts.log_is;
          parts = kept.2;
          answer_is = accepts.answer_is;
        },
      )

  why-told : (log : Log) (olds news : List PartitionState) (why : Refusal) (seens nexts : List Log)
      → AreBegins seens olds → AreBegins nexts news → IsWhyRefused lists log job.command olds news why
      → IsWhyRefused lists log job.command (with_seens seens olds) (with_seens nexts news) why
  why-told log olds news why seens nexts begins are reason = elim reason [
    | inl before ↦ inl (refusal-told log seens olds begins ∙ before)
    | inr parts ↦ inr (
      refusal-told log seens olds begins ∙ parts.0,
      elim parts.1 [
        | inl frame ↦ inl (frame.0, lack-told seens nexts olds news begins are frame.1)
        | inr memory ↦ inr memory
      ],
    )
  ]

  refuses-all : (log after : Log) (olds news : List PartitionState) (answer : DoneState)
      → RefusesAll lists job log after olds news answer
      → HoldToldLess (λ olds news. RefusesAll lists job log after olds news answer) olds news
  refuses-all log after olds news answer refuses seens begins =
      let left = pairs-told (LeavesIfNamed job.command) (LeavesIfNamed job.command) (left-told job.command) 1 olds news
      refuses.parts seens begins in (
        left.0,
        left.1,
        record {
          why = refuses.why;
          reason = why-told log olds news refuses.why seens left.0 begins left.1 refuses.reason;
          log_is = refuses.log_is;
          parts = left.2;
          answer_is = refuses.answer_is;
        },
      )

  does-told : (log after : Log) (olds news : List PartitionState) (answer : DoneState)
      → AcceptsAll lists job log after olds news answer ⊎ RefusesAll lists job log after olds news answer
      → HoldToldLess (λ olds news. AcceptsAll lists job log after olds news answer
      ⊎ RefusesAll lists job log after olds news answer) olds news
  does-told log after olds news answer does seens begins = elim does [
    | inl accepts ↦
        let all = accepts-all log after olds news answer accepts seens begins in (all.0, all.1, inl all.2)
    | inr refuses ↦
        let all = refuses-all log after olds news answer refuses seens begins in (all.0, all.1, inr all.2)
  ]

  crosses-told : (before after : Log) (olds news : List PartitionState) (answer : DoneState)
      → Crosses lists job before after olds news answer
      → HoldToldLess (λ olds news. Crosses lists job before after olds news answer) olds news
  crosses-told before after olds news answer crosses seens begins =
      let informs : Informs job.command before crosses.log olds crosses.middle = crosses.informs in
      let ended = turn-told (EndsIfNamed job.command) (EndsIfNamed job.command) (job-ends job.command) 1 before
      crosses.log olds informs.ended informs.ends seens begins in
      let told = pairs-told (TellsIfNamed job.command crosses.log) (TellsIfNamed job.command crosses.log)
      (named-told job.command crosses.log) 1 informs.ended crosses.middle informs.tells ended.0 ended.1 in
      let done = does-told crosses.log after crosses.middle news answer crosses.does told.0 told.1 in (
        done.0,
        done.1,
        record {
          log = crosses.log;
          middle = with_seens told.0 crosses.middle;
          informs = record { ended = with_seens ended.0 informs.ended; ends = ended.2; tells = told.2 };
          does = done.2;
        },
      )

  pub crossed-told : (before after : Log) (olds news : List PartitionState) (answer : DoneState)
      → CrossesAndTells lists job before after olds news answer
      → HoldToldLess (λ olds news. CrossesAndTells lists job before after olds news answer) olds news
  crossed-told before after olds news answer does seens begins =
      let crossed = crosses-told before after olds does.crossed answer does.crosses seens begins in
      let told = pairs-told (TellsHere after) (TellsHere after) (tells-here after) 1 does.crossed news does.tells crossed.0
      crossed.1 in (
        told.0,
        told.1,
        record { crossed = with_seens crossed.0 does.crossed; crosses = crossed.2; tells = told.2 },
      )
