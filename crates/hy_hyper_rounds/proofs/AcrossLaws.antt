-- A command over several warehouses has the same outcome in databases that have kept the same, unless frames or memory lacked.
use Rattle.std.proofs.Common.{◌≡◌, ◌⊎◌, ◌∙◌, ◌&&◌, ◌||◌, ◌++◌, ℕ, suc, List, [], ◌∷◌, Option, None, Some, MatchOption, refl, sym, ap, subst, inl, inr}
use Rattle.std.proofs.lemmas.Bool.{true≢false}
use Rattle.hy_rows.specs.Tables.{Lists}
use Rattle.hy_schema.specs.declared.refusal.Refusal.{Refusal}
use Rattle.hy_commands.specs.declared.command.Command.{Command}
use Rattle.hy_commands.specs.declared.command.Commit.{Commit}
use Rattle.hy_commands.specs.declared.command.Commit.TheVariants as commits
use Rattle.hy_commands.specs.declared.edition.Edition.TheVariants as editions
use Rattle.hy_commands.specs.declared.reply.Reply.{Reply}
use Rattle.hy_commands.specs.declared.reply.Reply.TheVariants as replies
use Rattle.hy_commands.specs.Parts.{Database, refusal_in}
use Rattle.hy_database.specs.Database.{act_on_all, kept_in}
use Rattle.hy_partition.specs.Jobs.{DoneState, JobState, Log, RunningJob}
use Rattle.hy_partition.specs.Partition.{PartitionState, terms_of}
use Rattle.hy_partition.specs.Parts.{KeepsBeside}
use Rattle.hy_partition.specs.Steps.{is_full}
use Rattle.hy_crossing.specs.Crossings.{AcceptsAll, Crosses, EndsIfNamed, IsWhyRefused, KeepsIfNamed, LeavesIfNamed, RefusesAll, TellsIfNamed, crossing_refusal, database_behind, entry_of, is_named, next_number, some_is_full, with_full}
use Rattle.hy_crossing.specs.Lists.{InTurn, Pairwise}
use Rattle.hy_forks.specs.Drains.{TellsHere}
use Rattle.hy_forks.specs.Partitions.{CrossesAndTells}
use Rattle.hy_script.specs.Steps.{reply_waiting}
use Rattle.hy_hyper_rounds.specs.Restarts.{IsShortage, KeepTheSame, RunTheSame, SayTheSame, SomeWaitsShort, WaitsShort}
use Rattle.hy_hyper_rounds.proofs.SayLaws.{behind-alike, say-more, say-nothing}
use Rattle.hy_hyper_rounds.proofs.AlikeLaws.{HasEnded, ended-alike, full-alike, some-same, terms-same}

-- ---- partitions that stay

-- the load, what is kept, the job and the answer that waits are as before
pub record Stays (number : ℕ) (old new : PartitionState) : Type 0 where
  pub terms : terms_of new ≡ terms_of old
  pub kept : new.kept ≡ old.kept
  pub running : new.running ≡ old.running
  pub part : old.part ≡ None → new.part ≡ None
  pub finished : new.finished ≡ old.finished

pub stays-same : (number : ℕ) (old new : PartitionState) → new ≡ old → Stays number old new
stays-same number old new same = rw same (record {
  terms = refl;
  kept = refl;
  running = refl;
  part = λ none. none;
  finished = refl;
})

pub stays-told : (log : Log) (number : ℕ) (old new : PartitionState) → new ≡ record old { seen = log }
    → Stays number old new
stays-told log number old new told = rw told (record {
  terms = refl;
  kept = refl;
  running = refl;
  part = λ none. none;
  finished = refl;
})

pub stays-alike : (number : ℕ) (one other last its : PartitionState) → KeepTheSame number one other
    → Stays number one last → Stays number other its → KeepTheSame number last its
stays-alike number one other last its same stays stay =
    let terms = terms-same number one other last its same stays.terms stay.terms in record {
      load = terms.0;
      warehouse = terms.1;
      max_kept = terms.2;
      kept = stay.kept ∙ same.kept ∙ sym stays.kept;
      running = rw (stays.running, stay.running) (same.running);
      part = (stays.part same.part.0, stay.part same.part.1);
      waiting = ap reply_waiting stay.finished ∙ same.waiting ∙ sym (ap reply_waiting stays.finished);
    }

-- ---- lists of partitions

abbrev pub KeepAll : ℕ → List PartitionState → List PartitionState → Type 0
KeepAll number ones others = Pairwise KeepTheSame number ones others

-- what keeps partitions alike one by one keeps all of them alike
pub pairs-alike : (first second : ℕ → PartitionState → PartitionState → Type 0)
    → ((number : ℕ) (one other last its : PartitionState) → KeepTheSame number one other → first number one last
    → second number other its → KeepTheSame number last its)
    → (number : ℕ) (ones others lasts its : List PartitionState) → KeepAll number ones others
    → Pairwise first number ones lasts → Pairwise second number others its → KeepAll number lasts its
pairs-alike first second leads number [] [] [] [] same pairs pair = tt
pairs-alike first second leads number (one ∷ ones) (other ∷ others) (last ∷ lasts) (it ∷ its) same pairs pair = (
  leads number one other last it same.0 pairs.0 pair.0,
  pairs-alike first second leads (suc number) ones others lasts its same.1 pairs.1 pair.1,
)
pairs-alike first second leads number [] (other ∷ others) lasts its same pairs pair = absurd same
pairs-alike first second leads number (one ∷ ones) [] lasts its same pairs pair = absurd same
pairs-alike first second leads number [] [] (last ∷ lasts) its same pairs pair = absurd pairs
pairs-alike first second leads number [] [] [] (it ∷ its) same pairs pair = absurd pair
pairs-alike first second leads number (one ∷ ones) (other ∷ others) [] its same pairs pair = absurd pairs
pairs-alike first second leads number (one ∷ ones) (other ∷ others) (last ∷ lasts) [] same pairs pair = absurd pair

-- a reply that waits goes on waiting
pub waits-on : (relation : ℕ → PartitionState → PartitionState → Type 0)
    → ((number : ℕ) (old new : PartitionState) → relation number old new → new.finished ≡ old.finished)
    → (number : ℕ) (olds news : List PartitionState) → Pairwise relation number olds news → SomeWaitsShort olds
    → SomeWaitsShort news
waits-on relation leads number [] news pairs waits = absurd waits
waits-on relation leads number (old ∷ olds) [] pairs waits = absurd pairs
waits-on relation leads number (old ∷ olds) (new ∷ news) pairs waits = elim waits [
  | inl here ↦ inl (here.0, here.1, ap reply_waiting (leads number old new pairs.0) ∙ here.2)
  | inr there ↦ inr (waits-on relation leads (suc number) olds news pairs.1 there)
]

-- ---- one warehouse

stays-beside : (number : ℕ) (old new : PartitionState) → new.kept ≡ old.kept → (old.part ≡ None → new.part ≡ None)
    → KeepsBeside old new → Stays number old new
stays-beside number old new kept part beside = record {
  terms = beside.terms;
  kept = kept;
  running = beside.running;
  part = part;
  finished = beside.finished;
}

module _ (command : Command) where
  pub stays-left : (number : ℕ) (old new : PartitionState) → LeavesIfNamed command number old new → Stays number old new
  stays-left number old new leaves = elim leaves [
    | inl named ↦ elim named.1 [
      | inl same ↦ stays-same number old new same
      | inr before ↦ stays-beside number old new before.nothing.kept (λ none. before.part) before.beside
    ]
    | inr unnamed ↦ stays-same number old new unnamed.1
  ]

  pub stays-named : (log : Log) (number : ℕ) (old new : PartitionState) → TellsIfNamed command log number old new
      → Stays number old new
  stays-named log number old new tells = elim tells [
    | inl named ↦ stays-told log number old new named.1.0
    | inr unnamed ↦ stays-same number old new unnamed.1
  ]

  finished-kept : (commit : Commit) (log : Log) (number : ℕ) (old new : PartitionState)
      → KeepsIfNamed command commit log number old new → new.finished ≡ old.finished
  finished-kept commit log number old new keeps = elim keeps [
    | inl named ↦ named.1.beside.finished
    | inr unnamed ↦ ap (λ (p : PartitionState). p.finished) unnamed.1
  ]

module _ (command its_command : Command) (commands : its_command ≡ command) where
  -- a test of the name comes out alike
  named-same : (number : ℕ) → is_named its_command number ≡ is_named command number
  named-same number = ap (λ it. is_named it number) commands

  kept-alike : (commit its_commit : Commit) → its_commit ≡ commit → (log its_log : Log) (number : ℕ)
      (one other last its : PartitionState) → KeepTheSame number one other
      → KeepsIfNamed command commit log number one last → KeepsIfNamed its_command its_commit its_log number other its
      → KeepTheSame number last its
  kept-alike commit its_commit commit_is log its_log number one other last its same keeps keep = elim keeps [
    | inl named ↦ elim keep [
      | inl its_named ↦
          let terms = terms-same number one other last its same named.1.beside.terms its_named.1.beside.terms in record {
            load = terms.0;
            warehouse = terms.1;
            max_kept = terms.2;
            kept = its_named.1.kept ∙ ap (λ (front : List Commit). front ++ its_commit ∷ []) same.kept
                ∙ ap (λ it. one.kept ++ it ∷ []) commit_is ∙ sym named.1.kept;
            running = rw (named.1.beside.running, its_named.1.beside.running) (same.running);
            part = (named.1.part, its_named.1.part);
            waiting = ap reply_waiting its_named.1.beside.finished ∙ same.waiting
                ∙ sym (ap reply_waiting named.1.beside.finished);
          }
      | inr unnamed ↦ absurd (true≢false (sym named.0 ∙ sym (named-same number) ∙ unnamed.0))
    ]
    | inr unnamed ↦ elim keep [
      | inl its_named ↦ absurd (true≢false (sym its_named.0 ∙ named-same number ∙ unnamed.0))
      | inr its_unnamed ↦ stays-alike number one other last its same (stays-same number one last unnamed.1)
          (stays-same number other its its_unnamed.1)
    ]
  ]

  full-same : (number : ℕ) (ones others : List PartitionState) → KeepAll number ones others
      → some_is_full its_command number others ≡ some_is_full command number ones
  full-same number [] [] same = refl
  full-same number [] (other ∷ others) same = absurd same
  full-same number (one ∷ ones) [] same = absurd same
  full-same number (one ∷ ones) (other ∷ others) same =
      ap (λ named. named && is_full other || some_is_full its_command (suc number) others) (named-same number)
      ∙ ap (λ full. is_named command number && full || some_is_full its_command (suc number) others)
      (full-alike number one other same.0)
      ∙ ap (λ later. is_named command number && is_full one || later) (full-same (suc number) ones others same.1)

  job-ends : (number : ℕ) (before after earlier later : Log) (one other last its : PartitionState)
      (running run : Option RunningJob) → RunTheSame running run → KeepTheSame number one other
      → SayTheSame before earlier
      → MatchOption running ((last ≡ one) × (after ≡ before)) (λ job. HasEnded job before after one last)
      → MatchOption run ((its ≡ other) × (later ≡ earlier)) (λ job. HasEnded job earlier later other its)
      → (KeepTheSame number last its × SayTheSame after later) ⊎ WaitsShort last ⊎ WaitsShort its
  job-ends number before after earlier later one other last its None None runs same say ends end = inl (
    stays-alike number one other last its same (stays-same number one last ends.0) (stays-same number other its end.0),
    say-nothing before earlier after later say ends.1 end.1,
  )
  job-ends number before after earlier later one other last its None (Some run) runs same say ends end = absurd runs
  job-ends number before after earlier later one other last its (Some job) None runs same say ends end = absurd runs
  job-ends number before after earlier later one other last its (Some job) (Some run) runs same say ends end =
      ended-alike number one other same job run runs before after earlier later say last its ends end

  named-ends : (number : ℕ) (before after earlier later : Log) (one other last its : PartitionState)
      → KeepTheSame number one other → SayTheSame before earlier
      → EndsIfNamed command number before after one last → EndsIfNamed its_command number earlier later other its
      → (KeepTheSame number last its × SayTheSame after later) ⊎ WaitsShort last ⊎ WaitsShort its
  named-ends number before after earlier later one other last its same say ends end = elim ends [
    | inl named ↦ elim end [
      | inl its_named ↦ job-ends number before after earlier later one other last its one.running other.running
          same.running same say named.1 its_named.1
      | inr unnamed ↦ absurd (true≢false (sym named.0 ∙ sym (named-same number) ∙ unnamed.0))
    ]
    | inr unnamed ↦ elim end [
      | inl its_named ↦ absurd (true≢false (sym its_named.0 ∙ named-same number ∙ unnamed.0))
      | inr its_unnamed ↦ inl (
        stays-alike number one other last its same (stays-same number one last unnamed.1.0)
            (stays-same number other its its_unnamed.1.0),
        say-nothing before earlier after later say unnamed.1.1 its_unnamed.1.1,
      )
    ]
  ]

  turn-alike : (number : ℕ) (before after earlier later : Log) (ones others lasts its : List PartitionState)
      → KeepAll number ones others → SayTheSame before earlier
      → InTurn (EndsIfNamed command) number before after ones lasts
      → InTurn (EndsIfNamed its_command) number earlier later others its
      → (KeepAll number lasts its × SayTheSame after later) ⊎ SomeWaitsShort lasts ⊎ SomeWaitsShort its
  turn-alike number before after earlier later [] [] [] [] same say turn its_turn =
      inl (tt, say-nothing before earlier after later say turn its_turn)
  turn-alike number before after earlier later (one ∷ ones) (other ∷ others) (last ∷ lasts) (it ∷ its) same say turn
      its_turn =
      elim (named-ends number before turn.0 earlier its_turn.0 one other last it same.0 say turn.1 its_turn.1) [
        | inr short ↦ elim short [
          | inl here ↦ inr (inl (inl here))
          | inr here ↦ inr (inr (inl here))
        ]
        | inl both ↦ elim (turn-alike (suc number) turn.0 after its_turn.0 later ones others lasts its same.1 both.1 turn.2
            its_turn.2) [
              | inl rest ↦ inl ((both.0, rest.0), rest.1)
              | inr short ↦ elim short [
                | inl there ↦ inr (inl (inr there))
                | inr there ↦ inr (inr (inr there))
              ]
            ]
      ]
  turn-alike number before after earlier later [] (other ∷ others) lasts its same say turn its_turn = absurd same
  turn-alike number before after earlier later (one ∷ ones) [] lasts its same say turn its_turn = absurd same
  turn-alike number before after earlier later [] [] (last ∷ lasts) its same say turn its_turn = absurd turn
  turn-alike number before after earlier later [] [] [] (it ∷ its) same say turn its_turn = absurd its_turn
  turn-alike number before after earlier later (one ∷ ones) (other ∷ others) [] its same say turn its_turn = absurd turn
  turn-alike number before after earlier later (one ∷ ones) (other ∷ others) (last ∷ lasts) [] same say turn its_turn =
      absurd its_turn

-- ---- all warehouses

-- a reply that refuses a command for want of frames or of memory
abbrev pub RepliesShort : Reply → Type 0
RepliesShort reply = (why : Refusal) × IsShortage why × (reply ≡ replies.Refused why)

-- why a command is refused is known before its parts are tried, or it is such a want
refused-or-short : (lists : Lists) (log : Log) (command : Command) (olds news : List PartitionState) (why : Refusal)
    → IsWhyRefused lists log command olds news why
    → (crossing_refusal lists log olds command ≡ Some why) ⊎ IsShortage why
refused-or-short lists log command olds news why reason = elim reason [
  | inl known ↦ inl known
  | inr parts ↦ elim parts.1 [
    | inl frame ↦ inr (inl frame.0)
    | inr memory ↦ inr (inr memory)
  ]
]

module _ (lists : Lists) (job run : JobState) (second : job.edition ≡ editions.Second)
    (its_second : run.edition ≡ editions.Second) (commands : run.command ≡ job.command) where
  editions-same : run.edition ≡ job.edition
  editions-same = its_second ∙ sym second

  refusal-same : (log its_log : Log) (ones others : List PartitionState) → SayTheSame log its_log
      → KeepAll 1 ones others
      → crossing_refusal lists its_log others run.command ≡ crossing_refusal lists log ones job.command
  refusal-same log its_log ones others say same =
      ap (λ full. with_full full (refusal_in (database_behind lists its_log) run.command))
      (full-same job.command run.command commands 1 ones others same)
      ∙ ap (λ (database : Database). with_full (some_is_full job.command 1 ones) (refusal_in database run.command))
      (behind-alike lists log its_log say)
      ∙ ap (λ command. with_full (some_is_full job.command 1 ones) (refusal_in (database_behind lists log) command))
      commands

  commit-same : (log its_log : Log) → SayTheSame log its_log
      → (entry_of lists run its_log).commit ≡ (entry_of lists job log).commit
  commit-same log its_log say =
      ap (λ edition. commits.Cross edition (next_number its_log) (kept_in (database_behind lists its_log) run.command))
      editions-same
      ∙ ap (λ number. commits.Cross job.edition number (kept_in (database_behind lists its_log) run.command)) say.next
      ∙ ap (λ (database : Database). commits.Cross job.edition (next_number log) (kept_in database run.command))
      (behind-alike lists log its_log say)
      ∙ ap (λ command. commits.Cross job.edition (next_number log) (kept_in (database_behind lists log) command)) commands

  reply-same : (log its_log : Log) → SayTheSame log its_log
      → (act_on_all run.edition run.command (database_behind lists its_log)).reply
      ≡ (act_on_all job.edition job.command (database_behind lists log)).reply
  reply-same log its_log say =
      ap (λ edition. (act_on_all edition run.command (database_behind lists its_log)).reply) editions-same
      ∙ ap (λ command. (act_on_all job.edition command (database_behind lists its_log)).reply) commands
      ∙ ap (λ (database : Database). (act_on_all job.edition job.command database).reply)
      (behind-alike lists log its_log say)

  module _ (log after its_log later : Log) (ones others lasts its : List PartitionState) (say : SayTheSame log its_log)
      (same : KeepAll 1 ones others) (answer its_answer : DoneState) where
    abbrev DoneAlike : Type 0
    DoneAlike = ((its_answer.reply ≡ answer.reply) × KeepAll 1 lasts its × SayTheSame after later)
        ⊎ RepliesShort answer.reply ⊎ RepliesShort its_answer.reply

    both-accept : AcceptsAll lists job log after ones lasts answer → AcceptsAll lists run its_log later others its its_answer
        → DoneAlike
    both-accept accepts accept = inl (
      ap (λ (done : DoneState). done.reply) accept.answer_is ∙ reply-same log its_log say
          ∙ sym (ap (λ (done : DoneState). done.reply) accepts.answer_is),
      pairs-alike (KeepsIfNamed job.command (entry_of lists job log).commit after)
          (KeepsIfNamed run.command (entry_of lists run its_log).commit later)
          (kept-alike job.command run.command commands (entry_of lists job log).commit
          (entry_of lists run its_log).commit (commit-same log its_log say) after later) 1 ones others lasts its same
          accepts.parts accept.parts,
      subst (λ (list : Log). SayTheSame list later) (sym accepts.log_is)
          (subst (λ (list : Log). SayTheSame (log ++ entry_of lists job log ∷ []) list) (sym accept.log_is)
          (say-more log its_log (entry_of lists job log ∷ []) (entry_of lists run its_log ∷ []) say
          (ap (λ commit. commit ∷ []) (commit-same log its_log say)))),
    )

    short-reply : (parts : List PartitionState) (why : Refusal) (reply : Reply) → reply ≡ replies.Refused why
        → IsShortage why → RepliesShort reply
    short-reply parts why reply is short = (why, short, is)

    refused-reply : (runs : JobState) (before behind : Log) (olds news : List PartitionState) (done : DoneState)
        (refuses : RefusesAll lists runs before behind olds news done) → done.reply ≡ replies.Refused refuses.why
    refused-reply runs before behind olds news done refuses = ap (λ (done : DoneState). done.reply) refuses.answer_is

    both-refuse : RefusesAll lists job log after ones lasts answer → RefusesAll lists run its_log later others its its_answer
        → DoneAlike
    both-refuse refuses refuse =
        elim (refused-or-short lists log job.command ones lasts refuses.why refuses.reason) [
          | inr short ↦ inr (inl (refuses.why, short, refused-reply job log after ones lasts answer refuses))
          | inl known ↦ elim (refused-or-short lists its_log run.command others its refuse.why refuse.reason) [
            | inr short ↦ inr (inr (refuse.why, short, refused-reply run its_log later others its its_answer refuse))
            | inl its_known ↦
                let whys : refuse.why ≡ refuses.why = some-same refuse.why refuses.why
                (sym its_known ∙ refusal-same log its_log ones others say same ∙ known) in inl (
                  refused-reply run its_log later others its its_answer refuse ∙ ap (λ why. replies.Refused why) whys
                      ∙ sym (refused-reply job log after ones lasts answer refuses),
                  pairs-alike (LeavesIfNamed job.command) (LeavesIfNamed run.command)
                      (λ number one other last it same left leave. stays-alike number one other last it same
                      (stays-left job.command number one last left) (stays-left run.command number other it leave)) 1
                      ones others lasts its same refuses.parts refuse.parts,
                  say-nothing log its_log after later say refuses.log_is refuse.log_is,
                )
          ]
        ]

    pub does-alike : AcceptsAll lists job log after ones lasts answer ⊎ RefusesAll lists job log after ones lasts answer
        → AcceptsAll lists run its_log later others its its_answer
        ⊎ RefusesAll lists run its_log later others its its_answer → DoneAlike
    does-alike does do_it = elim does [
      | inl accepts ↦ elim do_it [
        | inl accept ↦ both-accept accepts accept
        | inr refuse ↦ elim (refused-or-short lists its_log run.command others its refuse.why refuse.reason) [
          | inr short ↦ inr (inr (refuse.why, short, refused-reply run its_log later others its its_answer refuse))
          | inl known ↦ absurd (
              let none = accepts.accepted in let alike = refusal-same log its_log ones others say same in cc)
        ]
      ]
      | inr refuses ↦ elim do_it [
        | inl accept ↦ elim (refused-or-short lists log job.command ones lasts refuses.why refuses.reason) [
          | inr short ↦ inr (inl (refuses.why, short, refused-reply job log after ones lasts answer refuses))
          | inl known ↦ absurd (
              let none = accept.accepted in let alike = refusal-same log its_log ones others say same in cc)
        ]
        | inr refuse ↦ both-refuse refuses refuse
      ]
    ]

-- a reply that waits behind what was ended waits behind the whole command
does-waits : (lists : Lists) (job : JobState) (log after : Log) (olds news : List PartitionState) (answer : DoneState)
    → AcceptsAll lists job log after olds news answer ⊎ RefusesAll lists job log after olds news answer
    → SomeWaitsShort olds → SomeWaitsShort news
does-waits lists job log after olds news answer does = elim does [
  | inl accepts ↦ waits-on (KeepsIfNamed job.command (entry_of lists job log).commit after)
      (finished-kept job.command (entry_of lists job log).commit after) 1 olds news accepts.parts
  | inr refuses ↦ waits-on (LeavesIfNamed job.command)
      (λ number old new left. (stays-left job.command number old new left).finished) 1 olds news refuses.parts
]

crosses-waits : (lists : Lists) (job : JobState) (before after : Log) (olds news : List PartitionState) (answer : DoneState)
    (does : CrossesAndTells lists job before after olds news answer) → SomeWaitsShort does.crosses.informs.ended
    → SomeWaitsShort news
crosses-waits lists job before after olds news answer does waits =
    let crosses : Crosses lists job before after olds does.crossed answer = does.crosses in
    waits-on (TellsHere after) (λ number old new tells. (stays-told after number old new tells.0).finished) 1 does.crossed
    news does.tells
    (does-waits lists job crosses.log after crosses.middle does.crossed answer crosses.does
    (waits-on (TellsIfNamed job.command crosses.log)
    (λ number old new tells. (stays-named job.command crosses.log number old new tells).finished) 1 crosses.informs.ended
    crosses.middle crosses.informs.tells waits))

module _ (lists : Lists) (job run : JobState) (second : job.edition ≡ editions.Second)
    (its_second : run.edition ≡ editions.Second) (commands : run.command ≡ job.command) (before after earlier later : Log)
    (ones others lasts its : List PartitionState) (say : SayTheSame before earlier) (same : KeepAll 1 ones others)
    (answer its_answer : DoneState) where
  pub crossed-alike : CrossesAndTells lists job before after ones lasts answer
      → CrossesAndTells lists run earlier later others its its_answer
      → ((its_answer.reply ≡ answer.reply) × KeepAll 1 lasts its × SayTheSame after later)
      ⊎ (SomeWaitsShort lasts ⊎ RepliesShort answer.reply) ⊎ (SomeWaitsShort its ⊎ RepliesShort its_answer.reply)
  crossed-alike does do_it =
      let crosses : Crosses lists job before after ones does.crossed answer = does.crosses in
      let cross : Crosses lists run earlier later others do_it.crossed its_answer = do_it.crosses in
      elim (turn-alike job.command run.command commands 1 before crosses.log earlier cross.log ones others
      crosses.informs.ended cross.informs.ended same say crosses.informs.ends cross.informs.ends) [
        | inr short ↦ elim short [
          | inl here ↦ inr (inl (inl (crosses-waits lists job before after ones lasts answer does here)))
          | inr here ↦ inr (inr (inl (crosses-waits lists run earlier later others its its_answer do_it here)))
        ]
        | inl ended ↦
            let told : KeepAll 1 crosses.middle cross.middle =
            pairs-alike (TellsIfNamed job.command crosses.log) (TellsIfNamed run.command cross.log)
            (λ number one other last it same tells tell. stays-alike number one other last it same
            (stays-named job.command crosses.log number one last tells)
            (stays-named run.command cross.log number other it tell)) 1 crosses.informs.ended cross.informs.ended
            crosses.middle cross.middle ended.0 crosses.informs.tells cross.informs.tells in
            elim (does-alike lists job run second its_second commands crosses.log after cross.log later crosses.middle
            cross.middle does.crossed do_it.crossed ended.1 told answer its_answer crosses.does cross.does) [
              | inr short ↦ elim short [
                | inl here ↦ inr (inl (inr here))
                | inr here ↦ inr (inr (inr here))
              ]
              | inl done ↦ inl (
                done.0,
                pairs-alike (TellsHere after) (TellsHere later)
                    (λ number one other last it same tells tell. stays-alike number one other last it same
                    (stays-told after number one last tells.0) (stays-told later number other it tell.0)) 1 does.crossed
                    do_it.crossed lasts its done.1 does.tells do_it.tells,
                done.2,
              )
            ]
      ]
