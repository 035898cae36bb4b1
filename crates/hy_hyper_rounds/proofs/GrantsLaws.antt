-- What is asked of a warehouse is answered alike by partitions that have kept the same, unless frames or memory lacked.
use Rattle.std.specs.Prelude.{⊤}
use Rattle.std.proofs.Common.{◌≡◌, ◌⊎◌, ◌∙◌, ℕ, zero, suc, List, [], ◌∷◌, Option, None, Some, MatchOption, slice_get, slice_set, refl, sym, ap, inl, inr}
use Rattle.hy_schema.specs.declared.refusal.Refusal.{Refusal}
use Rattle.hy_schema.specs.declared.refusal.Refusal.TheVariants as refusals
use Rattle.hy_commands.specs.declared.command.Command.{Command}
use Rattle.hy_commands.specs.declared.reply.Reply.{Reply}
use Rattle.hy_commands.specs.declared.reply.Reply.TheVariants as replies
use Rattle.hy_events.specs.Replies.{reply_text}
use Rattle.hy_partition.specs.declared.job.Progress.{Progress}
use Rattle.hy_partition.specs.Jobs.{Log, RunningJob, begun}
use Rattle.hy_partition.specs.Partition.{PartitionState}
use Rattle.hy_partition.specs.Steps.{KeepsJob, StepsTo, with_job}
use Rattle.hy_script.specs.declared.answer.Request.{Request}
use Rattle.hy_script.specs.declared.answer.Request.TheVariants as requests
use Rattle.hy_script.specs.Steps.{IsDone, Runs}
use Rattle.hy_script.specs.Answers.{Grants, progress_text, refused_text, waiting_text}
use Rattle.hy_hyper_rounds.specs.Restarts.{DoTheSame, KeepTheSame, RunTheSame, SayTheSame, SomeWaitsShort, TellsShortage, WaitsShort}
use Rattle.hy_hyper_rounds.proofs.SayLaws.{say-nothing}
use Rattle.hy_hyper_rounds.proofs.AlikeLaws.{begin-alike, begins-alike, begun-or-short, ended-alike, some-same, steps-alike, unbegun-alike}
use Rattle.hy_hyper_rounds.proofs.AcrossLaws.{KeepAll, RepliesShort, Stays, stays-alike, stays-same}

-- ---- requests

-- a request asks for numbers of frames, or limits them
abbrev pub OfFrames : Request → Type 0
OfFrames requests.Touched = ⊤
OfFrames requests.Free = ⊤
OfFrames requests.Shared = ⊤
OfFrames (requests.Limit more) = ⊤
OfFrames other = ⊥

abbrev pub ShortHere : PartitionState → List ℕ → Type 0
ShortHere p text = WaitsShort p ⊎ TellsShortage text

pub stays-job : (number : ℕ) (old new : PartitionState) → KeepsJob old new → Stays number old new
stays-job number old new keeps = record {
  terms = keeps.terms;
  kept = keeps.kept;
  running = keeps.running;
  part = λ none. keeps.part ∙ none;
  finished = keeps.finished;
}

-- a reply for want of frames or of memory is printed as such
pub short-text : (reply : Reply) (text : List ℕ) → RepliesShort reply → text ≡ reply_text reply → TellsShortage text
short-text reply text short is = (short.0, short.1, is ∙ ap reply_text short.2)

memory-text : (reply : Reply) (text : List ℕ) (why : Refusal) → reply ≡ replies.Refused why → why ≡ refusals.NoMemory
    → text ≡ reply_text reply → TellsShortage text
memory-text reply text why is memory printed = short-text reply text (why, inr memory, is) printed

-- an answer that waits was taken
taken-alike : (number : ℕ) (one other last its : PartitionState) → KeepTheSame number one other
    → last ≡ record one { finished = None } → its ≡ record other { finished = None } → KeepTheSame number last its
taken-alike number one other last its same taken its_taken = rw (taken, its_taken) (record {
  load = same.load;
  warehouse = same.warehouse;
  max_kept = same.max_kept;
  kept = same.kept;
  running = same.running;
  part = same.part;
  waiting = refl;
})

module _ (number : ℕ) (one other : PartitionState) (same : KeepTheSame number one other) (before after earlier later : Log)
    (say : SayTheSame before earlier) (last its : PartitionState) (text more : List ℕ) where
  abbrev pub GrantedAlike : Type 0 → Type 0
  GrantedAlike of_frames = ((of_frames ⊎ (more ≡ text)) × KeepTheSame number last its × SayTheSame after later)
      ⊎ ShortHere last text ⊎ ShortHere its more

  -- nothing changes
  still-alike : (of_frames : Type 0) → of_frames ⊎ (more ≡ text) → after ≡ before → later ≡ earlier → last ≡ one
      → its ≡ other → GrantedAlike of_frames
  still-alike of_frames texts still its_still stays stay = inl (
    texts,
    stays-alike number one other last its same (stays-same number one last stays) (stays-same number other its stay),
    say-nothing before earlier after later say still its_still,
  )

  -- ---- whole commands

  module _ (command : Command) (reply its_reply : Reply) (printed : text ≡ reply_text reply)
      (its_printed : more ≡ reply_text its_reply) where
    done-alike : IsDone command before after one last reply → IsDone command earlier later other its its_reply
        → GrantedAlike ⊥
    done-alike done do_it =
        let commands : do_it.job.command ≡ done.job.command = do_it.command_is ∙ sym done.command_is in
        let jobs : KeepTheSame number (with_job one done.job) (with_job other do_it.job) =
        begins-alike number one other same done.job do_it.job done.edition do_it.edition commands in
        let runs : DoTheSame (begun done.job) (begun do_it.job) =
        record { editions = (done.edition, do_it.edition); command = commands; slices = refl } in
        elim (ended-alike number (with_job one done.job) (with_job other do_it.job) jobs (begun done.job) (begun do_it.job)
        runs before after earlier later say done.ended do_it.ended done.ends do_it.ends) [
          | inl both ↦
              let replies_same : its_reply ≡ reply = some-same its_reply reply
              (sym do_it.replies ∙ both.0.waiting ∙ done.replies) in inl (
                inr (its_printed ∙ ap reply_text replies_same ∙ sym printed),
                taken-alike number done.ended do_it.ended last its both.0 done.leaves do_it.leaves,
                both.1,
              )
          | inr short ↦ elim short [
            | inl here ↦ inr (inl (inr (short-text reply text
                (here.0, here.1, some-same reply (replies.Refused here.0) (sym done.replies ∙ here.2)) printed)))
            | inr here ↦ inr (inr (inr (short-text its_reply more
                (here.0, here.1, some-same its_reply (replies.Refused here.0) (sym do_it.replies ∙ here.2)) its_printed)))
          ]
        ]

    runs-alike : Runs command before after one last reply → Runs command earlier later other its its_reply
        → GrantedAlike ⊥
    runs-alike runs run = elim runs [
      | inl done ↦ elim run [
        | inl do_it ↦ done-alike done do_it
        | inr unbegun ↦ inr (inr (inr (memory-text its_reply more unbegun.0 unbegun.2
            (begun-or-short one other command unbegun.0 (begin-alike number one other same command) done.accepted
            unbegun.1) its_printed)))
      ]
      | inr refused ↦ elim run [
        | inl do_it ↦ inr (inl (inr (memory-text reply text refused.0 refused.2
            (begun-or-short other one command refused.0 (sym (begin-alike number one other same command)) do_it.accepted
            refused.1) printed)))
        | inr unbegun ↦ elim (unbegun-alike number one other command refused.0 unbegun.0 same refused.1 unbegun.1) [
          | inr short ↦ elim short [
            | inl memory ↦ inr (inl (inr (memory-text reply text refused.0 refused.2 memory printed)))
            | inr memory ↦ inr (inr (inr (memory-text its_reply more unbegun.0 unbegun.2 memory its_printed)))
          ]
          | inl whys ↦ still-alike ⊥
              (inr (its_printed ∙ ap reply_text (unbegun.2 ∙ ap (λ why. replies.Refused why) whys ∙ sym refused.2)
              ∙ sym printed)) refused.4 unbegun.4 refused.3 unbegun.3
        ]
      ]
    ]

  -- ---- jobs

  memory-refused : (why : Refusal) (printed : List ℕ) → printed ≡ refused_text why → why ≡ refusals.NoMemory
      → TellsShortage printed
  memory-refused why printed is memory = (why, inr memory, is)

  begun-alike : (command : Command) → Grants (requests.Begin command) before after one last text
      → Grants (requests.Begin command) earlier later other its more → GrantedAlike ⊥
  begun-alike command grants grant = elim grants.1 [
    | inl begins ↦ elim grant.1 [
      | inl begin ↦
          let jobs : KeepTheSame number (with_job one begins.0.job) (with_job other begin.0.job) =
          begins-alike number one other same begins.0.job begin.0.job begins.0.edition begin.0.edition
          (begin.0.command_is ∙ sym begins.0.command_is) in
          inl (
            inr (begin.1 ∙ sym begins.1),
            rw (begins.0.after, begin.0.after) jobs,
            say-nothing before earlier after later say grants.0 grant.0,
          )
      | inr unbegun ↦ inr (inr (inr (memory-refused unbegun.0 more unbegun.3
          (begun-or-short one other command unbegun.0 (begin-alike number one other same command) begins.0.accepted
          unbegun.1))))
    ]
    | inr refused ↦ elim grant.1 [
      | inl begin ↦ inr (inl (inr (memory-refused refused.0 text refused.3
          (begun-or-short other one command refused.0 (sym (begin-alike number one other same command)) begin.0.accepted
          refused.1))))
      | inr unbegun ↦ elim (unbegun-alike number one other command refused.0 unbegun.0 same refused.1 unbegun.1) [
        | inr short ↦ elim short [
          | inl memory ↦ inr (inl (inr (memory-refused refused.0 text refused.3 memory)))
          | inr memory ↦ inr (inr (inr (memory-refused unbegun.0 more unbegun.3 memory)))
        ]
        | inl whys ↦ still-alike ⊥ (inr (unbegun.3 ∙ ap refused_text whys ∙ sym refused.3)) grants.0 grant.0 refused.2
            unbegun.2
      ]
    ]
  ]

  abbrev StepsIn : Log → Log → PartitionState → PartitionState → List ℕ → Option RunningJob → Type 0
  StepsIn now behind old new printed running =
      MatchOption running ((behind ≡ now) × (new ≡ old) × (printed ≡ refused_text refusals.NotRunning)) (λ job.
      (progress : Progress) × StepsTo job (Some now) (Some behind) old new progress
      × (printed ≡ progress_text progress))

  stepped-alike : (running run : Option RunningJob) → RunTheSame running run
      → StepsIn before after one last text running → StepsIn earlier later other its more run → GrantedAlike ⊥
  stepped-alike None None runs steps step =
      still-alike ⊥ (inr (step.2 ∙ sym steps.2)) steps.0 step.0 steps.1 step.1
  stepped-alike None (Some run) runs steps step = absurd runs
  stepped-alike (Some job) None runs steps step = absurd runs
  stepped-alike (Some job) (Some run) runs steps step =
      elim (steps-alike number one other same job run runs before after earlier later say last its steps.0 step.0 steps.1
      step.1) [
        | inl both ↦ inl (inr (step.2 ∙ ap progress_text both.0 ∙ sym steps.2), both.1, both.2)
        | inr short ↦ elim short [
          | inl here ↦ inr (inl (inl here))
          | inr here ↦ inr (inr (inl here))
        ]
      ]

  pub grants-alike : (request : Request) → Grants request before after one last text
      → Grants request earlier later other its more → GrantedAlike (OfFrames request)
  grants-alike (requests.Run command) grants grant = runs-alike command grants.0 grant.0 grants.2 grant.2 grants.1 grant.1
  grants-alike (requests.Begin command) grants grant = begun-alike command grants grant
  grants-alike requests.Step grants grant = stepped-alike one.running other.running same.running grants grant
  grants-alike requests.Done grants grant = inl (
    inr (grant.2 ∙ ap waiting_text same.waiting ∙ sym grants.2),
    taken-alike number one other last its same grants.1 grant.1,
    say-nothing before earlier after later say grants.0 grant.0,
  )
  grants-alike requests.Touched grants grant =
      still-alike (OfFrames requests.Touched) (inl tt) grants.0 grant.0 grants.1 grant.1
  grants-alike requests.Free grants grant =
      still-alike (OfFrames requests.Free) (inl tt) grants.0 grant.0 grants.1 grant.1
  grants-alike requests.Shared grants grant =
      still-alike (OfFrames requests.Shared) (inl tt) grants.0 grant.0 grants.1 grant.1
  grants-alike (requests.Limit frames) grants grant = inl (
    inl tt,
    stays-alike number one other last its same (limited one last text before after grants)
        (limited other its more earlier later grant),
    say-nothing before earlier after later say grants.0 grant.0,
  )
    where
      limited : (old new : PartitionState) (printed : List ℕ) (now behind : Log)
          → Grants (requests.Limit frames) now behind old new printed → Stays number old new
      limited old new printed now behind limits = elim limits.1 [
        | inl done ↦ stays-job number old new done.0.job
        | inr none ↦ stays-same number old new none.1
      ]

-- ---- the partition at a place

pub keep-any : (number its : ℕ) (one other : PartitionState) → KeepTheSame number one other → KeepTheSame its one other
keep-any number its one other same = record {
  load = same.load;
  warehouse = same.warehouse;
  max_kept = same.max_kept;
  kept = same.kept;
  running = same.running;
  part = same.part;
  waiting = same.waiting;
}

-- both databases have it, or none
pub at-both : (number place : ℕ) (ones others : List PartitionState) → KeepAll number ones others
    → MatchOption (slice_get ones place) (slice_get others place ≡ None)
    (λ p. (q : PartitionState) × (slice_get others place ≡ Some q) × KeepTheSame 1 p q)
at-both number place [] [] same = refl
at-both number place [] (other ∷ others) same = absurd same
at-both number place (one ∷ ones) [] same = absurd same
at-both number zero (one ∷ ones) (other ∷ others) same = (other, refl, keep-any number 1 one other same.0)
at-both number (suc place) (one ∷ ones) (other ∷ others) same = at-both (suc number) place ones others same.1

-- where both are replaced, all others stay
pub set-both : (number place : ℕ) (ones others : List PartitionState) (p q : PartitionState) → KeepAll number ones others
    → KeepTheSame 1 p q → KeepAll number (slice_set ones place p) (slice_set others place q)
set-both number zero [] [] p q same new = tt
set-both number (suc place) [] [] p q same new = tt
set-both number place [] (other ∷ others) p q same new = absurd same
set-both number place (one ∷ ones) [] p q same new = absurd same
set-both number zero (one ∷ ones) (other ∷ others) p q same new = (keep-any 1 number p q new, same.1)
set-both number (suc place) (one ∷ ones) (other ∷ others) p q same new =
    (same.0, set-both (suc number) place ones others p q same.1 new)

pub waits-at : (place : ℕ) (parts : List PartitionState) (old new : PartitionState) → slice_get parts place ≡ Some old
    → WaitsShort new → SomeWaitsShort (slice_set parts place new)
waits-at place [] old new there waits = absurd (cc)
waits-at zero (p ∷ parts) old new there waits = inl waits
waits-at (suc place) (p ∷ parts) old new there waits = inr (waits-at place parts old new there waits)
