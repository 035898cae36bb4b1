-- What the words for a refusal leave no room for.
use Rattle.std.specs.Prelude.{◌≡◌, ℕ, true, false, is_some, Option, Some, None, slice_index_or}
use Rattle.std.proofs.Common.{ap, sym, ◌∙◌, inl, inr}
use Rattle.std.proofs.lemmas.Bool.{false≢true}
use Rattle.hy_schema.specs.declared.refusal.Refusal.{Refusal}
use Rattle.hy_schema.specs.declared.refusal.Refusal.TheVariants as refusals
use Rattle.hy_passes.specs.Worlds.{PassState}
use Rattle.hy_commands.specs.declared.command.Commit.{Commit}
use Rattle.hy_commands.specs.declared.reply.Reply.TheVariants as replies
use Rattle.hy_commands.specs.Commands.{is_reader}
use Rattle.hy_slices.specs.Slices.{has_item_at}
use Rattle.hy_tpcc.specs.Shortages.{adds_no_page}
use Rattle.hy_space.specs.Space.{child_table}
use Rattle.hy_partition.specs.Jobs.{DoneState, Log, RunningJob, refused_answer}
use Rattle.hy_partition.specs.Partition.{PartitionState}
use Rattle.hy_partition.specs.Steps.{Refuses, RefusesAt}

-- a job was refused: the answer that waits says so
abbrev IsTold : PassState Commit → Refusal → PartitionState → Type 0
IsTold pass refusal p = p.finished ≡ Some (refused_answer pass refusal)

one_answer : (p : PartitionState) (pass : PassState Commit) (one other : Refusal) → IsTold pass one p
    → IsTold pass other p → one ≡ other
one_answer p pass one other first second =
    let both : Some (refused_answer pass one) ≡ Some (refused_answer pass other) = sym first ∙ second in
    let same : refused_answer pass one ≡ refused_answer pass other = cc in
    let replied : replies.Refused one ≡ replies.Refused other = ap (λ (d : DoneState). d.reply) same in cc

not_frame-item : refusals.NoFrame ≡ refusals.NoSuchItem → ⊥
not_frame-item same = absurd (cc)

not_frame-memory : refusals.NoFrame ≡ refusals.NoMemory → ⊥
not_frame-memory same = absurd (cc)

not_item-memory : refusals.NoSuchItem ≡ refusals.NoMemory → ⊥
not_item-memory same = absurd (cc)

-- where the item of the slice isn't there, that is the answer
missing_item_is_told : (job : RunningJob) (done : ℕ) (old new : PartitionState)
    → has_item_at old.load.items job.command done ≡ false → RefusesAt job done old new
    → IsTold job.pass refusals.NoSuchItem new
missing_item_is_told job done old new missing refuses = elim refuses.reason [
  | inl item ↦ item.2.finished
  | inr other ↦ elim other [
    | inl frame ↦ absurd (false≢true (sym missing ∙ frame.0))
    | inr memory ↦ absurd (false≢true (sym missing ∙ memory.0))
  ]
]

-- and where it is there, it isn't
no_other_item_is_told : (job : RunningJob) (done : ℕ) (old new : PartitionState)
    → has_item_at old.load.items job.command done ≡ true → RefusesAt job done old new
    → IsTold job.pass refusals.NoSuchItem new → ⊥
no_other_item_is_told job done old new there refuses is = elim refuses.reason [
  | inl item ↦ absurd (false≢true (sym item.0 ∙ there))
  | inr other ↦ elim other [
    | inl frame ↦ absurd (not_frame-item (one_answer new job.pass _ _ frame.2.finished is))
    | inr memory ↦ absurd (not_item-memory (one_answer new job.pass _ _ is memory.1.finished))
  ]
]

-- a command that only reads never lacks a frame
no_frame_for_a_reader : (job : RunningJob) (log : Option Log) (old new : PartitionState) → is_reader job.command ≡ true
    → Refuses job log log old new → IsTold job.pass refusals.NoFrame new → ⊥
no_frame_for_a_reader job log old new reads refuses is = elim refuses.refused.reason [
  | inl item ↦ absurd (not_frame-item (one_answer new job.pass _ _ is item.2.finished))
  | inr other ↦ elim other [
    | inl frame ↦ absurd (false≢true (sym frame.1.found.writes ∙ reads))
    | inr memory ↦ absurd (not_frame-memory (one_answer new job.pass _ _ is memory.1.finished))
  ]
]

-- where no snapshot is open, a slice that adds no page lacks none either: the second one of a payment, and those of a
-- delivery
no_frame_without_a_snapshot : (job : RunningJob) (done : ℕ) (old new : PartitionState)
    → adds_no_page job.command done ≡ true → ((child : ℕ) → child_table old.space child ≡ None)
    → RefusesAt job done old new → IsTold job.pass refusals.NoFrame new → ⊥
no_frame_without_a_snapshot job done old new only closed refuses is = elim refuses.reason [
  | inl item ↦ absurd (not_frame-item (one_answer new job.pass _ _ is item.2.finished))
  | inr other ↦ elim other [
    | inl frame ↦
        let lacks = frame.1 in
        let shared = lacks.found.open_child only in
        let same : child_table lacks.space shared.0 ≡ None =
        ap (λ children. slice_index_or children shared.0 None) lacks.children.tables ∙ closed shared.0 in
        absurd (false≢true (sym (ap is_some same) ∙ shared.1))
    | inr memory ↦ absurd (not_frame-memory (one_answer new job.pass _ _ is memory.1.finished))
  ]
]

-- a refused job has no share, and its client's pass is as it was
refused_alone : (job : RunningJob) (done : ℕ) (old new : PartitionState) (answer : DoneState)
    → RefusesAt job done old new → new.finished ≡ Some answer → (answer.share ≡ None) × (answer.pass ≡ job.pass)
refused_alone job done old new answer refuses is = elim refuses.reason [
  | inl item ↦ as_told refusals.NoSuchItem item.2.finished
  | inr other ↦ elim other [
    | inl frame ↦ as_told refusals.NoFrame frame.2.finished
    | inr memory ↦ as_told refusals.NoMemory memory.1.finished
  ]
]
  where
    as_told : (refusal : Refusal) → IsTold job.pass refusal new → (answer.share ≡ None) × (answer.pass ≡ job.pass)
    as_told refusal told =
        let both : Some answer ≡ Some (refused_answer job.pass refusal) = sym is ∙ told in
        let same : answer ≡ refused_answer job.pass refusal = cc in
        (ap (λ (d : DoneState). d.share) same, ap (λ (d : DoneState). d.pass) same)
