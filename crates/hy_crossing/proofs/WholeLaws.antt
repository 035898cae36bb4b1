-- A whole command over several warehouses: accepted, or refused.
use Rattle.std.proofs.Common.{◌≡◌, ◌⊎◌, ◌==◌, ℕ, suc, true, nat_lt, List, [], ◌∷◌, ◌++◌, length, Option, None, Some, inl, inr, refl, sym, ap, ◌∙◌, subst}
use Rattle.std.specs.Prelude.{IfSome, slice_get}
use Rattle.std.specs.List.{list_all, list_any}
use mathlib.Core.List.{IsPrefix}
use Rattle.hy_ledger.specs.declared.view.ShareState.{ShareState}
use Rattle.hy_rows.specs.Ranges.{IsBetween, is_between}
use Rattle.hy_rows.specs.Tables.{Lists}
use Rattle.hy_schema.specs.declared.refusal.Refusal.{Refusal}
use Rattle.hy_commands.specs.declared.command.Command.{Command}
use Rattle.hy_commands.specs.declared.command.Commit.{Commit}
use Rattle.hy_commands.specs.declared.command.Commit.TheVariants as commits
use Rattle.hy_commands.specs.declared.edition.Edition.{Edition}
use Rattle.hy_commands.specs.declared.edition.Edition.TheVariants as editions
use Rattle.hy_commands.specs.declared.reply.Reply.{Reply}
use Rattle.hy_commands.specs.Commands.{customer_home_of, home_of, warehouses_of}
use Rattle.hy_commands.specs.Parts.{with_number}
use Rattle.hy_database.specs.Database.{act_on_all, kept_in}
use Rattle.hy_passes.specs.Worlds.{PassState}
use Rattle.hy_partition.specs.Jobs.{DoneState, JobState, Log, refused_answer, share_of, told}
use Rattle.hy_partition.specs.Partition.{PartitionState}
use Rattle.hy_partition.specs.Unsettled.{UnsettledState}
use Rattle.hy_crossing.specs.Crossings.{AcceptsAll, AllMayRun, AreDone, AreInformed, AreKnown, ArePartitions, CanDoParts, DoesIfNamed, HaveNoPart, IsPayerIn, IsWhyNotDone, KeepsIfNamed, KeepsPartIfNamed, LeavesIfNamed, MayRunIfNamed, RefusesAll, RepliesFrom, crossing_entry, database_behind, entry_of, loaded_refusal, next_number}
use Rattle.hy_crossing.specs.Lists.{Pairwise}
use Rattle.hy_crossing.specs.Unsettled.{AreAllDone}
use Rattle.hy_crossing.proofs.AcceptLaws.{all-here, can-do, kept-is, same-crossing_refusal}
use Rattle.hy_crossing.proofs.CrossLaws.{are-done, keeps-all, keeps-keeps, leaves-command, leaves-keeps, leaves-same, partitions-after, partitions-done, reply-is, whole-after}
use Rattle.hy_crossing.proofs.InformLaws.{some-then, still-partitions, still-whole}
use Rattle.hy_crossing.proofs.NumberedLaws.{IsNumbered, is_numbered}
use Rattle.hy_crossing.proofs.RefusedLaws.{home-there}

-- the partitions behind it are those of the load, and no part is done
module _ (lists : Lists) (job : JobState) (log after : Log) (olds news : List PartitionState) (answer : DoneState)
    (informed : AreInformed lists job.command log olds)
    (does : AcceptsAll lists job log after olds news answer ⊎ RefusesAll lists job log after olds news answer) where
  pub partitions-whole : ArePartitions lists news
  partitions-whole =
      let are = still-partitions lists job.command log olds informed in
      let whole = still-whole lists job.command log olds informed in
      elim does [
        | inl accepts ↦
            partitions-after lists (KeepsIfNamed job.command (entry_of lists job log).commit after)
            (keeps-keeps job.command (entry_of lists job log).commit after) olds news accepts.parts are whole
        | inr refuses ↦
            partitions-after lists (LeavesIfNamed job.command) (leaves-keeps job.command) olds news refuses.parts are whole
      ]

  pub no-part-whole : HaveNoPart news
  no-part-whole =
      let are = still-partitions lists job.command log olds informed in
      let whole = still-whole lists job.command log olds informed in
      elim does [
        | inl accepts ↦
            whole-after lists (KeepsIfNamed job.command (entry_of lists job log).commit after)
            (keeps-keeps job.command (entry_of lists job log).commit after) olds news accepts.parts are whole
        | inr refuses ↦
            whole-after lists (LeavesIfNamed job.command) (leaves-keeps job.command) olds news refuses.parts are whole
      ]

-- refused before a part is tried
pub refuses-first : (lists : Lists) (job : JobState) (log : Log) (olds : List PartitionState) (answer : DoneState)
    (why : Refusal) → loaded_refusal lists job.command olds ≡ Some why → answer ≡ refused_answer job.pass why
    → RefusesAll lists job log log olds olds answer
refuses-first lists job log olds answer why refused is = record {
  why = why;
  reason = inl (same-crossing_refusal lists log job.command olds ∙ refused);
  log_is = refl;
  parts = leaves-same job.command olds;
  answer_is = is;
}

-- nothing refuses it so far
module _ (lists : Lists) (job : JobState) (log : Log) (parts : List PartitionState)
    (informed : AreInformed lists job.command log parts) (accepts : loaded_refusal lists job.command parts ≡ None)
    (partitions : ℕ) (known : AreKnown job.command partitions parts) (number : ℕ)
    (payer : IsPayerIn parts job.command number) (numbered : Command) (is : numbered ≡ with_number number job.command)
  where
    same : IsNumbered job.command numbered
    same = subst (λ (c : Command). IsNumbered job.command c) (sym is) (is_numbered number job.command)

    pub can-all : nat_lt 1 (length (warehouses_of job.command)) ≡ true → CanDoParts numbered parts
    can-all several =
        subst (λ (c : Command). CanDoParts c parts) (sym is)
        (can-do lists log job.command parts informed accepts number payer several partitions known)

    pub may-all : (edition : Edition) → AllMayRun edition job.command parts → AllMayRun edition numbered parts
    may-all editions.First may = λ place.
        some-then (slice_get parts place) (MayRunIfNamed editions.First job.command (suc place))
        (MayRunIfNamed editions.First numbered (suc place)) (may place)
        (λ p may named. may (sym (ap (list_any (λ named. named == suc place)) same.warehouses) ∙ named))
    may-all editions.Second may = tt

    pub named-all : list_all (is_between 1 (length parts)) (warehouses_of numbered) ≡ true
    named-all =
        ap (list_all (is_between 1 (length parts))) same.warehouses ∙ all-here lists log job.command parts informed accepts

    pub there-all : IsBetween 1 (length parts) (customer_home_of numbered)
    there-all =
        subst (λ n. IsBetween 1 (length parts) n) (sym same.customer_home)
        (home-there job.command parts (length parts) refl (all-here lists log job.command parts informed accepts))

    pub several-all : nat_lt 1 (length (warehouses_of job.command)) ≡ true
        → nat_lt 1 (length (warehouses_of numbered)) ≡ true
    several-all several = ap (λ (ws : List ℕ). nat_lt 1 (length ws)) same.warehouses ∙ several

    module _ (edition : Edition) (middles : List PartitionState)
        (does : Pairwise (DoesIfNamed edition numbered) 1 parts middles)
        (several : nat_lt 1 (length (warehouses_of job.command)) ≡ true) where
      pub partitions-here : ArePartitions lists middles
      partitions-here =
          partitions-done edition job.command numbered same lists log parts middles informed (can-all several) does

      pub done-all : AreDone edition numbered log middles
      done-all = are-done edition job.command numbered same lists log parts middles informed (can-all several) does

    pub refuses-late : (news : List PartitionState) (answer : DoneState) (pass : PassState Commit) (why : Refusal)
        → pass ≡ job.pass → Pairwise (LeavesIfNamed numbered) 1 parts news → IsWhyNotDone parts news why
        → answer ≡ refused_answer pass why → RefusesAll lists job log log parts news answer
    refuses-late news answer pass why pass_is leaves reason answer_is = record {
      why = why;
      reason = inr (same-crossing_refusal lists log job.command parts ∙ accepts, reason);
      log_is = refl;
      parts = leaves-command job.command numbered same parts news leaves;
      answer_is = answer_is ∙ ap (λ (p : PassState Commit). refused_answer p why) pass_is;
    }

    kept : numbered ≡ kept_in (database_behind lists log) job.command
    kept = is ∙ kept-is lists log job.command parts informed accepts number payer

    accepts-with : (edition : Edition) (middles news : List PartitionState) (after : Log) (reply : Reply)
        (answer : DoneState) (pass : PassState Commit) → edition ≡ job.edition → pass ≡ job.pass
        → Pairwise (DoesIfNamed edition numbered) 1 parts middles
        → Pairwise (KeepsPartIfNamed edition numbered (next_number log) after) 1 middles news
        → RepliesFrom edition numbered parts (Some reply) → IsPrefix pass.seen log
        → after ≡ log ++ crossing_entry edition numbered (length pass.seen) log ∷ []
        → answer ≡ record { reply = reply; pass = told pass after; share = share_of (home_of numbered) numbered }
        → AcceptsAll lists job log after parts news answer
    accepts-with edition middles news after reply answer pass edition_is pass_is does keeps replies begins log_is answer_is = record {
      accepted = same-crossing_refusal lists log job.command parts ∙ accepts;
      client_told = subst (λ (p : PassState Commit). IsPrefix p.seen log) pass_is begins;
      log_is =
          log_is ∙ ap (λ (p : PassState Commit). log ++ crossing_entry edition numbered (length p.seen) log ∷ []) pass_is
          ∙ ap (λ (c : Command). log ++ crossing_entry edition c (length job.pass.seen) log ∷ []) kept
          ∙ ap (λ (e : Edition). log ++ crossing_entry e (kept_in (database_behind lists log) job.command)
          (length job.pass.seen) log ∷ []) edition_is;
      parts = subst (λ (e : Edition). Pairwise (KeepsIfNamed job.command (commits.Cross e (next_number log)
          (kept_in (database_behind lists log) job.command)) after) 1 parts news) edition_is
          (subst (λ (c : Command). Pairwise (KeepsIfNamed job.command (commits.Cross edition (next_number log) c) after) 1
          parts news) kept (keeps-all edition job.command numbered same (next_number log) after parts middles news does keeps));
      answer_is =
          answer_is
          ∙ ap (λ (p : PassState Commit). made reply p (share_of (home_of numbered) numbered)) pass_is
          ∙ ap (λ (r : Reply). made r job.pass (share_of (home_of numbered) numbered))
          (reply-is lists log job.command parts informed accepts partitions known number payer edition reply
          (subst (λ (c : Command). RepliesFrom edition c parts (Some reply)) is replies))
          ∙ ap (λ (e : Edition). made (act_on_all e job.command (database_behind lists log)).reply job.pass
          (share_of (home_of numbered) numbered)) edition_is
          ∙ ap (λ (s : Option ShareState). made (act_on_all job.edition job.command (database_behind lists log)).reply job.pass s)
          (same.share (home_of numbered) ∙ ap (λ h. share_of h job.command) same.home);
    }
      where
        made : Reply → PassState Commit → Option ShareState → DoneState
        made r p s = record { reply = r; pass = told p after; share = s }

    pub accepts-all : (edition : Edition) (middles news : List PartitionState) (after : Log) (unsettled : UnsettledState)
        (answer : DoneState) (pass : PassState Commit) → edition ≡ job.edition → pass ≡ job.pass
        → Pairwise (DoesIfNamed edition numbered) 1 parts middles
        → Pairwise (KeepsPartIfNamed edition numbered (next_number log) after) 1 middles news
        → AreAllDone edition numbered parts unsettled → IsPrefix pass.seen log
        → after ≡ log ++ crossing_entry edition numbered (length pass.seen) log ∷ []
        → IfSome unsettled.reply (λ reply.
        answer ≡ record { reply = reply; pass = told pass after; share = share_of (home_of numbered) numbered })
        → AcceptsAll lists job log after parts news answer
    accepts-all edition middles news after unsettled answer pass edition_is pass_is does keeps all begins log_is answer_is =
        accepts-with edition middles news after all.reply answer pass edition_is pass_is does keeps all.replies begins log_is
        (subst (λ (o : Option Reply). IfSome o (λ reply.
        answer ≡ record { reply = reply; pass = told pass after; share = share_of (home_of numbered) numbered }))
        (ap (λ (u : UnsettledState). u.reply) all.counted) answer_is)
