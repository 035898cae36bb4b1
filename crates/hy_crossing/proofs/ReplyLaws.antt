-- Which warehouse replies, and what a list of partitions is where one part isn't done.
use Rattle.std.proofs.Common.{◌≡◌, ◌≢◌, ℕ, suc, ◌-◌, Bool, true, cond, List, length, Option, None, Some, inl, inr, sym, ap, ◌∙◌, subst, arith}
use Rattle.std.specs.Prelude.{IfSome}
use Rattle.std.proofs.lemmas.Bool.{eq-eqb, ne_eqb, true≢false}
use Rattle.hy_rows.specs.Ranges.{IsBetween}
use Rattle.hy_rows.specs.Tables.{Lists, Tables}
use Rattle.hy_rows.proofs.BetweenLaws.{bounds}
use Rattle.hy_commands.specs.declared.command.Command.{Command}
use Rattle.hy_commands.specs.declared.edition.Edition.{Edition}
use Rattle.hy_commands.specs.declared.reply.Reply.{Reply}
use Rattle.hy_commands.specs.Commands.{customer_home_of}
use Rattle.hy_commands.specs.Transactions.{accepted}
use Rattle.hy_layout.specs.Layout.{LayoutState}
use Rattle.hy_partition.specs.Parts.{reply_of_part}
use Rattle.hy_partition.specs.Partition.{PartitionState, layout_of, rows_now}
use Rattle.hy_crossing.specs.Crossings.{ArePartitions, DoesHere, IsPartition, RepliesFrom, is_named}
use Rattle.hy_crossing.proofs.PlaceLaws.{customer_home-named, get-some}

-- ---- the reply

replies-elsewhere : (layout : LayoutState) (edition : Edition) (command : Command) (tables : Tables)
    → customer_home_of command ≢ layout.warehouse → reply_of_part layout edition command tables ≡ None
replies-elsewhere layout edition command tables other =
    ap (λ (here : Bool). cond here (Some (accepted layout.load.items layout.warehouse edition command tables).reply) None)
    (ne_eqb (customer_home_of command) layout.warehouse other)

pub replies-here : (layout : LayoutState) (edition : Edition) (command : Command) (tables : Tables)
    → customer_home_of command ≡ layout.warehouse → (reply : Reply) × (reply_of_part layout edition command tables ≡ Some reply)
replies-here layout edition command tables same = (
  (accepted layout.load.items layout.warehouse edition command tables).reply,
  ap (λ (here : Bool). cond here (Some (accepted layout.load.items layout.warehouse edition command tables).reply) None)
      (eq-eqb (customer_home_of command) layout.warehouse same),
)

-- a part elsewhere has no reply
pub no-reply : (edition : Edition) (command : Command) (number : ℕ) (old new : PartitionState) (reply : Option Reply)
    → old.warehouse ≡ number → DoesHere edition command number old new reply → customer_home_of command ≢ number
    → reply ≡ None
no-reply edition command number old new reply is does other = elim does [
  | inl named ↦
      named.1.reply_is
      ∙ replies-elsewhere (layout_of old) edition command (rows_now old) (λ same. other (same ∙ is))
  | inr unnamed ↦ unnamed.1.1
]

-- that of the customer's warehouse has one
pub reply-home : (edition : Edition) (command : Command) (number : ℕ) (old new : PartitionState) (reply : Option Reply)
    → DoesHere edition command number old new reply → customer_home_of command ≡ number
    → reply ≡ reply_of_part (layout_of old) edition command (rows_now old)
reply-home edition command number old new reply does same = elim does [
  | inl named ↦ named.1.reply_is
  | inr unnamed ↦
      absurd (true≢false (sym (subst (λ n. is_named command n ≡ true) same (customer_home-named command)) ∙ unnamed.0))
]

pub replies-some : (lists : Lists) (edition : Edition) (command : Command) (parts : List PartitionState) (answer : Option Reply)
    → ArePartitions lists parts → IsBetween 1 (length parts) (customer_home_of command)
    → RepliesFrom edition command parts answer → (reply : Reply) × (answer ≡ Some reply)
replies-some lists edition command parts answer are there replies =
    let home : ℕ = customer_home_of command in
    let ends = bounds 1 (length parts) home there in
    let next : suc (home - 1) ≡ home = omega (arith, ends.0) in
    let some = get-some parts (home - 1) (omega (arith, ends.0, ends.1)) in
    let is = subst (λ (row : Option PartitionState). IfSome row (IsPartition lists (suc (home - 1)))) some.1
    (are.each (home - 1)) in
    let reply_is = subst (λ (row : Option PartitionState).
    IfSome row (λ p. answer ≡ reply_of_part (layout_of p) edition command (rows_now p))) some.1 replies in
    let here = replies-here (layout_of some.0) edition command (rows_now some.0) (sym next ∙ sym is.1) in
    (here.0, reply_is ∙ here.1)
