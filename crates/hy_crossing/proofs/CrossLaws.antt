-- The parts of a command that were done, and kept behind the serial list, or left undone; and the reply.
use Rattle.std.proofs.Common.{◌≡◌, ℕ, suc, ◌-◌, ◌<◌, ◌==◌, true, cond, List, [], ◌∷◌, ◌++◌, length, Option, None, Some, inl, inr, refl, sym, ap, ◌∙◌, subst, arith}
use Rattle.std.specs.Prelude.{IfSome, map, slice_get}
use Rattle.std.specs.List.{list_any}
use Rattle.std.proofs.lemmas.Bool.{eq-eqb, true≢false}
use Rattle.hy_ledger.specs.Books.{BookState}
use Rattle.hy_rows.specs.Tables.{Lists, Tables}
use Rattle.hy_rows.proofs.BetweenLaws.{bounds}
use Rattle.hy_schema.specs.Keys.{AreUnique, customer_key}
use Rattle.hy_schema.specs.Loads.{IsLoad}
use Rattle.hy_schema.specs.declared.refusal.Refusal.{Refusal}
use Rattle.hy_rows.specs.declared.item.Item.{Item}
use Rattle.hy_commands.specs.declared.command.Command.{Command}
use Rattle.hy_commands.specs.declared.command.Commit.{Commit}
use Rattle.hy_commands.specs.declared.command.Commit.TheVariants as commits
use Rattle.hy_commands.specs.declared.edition.Edition.{Edition}
use Rattle.hy_commands.specs.declared.reply.Reply.{Reply}
use Rattle.hy_commands.specs.Commands.{customer_home_of, home_of, warehouses_of_commit}
use Rattle.hy_commands.specs.Parts.{with_number}
use Rattle.hy_commands.specs.Transactions.{accepted, has_customer}
use Rattle.hy_commands.proofs.AcceptedLaws.{accepted-in}
use Rattle.hy_commands.proofs.Kept.{sound-rows}
use Rattle.hy_passes.specs.SerialList.{projection}
use Rattle.hy_database.specs.Database.{act_on_all, customer_rows, whole_outcome}
use Rattle.hy_database.proofs.PayerLaws.{same-reply}
use Rattle.hy_database.proofs.Replays.{replay-after}
use Rattle.hy_partition.specs.Accounts.{with_command}
use Rattle.hy_partition.specs.Jobs.{Log}
use Rattle.hy_partition.specs.Partition.{PartitionState, layout_of, rows_now, terms_of}
use Rattle.hy_partition.specs.Parts.{reply_of_part, with_part_entered}
use Rattle.hy_crossing.specs.Crossings.{AreDone, AreInformed, AreKnown, ArePartitions, CanDoIfNamed, CanDoParts, DoesIfNamed, HaveNoPart, IsDoneIfNamed, IsInformed, IsKnownIfNamed, IsPartition, IsPayerIn, KeepsIfNamed, KeepsPartIfNamed, LeavesIfNamed, RepliesFrom, commits_in, database_behind, is_named, loaded_refusal}
use Rattle.hy_crossing.specs.Lists.{Pairwise}
use Rattle.hy_crossing.proofs.AcceptLaws.{behind, has-warehouse, kept-is, named-informed, named-part, rows-behind}
use Rattle.hy_crossing.proofs.InformLaws.{each-then, pairs-count, some-then, some-two, still-partition}
use Rattle.hy_crossing.proofs.NumberedLaws.{IsNumbered, is_numbered}
use Rattle.hy_crossing.proofs.PairLaws.{pairs-same, pairs-then}
use Rattle.hy_crossing.proofs.PlaceLaws.{customer_home-named}
use Rattle.hy_crossing.proofs.StepLaws.{same-leaves, then-beside}

pub same-named : (command numbered : Command) → IsNumbered command numbered → (number : ℕ)
    → is_named numbered number ≡ is_named command number
same-named command numbered same number = ap (list_any (λ named. named == number)) same.warehouses

-- a weaker relation
pub pairs-weaker : {Row : Type 0} (one other : ℕ → Row → Row → Type 0)
    → ((number : ℕ) (old new : Row) → one number old new → other number old new) → (number : ℕ) (olds news : List Row)
    → Pairwise one number olds news → Pairwise other number olds news
pairs-weaker one other leads number [] [] pairs = tt
pairs-weaker one other leads number (old ∷ olds) (new ∷ news) pairs =
    (leads number old new pairs.0, pairs-weaker one other leads (suc number) olds news pairs.1)
pairs-weaker one other leads number [] (new ∷ news) pairs = absurd pairs
pairs-weaker one other leads number (old ∷ olds) [] pairs = absurd pairs

-- ---- partitions that are left as they were

pub leaves-same : (command : Command) (parts : List PartitionState) → Pairwise (LeavesIfNamed command) 1 parts parts
leaves-same command parts =
    pairs-same (LeavesIfNamed command) 1 (λ number p late. same-leaves command number p p refl) 1 parts (omega arith)

leaves-numbered : (command numbered : Command) → IsNumbered command numbered → (number : ℕ) (old new : PartitionState)
    → LeavesIfNamed numbered number old new → LeavesIfNamed command number old new
leaves-numbered command numbered same number old new leaves =
    let is = same-named command numbered same number in
    elim leaves [
      | inl named ↦ inl (sym is ∙ named.0, named.1)
      | inr other ↦ inr (sym is ∙ other.0, other.1)
    ]

pub leaves-command : (command numbered : Command) → IsNumbered command numbered → (olds news : List PartitionState)
    → Pairwise (LeavesIfNamed numbered) 1 olds news → Pairwise (LeavesIfNamed command) 1 olds news
leaves-command command numbered same olds news pairs =
    pairs-weaker (LeavesIfNamed numbered) (LeavesIfNamed command) (leaves-numbered command numbered same) 1 olds news pairs

-- where each partition is of the load and has no part, before and after
module _ (lists : Lists) (relation : ℕ → PartitionState → PartitionState → Type 0)
    (keeps : (number : ℕ) (old new : PartitionState) → relation number old new → old.part ≡ None
    → (terms_of new ≡ terms_of old) × (new.part ≡ None)) (olds news : List PartitionState)
    (pairs : Pairwise relation 1 olds news) (are : ArePartitions lists olds) (whole : HaveNoPart olds) where
  abbrev Stands : ℕ → PartitionState → Type 0
  Stands number p = IsPartition lists number p × (p.part ≡ None)

  after : (place : ℕ) → IfSome (slice_get news place) (Stands (suc place))
  after = each-then relation Stands Stands (λ number old new does was.
      let kept = keeps number old new does was.1 in
      (still-partition lists number old new kept.0 was.0, kept.1)) olds news pairs
      (λ place. some-two (slice_get olds place) (IsPartition lists (suc place)) (λ p. p.part ≡ None) (Stands (suc place))
      (are.each place) (whole place) (λ p a b. (a, b)))

  pub partitions-after : ArePartitions lists news
  partitions-after = record {
    count = pairs-count relation 1 olds news pairs ∙ are.count;
    each = λ place. some-then (slice_get news place) (Stands (suc place)) (IsPartition lists (suc place)) (after place)
        (λ p both. both.0);
  }

  pub whole-after : HaveNoPart news
  whole-after place =
      some-then (slice_get news place) (Stands (suc place)) (λ p. p.part ≡ None) (after place) (λ p both. both.1)

pub leaves-keeps : (command : Command) (number : ℕ) (old new : PartitionState) → LeavesIfNamed command number old new
    → old.part ≡ None → (terms_of new ≡ terms_of old) × (new.part ≡ None)
leaves-keeps command number old new leaves none = elim leaves [
  | inl named ↦ elim named.1 [
    | inl same ↦ (ap terms_of same, ap (λ (p : PartitionState). p.part) same ∙ none)
    | inr before ↦ (before.beside.terms, before.part)
  ]
  | inr other ↦ (ap terms_of other.1, ap (λ (p : PartitionState). p.part) other.1 ∙ none)
]

pub keeps-keeps : (command : Command) (commit : Commit) (log : Log) (number : ℕ) (old new : PartitionState)
    → KeepsIfNamed command commit log number old new → old.part ≡ None
    → (terms_of new ≡ terms_of old) × (new.part ≡ None)
keeps-keeps command commit log number old new keeps none = elim keeps [
  | inl named ↦ (named.1.beside.terms, named.1.part)
  | inr other ↦ (ap terms_of other.1, ap (λ (p : PartitionState). p.part) other.1 ∙ none)
]

-- ---- parts that are done, and kept

module _ (edition : Edition) (command numbered : Command) (same : IsNumbered command numbered) where
  entered-same : (warehouse : ℕ) (book : BookState)
      → with_part_entered warehouse book numbered ≡ with_part_entered warehouse book command
  entered-same warehouse book =
      ap (λ home. cond (home == warehouse) (with_command book numbered) book) same.home
      ∙ ap (λ entered. cond (home_of command == warehouse) entered book) (same.entered book)

  keeps-here : (crossing : ℕ) (log : Log) (number : ℕ) (old middle new : PartitionState)
      → DoesIfNamed edition numbered number old middle → KeepsPartIfNamed edition numbered crossing log number middle new
      → KeepsIfNamed command (commits.Cross edition crossing numbered) log number old new
  keeps-here crossing log number old middle new does keeps =
      let is = same-named command numbered same number in
      elim does.1 [
        | inl done ↦ elim keeps.1 [
          | inl kept ↦
              let d = done.1 in
              let k = kept.1 in
              let warehouse : middle.warehouse ≡ old.warehouse = ap (λ t. t.warehouse) d.beside.terms in
              inl (
                sym is ∙ done.0,
                record {
                  part = k.part;
                  undo = k.undo;
                  seen = k.seen;
                  kept = k.kept
                      ∙ ap (λ (kept : List Commit). kept ++ commits.Cross edition crossing numbered ∷ []) d.nothing.kept;
                  book = k.book ∙ ap (λ w. with_part_entered w middle.book numbered) warehouse
                      ∙ ap (λ (book : BookState). with_part_entered old.warehouse book numbered) d.nothing.book
                      ∙ entered-same old.warehouse old.book;
                  beside = then-beside old middle new d.beside k.beside;
                },
              )
          | inr other ↦ absurd (true≢false (sym done.0 ∙ other.0))
        ]
        | inr other ↦ elim keeps.1 [
          | inl kept ↦ absurd (true≢false (sym kept.0 ∙ other.0))
          | inr still ↦ inr (sym is ∙ other.0, still.1.0 ∙ other.1.0)
        ]
      ]

  pub keeps-all : (crossing : ℕ) (log : Log) (olds middles news : List PartitionState)
      → Pairwise (DoesIfNamed edition numbered) 1 olds middles
      → Pairwise (KeepsPartIfNamed edition numbered crossing log) 1 middles news
      → Pairwise (KeepsIfNamed command (commits.Cross edition crossing numbered) log) 1 olds news
  keeps-all crossing log olds middles news does keeps =
      pairs-then (DoesIfNamed edition numbered) (KeepsPartIfNamed edition numbered crossing log)
      (KeepsIfNamed command (commits.Cross edition crossing numbered) log) (keeps-here crossing log) 1 olds middles news does keeps

  -- what `keep_all` asks of partitions whose parts are done
  module _ (lists : Lists) (log : Log) (olds news : List PartitionState) (informed : AreInformed lists command log olds)
      (can : CanDoParts numbered olds) (does : Pairwise (DoesIfNamed edition numbered) 1 olds news) where
    abbrev One : ℕ → PartitionState → Type 0
    One number p = IsInformed lists command log number p × CanDoIfNamed numbered number p

    abbrev Other : ℕ → PartitionState → Type 0
    Other number p = IsPartition lists number p × IsDoneIfNamed edition numbered log number p

    done-here : (number : ℕ) (old new : PartitionState) → DoesIfNamed edition numbered number old new → One number old
        → Other number new
    done-here number old new does was = elim does.1 [
      | inl done ↦
          let d = done.1 in
          let told = was.0.told (sym (same-named command numbered same number) ∙ done.0) in
          let few : length new.kept < new.max_kept =
          omega (arith, (was.1 done.0).few, ap length d.nothing.kept, ap (λ t. t.max_kept) d.beside.terms) in (
            still-partition lists number old new d.beside.terms was.0.partition,
            λ named. (d.part, d.nothing.seen ∙ told.0, few),
          )
      | inr other ↦ (
        still-partition lists number old new (ap terms_of other.1.0) was.0.partition,
        λ named. absurd (true≢false (sym named ∙ other.0)),
      )
    ]

    all-done : (place : ℕ) → IfSome (slice_get news place) (Other (suc place))
    all-done = each-then (DoesIfNamed edition numbered) One Other done-here olds news does
        (λ place. some-two (slice_get olds place) (IsInformed lists command log (suc place))
        (CanDoIfNamed numbered (suc place)) (One (suc place)) (informed.each place) (can place) (λ p a b. (a, b)))

    pub are-done : AreDone edition numbered log news
    are-done place =
        some-then (slice_get news place) (Other (suc place)) (IsDoneIfNamed edition numbered log (suc place)) (all-done place)
        (λ p both. both.1)

    pub partitions-done : ArePartitions lists news
    partitions-done = record {
      count = pairs-count (DoesIfNamed edition numbered) 1 olds news does ∙ informed.count;
      each = λ place. some-then (slice_get news place) (Other (suc place)) (IsPartition lists (suc place))
          (all-done place) (λ p both. both.0);
    }

-- ---- the reply

module _ (lists : Lists) (log : Log) (command : Command) (parts : List PartitionState)
    (informed : AreInformed lists command log parts) (accepts : loaded_refusal lists command parts ≡ None)
    (partitions : ℕ) (known : AreKnown command partitions parts) (number : ℕ)
    (payer : IsPayerIn parts command number) where
  abbrev home : ℕ
  home = customer_home_of command

  named : is_named command home ≡ true
  named = customer_home-named command

  here : (p : PartitionState) × (slice_get parts (home - 1) ≡ Some p)
  here = named-part lists log command parts informed accepts home named

  is : IsInformed lists command log home here.0
  unfolding here
  is = named-informed lists log command parts informed accepts home named

  next : suc (home - 1) ≡ home
  next = omega (
    arith,
    bounds 1 (length lists.tables.warehouses) home
        (has-warehouse lists log command parts informed accepts home named),
  )

  is_load : IsLoad lists
  is_load =
      let knows = subst (λ (row : Option PartitionState). IfSome row (IsKnownIfNamed command partitions (suc (home - 1))))
      here.1 (known (home - 1)) (subst (λ n. is_named command n ≡ true) (sym next) named) in
      subst (λ (l : Lists). IsLoad l) is.partition.0 knows.sound

  abbrev rows : Tables
  rows = customer_rows command (database_behind lists log)

  unique : AreUnique (map customer_key rows.customers)
  unique =
      let has = has-warehouse lists log command parts informed accepts home named in
      subst (λ (tables : Tables). AreUnique (map customer_key tables.customers))
      (sym ((replay-after lists (commits_in log)).rows home has))
      (sound-rows lists home (projection warehouses_of_commit home (commits_in log)) is_load has).rows.unique

  known_payer : has_customer command rows ≡ true
  known_payer =
      (accepted-in (database_behind lists log) command (behind lists log command parts informed accepts)).customer

  some-is : (one other : Reply) → Some one ≡ Some other → one ≡ other
  some-is one other same = cc

  pub reply-is : (edition : Edition) (reply : Reply) → RepliesFrom edition (with_number number command) parts (Some reply)
      → reply ≡ (act_on_all edition command (database_behind lists log)).reply
  unfolding here
  reply-is edition reply replies =
      let numbered : Command = with_number number command in
      let same = is_numbered number command in
      let p = here.0 in
      let from : Some reply ≡ reply_of_part (layout_of p) edition numbered (rows_now p) =
      subst (λ (row : Option PartitionState). IfSome row
      (λ p. Some reply ≡ reply_of_part (layout_of p) edition numbered (rows_now p))) here.1
      (subst (λ n. IfSome (slice_get parts (n - 1)) (λ p. Some reply ≡ reply_of_part (layout_of p) edition numbered (rows_now p)))
      same.customer_home replies) in
      let gives : reply_of_part (layout_of p) edition numbered (rows_now p)
      ≡ Some (accepted p.load.items p.warehouse edition numbered (rows_now p)).reply =
      ap (λ b. cond b (Some (accepted p.load.items p.warehouse edition numbered (rows_now p)).reply) None)
      (eq-eqb (customer_home_of numbered) p.warehouse (same.customer_home ∙ sym is.partition.1)) in
      let items : p.load.items ≡ (database_behind lists log).items =
      ap (λ (l : Lists). l.items) is.partition.0 ∙ sym (replay-after lists (commits_in log)).items in
      some-is reply (accepted p.load.items p.warehouse edition numbered (rows_now p)).reply (from ∙ gives)
      ∙ ap (λ (items : List Item). (accepted items p.warehouse edition numbered (rows_now p)).reply) items
      ∙ ap (λ w. (accepted (database_behind lists log).items w edition numbered (rows_now p)).reply) is.partition.1
      ∙ ap (λ (tables : Tables). (accepted (database_behind lists log).items home edition numbered tables).reply)
      (rows-behind lists log command parts informed accepts home named)
      ∙ ap (λ (c : Command). (accepted (database_behind lists log).items home edition c rows).reply)
      (kept-is lists log command parts informed accepts number payer)
      ∙ same-reply (database_behind lists log).items home edition command rows unique known_payer
      ∙ sym (ap (λ (why : Option Refusal). (whole_outcome why edition command (database_behind lists log)).reply)
      (behind lists log command parts informed accepts))
