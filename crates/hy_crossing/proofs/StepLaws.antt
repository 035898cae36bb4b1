-- One part more that is done, or that isn't, so that those before it are undone.
use Rattle.std.proofs.Common.{◌≡◌, ◌≢◌, ◌⊎◌, ℕ, zero, suc, ◌+◌, ◌-◌, ◌<◌, ◌≤◌, ◌==◌, true, false, List, [], ◌∷◌, length, Option, None, Some, inl, inr, refl, sym, ap, ◌∙◌, subst, arith}
use Rattle.std.specs.Prelude.{IfSome, slice_get, slice_index_or, slice_set}
use Rattle.std.specs.Option.{option_or}
use Rattle.std.proofs.lemmas.Bool.{eqb-false, eqb-true, true≢false}
use Rattle.std.proofs.lemmas.List.{get_or-set_same, length-set}
use Rattle.hy_rows.specs.Tables.{Lists}
use Rattle.hy_schema.specs.declared.refusal.Refusal.{Refusal}
use Rattle.hy_commands.specs.declared.command.Command.{Command}
use Rattle.hy_commands.specs.declared.edition.Edition.{Edition}
use Rattle.hy_commands.specs.declared.reply.Reply.{Reply}
use Rattle.hy_commands.specs.Commands.{customer_home_of}
use Rattle.hy_undo.proofs.PrivatePageLaws.{SameForChildren-then}
use Rattle.hy_partition.specs.Partition.{PartitionState, layout_of, rows_now}
use Rattle.hy_partition.specs.Parts.{DoesPart, HasNoPart, KeepsBeside, PartLacksFrame, reply_of_part}
use Rattle.hy_partition.specs.Steps.{KeepsNothing}
use Rattle.hy_crossing.specs.Crossings.{AreQuiet, ArePartitions, CanDoIfNamed, CanDoParts, DoesHere, DoesIfNamed, FailsHere, IsAsBefore, IsPartition, IsQuietIfNamed, IsWhyNotDone, LeavesIfNamed, RepliesFrom, SomeLacksFrame, UndoesIfNamed, is_named}
use Rattle.hy_crossing.specs.Lists.{ChangesAt, IsDoneUpTo, Pairwise}
use Rattle.hy_crossing.specs.Pairs.{At, Before}
use Rattle.hy_crossing.specs.Unsettled.{AreHeldBefore}
use Rattle.hy_crossing.proofs.PairLaws.{pairs-done, pairs-hold, pairs-replaced, pairs-then}
use Rattle.hy_crossing.proofs.PlaceLaws.{held-at, holds-at}
use Rattle.hy_crossing.proofs.ReplyLaws.{no-reply, replies-here, reply-home}
use Rattle.hy_crossing.proofs.TurnLaws.{done-here, done-more, done-still}

-- ---- a part that was done and undone

then-nothing : (old middle new : PartitionState) → KeepsNothing old middle → KeepsNothing middle new
    → KeepsNothing old new
then-nothing old middle new one other = record {
  seen = other.seen ∙ one.seen;
  kept = other.kept ∙ one.kept;
  book = other.book ∙ one.book;
}

pub then-beside : (old middle new : PartitionState) → KeepsBeside old middle → KeepsBeside middle new
    → KeepsBeside old new
then-beside old middle new one other = record {
  terms = other.terms ∙ one.terms;
  running = other.running ∙ one.running;
  finished = other.finished ∙ one.finished;
  snapshots = other.snapshots ∙ one.snapshots;
  children = SameForChildren-then old.space middle.space new.space one.children other.children;
  max_frames = other.max_frames ∙ one.max_frames;
}

undone-part : (edition : Edition) (command : Command) (old middle new : PartitionState) (reply : Option Reply)
    → DoesPart edition command old middle reply → HasNoPart middle new → IsAsBefore old new
undone-part edition command old middle new reply does none = record {
  part = none.part;
  undo = none.undo;
  bytes = none.bytes ∙ does.bytes;
  nothing = then-nothing old middle new does.nothing none.nothing;
  beside = then-beside old middle new does.beside none.beside;
}

-- ---- where one isn't done

abbrev IsHalfDone : Edition → Command → Refusal → ℕ → ℕ → PartitionState → PartitionState → Type 0
IsHalfDone edition command why place number old new =
    ((number < place + 1) × DoesIfNamed edition command number old new)
    ⊎ ((number ≡ place + 1) × FailsHere command why number old new)
    ⊎ ((place + 1 < number) × (new ≡ old))

half-joins : (edition : Edition) (command : Command) (why : Refusal) (place number : ℕ) (old middle new : PartitionState)
    → Before (place + 1) (DoesIfNamed edition command) number old middle
    → At (place + 1) (FailsHere command why) number middle new → IsHalfDone edition command why place number old new
half-joins edition command why place number old middle new one other = elim one [
  | inl first ↦ elim other [
    | inl at ↦ absurd (omega (arith, first.0, at.0))
    | inr later ↦
        inl (first.0, subst (λ (row : PartitionState). DoesIfNamed edition command number old row) (sym later.1) first.1)
  ]
  | inr second ↦ elim other [
    | inl at ↦
        inr (inl (at.0, subst (λ (row : PartitionState). FailsHere command why number row new) second.1 at.1))
    | inr later ↦ inr (inr (omega (arith, second.0, later.0), later.1 ∙ second.1))
  ]
]

does-running : (edition : Edition) (command : Command) (number : ℕ) (old new : PartitionState) → DoesIfNamed edition command number old new
    → new.running ≡ old.running
does-running edition command number old new does = elim does.1 [
  | inl named ↦ named.1.beside.running
  | inr unnamed ↦ ap (λ (p : PartitionState). p.running) unnamed.1.0
]

half-running : (edition : Edition) (command : Command) (why : Refusal) (place number : ℕ) (old new : PartitionState)
    → IsHalfDone edition command why place number old new → new.running ≡ old.running
half-running edition command why place number old new half = elim half [
  | inl first ↦ does-running edition command number old new first.1
  | inr others ↦ elim others [
    | inl at ↦ at.1.1.beside.running
    | inr later ↦ ap (λ (p : PartitionState). p.running) later.1
  ]
]

-- the part is done in each warehouse before the place that the command names
half-held : (edition : Edition) (command : Command) (why : Refusal) (place number : ℕ) (old new : PartitionState)
    → IsHalfDone edition command why place number old new → number < place + 1 → is_named command number ≡ true
    → new.part ≡ Some (record { edition = edition; command = command })
half-held edition command why place number old new half early named = elim half [
  | inl first ↦ elim first.1.1 [
    | inl does ↦ does.1.part
    | inr unnamed ↦ absurd (true≢false (sym named ∙ unnamed.0))
  ]
  | inr others ↦ elim others [
    | inl at ↦ absurd (omega (arith, early, at.0))
    | inr later ↦ absurd (omega (arith, early, later.0))
  ]
]

some-given : {Row : Type 0} (found : Option Row) (Given : Type 0) (Holds : Row → Type 0) → Given
    → IfSome found (λ row. Given → Holds row) → IfSome found Holds
some-given None Given Holds given holds = tt
some-given (Some row) Given Holds given holds = holds given

does-undone : (edition : Edition) (command : Command) (number : ℕ) (old middle new : PartitionState)
    → DoesIfNamed edition command number old middle → UndoesIfNamed command number middle new
    → LeavesIfNamed command number old new
does-undone edition command number old middle new does undoes = elim does.1 [
  | inl named ↦ elim undoes [
    | inl both ↦ inl (named.0, inr (undone-part edition command old middle new does.0 named.1 both.1))
    | inr unnamed ↦ absurd (true≢false (sym named.0 ∙ unnamed.0))
  ]
  | inr unnamed ↦ elim undoes [
    | inl named ↦ absurd (true≢false (sym named.0 ∙ unnamed.0))
    | inr both ↦ inr (unnamed.0, both.1 ∙ unnamed.1.0)
  ]
]

pub same-leaves : (command : Command) (number : ℕ) (old new : PartitionState) → new ≡ old
    → LeavesIfNamed command number old new
same-leaves command number old new same =
    elim (is_named command number) as (λ b. is_named command number ≡ b → LeavesIfNamed command number old new) [
      | true ↦ λ named. inl (named, inl same)
      | false ↦ λ unnamed. inr (unnamed, same)
    ] refl

half-left : (edition : Edition) (command : Command) (why : Refusal) (place number : ℕ) (old middle new : PartitionState)
    → IsHalfDone edition command why place number old middle
    → Before (place + 1) (UndoesIfNamed command) number middle new → LeavesIfNamed command number old new
half-left edition command why place number old middle new half undoes = elim undoes [
  | inl early ↦ elim half [
    | inl first ↦ does-undone edition command number old middle new first.1 early.1
    | inr others ↦ elim others [
      | inl at ↦ absurd (omega (arith, early.0, at.0))
      | inr later ↦ absurd (omega (arith, early.0, later.0))
    ]
  ]
  | inr late ↦ elim half [
    | inl first ↦ absurd (omega (arith, first.0, late.0))
    | inr others ↦ elim others [
      | inl at ↦
          inl (at.1.0, inr (subst (λ (row : PartitionState). IsAsBefore old row) (sym late.1) at.1.1))
      | inr later ↦ same-leaves command number old new (late.1 ∙ later.1)
    ]
  ]
]

some-lacks : (olds news : List PartitionState) (place : ℕ) (old new : PartitionState) → place < length olds
    → length news ≡ length olds → old ≡ slice_index_or olds place old → new ≡ slice_index_or news place new
    → PartLacksFrame old.space new.space → SomeLacksFrame olds news
some-lacks [] news place old new within count is_old is_new lacks = absurd (omega (arith, within))
some-lacks (first ∷ olds) [] place old new within count is_old is_new lacks = absurd (omega (arith, count))
some-lacks (first ∷ olds) (second ∷ news) zero old new within count is_old is_new lacks =
    inl (subst (λ (row : PartitionState). PartLacksFrame row.space second.space) is_old
    (subst (λ (row : PartitionState). PartLacksFrame old.space row.space) is_new lacks))
some-lacks (first ∷ olds) (second ∷ news) (suc place) old new within count is_old is_new lacks =
    inr (some-lacks olds news place old new (omega (arith, within)) (omega (arith, count)) is_old is_new lacks)

module _ (edition : Edition) (command : Command) (place : ℕ) (olds middles : List PartitionState)
    (done : IsDoneUpTo (DoesIfNamed edition command) place olds middles) (within : place < length olds) where
  within_middles : place < length middles
  within_middles = omega (arith, within, done.count)

  back : place + 1 - 1 ≡ place
  back = omega arith

  -- ---- one that isn't

  module _ (why : Refusal) (news : List PartitionState)
      (changes : ChangesAt (FailsHere command why (place + 1)) (place + 1 - 1) middles news) where
    failed_here : changes.0 ≡ slice_index_or middles place changes.0
    failed_here = subst (λ n. changes.0 ≡ slice_index_or middles n changes.0) back changes.2

    failed_news : news ≡ slice_set middles place changes.1
    failed_news = subst (λ n. news ≡ slice_set middles n changes.1) back changes.3

    halves : Pairwise (IsHalfDone edition command why place) 1 olds news
    halves =
        pairs-then (Before (place + 1) (DoesIfNamed edition command)) (At (place + 1) (FailsHere command why))
        (IsHalfDone edition command why place) (half-joins edition command why place) 1 olds middles news
        (pairs-done (DoesIfNamed edition command) place olds middles done)
        (subst (λ (rows : List PartitionState). Pairwise (At (place + 1) (FailsHere command why)) 1 middles rows)
        (sym failed_news) (pairs-replaced (FailsHere command why) place middles changes.0 changes.1 within_middles
        failed_here changes.4))

    pub halves-count : length news ≡ length olds
    halves-count = ap length failed_news ∙ length-set middles place changes.1 ∙ done.count

    pub quiet-halves : CanDoParts command olds → AreQuiet command news
    quiet-halves can other =
        let next : 1 + other ≡ suc other = omega arith in
        subst (λ n. IfSome (slice_get news other) (IsQuietIfNamed command n)) next
        (pairs-hold (IsHalfDone edition command why place) (CanDoIfNamed command) (IsQuietIfNamed command)
        (λ number old new half can named. half-running edition command why place number old new half ∙ (can named).idle.0) 1
        olds news halves (λ p.
        let first : suc p ≡ 1 + p = omega arith in
        subst (λ n. IfSome (slice_get olds p) (CanDoIfNamed command n)) first (can p)) other)

    pub held-halves : CanDoParts command olds
        → AreHeldBefore command place (record { edition = edition; command = command }) news
    held-halves can other before =
        let next : 1 + other ≡ suc other = omega arith in
        some-given (slice_get news other) (suc other < place + 1)
        (λ (p : PartitionState). is_named command (suc other) ≡ true
        → p.part ≡ Some (record { edition = edition; command = command })) (omega (arith, before))
        (subst (λ n. IfSome (slice_get news other) (IsHeldEarly n)) next
        (pairs-hold (IsHalfDone edition command why place) (CanDoIfNamed command) IsHeldEarly
        (λ number old new half can. half-held edition command why place number old new half) 1 olds news halves (λ p.
        let first : suc p ≡ 1 + p = omega arith in
        subst (λ n. IfSome (slice_get olds p) (CanDoIfNamed command n)) first (can p)) other))
      where
        IsHeldEarly : ℕ → PartitionState → Type 0
        IsHeldEarly number p = number < place + 1 → is_named command number ≡ true
            → p.part ≡ Some (record { edition = edition; command = command })

    module _ (last : List PartitionState) (undone : IsDoneUpTo (UndoesIfNamed command) place news last) where
      pub left-all : Pairwise (LeavesIfNamed command) 1 olds last
      left-all =
          pairs-then (IsHalfDone edition command why place) (Before (place + 1) (UndoesIfNamed command)) (LeavesIfNamed command)
          (half-left edition command why place) 1 olds news last halves (pairs-done (UndoesIfNamed command) place news last undone)

      pub why-not : IsWhyNotDone olds last why
      why-not = elim changes.4.2 [
        | inl frame ↦ inl (
          frame.0,
          some-lacks olds last place changes.0 changes.1 within (undone.count ∙ halves-count) is_old is_new frame.1,
        )
        | inr memory ↦ inr memory
      ]
        where
          is_old : changes.0 ≡ slice_index_or olds place changes.0
          is_old = done-here (DoesIfNamed edition command) place olds middles done within_middles changes.0 failed_here

          is_new : changes.1 ≡ slice_index_or last place changes.1
          is_new =
              done-still (UndoesIfNamed command) place news last undone (omega (arith, within, halves-count, undone.count))
              changes.1 (sym (ap (λ (rows : List PartitionState). slice_index_or rows place changes.1) failed_news
              ∙ get_or-set_same middles place changes.1 changes.1 within_middles))

  -- ---- one more

  module _ (reply : Option Reply) (news : List PartitionState)
      (changes : ChangesAt (λ old new. DoesHere edition command (place + 1) old new reply) (place + 1 - 1) middles news) where
    here : changes.0 ≡ slice_index_or middles place changes.0
    here = subst (λ n. changes.0 ≡ slice_index_or middles n changes.0) back changes.2

    pub done-step : IsDoneUpTo (DoesIfNamed edition command) (place + 1) olds news
    done-step =
        subst (λ (rows : List PartitionState). IsDoneUpTo (DoesIfNamed edition command) (place + 1) olds rows)
        (sym (subst (λ n. news ≡ slice_set middles n changes.1) back changes.3))
        (done-more (DoesIfNamed edition command) place olds middles done within_middles changes.0 changes.1 (sym here)
        (reply, changes.4))

    module _ (lists : Lists) (are : ArePartitions lists olds) (answer : Option Reply) where
      is_old : changes.0 ≡ slice_index_or olds place changes.0
      is_old = done-here (DoesIfNamed edition command) place olds middles done within_middles changes.0 here

      number_is : changes.0.warehouse ≡ place + 1
      number_is =
          (holds-at (IsPartition lists (suc place)) olds place changes.0 within is_old (are.each place)).1
          ∙ omega arith

      elsewhere : customer_home_of command ≢ place + 1 → option_or reply answer ≡ answer
      elsewhere other =
          ap (λ (r : Option Reply). option_or r answer)
          (no-reply edition command (place + 1) changes.0 changes.1 reply number_is changes.4 other)

      pub answer-early : (place < customer_home_of command → answer ≡ None) → place + 1 < customer_home_of command
          → option_or reply answer ≡ None
      answer-early early before =
          elsewhere (λ same. omega (arith, same, before)) ∙ early (omega (arith, before))

      at_home : customer_home_of command ≡ place + 1 → RepliesFrom edition command olds (option_or reply answer)
      at_home same =
          let replies = replies-here (layout_of changes.0) edition command (rows_now changes.0) (same ∙ sym number_is) in
          let is_reply = reply-home edition command (place + 1) changes.0 changes.1 reply changes.4 same in
          let first : customer_home_of command - 1 ≡ place = omega (arith, same) in
          held-at (λ p. option_or reply answer ≡ reply_of_part (layout_of p) edition command (rows_now p)) olds
          (customer_home_of command - 1) changes.0 (omega (arith, first, within))
          (subst (λ n. changes.0 ≡ slice_index_or olds n changes.0) (sym first) is_old)
          (ap (λ (r : Option Reply). option_or r answer) (is_reply ∙ replies.1) ∙ sym replies.1)

      pub answer-late : (customer_home_of command ≤ place → RepliesFrom edition command olds answer)
          → customer_home_of command ≤ place + 1 → RepliesFrom edition command olds (option_or reply answer)
      answer-late late passed =
          elim (customer_home_of command == place + 1) as (λ b. (customer_home_of command == place + 1) ≡ b
          → RepliesFrom edition command olds (option_or reply answer)) [
            | true ↦ λ same. at_home (eqb-true (customer_home_of command) (place + 1) same)
            | false ↦ λ not_same.
                let other : customer_home_of command ≢ place + 1 =
                eqb-false (customer_home_of command) (place + 1) not_same in
                subst (λ (r : Option Reply). RepliesFrom edition command olds r) (sym (elsewhere other))
                (late (omega (arith, other, passed)))
          ] refl
