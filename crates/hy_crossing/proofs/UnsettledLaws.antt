-- What is counted while the parts of a command are done, undone and kept.
use Rattle.std.proofs.Common.{◌≡◌, ◌⊎◌, ℕ, ◌+◌, ◌-◌, ◌<◌, ◌≤◌, true, false, Option, None, length, List, inl, inr, refl, sym, ap, ◌∙◌, subst, arith}
use Rattle.std.specs.Prelude.{IsSome, OnOk, Result, Ok, Err}
use Rattle.std.specs.Option.{option_or}
use Rattle.hy_ledger.specs.declared.view.ShareState.{ShareState}
use Rattle.hy_commands.specs.declared.command.Command.{Command}
use Rattle.hy_commands.specs.declared.edition.Edition.{Edition}
use Rattle.hy_commands.specs.declared.reply.Reply.{Reply}
use Rattle.hy_partition.specs.Partition.{PartitionState}
use Rattle.hy_partition.specs.Unsettled.{UnsettledState, with_part_done, with_part_kept, with_part_undone}
use Rattle.hy_crossing.specs.Crossings.{is_named}
use Rattle.hy_crossing.specs.Unsettled.{AreAllDone, AreCounted, named_before, one_if_named, unsettled_of}
use Rattle.hy_crossing.proofs.CountLaws.{before-grows, before-more, before-same, one-here}

-- two things that are said of a success
pub on_ok-both : {T E : Type 0} (A B C : Type 0) (result : Result T E) → OnOk result A → OnOk result B → (A → B → C)
    → OnOk result C
on_ok-both A B C (Ok value) one other joins = joins one other
on_ok-both A B C (Err error) one other joins = tt

-- ---- at one place

module _ (command : Command) (number : ℕ) (now : UnsettledState) where
  pub done-here : (new : UnsettledState) (reply : Option Reply) → is_named command number ≡ true
      → new ≡ with_part_done now reply
      → new ≡ record now { count = now.count + one_if_named command number; reply = option_or reply now.reply }
  done-here new reply named is =
      is ∙ ap (λ n. record now { count = now.count + n; reply = option_or reply now.reply })
      (sym (one-here command number named))

  pub kept-here : (new : UnsettledState) (share : Option ShareState) → is_named command number ≡ true
      → new ≡ with_part_kept now share
      → new ≡ record now { count = now.count - one_if_named command number; share = option_or share now.share }
  kept-here new share named is =
      is ∙ ap (λ n. record now { count = now.count - n; share = option_or share now.share })
      (sym (one-here command number named))

-- ---- one part more is done

pub counted-more : (edition : Edition) (command : Command) (place : ℕ) (old new : UnsettledState) (reply : Option Reply)
    → AreCounted edition command place old
    → new ≡ record old { count = old.count + one_if_named command (place + 1); reply = option_or reply old.reply }
    → AreCounted edition command (place + 1) new
counted-more edition command place old new reply is more =
    whole ∙ ap (λ (r : Option Reply). unsettled_of edition command (named_before command (place + 1)) r None)
    (sym (ap (λ (u : UnsettledState). u.reply) whole))
  where
    whole : new ≡ unsettled_of edition command (named_before command (place + 1)) (option_or reply old.reply) None
    whole =
        more
        ∙ ap (λ (u : UnsettledState). record u {
          count = u.count + one_if_named command (place + 1);
          reply = option_or reply old.reply;
        }) is
        ∙ ap (λ n. unsettled_of edition command n (option_or reply old.reply) None) (sym (before-more command place))

-- none more where the warehouse isn't named
pub counted-other : (edition : Edition) (command : Command) (place : ℕ) (now : UnsettledState)
    → is_named command (place + 1) ≡ false → AreCounted edition command place now
    → AreCounted edition command (place + 1) now
counted-other edition command place now unnamed is =
    is ∙ ap (λ n. unsettled_of edition command n now.reply None) (sym (before-same command place unnamed))

-- ---- one part less is done

-- the count of those that are left, where some of them were undone: there is no reply, or nothing was undone so far
pub record IsLeft (command : Command) (place end : ℕ) (now : UnsettledState) : Type 0 where
  pub count : now.count + named_before command place ≡ named_before command end
  pub reply : (now.reply ≡ None) ⊎ ((named_before command place ≡ 0) × (1 ≤ named_before command end))
  pub share : now.share ≡ None

module _ (command : Command) (place end : ℕ) (now : UnsettledState) (left : IsLeft command place end now)
    (within : place < end) where
  pub some-left : is_named command (place + 1) ≡ true → 1 ≤ now.count
  some-left named =
      omega (
        arith,
        left.count,
        before-more command place,
        one-here command (place + 1) named,
        before-grows command (place + 1) end (omega (arith, within)),
      )

  pub left-here : (new : UnsettledState) → is_named command (place + 1) ≡ true → new ≡ with_part_undone now
      → IsLeft command (place + 1) end new
  left-here new named is = record {
    count =
        let less : new.count ≡ now.count - 1 = ap (λ (u : UnsettledState). u.count) is in
        omega (arith, less, some-left named, left.count, before-more command place, one-here command (place + 1) named);
    reply = inl (ap (λ (u : UnsettledState). u.reply) is);
    share = ap (λ (u : UnsettledState). u.share) is ∙ left.share;
  }

  pub left-other : is_named command (place + 1) ≡ false → IsLeft command (place + 1) end now
  left-other unnamed =
      let same = before-same command place unnamed in
      record {
        count = omega (arith, left.count, same);
        reply = elim left.reply [
          | inl none ↦ inl none
          | inr both ↦ inr (same ∙ both.0, both.1)
        ];
        share = left.share;
      }

pub left-start : (command : Command) (end : ℕ) (now : UnsettledState) → now.count ≡ named_before command end
    → (now.reply ≡ None) ⊎ (1 ≤ now.count) → now.share ≡ None → IsLeft command 0 end now
left-start command end now count reply share = record {
  count = omega (arith, count);
  reply = elim reply [
    | inl none ↦ inl none
    | inr some ↦ inr (refl, omega (arith, some, count))
  ];
  share = share;
}

-- all are undone
module _ (command : Command) (place end : ℕ) (now : UnsettledState) (left : IsLeft command place end now)
    (all : place ≡ end) where
  same_count : named_before command place ≡ named_before command end
  same_count = ap (named_before command) all

  pub none-left : now.count ≡ 0
  none-left = omega (arith, left.count, same_count)

  pub no-reply-left : now.reply ≡ None
  no-reply-left = elim left.reply [
    | inl none ↦ none
    | inr both ↦ absurd (omega (arith, both.0, both.1, same_count))
  ]

-- ---- one part more is kept

-- the count of those that are not kept so far, with the reply from the beginning
pub record IsUnkept (edition : Edition) (command : Command) (place end : ℕ) (first now : UnsettledState) : Type 0 where
  pub count : now.count + named_before command place ≡ named_before command end
  pub is : now ≡ unsettled_of edition command now.count first.reply now.share

pub unkept-start : (edition : Edition) (command : Command) (end : ℕ) (now : UnsettledState)
    → AreCounted edition command end now → IsUnkept edition command 0 end now now
unkept-start edition command end now is = record {
  count =
      let count : now.count ≡ named_before command end = ap (λ (u : UnsettledState). u.count) is in
      omega (arith, count);
  is =
      is ∙ ap (λ n. unsettled_of edition command n now.reply None) (sym (ap (λ (u : UnsettledState). u.count) is))
      ∙ ap (λ (s : Option ShareState). unsettled_of edition command now.count now.reply s)
      (sym (ap (λ (u : UnsettledState). u.share) is));
}

module _ (edition : Edition) (command : Command) (place end : ℕ) (first now : UnsettledState)
    (unkept : IsUnkept edition command place end first now) (within : place < end) where
  pub enough-unkept : one_if_named command (place + 1) ≤ now.count
  enough-unkept =
      omega (arith, unkept.count, before-more command place, before-grows command (place + 1) end (omega (arith, within)))

  pub unkept-other : is_named command (place + 1) ≡ false → IsUnkept edition command (place + 1) end first now
  unkept-other unnamed = record {
    count = omega (arith, unkept.count, before-same command place unnamed);
    is = unkept.is;
  }

  pub unkept-more : (new : UnsettledState) (share : Option ShareState)
      → new ≡ record now { count = now.count - one_if_named command (place + 1); share = option_or share now.share }
      → IsUnkept edition command (place + 1) end first new
  unkept-more new share more = record {
    count = omega (arith, less, enough-unkept, unkept.count, before-more command place);
    is =
        whole ∙ ap (λ n. unsettled_of edition command n first.reply (option_or share now.share)) (sym less)
        ∙ ap (λ (s : Option ShareState). unsettled_of edition command new.count first.reply s)
        (sym (ap (λ (u : UnsettledState). u.share) more));
  }
    where
      less : new.count ≡ now.count - one_if_named command (place + 1)
      less = ap (λ (u : UnsettledState). u.count) more

      whole : new ≡ unsettled_of edition command (now.count - one_if_named command (place + 1)) first.reply
          (option_or share now.share)
      whole = more ∙ ap (λ (u : UnsettledState). record u {
        count = now.count - one_if_named command (place + 1);
        share = option_or share now.share;
      }) unkept.is

pub all-kept : (edition : Edition) (command : Command) (place end : ℕ) (first now : UnsettledState)
    (share : Option ShareState) → IsUnkept edition command place end first now → place ≡ end → now.share ≡ share
    → now ≡ unsettled_of edition command 0 first.reply share
all-kept edition command place end first now share unkept all share_is =
    let none : now.count ≡ 0 = omega (arith, unkept.count, ap (named_before command) all) in
    unkept.is ∙ ap (λ n. unsettled_of edition command n first.reply now.share) none
    ∙ ap (λ (s : Option ShareState). unsettled_of edition command 0 first.reply s) share_is

-- ---- all are done

module _ (edition : Edition) (command : Command) (rows : List PartitionState) where
  module _ (middles : List PartitionState) (now : UnsettledState) (all : AreAllDone edition command rows now)
      (same : length middles ≡ length rows) where
    pub all-counted : AreCounted edition command (length middles) now
    all-counted =
        all.counted ∙ ap (λ (r : Option Reply). unsettled_of edition command (named_before command (length rows)) r None)
        (sym (ap (λ (u : UnsettledState). u.reply) all.counted))
        ∙ ap (λ n. unsettled_of edition command (named_before command n) now.reply None) (sym same)

  pub all-replied : (now : UnsettledState) → AreAllDone edition command rows now → IsSome now.reply
  all-replied now all = subst IsSome (sym (ap (λ (u : UnsettledState). u.reply) all.counted)) refl
