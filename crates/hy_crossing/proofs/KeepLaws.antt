-- One part more that is kept.
use Rattle.std.proofs.Common.{◌≡◌, ◌≢◌, ℕ, suc, ◌+◌, ◌-◌, ◌<◌, ◌≤◌, ◌==◌, Bool, true, false, not, cond, List, length, Option, None, Some, inl, inr, refl, sym, ap, ◌∙◌, subst, arith}
use Rattle.std.specs.Prelude.{slice_index_or, slice_set}
use Rattle.std.specs.List.{list_all}
use Rattle.std.specs.Option.{option_or}
use Rattle.std.proofs.lemmas.Bool.{eq-eqb, eqb-false, eqb-true, false≢true, ne_eqb, true≢false}
use Rattle.hy_rows.specs.Ranges.{IsBetween, is_between}
use Rattle.hy_rows.specs.Tables.{Lists}
use Rattle.hy_ledger.specs.declared.view.ShareState.{ShareState}
use Rattle.hy_commands.specs.declared.command.Command.{Command}
use Rattle.hy_commands.specs.declared.edition.Edition.{Edition}
use Rattle.hy_commands.specs.Commands.{home_of, warehouses_of}
use Rattle.hy_commands.proofs.NamedLaws.{named-home}
use Rattle.hy_partition.specs.Jobs.{Log, share_of}
use Rattle.hy_partition.specs.Partition.{PartitionState}
use Rattle.hy_crossing.specs.Crossings.{ArePartitions, IsPartition, KeepsHere, KeepsPartIfNamed, is_named}
use Rattle.hy_crossing.specs.Lists.{ChangesAt, IsDoneUpTo}
use Rattle.hy_crossing.proofs.PlaceLaws.{all-apart, holds-at}
use Rattle.hy_crossing.proofs.TurnLaws.{done-here, done-more}

-- a command names its home
pub home-named : (command : Command) → is_named command (home_of command) ≡ true
home-named command =
    elim (is_named command home) as (λ b. is_named command home ≡ b → b ≡ true) [
      | true ↦ λ is. refl
      | false ↦ λ none.
          absurd (false≢true (sym (ap not (eq-eqb home home refl)) ∙ named-home (λ row. not (row == home)) command
          (all-apart home (warehouses_of command) none)))
    ] refl
  where
    home : ℕ
    home = home_of command

or-none : (share : Option ShareState) → option_or share None ≡ share
or-none None = refl
or-none (Some share) = refl

module _ (edition : Edition) (command : Command) (crossing : ℕ) (log : Log) (place : ℕ) (olds middles : List PartitionState)
    (done : IsDoneUpTo (KeepsPartIfNamed edition command crossing log) place olds middles) (within : place < length olds)
    (given : Option ShareState) (news : List PartitionState)
    (changes : ChangesAt (λ old new. KeepsHere edition command crossing log (place + 1) old new given) (place + 1 - 1) middles
    news) where
  within_middles : place < length middles
  within_middles = omega (arith, within, done.count)

  back : place + 1 - 1 ≡ place
  back = omega arith

  here : changes.0 ≡ slice_index_or middles place changes.0
  here = subst (λ n. changes.0 ≡ slice_index_or middles n changes.0) back changes.2

  pub keep-step : IsDoneUpTo (KeepsPartIfNamed edition command crossing log) (place + 1) olds news
  keep-step =
      subst (λ (rows : List PartitionState). IsDoneUpTo (KeepsPartIfNamed edition command crossing log) (place + 1) olds rows)
      (sym (subst (λ n. news ≡ slice_set middles n changes.1) back changes.3))
      (done-more (KeepsPartIfNamed edition command crossing log) place olds middles done within_middles changes.0 changes.1
      (sym here) (given, changes.4))

  module _ (lists : Lists) (are : ArePartitions lists olds) (share : Option ShareState) where
    is_old : changes.0 ≡ slice_index_or olds place changes.0
    is_old = done-here (KeepsPartIfNamed edition command crossing log) place olds middles done within_middles changes.0 here

    number_is : changes.0.warehouse ≡ place + 1
    number_is =
        (holds-at (IsPartition lists (suc place)) olds place changes.0 within is_old (are.each place)).1
        ∙ omega arith

    -- another warehouse than the home gives none
    elsewhere : home_of command ≢ place + 1 → given ≡ None
    elsewhere other = elim changes.4 [
      | inl named ↦
          named.1.share_is
          ∙ ap (λ (here : Bool). cond here (share_of changes.0.warehouse command) None)
          (ne_eqb (home_of command) changes.0.warehouse (λ same. other (same ∙ number_is)))
      | inr unnamed ↦ unnamed.1.1
    ]

    at_home : home_of command ≡ place + 1 → given ≡ share_of (home_of command) command
    at_home same = elim changes.4 [
      | inl named ↦
          let is_home : home_of command ≡ changes.0.warehouse = same ∙ sym number_is in
          named.1.share_is
          ∙ ap (λ (here : Bool). cond here (share_of changes.0.warehouse command) None)
          (eq-eqb (home_of command) changes.0.warehouse is_home)
          ∙ ap (λ n. share_of n command) (sym is_home)
      | inr unnamed ↦
          absurd (true≢false (sym (subst (λ n. is_named command n ≡ true) same (home-named command)) ∙ unnamed.0))
    ]

    pub share-early : (place < home_of command → share ≡ None) → place + 1 < home_of command
        → option_or given share ≡ None
    share-early early before =
        ap (λ (s : Option ShareState). option_or s share) (elsewhere (λ same. omega (arith, same, before)))
        ∙ early (omega (arith, before))

    pub share-late : (place < home_of command → share ≡ None)
        → (home_of command ≤ place → share ≡ share_of (home_of command) command) → home_of command ≤ place + 1
        → option_or given share ≡ share_of (home_of command) command
    share-late early late passed =
        elim (home_of command == place + 1) as (λ b. (home_of command == place + 1) ≡ b
        → option_or given share ≡ share_of (home_of command) command) [
          | true ↦ λ is_same.
              let same : home_of command ≡ place + 1 = eqb-true (home_of command) (place + 1) is_same in
              ap (λ (s : Option ShareState). option_or given s) (early (omega (arith, same))) ∙ or-none given
              ∙ at_home same
          | false ↦ λ not_same.
              let other : home_of command ≢ place + 1 = eqb-false (home_of command) (place + 1) not_same in
              ap (λ (s : Option ShareState). option_or s share) (elsewhere other) ∙ late (omega (arith, other, passed))
        ] refl

pub home-there : (command : Command) (count : ℕ) → list_all (is_between 1 count) (warehouses_of command) ≡ true
    → IsBetween 1 count (home_of command)
home-there command count all = named-home (is_between 1 count) command all
