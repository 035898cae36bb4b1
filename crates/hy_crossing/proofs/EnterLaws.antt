-- A command that enters the serial list, and what its partitions know of it.
use Rattle.std.proofs.Common.{◌≡◌, ℕ, suc, ◌-◌, ◌<◌, ◌≤◌, ◌==◌, ◌&&◌, ◌||◌, Bool, true, false, nat_lt, nat_le, List, [], ◌∷◌, ◌++◌, length, None, Some, refl, sym, ap, ◌∙◌, subst, arith}
use Rattle.std.specs.Prelude.{IfSome, Option, slice_get}
use Rattle.std.specs.List.{list_all, list_any}
use Rattle.std.proofs.lemmas.Bool.{and_from, and_parts, eq-eqb, eqb-true, le-leb, lt-ltb, or_right}
use Rattle.hy_rows.specs.Ranges.{is_between}
use Rattle.hy_rows.specs.Tables.{Lists}
use Rattle.hy_rows.proofs.BetweenLaws.{bounds}
use Rattle.hy_commands.specs.declared.command.Command.{Command}
use Rattle.hy_commands.specs.declared.command.Commit.{Commit}
use Rattle.hy_commands.specs.declared.command.Commit.TheVariants as commits
use Rattle.hy_commands.specs.declared.edition.Edition.{Edition}
use Rattle.hy_commands.specs.Commands.{warehouses_of, warehouses_of_commit}
use Rattle.hy_commands.proofs.NamedLaws.{first-named}
use Rattle.hy_passes.specs.declared.entry.Entry.{Entry}
use Rattle.hy_passes.specs.SerialList.{are_warehouses, kept_of, max_commits}
use Rattle.hy_passes.proofs.Lists.{kept-adds}
use Rattle.hy_partition.specs.Jobs.{Log}
use Rattle.hy_partition.specs.Partition.{PartitionState, projection_of}
use Rattle.hy_crossing.specs.Crossings.{AreDone, AreKnown, ArePartitions, AreReady, IsDoneIfNamed, IsKnown, IsKnownIfNamed, IsPartition, IsReadyIfNamed, is_named}
use Rattle.hy_crossing.proofs.PlaceLaws.{get-some}

-- what each of some numbers passes, one of them passes
pub one-passes : (test : ℕ → Bool) (rows : List ℕ) (number : ℕ) → list_all test rows ≡ true
    → list_any (λ row. row == number) rows ≡ true → test number ≡ true
one-passes test (row ∷ rows) number all there =
    let parts = and_parts (test row) (list_all test rows) all in
    elim (row == number) as (λ b. (row == number) ≡ b → (b || list_any (λ row. row == number) rows) ≡ true
    → test number ≡ true) [
      | true ↦ λ same is. subst (λ n. test n ≡ true) (eqb-true row number same) parts.0
      | false ↦ λ other is. one-passes test rows number parts.1 is
    ] refl there
one-passes test [] number all there = cc

-- what holds of each that is there, all pass
all-pass : (test : ℕ → Bool) (rows : List ℕ)
    → ((number : ℕ) → list_any (λ row. row == number) rows ≡ true → test number ≡ true) → list_all test rows ≡ true
all-pass test [] passes = refl
all-pass test (row ∷ rows) passes =
    and_from (test row) (list_all test rows)
    (passes row (ap (λ (b : Bool). b || list_any (λ other. other == row) rows) (eq-eqb row row refl)))
    (all-pass test rows (λ number there. passes number (or_right (row == number) (list_any (λ row. row == number) rows) there)))

some-three : {Row : Type 0} (found : Option Row) (one other third : Row → Type 0) (all : Row → Type 0) → IfSome found one
    → IfSome found other → IfSome found third → ((row : Row) → one row → other row → third row → all row)
    → IfSome found all
some-three None one other third all a b c joins = tt
some-three (Some row) one other third all a b c joins = joins row a b c

module _ (lists : Lists) (command : Command) (parts : List PartitionState) (are : ArePartitions lists parts)
    (there : list_all (is_between 1 (length parts)) (warehouses_of command) ≡ true) (partitions : ℕ)
    (known : AreKnown command partitions parts) where
  -- the partition of a warehouse that is named
  module _ (number : ℕ) (named : is_named command number ≡ true) where
    ends : (1 ≤ number) × (number ≤ length parts)
    ends = bounds 1 (length parts) number (one-passes (is_between 1 (length parts)) (warehouses_of command) number there named)

    next : suc (number - 1) ≡ number
    next = omega (arith, ends.0)

    found : (row : PartitionState) × (slice_get parts (number - 1) ≡ Some row)
    found = get-some parts (number - 1) (omega (arith, ends.0, ends.1))

    named_next : is_named command (suc (number - 1)) ≡ true
    named_next = subst (λ n. is_named command n ≡ true) (sym next) named

    is_here : IsPartition lists (suc (number - 1)) found.0
    is_here =
        subst (λ (row : Option PartitionState). IfSome row (IsPartition lists (suc (number - 1)))) found.1
        (are.each (number - 1))

    number_is : found.0.warehouse ≡ number
    number_is = is_here.1 ∙ next

    known_here : IsKnown partitions found.0
    known_here = subst (λ (row : Option PartitionState). IfSome row (IsKnownIfNamed command partitions (suc (number - 1))))
        found.1 (known (number - 1)) named_next

    within : number ≤ partitions
    within = omega (arith, known_here.range.1, number_is)

    pub few-kept : (edition : Edition) (log : Log) → AreDone edition command log parts
        → length (kept_of warehouses_of_commit number log) < max_commits
    few-kept edition log done =
        let done_here = subst (λ (row : Option PartitionState). IfSome row (IsDoneIfNamed edition command log (suc (number - 1))))
        found.1 (done (number - 1)) named_next in
        let kept : found.0.kept ≡ kept_of warehouses_of_commit number log =
        known_here.kept ∙ ap (λ (seen : Log). projection_of found.0.warehouse seen) done_here.1
        ∙ ap (λ n. projection_of n log) number_is in
        omega (arith, ap length kept, done_here.2, known_here.limit)

  pub are-warehouses : are_warehouses partitions (warehouses_of command) ≡ true
  are-warehouses =
      and_from (nat_lt 0 (length (warehouses_of command))) (list_all (λ w. nat_le 1 w && nat_le w partitions) (warehouses_of command))
      (lt-ltb 0 (length (warehouses_of command)) (omega (arith, ap length (first-named command).1)))
      (all-pass (λ w. nat_le 1 w && nat_le w partitions) (warehouses_of command) (λ number named.
      and_from (nat_le 1 number) (nat_le number partitions) (le-leb 1 number (ends number named).0)
      (le-leb number partitions (within number named))))

  pub ready : (edition : Edition) (log : Log) (crossing stamp : ℕ) → AreDone edition command log parts
      → AreReady edition command crossing (log ++ record { commit = commits.Cross edition crossing command; stamp = stamp } ∷ []) parts
  ready edition log crossing stamp done place =
      some-three (slice_get parts place) (IsPartition lists (suc place)) (IsKnownIfNamed command partitions (suc place))
      (IsDoneIfNamed edition command log (suc place)) (IsReadyIfNamed edition command crossing (log ++ entry ∷ []) (suc place))
      (are.each place) (known place) (done place) (λ p is is_known is_done named.
      let kept : kept_of warehouses_of_commit p.warehouse log ≡ p.kept =
      sym ((is_known named).kept ∙ ap (λ (seen : Log). projection_of p.warehouse seen) (is_done named).1) in
      let here : is_named command p.warehouse ≡ true = subst (λ n. is_named command n ≡ true) (sym is.1) named in (
        (is_done named).0,
        kept-adds warehouses_of_commit p.warehouse log entry here
            ∙ ap (λ (kept : List Commit). kept ++ commits.Cross edition crossing command ∷ []) kept,
      ))
    where
      entry : Entry Commit
      entry = record { commit = commits.Cross edition crossing command; stamp = stamp }
