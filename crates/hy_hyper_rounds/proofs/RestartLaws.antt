-- A service that is started again has kept the same.
use Rattle.std.proofs.Common.{◌≡◌, ◌⊎◌, ◌∙◌, ◌≤◌, ◌<◌, ◌+◌, ◌==◌, ℕ, zero, suc, Bool, true, false, List, [], ◌∷◌, length, Option, None, Some, IfSome, Result, Ok, Err, slice_get, refl, sym, ap, subst, inl, inr, arith}
use Rattle.std.specs.List.{list_all, list_any, range_with_len}
use Rattle.std.specs.Prelude.{All, nat_lt}
use Rattle.std.proofs.lemmas.Bool.{and_parts, eqb-true, false≢true}
use Rattle.std.proofs.lemmas.List.Elements.{All-filter, All-head, All-tail}
use Rattle.hy_rows.proofs.BetweenLaws.{bounds}
use Rattle.hy_rows.specs.Ranges.{is_between}
use Rattle.hy_rows.specs.Tables.{Lists}
use Rattle.hy_schema.specs.declared.refusal.Refusal.{Refusal}
use Rattle.hy_schema.specs.declared.refusal.Refusal.TheVariants as refusals
use Rattle.hy_passes.specs.declared.entry.Entry.{Entry}
use Rattle.hy_passes.specs.SerialList.{IsSerial, are_warehouses, names, projection}
use Rattle.hy_commands.specs.declared.command.Commit.{Commit}
use Rattle.hy_commands.specs.Commands.{number_of, warehouses_of_commit}
use Rattle.hy_batches.specs.Batches.{Batch}
use Rattle.hy_partition.specs.Jobs.{Log}
use Rattle.hy_partition.specs.Partition.{PartitionState, Terms, projection_of}
use Rattle.hy_crossing.specs.Crossings.{IsPartition, commits_in}
use Rattle.hy_crossing.specs.Lists.{Pairwise}
use Rattle.hy_sound.specs.Sound.{names_one_of}
use Rattle.hy_forks.specs.Drains.{TellsHere}
use Rattle.hy_forks.specs.Logged.{crossings_in, joined}
use Rattle.hy_forks.proofs.NumberLaws.{OnNumber, all-below, all-filtered, named-place, numbers-hold, numbers-of, one-of}
use Rattle.hy_durability.proofs.VerdictLaws.{hold-numbers, range-few, range-most}
use Rattle.hy_recovery.specs.Recovering.{IsRecovered}
use Rattle.hy_redo_drains.specs.Following.{DrainState, Follows, LeaveBeginnings, LeavesBeginning}
use Rattle.hy_script.specs.Databases.{DatabaseState, IsNameAt}
use Rattle.hy_script.specs.Steps.{reply_waiting}
use Rattle.hy_hyper_service.specs.Keeping.{nothing_due}
use Rattle.hy_hyper_service.specs.Opening.{IsOpened}
use Rattle.hy_hyper_input.specs.Received.{Said}
use Rattle.hy_hyper_answers.specs.declared.answers.Style.{Style}
use Rattle.hy_hyper_answers.specs.Served.{Serves}
use Rattle.hy_hyper_service.specs.Rounds.{ServiceState, said_in}
use Rattle.hy_hyper_rounds.specs.Restarts.{HaveTheSame, IsAtRest, IsQuiet, KeepTheSame, RanShort, RestartsAnswerAlike, RestartsHaveTheSame, SayTheSame}
use Rattle.hy_hyper_rounds.proofs.AcrossLaws.{KeepAll}
use Rattle.hy_hyper_rounds.proofs.AlikeLaws.{runs-none}
use Rattle.hy_hyper_rounds.specs.Rounds.{printed_in}
use Rattle.hy_hyper_rounds.proofs.BothLaws.{answers-alike}
use Rattle.hy_hyper_rounds.proofs.RoundLaws.{rounds-print}
use Rattle.hy_hyper_rounds.proofs.GrantsLaws.{keep-any}
use Rattle.hy_forks.proofs.RelationLaws.{pairs-length}

abbrev Serial : ℕ → Log → Type 0
Serial count log = IsSerial warehouses_of_commit number_of count log

-- ---- numbers of commits over several warehouses

-- each entry names warehouses, so each commit does
all-named : (count : ℕ) (log : Log)
    → All (λ (entry : Entry Commit). are_warehouses count (warehouses_of_commit entry.commit) ≡ true) log
    → list_all (names_one_of count) (commits_in log) ≡ true
all-named count [] named = refl
all-named count (entry ∷ log) named =
    let here = one-of count (warehouses_of_commit entry.commit)
    (All-head (λ (entry : Entry Commit). are_warehouses count (warehouses_of_commit entry.commit) ≡ true) entry log named) in
    let later = all-named count log
    (All-tail (λ (entry : Entry Commit). are_warehouses count (warehouses_of_commit entry.commit) ≡ true) entry log named) in
    rw (here, later) refl

-- no commit has a number above how many there are
numbers-below : (count : ℕ) (log : Log) → Serial count log
    → All (OnNumber (λ n. n ≤ crossings_in log)) (commits_in log)
numbers-below count log serial =
    numbers-hold (λ n. n ≤ crossings_in log) (commits_in log)
    (subst (All (λ n. n ≤ crossings_in log)) (sym (numbers-of log ∙ serial.numbered))
    (range-most 1 (crossings_in log) (crossings_in log) (omega arith)))

-- so lists that have the same of each warehouse have no more numbers than one another
fewer : (count : ℕ) (one other : Log) → Serial count one → Serial count other
    → ((place : ℕ) → place < count → projection_of (suc place) other ≡ projection_of (suc place) one)
    → crossings_in other ≤ crossings_in one
fewer count one other serial its_serial same =
    let below : (place : ℕ) → place < count
    → All (λ commit. names warehouses_of_commit (suc place) commit ≡ true → OnNumber (λ n. n ≤ crossings_in one) commit)
    (commits_in other) =
    λ place within. all-filtered (OnNumber (λ n. n ≤ crossings_in one)) (names warehouses_of_commit (suc place))
    (commits_in other)
    (subst (All (OnNumber (λ n. n ≤ crossings_in one))) (sym (same place within))
    (All-filter (names warehouses_of_commit (suc place)) (OnNumber (λ n. n ≤ crossings_in one)) (commits_in one)
    (numbers-below count one serial))) in
    let all : All (OnNumber (λ n. n ≤ crossings_in one)) (commits_in other) =
    all-below (λ place commit. names warehouses_of_commit (suc place) commit ≡ true
    → OnNumber (λ n. n ≤ crossings_in one) commit) (OnNumber (λ n. n ≤ crossings_in one)) (names_one_of count) count
    (commits_in other)
    (λ commit named.
    let found = named-place count (warehouses_of_commit commit) named in
    (found.0, found.1, λ holds. holds found.2))
    (all-named count other its_serial.named) below in
    let numbers : All (λ n. n ≤ crossings_in one) (range_with_len 1 (crossings_in other)) =
    subst (All (λ n. n ≤ crossings_in one)) (numbers-of other ∙ its_serial.numbered)
    (hold-numbers (λ n. n ≤ crossings_in one) (commits_in other) all) in
    elim (range-few 1 (crossings_in other) (crossings_in one) numbers) [
      | inl few ↦ omega (arith, few)
      | inr none ↦ omega (arith, none)
    ]

-- ---- warehouses that aren't there

-- names of warehouses that are there are none of them
not-among : (count number : ℕ) (named : List ℕ) → is_between 1 count number ≡ false
    → list_all (is_between 1 count) named ≡ true → list_any (λ name. name == number) named ≡ false
not-among count number [] outside all = refl
not-among count number (name ∷ named) outside all =
    by (name == number) refl (not-among count number named outside parts.1)
  where
    parts : (is_between 1 count name ≡ true) × (list_all (is_between 1 count) named ≡ true)
    parts = and_parts (is_between 1 count name) (list_all (is_between 1 count) named) all

    by : (same : Bool) → (name == number) ≡ same → list_any (λ name. name == number) named ≡ false
        → list_any (λ name. name == number) (name ∷ named) ≡ false
    by true is later =
        let here : name ≡ number = eqb-true name number is in
        absurd (false≢true (sym outside ∙ ap (is_between 1 count) (sym here) ∙ parts.0))
    by false is later = rw (is, later) refl

-- so no commit names one
nothing-named : (count number : ℕ) (commits : List Commit) → is_between 1 count number ≡ false
    → list_all (λ commit. list_all (is_between 1 count) (warehouses_of_commit commit)) commits ≡ true
    → projection warehouses_of_commit number commits ≡ []
nothing-named count number [] outside named = refl
nothing-named count number (commit ∷ commits) outside named =
    let both = and_parts (list_all (is_between 1 count) (warehouses_of_commit commit))
    (list_all (λ commit. list_all (is_between 1 count) (warehouses_of_commit commit)) commits) named in
    let unnamed = not-among count number (warehouses_of_commit commit) outside both.0 in
    let later = nothing-named count number commits outside both.1 in
    rw (unnamed, later) refl

-- all that commits name are warehouses of the load
all-within : (count : ℕ) (log : Log)
    → All (λ (entry : Entry Commit). are_warehouses count (warehouses_of_commit entry.commit) ≡ true) log
    → list_all (λ commit. list_all (is_between 1 count) (warehouses_of_commit commit)) (commits_in log) ≡ true
all-within count [] named = refl
all-within count (entry ∷ log) named =
    let here = (and_parts (nat_lt 0 (length (warehouses_of_commit entry.commit)))
    (list_all (is_between 1 count) (warehouses_of_commit entry.commit))
    (All-head (λ (entry : Entry Commit). are_warehouses count (warehouses_of_commit entry.commit) ≡ true) entry log named)).1
    in
    let later = all-within count log
    (All-tail (λ (entry : Entry Commit). are_warehouses count (warehouses_of_commit entry.commit) ≡ true) entry log named) in
    rw (here, later) refl

-- ---- serial lists

module _ (count : ℕ) (one other : Log) (serial : Serial count one) (its_serial : Serial count other)
    (same : (place : ℕ) → place < count → projection_of (suc place) other ≡ projection_of (suc place) one) where
  projections-same : (number : ℕ) (within : Bool) → is_between 1 count number ≡ within
      → projection_of number other ≡ projection_of number one
  projections-same number false outside =
      nothing-named count number (commits_in other) outside (all-within count other its_serial.named)
      ∙ sym (nothing-named count number (commits_in one) outside (all-within count one serial.named))
  projections-same zero true within = absurd (omega (arith, (bounds 1 count zero within).0))
  projections-same (suc place) true within = same place (omega (arith, (bounds 1 count (suc place) within).1))

  pub says-the-same : SayTheSame one other
  says-the-same =
      let more : crossings_in other ≤ crossings_in one = fewer count one other serial its_serial same in
      let less : crossings_in one ≤ crossings_in other =
      fewer count other one its_serial serial (λ place within. sym (same place within)) in
      let equal : crossings_in other ≡ crossings_in one = omega (arith, more, less) in
      record {
        commits = λ number. projections-same number (is_between 1 count number) refl;
        next = ap (λ n. n + 1) equal;
      }

-- ---- partitions

-- two at each place
by-places : (number : ℕ) (ones others : List PartitionState) → length others ≡ length ones
    → ((place : ℕ) → place < length ones
    → IfSome (slice_get ones place) (λ p. IfSome (slice_get others place) (λ q. KeepTheSame 1 p q)))
    → KeepAll number ones others
by-places number [] [] count each = tt
by-places number [] (other ∷ others) count each = absurd (omega (arith, count))
by-places number (one ∷ ones) [] count each = absurd (omega (arith, count))
by-places number (one ∷ ones) (other ∷ others) count each = (
  keep-any 1 number one other (each 0 (omega arith)),
  by-places (suc number) ones others (omega (arith, count)) (λ place within. each (suc place) (omega (arith, within))),
)

-- what holds of recovered partitions, whatever they were told, holds once they were told the serial list
each-told : (Holds : ℕ → PartitionState → Type 0) (log : Log)
    → ((place : ℕ) (p : PartitionState) → Holds place p → Holds place (record p { seen = log }))
    → (number : ℕ) (olds news : List PartitionState) → Pairwise (TellsHere log) number olds news
    → ((place : ℕ) → IfSome (slice_get olds place) (Holds place))
    → (place : ℕ) → IfSome (slice_get news place) (Holds place)
each-told Holds log leads number [] [] tells each place = each place
each-told Holds log leads number [] (new ∷ news) tells each place = absurd tells
each-told Holds log leads number (old ∷ olds) [] tells each place = absurd tells
each-told Holds log leads number (old ∷ olds) (new ∷ news) tells each zero =
    subst (Holds zero) (sym tells.0.0) (leads zero old (each zero))
each-told Holds log leads number (old ∷ olds) (new ∷ news) tells each (suc place) =
    each-told (λ place. Holds (suc place)) log (λ place. leads (suc place)) (suc number) olds news tells.1
    (λ place. each (suc place)) place

module _ (lists : Lists) (frames most : ℕ) (batches : List Batch) where
  abbrev Recovered : ℕ → PartitionState → Type 0
  Recovered place p = IsRecovered lists frames most (joined batches place) (suc place) p

  told-recovered : (log : Log) (place : ℕ) (p : PartitionState) → Recovered place p
      → Recovered place (record p { seen = log })
  told-recovered log place p is = record {
    terms = is.terms;
    kept = is.kept;
    running = is.running;
    part = is.part;
    finished = is.finished;
    max_frames = is.max_frames;
    snapshots = is.snapshots;
  }

  -- the partition of a quiet service and the one that is recovered in its place
  alike-at : (log : Log) (place : ℕ) (found its : Option PartitionState) → IfSome found (IsPartition lists (suc place))
      → IfSome found (λ p. p.part ≡ None) → IfSome found (IsAtRest most)
      → IfSome found (λ p. p.kept ≡ projection_of (suc place) log) → IfSome its (Recovered place)
      → joined batches place ≡ projection_of (suc place) log
      → IfSome found (λ p. IfSome its (λ q. KeepTheSame 1 p q))
  alike-at log place None its is whole rests kept recovered same = tt
  alike-at log place (Some p) None is whole rests kept recovered same = tt
  alike-at log place (Some p) (Some q) is whole rests kept recovered same = record {
    load = ap (λ (terms : Terms). terms.load) recovered.terms ∙ sym is.0;
    warehouse = ap (λ (terms : Terms). terms.warehouse) recovered.terms ∙ sym is.1;
    max_kept = ap (λ (terms : Terms). terms.max_kept) recovered.terms ∙ sym rests.max_kept;
    kept = recovered.kept ∙ same ∙ sym kept;
    running = runs-none p.running q.running rests.running recovered.running;
    part = (whole, recovered.part);
    waiting = ap reply_waiting recovered.finished ∙ sym (ap reply_waiting rests.finished);
  }

-- ---- a service

module _ (n : ℕ) (lists : Lists) (service : ServiceState) (most : ℕ) (quiet : IsQuiet lists most service.database)
    (batches : List Batch) (frames : ℕ) (opened : DatabaseState) (seen : Log)
    (opens : IsOpened lists frames most batches opened seen) (serial : Serial (length lists.tables.warehouses) service.database.log)
    (same : (place : ℕ) → place < length lists.tables.warehouses
    → joined batches place ≡ projection_of (suc place) service.database.log) where
  abbrev olds : List PartitionState
  olds = service.database.parts

  parts-count : length opened.parts ≡ length olds
  parts-count = pairs-length (TellsHere opened.log) 1 opens.recovered opened.parts opens.told ∙ opens.are.count
      ∙ sym quiet.whole.partitions.count

  each-alike : (place : ℕ) → place < length olds
      → IfSome (slice_get olds place) (λ p. IfSome (slice_get opened.parts place) (λ q. KeepTheSame 1 p q))
  each-alike place within =
      alike-at lists frames most batches service.database.log place (slice_get olds place) (slice_get opened.parts place)
      (quiet.whole.partitions.each place) (quiet.whole.whole place) (quiet.rests place) (quiet.kept place)
      (each-told (Recovered lists frames most batches) opened.log (told-recovered lists frames most batches opened.log) 1
      opens.recovered opened.parts opens.told opens.are.each place)
      (same place (subst (λ count. place < count) quiet.whole.partitions.count within))

  nothing-open : (name : List ℕ) (place other : ℕ) → IsNameAt [] name place → IsNameAt [] name other → other ≡ place
  nothing-open name place other here there = absurd here

  opened-alike : HaveTheSame n service.database opened
  opened-alike = record {
    parts = by-places 1 olds opened.parts parts-count each-alike;
    snapshots = rw (quiet.snapshots, opens.snapshots) tt;
    once = rw (quiet.snapshots) nothing-open;
    log = says-the-same (length lists.tables.warehouses) service.database.log opened.log serial opens.same.serial
        (λ place within. sym (opens.same.joined_are place within) ∙ same place within);
  }

-- the batches that are read are those that were left
abbrev IsLeft : List Batch → Result (List Batch) Refusal → Type 0
IsLeft left read = (read ≡ Ok left) ⊎ (read ≡ Err refusals.NoMemory)

read-left : (batches left : List Batch) → IsLeft left (Ok batches) → batches ≡ left
read-left batches left read = elim read [
  | inl is ↦ cc
  | inr failed ↦ absurd (cc)
]

pub restarts-alike : LeaveBeginnings → RestartsHaveTheSame
restarts-alike leave n lists service most settled quiet left batches stop reads frames opened seen opens =
    let drains : DrainState = nothing_due service.log service.database.log in
    let follows : Follows lists drains = settled.follows in
    let leaves : LeavesBeginning lists drains follows left =
    leave lists drains drains (Ok tt) left follows (record { none = refl; seen = refl; written = (refl, refl) }) stop in
    let is = read-left batches _ (leaves.reads (Ok batches) reads) in
    opened-alike n lists service most quiet batches frames opened seen opens follows.same.serial
    (λ place within. ap (λ rows. joined rows place) is ∙ leaves.whole settled.well refl place within)

-- ---- what it answers

pub restarts-answer : LeaveBeginnings → RestartsAnswerAlike
restarts-answer leave n lists service most settled quiet left batches stop reads frames again seen opens style rounds
    its_rounds last its are its_are said =
    let same : HaveTheSame n service.database again.database =
    restarts-alike leave n lists service most settled quiet left batches stop reads frames again.database seen opens in
    let through = rounds-print n lists service last rounds are in
    let restarted = rounds-print n lists again its its_rounds its_are in
    let serves : Serves n service.style (said_in rounds) again.database restarted.0 (printed_in its_rounds) =
    subst (λ (all : List Said). Serves n service.style all again.database restarted.0 (printed_in its_rounds)) said
    (subst (λ (how : Style). Serves n how (said_in its_rounds) again.database restarted.0 (printed_in its_rounds)) style
    restarted.1) in
    elim (answers-alike n service.style (said_in rounds) service.database again.database same through.0 restarted.0
    (printed_in rounds) (printed_in its_rounds) through.1 serves) [
      | inl both ↦ inl both.0
      | inr short ↦ elim short [
        | inl here ↦ inr (inl (through.0, through.2, here))
        | inr here ↦ inr (inr (
          restarted.0,
          restarted.2,
          subst (λ (all : List Said). RanShort n again.style all again.database restarted.0 (printed_in its_rounds)) (sym said)
              (subst (λ (how : Style). RanShort n how (said_in rounds) again.database restarted.0 (printed_in its_rounds))
              (sym style) here),
        ))
      ]
    ]
