-- A command that nothing refuses so far: the partitions that it names are there, with the rows of the database behind the
-- serial list, and the payer's number is that of the customer whom it names.
use Rattle.std.proofs.Common.{◌≡◌, ◌≢◌, ℕ, zero, suc, ◌+◌, ◌-◌, ◌≤◌, ◌==◌, ◌&&◌, Bool, true, false, nat_lt, List, [], ◌∷◌, length, Option, None, Some, refl, sym, ap, ◌∙◌, subst, arith}
use Rattle.std.specs.Prelude.{IfSome, slice_get}
use Rattle.std.specs.List.{list_all, list_any}
use Rattle.std.proofs.lemmas.Bool.{eq-eqb, or_parts, true≢false}
use Rattle.hy_rows.specs.Ranges.{IsBetween, is_between}
use Rattle.hy_rows.specs.Tables.{Lists, Tables, of_warehouse}
use Rattle.hy_rows.proofs.BetweenLaws.{bounds}
use Rattle.hy_schema.specs.declared.refusal.Refusal.{Refusal}
use Rattle.hy_schema.specs.declared.refusal.Refusal.TheVariants as refusals
use Rattle.hy_commands.specs.declared.command.Command.{Command}
use Rattle.hy_commands.specs.Commands.{customer_home_of, warehouses_of}
use Rattle.hy_commands.specs.Parts.{Database, database_of, payer_number, refusal_in, rows_of, with_number}
use Rattle.hy_commands.specs.Replay.{HasWarehouse, replay, rows_after}
use Rattle.hy_commands.proofs.AcceptedLaws.{IsAcceptedIn, accepted-in}
use Rattle.hy_commands.proofs.DatabaseLaws.{length-database}
use Rattle.hy_database.specs.Database.{customer_rows, kept_in}
use Rattle.hy_database.proofs.KeptLaws.{kept-accepted}
use Rattle.hy_database.proofs.Replays.{IsReplay, refusal-same, replay-after}
use Rattle.hy_partition.specs.Parts.{FindsPayer, HasPart}
use Rattle.hy_partition.specs.Jobs.{Log}
use Rattle.hy_partition.specs.Partition.{PartitionState, layout_of, projection_of, rows_now}
use Rattle.hy_partition.specs.Steps.{is_full}
use Rattle.hy_crossing.specs.Crossings.{AreInformed, AreKnown, CanDoIfNamed, CanDoParts, IsInformed, IsKnownIfNamed, IsPayerIn, commits_in, crossing_refusal, database_behind, is_named, loaded_refusal, some_is_full, with_full}
use Rattle.hy_crossing.proofs.EnterLaws.{one-passes}
use Rattle.hy_crossing.proofs.InformLaws.{some-two, to-next}
use Rattle.hy_crossing.proofs.NumberedLaws.{is_numbered}
use Rattle.hy_crossing.proofs.PlaceLaws.{customer_home-named, get-some}

-- ---- refusals

no-reason : (full : Bool) (why : Option Refusal) → with_full full why ≡ None → (full ≡ false) × (why ≡ None)
no-reason true None is = absurd (cc)
no-reason false None is = (refl, refl)
no-reason full (Some refusals.NoMemory) is = absurd (cc)
no-reason full (Some refusals.NoFrame) is = absurd (cc)
no-reason full (Some refusals.HistoryFull) is = absurd (cc)
no-reason full (Some refusals.NoSuchWarehouse) is = absurd (cc)
no-reason full (Some refusals.NoSuchDistrict) is = absurd (cc)
no-reason full (Some refusals.NoSuchCustomer) is = absurd (cc)
no-reason full (Some refusals.NoSuchItem) is = absurd (cc)
no-reason full (Some refusals.OutOfRange) is = absurd (cc)
no-reason full (Some refusals.Busy) is = absurd (cc)
no-reason full (Some refusals.NotRunning) is = absurd (cc)
no-reason full (Some refusals.NotMine) is = absurd (cc)
no-reason full (Some (refusals.BadLoad fault)) is = absurd (cc)
no-reason full (Some (refusals.BadQuery place)) is = absurd (cc)
no-reason full (Some refusals.LogFailed) is = absurd (cc)
no-reason full (Some (refusals.LogMalformed place)) is = absurd (cc)
no-reason full (Some refusals.Closed) is = absurd (cc)
no-reason full (Some refusals.QueueFull) is = absurd (cc)

-- where none of the named is full, each has room
free-each : (command : Command) (number : ℕ) (rows : List PartitionState) → some_is_full command number rows ≡ false
    → (place : ℕ) → IfSome (slice_get rows place) (λ p. is_named command (number + place) ≡ true → is_full p ≡ false)
free-each command number [] free place = tt
free-each command number (p ∷ rows) free zero =
    let parts = or_parts (is_named command number && is_full p) (some_is_full command (suc number) rows) free in
    let same : number + 0 ≡ number = omega arith in
    λ named. free-here (is_named command number) (is_full p) (ap (is_named command) (sym same) ∙ named) parts.0
  where
    free-here : (named full : Bool) → named ≡ true → (named && full) ≡ false → full ≡ false
    free-here true full is none = none
    free-here false full is none = absurd (true≢false (sym is))
free-each command number (p ∷ rows) free (suc place) =
    let parts = or_parts (is_named command number && is_full p) (some_is_full command (suc number) rows) free in
    let next : suc number + place ≡ number + suc place = omega arith in
    subst (λ n. IfSome (slice_get rows place) (λ p. is_named command n ≡ true → is_full p ≡ false)) next
    (free-each command (suc number) rows parts.1 place)

module _ (lists : Lists) (log : Log) where
  abbrev database : Database
  database = database_behind lists log

  replays : IsReplay lists (commits_in log) database
  replays = replay-after lists (commits_in log)

  -- the database behind the serial list refuses what that of the load refuses
  pub same-refusal : (command : Command)
      → refusal_in (database_behind lists log) command ≡ refusal_in (database_of lists) command
  same-refusal command = refusal-same lists (commits_in log) database replays command

  pub same-crossing_refusal : (command : Command) (parts : List PartitionState)
      → crossing_refusal lists log parts command ≡ loaded_refusal lists command parts
  same-crossing_refusal command parts = ap (with_full (some_is_full command 1 parts)) (same-refusal command)

  module _ (command : Command) (parts : List PartitionState) (informed : AreInformed lists command log parts)
      (accepted : loaded_refusal lists command parts ≡ None) where
    both : (some_is_full command 1 parts ≡ false) × (refusal_in (database_of lists) command ≡ None)
    both = no-reason (some_is_full command 1 parts) (refusal_in (database_of lists) command) accepted

    pub behind : refusal_in (database_behind lists log) command ≡ None
    behind = same-refusal command ∙ both.1

    loaded : IsAcceptedIn (database_of lists) command
    loaded = accepted-in (database_of lists) command both.1

    pub all-here : list_all (is_between 1 (length parts)) (warehouses_of command) ≡ true
    all-here =
        ap (λ n. list_all (is_between 1 n) (warehouses_of command)) (informed.count ∙ sym (length-database lists))
        ∙ loaded.named

    -- the partition of a warehouse that is named
    module _ (number : ℕ) (named : is_named command number ≡ true) where
      between : IsBetween 1 (length parts) number
      between = one-passes (is_between 1 (length parts)) (warehouses_of command) number all-here named

      pub has-warehouse : HasWarehouse lists number
      has-warehouse = subst (λ n. IsBetween 1 n number) informed.count between

      ends : (1 ≤ number) × (number ≤ length parts)
      ends = bounds 1 (length parts) number between

      next : suc (number - 1) ≡ number
      next = omega (arith, ends.0)

      pub named-part : (p : PartitionState) × (slice_get parts (number - 1) ≡ Some p)
      named-part = get-some parts (number - 1) (omega (arith, ends.0, ends.1))

      pub named-informed : IsInformed lists command log number named-part.0
      named-informed =
          subst (λ n. IsInformed lists command log n named-part.0) next
          (subst (λ (row : Option PartitionState). IfSome row (IsInformed lists command log (suc (number - 1))))
          named-part.1 (informed.each (number - 1)))

      -- its rows are those of the database behind the serial list
      pub rows-behind : rows_now named-part.0 ≡ rows_of number (database_behind lists log)
      rows-behind =
          let p = named-part.0 in
          let is = named-informed in
          ap (λ (l : Lists). replay l p.warehouse (of_warehouse p.warehouse l.tables) p.kept) is.partition.0
          ∙ ap (λ w. rows_after lists w p.kept) is.partition.1
          ∙ ap (rows_after lists number) ((is.told named).1 ∙ ap (λ w. projection_of w log) is.partition.1)
          ∙ sym (replays.rows number has-warehouse)

    -- the customer who pays
    module _ (number : ℕ) (payer : IsPayerIn parts command number) where
      abbrev home : ℕ
      home = customer_home_of command

      home_named : is_named command home ≡ true
      home_named = customer_home-named command

      finds : FindsPayer command (rows_now (named-part home home_named).0) (Some number)
      finds =
          subst (λ (row : Option PartitionState). IfSome row (λ p. FindsPayer command (rows_now p) (Some number)))
          (named-part home home_named).1 payer

      number-is : number ≡ payer_number (customer_rows command (database_behind lists log)) command
      number-is = finds.1 ∙ ap (λ (tables : Tables). payer_number tables command) (rows-behind home home_named)

      pub kept-is : with_number number command ≡ kept_in (database_behind lists log) command
      kept-is = ap (λ n. with_number n command) number-is

      pub numbered-accepted : refusal_in (database_of lists) (with_number number command) ≡ None
      numbered-accepted =
          sym (same-refusal (with_number number command)) ∙ ap (refusal_in database) kept-is
          ∙ kept-accepted database command behind

      -- ---- its parts can be done

      has-part : (several : nat_lt 1 (length (warehouses_of command)) ≡ true) (n : ℕ) (p : PartitionState)
          → IsInformed lists command log n p → is_named command n ≡ true
          → HasPart (layout_of p) (with_number number command)
      has-part several n p is named =
          let same = is_numbered number command in
          record {
            accepted =
                ap (λ (l : Lists). refusal_in (database_of l) (with_number number command)) is.partition.0
                ∙ numbered-accepted;
            numbered = same.by_number;
            named =
                ap (list_any (λ named. named == p.warehouse)) same.warehouses
                ∙ ap (is_named command) is.partition.1 ∙ named;
            crossing = ap (λ (ws : List ℕ). nat_lt 1 (length ws)) same.warehouses ∙ several;
          }

      pub can-do : (several : nat_lt 1 (length (warehouses_of command)) ≡ true) (partitions : ℕ)
          → AreKnown command partitions parts → CanDoParts (with_number number command) parts
      can-do several partitions known place =
          some-two (slice_get parts place) One Known (CanDoIfNamed (with_number number command) (suc place)) one
          (known place) (λ p is is_known named.
          let here : is_named command (suc place) ≡ true =
          sym (ap (list_any (λ named. named == suc place)) (is_numbered number command).warehouses) ∙ named in
          let k = is_known here in
          let free : length p.kept ≢ p.max_kept =
          λ same. true≢false (sym (eq-eqb (length p.kept) p.max_kept same) ∙ is.1 here) in
          record {
            idle = (is.0.idle here, is.0.whole);
            has_part = has-part several (suc place) p is.0 here;
            few = omega (arith, free, k.few);
          })
        where
          One : PartitionState → Type 0
          One p = IsInformed lists command log (suc place) p × (is_named command (suc place) ≡ true → is_full p ≡ false)

          Known : PartitionState → Type 0
          Known p = IsKnownIfNamed command partitions (suc place) p

          free : IfSome (slice_get parts place) (λ p. is_named command (suc place) ≡ true → is_full p ≡ false)
          free = to-next (λ n p. is_named command n ≡ true → is_full p ≡ false) parts (free-each command 1 parts both.0) place

          one : IfSome (slice_get parts place) One
          one = some-two (slice_get parts place) (IsInformed lists command log (suc place))
              (λ p. is_named command (suc place) ≡ true → is_full p ≡ false) One (informed.each place) free
              (λ p a b. (a, b))
