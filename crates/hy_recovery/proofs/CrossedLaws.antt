-- A command of several warehouses that is run again: each warehouse that it names keeps it, under its number.
use Rattle.std.proofs.Common.{◌≡◌, ◌⊎◌, ◌<◌, ◌&&◌, ◌||◌, ℕ, suc, ◌+◌, Bool, true, false, List, [], ◌∷◌, ◌++◌, length, Option, Some, None, is_some, inl, inr, refl, sym, ap, ◌∙◌, subst, arith}
use Rattle.std.specs.Prelude.{IfSome, IsSomeAnd, MatchOption, slice_get, unwrap_or}
use Rattle.std.proofs.lemmas.Bool.{false≢true, ne_eqb, true≢false}
use Rattle.hy_rows.specs.Tables.{Lists, Tables}
use Rattle.hy_rows.specs.Rows.{customer_of}
use Rattle.hy_rows.specs.declared.customer.Customer.{Customer}
use Rattle.hy_schema.specs.declared.refusal.Refusal.{Refusal}
use Rattle.hy_passes.specs.Worlds.{PassState}
use Rattle.hy_commands.specs.declared.command.Command.{Command}
use Rattle.hy_commands.specs.declared.command.Command.TheVariants as commands
use Rattle.hy_commands.specs.declared.command.Commit.{Commit}
use Rattle.hy_commands.specs.declared.command.Commit.TheVariants as commits
use Rattle.hy_commands.specs.declared.command.Who.{Who}
use Rattle.hy_commands.specs.declared.command.Who.TheVariants as who
use Rattle.hy_commands.specs.declared.reply.Reply.TheVariants as replies
use Rattle.hy_commands.specs.declared.edition.Edition.{Edition}
use Rattle.hy_commands.specs.declared.edition.Edition.TheVariants as editions
use Rattle.hy_commands.specs.Customers.{customer_meant}
use Rattle.hy_commands.specs.declared.command.Payment.{Payment}
use Rattle.hy_commands.specs.inside.Kinds.{by_payment}
use Rattle.hy_commands.specs.Commands.{customer_home_of}
use Rattle.hy_commands.specs.Parts.{Database, database_of, is_by_number, refusal_in}
use Rattle.hy_commands.specs.Transactions.{has_customer}
use Rattle.hy_commands.proofs.AcceptedLaws.{accepted-in}
use Rattle.hy_database.specs.Database.{act_on_all, customer_rows, kept_in, whole_outcome}
use Rattle.hy_database.proofs.PartLaws.{accepted-reply, number-chosen, same-numbered}
use Rattle.hy_batches.specs.Grammar.{names}
use Rattle.hy_space.specs.Space.{SpaceState}
use Rattle.hy_forks.specs.of_partition.Headline.{Headline}
use Rattle.hy_forks.specs.of_partition.Jobs.{DoneState, JobState, Log, RunningJob, told}
use Rattle.hy_forks.specs.of_partition.Parts.{PartLacksFrame}
use Rattle.hy_forks.specs.of_partition.Partition.{PartitionState, replays, terms_of}
use Rattle.hy_forks.specs.of_partition.Steps.{is_full}
use Rattle.hy_forks.specs.of_crossing.Crossings.{AcceptsAll, AllMayRun, Crosses, EndsIfNamed, KeepsIfNamed, RefusesAll, SomeLacksFrame, TellsIfNamed, MayRunIfNamed, crossing_refusal, database_behind, entry_of, is_named, next_number, some_is_full, with_full}
use Rattle.hy_forks.specs.of_crossing.Lists.{InTurn, Pairwise}
use Rattle.hy_forks.proofs.of_crossing.AcceptLaws.{same-refusal}
use Rattle.hy_forks.proofs.of_crossing.InformLaws.{some-two}
use Rattle.hy_forks.proofs.of_crossing.PairLaws.{pairs-then}
use Rattle.hy_recovery.specs.inside.Ways.{CanRunCrossing, Enters, IsAlone, IsAtRest, IsShortage, KeepsWhereNamed, SomeHasNoFrame}
use Rattle.hy_recovery.proofs.FrameLaws.{part-no-frame, some-lacks}
use Rattle.hy_recovery.proofs.LocalLaws.{none-is}
use Rattle.hy_recovery.proofs.PlaceLaws.{at-place, pairs-at, pairs-each, pairs-weaker}

-- ---- nothing runs, so nothing ends

still-here : (command : Command) (number : ℕ) (before after : Log) (old new : PartitionState) → old.running ≡ None
    → EndsIfNamed command number before after old new → (new ≡ old) × (after ≡ before)
still-here command number before after old new idle ends = elim ends [
  | inl named ↦ by old.running idle _ named.1
  | inr other ↦ other.1
]
  where
    by : (running : Option RunningJob) → running ≡ None → (Ended : RunningJob → Type 0)
        → MatchOption running ((new ≡ old) × (after ≡ before)) Ended → (new ≡ old) × (after ≡ before)
    by None is Ended same = same
    by (Some job) is Ended ended = absurd (cc)

pub still-all : (command : Command) (number : ℕ) (before after : Log) (olds news : List PartitionState)
    → ((place : ℕ) → IfSome (slice_get olds place) IsAtRest)
    → InTurn (EndsIfNamed command) number before after olds news → (news ≡ olds) × (after ≡ before)
still-all command number before after [] [] rest turn = (refl, turn)
still-all command number before after (old ∷ olds) (new ∷ news) rest turn =
    let first = still-here command number before turn.0 old new (rest 0).running turn.1 in
    let later = still-all command (suc number) turn.0 after olds news (λ place. rest (suc place)) turn.2 in
    (cc (first.0, later.0), later.1 ∙ first.1)
still-all command number before after [] (new ∷ news) rest turn = absurd turn
still-all command number before after (old ∷ olds) [] rest turn = absurd turn

-- ---- a command that names its customer by number is kept as it is

-- where the partitions that it names are at rest and replay a log, a command may run by either edition
pub all-may : (edition : Edition) (command : Command) (parts : List PartitionState)
    → ((place : ℕ) → IfSome (slice_get parts place) IsAtRest)
    → ((place : ℕ) → IfSome (slice_get parts place) (λ p. names command (suc place) ≡ true → replays p ≡ true))
    → AllMayRun edition command parts
all-may editions.First command parts rest all =
    λ place. some-two (slice_get parts place) IsAtRest (λ p. names command (suc place) ≡ true → replays p ≡ true)
    (MayRunIfNamed editions.First command (suc place)) (rest place) (all place)
    (λ p at_rest replays named. (at_rest.running, replays named))
all-may editions.Second command parts rest all = tt

module _ (database : Database) (command : Command) (unrefused : refusal_in database command ≡ None) where
  abbrev rows : Tables
  rows = customer_rows command database

  there : has_customer command rows ≡ true
  there = (accepted-in database command unrefused).customer

pub kept-same : (database : Database) (command : Command) → refusal_in database command ≡ None
    → is_by_number command ≡ true → kept_in database command ≡ command
kept-same database =
    by_payment (λ command. refusal_in database command ≡ None → is_by_number command ≡ true
    → kept_in database command ≡ command) of_payment
    (λ command nobody unrefused numbered. same-numbered command nobody (customer_rows command database))
  where
    of_payment : (payment : Payment) → refusal_in database (commands.Payment payment) ≡ None
        → is_by_number (commands.Payment payment) ≡ true
        → kept_in database (commands.Payment payment) ≡ commands.Payment payment
    of_payment payment unrefused numbered = by payment.who refl
      where
        tables : Tables
        tables = customer_rows (commands.Payment payment) database

        by : (whom : Who) → payment.who ≡ whom → kept_in database (commands.Payment payment) ≡ commands.Payment payment
        by (who.Last name) is =
            absurd (false≢true (sym (ap (λ w. is_by_number (commands.Payment record payment { who = w })) is) ∙ numbered))
        by (who.Number number) is =
            let meant : Who → Customer =
            λ w. unwrap_or (customer_meant payment.customer_warehouse payment.customer_district w tables.customers)
            (customer_of []) in
            let found : is_some (customer_meant payment.customer_warehouse payment.customer_district (who.Number number)
            tables.customers) ≡ true =
            ap (λ w. is_some (customer_meant payment.customer_warehouse payment.customer_district w tables.customers)) (sym is)
            ∙ there database (commands.Payment payment) unrefused in
            let same : (meant payment.who).id ≡ number =
            ap (λ w. (meant w).id) is
            ∙ number-chosen payment.customer_warehouse payment.customer_district tables.customers number found in
            ap (λ n. commands.Payment record payment { who = who.Number n }) same
            ∙ ap (λ w. commands.Payment record payment { who = w }) (sym is)

-- ---- which are full

none-full : (command : Command) (number : ℕ) (rows : List PartitionState)
    → ((place : ℕ) → IfSome (slice_get rows place) (λ p.
    names command (number + place) ≡ true → length p.kept < p.max_kept))
    → some_is_full command number rows ≡ false
none-full command number [] few = refl
none-full command number (p ∷ rows) few =
    let later = none-full command (suc number) rows (λ place.
    let next : number + suc place ≡ suc number + place = omega arith in
    subst (λ n. IfSome (slice_get rows place) (λ p. names command n ≡ true → length p.kept < p.max_kept)) next
    (few (suc place))) in
    let same : number + 0 ≡ number = omega arith in
    ap (λ b. b || some_is_full command (suc number) rows)
    (here (names command number) refl (subst (λ n. names command n ≡ true → length p.kept < p.max_kept) same (few 0)))
    ∙ later
  where
    here : (named : Bool) → names command number ≡ named → (names command number ≡ true → length p.kept < p.max_kept)
        → (is_named command number && is_full p) ≡ false
    here true is few =
        let less = few is in
        ap (λ b. b && is_full p) is ∙ ne_eqb (length p.kept) p.max_kept (λ same. absurd (omega (arith, same, less)))
    here false is few = ap (λ b. b && is_full p) is

-- ---- the whole command

module _ (lists : Lists) (edition : Edition) (number : ℕ) (command : Command) (pass : PassState Commit) (before after : Log)
    (olds news : List PartitionState) (answer : DoneState) (can : CanRunCrossing lists number command before olds)
    (crosses : Crosses lists (record { edition = edition; command = command; pass = pass }) before after olds news answer) where
  abbrev job : JobState
  job = record { edition = edition; command = command; pass = pass }

  abbrev middle : List PartitionState
  middle = crosses.middle

  still : (crosses.informs.ended ≡ olds) × (crosses.log ≡ before)
  still = still-all command 1 before crosses.log olds crosses.informs.ended can.rest crosses.informs.ends

  tells : Pairwise (TellsIfNamed command before) 1 olds middle
  tells =
      subst (λ log. Pairwise (TellsIfNamed command log) 1 olds middle) still.1
      (subst (λ rows. Pairwise (TellsIfNamed command crosses.log) 1 rows middle) still.0 crosses.informs.tells)

  does : AcceptsAll lists job before after middle news answer ⊎ RefusesAll lists job before after middle news answer
  does = subst (λ log. AcceptsAll lists job log after middle news answer ⊎ RefusesAll lists job log after middle news answer)
      still.1 crosses.does

  unrefused : refusal_in (database_behind lists before) command ≡ None
  unrefused = same-refusal lists before command ∙ none-is (refusal_in (database_of lists) command) can.known

  abbrev HasRoom : ℕ → PartitionState → Type 0
  HasRoom place p = names command (suc place) ≡ true → length p.kept < p.max_kept

  still-room : (place : ℕ) (old new : PartitionState) → TellsIfNamed command before (suc place) old new
      → HasRoom place old → HasRoom place new
  still-room place old new tells few = elim tells [
    | inl named ↦ λ is. subst (λ (p : PartitionState). length p.kept < p.max_kept) (sym named.1.0) (few is)
    | inr other ↦ λ is. subst (λ (p : PartitionState). length p.kept < p.max_kept) (sym other.1) (few is)
  ]

  not-full : some_is_full command 1 middle ≡ false
  not-full =
      none-full command 1 middle (λ place.
      let first : suc place ≡ 1 + place = omega arith in
      subst (λ n. IfSome (slice_get middle place) (λ p. names command n ≡ true → length p.kept < p.max_kept)) first
      (pairs-each (TellsIfNamed command before) HasRoom HasRoom olds middle
      (λ place old new tells at there few. still-room place old new tells few) tells can.few place))

  no-reason : crossing_refusal lists before middle command ≡ None
  no-reason =
      ap (λ full. with_full full (refusal_in (database_behind lists before) command)) not-full
      ∙ ap (with_full false) unrefused

  replies-not : (why : Refusal) → (act_on_all edition command (database_behind lists before)).reply ≡ replies.Refused why → ⊥
  replies-not why is =
      let database : Database = database_behind lists before in
      accepted-reply database.items (customer_home_of command) edition command (customer_rows command database) why
      (sym (ap (λ r. (whole_outcome r edition command database).reply) unrefused) ∙ is)

  same-why : (one other : Refusal) → replies.Refused one ≡ replies.Refused other → one ≡ other
  same-why one other is = cc

  -- a partition that lacked a frame had none left before
  some-full : (n : ℕ) → ((place : ℕ) → IfSome (slice_get olds place) (Headline n)) → SomeLacksFrame middle news
      → SomeHasNoFrame n olds
  some-full n heads lacks =
      let found = some-lacks middle news lacks in
      by found.0 found.1 found.3 found.2 found.4 (slice_get olds found.0) refl
      (at-place (λ new. IsSomeAnd (slice_get olds found.0) (λ old. TellsIfNamed command before (1 + found.0) old new)) middle
      found.0 found.1 found.3 (pairs-at (TellsIfNamed command before) 1 olds middle tells found.0))
    where
      same-space : (number : ℕ) (old new : PartitionState) → TellsIfNamed command before number old new
          → new.space ≡ old.space
      same-space number old new tells = elim tells [
        | inl named ↦ ap (λ (p : PartitionState). p.space) named.1.0
        | inr other ↦ ap (λ (p : PartitionState). p.space) other.1
      ]

      by : (place : ℕ) (told : PartitionState) → slice_get middle place ≡ Some told → (new : PartitionState)
          → PartLacksFrame told.space new.space → (found : Option PartitionState) → slice_get olds place ≡ found
          → IsSomeAnd found (λ old. TellsIfNamed command before (1 + place) old told) → SomeHasNoFrame n olds
      by place told here new lacks None at has = absurd has
      by place told here new lacks (Some old) at has =
          let rest = at-place IsAtRest olds place old at (can.rest place) in (
            place,
            old,
            at,
            part-no-frame n old (at-place (Headline n) olds place old at (heads place))
                (at-place IsAlone olds place old at (can.alone place)) rest.running rest.part new.space
                (subst (λ (space : SpaceState). PartLacksFrame space new.space) (same-space (1 + place) old told has) lacks),
          )

  -- where it is refused, a warehouse has no frame left, or memory lacked
  pub lacked : (n : ℕ) → ((place : ℕ) → IfSome (slice_get olds place) (Headline n)) → (why : Refusal)
      → answer.reply ≡ replies.Refused why → IsShortage (SomeHasNoFrame n olds) why
  lacked n heads why refused = elim does [
    | inl accepts ↦
        absurd (replies-not why (sym (ap (λ (d : DoneState). d.reply) accepts.answer_is) ∙ refused))
    | inr refuses ↦
        let same : refuses.why ≡ why =
        same-why refuses.why why (sym (ap (λ (d : DoneState). d.reply) refuses.answer_is) ∙ refused) in
        subst (IsShortage (SomeHasNoFrame n olds)) same (elim refuses.reason [
          | inl reason ↦ let some : None ≡ Some refuses.why = sym no-reason ∙ reason in absurd (cc)
          | inr lacks ↦
              elim lacks.1 [ inl frame ↦ inl (frame.0, some-full n heads frame.1) | inr memory ↦ inr memory ]
        ])
  ]

  -- where it isn't, it is kept
  module _ (unless : (why : Refusal) → answer.reply ≡ replies.Refused why → ⊥) where
    accepts : AcceptsAll lists job before after middle news answer
    accepts = elim does [
      | inl is ↦ is
      | inr refuses ↦ absurd (unless refuses.why (ap (λ (d : DoneState). d.reply) refuses.answer_is))
    ]

    abbrev commit : Commit
    commit = commits.Cross edition number command

    entry-commit : (entry_of lists job before).commit ≡ commit
    entry-commit =
        let same : next_number before ≡ number = omega (arith, can.next) in
        ap (λ n. commits.Cross edition n (kept_in (database_behind lists before) command)) same
        ∙ ap (λ command. commits.Cross edition number command)
        (kept-same (database_behind lists before) command unrefused can.by_number)

    kept-here : (n : ℕ) (old between new : PartitionState) → TellsIfNamed command before n old between
        → KeepsIfNamed command (entry_of lists job before).commit after n between new
        → IsAtRest old → KeepsWhereNamed command commit n old new
    kept-here n old between new tells keeps rest = elim tells [
      | inl named ↦
          let told = named.1.0 in
          elim keeps [
            | inl kept ↦
                let k = kept.1 in
                inl (
                  named.0,
                  record {
                    terms = k.beside.terms ∙ ap terms_of told;
                    kept =
                        k.kept ∙ ap (λ (p : PartitionState). p.kept ++ (entry_of lists job before).commit ∷ []) told
                        ∙ ap (λ commit. old.kept ++ commit ∷ []) entry-commit;
                    rest = record {
                      running = k.beside.running ∙ ap (λ (p : PartitionState). p.running) told ∙ rest.running;
                      part = k.part;
                      finished = k.beside.finished ∙ ap (λ (p : PartitionState). p.finished) told ∙ rest.finished;
                    };
                    max_frames = k.beside.max_frames ∙ ap (λ (p : PartitionState). p.space.frames.max) told;
                    snapshots = k.beside.snapshots ∙ ap (λ (p : PartitionState). p.snapshots) told;
                  },
                )
            | inr other ↦ absurd (true≢false (sym named.0 ∙ other.0))
          ]
      | inr other ↦ elim keeps [
        | inl kept ↦ absurd (true≢false (sym kept.0 ∙ other.0))
        | inr same ↦
            let all : new ≡ old = same.1 ∙ other.1 in
            inr (
              other.0,
              record {
                terms = ap terms_of all;
                kept = ap (λ (p : PartitionState). p.kept) all;
                rest = subst IsAtRest (sym all) rest;
                max_frames = ap (λ (p : PartitionState). p.space.frames.max) all;
                snapshots = ap (λ (p : PartitionState). p.snapshots) all;
              },
            )
      ]
    ]

    pub keeps-crossing : Pairwise (KeepsWhereNamed command commit) 1 olds news
    keeps-crossing =
        pairs-weaker (λ n old new. IsAtRest old → KeepsWhereNamed command commit n old new)
        (KeepsWhereNamed command commit) IsAtRest (λ n old new rest leads. leads rest) 1 olds news can.rest
        (pairs-then (TellsIfNamed command before) (KeepsIfNamed command (entry_of lists job before).commit after)
        (λ n old new. IsAtRest old → KeepsWhereNamed command commit n old new) kept-here 1 olds middle news tells
        accepts.parts)

    pub enters-crossing : Enters commit before after
    enters-crossing = (
      length pass.seen,
      accepts.log_is
          ∙ ap (λ commit. before ++ record { commit = commit; stamp = length pass.seen } ∷ []) entry-commit,
    )

    pub crossed-client : answer.pass.client ≡ pass.client
    crossed-client = ap (λ (d : DoneState). d.pass.client) accepts.answer_is
