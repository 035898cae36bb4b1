-- A command of one warehouse that is run again: it begins, it ends accepted or for want of frames or memory, and is kept.
use Rattle.std.proofs.Common.{◌≡◌, ◌⊎◌, ◌==◌, ◌&&◌, ◌||◌, ℕ, Bool, true, false, cond, not, List, [], ◌∷◌, ◌++◌, length, map, Option, Some, None, is_none, inl, inr, refl, sym, ap, ◌∙◌, subst, arith}
use Rattle.std.specs.Prelude.{MatchOption, nat_lt}
use Rattle.std.specs.List.{list_all, list_any}
use Rattle.std.proofs.lemmas.Bool.{and_parts, eqb-true, ltb-false, ne_eqb, false≢true}
use Rattle.hy_rows.specs.Tables.{Tables, of_warehouse}
use Rattle.hy_schema.specs.declared.refusal.Refusal.{Refusal}
use Rattle.hy_schema.specs.declared.refusal.Refusal.TheVariants as refusals
use Rattle.hy_passes.specs.Worlds.{PassState}
use Rattle.hy_commands.specs.declared.command.Command.{Command}
use Rattle.hy_commands.specs.declared.command.Commit.{Commit}
use Rattle.hy_commands.specs.declared.command.Commit.TheVariants as commits
use Rattle.hy_commands.specs.declared.reply.Reply.TheVariants as replies
use Rattle.hy_commands.specs.declared.edition.Edition.{Edition}
use Rattle.hy_commands.specs.declared.edition.Edition.TheVariants as editions
use Rattle.hy_commands.specs.Commands.{customer_home_of, is_in_range, is_reader, kept_of, warehouses_of}
use Rattle.hy_commands.specs.Customers.{identity_of}
use Rattle.hy_commands.specs.Parts.{database_of, is_there, refusal_in, rows_of}
use Rattle.hy_commands.specs.Transactions.{begin_refusal_of, has_customer, has_items, outcome_of}
use Rattle.hy_commands.proofs.AcceptedLaws.{IsAcceptedIn, accepted-in}
use Rattle.hy_commands.proofs.DatabaseLaws.{rows-load, there-load}
use Rattle.hy_commands.proofs.SameCustomers.{has_customer-same, same-customers}
use Rattle.hy_commands.proofs.NamedLaws.{named-customer_home}
use Rattle.hy_batches.specs.Grammar.{command_fits, is_allowed, names, names_several}
use Rattle.hy_database.proofs.PartLaws.{accepted-reply}
use Rattle.hy_forks.proofs.FitsLaws.{fits-writes}
use Rattle.hy_forks.specs.of_partition.Headline.{Headline}
use Rattle.hy_forks.specs.of_partition.Jobs.{DoneState, JobState, Log, begun, entered_by}
use Rattle.hy_forks.specs.of_partition.Partition.{PartitionState, may_run, outcome_now, refusal_now, rows_now, terms_of}
use Rattle.hy_forks.specs.of_partition.Steps.{Accepts, IsUnbegun, Refuses, begin_refusal, is_full, with_job}
use Rattle.hy_recovery.specs.inside.Ways.{CanRunLocal, Enters, HasNoFrameFor, IsShortage, KeepsOne}
use Rattle.hy_recovery.proofs.FrameLaws.{no-frame-for}

-- ---- what such a command has passed

-- where a log is replayed, commands may run by either edition
pub may-replay : (replays : Bool) (edition : Edition) → replays ≡ true → may_run replays edition ≡ true
may-replay replays editions.First is = is
may-replay replays editions.Second is = refl

pub none-is : {Row : Type 0} (found : Option Row) → is_none found ≡ true → found ≡ None
none-is None is = refl
none-is (Some row) is = absurd (cc)

-- one name, which is this
only-name : (named : List ℕ) (warehouse : ℕ) → nat_lt 1 (length named) ≡ false
    → list_any (λ name. name == warehouse) named ≡ true → list_all (λ name. name == warehouse) named ≡ true
only-name [] warehouse few there = absurd (false≢true there)
only-name (name ∷ []) warehouse few there = by (name == warehouse) there
  where
    by : (is : Bool) → (is || false) ≡ true → (is && true) ≡ true
    by true there = refl
    by false there = there
only-name (name ∷ other ∷ named) warehouse few there =
    let most = ltb-false 1 (length (name ∷ other ∷ named)) few in
    absurd (omega (arith, most))

pub kept-one : (edition : Edition) (command : Command) → is_reader command ≡ false
    → kept_of edition command ≡ commits.Local edition command ∷ []
kept-one edition command writes = ap (λ b. cond b [] (commits.Local edition command ∷ [])) writes

not-false : (b : Bool) → not b ≡ true → b ≡ false
not-false true is = absurd (cc)
not-false false is = refl

module _ (edition : Edition) (command : Command) (p : PartitionState) (can : CanRunLocal edition command p) where
  abbrev w : ℕ
  w = p.warehouse

  both : (is_allowed w (commits.Local edition command) ≡ true) × (command_fits command ≡ true)
  both = and_parts (is_allowed w (commits.Local edition command)) (command_fits command) can.allowed

  several : ((is_in_range command && names command w) ≡ true) × (not (names_several command) ≡ true)
  several = and_parts (is_in_range command && names command w) (not (names_several command)) both.0

  named : list_all (λ name. name == w) (warehouses_of command) ≡ true
  named = only-name (warehouses_of command) w (not-false (names_several command) several.1)
      (and_parts (is_in_range command) (names command w) several.0).1

  pub writes : is_reader command ≡ false
  writes = fits-writes command both.1

  loaded : IsAcceptedIn (database_of p.load) command
  loaded = accepted-in (database_of p.load) command (none-is (refusal_in (database_of p.load) command) can.known)

  home : customer_home_of command ≡ w
  home = eqb-true (customer_home_of command) w (named-customer_home (λ name. name == w) command named)

  rows-are : rows_of (customer_home_of command) (database_of p.load) ≡ of_warehouse w p.load.tables
  rows-are =
      rows-load p.load (customer_home_of command)
      (there-load p.load (customer_home_of command)
      (named-customer_home (is_there (database_of p.load)) command loaded.named))
      ∙ ap (λ n. of_warehouse n p.load.tables) home

  customer : has_customer command (rows_now p) ≡ true
  customer =
      has_customer-same command (rows_now p) (rows_of (customer_home_of command) (database_of p.load))
      (same-customers p.load w p.kept ∙ sym (ap (λ (tables : Tables). map identity_of tables.customers) rows-are))
      ∙ loaded.customer

  begins-of : begin_refusal_of w command (rows_now p) ≡ None
  begins-of =
      let in_range = loaded.in_range in
      let districts = loaded.districts in
      rw (in_range, named, districts, customer) refl

  items : has_items p.load.items command ≡ true
  items = loaded.known

  pub unrefused : refusal_now p command ≡ None
  unrefused = rw (begins-of, items) refl

  has-room : is_full p ≡ false
  has-room = ne_eqb (length p.kept) p.max_kept (λ same. absurd (omega (arith, same, can.few)))

  pub begins : begin_refusal p command ≡ None
  begins =
      let running = can.rest.running in
      let part = can.rest.part in
      let finished = can.rest.finished in
      rw (running, part, finished, begins-of, writes, has-room) refl

  -- a begin that is refused lacks memory
  pub unbegun : (Lacks : Type 0) (why : Refusal) → IsUnbegun p command why → IsShortage Lacks why
  unbegun Lacks why refused = elim refused [
    | inl reason ↦ let some : None ≡ Some why = sym begins ∙ reason in absurd (cc)
    | inr lacks ↦ inr lacks.2
  ]

-- ---- replies

-- ---- how it ends

-- what ran to its end is the job that was begun
pub has-ended : (p began ended : PartitionState) (job this : JobState) (before after : Log) → began ≡ with_job p job → job ≡ this
    → MatchOption began.running ((ended ≡ began) × (after ≡ before)) (λ running.
    Accepts running (Some before) (Some after) began ended ⊎ Refuses running (Some before) (Some after) began ended)
    → Accepts (begun this) (Some before) (Some after) (with_job p this) ended
    ⊎ Refuses (begun this) (Some before) (Some after) (with_job p this) ended
has-ended p began ended job this before after is same ends =
    subst (λ (job : JobState). Accepts (begun job) (Some before) (Some after) (with_job p job) ended
    ⊎ Refuses (begun job) (Some before) (Some after) (with_job p job) ended) same
    (subst (λ (q : PartitionState). MatchOption q.running ((ended ≡ q) × (after ≡ before)) (λ running.
    Accepts running (Some before) (Some after) q ended ⊎ Refuses running (Some before) (Some after) q ended)) is ends)

module _ (edition : Edition) (command : Command) (pass : PassState Commit) (p ended new : PartitionState) (before after : Log)
    (can : CanRunLocal edition command p) where
  abbrev job : JobState
  job = record { edition = edition; command = command; pass = pass }

  abbrev started : PartitionState
  started = with_job p job

  abbrev HasEnded : Type 0
  HasEnded = Accepts (begun job) (Some before) (Some after) started ended
      ⊎ Refuses (begun job) (Some before) (Some after) started ended

  module _ (how : HasEnded) where
    -- it has an answer
    pub answers : ended.finished ≡ None → ⊥
    answers none = elim how [
      | inl accepts ↦ by _ accepts.does.ends.finished
      | inr refuses ↦ elim refuses.refused.reason [
        | inl item ↦ by _ item.2.finished
        | inr other ↦ elim other [ inl frame ↦ by _ frame.2.finished | inr memory ↦ by _ memory.1.finished ]
      ]
    ]
      where
        by : (answer : DoneState) → ended.finished ≡ Some answer → ⊥
        by answer some = let same : None ≡ Some answer = sym none ∙ some in absurd (cc)

    module _ (done : DoneState) (found : ended.finished ≡ Some done) where
      answer-is : (answer : DoneState) → ended.finished ≡ Some answer → done ≡ answer
      answer-is answer some = let same : Some done ≡ Some answer = sym found ∙ some in cc (same)

      -- where it is refused, no frame is left for it, or memory lacked
      pub lacked : (n : ℕ) → Headline n p → (why : Refusal) → done.reply ≡ replies.Refused why
          → IsShortage (HasNoFrameFor n command p) why
      lacked n head why refused = elim how [
        | inl accepts ↦
            let none = unrefused edition command p can in
            let answer = answer-is _ accepts.does.ends.finished in
            let reply : (outcome_now started edition command).reply ≡ replies.Refused why =
            sym (ap (λ (d : DoneState). d.reply) answer) ∙ refused in
            absurd (accepted-reply p.load.items p.warehouse edition command (rows_now p) why
            (sym (ap (λ r. (outcome_of r p.load.items p.warehouse edition command (rows_now p)).reply) none) ∙ reply))
        | inr refuses ↦ elim refuses.refused.reason [
          | inl item ↦
              let some : None ≡ Some refusals.NoSuchItem = sym (unrefused edition command p can) ∙ item.1 in
              absurd (cc)
          | inr other ↦ elim other [
            | inl frame ↦
                let reply : replies.Refused refusals.NoFrame ≡ replies.Refused why =
                sym (ap (λ (d : DoneState). d.reply) (answer-is _ frame.2.finished)) ∙ refused in
                inl (same-why reply, no-frame-for n p head can.alone command job refuses.done ended frame.1)
            | inr memory ↦
                let reply : replies.Refused refusals.NoMemory ≡ replies.Refused why =
                sym (ap (λ (d : DoneState). d.reply) (answer-is _ memory.1.finished)) ∙ refused in
                inr (same-why reply)
          ]
        ]
      ]
        where
          same-why : {one other : Refusal} → replies.Refused one ≡ replies.Refused other → other ≡ one
          same-why is = cc

      -- where it isn't, it is kept
      module _ (unless : (why : Refusal) → done.reply ≡ replies.Refused why → ⊥)
          (taken : new ≡ record ended { finished = None }) where
        accepts : Accepts (begun job) (Some before) (Some after) started ended
        accepts = elim how [
          | inl is ↦ is
          | inr refuses ↦ elim refuses.refused.reason [
            | inl item ↦ absurd (unless _ (ap (λ (d : DoneState). d.reply) (answer-is _ item.2.finished)))
            | inr other ↦ elim other [
              | inl frame ↦ absurd (unless _ (ap (λ (d : DoneState). d.reply) (answer-is _ frame.2.finished)))
              | inr memory ↦ absurd (unless _ (ap (λ (d : DoneState). d.reply) (answer-is _ memory.1.finished)))
            ]
          ]
        ]

        pub keeps-one : KeepsOne (commits.Local edition command) p new
        keeps-one =
            let does = accepts.does in
            record {
              terms = ap terms_of taken ∙ does.ends.rest.terms;
              kept =
                  ap (λ (p : PartitionState). p.kept) taken ∙ does.kept
                  ∙ ap (λ rows. p.kept ++ rows) (kept-one edition command (writes edition command p can));
              rest = record {
                running = ap (λ (p : PartitionState). p.running) taken ∙ does.ends.running;
                part = ap (λ (p : PartitionState). p.part) taken ∙ does.ends.rest.part ∙ can.rest.part;
                finished = ap (λ (p : PartitionState). p.finished) taken;
              };
              max_frames = ap (λ (p : PartitionState). p.space.frames.max) taken ∙ does.ends.rest.max_frames;
              snapshots = ap (λ (p : PartitionState). p.snapshots) taken ∙ does.ends.rest.snapshots;
            }

        pub enters-one : Enters (commits.Local edition command) before after
        enters-one =
            let first : before ≡ accepts.log = some-same accepts.before_is in
            let last : after ≡ accepts.log ++ entered_by edition command pass = some-same accepts.after_is in (
              length pass.seen,
              last ∙ ap (λ log. log ++ entered_by edition command pass) (sym first)
                  ∙ ap (λ rows. before ++ map (λ commit. record { commit = commit; stamp = length pass.seen }) rows)
                  (kept-one edition command (writes edition command p can)),
            )
          where
            some-same : {one other : Log} → Some one ≡ Some other → one ≡ other
            some-same is = cc

        pub same-client : done.pass.client ≡ pass.client
        same-client = ap (λ (d : DoneState). d.pass.client) (answer-is _ accepts.does.ends.finished)
