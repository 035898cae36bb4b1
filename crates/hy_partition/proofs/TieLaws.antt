-- The parts of a partition stay tied.
use Rattle.std.proofs.Common.{◌≡◌, ◌≢◌, ◌≤◌, ℕ, ◌==◌, ◌||◌, Bool, true, false, nat_lt, not, cond, List, [], ◌∷◌, ◌++◌, length, drop, ap₂, Option, Some, None, inl, inr, refl, sym, ap, ◌∙◌, subst, arith, eq-eqb, length-append, true≢false}
use Rattle.std.specs.Prelude.{◌&&◌, IsSome, is_some, slice_index_or}
use Rattle.std.specs.List.{list_all}
use Rattle.std.proofs.lemmas.Bool.{and_parts, cases_eq, eqb-true, ltb-false, ltb-true}
use Rattle.std.proofs.lemmas.List.{drop-append-le, drop_all}
use Rattle.hy_worlds.specs.Origins.{Origin}
use Rattle.hy_rows.specs.Tables.{Lists}
use Rattle.hy_passes.specs.Worlds.{KeptState}
use Rattle.hy_ledger.specs.Books.{BookState}
use Rattle.hy_tickets.specs.Desks.{DeskState, is_out, without}
use Rattle.hy_commands.specs.declared.command.Commit.{Commit}
use Rattle.hy_commands.specs.declared.command.Commit.TheVariants as commits
use Rattle.hy_commands.specs.declared.command.Command.{Command}
use Rattle.hy_commands.specs.declared.edition.Edition.{Edition}
use Rattle.hy_commands.specs.declared.edition.Edition.TheVariants as editions
use Rattle.hy_commands.specs.Commands.{is_reader, kept_of, warehouses_of}
use Rattle.hy_commands.specs.Parts.{database_of, refusal_in}
use Rattle.hy_commands.proofs.NamedLaws.{named-accepted}
use Rattle.hy_layout.specs.Layout.{LayoutState}
use Rattle.hy_space.specs.Space.{SpaceState}
use Rattle.hy_undo.specs.UndoLog.{UndoLog}
use Rattle.hy_tpcc.specs.Executor.{ExecutorState}
use Rattle.hy_tpcc.specs.Parts.{HasPart}
use Rattle.hy_partition.specs.Accounts.{IsBookOf, with_command}
use Rattle.hy_partition.specs.Jobs.{DoneState, RunningJob}
use Rattle.hy_partition.specs.Partition.{PartState, PartitionState, commits_of, is_new, layout_of, may_be_kept, may_run, refusal_now, replays, rows_now}
use Rattle.hy_partition.specs.inside.Soundness.{IsSound, IsTied}
use Rattle.hy_partition.specs.Parts.{with_part_entered}
use Rattle.hy_partition.proofs.KnownLaws.{known-local}
use Rattle.hy_partition.proofs.AccountLaws.{booked, booked-part}
use Rattle.hy_commands.proofs.NamedLaws.{several-writes}
use Rattle.hy_partition.proofs.SoundLaws.{holds, part_idle, sound_now}

-- a number that isn't out where no snapshot has it
none-some : {o : Option ℕ} → o ≡ None → IsSome o → ⊥
none-some none some = true≢false (sym some ∙ ap is_some none)

not-out : (b : Bool) → (b ≡ true → ⊥) → b ≡ false
not-out true never = absurd (never refl)
not-out false never = refl

-- what is out with one more, and without one
out-more : (out : List ℕ) (number other : ℕ) → is_out (number ∷ out) other ≡ true
    → (number ≡ other → ⊥) → is_out out other ≡ true
out-more out number other is apart = by (number == other) refl is
  where
    by : (b : Bool) → (number == other) ≡ b → (b || is_out out other) ≡ true → is_out out other ≡ true
    by true same is = absurd (apart (eqb-true number other same))
    by false same is = is

out-less : (out : List ℕ) (number other : ℕ) → is_out (without out number) other ≡ true
    → (other ≡ number → ⊥) × (is_out out other ≡ true)
out-less [] number other is = absurd (true≢false (sym is))
out-less (first ∷ out) number other is =
    by (first == number) refl (first == other) refl is (out-less out number other)
  where
    by : (gone : Bool) → (first == number) ≡ gone → (here : Bool) → (first == other) ≡ here
        → is_out (cond (not gone) (first ∷ without out number) (without out number)) other ≡ true
        → (is_out (without out number) other ≡ true → (other ≡ number → ⊥) × (is_out out other ≡ true))
        → (other ≡ number → ⊥) × ((here || is_out out other) ≡ true)
    by true gone true here is later = let was = later is in (was.0, refl)
    by true gone false here is later = later is
    by false gone true here is later = (
      λ same. true≢false (sym (eq-eqb first number (eqb-true first other here ∙ same)) ∙ gone),
      refl,
    )
    by false gone false here is later =
        later (ap (λ b. b || is_out (without out number) other) (sym here) ∙ is)

-- what a partition keeps that replays no log is of the second edition
new-kept : (edition : Edition) (command : Command) → may_run false edition ≡ true
    → list_all is_new (kept_of edition command) ≡ true
new-kept editions.First command may = absurd (true≢false (sym may))
new-kept editions.Second command may = elim (is_reader command) as (λ b.
    list_all is_new (cond b [] (commits.Local editions.Second command ∷ [])) ≡ true) [
      | true ↦ refl
      | false ↦ refl
    ]

new-crossing : (edition : Edition) (number : ℕ) (command : Command) → may_run false edition ≡ true
    → list_all is_new (commits.Cross edition number command ∷ []) ≡ true
new-crossing editions.First number command may = absurd (true≢false (sym may))
new-crossing editions.Second number command may = refl

new-append : (one more : List Commit) → list_all is_new one ≡ true → list_all is_new more ≡ true
    → list_all is_new (one ++ more) ≡ true
new-append [] more one other = other
new-append (commit ∷ commits) more one other =
    let parts = and_parts (is_new commit) (list_all is_new commits) one in
    ap₂ (λ a b. a && b) parts.0 (new-append commits more parts.1 other)

-- and so is all that comes from no log, with one commit more
new-more : (replayed : ℕ) (kept more : List Commit) → length more ≤ 1 → list_all is_new (drop replayed kept) ≡ true
    → (nat_lt (length kept) replayed ≡ false → list_all is_new more ≡ true)
    → list_all is_new (drop replayed (kept ++ more)) ≡ true
new-more replayed kept more one old new = by (nat_lt (length kept) replayed) refl
  where
    by : (b : Bool) → nat_lt (length kept) replayed ≡ b → list_all is_new (drop replayed (kept ++ more)) ≡ true
    by true is =
        ap (list_all is_new) (drop_all replayed (kept ++ more)
        (omega (arith, one, ltb-true (length kept) replayed is, length-append kept more)))
    by false is =
        ap (list_all is_new) (drop-append-le replayed kept more (ltb-false (length kept) replayed is))
        ∙ new-append (drop replayed kept) more old (new is)

-- what a commit enters is one, or none
one-kept : (edition : Edition) (command : Command) → length (kept_of edition command) ≤ 1
one-kept edition command = by (is_reader command)
  where
    by : (b : Bool) → length (cond b [] (commits.Local edition command ∷ [])) ≤ 1
    by true = omega arith
    by false = omega arith

-- what may be kept with more
may-append : (lists : Lists) (number : ℕ) (one more : List Commit) → list_all (may_be_kept lists number) one ≡ true
    → list_all (may_be_kept lists number) more ≡ true → list_all (may_be_kept lists number) (one ++ more) ≡ true
may-append lists number [] more one other = other
may-append lists number (commit ∷ commits) more one other =
    let parts = and_parts (may_be_kept lists number commit) (list_all (may_be_kept lists number) commits) one in
    ap₂ (λ a b. a && b) parts.0 (may-append lists number commits more parts.1 other)

named-here : (number : ℕ) → (number == number) ≡ true
named-here number = eq-eqb number number refl

-- an accepted command of one warehouse, and the part of one of several
may-local : (lists : Lists) (number : ℕ) (edition : Edition) (command : Command)
    → refusal_in (database_of lists) command ≡ None → warehouses_of command ≡ number ∷ []
    → list_all (may_be_kept lists number) (kept_of edition command) ≡ true
may-local lists number edition command known named = by (is_reader command) refl
  where
    by : (b : Bool) → is_reader command ≡ b
        → list_all (may_be_kept lists number) (cond b [] (commits.Local edition command ∷ [])) ≡ true
    by true is = refl
    by false is = rw (known, is, named, named-here number) refl

may-crossing : (layout : LayoutState) (edition : Edition) (number : ℕ) (command : Command) → HasPart layout command
    → list_all (may_be_kept layout.load layout.warehouse) (commits.Cross edition number command ∷ []) ≡ true
may-crossing layout edition number command has =
    rw (has.accepted, has.numbered, has.named, has.crossing) refl

module _ (world : Lists) (kit : Origin) (list : KeptState Commit) (desk : DeskState) (p : PartitionState)
    (tied : IsTied world kit list desk p) where
  -- a job begins, goes on, or is refused
  pub tied-same : (room : ℕ) (running : Option RunningJob) (undo : UndoLog) (finished : Option DoneState) (space : SpaceState)
      → IsTied world kit (record list { room = room }) desk
      (record p { running = running; undo = undo; finished = finished; space = space })
  tied-same room running undo finished space = record {
    load_is = tied.load_is;
    list_of = tied.list_of;
    desk_of = tied.desk_of;
    tickets = tied.tickets;
    replayed_is = tied.replayed_is;
    new = tied.new;
    known = tied.known;
    book = tied.book;
  }

  -- the part of a command over several warehouses was done or undone
  pub tied-parted : (room : ℕ) (running : Option RunningJob) (part : Option PartState) (undo : UndoLog) (space : SpaceState)
      → IsTied world kit (record list { room = room }) desk
      (record p { running = running; part = part; undo = undo; space = space })
  tied-parted room running part undo space = record {
    load_is = tied.load_is;
    list_of = tied.list_of;
    desk_of = tied.desk_of;
    tickets = tied.tickets;
    replayed_is = tied.replayed_is;
    new = tied.new;
    known = tied.known;
    book = tied.book;
  }

  -- and was kept
  pub tied-part_kept : (n room : ℕ) (executor : ExecutorState) (list' : KeptState Commit) (part : PartState)
      (crossing : ℕ) (kept : List Commit) (book : BookState) (undo : UndoLog) → IsSound n room executor p
      → p.part ≡ Some part → list'.warehouse ≡ list.warehouse
      → kept ≡ p.kept ++ commits.Cross part.edition crossing part.command ∷ []
      → book ≡ with_part_entered p.warehouse p.book part.command
      → IsTied world kit list' desk (record p { seen = list'.seen; kept = kept; book = book; part = None; undo = undo })
  tied-part_kept n room executor list' part crossing kept book undo sound is same longer more =
      let held = holds n room executor p sound part (part_idle n room executor p sound part is) is in
      let commit = commits.Cross part.edition crossing part.command in
      record {
        load_is = tied.load_is;
        list_of = same ∙ tied.list_of;
        desk_of = tied.desk_of;
        tickets = tied.tickets;
        replayed_is = tied.replayed_is;
        new = subst (λ commits. list_all is_new (drop p.replayed commits) ≡ true) (sym longer)
            (new-more p.replayed p.kept (commit ∷ []) (omega arith) tied.new
            (λ live. new-crossing part.edition crossing part.command (subst (λ b. may_run b part.edition ≡ true) live held.edition)));
        known = subst (λ commits. list_all (may_be_kept p.load p.warehouse) commits ≡ true) (sym longer)
            (may-append p.load p.warehouse p.kept (commit ∷ []) tied.known
            (may-crossing (layout_of p) part.edition crossing part.command held.has_part));
        book = subst (λ commits. IsBookOf p.load p.warehouse commits book) (sym longer)
            (subst (λ b. IsBookOf p.load p.warehouse (p.kept ++ commits.Cross part.edition crossing part.command ∷ []) b)
            (sym more)
            (booked-part p.load p.warehouse p.kept p.book part.edition part.command crossing
            (sound_now n room executor p sound) held.has_part.accepted (several-writes part.command held.has_part.crossing) tied.book));
      }

  -- a command was accepted
  pub tied-accepted : (n room : ℕ) (executor : ExecutorState) (list' : KeptState Commit) (job : RunningJob) (kept : List Commit)
      (book : BookState) (undo : UndoLog) (finished : Option DoneState) (space : SpaceState) → IsSound n room executor p
      → refusal_now p job.command ≡ None → list'.warehouse ≡ list.warehouse → kept ≡ p.kept ++ kept_of job.edition job.command
      → book ≡ with_command p.book job.command → may_run (replays p) job.edition ≡ true
      → IsTied world kit list' desk (record p {
        seen = list'.seen;
        kept = kept;
        book = book;
        running = None;
        undo = undo;
        finished = finished;
        space = space;
      })
  tied-accepted n room executor list' job kept book undo finished space sound accepted same longer more may = record {
    load_is = tied.load_is;
    list_of = same ∙ tied.list_of;
    desk_of = tied.desk_of;
    tickets = tied.tickets;
    replayed_is = tied.replayed_is;
    new = subst (λ commits. list_all is_new (drop p.replayed commits) ≡ true) (sym longer)
        (new-more p.replayed p.kept (kept_of job.edition job.command) (one-kept job.edition job.command) tied.new
        (λ live. new-kept job.edition job.command (subst (λ b. may_run b job.edition ≡ true) live may)));
    known = subst (λ commits. list_all (may_be_kept p.load p.warehouse) commits ≡ true) (sym longer)
        (may-append p.load p.warehouse p.kept (kept_of job.edition job.command) tied.known
        (may-local p.load p.warehouse job.edition job.command
        (known-local p.load p.warehouse p.kept job.command sound.warehouse accepted)
        (named-accepted p.load.items p.warehouse job.command (rows_now p) accepted)));
    book = subst (λ commits. IsBookOf p.load p.warehouse commits book) (sym longer)
        (subst (λ b. IsBookOf p.load p.warehouse (p.kept ++ kept_of job.edition job.command) b) (sym more)
        (booked p.load p.warehouse p.kept p.book job.edition job.command (sound_now n room executor p sound) accepted tied.book));
  }

  -- a child that no snapshot has is no ticket's number
  pub free_number : (child : ℕ) → commits_of p child ≡ None → is_out desk.out child ≡ false
  free_number child none = not-out (is_out desk.out child) (λ out. none-some none (tied.tickets child out))

  -- a snapshot was opened, and the partition told of more that isn't its warehouse's
  pub tied-opened : (list' : KeptState Commit) (kept : List Commit) (space : SpaceState) (snapshots : List (Option ℕ))
      (child count : ℕ) → list'.warehouse ≡ list.warehouse → kept ≡ p.kept
      → slice_index_or snapshots child None ≡ Some count
      → ((other : ℕ) → other ≢ child → slice_index_or snapshots other None ≡ commits_of p other)
      → IsTied world kit list' (record desk { out = child ∷ desk.out })
      (record p { seen = list'.seen; kept = kept; space = space; snapshots = snapshots })
  tied-opened list' kept space snapshots child count same still here others = record {
    load_is = tied.load_is;
    list_of = same ∙ tied.list_of;
    desk_of = tied.desk_of;
    tickets = λ other out. elim (cases_eq other child) [
      | inl is ↦ subst (λ c. IsSome (slice_index_or snapshots c None)) (sym is) (ap is_some here)
      | inr apart ↦ ap is_some (others other apart)
          ∙ tied.tickets other (out-more desk.out child other out (λ is. apart (sym is)))
    ];
    replayed_is = tied.replayed_is;
    new = subst (λ commits. list_all is_new (drop p.replayed commits) ≡ true) (sym still) tied.new;
    known = subst (λ commits. list_all (may_be_kept p.load p.warehouse) commits ≡ true) (sym still) tied.known;
    book = subst (λ commits. IsBookOf p.load p.warehouse commits p.book) (sym still) tied.book;
  }

  -- one was closed
  pub tied-closed : (space : SpaceState) (snapshots : List (Option ℕ)) (child : ℕ)
      → ((other : ℕ) → other ≢ child → slice_index_or snapshots other None ≡ commits_of p other)
      → IsTied world kit list (record desk { out = without desk.out child })
      (record p { space = space; snapshots = snapshots })
  tied-closed space snapshots child others = record {
    load_is = tied.load_is;
    list_of = tied.list_of;
    desk_of = tied.desk_of;
    tickets = λ other out.
        let was = out-less desk.out child other out in ap is_some (others other was.0) ∙ tied.tickets other was.1;
    replayed_is = tied.replayed_is;
    new = tied.new;
    known = tied.known;
    book = tied.book;
  }

  -- a fork was refused
  pub tied-unforked : (space : SpaceState) (snapshots : List (Option ℕ)) → snapshots ≡ p.snapshots
      → IsTied world kit list desk (record p { space = space; snapshots = snapshots })
  tied-unforked space snapshots same = record {
    load_is = tied.load_is;
    list_of = tied.list_of;
    desk_of = tied.desk_of;
    tickets = λ other out. ap (λ all. is_some (slice_index_or all other None)) same ∙ tied.tickets other out;
    replayed_is = tied.replayed_is;
    new = tied.new;
    known = tied.known;
    book = tied.book;
  }
