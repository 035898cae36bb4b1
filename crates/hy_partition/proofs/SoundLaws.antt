-- A partition stays sound: as a job begins, ends or is refused, and as a snapshot is opened or closed.
use Rattle.std.proofs.Common.{◌≡◌, ℕ, zero, suc, ◌+◌, ◌<◌, ◌≤◌, true, false, cond, inl, inr, List, [], ◌∷◌, ◌++◌, length, map, take, Option, Some, None, refl, sym, ap, ◌∙◌, subst, arith, length-append}
use Rattle.std.specs.Prelude.{◌≢◌, IsNone, IsSome, IsSomeAnd, MatchOption, slice_index_or, slice_set}
use Rattle.std.specs.Option.{option_map, ForSome}
use Rattle.std.proofs.lemmas.List.{append-nil, get_or_past}
use Rattle.std.proofs.Math.Seq.{take-length}
use Rattle.std.proofs.lemmas.Bool.{cases_eq, cases_lt}
use Rattle.hy_rows.specs.Ranges.{IsBetween}
use Rattle.hy_rows.specs.Spelling.{Spells}
use Rattle.hy_rows.specs.Tables.{Tables}
use Rattle.hy_schema.specs.Loads.{IsLoad}
use Rattle.hy_commands.specs.declared.command.Command.{Command}
use Rattle.hy_commands.specs.declared.command.Commit.{Commit}
use Rattle.hy_commands.specs.declared.command.Commit.TheVariants as commits
use Rattle.hy_commands.specs.declared.edition.Edition.{Edition}
use Rattle.hy_commands.specs.Commands.{is_reader, kept_of, slice_count}
use Rattle.hy_commands.specs.Growth.{HasGrownBy}
use Rattle.hy_commands.specs.Invariant.{IsSoundWarehouse}
use Rattle.hy_commands.specs.Transactions.{begin_refusal_of}
use Rattle.hy_slices.specs.Slices.{has_items_before}
use Rattle.hy_slices.proofs.SliceLaws.{first_slice, slices-act, slices-not_refused}
use Rattle.hy_space.specs.Space.{SpaceState, SameForChildren, SameForOthers, SameForOwner, IsLeastFree, child_bytes, child_table, owner_bytes, table_bytes}
use Rattle.hy_undo.specs.UndoLog.{UndoLog, undone, empty_log}
use Rattle.hy_undo.specs.PrivatePages.{IsUndoLog}
use Rattle.hy_undo.proofs.RollBackLaws.{undone-empty_log}
use Rattle.hy_layout.specs.Layout.{LayoutState, own_rows}
use Rattle.hy_tpcc.specs.Stored.{HasStore, stored}
use Rattle.hy_tpcc.specs.Limits.{most_applied}
use Rattle.hy_tpcc.specs.Waiting.{IsSoundStore}
use Rattle.hy_tpcc.specs.Executor.{ExecutorState, IsUnderWay, StaysInBounds}
use Rattle.hy_tpcc.specs.Parts.{DoesPart, HasPart}
use Rattle.hy_partition.specs.Headline.{SpellsBeginning}
use Rattle.hy_ledger.specs.Books.{BookState}
use Rattle.hy_partition.specs.Jobs.{DoneState, Log, RunningJob, with_slice_done}
use Rattle.hy_partition.specs.Limits.{most_kept}
use Rattle.hy_partition.specs.Partition.{PartState, PartitionState, commits_of, layout_of, may_run, replays, outcome_now, refusal_now, rows_after, rows_now}
use Rattle.hy_partition.specs.Parts.{rows_with_part}
use Rattle.hy_partition.specs.inside.Soundness.{HoldsPart, IsIdle, IsSound, IsStoreOf, Rests, Runs}
use Rattle.hy_partition.proofs.ReplayLaws.{bounds-rows, grown-now, places-rows, replay-crossed, replay-kept_of, sound-rows, stays_in_bounds}
use Rattle.hy_partition.proofs.SpellLaws.{spells-kept_more}

-- where the log is empty, undoing changes nothing
pub undone-none : (space : SpaceState) (undo : UndoLog) → undo ≡ empty_log space
    → undone (owner_bytes space) undo ≡ owner_bytes space
undone-none space undo none = ap (undone (owner_bytes space)) none ∙ undone-empty_log space

-- an empty log is so still where the owner's table stays
empty_log-still : (old new : SpaceState) (undo : UndoLog) → new.owner ≡ old.owner → undo ≡ empty_log old
    → undo ≡ empty_log new
empty_log-still old new undo table none =
    none ∙ ap (λ owner. record { counts = map length owner; images = [] }) (sym table)

-- what holds of a partition holds of it with the same layout
pub relaid : (P : PartitionState → Type 0) (p : PartitionState) (layout : LayoutState) → layout ≡ layout_of p → P p
    → P (record p { load = layout.load; warehouse = layout.warehouse })
relaid P p layout same holds =
    subst (λ (l : LayoutState). P (record p { load = l.load; warehouse = l.warehouse })) (sym same) holds

-- the bytes of a store spell its rows
pub spells-store : {n : ℕ} {tables : Tables} {bytes : List (List (List ℕ))} → IsStoreOf n tables bytes
    → Spells n bytes tables
spells-store store = record { whole = store.store.tables; rows = store.rows }

-- a command gives room to itself only where it doesn't only read
kept-within : (edition : Edition) (command : Command) (kept : List Commit) (most : ℕ) → length kept ≤ most
    → (is_reader command ≡ false → length kept < most) → length (kept ++ kept_of edition command) ≤ most
kept-within edition command kept most within below =
    elim (is_reader command) as (λ b. is_reader command ≡ b
    → length (kept ++ cond b [] (commits.Local edition command ∷ [])) ≤ most) [
      | true ↦ λ reads. omega (arith, within, ap length (append-nil kept))
      | false ↦ λ writes. omega (arith, below writes, length-append kept (commits.Local edition command ∷ []))
    ] refl

module _ (n room : ℕ) (executor : ExecutorState) (p : PartitionState) (sound : IsSound n room executor p) where
  idles : p.running ≡ None → IsIdle n room p
  idles idle =
      subst (λ (running : Option RunningJob). MatchOption running (IsIdle n room p) (Runs n room executor p)) idle sound.job

  pub rests : p.running ≡ None → p.part ≡ None → Rests n p
  rests idle no_part =
      subst (λ (part : Option PartState). MatchOption part (Rests n p) (HoldsPart n room p)) no_part (idles idle)

  pub holds : (part : PartState) → p.running ≡ None → p.part ≡ Some part → HoldsPart n room p part
  holds part idle is =
      subst (λ (part : Option PartState). MatchOption part (Rests n p) (HoldsPart n room p)) is (idles idle)

  pub runs : (job : RunningJob) → p.running ≡ Some job → Runs n room executor p job
  runs job running =
      subst (λ (running : Option RunningJob). MatchOption running (IsIdle n room p) (Runs n room executor p)) running sound.job

  -- a part is done only where nothing runs
  pub part_idle : (part : PartState) → p.part ≡ Some part → p.running ≡ None
  part_idle part is = at p.running sound.job
    where
      none-some : p.part ≡ None → ⊥
      none-some none = let both : None ≡ Some part = sym none ∙ is in absurd (cc)

      at : (running : Option RunningJob) → MatchOption running (IsIdle n room p) (Runs n room executor p)
          → running ≡ None
      at None was = refl
      at (Some job) was = absurd (none-some was.no_part)

  pub few_slices : ForSome p.running (λ job. job.slices < slice_count job.command)
  few_slices job running = (runs job running).slices

  few : length p.kept < most_applied
  few = omega (arith, sound.within, sound.limit)

  -- the rows are those of one warehouse, and meet the consistency conditions
  pub sound_now : IsSoundWarehouse p.load.items p.warehouse (rows_now p)
  sound_now = sound-rows p.load p.warehouse p.kept sound.load sound.warehouse

  -- where nothing runs, the store is sound
  pub store_now : p.running ≡ None → p.part ≡ None → IsSoundStore executor.layout (stored n (owner_bytes p.space))
  store_now idle no_part =
      let pages = (rests idle no_part).pages in
      subst (λ (layout : LayoutState). IsSoundStore layout (stored n (owner_bytes p.space))) (sym sound.layout) (record {
        sound = subst (λ (tables : Tables). IsSoundWarehouse p.load.items p.warehouse tables) (sym pages.rows) sound_now;
        places = rw pages.rows (places-rows p.load p.warehouse p.kept sound.load sound.warehouse);
        bounds = rw pages.rows (bounds-rows p.load p.warehouse p.kept sound.load sound.warehouse few);
        indexes = pages.indexes;
      })

  -- and its rows have room for one commit more
  pub grown_for_part : p.running ≡ None → p.part ≡ None
      → HasGrownBy 100_000_000 (stored n (owner_bytes p.space)).tables
  grown_for_part idle no_part =
      rw (rests idle no_part).pages.rows (grown-now p.load p.warehouse p.kept sound.load sound.warehouse few)

  -- nothing runs, and nothing begins
  pub sound-idle : (room' : ℕ) (executor' : ExecutorState) → p.running ≡ None → p.part ≡ None
      → executor'.layout ≡ executor.layout → IsSound n room' executor' p
  sound-idle room' executor' idle no_part layout = record {
    snapshots = sound.snapshots;
    live = sound.live;
    undo_log = sound.undo_log;
    load = sound.load;
    warehouse = sound.warehouse;
    layout = layout ∙ sound.layout;
    within = sound.within;
    limit = sound.limit;
    job = subst (λ (job : Option RunningJob). MatchOption job (IsIdle n room' p) (Runs n room' executor' p)) (sym idle)
        (subst (λ (part : Option PartState). MatchOption part (Rests n p) (HoldsPart n room' p)) (sym no_part)
        (rests idle no_part));
  }

  -- a job begins
  pub sound-begun : (room' : ℕ) (executor' : ExecutorState) (job : RunningJob)
      → p.running ≡ None → p.part ≡ None → p.finished ≡ None → job.slices ≡ 0 → executor'.layout ≡ executor.layout
      → begin_refusal_of executor.layout.warehouse job.command (stored n (owner_bytes p.space)).tables ≡ None
      → (StaysInBounds executor.layout job.edition job.command (stored n (owner_bytes p.space)).tables
      → IsUnderWay executor' job.edition job.command 0 (stored n (owner_bytes p.space)).tables (stored n (owner_bytes p.space)))
      → (is_reader job.command ≡ false → (length p.kept ≢ p.max_kept) × (1 ≤ room')) → may_run (replays p) job.edition ≡ true
      → IsSound n room' executor' (record p { running = Some job })
  sound-begun room' executor' job idle no_part no_reply fresh layout begins under_way room_for may =
      let pages = (rests idle no_part).pages in
      let begins_now : begin_refusal_of p.warehouse job.command (rows_now p) ≡ None =
      rw (sound.layout, pages.rows) at begins in
      let bounds : StaysInBounds executor.layout job.edition job.command (stored n (owner_bytes p.space)).tables =
      rw (sound.layout, pages.rows)
      (stays_in_bounds p.load p.warehouse p.kept sound.load sound.warehouse job.edition job.command few begins_now) in
      let begun : Runs n room' executor' (record p { running = Some job }) job = record {
        no_part = no_part;
        edition = may;
        begins = begins_now;
        no_reply = no_reply;
        slices = omega (arith, fresh, first_slice job.command);
        store = pages.store;
        under_way =
            subst (λ (done : ℕ).
            IsUnderWay executor' job.edition job.command done (rows_now p) (stored n (owner_bytes p.space))) (sym fresh)
            (subst (λ (tables : Tables).
            IsUnderWay executor' job.edition job.command 0 tables (stored n (owner_bytes p.space))) pages.rows
            (under_way bounds));
        has_room = λ writes. (room_for writes).1;
        below_max = λ writes. omega (arith, sound.within, (room_for writes).0);
      } in
      record {
        snapshots = sound.snapshots;
        live = sound.live;
        undo_log = sound.undo_log;
        load = sound.load;
        warehouse = sound.warehouse;
        layout = layout ∙ sound.layout;
        within = sound.within;
        limit = sound.limit;
        job = begun;
      }

  -- snapshots come and go, and the owner's pages stay
  pub sound-snapshots : (space : SpaceState) (snapshots : List (Option ℕ)) → SameForOwner p.space space
      → IsUndoLog n space p.undo
      → ((child : ℕ) → SpellsBeginning n (record p { space = space; snapshots = snapshots }) child)
      → IsSound n room executor (record p { space = space; snapshots = snapshots })
  sound-snapshots space snapshots owner log spells = record {
    snapshots = spells;
    live = subst (λ (pages : List (List (List ℕ))). IsStoreOf n (rows_now p) (undone pages p.undo)) (sym owner.bytes) sound.live;
    undo_log = log;
    load = sound.load;
    warehouse = sound.warehouse;
    layout = sound.layout;
    within = sound.within;
    limit = sound.limit;
    job = moved p.running sound.job;
  }
    where
      after : PartitionState
      after = record p { space = space; snapshots = snapshots }

      idle : (part : Option PartState) → MatchOption part (Rests n p) (HoldsPart n room p)
          → MatchOption part (Rests n after) (HoldsPart n room after)
      idle None was = record {
        undo = empty_log-still p.space space p.undo owner.table was.undo;
        pages = subst (λ (pages : List (List (List ℕ))). IsStoreOf n (rows_now p) pages) (sym owner.bytes) was.pages;
      }
      idle (Some part) was = record {
        has_part = was.has_part;
        edition = was.edition;
        pages = subst (λ (pages : List (List (List ℕ))).
            IsStoreOf n (rows_with_part p part.edition part.command) pages) (sym owner.bytes) was.pages;
        has_room = was.has_room;
        below_max = was.below_max;
      }

      moved : (running : Option RunningJob) → MatchOption running (IsIdle n room p) (Runs n room executor p)
          → MatchOption running (IsIdle n room after) (Runs n room executor after)
      moved None was = idle p.part was
      moved (Some job) was = record {
        no_part = was.no_part;
        edition = was.edition;
        begins = was.begins;
        no_reply = was.no_reply;
        slices = was.slices;
        store = subst (λ (pages : List (List (List ℕ))). HasStore n pages) (sym owner.bytes) was.store;
        under_way = subst (λ (pages : List (List (List ℕ))).
            IsUnderWay executor job.edition job.command job.slices (rows_now p) (stored n pages)) (sym owner.bytes) was.under_way;
        has_room = was.has_room;
        below_max = was.below_max;
      }

  -- it was told of commits of others
  pub sound-told : (seen : Log) (kept : List Commit) → kept ≡ p.kept
      → IsSound n room executor (record p { seen = seen; kept = kept })
  sound-told seen kept same =
      subst (λ (commits : List Commit). IsSound n room executor (record p { seen = seen; kept = commits })) (sym same)
      (record {
        snapshots = sound.snapshots;
        live = sound.live;
        undo_log = sound.undo_log;
        load = sound.load;
        warehouse = sound.warehouse;
        layout = sound.layout;
        within = sound.within;
        limit = sound.limit;
        job = still p.running sound.job;
      })
    where
      after : PartitionState
      after = record p { seen = seen }

      idle : (part : Option PartState) → MatchOption part (Rests n p) (HoldsPart n room p)
          → MatchOption part (Rests n after) (HoldsPart n room after)
      idle None was = record { undo = was.undo; pages = was.pages }
      idle (Some part) was = record {
        has_part = was.has_part;
        edition = was.edition;
        pages = was.pages;
        has_room = was.has_room;
        below_max = was.below_max;
      }

      still : (running : Option RunningJob) → MatchOption running (IsIdle n room p) (Runs n room executor p)
          → MatchOption running (IsIdle n room after) (Runs n room executor after)
      still None was = idle p.part was
      still (Some job) was = record {
        no_part = was.no_part;
        edition = was.edition;
        begins = was.begins;
        no_reply = was.no_reply;
        slices = was.slices;
        store = was.store;
        under_way = was.under_way;
        has_room = was.has_room;
        below_max = was.below_max;
      }

  -- a snapshot is opened
  pub sound-forked : (space : SpaceState) (snapshots : List (Option ℕ)) (child : ℕ) → SameForOwner p.space space
      → SameForOthers p.space space child → IsUndoLog n space p.undo
      → child_bytes space child ≡ Some (undone (owner_bytes p.space) p.undo)
      → slice_index_or snapshots child None ≡ Some (length p.kept)
      → ((other : ℕ) → other ≢ child → slice_index_or snapshots other None ≡ commits_of p other)
      → IsSound n room executor (record p { space = space; snapshots = snapshots })
  sound-forked space snapshots child owner others log bytes commits others_commits =
      sound-snapshots space snapshots owner log each
    where
      after : PartitionState
      after = record p { space = space; snapshots = snapshots }

      whole : (length p.kept ≤ length p.kept)
          × Spells n (undone (owner_bytes p.space) p.undo) (rows_after p (take (length p.kept) p.kept))
      whole = (
        omega arith,
        subst (λ (kept : List Commit). Spells n (undone (owner_bytes p.space) p.undo) (rows_after p kept))
            (sym (take-length p.kept)) (spells-store sound.live),
      )

      here : SpellsBeginning n after child
      here =
          subst (λ (count : Option ℕ). MatchOption count (IsNone (child_bytes space child)) (λ commits.
          (commits ≤ length p.kept) × IsSomeAnd (child_bytes space child)
          (λ bytes. Spells n bytes (rows_after p (take commits p.kept))))) (sym commits)
          (subst (λ (seen : Option (List (List (List ℕ)))). (length p.kept ≤ length p.kept)
          × IsSomeAnd seen (λ bytes. Spells n bytes (rows_after p (take (length p.kept) p.kept)))) (sym bytes) whole)

      each : (other : ℕ) → SpellsBeginning n after other
      each other = elim (cases_eq other child) [
        | inl same ↦ subst (λ (c : ℕ). SpellsBeginning n after c) (sym same) here
        | inr apart ↦ spells-kept_more n p after refl [] (sym (append-nil p.kept)) other (others_commits other apart)
            (others.bytes other apart) (sound.snapshots other)
      ]

  -- a snapshot is closed
  pub sound-closed : (space : SpaceState) (snapshots : List (Option ℕ)) (child : ℕ) → SameForOwner p.space space
      → SameForOthers p.space space child → IsUndoLog n space p.undo → child_bytes space child ≡ None
      → slice_index_or snapshots child None ≡ None
      → ((other : ℕ) → other ≢ child → slice_index_or snapshots other None ≡ commits_of p other)
      → IsSound n room executor (record p { space = space; snapshots = snapshots })
  sound-closed space snapshots child owner others log bytes commits others_commits =
      sound-snapshots space snapshots owner log each
    where
      after : PartitionState
      after = record p { space = space; snapshots = snapshots }

      here : SpellsBeginning n after child
      here =
          subst (λ (count : Option ℕ). MatchOption count (IsNone (child_bytes space child)) (λ commits.
          (commits ≤ length p.kept) × IsSomeAnd (child_bytes space child)
          (λ bytes. Spells n bytes (rows_after p (take commits p.kept))))) (sym commits)
          (subst (λ (seen : Option (List (List (List ℕ)))). IsNone seen) (sym bytes) refl)

      each : (other : ℕ) → SpellsBeginning n after other
      each other = elim (cases_eq other child) [
        | inl same ↦ subst (λ (c : ℕ). SpellsBeginning n after c) (sym same) here
        | inr apart ↦ spells-kept_more n p after refl [] (sym (append-nil p.kept)) other (others_commits other apart)
            (others.bytes other apart) (sound.snapshots other)
      ]

  -- what was done was undone: nothing runs, and no part is done
  pub sound-undone : (room' : ℕ) (executor' : ExecutorState) (space : SpaceState) (undo : UndoLog)
      (finished : Option DoneState) → executor'.layout ≡ executor.layout → undo ≡ empty_log space → IsUndoLog n space undo
      → owner_bytes space ≡ undone (owner_bytes p.space) p.undo → SameForChildren p.space space
      → IsSound n room' executor'
      (record p { running = None; part = None; undo = undo; finished = finished; space = space })
  sound-undone room' executor' space undo finished layout none log bytes children =
      let after : PartitionState =
      record p { running = None; part = None; undo = undo; finished = finished; space = space } in
      let pages : IsStoreOf n (rows_now p) (owner_bytes space) =
      subst (λ (bytes : List (List (List ℕ))). IsStoreOf n (rows_now p) bytes) (sym bytes) sound.live in
      record {
        snapshots = λ child. spells-kept_more n p after refl [] (sym (append-nil p.kept)) child refl
            (children.bytes child) (sound.snapshots child);
        live = subst (λ (bytes : List (List (List ℕ))). IsStoreOf n (rows_now p) bytes) (sym (undone-none space undo none)) pages;
        undo_log = log;
        load = sound.load;
        warehouse = sound.warehouse;
        layout = layout ∙ sound.layout;
        within = sound.within;
        limit = sound.limit;
        job = record { undo = none; pages = pages };
      }

  -- a slice was refused, and the job undone
  pub sound-refused : (executor' : ExecutorState) (space : SpaceState) (undo : UndoLog) (finished : Option DoneState)
      (job : RunningJob) → p.running ≡ Some job → executor'.layout ≡ executor.layout → undo ≡ empty_log space
      → IsUndoLog n space undo → owner_bytes space ≡ undone (owner_bytes p.space) p.undo → SameForChildren p.space space
      → IsSound n room executor' (record p { running = None; undo = undo; finished = finished; space = space })
  sound-refused executor' space undo finished job running layout none log bytes children =
      subst (λ (part : Option PartState). IsSound n room executor'
      (record p { running = None; part = part; undo = undo; finished = finished; space = space }))
      (sym (runs job running).no_part)
      (sound-undone room executor' space undo finished layout none log bytes children)

  -- the next slice of the job that runs was done
  module _ (executor' : ExecutorState) (space : SpaceState) (job : RunningJob) (running : p.running ≡ Some job)
      (layout : executor'.layout ≡ executor.layout) (store : HasStore n (owner_bytes space))
      (under_way : (before : Tables)
      → IsUnderWay executor job.edition job.command job.slices before (stored n (owner_bytes p.space))
      → IsUnderWay executor' job.edition job.command (job.slices + 1) before (stored n (owner_bytes space)))
      (children : SameForChildren p.space space) where
    now_way : IsUnderWay executor' job.edition job.command (job.slices + 1) (rows_now p) (stored n (owner_bytes space))
    now_way = under_way (rows_now p) (runs job running).under_way

    -- another one follows
    pub sound-continued : (undo : UndoLog) (next : RunningJob) → next ≡ with_slice_done job
        → IsUndoLog n space undo → undone (owner_bytes space) undo ≡ undone (owner_bytes p.space) p.undo
        → job.slices + 1 < slice_count job.command
        → IsSound n room executor' (record p { running = Some next; undo = undo; space = space })
    sound-continued undo next next_is log bytes more =
        let was = runs job running in
        let after : PartitionState =
        record p { running = Some (with_slice_done job); undo = undo; space = space } in
        let begun : Runs n room executor' after (with_slice_done job) = record {
          no_part = was.no_part;
          edition = was.edition;
          begins = was.begins;
          no_reply = was.no_reply;
          slices = more;
          store = store;
          under_way = now_way;
          has_room = was.has_room;
          below_max = was.below_max;
        } in
        subst (λ (j : RunningJob). IsSound n room executor' (record p { running = Some j; undo = undo; space = space }))
        (sym next_is) (record {
          snapshots = λ child. spells-kept_more n p after refl [] (sym (append-nil p.kept)) child refl
              (children.bytes child) (sound.snapshots child);
          live = subst (λ (pages : List (List (List ℕ))). IsStoreOf n (rows_now p) pages) (sym bytes) sound.live;
          undo_log = log;
          load = sound.load;
          warehouse = sound.warehouse;
          layout = layout ∙ sound.layout;
          within = sound.within;
          limit = sound.limit;
          job = begun;
        })

    -- it was the last one
    module _ (last : job.slices + 1 ≡ slice_count job.command) where
      begins : begin_refusal_of p.warehouse job.command (rows_now p) ≡ None
      begins = (runs job running).begins

      known : has_items_before p.load.items job.command (slice_count job.command) ≡ true
      known = rw (last, layout, sound.layout) at now_way.slices.known

      pub accepted_now : refusal_now p job.command ≡ None
      accepted_now = slices-not_refused p.load.items p.warehouse job.command (rows_now p) begins known

      -- the rows are the command's
      rows_done : (stored n (owner_bytes space)).tables ≡ (outcome_now p job.edition job.command).tables
      rows_done =
          (rw (last, layout, sound.layout) at now_way.slices.rows)
          ∙ slices-act p.load.items p.warehouse job.edition job.command (rows_now p) begins known

      pub sound-accepted : (room' : ℕ) (undo : UndoLog) (seen : Log) (kept : List Commit) (book : BookState)
          (finished : Option DoneState)
          → undo ≡ empty_log space → IsUndoLog n space undo → kept ≡ p.kept ++ kept_of job.edition job.command
          → IsSound n room' executor' (record p {
            seen = seen;
            kept = kept;
            book = book;
            running = None;
            undo = undo;
            finished = finished;
            space = space;
          })
      sound-accepted room' undo seen kept book finished none log longer =
          let was = runs job running in
          let after : PartitionState = record p {
            seen = seen;
            kept = p.kept ++ kept_of job.edition job.command;
            book = book;
            running = None;
            undo = undo;
            finished = finished;
            space = space;
          } in
          let pages : IsStoreOf n (rows_now after) (owner_bytes space) = record {
            store = store;
            rows = rows_done
                ∙ sym (replay-kept_of p.load p.warehouse (own_rows (layout_of p)) p.kept job.edition job.command);
            indexes = now_way.slices.indexes;
          } in
          let sound_after : IsSound n room' executor' after = record {
            snapshots = λ child. spells-kept_more n p after refl (kept_of job.edition job.command) refl child refl
                (children.bytes child) (sound.snapshots child);
            live = subst (λ (bytes : List (List (List ℕ))). IsStoreOf n (rows_now after) bytes)
                (sym (undone-none space undo none)) pages;
            undo_log = log;
            load = sound.load;
            warehouse = sound.warehouse;
            layout = layout ∙ sound.layout;
            within = kept-within job.edition job.command p.kept p.max_kept sound.within was.below_max;
            limit = sound.limit;
            job = subst (λ (part : Option PartState). MatchOption part (Rests n after) (HoldsPart n room' after))
                (sym was.no_part) (record { undo = none; pages = pages });
          } in
          subst (λ (kept : List Commit). IsSound n room' executor' (record p {
            seen = seen;
            kept = kept;
            book = book;
            running = None;
            undo = undo;
            finished = finished;
            space = space;
          })) (sym longer) sound_after

  -- the part of a command over several warehouses was done, where nothing ran
  pub sound-parted : (room' : ℕ) (executor' : ExecutorState) (space : SpaceState) (undo : UndoLog) (part : PartState)
      → p.running ≡ None → p.part ≡ None → HasPart (layout_of p) part.command → executor'.layout ≡ executor.layout
      → HasStore n (owner_bytes space) → DoesPart executor.layout part.edition part.command (stored n (owner_bytes p.space))
      (stored n (owner_bytes space)) → IsUndoLog n space undo
      → undone (owner_bytes space) undo ≡ undone (owner_bytes p.space) p.undo → SameForChildren p.space space
      → 1 ≤ room' → length p.kept < p.max_kept → may_run (replays p) part.edition ≡ true
      → IsSound n room' executor' (record p { part = Some part; undo = undo; space = space })
  sound-parted room' executor' space undo part idle no_part has_part layout store does log bytes children some_room few may =
      let after : PartitionState = record p { part = Some part; undo = undo; space = space } in
      let rows : (stored n (owner_bytes space)).tables ≡ rows_with_part p part.edition part.command =
      rw (sound.layout, (rests idle no_part).pages.rows) at does.rows in
      let holding : HoldsPart n room' after part = record {
        has_part = has_part;
        edition = may;
        pages = record { store = store; rows = rows; indexes = does.indexes };
        has_room = some_room;
        below_max = few;
      } in
      record {
        snapshots = λ child. spells-kept_more n p after refl [] (sym (append-nil p.kept)) child refl
            (children.bytes child) (sound.snapshots child);
        live = subst (λ (pages : List (List (List ℕ))). IsStoreOf n (rows_now p) pages) (sym bytes) sound.live;
        undo_log = log;
        load = sound.load;
        warehouse = sound.warehouse;
        layout = layout ∙ sound.layout;
        within = sound.within;
        limit = sound.limit;
        job = subst (λ (job : Option RunningJob). MatchOption job (IsIdle n room' after) (Runs n room' executor' after))
            (sym idle) holding;
      }

  -- and is kept
  pub sound-part_kept : (room' : ℕ) (undo : UndoLog) (seen : Log) (kept : List Commit) (book : BookState)
      (part : PartState) (crossing : ℕ) → p.part ≡ Some part → undo ≡ empty_log p.space → IsUndoLog n p.space undo
      → kept ≡ p.kept ++ commits.Cross part.edition crossing part.command ∷ []
      → IsSound n room' executor (record p { seen = seen; kept = kept; book = book; part = None; undo = undo })
  sound-part_kept room' undo seen kept book part crossing is none log longer =
      let idle : p.running ≡ None = part_idle part is in
      let was = holds part idle is in
      let after : PartitionState = record p {
        seen = seen;
        kept = p.kept ++ commits.Cross part.edition crossing part.command ∷ [];
        book = book;
        part = None;
        undo = undo;
      } in
      let rows : rows_with_part p part.edition part.command ≡ rows_now after =
      sym (replay-crossed p.load p.warehouse (own_rows (layout_of p)) p.kept crossing part.edition part.command
      was.has_part.accepted) in
      let pages : IsStoreOf n (rows_now after) (owner_bytes p.space) =
      subst (λ (tables : Tables). IsStoreOf n tables (owner_bytes p.space)) rows was.pages in
      let sound_after : IsSound n room' executor after = record {
        snapshots = λ child. spells-kept_more n p after refl (commits.Cross part.edition crossing part.command ∷ [])
            refl child refl refl (sound.snapshots child);
        live = subst (λ (bytes : List (List (List ℕ))). IsStoreOf n (rows_now after) bytes)
            (sym (undone-none p.space undo none)) pages;
        undo_log = log;
        load = sound.load;
        warehouse = sound.warehouse;
        layout = sound.layout;
        within =
            omega (arith, was.below_max, length-append p.kept (commits.Cross part.edition crossing part.command ∷ []));
        limit = sound.limit;
        job = subst (λ (job : Option RunningJob). MatchOption job (IsIdle n room' after) (Runs n room' executor after))
            (sym idle) (record { undo = none; pages = pages });
      } in
      subst (λ (kept : List Commit). IsSound n room' executor
      (record p { seen = seen; kept = kept; book = book; part = None; undo = undo })) (sym longer) sound_after

  -- no snapshot has a child that isn't open
  pub snapshot_fresh : (child : ℕ) → child_table p.space child ≡ None → commits_of p child ≡ None
  snapshot_fresh child closed = at (commits_of p child) (sound.snapshots child)
    where
      at : (count : Option ℕ) → MatchOption count (IsNone (child_bytes p.space child)) (λ commits.
          (commits ≤ length p.kept) × IsSomeAnd (child_bytes p.space child)
          (λ bytes. Spells n bytes (rows_after p (take commits p.kept)))) → count ≡ None
      at None none = refl
      at (Some commits) spells =
          let never : ⊥ = subst (λ (seen : Option (List (List (List ℕ)))).
          IsSomeAnd seen (λ bytes. Spells n bytes (rows_after p (take commits p.kept))))
          (ap (option_map (table_bytes p.space.frames)) closed) spells.1 in
          absurd never

  -- the child of an open snapshot is open
  pub child_open : (child count : ℕ) → commits_of p child ≡ Some count → IsSome (child_table p.space child)
  child_open child count is = at (child_table p.space child) (subst (λ (commits : Option ℕ). MatchOption commits
      (IsNone (child_bytes p.space child)) (λ commits. (commits ≤ length p.kept) × IsSomeAnd (child_bytes p.space child)
      (λ bytes. Spells n bytes (rows_after p (take commits p.kept))))) is (sound.snapshots child)).1
    where
      at : (table : Option (List (List ℕ))) → IsSomeAnd (option_map (table_bytes p.space.frames) table)
          (λ bytes. Spells n bytes (rows_after p (take count p.kept))) → IsSome table
      at None spells = absurd spells
      at (Some table) spells = refl

  -- the least free child is one of the places of snapshots, or the next
  pub least_within : (child : ℕ) → IsLeastFree p.space child → child ≤ length p.snapshots
  least_within child free = elim (cases_lt (length p.snapshots) child) [
    | inl below ↦
        let last = length p.snapshots in
        let none : IsNone (child_bytes p.space last) =
        subst (λ (count : Option ℕ). MatchOption count (IsNone (child_bytes p.space last)) (λ commits.
        (commits ≤ length p.kept) × IsSomeAnd (child_bytes p.space last)
        (λ bytes. Spells n bytes (rows_after p (take commits p.kept)))))
        (get_or_past p.snapshots last None (omega arith)) (sound.snapshots last) in
        absurd (not_both (child_table p.space last) (free.least last below) none)
    | inr past ↦ past
  ]
    where
      not_both : (table : Option (List (List ℕ))) → IsSome table
          → IsNone (option_map (table_bytes p.space.frames) table) → ⊥
      not_both None open_child none = absurd (cc)
      not_both (Some table) open_child none = absurd (cc)

-- a place that was emptied is empty
pub emptied : (items : List (Option ℕ)) (place : ℕ) → slice_index_or (slice_set items place None) place None ≡ None
emptied [] zero = refl
emptied [] (suc place) = refl
emptied (item ∷ items) zero = refl
emptied (item ∷ items) (suc place) = emptied items place

-- a partition begins sound
pub sound-new : (n room : ℕ) (executor : ExecutorState) (p : PartitionState) → p.kept ≡ [] → p.running ≡ None
    → p.part ≡ None
    → p.undo ≡ empty_log p.space → IsUndoLog n p.space p.undo → p.snapshots ≡ [] → p.space.children ≡ []
    → p.max_kept ≤ most_kept → IsLoad p.load → IsBetween 1 (length p.load.tables.warehouses) p.warehouse
    → executor.layout ≡ layout_of p → IsStoreOf n (own_rows (layout_of p)) (owner_bytes p.space)
    → IsSound n room executor p
sound-new n room executor p kept running no_part none log snapshots children limit load between layout store =
    let pages : IsStoreOf n (rows_now p) (owner_bytes p.space) =
    subst (λ (commits : List Commit). IsStoreOf n (rows_after p commits) (owner_bytes p.space)) (sym kept) store in
    record {
      snapshots = λ child.
          subst (λ (all : List (Option ℕ)). MatchOption (slice_index_or all child None)
          (IsNone (child_bytes p.space child)) (λ commits. (commits ≤ length p.kept)
          × IsSomeAnd (child_bytes p.space child) (λ bytes. Spells n bytes (rows_after p (take commits p.kept)))))
          (sym snapshots)
          (subst (λ (all : List (Option (List (List ℕ)))).
          IsNone (option_map (table_bytes p.space.frames) (slice_index_or all child None))) (sym children) refl);
      live = subst (λ (bytes : List (List (List ℕ))). IsStoreOf n (rows_now p) bytes)
          (sym (undone-none p.space p.undo none)) pages;
      undo_log = log;
      load = load;
      warehouse = between;
      layout = layout;
      within = omega (arith, ap length kept);
      limit = limit;
      job = subst (λ (job : Option RunningJob). MatchOption job (IsIdle n room p) (Runs n room executor p)) (sym running)
          (subst (λ (part : Option PartState). MatchOption part (Rests n p) (HoldsPart n room p)) (sym no_part)
          (record { undo = none; pages = pages }));
    }
