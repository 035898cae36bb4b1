-- A fork: the snapshot that it gives, and what is left where it was refused after its child was opened.
use Rattle.std.proofs.Common.{◌≡◌, ◌≢◌, ◌==◌, ℕ, ◌+◌, ◌≤◌, true, inl, inr, List, [], map, filter, length, length-take, Option, Some, None, refl, sym, ap, ◌∙◌, subst, arith}
use Rattle.std.specs.Prelude.{IsSome, slice_index_or}
use Rattle.std.specs.Option.{option_map}
use Rattle.std.proofs.lemmas.Bool.{and_parts, cases_eq, cases_lt, eqb-true}
use Rattle.std.proofs.lemmas.List.{append-nil}
use Rattle.hy_frames.specs.FrameTable.{count_of, free_of, max_frames}
use Rattle.hy_rows.specs.Spelling.{HasTables, Spells, list_at}
use Rattle.hy_space.specs.Space.{IsSound as IsSoundSpace, SpaceState, SameForOthers, SameForOwner, KeepsOwn, IsLeastFree, IsUnchanged, AddsUsers, DropsUsers, child_bytes, child_table, child_times, owner_bytes, table_bytes}
use Rattle.hy_space.proofs.TableLaws.{same_bytes, same_child_bytes}
use Rattle.hy_undo.specs.UndoLog.{UndoLog, first_pages, undone}
use Rattle.hy_undo.specs.Touched.{touched}
use Rattle.hy_undo.specs.PrivatePages.{IsUndoLog}
use Rattle.hy_undo.specs.Fork.{IsAsBefore}
use Rattle.hy_undo.proofs.UndoneLaws.{length-segment-restored, segment-first_pages, segment-first_pages_past}
use Rattle.hy_undo.proofs.PrivatePageLaws.{length-segment-owner_bytes, IsUndoLog-kept, KeepsPages-unseen}
use Rattle.hy_tpcc.specs.Executor.{ExecutorState}
use mathlib.Core.List.{IsPrefix}
use Rattle.std.proofs.lemmas.List.{map-append}
use Rattle.std.proofs.lemmas.List.Elements.{filter-append}
use Rattle.hy_worlds.specs.Origins.{Origin, desk_of}
use Rattle.hy_passes.specs.declared.entry.Entry.{Entry}
use Rattle.hy_passes.specs.SerialList.{names}
use Rattle.hy_passes.proofs.Beginnings.{begins_shorter}
use Rattle.hy_commands.specs.declared.command.Commit.{Commit}
use Rattle.hy_commands.specs.Commands.{warehouses_of_commit}
use Rattle.hy_commands.specs.Replay.{rows_after as lists_after}
use Rattle.hy_partition.specs.Jobs.{Log}
use Rattle.hy_partition.specs.Partition.{PartitionState, commits_of, projection_of, rows_now}
use Rattle.hy_partition.specs.Snapshots.{IsTakenBehind, IsWhole, SnapshotState}
use Rattle.hy_partition.specs.inside.Soundness.{IsSound}
use Rattle.hy_partition.specs.Headline.{SpellsBeginning}
use Rattle.hy_partition.specs.Steps.{Forks, ForksFrom, KeepsOthers, StaysUnforked, is_from}
use Rattle.hy_partition.proofs.SoundLaws.{sound-forked, sound-snapshots, snapshot_fresh, spells-store}
use Rattle.hy_partition.proofs.SpellLaws.{spells-from, spells-kept_more}

-- what a beginning of a serial list has of a warehouse begins what the list has of it
projection-begins : (warehouse : ℕ) (known log : Log) → IsPrefix known log
    → IsPrefix (projection_of warehouse known) (projection_of warehouse log)
projection-begins warehouse known log begins = (
  projection_of warehouse begins.0,
  sym (ap (projection_of warehouse) (sym begins.1)
      ∙ ap (λ commits. filter (names warehouses_of_commit warehouse) commits)
      (map-append (λ (e : Entry Commit). e.commit) known begins.0)
      ∙ filter-append (names warehouses_of_commit warehouse) (map (λ (e : Entry Commit). e.commit) known)
      (map (λ (e : Entry Commit). e.commit) begins.0)),
)

-- nothing begins each list
pub begins_from_nothing : (log : Log) → IsPrefix [] log
begins_from_nothing log = (log, refl)

-- the same snapshot for a client who has seen another beginning of the serial list
pub forks-known : (n : ℕ) (kit : Origin) (log seen known : Log) (old new : PartitionState) (snapshot : SnapshotState)
    → IsPrefix known log → Forks n kit log seen old new snapshot → Forks n kit log known old new snapshot
forks-known n kit log seen known old new snapshot begins forks =
    let shorter = projection-begins old.warehouse known log begins in
    record {
      load = forks.load;
      warehouse = forks.warehouse;
      name = forks.name;
      desk = forks.desk;
      child = forks.child;
      fresh = forks.fresh;
      commits = forks.commits;
      kept = forks.kept;
      bytes = forks.bytes;
      spells = forks.spells;
      open_bytes = forks.open_bytes;
      open_commits = forks.open_commits;
      free = forks.free;
      max_frames = forks.max_frames;
      told = forks.told;
      client_told = begins;
      seen = forks.seen;
      all = forks.all;
      no_older = omega (arith, begins_shorter _ _ shorter, ap length forks.all, forks.commits);
      job = forks.job;
      others = forks.others;
    }

-- what holds of a space in which pages may be lent now
unchanged_bytes : (old new : SpaceState) → IsUnchanged old new → owner_bytes new ≡ owner_bytes old
unchanged_bytes old new same = ap (table_bytes new.frames) same.owner ∙ same_bytes old.frames new.frames old.owner (λ f more. same.pages f)

unchanged_child : (old new : SpaceState) → IsUnchanged old new → (child : ℕ) → child_table new child ≡ child_table old child
unchanged_child old new same child = ap (λ (all : List (Option (List (List ℕ)))). slice_index_or all child None) same.children

unchanged_child_bytes : (old new : SpaceState) → IsUnchanged old new → (child : ℕ) → child_bytes new child ≡ child_bytes old child
unchanged_child_bytes old new same child =
    ap (option_map (table_bytes new.frames)) (unchanged_child old new same child)
    ∙ same_child_bytes old.frames new.frames (child_table old child) (λ f more. same.pages f)

-- a fork that the undo log refused: all is as before
module _ (n room : ℕ) (executor : ExecutorState) (p : PartitionState) (sound : IsSound n room executor p)
    (same : SpaceState) (before : IsAsBefore p.space same) where
  pub sound-as_before : (snapshots : List (Option ℕ)) → snapshots ≡ p.snapshots
      → IsSound n room executor (record p { space = same; snapshots = snapshots })
  sound-as_before snapshots stay =
      let after : PartitionState = record p { space = same } in
      subst (λ (all : List (Option ℕ)). IsSound n room executor (record p { space = same; snapshots = all })) (sym stay)
      (sound-snapshots n room executor p sound same p.snapshots before.owner
      (IsUndoLog-kept n p.space same p.undo (KeepsPages-unseen p.space same before.owner.bytes before.kept) sound.undo_log)
      (λ other. spells-kept_more n p after refl [] (sym (append-nil p.kept)) other refl (before.bytes other)
      (sound.snapshots other)))

  pub stays-as_before : (snapshots : List (Option ℕ)) → snapshots ≡ p.snapshots
      → same.frames.max ≡ p.space.frames.max
      → StaysUnforked p (record p { space = same; snapshots = snapshots })
  stays-as_before snapshots stay limit = record {
    job = record {
      terms = refl;
      kept = refl;
      book = refl;
      running = refl;
      part = refl;
      undo = refl;
      finished = refl;
      owner = before.owner;
    };
    seen = refl;
    snapshots = λ other. ap (λ (all : List (Option ℕ)). slice_index_or all other None) stay;
    tables = before.tables;
    bytes = before.bytes;
    counts = before.counts;
    max_frames = limit;
  }

-- a refusal that left the pages, and no snapshot was opened
pub stays-same : (p : PartitionState) (space : SpaceState) (snapshots : List (Option ℕ)) → space ≡ p.space
    → snapshots ≡ p.snapshots → StaysUnforked p (record p { space = space; snapshots = snapshots })
stays-same p space snapshots same stay = record {
  job = record {
    terms = refl;
    kept = refl;
    book = refl;
    running = refl;
    part = refl;
    undo = refl;
    finished = refl;
    owner = record { table = ap (λ (s : SpaceState). s.owner) same; bytes = ap owner_bytes same };
  };
  seen = refl;
  snapshots = λ child. ap (λ (all : List (Option ℕ)). slice_index_or all child None) stay;
  tables = λ child. ap (λ (s : SpaceState). child_table s child) same;
  bytes = λ child. ap (λ (s : SpaceState). child_bytes s child) same;
  counts = λ f. ap (λ (s : SpaceState). count_of s.frames f) same;
  max_frames = ap (λ (s : SpaceState). s.frames.max) same;
}

-- no segment has more pages once the first ones are left of each, and images of pages are put back
few-undone : (pages : List (List (List ℕ))) (undo : UndoLog) (segment : ℕ) → length (list_at (undone pages undo) segment) ≤ length (list_at pages segment)
few-undone pages undo segment =
    let same : length (list_at (undone pages undo) segment) ≡ length (list_at (first_pages undo.counts pages) segment) =
    length-segment-restored (first_pages undo.counts pages) undo.images segment in
    elim (cases_lt segment (length undo.counts)) [
      | inl counted ↦
          omega (arith, same, ap length (segment-first_pages undo.counts pages segment counted), length-take (slice_index_or undo.counts segment 0) (list_at pages segment))
      | inr past ↦ omega (arith, same, ap length (segment-first_pages_past undo.counts pages segment past))
    ]

-- with pages of n bytes: the child was opened with the running transaction undone in it, and its pages may have got holds
module _ (n room : ℕ) (executor : ExecutorState) (p : PartitionState) (sound : IsSound n room executor p) (mid held : SpaceState) (child : ℕ)
    (least : IsLeastFree p.space child) (bytes : child_bytes mid child ≡ Some (undone (owner_bytes p.space) p.undo)) (others : SameForOthers p.space mid child) (owner : SameForOwner p.space mid)
    (log : IsUndoLog n mid p.undo) (lent : IsUnchanged mid held) (kept : KeepsOwn mid held) where
  held_owner : SameForOwner p.space held
  held_owner = record { table = lent.owner ∙ owner.table; bytes = unchanged_bytes mid held lent ∙ owner.bytes }

  held_others : SameForOthers p.space held child
  held_others = record {
    tables = λ other apart. unchanged_child mid held lent other ∙ others.tables other apart;
    bytes = λ other apart. unchanged_child_bytes mid held lent other ∙ others.bytes other apart;
  }

  held_log : IsUndoLog n held p.undo
  held_log = IsUndoLog-kept n mid held p.undo (KeepsPages-unseen mid held (unchanged_bytes mid held lent) kept) log

  held_bytes : child_bytes held child ≡ Some (undone (owner_bytes p.space) p.undo)
  held_bytes = unchanged_child_bytes mid held lent child ∙ bytes

  -- the pages of the child have the tables
  pub whole : (seen : List (List (List ℕ))) → child_bytes mid child ≡ Some seen → HasTables n seen
  whole seen is = subst (λ (pages : List (List (List ℕ))). HasTables n pages) (some_same (sym bytes ∙ is)) sound.live.store.tables
    where
      some_same : {one other : List (List (List ℕ))} → Some one ≡ Some other → one ≡ other
      some_same same = cc

  -- a snapshot stands at the child's place
  pub sound-opened : (snapshots : List (Option ℕ)) → slice_index_or snapshots child None ≡ Some (length p.kept)
      → ((other : ℕ) → other ≢ child → slice_index_or snapshots other None ≡ commits_of p other) → IsSound n room executor (record p { space = held; snapshots = snapshots })
  sound-opened snapshots commits others_commits =
      sound-forked n room executor p sound held snapshots child held_owner held_others held_log held_bytes commits others_commits

  -- what the snapshot that was taken has
  pub taken_behind : IsSoundSpace n p.space → (snapshot : SnapshotState) → snapshot.load ≡ p.load → snapshot.warehouse ≡ p.warehouse
      → snapshot.commits ≡ length p.kept → snapshot.kept ≡ p.kept → child_bytes mid child ≡ Some snapshot.bytes
      → IsTakenBehind n snapshot
  taken_behind space snapshot load warehouse count kept seen =
      let seen_is : snapshot.bytes ≡ undone (owner_bytes p.space) p.undo = some_pages (sym seen ∙ bytes) in
      let few : (segment : ℕ) → length (list_at snapshot.bytes segment) ≤ max_frames = λ segment.
      omega (
        arith,
        ap (λ (pages : List (List (List ℕ))). length (list_at pages segment)) seen_is,
        few-undone (owner_bytes p.space) p.undo segment,
        length-segment-owner_bytes p.space segment,
        space.page_counts segment,
        space.within,
        space.limit,
      ) in
      record {
        whole = record { size = space.size; few = few; tables = whole snapshot.bytes seen };
        commits = count ∙ sym (ap length kept);
        spells = subst (λ lists. Spells n snapshot.bytes (lists_after lists snapshot.warehouse snapshot.kept)) (sym load)
            (subst (λ number. Spells n snapshot.bytes (lists_after p.load number snapshot.kept)) (sym warehouse)
            (subst (λ commits. Spells n snapshot.bytes (lists_after p.load p.warehouse commits)) (sym kept)
            (subst (λ pages. Spells n pages (lists_after p.load p.warehouse p.kept)) (sym seen_is)
            (spells-store sound.live))));
      }
    where
      some_pages : {one other : List (List (List ℕ))} → Some one ≡ Some other → one ≡ other
      some_pages same = cc

  -- the snapshot that was taken, where the partition was told the serial list
  pub forks : (kit : Origin) (log known : Log) (snapshots : List (Option ℕ)) (snapshot : SnapshotState)
      → slice_index_or snapshots child None ≡ Some (length p.kept)
      → ((other : ℕ) → other ≢ child → slice_index_or snapshots other None ≡ commits_of p other)
      → free_of mid.frames + touched p.undo ≡ free_of p.space.frames → mid.frames.max ≡ p.space.frames.max
      → snapshot.load ≡ p.load → snapshot.warehouse ≡ p.warehouse → snapshot.name ≡ kit.name
      → snapshot.desk ≡ desk_of kit p.warehouse → snapshot.child ≡ child → snapshot.commits ≡ length p.kept
      → snapshot.kept ≡ p.kept → child_bytes mid child ≡ Some snapshot.bytes → IsPrefix p.seen log → IsPrefix known log
      → p.kept ≡ projection_of p.warehouse log
      → Forks n kit log known p (record p { seen = log; space = held; snapshots = snapshots }) snapshot
  forks kit log known snapshots snapshot commits others_commits free limit load warehouse name desk at count kept seen told
      client_told all =
      let seen_is : snapshot.bytes ≡ undone (owner_bytes p.space) p.undo = some_same (sym seen ∙ bytes) in
      let after : PartitionState = record p { seen = log; space = held; snapshots = snapshots } in
      let shorter = projection-begins p.warehouse known log client_told in
      record {
        load = load;
        warehouse = warehouse;
        name = name;
        desk = desk;
        child = subst (λ (c : ℕ). IsLeastFree p.space c) (sym at) least;
        fresh = ap (commits_of p) at ∙ snapshot_fresh n room executor p sound child least.closed;
        commits = count;
        kept = kept;
        bytes = seen_is;
        spells = subst (λ (pages : List (List (List ℕ))). Spells n pages (rows_now p)) (sym seen_is) (spells-store sound.live);
        open_bytes = ap (child_bytes held) at ∙ unchanged_child_bytes mid held lent child ∙ seen;
        open_commits = ap (commits_of after) at ∙ commits ∙ ap Some (sym count);
        free = omega (arith, free, lent.free);
        max_frames = lent.limit ∙ limit;
        told = told;
        client_told = client_told;
        seen = refl;
        all = all;
        no_older = omega (arith, begins_shorter _ _ shorter, ap length all, count);
        job = record {
          terms = refl;
          kept = refl;
          book = refl;
          running = refl;
          part = refl;
          undo = refl;
          finished = refl;
          owner = held_owner;
        };
        others = subst (λ (c : ℕ). KeepsOthers p after c) (sym at) (record { bytes = held_others; commits = others_commits });
      }
    where
      some_same : {one other : List (List (List ℕ))} → Some one ≡ Some other → one ≡ other
      some_same same = cc

  -- the child was closed again
  module _ (closed : SpaceState) (gone : child_table closed child ≡ None) (still : SameForOthers held closed child) (owner_still : SameForOwner held closed) (kept_still : KeepsOwn held closed) where
    closed_owner : SameForOwner p.space closed
    closed_owner = record { table = owner_still.table ∙ held_owner.table; bytes = owner_still.bytes ∙ held_owner.bytes }

    closed_table : (other : ℕ) → child_table closed other ≡ child_table p.space other
    closed_table other = elim (cases_eq other child) [
      | inl same ↦ ap (child_table closed) same ∙ gone ∙ sym least.closed ∙ ap (child_table p.space) (sym same)
      | inr apart ↦ still.tables other apart ∙ held_others.tables other apart
    ]

    closed_bytes : (other : ℕ) → child_bytes closed other ≡ child_bytes p.space other
    closed_bytes other = elim (cases_eq other child) [
      | inl same ↦
          ap (child_bytes closed) same ∙ ap (option_map (table_bytes closed.frames)) gone
          ∙ sym (ap (option_map (table_bytes p.space.frames)) least.closed) ∙ ap (child_bytes p.space) (sym same)
      | inr apart ↦ still.bytes other apart ∙ held_others.bytes other apart
    ]

    pub sound-unforked : (snapshots : List (Option ℕ)) → snapshots ≡ p.snapshots → IsSound n room executor (record p { space = closed; snapshots = snapshots })
    sound-unforked snapshots same =
        let after : PartitionState = record p { space = closed } in
        subst (λ (all : List (Option ℕ)). IsSound n room executor (record p { space = closed; snapshots = all })) (sym same)
        (sound-snapshots n room executor p sound closed p.snapshots closed_owner
        (IsUndoLog-kept n held closed p.undo (KeepsPages-unseen held closed owner_still.bytes kept_still) held_log)
        (λ other. spells-kept_more n p after refl [] (sym (append-nil p.kept)) other refl (closed_bytes other) (sound.snapshots other)))

    pub stays_unforked : (snapshots : List (Option ℕ)) → snapshots ≡ p.snapshots → ((f : ℕ) → count_of mid.frames f ≡ count_of p.space.frames f + child_times f (child_table mid child)) → mid.frames.max ≡ p.space.frames.max
        → DropsUsers held.frames closed.frames (λ f. child_times f (child_table held child)) → StaysUnforked p (record p { space = closed; snapshots = snapshots })
    stays_unforked snapshots same users limit drops = record {
      job = record {
        terms = refl;
        kept = refl;
        book = refl;
        running = refl;
        part = refl;
        undo = refl;
        finished = refl;
        owner = closed_owner;
      };
      seen = refl;
      snapshots = λ other. ap (λ (all : List (Option ℕ)). slice_index_or all other None) same;
      tables = closed_table;
      bytes = closed_bytes;
      counts = λ f. omega (arith, users f, lent.counts f, drops.counts f, ap (child_times f) (unchanged_child mid held lent child));
      max_frames = drops.limit ∙ lent.limit ∙ limit;
    }

-- a child was opened with the table of the child of another snapshot
module _ (n room : ℕ) (executor : ExecutorState) (p : PartitionState) (sound : IsSound n room executor p) (held : SpaceState)
    (child from : ℕ) (bytes : child_bytes held child ≡ child_bytes p.space from) (others : SameForOthers p.space held child)
    (owner : SameForOwner p.space held) (kept : KeepsOwn p.space held) (snapshots : List (Option ℕ))
    (commits : slice_index_or snapshots child None ≡ commits_of p from)
    (others_commits : (other : ℕ) → other ≢ child → slice_index_or snapshots other None ≡ commits_of p other) where
  abbrev again : PartitionState
  again = record p { space = held; snapshots = snapshots }

  pub sound-again : IsSound n room executor (record p { space = held; snapshots = snapshots })
  sound-again =
      sound-snapshots n room executor p sound held snapshots owner
      (IsUndoLog-kept n p.space held p.undo (KeepsPages-unseen p.space held owner.bytes kept) sound.undo_log) each
    where
      each : (other : ℕ) → SpellsBeginning n again other
      each other = elim (cases_eq other child) [
        | inl same ↦ subst (λ (c : ℕ). SpellsBeginning n again c) (sym same)
            (spells-from n p again refl [] (sym (append-nil p.kept)) child from commits bytes (sound.snapshots from))
        | inr apart ↦ spells-kept_more n p again refl [] (sym (append-nil p.kept)) other (others_commits other apart)
            (others.bytes other apart) (sound.snapshots other)
      ]

  -- the snapshot that was taken of what the other one sees
  pub forks-from : (kit : Origin) (other snapshot : SnapshotState) → is_from other p.warehouse kit ≡ true
      → other.child ≡ from → IsSome (commits_of p from) → IsLeastFree p.space child
      → child_table held child ≡ child_table p.space from
      → AddsUsers p.space.frames held.frames (λ f. child_times f (child_table p.space from))
      → snapshot.load ≡ other.load → snapshot.warehouse ≡ p.warehouse → snapshot.name ≡ kit.name
      → snapshot.desk ≡ desk_of kit p.warehouse → snapshot.child ≡ child → snapshot.commits ≡ other.commits
      → snapshot.kept ≡ other.kept → snapshot.bytes ≡ other.bytes
      → ForksFrom kit other p (record p { space = held; snapshots = snapshots }) snapshot
  forks-from kit other snapshot mine from_is was least table users load warehouse name desk at count kept seen =
      let after : PartitionState = record p { space = held; snapshots = snapshots } in
      record {
        mine = mine;
        load = load;
        warehouse = warehouse;
        name = name;
        desk = desk;
        child = subst (λ (c : ℕ). IsLeastFree p.space c) (sym at) least;
        fresh = ap (commits_of p) at ∙ snapshot_fresh n room executor p sound child least.closed;
        commits = count;
        kept = kept;
        bytes = seen;
        was_open = subst (λ (c : ℕ). IsSome (commits_of p c)) (sym from_is) was;
        open_table = ap (child_table held) at ∙ table ∙ ap (child_table p.space) (sym from_is);
        open_bytes = ap (child_bytes held) at ∙ bytes ∙ ap (child_bytes p.space) (sym from_is);
        open_commits = ap (commits_of after) at ∙ commits ∙ ap (commits_of p) (sym from_is);
        users = subst (λ (c : ℕ). AddsUsers p.space.frames held.frames (λ f. child_times f (child_table p.space c)))
            (sym from_is) users;
        seen = refl;
        job = record {
          terms = refl;
          kept = refl;
          book = refl;
          running = refl;
          part = refl;
          undo = refl;
          finished = refl;
          owner = owner;
        };
        others = subst (λ (c : ℕ). KeepsOthers p after c) (sym at) (record { bytes = others; commits = others_commits });
      }

-- a snapshot that has all that another one has, but for its ticket, is behind the same commits
pub taken-again : (n : ℕ) (other snapshot : SnapshotState) → IsTakenBehind n other → snapshot.load ≡ other.load
    → snapshot.warehouse ≡ other.warehouse → snapshot.commits ≡ other.commits → snapshot.kept ≡ other.kept
    → snapshot.bytes ≡ other.bytes → IsTakenBehind n snapshot
taken-again n other snapshot taken load warehouse count kept seen = record {
  whole = subst (λ pages. IsWhole n pages) (sym seen) taken.whole;
  commits = count ∙ taken.commits ∙ sym (ap length kept);
  spells = subst (λ lists. Spells n snapshot.bytes (lists_after lists snapshot.warehouse snapshot.kept)) (sym load)
      (subst (λ number. Spells n snapshot.bytes (lists_after other.load number snapshot.kept)) (sym warehouse)
      (subst (λ commits. Spells n snapshot.bytes (lists_after other.load other.warehouse commits)) (sym kept)
      (subst (λ pages. Spells n pages (lists_after other.load other.warehouse other.kept)) (sym seen) taken.spells)));
}

-- the partition says that a snapshot is one of its own: it is of the same warehouse
pub warehouse-from : (kit : Origin) (other : SnapshotState) (warehouse : ℕ) → is_from other warehouse kit ≡ true
    → other.warehouse ≡ warehouse
warehouse-from kit other warehouse mine =
    eqb-true other.warehouse warehouse (and_parts (other.warehouse == warehouse) (other.name == kit.name) mine).0
