-- Where no frame is left: on which pages a command lacked one, and for which commit of a list.
use Rattle.std.proofs.Common.{◌≡◌, ℕ, suc, Bool, true, false, List, [], ◌∷◌, ◌++◌, length, slice_get, Option, Some, None, inl, inr, refl, sym, ap, ◌∙◌, subst}
use Rattle.std.specs.Prelude.{nat_lt, IsNone, IsSome, MatchOption, slice_index_or}
use Rattle.std.specs.Option.{option_map}
use mathlib.Core.List.{IsPrefix}
use Rattle.std.proofs.lemmas.Bool.{false≢true}
use Rattle.hy_rows.specs.Spelling.{Spells}
use Rattle.hy_rows.specs.Tables.{Lists}
use Rattle.hy_schema.specs.declared.refusal.Refusal.{Refusal}
use Rattle.hy_frames.specs.FrameTable.{free_of}
use Rattle.hy_space.specs.Space.{CountsAreExact, SameForChildren, SpaceState, child_bytes, child_table, owner_bytes, table_bytes}
use Rattle.hy_undo.specs.UndoLog.{UndoLog, undone}
use Rattle.hy_undo.proofs.RollBackLaws.{undone-empty_log}
use Rattle.hy_passes.proofs.Beginnings.{begins_itself, begins_longer}
use Rattle.hy_commands.specs.declared.command.Command.{Command}
use Rattle.hy_commands.specs.inside.Kinds.{by_several}
use Rattle.hy_commands.specs.declared.command.Commit.{Commit}
use Rattle.hy_forks.specs.of_tpcc.Shortages.{adds_no_page}
use Rattle.hy_batches.specs.Grammar.{names_several}
use Rattle.hy_forks.specs.of_partition.Headline.{Headline}
use Rattle.hy_forks.specs.of_partition.Jobs.{JobState}
use Rattle.hy_forks.specs.of_partition.Partition.{PartitionState, Terms, commits_of, rows_now, terms_of}
use Rattle.hy_forks.specs.of_partition.Parts.{PartLacksFrame}
use Rattle.hy_forks.specs.of_partition.Steps.{LacksFrame, with_job}
use Rattle.hy_forks.specs.of_crossing.Crossings.{SomeLacksFrame}
use Rattle.hy_recovery.specs.Recovering.{HasNoFrameLeft}
use Rattle.hy_recovery.specs.inside.Ways.{HasNoFrame, HasNoFrameFor, IsAlone, IsShortage}

-- a shortage of which more is known
pub shortage-then : (Lacks More : Type 0) (why : Refusal) → (Lacks → More) → IsShortage Lacks why → IsShortage More why
shortage-then Lacks More why leads (inl frame) = inl (frame.0, leads frame.1)
shortage-then Lacks More why leads (inr memory) = inr memory

-- ---- the pages of a partition with no snapshot

none-of : {Row : Type 0} (found : Option Row) (Missing : Type 0) (There : Row → Type 0) → found ≡ None
    → MatchOption found Missing There → Missing
none-of None Missing There none is = is
none-of (Some row) Missing There none is = absurd (cc)

no-table : {Row Other : Type 0} (f : Row → Other) (found : Option Row) → IsNone (option_map f found) → found ≡ None
no-table f None none = refl
no-table f (Some row) none = absurd (false≢true (sym none))

not-some : {Row : Type 0} (found : Option Row) → found ≡ None → IsSome found → ⊥
not-some None none some = false≢true some
not-some (Some row) none some = absurd (cc)

module _ (n : ℕ) (p : PartitionState) (head : Headline n p) (alone : IsAlone p) where
  no-child : (child : ℕ) → child_table p.space child ≡ None
  no-child child =
      no-table (table_bytes p.space.frames) (child_table p.space child)
      (none-of (commits_of p child) (IsNone (child_bytes p.space child)) _ (alone child)
      (head.open_snapshots_spell_a_beginning child))

  module _ (space : SpaceState) (undo : UndoLog) (bytes : undone (owner_bytes space) undo ≡ undone (owner_bytes p.space) p.undo)
      (children : SameForChildren p.space space) where
    same-none : (child : ℕ) → child_table space child ≡ None
    same-none child =
        ap (λ (tables : List (Option (List (List ℕ)))). slice_index_or tables child None) children.tables ∙ no-child child

    no-frame : CountsAreExact space → space.frames.max ≡ p.space.frames.max → free_of space.frames ≡ 0 → HasNoFrame n p
    no-frame counts limit full = record {
      space = space;
      undo = undo;
      spelled = subst (λ pages. Spells n pages (rows_now p)) (sym bytes) head.live_pages_undone_spell_all;
      counts = counts;
      alone = same-none;
      limit = limit;
      full = full;
    }

  -- a slice of a command of one warehouse lacked a frame
  pub no-frame-for : (command : Command) (job : JobState) (done : ℕ) (ended : PartitionState)
      → LacksFrame command done (with_job p job) ended → HasNoFrameFor n command p
  no-frame-for command job done ended lacks = (
    no-frame lacks.space lacks.undo lacks.bytes lacks.children lacks.counts lacks.max_frames lacks.found.full,
    (done, adds (adds_no_page command done) refl),
  )
    where
      adds : (b : Bool) → adds_no_page command done ≡ b → adds_no_page command done ≡ false
      adds false is = is
      adds true is =
          let child = lacks.found.open_child is in
          absurd (not-some (child_table lacks.space child.0)
          (same-none lacks.space lacks.undo lacks.bytes lacks.children child.0) child.1)

  -- a part of one of several did
  pub part-no-frame : p.running ≡ None → p.part ≡ None → (new : SpaceState) → PartLacksFrame p.space new
      → HasNoFrame n p
  part-no-frame idle whole new lacks =
      let same : undone (owner_bytes p.space) p.undo ≡ owner_bytes p.space =
      ap (undone (owner_bytes p.space)) (head.nothing_to_undo_where_nothing_runs idle whole) ∙ undone-empty_log p.space in
      no-frame lacks.space lacks.undo (lacks.bytes ∙ sym same) lacks.children lacks.counts lacks.max_frames lacks.full

-- which of many lacked a frame
pub some-lacks : (olds news : List PartitionState) → SomeLacksFrame olds news
    → (place : ℕ) × (old : PartitionState) × (new : PartitionState) × (slice_get olds place ≡ Some old)
    × PartLacksFrame old.space new.space
some-lacks (old ∷ olds) (new ∷ news) (inl here) = (0, old, new, refl, here)
some-lacks (old ∷ olds) (new ∷ news) (inr later) =
    let found = some-lacks olds news later in (suc found.0, found.1, found.2, found.3, found.4)
some-lacks [] [] lacks = absurd lacks
some-lacks [] (new ∷ news) lacks = absurd lacks
some-lacks (old ∷ olds) [] lacks = absurd lacks

-- a command of several warehouses is none that adds no page
pub several-add : (command : Command) → names_several command ≡ true → (done : ℕ) × (adds_no_page command done ≡ false)
several-add =
    by_several (λ command. names_several command ≡ true → (done : ℕ) × (adds_no_page command done ≡ false))
    (λ order several. (0, refl)) (λ payment several. (0, refl))
    (λ command home several.
    absurd (false≢true (sym (ap (λ names. nat_lt 1 (length names)) home.warehouses) ∙ several)))

-- the same of a partition whose values are named
pub named-no-frame : (n : ℕ) (p : PartitionState) (lists : Lists) (frames number : ℕ) (kept : List Commit) (terms : Terms)
    → terms_of p ≡ terms → terms.load ≡ lists → terms.warehouse ≡ number → p.space.frames.max ≡ frames → p.kept ≡ kept
    → HasNoFrame n p → HasNoFrameLeft n lists frames number kept
named-no-frame n p lists frames number kept terms is load warehouse limit all full =
    subst (λ lists. HasNoFrameLeft n lists frames number kept) (ap (λ (t : Terms). t.load) is ∙ load)
    (subst (λ number. HasNoFrameLeft n p.load frames number kept) (ap (λ (t : Terms). t.warehouse) is ∙ warehouse)
    (subst (λ frames. HasNoFrameLeft n p.load frames p.warehouse kept) limit
    (subst (λ (kept : List Commit). HasNoFrameLeft n p.load p.space.frames.max p.warehouse kept) all full)))

-- ---- lists and what they begin with

pub begins-with : {Row : Type 0} (front more rows : List Row) → front ++ more ≡ rows → IsPrefix front rows
begins-with front more rows is = subst (IsPrefix front) is (begins_longer front front more (begins_itself front))

-- what the partition at a place has kept
pub kept_at : List PartitionState → ℕ → List Commit
kept_at parts place = kept_of (slice_get parts place)
  where
    kept_of : Option PartitionState → List Commit
    kept_of None = []
    kept_of (Some p) = p.kept

pub kept-there : (parts : List PartitionState) (place : ℕ) (p : PartitionState) → slice_get parts place ≡ Some p
    → kept_at parts place ≡ p.kept
unfolding kept_at
kept-there parts place p at = rw at refl
