-- What writes through the undo log leave to undo, how many frames they take, and when one is lacking.
use Rattle.std.proofs.Common.{◌≡◌, ◌⊎◌, inl, inr, ℕ, zero, suc, ◌+◌, ◌≤◌, true, List, [], ◌∷◌, Result, Ok, Err, Option, Some, None, cond, nat_lt, length, map, refl, ap, ◌∙◌, arith, OnOk, OnErr, length-set}
use Rattle.std.specs.Prelude.{option_to_list, slice_index_or, IsSome}
use Rattle.std.specs.List.{count_by, flat_map}
use Rattle.std.proofs.lemmas.List.{length_push}
use Rattle.std.proofs.lemmas.Bool.{cases_eq}
use Rattle.std.proofs.lemmas.Bool.Decides.{nat_tests}
use Rattle.hy_frames.specs.FrameTable.{count_of, free_of}
use Rattle.hy_space.specs.Space.{SpaceState, GrowsPage, HasPage, IsOwn, IsSound, LacksFrame, MakesPrivate, SameForChildren, child_bytes, frame_no, maps, owner_bytes, times, with_frame}
use Rattle.hy_space.proofs.TableLaws.{stands}
use Rattle.hy_undo.specs.UndoLog.{Image, UndoLog, undone, with_image, page_counts}
use Rattle.hy_undo.specs.PrivatePages.{IsUndoLog}
use Rattle.hy_undo.specs.Writes.{CanUndo, CanUndoGrowth, IsOutOfFrames, TakesFrames}

-- what holds whether a call answered Ok or Err
pub by_outcome : {T E P Q X : Type 0} (r : Result T E) → OnOk r P → OnErr r Q → (P → X) → (Q → X) → X
by_outcome (Ok x) p q ok err = ok p
by_outcome (Err e) p q ok err = err q

-- what holds because a call failed
pub on_failure : {T E P : Type 0} (r : Result T E) (e : E) → r ≡ Err e → OnErr r P → P
on_failure (Ok x) e is p = absurd (cc)
on_failure (Err e') e is p = p

pub both_on_ok : {T E : Type 0} (P Q : Type 0) (r : Result T E) → OnOk r P → OnOk r Q → OnOk r (P × Q)
both_on_ok P Q (Ok x) p q = (p, q)
both_on_ok P Q (Err e) p q = tt

-- another frame at one address changes no number of pages
pages-with_frame : (table : List (List ℕ)) (segment page frame : ℕ) → map length (with_frame table segment page frame) ≡ map length table
pages-with_frame [] segment page frame = refl
pages-with_frame (row ∷ table) zero page frame = ap (λ n. n ∷ map length table) (length-set row page frame)
pages-with_frame (row ∷ table) (suc segment) page frame = ap (λ rest. length row ∷ rest) (pages-with_frame table segment page frame)

-- a page that is made the owner's own takes one frame at most
pub takes-made_own : (old new : SpaceState) (segment page : ℕ) → MakesPrivate old new segment page → TakesFrames 1 old new
takes-made_own old new segment page made = elim (cases_eq (count_of old.frames (frame_no old segment page)) 1) [
  | inl own ↦ record { pages = ap (map length) (made.table own); frames = omega (arith, made.free own); limit = made.limit }
  | inr shared ↦
      let fresh = made.fresh shared in
      record {
        pages = ap (map length) fresh.table ∙ pages-with_frame old.owner segment page (frame_no new segment page);
        frames = omega (arith, fresh.free);
        limit = made.limit;
      }
]

-- one change after another
pub can_undo-then : (n most more all : ℕ) (old mid new : SpaceState) (before between after : UndoLog) → most + more ≤ all → CanUndo n most old mid before between → CanUndo n more mid new between after → CanUndo n all old new before after
can_undo-then n most more all old mid new before between after within first second = record {
  children = record {
    tables = second.children.tables ∙ first.children.tables;
    bytes = λ child. second.children.bytes child ∙ first.children.bytes child;
  };
  undone = second.undone ∙ first.undone;
  undo_log = second.undo_log;
  counts = second.counts ∙ first.counts;
  images = omega (arith, first.images, second.images);
  frames = record {
    pages = second.frames.pages ∙ first.frames.pages;
    frames = omega (arith, first.frames.frames, second.frames.frames);
    limit = second.frames.limit ∙ first.frames.limit;
  };
}

-- more writes are allowed than were done
pub can_undo-more : (n most more : ℕ) (old new : SpaceState) (before after : UndoLog) → most ≤ more → CanUndo n most old new before after → CanUndo n more old new before after
can_undo-more n most more old new before after within done = record {
  children = done.children;
  undone = done.undone;
  undo_log = done.undo_log;
  counts = done.counts;
  images = omega (arith, done.images);
  frames = record { pages = done.frames.pages; frames = omega (arith, done.frames.frames); limit = done.frames.limit };
}

-- no change
pub can_undo-none : (n most : ℕ) (old new : SpaceState) (before after : UndoLog) → new ≡ old → after ≡ before → IsUndoLog n new after → CanUndo n most old new before after
can_undo-none n most old new before after same same_log log = record {
  children = record { tables = ap (λ s. s.children) same; bytes = λ child. ap (λ s. child_bytes s child) same };
  undone = ap (λ s. undone (owner_bytes s) after) same ∙ ap (undone (owner_bytes old)) same_log;
  undo_log = log;
  counts = ap (λ (l : UndoLog). l.counts) same_log;
  images = omega (arith, ap (λ (l : UndoLog). length l.images) same_log);
  frames = record { pages = ap page_counts same; frames = omega (arith, ap (λ (s : SpaceState). free_of s.frames) same); limit = ap (λ (s : SpaceState). s.frames.max) same };
}

-- one write
pub can_undo-written : (n : ℕ) (old new : SpaceState) (before after : UndoLog) (image : Image) (segment page : ℕ) → SameForChildren old new → MakesPrivate old new segment page → after ≡ with_image before image → undone (owner_bytes new) after ≡ undone (owner_bytes old) before → IsUndoLog n new after → CanUndo n 1 old new before after
can_undo-written n old new before after image segment page children made is_log same log = record {
  children = children;
  undone = same;
  undo_log = log;
  counts = ap (λ (l : UndoLog). l.counts) is_log;
  images = omega (arith, ap (λ (l : UndoLog). length l.images) is_log, length_push before.images image);
  frames = takes-made_own old new segment page made;
}

-- ---- writes between which pages are grown

-- writes alone
pub growth-written : (n most writes frames : ℕ) (old new : SpaceState) (before after : UndoLog) → most ≤ writes → most ≤ frames → CanUndo n most old new before after → CanUndoGrowth n writes frames old new before after
growth-written n most writes frames old new before after few cheap done = record {
  children = done.children;
  undone = done.undone;
  undo_log = done.undo_log;
  counts = done.counts;
  images = omega (arith, done.images);
  frames = omega (arith, done.frames.frames);
  limit = done.frames.limit;
}

-- no change
pub growth-none : (n writes frames : ℕ) (old new : SpaceState) (log : UndoLog) → new ≡ old → IsUndoLog n new log → CanUndoGrowth n writes frames old new log log
growth-none n writes frames old new log same is_log =
    growth-written n 0 writes frames old new log log (omega arith) (omega arith) (can_undo-none n 0 old new log log same refl is_log)

-- one page
pub growth-grown : (n writes frames : ℕ) (old new : SpaceState) (log : UndoLog) (segment page : ℕ) → 1 ≤ frames → GrowsPage n old new segment page → undone (owner_bytes new) log ≡ undone (owner_bytes old) log → IsUndoLog n new log → CanUndoGrowth n writes frames old new log log
growth-grown n writes frames old new log segment page some grows same is_log = record {
  children = grows.children;
  undone = same;
  undo_log = is_log;
  counts = refl;
  images = omega arith;
  frames = omega (arith, grows.free);
  limit = grows.limit;
}

-- one change after another
pub growth-then : (n writes more all frames others most : ℕ) (old mid new : SpaceState) (before between after : UndoLog) → writes + more ≤ all → frames + others ≤ most → CanUndoGrowth n writes frames old mid before between → CanUndoGrowth n more others mid new between after → CanUndoGrowth n all most old new before after
growth-then n writes more all frames others most old mid new before between after within cheap first second = record {
  children = record {
    tables = second.children.tables ∙ first.children.tables;
    bytes = λ child. second.children.bytes child ∙ first.children.bytes child;
  };
  undone = second.undone ∙ first.undone;
  undo_log = second.undo_log;
  counts = second.counts ∙ first.counts;
  images = omega (arith, first.images, second.images);
  frames = omega (arith, first.frames, second.frames);
  limit = second.limit ∙ first.limit;
}

-- ---- frames

passes : (n : ℕ) → 1 ≤ n → nat_lt 0 n ≡ true
passes n some = grind (arith, nat_tests)

-- where no open child has a table, each page is the owner's own
own_alone : (size : ℕ) (s : SpaceState) (segment page : ℕ) → IsSound size s → flat_map option_to_list s.children ≡ [] → HasPage s segment page → IsOwn s segment page
own_alone size s segment page sound none there =
    let f : ℕ = frame_no s segment page in
    sound.counts f
    ∙ ap (λ (others : List (List (List ℕ))). count_by (maps f) (s.owner ∷ others)) none
    ∙ ap {B = ℕ} (λ b. 0 + cond b 1 0) (passes (times f s.owner) (stands s.owner segment page there.0 there.1))

-- a child is open, or none has a table
open_or_none : (children : List (Option (List (List ℕ)))) → ((child : ℕ) × IsSome (slice_index_or children child None)) ⊎ (flat_map option_to_list children ≡ [])
open_or_none [] = inr refl
open_or_none (Some table ∷ children) = inl (0, refl)
open_or_none (None ∷ children) = elim (open_or_none children) [
  | inl later ↦ inl (suc later.0, later.1)
  | inr none ↦ inr none
]

-- a page lacks a frame only where a child is open
pub out_of_frames : (size : ℕ) (s : SpaceState) (segment page : ℕ) → IsSound size s → HasPage s segment page → LacksFrame s segment page → IsOutOfFrames s
out_of_frames size s segment page sound there lacks = elim (open_or_none s.children) [
  | inl open_child ↦ record { full = lacks.1; open_child = open_child }
  | inr none ↦ absurd (lacks.0 (own_alone size s segment page sound none there))
]
