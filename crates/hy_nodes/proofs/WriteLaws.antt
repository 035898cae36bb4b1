-- What writes into one segment leave, one behind another.
use Rattle.std.proofs.Common.{◌≡◌, ℕ, ◌<◌, List, [], ◌∷◌, ◌++◌, length, map, replicate, Result, Ok, Err, OnOk, OnErr, refl, sym, ap, ◌∙◌, subst, get_or-set_other, get_or-set_same, length-set}
use Rattle.std.proofs.lemmas.List.{length-map}
use Rattle.hy_page.specs.Bytes.{overwritten}
use Rattle.hy_frames.specs.FrameTable.{page_of}
use Rattle.hy_space.specs.Space.{SpaceState, GrowsPage, HasPage, IsSound, LacksFrame, child_bytes, owner_bytes, page_at, with_page}
use Rattle.hy_undo.specs.UndoLog.{Image, UndoLog}
use Rattle.hy_undo.specs.PrivatePages.{IsUndoLog, LogsImage, UndoesTheSame}
use Rattle.hy_undo.specs.Writes.{IsOutOfFrames}
use Rattle.hy_undo.proofs.WriteLaws.{on_failure, out_of_frames}
use Rattle.hy_nodes.specs.Writes.{WritesSegment, pages_of}
use Rattle.hy_nodes.specs.Nodes.{list_at}
use Rattle.hy_nodes.specs.Pages.{with_bytes}

-- nothing was written
pub writes-none : (n segment : ℕ) (space : SpaceState) (log : UndoLog) → IsUndoLog n space log → WritesSegment n segment space space log log
writes-none n segment space log undo_log = record {
  undoes = record { undone = refl; undo_log = undo_log };
  counts = refl;
  children = record { tables = refl; bytes = λ child. refl };
  limit = refl;
  segments = refl;
  others = λ other differs. refl;
}

-- writes behind others
pub writes-then : (n segment : ℕ) (old mid new : SpaceState) (before between after : UndoLog)
    → WritesSegment n segment old mid before between → WritesSegment n segment mid new between after → WritesSegment n segment old new before after
writes-then n segment old mid new before between after first second = record {
  undoes = record { undone = second.undoes.undone ∙ first.undoes.undone; undo_log = second.undoes.undo_log };
  counts = second.counts ∙ first.counts;
  children = record { tables = second.children.tables ∙ first.children.tables; bytes = λ child. second.children.bytes child ∙ first.children.bytes child };
  limit = second.limit ∙ first.limit;
  segments = second.segments ∙ first.segments;
  others = λ other differs. second.others other differs ∙ first.others other differs;
}

-- the number of segments, from their bytes
length-owner : (space : SpaceState) → length (owner_bytes space) ≡ length space.owner
length-owner space = length-map space.owner (map (page_of space.frames))

same_segments : (old new : SpaceState) → length (owner_bytes new) ≡ length (owner_bytes old) → length new.owner ≡ length old.owner
same_segments old new same = sym (length-owner new) ∙ same ∙ length-owner old

-- a segment that is there, in the bytes too
pub segment_there : (space : SpaceState) (segment : ℕ) → segment < length space.owner → segment < length (owner_bytes space)
segment_there space segment there = subst (λ count. segment < count) (sym (length-owner space)) there

module _ (n segment page offset : ℕ) (old new : SpaceState) (before after : UndoLog) (bytes : List ℕ)
    (written : owner_bytes new ≡ with_page (owner_bytes old) segment page (overwritten (page_at (owner_bytes old) segment page) offset bytes)) where
  -- one page was written
  pub writes-page : (image : Image) → LogsImage old new before after image → UndoesTheSame n old new before after → WritesSegment n segment old new before after
  writes-page image logs undoes = record {
    undoes = undoes;
    counts = ap (λ (log : UndoLog). log.counts) logs.log;
    children = logs.made.children;
    limit = logs.made.limit;
    segments = same_segments old new (ap length written ∙ length-set (owner_bytes old) segment _);
    others = λ other differs. ap (λ all. list_at all other) written ∙ get_or-set_other (owner_bytes old) segment other _ [] differs;
  }

  pub pages-written : segment < length old.owner → pages_of new segment ≡ with_bytes (pages_of old segment) page offset bytes
  pages-written there = ap (λ all. list_at all segment) written ∙ get_or-set_same (owner_bytes old) segment _ [] (segment_there old segment there)

-- a call that writes one page, whether it was refused or not
pub writes-call : {T E : Type 0} (n segment page offset : ℕ) (old new : SpaceState) (before after : UndoLog) (bytes : List ℕ) (image : Image) (result : Result T E)
    → OnOk result (owner_bytes new ≡ with_page (owner_bytes old) segment page (overwritten (page_at (owner_bytes old) segment page) offset bytes))
    → OnOk result (LogsImage old new before after image) → OnErr result ((after ≡ before) × (new ≡ old)) → UndoesTheSame n old new before after
    → WritesSegment n segment old new before after
writes-call n segment page offset old new before after bytes image (Ok x) written logs same undoes = writes-page n segment page offset old new before after bytes written image logs undoes
writes-call n segment page offset old new before after bytes image (Err e) written logs same undoes = record {
  undoes = undoes;
  counts = ap (λ (log : UndoLog). log.counts) same.0;
  children = record { tables = ap (λ (s : SpaceState). s.children) same.1; bytes = λ child. ap (λ (s : SpaceState). child_bytes s child) same.1 };
  limit = ap (λ (s : SpaceState). s.frames.max) same.1;
  segments = ap (λ (s : SpaceState). length s.owner) same.1;
  others = λ other differs. ap (λ (s : SpaceState). list_at (owner_bytes s) other) same.1;
}

-- such a call adds no page
pub pages-call : {T E : Type 0} (n segment page offset : ℕ) (old new : SpaceState) (before after : UndoLog) (bytes : List ℕ) (result : Result T E) → segment < length old.owner
    → OnOk result (owner_bytes new ≡ with_page (owner_bytes old) segment page (overwritten (page_at (owner_bytes old) segment page) offset bytes))
    → OnErr result ((after ≡ before) × (new ≡ old)) → length (pages_of new segment) ≡ length (pages_of old segment)
pages-call n segment page offset old new before after bytes (Ok x) there written same =
    ap length (pages-written n segment page offset old new before after bytes written there) ∙ length-set (pages_of old segment) page _
pages-call n segment page offset old new before after bytes (Err e) there written same = ap (λ (s : SpaceState). length (pages_of s segment)) same.1

-- it lacks a frame only where a child is open, and then it changes nothing
pub out_of_frames-call : {T E : Type 0} (n segment page : ℕ) (old new : SpaceState) (before after : UndoLog) (result : Result T E) (e : E) → IsSound n old → HasPage old segment page
    → (result ≡ Err e → LacksFrame old segment page) → OnErr result ((after ≡ before) × (new ≡ old)) → result ≡ Err e → IsOutOfFrames new
out_of_frames-call n segment page old new before after result e sound there lacks same failed =
    subst IsOutOfFrames (sym (on_failure result e failed same).1) (out_of_frames n old segment page sound there (lacks failed))

-- a page was added
module _ (n segment page : ℕ) (old new : SpaceState) (grows : GrowsPage n old new segment page) where
  pub writes-grown : (log : UndoLog) → UndoesTheSame n old new log log → WritesSegment n segment old new log log
  writes-grown log undoes = record {
    undoes = undoes;
    counts = refl;
    children = grows.children;
    limit = grows.limit;
    segments = same_segments old new (ap length grows.bytes ∙ length-set (owner_bytes old) segment _);
    others = λ other differs. ap (λ all. list_at all other) grows.bytes ∙ get_or-set_other (owner_bytes old) segment other _ [] differs;
  }

  pub pages-grown : segment < length old.owner → pages_of new segment ≡ pages_of old segment ++ replicate n 0 ∷ []
  pages-grown there = ap (λ all. list_at all segment) grows.bytes ∙ get_or-set_same (owner_bytes old) segment _ [] (segment_there old segment there)
