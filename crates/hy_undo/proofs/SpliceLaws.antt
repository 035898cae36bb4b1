-- Bytes that are put in the place of others of a page, and those behind them, which move.
use Rattle.std.proofs.Common.{rules, ◌≡◌, ℕ, ◌+◌, ◌-◌, ◌≤◌, List, [], ◌∷◌, ◌++◌, false, length, get_or, refl, sym, ap, ap₂, subst, ◌∙◌, arith, length-append}
use Rattle.std.proofs.lemmas.List.{places, same_lists}
use Rattle.hy_page.specs.Bytes.{bytes_at, overwritten}
use Rattle.hy_page.proofs.ByteLaws.{length-bytes_at}
use Rattle.hy_frames.specs.FrameTable.{Frame, Sets}
use Rattle.hy_space.specs.Space.{SpaceState, WritesPage, frame_no, owner_bytes, page_at, with_page}
use Rattle.hy_undo.specs.UndoLog.{Image, UndoLog, undone, with_image}
use Rattle.hy_undo.specs.inside.Pieces.{last_bytes_or}
use Rattle.hy_undo.proofs.PutBackLaws.{with_page-with_page}
use Rattle.hy_undo.proofs.PrivatePageLaws.{HasNoMorePages-same, HasPage-fewer, SameForChildren-then}
use Rattle.hy_undo.proofs.UndoneLaws.{undone-written}

-- the last image is the one that was added last
pub last_bytes-push : (bytes : List ℕ) (images : List Image) (image : Image) → last_bytes_or bytes (images ++ image ∷ []) ≡ image.bytes
last_bytes-push bytes [] image = refl
last_bytes-push bytes (first ∷ images) image = last_bytes-push first.bytes images image

-- of two writes of one page the second remains
pub WritesPage-then : (old mid new : SpaceState) (segment page : ℕ) (one two : List ℕ) → WritesPage old mid segment page one → WritesPage mid new segment page two → WritesPage old new segment page two
WritesPage-then old mid new segment page one two first second =
    let same_frame : frame_no mid segment page ≡ frame_no old segment page = ap (λ (rows : List (List ℕ)). get_or (get_or rows segment []) page 0) first.table in
    let frame : Frame = record { count = 1; bytes = two; lent = false } in
    let sets : Sets mid.frames new.frames (frame_no old segment page) frame = subst (λ (f : ℕ). Sets mid.frames new.frames f frame) same_frame second.frame in
    let fewer = HasNoMorePages-same mid new second.table in
    record {
      bytes = second.bytes ∙ ap (λ (all : List (List (List ℕ))). with_page all segment page two) first.bytes ∙ with_page-with_page (owner_bytes old) segment page one two;
      table = second.table ∙ first.table;
      frame = record {
        here = sets.here;
        others = λ f other. sets.others f other ∙ first.frame.others f other;
        limit = second.limit ∙ first.limit;
      };
      others = record {
        frames = λ f apart still. sets.others f apart ∙ first.frame.others f apart;
        own = λ s p before after own.
            let there = HasPage-fewer mid new s p fewer after in
            second.others.own s p there after (first.others.own s p before there own);
        private = λ s p apart before after private.
            let there = HasPage-fewer mid new s p fewer after in
            second.others.private s p apart there after (first.others.private s p apart before there private);
      };
      children = SameForChildren-then old mid new first.children second.children;
      free = second.free ∙ first.free;
      limit = second.limit ∙ first.limit;
    }

-- bytes that are written before others which were written behind them
pub overwritten-both : (bytes : List ℕ) (offset : ℕ) (first behind : List ℕ) → offset + (length first + length behind) ≤ length bytes → overwritten (overwritten bytes (offset + length first) behind) offset first ≡ overwritten bytes offset (first ++ behind)
overwritten-both bytes offset first behind within = same_lists _ _ (search (rules, places)) (λ k d h. grind (arith, places))

-- bytes that are written over a part of those that are kept
overwritten-part : (bytes : List ℕ) (offset : ℕ) (others : List ℕ) (count : ℕ) → offset + (length others + count) ≤ length bytes → overwritten bytes offset (others ++ bytes_at bytes (offset + length others) count) ≡ overwritten bytes offset others
overwritten-part bytes offset others count within = same_lists _ _ (search (rules, places)) (λ k d h. grind (arith, places))

-- a write over a part of what an image has, from its begin on
pub undone-part : (pages : List (List (List ℕ))) (log : UndoLog) (segment page offset : ℕ) (bytes : List ℕ) (count : ℕ) → length bytes ≤ count → offset + count ≤ length (page_at pages segment page) → undone (with_page pages segment page (overwritten (page_at pages segment page) offset bytes)) (with_image log (record { segment = segment; page = page; offset = offset; bytes = bytes_at (page_at pages segment page) offset count })) ≡ undone pages log
undone-part pages log segment page offset bytes count part within =
    let here = page_at pages segment page in
    let rest = bytes_at here (offset + length bytes) (count - length bytes) in
    let whole : length (bytes ++ rest) ≡ count = omega (arith, length-append bytes rest, length-bytes_at here (offset + length bytes) (count - length bytes) (omega (arith, part, within)), part) in
    let image_of = λ (n : ℕ). let image : Image = record { segment = segment; page = page; offset = offset; bytes = bytes_at here offset n } in image in
    ap₂ (λ (content : List ℕ) (n : ℕ). undone (with_page pages segment page content) (with_image log (image_of n)))
    (sym (overwritten-part here offset bytes (count - length bytes) (omega (arith, part, within)))) (sym whole)
    ∙ undone-written pages log segment page offset (bytes ++ rest) (omega (arith, whole, within))

-- of what stands in the place of a gap and before the bytes behind it, these are the part of the kept ones
pub part-of_kept : (bytes : List ℕ) (offset gap size count : ℕ) → gap + count ≤ size → offset + size ≤ length bytes → bytes_at (bytes_at bytes offset size) gap count ≡ bytes_at bytes (offset + gap) count
part-of_kept bytes offset gap size count part within = same_lists _ _ (search (rules, places)) (λ k d h. grind (arith, places))
