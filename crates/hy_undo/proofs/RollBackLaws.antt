-- What a roll-back goes through: it cuts segment by segment, and then puts back image by image from the last one on.
use Rattle.std.proofs.Common.{◌≡◌, ℕ, ◌+◌, ◌<◌, ◌≤◌, ◌⊎◌, inl, inr, List, [], ◌∷◌, ◌++◌, length, get_or, take, map, refl, sym, ap, ap₂, ◌∙◌, arith}
use Rattle.std.specs.List.{AllByRecursion}
use Rattle.std.proofs.lemmas.List.{length-map, ext_get_or, length-take, get_or-set_same, get_or-set_other, length-set}
use Rattle.std.proofs.lemmas.Bool.{cases_lt, cases_eq}
use Rattle.hy_frames.specs.FrameTable.{page_of}
use Rattle.hy_space.specs.Space.{SpaceState, HasPage, KeepsOwn, owner_bytes, page_count, with_page, with_first_pages, with_first_frames}
use Rattle.hy_space.proofs.TableLaws.{get_or-map_at}
use Rattle.hy_undo.specs.UndoLog.{Image, UndoLog, first_pages, put_back, restored, undone, page_counts, empty_log}
use Rattle.hy_undo.specs.PrivatePages.{IsOfPrivatePage, HasNoMorePages, IsUndoLog}
use Rattle.hy_undo.specs.inside.RollBack.{IsPrivateWhereThere}
use Rattle.hy_undo.proofs.UndoneLaws.{first_pages-more, segment-first_pages_ahead, length-undone, length-segment-undone, undone-empty, restored-push, restored-push_past}
use Rattle.hy_undo.proofs.PrivatePageLaws.{length-owner_bytes, length-segment-owner_bytes}
use Rattle.hy_undo.proofs.PutBackLaws.{length-with_page, length-segment-with_page}

-- ---- page counts

-- the page counts are those of what the owner sees
pub page_counts-owner_bytes : (s : SpaceState) → map length (owner_bytes s) ≡ page_counts s
page_counts-owner_bytes s = lengths s.owner
  where
    lengths : (table : List (List ℕ)) → map length (map (map (page_of s.frames)) table) ≡ map length table
    lengths [] = refl
    lengths (segment ∷ table) = ap₂ ◌∷◌ (length-map segment (page_of s.frames)) (lengths table)

-- undoing a transaction that did nothing
pub undone-empty_log : (s : SpaceState) → undone (owner_bytes s) (empty_log s) ≡ owner_bytes s
undone-empty_log s = ap (λ counts. undone (owner_bytes s) (record { counts = counts; images = [] })) (sym (page_counts-owner_bytes s)) ∙ undone-empty (owner_bytes s)

-- undone pages are as many as there were at the begin
pub counts-undone : (pages : List (List (List ℕ))) (log : UndoLog) → length log.counts ≡ length pages → ((s : ℕ) → get_or log.counts s 0 ≤ length (get_or pages s [])) → map length (undone pages log) ≡ log.counts
counts-undone pages log counted few =
    let size : length (map length (undone pages log)) ≡ length log.counts = omega (arith, length-map (undone pages log) length, length-undone pages log, counted) in
    ext_get_or 0 (map length (undone pages log)) log.counts size (λ s within. get_or-map_at length (undone pages log) s [] ∙ length-segment-undone pages log s (omega arith) (few s))

-- a space whose owner sees the undone pages has the counts of the log
pub page_counts-rolled_back : (n : ℕ) (old new : SpaceState) (log : UndoLog) → IsUndoLog n old log → owner_bytes new ≡ undone (owner_bytes old) log → page_counts new ≡ log.counts
page_counts-rolled_back n old new log is_log rolled_back =
    sym (page_counts-owner_bytes new) ∙ ap (map length) rolled_back
    ∙ counts-undone (owner_bytes old) log (is_log.segments ∙ sym (length-owner_bytes old)) (λ s. omega (arith, is_log.counts s, length-segment-owner_bytes old s))

-- ---- the cut, segment by segment

-- the segment that is cut next has all its pages still
pub page_count-ahead : (old now : SpaceState) (counts : List ℕ) (s : ℕ) → owner_bytes now ≡ first_pages (take s counts) (owner_bytes old) → page_count now s ≡ page_count old s
page_count-ahead old now counts s cut =
    sym (length-segment-owner_bytes now s) ∙ ap (λ all. length (get_or all s [])) cut
    ∙ ap length (segment-first_pages_ahead counts (owner_bytes old) s) ∙ length-segment-owner_bytes old s

-- one segment more is cut
pub cut_more : (old now next : SpaceState) (counts : List ℕ) (s : ℕ) → s < length counts → owner_bytes now ≡ first_pages (take s counts) (owner_bytes old) → owner_bytes next ≡ with_first_pages (owner_bytes now) s (get_or counts s 0) → owner_bytes next ≡ first_pages (take (s + 1) counts) (owner_bytes old)
cut_more old now next counts s counted before cut =
    cut ∙ ap (λ all. with_first_pages all s (get_or counts s 0)) before ∙ sym (first_pages-more counts (owner_bytes old) s counted)

-- a page that a cut leaves was there before it
pub page_count-cut-le : (table : List (List ℕ)) (segment count s : ℕ) → segment < length table → length (get_or (with_first_frames table segment count) s []) ≤ length (get_or table s [])
page_count-cut-le table segment count s there =
    let row = take count (get_or table segment []) in
    elim (cases_eq s segment) [
      | inl same ↦ omega (
        arith,
        ap (λ x. length (get_or (with_first_frames table segment count) x [])) same,
        ap length (get_or-set_same table segment row [] there),
        length-take count (get_or table segment []),
        ap (λ x. length (get_or table x [])) same,
      )
      | inr apart ↦ omega (arith, ap length (get_or-set_other table segment s row [] apart))
    ]

pub HasNoMorePages-cut : (old new : SpaceState) (segment count : ℕ) → segment < length old.owner → new.owner ≡ with_first_frames old.owner segment count → HasNoMorePages old new
HasNoMorePages-cut old new segment count there cut = record {
  segments = ap length cut ∙ length-set old.owner segment (take count (get_or old.owner segment []));
  pages = λ s. omega (arith, ap (λ table. length (get_or table s [])) cut, page_count-cut-le old.owner segment count s there);
}

-- ---- images of pages that may be cut off

pub private_where_there : (n : ℕ) (s : SpaceState) (images : List Image) → AllByRecursion (IsOfPrivatePage n s) images → AllByRecursion (IsPrivateWhereThere n s) images
private_where_there n s [] each = tt
private_where_there n s (image ∷ images) each = (record { segment = each.0.there.0; private = λ there. each.0.private; within = each.0.within }, private_where_there n s images each.1)

-- where the pages that are left were there and stay private, as after a cut and after a write
pub private_where_there-still : (n : ℕ) (old new : SpaceState) (images : List Image) → length new.owner ≡ length old.owner → ((s p : ℕ) → HasPage new s p → HasPage old s p) → KeepsOwn old new → AllByRecursion (IsPrivateWhereThere n old) images → AllByRecursion (IsPrivateWhereThere n new) images
private_where_there-still n old new [] segments were kept each = tt
private_where_there-still n old new (image ∷ images) segments were kept each = (
  record {
    segment = omega (arith, segments, each.0.segment);
    private = λ there.
        let before = were image.segment image.page there in
        kept.private image.segment image.page before there (each.0.private before);
    within = each.0.within;
  },
  private_where_there-still n old new images segments were kept each.1,
)

pub private_where_there-front : (n : ℕ) (s : SpaceState) (images : List Image) (last : Image) → AllByRecursion (IsPrivateWhereThere n s) (images ++ last ∷ []) → AllByRecursion (IsPrivateWhereThere n s) images
private_where_there-front n s [] last each = tt
private_where_there-front n s (image ∷ images) last each = (each.0, private_where_there-front n s images last each.1)

pub private_where_there-last : (n : ℕ) (s : SpaceState) (images : List Image) (last : Image) → AllByRecursion (IsPrivateWhereThere n s) (images ++ last ∷ []) → IsPrivateWhereThere n s last
private_where_there-last n s [] last each = each.0
private_where_there-last n s (image ∷ images) last each = private_where_there-last n s images last each.1

-- a page that isn't there is past all segments or past its segment
pub not_there : (s : SpaceState) (segment page : ℕ) → (HasPage s segment page → ⊥) → (length (owner_bytes s) ≤ segment) ⊎ (length (get_or (owner_bytes s) segment []) ≤ page)
not_there s segment page missing = elim (cases_lt segment (length s.owner)) [
  | inl within ↦ elim (cases_lt page (page_count s segment)) [
    | inl there ↦ absurd (missing (within, there))
    | inr past ↦ inr (omega (arith, length-segment-owner_bytes s segment))
  ]
  | inr past ↦ inl (omega (arith, length-owner_bytes s))
]

-- what is left to put back gives the same, after the last image was put back, and after it was passed over
pub put_back_more : (now next : SpaceState) (images : List Image) (last : Image) (all : List (List (List ℕ))) → restored (owner_bytes now) (images ++ last ∷ []) ≡ all → owner_bytes next ≡ put_back (owner_bytes now) last → restored (owner_bytes next) images ≡ all
put_back_more now next images last all before written = ap (λ pages. restored pages images) written ∙ sym (restored-push (owner_bytes now) images last) ∙ before

pub passed_over : (now : SpaceState) (images : List Image) (last : Image) (all : List (List (List ℕ))) → restored (owner_bytes now) (images ++ last ∷ []) ≡ all → (HasPage now last.segment last.page → ⊥) → restored (owner_bytes now) images ≡ all
passed_over now images last all before missing = sym (restored-push_past (owner_bytes now) images last (not_there now last.segment last.page missing)) ∙ before

-- a page that is there after a write was there before
pub HasPage-before : (old new : SpaceState) (segment page : ℕ) (bytes : List ℕ) → owner_bytes new ≡ with_page (owner_bytes old) segment page bytes → (s p : ℕ) → HasPage new s p → HasPage old s p
HasPage-before old new segment page bytes written s p there = (
  omega (arith, there.0, ap length written, length-with_page (owner_bytes old) segment page bytes, length-owner_bytes old, length-owner_bytes new),
  omega (
    arith,
    there.1,
    ap (λ all. length (get_or all s [])) written,
    length-segment-with_page (owner_bytes old) segment page bytes s,
    length-segment-owner_bytes old s,
    length-segment-owner_bytes new s,
  ),
)
