-- What keeps an undo log the log of its space.
use Rattle.std.proofs.Common.{◌≡◌, ℕ, ◌+◌, ◌<◌, ◌≤◌, inl, inr, List, [], ◌∷◌, ◌++◌, length, get_or, set, take, map, refl, sym, ap, ◌∙◌, arith}
use Rattle.std.specs.List.{AllByRecursion}
use Rattle.std.proofs.lemmas.List.{length-map, take_more, length_push, set_past, get_or-set_same, get_or-set_other, length-set}
use Rattle.std.proofs.lemmas.Bool.{cases_lt, cases_eq}
use Rattle.hy_frames.specs.FrameTable.{page_of}
use Rattle.hy_space.specs.Space.{SpaceState, HasPage, KeepsOwn, SameForChildren, IsSound, HasPagesOf, page_count, page_bytes, owner_bytes, with_page, with_new_page}
use Rattle.hy_space.proofs.TableLaws.{get_or-map_at}
use Rattle.hy_undo.specs.UndoLog.{Image, UndoLog, page_counts, empty_log, with_image}
use Rattle.hy_undo.specs.PrivatePages.{IsOfPrivatePage, IsUndoLog, HasNoMorePages, GivesUpPages}
use Rattle.hy_undo.specs.inside.RollBack.{KeepsPages, KeepsTable}
use Rattle.hy_undo.proofs.PutBackLaws.{IsThere, length-with_page, length-segment-with_page}
use Rattle.hy_undo.proofs.PageLaws.{length-page_at}

-- ---- pages by their bytes

pub length-owner_bytes : (s : SpaceState) → length (owner_bytes s) ≡ length s.owner
length-owner_bytes s = length-map s.owner (map (page_of s.frames))

pub length-segment-owner_bytes : (s : SpaceState) (segment : ℕ) → length (get_or (owner_bytes s) segment []) ≡ page_count s segment
length-segment-owner_bytes s segment =
    ap length (get_or-map_at (map (page_of s.frames)) s.owner segment [])
    ∙ length-map (get_or s.owner segment []) (page_of s.frames)

pub IsThere-owner_bytes : (s : SpaceState) (segment page : ℕ) → HasPage s segment page → IsThere (owner_bytes s) segment page
IsThere-owner_bytes s segment page there = record {
  in_pages = omega (arith, there.0, length-owner_bytes s);
  in_segment = omega (arith, there.1, length-segment-owner_bytes s segment);
}

-- a page of a sound space has its size
pub HasPagesOf-owner_bytes : (n : ℕ) (s : SpaceState) → IsSound n s → HasPagesOf n (owner_bytes s)
HasPagesOf-owner_bytes n s sound = sound.pages 0 s.owner (omega arith)

pub length-page_bytes : (n : ℕ) (s : SpaceState) (segment page : ℕ) → IsSound n s → HasPage s segment page → length (page_bytes s segment page) ≡ n
length-page_bytes n s segment page sound there = length-page_at n (owner_bytes s) segment page (HasPagesOf-owner_bytes n s sound) (IsThere-owner_bytes s segment page there)

-- ---- spaces that keep pages

pub KeepsPages-same : (s : SpaceState) → KeepsPages s s
KeepsPages-same s = record { segments = refl; pages = λ segment. omega arith; kept = record { own = λ segment page before after own. own; private = λ segment page before after private. private } }

-- by what the owner sees
pub KeepsPages-from_bytes : (old new : SpaceState) → length (owner_bytes new) ≡ length (owner_bytes old) → ((segment : ℕ) → length (get_or (owner_bytes old) segment []) ≤ length (get_or (owner_bytes new) segment [])) → KeepsOwn old new → KeepsPages old new
KeepsPages-from_bytes old new segments pages kept = record {
  segments = omega (arith, segments, length-owner_bytes old, length-owner_bytes new);
  pages = λ segment. omega (arith, pages segment, length-segment-owner_bytes old segment, length-segment-owner_bytes new segment);
  kept = kept;
}

-- where the owner sees the same
pub KeepsPages-unseen : (old new : SpaceState) → owner_bytes new ≡ owner_bytes old → KeepsOwn old new → KeepsPages old new
KeepsPages-unseen old new same kept = KeepsPages-from_bytes old new (ap length same) (λ segment. omega (arith, ap (λ bytes. length (get_or bytes segment [])) same)) kept

-- where one page has other bytes
pub KeepsPages-written : (old new : SpaceState) (segment page : ℕ) (bytes : List ℕ) → owner_bytes new ≡ with_page (owner_bytes old) segment page bytes → KeepsOwn old new → KeepsPages old new
KeepsPages-written old new segment page bytes written kept =
    KeepsPages-from_bytes old new (ap length written ∙ length-with_page (owner_bytes old) segment page bytes)
    (λ s. omega (arith, ap (λ all. length (get_or all s [])) written, length-segment-with_page (owner_bytes old) segment page bytes s)) kept

-- where a segment has one element more
pub length-segment-push : {X : Type 0} (rows : List (List X)) (segment : ℕ) (x : X) (s : ℕ) → length (get_or rows s []) ≤ length (get_or (set rows segment (get_or rows segment [] ++ x ∷ [])) s [])
length-segment-push rows segment x s =
    let row = get_or rows segment [] ++ x ∷ [] in
    elim (cases_eq s segment) [
      | inl same ↦ elim (cases_lt segment (length rows)) [
        | inl within ↦ omega (
          arith,
          ap (λ n. length (get_or (set rows segment row) n [])) same,
          ap (λ n. length (get_or rows n [])) same,
          ap length (get_or-set_same rows segment row [] within),
          length_push (get_or rows segment []) x,
        )
        | inr past ↦ omega (arith, ap (λ all. length (get_or all s [])) (set_past rows segment row past))
      ]
      | inr apart ↦ omega (arith, ap length (get_or-set_other rows segment s row [] apart))
    ]

pub KeepsPages-grown : (old new : SpaceState) (segment : ℕ) (bytes : List ℕ) → owner_bytes new ≡ with_new_page (owner_bytes old) segment bytes → KeepsOwn old new → KeepsPages old new
KeepsPages-grown old new segment bytes grown kept =
    KeepsPages-from_bytes old new (ap length grown ∙ length-set (owner_bytes old) segment (get_or (owner_bytes old) segment [] ++ bytes ∷ []))
    (λ s. omega (arith, ap (λ all. length (get_or all s [])) grown, length-segment-push (owner_bytes old) segment bytes s)) kept

-- one change behind another, the second of which adds no page
pub HasPage-fewer : (old new : SpaceState) (segment page : ℕ) → HasNoMorePages old new → HasPage new segment page → HasPage old segment page
HasPage-fewer old new segment page fewer there = (omega (arith, there.0, fewer.segments), omega (arith, there.1, fewer.pages segment))

pub HasNoMorePages-same : (old new : SpaceState) → new.owner ≡ old.owner → HasNoMorePages old new
HasNoMorePages-same old new same = record {
  segments = ap length same;
  pages = λ segment. omega (arith, ap (λ table. length (get_or table segment [])) same);
}

pub HasNoMorePages-then : (old mid new : SpaceState) → HasNoMorePages old mid → HasNoMorePages mid new → HasNoMorePages old new
HasNoMorePages-then old mid new first second = record {
  segments = second.segments ∙ first.segments;
  pages = λ segment. omega (arith, first.pages segment, second.pages segment);
}

pub KeepsOwn-then : (old mid new : SpaceState) → KeepsOwn old mid → KeepsOwn mid new → HasNoMorePages mid new → KeepsOwn old new
KeepsOwn-then old mid new first second fewer = record {
  own = λ segment page before after own.
      let there = HasPage-fewer mid new segment page fewer after in
      second.own segment page there after (first.own segment page before there own);
  private = λ segment page before after private.
      let there = HasPage-fewer mid new segment page fewer after in
      second.private segment page there after (first.private segment page before there private);
}

-- one change behind another
pub SameForChildren-then : (old mid new : SpaceState) → SameForChildren old mid → SameForChildren mid new → SameForChildren old new
SameForChildren-then old mid new first second = record { tables = second.tables ∙ first.tables; bytes = λ child. second.bytes child ∙ first.bytes child }

pub GivesUpPages-then : (old mid new : SpaceState) → GivesUpPages old mid → GivesUpPages mid new → GivesUpPages old new
GivesUpPages-then old mid new first second = record {
  fewer = HasNoMorePages-then old mid new first.fewer second.fewer;
  kept = KeepsOwn-then old mid new first.kept second.kept second.fewer;
  children = SameForChildren-then old mid new first.children second.children;
  free = omega (arith, first.free, second.free);
  limit = second.limit ∙ first.limit;
}

-- where the table stays, no page is given up
pub GivesUpPages-none : (old new : SpaceState) → KeepsTable old new → GivesUpPages old new
GivesUpPages-none old new keeps = record {
  fewer = HasNoMorePages-same old new keeps.table;
  kept = keeps.kept;
  children = keeps.children;
  free = omega (arith, keeps.free);
  limit = keeps.limit;
}

pub HasPage-kept : (old new : SpaceState) (segment page : ℕ) → KeepsPages old new → HasPage old segment page → HasPage new segment page
HasPage-kept old new segment page keeps there = (omega (arith, there.0, keeps.segments), omega (arith, there.1, keeps.pages segment))

pub KeepsPages-then : (old mid new : SpaceState) → KeepsPages old mid → KeepsPages mid new → KeepsPages old new
KeepsPages-then old mid new first second = record {
  segments = second.segments ∙ first.segments;
  pages = λ segment. omega (arith, first.pages segment, second.pages segment);
  kept = record {
    own = λ segment page before after own.
        let there = HasPage-kept old mid segment page first before in
        second.kept.own segment page there after (first.kept.own segment page before there own);
    private = λ segment page before after private.
        let there = HasPage-kept old mid segment page first before in
        second.kept.private segment page there after (first.kept.private segment page before there private);
  };
}

-- ---- undo logs

-- the log of a transaction that begins now
pub IsUndoLog-empty : (n : ℕ) (s : SpaceState) → IsUndoLog n s (empty_log s)
IsUndoLog-empty n s = record {
  segments = length-map s.owner length;
  counts = λ segment. omega (arith, get_or-map_at length s.owner segment []);
  images = tt;
}

-- an image more of a private page
pub IsUndoLog-with_image : (n : ℕ) (s : SpaceState) (log : UndoLog) (image : Image) → IsUndoLog n s log → IsOfPrivatePage n s image → IsUndoLog n s (with_image log image)
IsUndoLog-with_image n s log image is_log private = record { segments = is_log.segments; counts = is_log.counts; images = pushed log.images is_log.images }
  where
    pushed : (images : List Image) → AllByRecursion (IsOfPrivatePage n s) images → AllByRecursion (IsOfPrivatePage n s) (images ++ image ∷ [])
    pushed [] each = (private, tt)
    pushed (first ∷ images) each = (each.0, pushed images each.1)

-- a space that keeps pages
pub IsUndoLog-kept : (n : ℕ) (old new : SpaceState) (log : UndoLog) → KeepsPages old new → IsUndoLog n old log → IsUndoLog n new log
IsUndoLog-kept n old new log keeps is_log = record {
  segments = is_log.segments ∙ sym keeps.segments;
  counts = λ segment. omega (arith, is_log.counts segment, keeps.pages segment);
  images = still log.images is_log.images;
}
  where
    still : (images : List Image) → AllByRecursion (IsOfPrivatePage n old) images → AllByRecursion (IsOfPrivatePage n new) images
    still [] each = tt
    still (image ∷ images) each = (
      record {
        there = HasPage-kept old new image.segment image.page keeps each.0.there;
        private = keeps.kept.private image.segment image.page each.0.there (HasPage-kept old new image.segment image.page keeps each.0.there) each.0.private;
        within = each.0.within;
      },
      still images each.1,
    )

-- each image lies within a page
pub images_within : (n : ℕ) (s : SpaceState) (images : List Image) → AllByRecursion (IsOfPrivatePage n s) images → AllByRecursion (λ image. image.offset + length image.bytes ≤ n) images
images_within n s [] each = tt
images_within n s (image ∷ images) each = (each.0.within, images_within n s images each.1)

-- one segment's count more
pub page_counts-more : (s : SpaceState) (segment : ℕ) → segment < length s.owner → take (segment + 1) (page_counts s) ≡ take segment (page_counts s) ++ page_count s segment ∷ []
page_counts-more s segment there =
    take_more (page_counts s) segment 0 (omega (arith, length-map s.owner length))
    ∙ ap (λ n. take segment (page_counts s) ++ n ∷ []) (get_or-map_at length s.owner segment [])
