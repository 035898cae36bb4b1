-- Putting images back in a child, from the last one on.
use Rattle.std.proofs.Common.{◌≡◌, ℕ, zero, suc, ◌+◌, ◌-◌, ◌<◌, ◌≤◌, inr, List, [], ◌∷◌, ◌++◌, length, get_or, take, refl, sym, ap, ◌∙◌, subst, arith, sum_by, None, Some, IsSomeAnd, unwrap_or}
use Rattle.std.specs.Option.{option_map}
use Rattle.std.specs.List.{AllByRecursion}
use Rattle.std.proofs.lemmas.List.{take_more, take_all}
use Rattle.std.proofs.lemmas.List.Sums.{sum_by_more}
use Rattle.hy_frames.specs.FrameTable.{count_of, lent_at}
use Rattle.hy_space.specs.Space.{SpaceState, HasChildPage, IsChildPrivate, ChangesBytesOf, child_table, child_bytes, child_frame_no}
use Rattle.hy_undo.specs.UndoLog.{Image, UndoLog, put_back, restored}
use Rattle.hy_undo.specs.inside.Fork.{rows_of, child_pages, IsWritableIn}
use Rattle.hy_undo.proofs.UndoneLaws.{restored-push, restored-push_past}
use Rattle.hy_undo.proofs.CutLaws.{child_pages-mapped, length-child_pages}

abbrev pub none : Image
none = record { segment = 0; page = 0; offset = 0; bytes = [] }

-- how many bytes some images have
abbrev pub bytes_in : List Image → ℕ
bytes_in images = sum_by (λ image. length image.bytes) images

-- what is left to put back gives the pages as they were at the begin
pub record IsPutBackTo (log : UndoLog) (begin now : SpaceState) (child left : ℕ) : Type 0 where
  pub few : left ≤ length log.images
  pub bytes : restored (child_pages now child) (take left log.images) ≡ restored (child_pages begin child) log.images
  pub only : ChangesBytesOf begin now child

pub back_begin : (log : UndoLog) (s : SpaceState) (child : ℕ) → IsPutBackTo log s s child (length log.images)
back_begin log s child = record {
  few = omega arith;
  bytes = ap (restored (child_pages s child)) (take_all (length log.images) log.images (omega arith));
  only = record {
    tables = refl;
    owner = record { table = refl; bytes = refl };
    others = record { tables = λ other apart. refl; bytes = λ other apart. refl };
    counts = λ f. refl;
    lent = λ f. refl;
    free = refl;
    limit = refl;
  };
}

-- one change of a child's bytes after another
ChangesBytesOf-then : (old mid new : SpaceState) (child : ℕ) → ChangesBytesOf old mid child → ChangesBytesOf mid new child → ChangesBytesOf old new child
ChangesBytesOf-then old mid new child first second = record {
  tables = second.tables ∙ first.tables;
  owner = record { table = second.owner.table ∙ first.owner.table; bytes = second.owner.bytes ∙ first.owner.bytes };
  others = record {
    tables = λ other apart. second.others.tables other apart ∙ first.others.tables other apart;
    bytes = λ other apart. second.others.bytes other apart ∙ first.others.bytes other apart;
  };
  counts = λ f. second.counts f ∙ first.counts f;
  lent = λ f. second.lent f ∙ first.lent f;
  free = second.free ∙ first.free;
  limit = second.limit ∙ first.limit;
}

pub writable_at : (n : ℕ) (counts : List ℕ) (s : SpaceState) (child : ℕ) (images : List Image) (i : ℕ) → AllByRecursion (IsWritableIn n counts s child) images → i < length images → IsWritableIn n counts s child (get_or images i none)
writable_at n counts s child [] i each within = absurd (omega arith)
writable_at n counts s child (image ∷ images) zero each within = each.0
writable_at n counts s child (image ∷ images) (suc i) each within = writable_at n counts s child images i each.1 (omega arith)

-- one image more has its bytes
pub bytes_in-more : (images : List Image) (i : ℕ) → i < length images → bytes_in (take (i + 1) images) ≡ bytes_in (take i images) + length (get_or images i none).bytes
bytes_in-more images i within = sum_by_more (λ (image : Image). length image.bytes) images i none within

module _ (n : ℕ) (log : UndoLog) (begin now : SpaceState) (child i : ℕ) (image : Image) (within : i < length log.images) (read : get_or log.images i none ≡ image) (is_open : child_table begin child ≡ Some (rows_of begin child)) (writable : IsWritableIn n log.counts begin child image) (before : IsPutBackTo log begin now child (i + 1)) where
  table_now : child_table now child ≡ child_table begin child
  table_now = ap (λ all. get_or all child None) before.only.tables

  rows_now : rows_of now child ≡ rows_of begin child
  rows_now = ap (λ o. unwrap_or o []) table_now

  open_now : child_table now child ≡ Some (rows_of now child)
  open_now = table_now ∙ is_open ∙ ap Some (sym rows_now)

  split_off : take (i + 1) log.images ≡ take i log.images ++ image ∷ []
  split_off = take_more log.images i none within ∙ ap (λ (last : Image). take i log.images ++ last ∷ []) read

  -- its page may be written
  pub may_write : image.page < get_or log.counts image.segment 0 → (HasChildPage now child image.segment image.page) × (IsChildPrivate now child image.segment image.page)
  may_write below =
      let may = writable.private below in
      let frame : child_frame_no now child image.segment image.page ≡ child_frame_no begin child image.segment image.page = ap (λ rows. get_or (get_or rows image.segment []) image.page 0) rows_now in (
        subst (λ o. IsSomeAnd o (λ table. (image.segment < length table) × (image.page < length (get_or table image.segment [])))) (sym table_now) may.0,
        record {
          own = ap (count_of now.frames) frame ∙ before.only.counts (child_frame_no begin child image.segment image.page) ∙ may.1.own;
          not_lent = ap (lent_at now.frames) frame ∙ before.only.lent (child_frame_no begin child image.segment image.page) ∙ may.1.not_lent;
        },
      )

  -- an image of a page that was cut off
  pub back_skip : get_or log.counts image.segment 0 ≤ image.page → IsPutBackTo log begin now child i
  back_skip past =
      let gone : length (get_or (child_pages now child) image.segment []) ≤ image.page = omega (
        arith,
        length-child_pages now child image.segment open_now,
        ap (λ rows. length (get_or rows image.segment [])) rows_now,
        writable.pages,
      ) in
      record {
        few = omega arith;
        bytes = sym (restored-push_past (child_pages now child) (take i log.images) image (inr gone)) ∙ sym (ap (restored (child_pages now child)) split_off) ∙ before.bytes;
        only = before.only;
      }

  -- an image that is put back
  pub back_more : (next : SpaceState) → child_bytes next child ≡ option_map (λ pages. put_back pages image) (child_bytes now child) → ChangesBytesOf now next child → IsPutBackTo log begin next child i
  back_more next bytes only =
      let written : child_pages next child ≡ put_back (child_pages now child) image = child_pages-mapped now next child (λ pages. put_back pages image) open_now bytes in
      record {
        few = omega arith;
        bytes =
            ap (λ pages. restored pages (take i log.images)) written
            ∙ sym (restored-push (child_pages now child) (take i log.images) image)
            ∙ sym (ap (restored (child_pages now child)) split_off)
            ∙ before.bytes;
        only = ChangesBytesOf-then begin now next child before.only only;
      }

-- one turn: the last image that is left, and what it needs to be put back
pub record IsTurn (n : ℕ) (log : UndoLog) (begin now : SpaceState) (child i end : ℕ) (image : Image) : Type 0 where
  pub within : i < length log.images
  pub writable : IsWritableIn n log.counts begin child image
  pub before : IsPutBackTo log begin now child (i + 1)
  pub ends : end ≡ bytes_in (take i log.images)

pub turn : (n : ℕ) (log : UndoLog) (begin now : SpaceState) (child left end : ℕ) (image : Image) → 0 < left → AllByRecursion (IsWritableIn n log.counts begin child) log.images → IsPutBackTo log begin now child left → end ≡ bytes_in (take left log.images) → get_or log.images (left - 1) none ≡ image → IsTurn n log begin now child (left - 1) (end - length image.bytes) image
turn n log begin now child left end image some images back behind read =
    let i = left - 1 in
    let next : left ≡ i + 1 = omega arith in
    let within : i < length log.images = omega (arith, back.few) in
    record {
      within = within;
      writable = subst (IsWritableIn n log.counts begin child) read (writable_at n log.counts begin child log.images i images within);
      before = subst (IsPutBackTo log begin now child) next back;
      ends = omega (arith, behind, ap (λ k. bytes_in (take k log.images)) next, bytes_in-more log.images i within, ap (λ (x : Image). length x.bytes) read);
    }
