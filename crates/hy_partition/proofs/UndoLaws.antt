-- What keeps the pages that are the owner's own.
use Rattle.std.proofs.Common.{◌≡◌, ℕ, false, List, ap, ◌∙◌}
use Rattle.hy_frames.specs.FrameTable.{Frame, count_of, lent_at}
use Rattle.hy_space.specs.Space.{SpaceState, IsOwn, KeepsOwn, frame_no}

-- where the owner's table and the frames stay, each page that was the owner's own is so still
pub KeepsOwn-same_frames : (old new : SpaceState) → new.owner ≡ old.owner → new.frames.frames ≡ old.frames.frames → KeepsOwn old new
KeepsOwn-same_frames old new table frames = record {
  own = λ segment page there here own. same_own segment page own;
  private = λ segment page there here private. record { own = same_own segment page private.own; not_lent = same_lent segment page private.not_lent };
}
  where
    same_frame : (segment page : ℕ) → frame_no new segment page ≡ frame_no old segment page
    same_frame segment page = ap (λ (owner : List (List ℕ)). frame_no (record new { owner = owner }) segment page) table

    same_own : (segment page : ℕ) → IsOwn old segment page → IsOwn new segment page
    same_own segment page own = ap (count_of new.frames) (same_frame segment page) ∙ ap (λ (all : List Frame). count_of (record old.frames { frames = all }) (frame_no old segment page)) frames ∙ own

    same_lent : (segment page : ℕ) → lent_at old.frames (frame_no old segment page) ≡ false → lent_at new.frames (frame_no new segment page) ≡ false
    same_lent segment page not_lent = ap (lent_at new.frames) (same_frame segment page) ∙ ap (λ (all : List Frame). lent_at (record old.frames { frames = all }) (frame_no old segment page)) frames ∙ not_lent
