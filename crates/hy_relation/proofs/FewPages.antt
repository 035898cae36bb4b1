-- A segment has few pages, whatever is written into it and wherever a call is refused.
use Rattle.std.proofs.Common.{◌≡◌, ℕ, ◌≤◌, List, length, sym, subst, arith}
use Rattle.hy_rows.specs.Spelling.{least_page, list_at, used_slots}
use Rattle.hy_space.specs.Space.{SpaceState, owner_bytes}
use Rattle.hy_undo.specs.Writes.{WritesAcross}
use Rattle.hy_relation.specs.Relation.{ChangesSegment, HasFewPages, owner_pages}
use Rattle.hy_relation.specs.inside.Addresses.{WritesJoined}
use Rattle.hy_relation.proofs.SlotLaws.{end-sorted}

-- where no page comes and no slot goes
pub few-kept : (n width : ℕ) (old new : List (List ℕ)) → least_page ≤ n → length new ≡ length old → used_slots old ≤ used_slots new
    → HasFewPages n width old → HasFewPages n width new
few-kept n width old new size pages used few =
    omega (arith, few, pages, end-sorted n width (used_slots old) (used_slots new) size used)

-- where something is written into a slot, or refused
module _ (n segment width start : ℕ) (old new : SpaceState) (part : List ℕ) (size : least_page ≤ n) where
  pub few-written : WritesJoined (owner_pages old segment) (owner_pages new segment) start part
      → HasFewPages n width (owner_pages old segment) → HasFewPages n width (owner_pages new segment)
  few-written written few =
      few-kept n width (owner_pages old segment) (owner_pages new segment) size written.pages (omega (arith, written.used)) few

  pub few-refused : owner_bytes new ≡ owner_bytes old → HasFewPages n width (owner_pages old segment) → HasFewPages n width (owner_pages new segment)
  few-refused same few = subst (λ (all : List (List (List ℕ))). HasFewPages n width (list_at all segment)) (sym same) few

-- a write over a slot in one segment changes no other one
pub only-across : (old new : List (List (List ℕ))) (segment start : ℕ) (part : List ℕ) → WritesAcross old new segment start part → ChangesSegment old new segment
only-across old new segment start part written = record { segments = written.segments; others = written.others }
