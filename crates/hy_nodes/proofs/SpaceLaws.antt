-- The pages of one segment of a space.
use Rattle.std.proofs.Common.{◌≡◌, ℕ, ◌<◌, ◌^◌, [], length, map, get_or, ap, ◌∙◌, arith}
use Rattle.std.proofs.lemmas.List.{length-map, get_or-map}
use Rattle.hy_frames.specs.FrameTable.{page_of}
use Rattle.hy_space.specs.Space.{SpaceState, HasPage, IsSound, page_count}
use Rattle.hy_nodes.specs.Writes.{pages_of}
use Rattle.hy_nodes.specs.Nodes.{list_at}

module _ (space : SpaceState) (segment : ℕ) (there : segment < length space.owner) where
  pub length-pages_of : length (pages_of space segment) ≡ page_count space segment
  length-pages_of =
      ap length (get_or-map (map (page_of space.frames)) space.owner segment [] [] there)
      ∙ length-map (get_or space.owner segment []) (page_of space.frames)

  pub has_page : (page : ℕ) → page < length (pages_of space segment) → HasPage space segment page
  has_page page within = (there, omega (arith, length-pages_of, within))

  pub page_number-small : (n page : ℕ) → IsSound n space → page < length (pages_of space segment) → page < 2 ^ 32
  page_number-small n page sound within = omega (arith, length-pages_of, within, sound.page_counts segment, sound.within, sound.limit)

  pub length-page : (n page : ℕ) → IsSound n space → page < length (pages_of space segment) → length (list_at (pages_of space segment) page) ≡ n
  length-page n page sound within =
      sound.pages 0 [] (omega arith) segment [] (omega (arith, there, length-map space.owner (map (page_of space.frames)))) page [] within

-- a page that is there
pub page_there : (space : SpaceState) (segment page : ℕ) → HasPage space segment page → page < length (pages_of space segment)
page_there space segment page there = omega (arith, there.1, length-pages_of space segment there.0)

pub page_full : (n : ℕ) (space : SpaceState) (segment page : ℕ) → IsSound n space → HasPage space segment page → length (list_at (pages_of space segment) page) ≡ n
page_full n space segment page sound there = length-page space segment there.0 n page sound (page_there space segment page there)
