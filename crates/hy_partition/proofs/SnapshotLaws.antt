-- The segments of a snapshot.
use Rattle.std.proofs.Common.{◌≡◌, ℕ, ◌<◌, List, [], length, map, get_or, sym, ap, ◌∙◌}
use Rattle.std.proofs.lemmas.List.{get_or-map}
use Rattle.hy_rows.specs.Spelling.{list_at}

-- the segment that a list of segments has at a place
pub segment_at : {Segment : Type 0} (items : Segment → List (List ℕ)) (all : List Segment) (place : ℕ) (segment : Segment) → place < length all → segment ≡ get_or all place segment → items segment ≡ list_at (map items all) place
segment_at items all place segment there is = sym (get_or-map items all place segment [] there ∙ ap items (sym is))
