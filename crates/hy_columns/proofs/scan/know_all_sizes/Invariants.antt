use Rattle.std.proofs.Common.{◌≡◌, ℕ, ◌<◌, length, map}
use Rattle.std.specs.Prelude.{All}
use Rattle.hy_rows.specs.Spelling.{list_at}
use Rattle.hy_columns.proofs.scan.know_all_sizes.Given as goal

-- each page of the segments so far has all its bytes
abbrev pub invariant-loop-pages : goal.invariant-loop-pages
invariant-loop-pages g l =
    (place : ℕ) → place < l.pages-index
    → All (λ page. length page ≡ g.row.N) (list_at (map (λ segment. segment.now) l.segments) place)
