use Rattle.std.proofs.Common.{◌≡◌, ℕ, ◌<◌, List, length, get_or}
use Rattle.hy_columns.proofs.pages.know_sizes.Given as goal

-- each page so far has all its bytes
abbrev pub invariant-loop-page : goal.invariant-loop-page
invariant-loop-page g l = (k : ℕ) (d : List ℕ) → k < l.page-index → length (get_or l.pages k d) ≡ g.row.N
