-- What held values end as where one is lent.
use Rattle.std.specs.Prelude.{ℕ, List, slice_set}
use Rattle.std.specs.Borrow.{Lends, MutBor, Fml, RattleType}
use Rattle.hy_crossing.specs.contracts.held.Held.{the_row}

-- once the borrow ends, the value at the place is the one that was written last
abbrev pub LendsValue : (G : RattleType) → MutBor (List G.Denot) → ℕ → MutBor G.Denot → Fml
LendsValue G held place value = Lends (the_row G) G held value (slice_set held.now place)
