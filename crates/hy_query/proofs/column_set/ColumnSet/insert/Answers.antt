use Rattle.std.proofs.Common.{subst, ◌≡◌, ◌||◌, List, Bool, slice_set}
use Rattle.hy_query.specs.Language.{is_column}
use Rattle.hy_query.specs.inside.ColumnSets.{has_column}
use Rattle.hy_query.proofs.ColumnSetLaws.{has_column-insert}
use Rattle.hy_query.proofs.column_set.ColumnSet.insert.Goals as goal

pub returns : goal.returns
returns c other known =
    let set = c.self.inside.has in
    let column = c.args.column in
    let new = c.set_flag.new.flags in
    subst (λ (now : List (List Bool)). has_column (slice_set set c.place_of.result new) other
    ≡ (has_column now other || is_column other column)) c.self.view_is
    (has_column-insert set column other c.place_of.result new c.self.told c.set_flag.ensures.many c.requires
    c.place_of.ensures.same c.set_flag.ensures.set)
