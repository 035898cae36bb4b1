-- Batches, as clauses see them.
use Rattle.std.specs.Prelude.{Bool, true, false, List}
use Rattle.hy_commands.specs.declared.command.Commit.{Commit}
use Rattle.hy_commands.specs.declared.edition.Edition.{Edition}
use Rattle.hy_commands.specs.declared.edition.Edition.TheVariants as editions

-- the edition of the transactions by which the commits of a batch were done, and the commits of each warehouse in rising
-- order
pub record Batch : Type 0 where
  pub edition : Edition
  pub lists : List (List Commit)

-- whether two editions are one
abbrev pub is_edition : Edition → Edition → Bool
is_edition editions.First editions.First = true
is_edition editions.Second editions.Second = true
is_edition one other = false

-- whether a batch of an edition may stand behind one of another: an edition never falls
abbrev pub may_follow : Edition → Edition → Bool
may_follow editions.First behind = true
may_follow editions.Second editions.First = false
may_follow editions.Second editions.Second = true
