-- The rows of each warehouse are sound, and what was paid for a customer in all warehouses is the customer's sum.
use Rattle.hy_database.proofs.Consistent.{consistent-after}
use Rattle.hy_database.proofs.theorem.every_database_is_consistent.Goals as goal

pub returns : goal.returns
returns c = λ lists commits is_load. consistent-after lists is_load commits
