use Rattle.std.proofs.Common.{◌≡◌, ◌++◌, true, length}
use Rattle.hy_commands.specs.declared.edition.Edition.TheVariants as editions
use Rattle.hy_batches.specs.Encoding.{log_bytes}
use Rattle.hy_batches.specs.Grammar.{are_batches, last_edition}
use Rattle.hy_batches.proofs.log.read_batches.Given as goal

-- the batches so far, the edition of the last of them, and what is left
abbrev pub invariant-batches : goal.invariant-batches
invariant-batches l = record {
  spelled : l.bytes ≡ log_bytes l.batches.items ++ l.rest;
  whole : are_batches l.batches.items ≡ true;
  edition : l.edition ≡ last_edition editions.First l.batches.items;
}

abbrev pub decreases-batches : goal.decreases-batches
decreases-batches l = length l.rest
