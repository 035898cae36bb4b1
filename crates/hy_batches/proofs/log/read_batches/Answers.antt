use Rattle.std.proofs.Common.{sym}
use Rattle.hy_commands.specs.declared.edition.Edition.TheVariants as editions
use Rattle.hy_batches.proofs.LogLaws.{batches-more, last_edition-more, log-more}
use Rattle.hy_batches.proofs.log.read_batches.Goals as goal

pub batches-preserved : goal.batches-preserved
batches-preserved c =
    let batches = c.batches.batches.items in
    let batch = c.in_ok-batch.batch in
    let next = c.in_ok-batch.ensures in
    rw (c.in_ok-add.ensures, c.edition-edition.ensures) (record {
      spelled = log-more c.args.bytes.now batches c.batches.rest.now batch c.in_ok-batch.after.now c.batches.invariant.spelled next.0;
      whole = batches-more editions.First batches batch c.batches.invariant.whole next.1 (rw c.batches.invariant.edition at next.2);
      edition = sym (last_edition-more editions.First batches batch);
    })
