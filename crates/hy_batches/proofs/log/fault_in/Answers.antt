use Rattle.std.proofs.Common.{◌++◌, ◌∷◌, [], sym, ◌∙◌}
use Rattle.hy_commands.specs.declared.edition.Edition.TheVariants as editions
use Rattle.hy_batches.proofs.LogLaws.{batches-more, last_edition-more, log-more}
use Rattle.hy_batches.proofs.log.fault_in.Goals as goal

pub batches-preserved : goal.batches-preserved
batches-preserved c =
    let before = c.batches.invariant in
    let next = c.in-Some.ensures in
    let batch = next.0 in
    record {
      batches = before.batches ++ batch ∷ [];
      spelled = log-more c.args.bytes.now before.batches c.batches.rest.now batch c.in-Some.after.now before.spelled next.1;
      whole = batches-more editions.First before.batches batch before.whole next.2 (rw before.last at next.3);
      last = next.4 ∙ sym (last_edition-more editions.First before.batches batch);
    }
