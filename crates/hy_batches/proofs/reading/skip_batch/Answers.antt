use Rattle.std.proofs.Common.{sym, ◌∙◌}
use Rattle.hy_batches.proofs.SkipLaws.{batch-passed}
use Rattle.hy_batches.proofs.reading.skip_batch.Goals as goal

pub returns : goal.returns
returns c =
    batch-passed c.args.bytes.now c.in_ok-edition.rest.now c.in_ok-size.rest.now c.in_ok-content.content.now
    c.in_ok-content.rest.now c.in_ok-rest.rest.now c.in_ok-edition.edition c.in_ok-size.size c.in_ok-edition.ensures
    c.in_ok-size.ensures c.in_ok-content.ensures.front
    (sym (c.is_content.ensures c.in_ok-edition.edition) ∙ c.if-not-is_content.false) c.in_ok-rest.ensures
