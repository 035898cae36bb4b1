use Rattle.std.proofs.Common.{length, ap, sym, ◌∙◌}
use Rattle.hy_batches.proofs.SeenLaws.{length-lines}
use Rattle.hy_batches.proofs.seen.SeenLines.len.Goals as goal

pub returns : goal.returns
returns c = sym (length-lines c.self.inside.count c.self.inside.bytes.now) ∙ ap length c.self.view_is
