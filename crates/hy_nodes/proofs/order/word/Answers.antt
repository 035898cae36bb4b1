use Rattle.std.proofs.Common.{ap, ◌∙◌}
use Rattle.std.specs.Int.{from_be_bytes, w64}
use Rattle.hy_nodes.proofs.WordLaws.{from_be_bytes-word}
use Rattle.hy_nodes.proofs.order.word.Goals as goal

pub returns-clause-value : goal.returns-clause-value
returns-clause-value c = c.from_be_bytes.ensures ∙ ap (from_be_bytes w64) c.copy_from_slice.ensures.after ∙ from_be_bytes-word c.args.bytes.now
