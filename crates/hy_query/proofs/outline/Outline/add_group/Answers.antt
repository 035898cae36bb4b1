use Rattle.hy_query.proofs.OutlineLaws.{IsOutline-group}
use Rattle.hy_query.proofs.outline.Outline.add_group.Goals as goal

pub returns : goal.returns
returns c query is = IsOutline-group c.args.self.now query c.args.column c.insert.new.self c.insert.ensures is
