use Rattle.hy_commands.proofs.FirstLaws.{named-all}
use Rattle.hy_commands.proofs.command.Command.warehouses.Goals as goal

pub returns : goal.returns
returns c = named-all c.args.self.now
