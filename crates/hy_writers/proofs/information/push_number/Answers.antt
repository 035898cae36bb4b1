use Rattle.std.proofs.Common.{rules}
use Rattle.hy_writers.proofs.InformationLaws.{number-text}
use Rattle.hy_writers.proofs.information.push_number.Goals as goal

pub returns-clause-is_text : goal.returns-clause-is_text
returns-clause-is_text c =
    number-text c.args.text.now.items c.push.new.self.items c.args.number c.args.end (search rules) c.requires.end
    (search rules) (search rules)
