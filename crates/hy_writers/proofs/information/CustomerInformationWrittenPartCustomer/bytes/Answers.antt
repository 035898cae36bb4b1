use Rattle.hy_writers.proofs.InformationLaws.{information_written}
use Rattle.hy_writers.proofs.information.CustomerInformationWrittenPartCustomer.bytes.Goals as goal

pub returns-then-text-lt500-clause-written : goal.returns-then-text-lt500-clause-written
returns-then-text-lt500-clause-written c = λ row size.
    information_written c.args.self.now row c.as_bytes-text.ensures.text size

pub returns-else-text-lt500-clause-written : goal.returns-else-text-lt500-clause-written
returns-else-text-lt500-clause-written c = λ row size.
    information_written c.args.self.now row c.as_bytes-text.ensures.text size
