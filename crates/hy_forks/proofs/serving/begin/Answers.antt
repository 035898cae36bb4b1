use Rattle.hy_forks.proofs.ServingLaws.{tries-to-begin}
use Rattle.hy_forks.proofs.serving.begin.Goals as goal

pub returns : goal.returns
returns g c =
    tries-to-begin c.args.job c.begin.result c.args.part.now c.begin.new.self c.begin.ensures.begun
    c.begin.ensures.accepted c.begin.ensures.refused c.begin.ensures.back c.begin.ensures.err
