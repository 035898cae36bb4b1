use Rattle.clap.specs.Words.{found_of}
use Rattle.hy_cli.proofs.GivenLaws.{flag_read}
use Rattle.hy_cli.proofs.given.flag_given.Goals as goal

pub returns : goal.returns
returns c =
    flag_read (found_of c.args.given.now) c.args.name.now c.get_flag.result c.get_flag.ensures.none c.get_flag.ensures.value c.get_flag.ensures.other c.requires
