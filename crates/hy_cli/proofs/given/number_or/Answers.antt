use Rattle.clap.specs.Words.{found_of}
use Rattle.hy_cli.proofs.GivenLaws.{number_or_read, number_or_within}
use Rattle.hy_cli.proofs.given.number_or.Goals as goal

pub returns-clause-says : goal.returns-clause-says
returns-clause-says c =
    let read = number_or_read (found_of c.args.given.now) c.args.name.now c.get_one.result c.get_one.ensures.none c.get_one.ensures.value c.args.default c.requires in
    rw c.unwrap_or.ensures read

pub returns-clause-bounds : goal.returns-clause-bounds
returns-clause-bounds c = λ low high within bounds.
    let read = number_or_within (found_of c.args.given.now) c.args.name.now c.get_one.result c.get_one.ensures.none c.get_one.ensures.value c.args.default c.requires low high within bounds in
    rw c.unwrap_or.ensures read
