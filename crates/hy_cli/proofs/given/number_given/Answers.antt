use Rattle.clap.specs.Words.{found_of, one_of, rows_of}
use Rattle.hy_cli.proofs.GivenLaws.{number_read, number_within}
use Rattle.hy_cli.proofs.given.number_given.Goals as goal

pub unreachable-requires : goal.unreachable-requires
unreachable-requires c =
    let read = number_read (found_of c.args.given.now) c.args.name.now c.get_one.result c.get_one.ensures.none c.get_one.ensures.value c.requires in
    rw c.in_default.is at read

pub returns-clause-says : goal.returns-clause-says
returns-clause-says c =
    let read = number_read (found_of c.args.given.now) c.args.name.now c.get_one.result c.get_one.ensures.none c.get_one.ensures.value c.requires in
    rw c.in-Some.is at read

pub returns-clause-bounds : goal.returns-clause-bounds
returns-clause-bounds c = λ low high within.
    let read = number_read (found_of c.args.given.now) c.args.name.now c.get_one.result c.get_one.ensures.none c.get_one.ensures.value c.requires in
    number_within (one_of c.args.name.now (rows_of (found_of c.args.given.now))) c.in-Some.number low high (rw c.in-Some.is at read) within
