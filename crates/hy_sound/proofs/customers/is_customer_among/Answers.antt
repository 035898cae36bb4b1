-- What is asked for is what the command names.
use Rattle.std.proofs.Common.{◌∙◌}
use Rattle.hy_commands.specs.inside.Named.{name_of}
use Rattle.hy_sound.proofs.CustomerLaws.{knows-customer, knows-nobody, small-district, small-warehouse}
use Rattle.hy_sound.proofs.customers.is_customer_among.Goals as goal

pub is_meant_among-requires-clause-warehouse : goal.is_meant_among-requires-clause-warehouse
is_meant_among-requires-clause-warehouse c =
    small-warehouse c.args.load.now c.args.command.now c.requires (name_of c.in-Some.customer) c.in-Some.ensures
    c.sound.ensures

pub is_meant_among-requires-clause-district : goal.is_meant_among-requires-clause-district
is_meant_among-requires-clause-district c =
    small-district c.args.load.now c.args.command.now c.requires (name_of c.in-Some.customer) c.in-Some.ensures

pub returns-in-Some : goal.returns-in-Some
returns-in-Some c =
    c.is_meant_among.ensures
    ∙ knows-customer c.args.load.now c.args.command.now c.requires (name_of c.in-Some.customer) c.in-Some.ensures

pub returns-in-None : goal.returns-in-None
returns-in-None c = knows-nobody c.args.load.now c.args.command.now c.in-None.ensures
