use Rattle.hy_commands.specs.inside.Named.{name_of}
use Rattle.hy_tpcc.proofs.BeginLaws.{begin-found, begin-nobody}
use Rattle.hy_tpcc.proofs.begin.customer_place.Goals as goal

pub returns-in-Some : goal.returns-in-Some
returns-in-Some c = λ tables keeps.
    begin-found c.args.layout.now.warehouse c.args.command.now (name_of c.in-Some.customer) tables c.in-Some.ensures
    c.requires c.place_of_customer.result (c.place_of_customer.ensures tables keeps)

pub returns-in-None : goal.returns-in-None
returns-in-None c = λ tables keeps.
    begin-nobody c.args.layout.now.warehouse c.args.command.now tables c.in-None.ensures
