use Rattle.std.proofs.Common.{◌≡◌, suc, ◌-◌, ◌<◌, true, length, slice_index_or, sym, ap, ◌∙◌, subst, arith}
use Rattle.hy_rows.proofs.BetweenLaws.{bounds}
use Rattle.hy_commands.specs.declared.command.Command.{Command}
use Rattle.hy_commands.specs.Commands.{customer_home_of}
use Rattle.hy_partition.specs.Parts.{FindsPayer}
use Rattle.hy_partition.specs.Partition.{PartitionState, rows_now}
use Rattle.hy_crossing.specs.Crossings.{IsIdleIfNamed, IsPartition, is_named}
use Rattle.hy_crossing.proofs.FullLaws.{set-same}
use Rattle.hy_crossing.proofs.PlaceLaws.{customer_home-named, held-at, holds-at}
use Rattle.hy_crossing.proofs.before.find_payer.Goals as goal

pub find_customer-requires : goal.find_customer-requires
find_customer-requires g c =
    let command = c.args.command.now in
    let place = c.customer_home.result - 1 in
    let rows = g.P.Parts.states c.args.parts.now in
    let p = c.part.result.now in
    let there = bounds 1 (length rows) (customer_home_of command) c.requires.there in
    let home : suc place ≡ customer_home_of command = omega (arith, c.customer_home.ensures, there) in
    let within : place < length rows = omega (arith, home, there) in
    let named : is_named command (suc place) ≡ true =
    subst (λ n. is_named command n ≡ true) (sym home) (customer_home-named command) in
    let idle = holds-at (IsIdleIfNamed command (suc place)) rows place p within c.part.ensures.value (c.requires.idle place) in
    let is = holds-at (IsPartition g.K.Loaded.load (suc place)) rows place p within c.part.ensures.value (c.requires.parts.each place) in
    (omega arith, (idle named, ap customer_home_of c.command.ensures ∙ (sym home ∙ sym is.1)))

pub returns-clause-found : goal.returns-clause-found
returns-clause-found g c =
    let command = c.args.command.now in
    let place = c.customer_home.result - 1 in
    let rows = g.P.Parts.states c.args.parts.now in
    let there = bounds 1 (length rows) (customer_home_of command) c.requires.there in
    let home : suc place ≡ customer_home_of command = omega (arith, c.customer_home.ensures, there) in
    let within : place < length rows = omega (arith, home, there) in
    let p = c.part.result.now in
    held-at (λ (p : PartitionState). FindsPayer command (rows_now p) c.find_customer.result) rows (customer_home_of command - 1)
    p (subst (λ n. n < length rows) (omega (arith, home)) within)
    (subst (λ n. p ≡ slice_index_or rows n p) (omega (arith, home)) c.part.ensures.value)
    (subst (λ (command : Command). FindsPayer command (rows_now p) c.find_customer.result) c.command.ensures
    c.find_customer.ensures)

pub returns-clause-same : goal.returns-clause-same
returns-clause-same g c =
    let command = c.args.command.now in
    let place = c.customer_home.result - 1 in
    let rows = g.P.Parts.states c.args.parts.now in
    let p = c.part.result.now in
    let there = bounds 1 (length rows) (customer_home_of command) c.requires.there in
    let home : suc place ≡ customer_home_of command = omega (arith, c.customer_home.ensures, there) in
    let within : place < length rows = omega (arith, home, there) in
    g.P.Parts.states_put c.args.parts.now place p within ∙ set-same rows place p c.part.ensures.value
