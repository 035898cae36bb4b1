use Rattle.std.proofs.Common.{◌≡◌, ℕ, ◌≤◌, true, Some, List, length, is_some, sym, ap, ◌∙◌, subst, arith}
use Rattle.hy_rows.specs.Ranges.{is_between}
use Rattle.hy_rows.proofs.BetweenLaws.{bounds}
use Rattle.hy_loads.proofs.RefusalLaws.{IfErr-this}
use Rattle.hy_commands.specs.Commands.{customer_home_of}
use Rattle.hy_commands.specs.Parts.{database_of, is_there, rows_of}
use Rattle.hy_commands.specs.Transactions.{has_customer, has_items}
use Rattle.hy_commands.proofs.AcceptedLaws.{passed-numbers}
use Rattle.hy_partition.specs.Partition.{PartitionState}
use Rattle.hy_crossing.specs.Crossings.{loaded_refusal, some_is_full}
use Rattle.hy_crossing.proofs.RefusedLaws.{finds-customer, home-there, no-customer, no-item, no-numbers, no-refusal, no-room, same-numbers}
use Rattle.hy_crossing.proofs.before.prepare.Goals as goal

pub returns-in_err-check_within-clause-refused : goal.returns-in_err-check_within-clause-refused
returns-in_err-check_within-clause-refused g c =
    let lists = g.K.Loaded.load in
    let command = c.args.command.now in
    let parts = g.P.Parts.states c.args.parts.now in
    let same = same-numbers lists command parts c.len.result c.requires.parts c.len.ensures in
    IfErr-this c.from_residual.result c.in_err-check_within.field-0.0
    (λ why. loaded_refusal lists command parts ≡ Some why) c.from_residual.ensures.1
    (no-numbers lists command parts c.in_err-check_within.field-0.0 (sym same ∙ c.in_err-check_within.ensures.refused))

pub find_payer-requires-clause-there : goal.find_payer-requires-clause-there
find_payer-requires-clause-there g c =
    home-there c.args.command.now (g.P.Parts.states c.args.parts.now) c.len.result c.len.ensures
    (passed-numbers (is_between 1 c.len.result) c.args.command.now c.in_ok-check_within.ensures.passed).named

pub returns-in_default-clause-refused : goal.returns-in_default-clause-refused
returns-in_default-clause-refused g c =
    let lists = g.K.Loaded.load in
    let command = c.args.command.now in
    let parts = g.P.Parts.states c.args.parts.now in
    let same = same-numbers lists command parts c.len.result c.requires.parts c.len.ensures in
    let passed = sym same ∙ c.in_ok-check_within.ensures.passed in
    no-customer lists command parts passed
    (finds-customer lists command parts c.find_payer.result c.requires.parts
    (passed-numbers (is_there (database_of lists)) command passed).named c.find_payer.ensures.found
    ∙ ap is_some c.in_default.is)

pub returns-then-is_some_full-clause-refused : goal.returns-then-is_some_full-clause-refused
returns-then-is_some_full-clause-refused g c =
    let lists = g.K.Loaded.load in
    let command = c.args.command.now in
    let parts = g.P.Parts.states c.args.parts.now in
    let same = same-numbers lists command parts c.len.result c.requires.parts c.len.ensures in
    let passed = sym same ∙ c.in_ok-check_within.ensures.passed in
    let payer : has_customer command (rows_of (customer_home_of command) (database_of lists)) ≡ true =
    finds-customer lists command parts c.find_payer.result c.requires.parts
    (passed-numbers (is_there (database_of lists)) command passed).named c.find_payer.ensures.found ∙ ap is_some c.in-Some.is in
    let full : some_is_full command 1 parts ≡ c.is_some_full.result =
    sym (c.is_some_full.ensures.full
    ∙ ap (λ (rows : List PartitionState). some_is_full command 1 rows) c.find_payer.ensures.same) in
    no-room lists command parts passed payer (full ∙ c.if-is_some_full.true)

pub has_items-requires-clause-there : goal.has_items-requires-clause-there
has_items-requires-clause-there g c =
    let parts = g.P.Parts.states c.args.parts.now in
    let home : ℕ = customer_home_of c.args.command.now in
    let ends = bounds 1 (length parts) home (home-there c.args.command.now parts c.len.result c.len.ensures
    (passed-numbers (is_between 1 c.len.result) c.args.command.now c.in_ok-check_within.ensures.passed).named) in
    let same = c.is_some_full.ensures.same ∙ c.find_payer.ensures.same in
    subst (λ (rows : List PartitionState). 1 ≤ length rows) (sym same) (omega (arith, ends.0, ends.1))

pub returns-then-not-has_items-clause-refused : goal.returns-then-not-has_items-clause-refused
returns-then-not-has_items-clause-refused g c =
    let lists = g.K.Loaded.load in
    let command = c.args.command.now in
    let parts = g.P.Parts.states c.args.parts.now in
    let same = same-numbers lists command parts c.len.result c.requires.parts c.len.ensures in
    let passed = sym same ∙ c.in_ok-check_within.ensures.passed in
    let payer : has_customer command (rows_of (customer_home_of command) (database_of lists)) ≡ true =
    finds-customer lists command parts c.find_payer.result c.requires.parts
    (passed-numbers (is_there (database_of lists)) command passed).named c.find_payer.ensures.found ∙ ap is_some c.in-Some.is in
    let full : some_is_full command 1 parts ≡ c.is_some_full.result =
    sym (c.is_some_full.ensures.full
    ∙ ap (λ (rows : List PartitionState). some_is_full command 1 rows) c.find_payer.ensures.same) in
    let items : has_items lists.items command ≡ c.has_items.result = sym c.has_items.ensures.known in
    no-item lists command parts passed payer (full ∙ c.if-is_some_full.false) (items ∙ c.if-not-has_items.true)

pub returns-clause-accepted : goal.returns-clause-accepted
returns-clause-accepted g c =
    let lists = g.K.Loaded.load in
    let command = c.args.command.now in
    let parts = g.P.Parts.states c.args.parts.now in
    let same = same-numbers lists command parts c.len.result c.requires.parts c.len.ensures in
    let passed = sym same ∙ c.in_ok-check_within.ensures.passed in
    let payer : has_customer command (rows_of (customer_home_of command) (database_of lists)) ≡ true =
    finds-customer lists command parts c.find_payer.result c.requires.parts
    (passed-numbers (is_there (database_of lists)) command passed).named c.find_payer.ensures.found ∙ ap is_some c.in-Some.is in
    let full : some_is_full command 1 parts ≡ c.is_some_full.result =
    sym (c.is_some_full.ensures.full
    ∙ ap (λ (rows : List PartitionState). some_is_full command 1 rows) c.find_payer.ensures.same) in
    let items : has_items lists.items command ≡ c.has_items.result = sym c.has_items.ensures.known in
    no-refusal lists command parts passed payer (full ∙ c.if-is_some_full.false) (items ∙ c.if-not-has_items.false)
