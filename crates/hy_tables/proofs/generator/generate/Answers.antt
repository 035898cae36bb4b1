use Rattle.hy_tables.specs.Generated.{is_size}
use Rattle.hy_tables.proofs.GenerateLaws.{generated_refusal, size_of}
use Rattle.hy_tables.proofs.generator.generate.Goals as goal

-- generated lists are a load
pub returns-clause-refused : goal.returns-clause-refused
returns-clause-refused c =
    let args = c.args in
    generated_refusal c.of.result c.in_ok-lists.lists args.warehouses args.customers args.items
    c.in_ok-lists.ensures.lists
    (size_of (is_size args.warehouses args.customers args.items)
    (λ small. let wrong = c.in_ok-lists.ensures.out_of_range.1 small in absurd (cc))) c.of.ensures
