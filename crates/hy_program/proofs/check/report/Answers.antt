use Rattle.std.proofs.Common.{rules, ◌≡◌, ◌≤◌, ◌∙◌, ◌++◌, List, ap, length, string_bytes, sym, append-nil, codes}
use Rattle.std.specs.List.{flat_map}
use Rattle.std.proofs.lemmas.List.{drop_all}
use Rattle.hy_rows.specs.declared.warehouse.Warehouse.{Warehouse}
use Rattle.hy_program.specs.Check.{line_of}
use Rattle.hy_program.proofs.CheckLaws.{line_more}
use Rattle.hy_program.proofs.check.report.Goals as goal

pub loop-warehouse-preserved : goal.loop-warehouse-preserved
loop-warehouse-preserved c =
    let pushed : string_bytes c.push_str.new.self ≡ string_bytes c.loop-warehouse.text ++ string_bytes c.in_ok-line.line
    = search (rules, c.in_ok-push_str.ensures.bytes, c.as_str.ensures.value) in
    line_more (line_of c.args.tables.now) c.deref-warehouse-items.result.now c.loop-warehouse.warehouse-index
    c.warehouse-item.result (string_bytes c.loop-warehouse.text) (string_bytes c.push_str.new.self)
    (string_bytes c.in_ok-line.line) c.loop-warehouse-test.true (search (rules, c.warehouse-item.is)) pushed
    c.in_ok-line.ensures c.loop-warehouse.invariant

pub returns : goal.returns
returns c =
    let rows = c.deref-warehouse-items.result.now in
    let past : length rows ≤ c.loop-warehouse.warehouse-index = search (rules, c.loop-warehouse-test.false) in
    let left = drop_all c.loop-warehouse.warehouse-index rows past in
    let all : string_bytes c.loop-warehouse.text ≡ flat_map (line_of c.args.tables.now) rows
    = sym (append-nil (string_bytes c.loop-warehouse.text)) ∙ rw left at c.loop-warehouse.invariant in
    let listed : rows ≡ c.args.tables.now.warehouses = search (rules, c.deref-warehouse-items.ensures.value, c.tables.view_is) in
    c.in_ok-push_str-2.ensures.bytes
    ∙ ap (λ text. text ++ codes "conditions 1 2 3 4 5 6 7 8 9 10 12 hold\n")
    (all ∙ ap (λ (it : List Warehouse). flat_map (line_of c.args.tables.now) it) listed)
