use Rattle.std.proofs.Common.{ℕ, Some, ap, sym, subst, ◌∙◌, arith}
use Rattle.std.specs.Option.{option_map}
use Rattle.hy_index.specs.Writes.{entry_of}
use Rattle.hy_joins.specs.of_nodes.Places.{IsSought}
use Rattle.hy_index.proofs.RunLaws.{first-in, first-out}
use Rattle.hy_index.proofs.range.first_in.Goals as goal

pub returns-then-sought-count : goal.returns-then-sought-count
returns-then-sought-count g c =
    let sought = subst (λ (width : ℕ). IsSought width c.args.items.now c.args.key.now c.seek-sought.result.place c.seek-sought.result.is_there) c.requires.width c.seek-sought.ensures in
    ap Some c.entry.ensures
    ∙ ap (option_map (entry_of g.K.Key.key_of_bytes)) (sym (first-in g.K.Key.BYTES c.args.items.now c.args.key.now c.seek-sought.result.place c.seek-sought.result.is_there sought (omega (arith, c.if-sought-count.true, c.count.ensures.value))))

pub returns : goal.returns
returns g c =
    let sought = subst (λ (width : ℕ). IsSought width c.args.items.now c.args.key.now c.seek-sought.result.place c.seek-sought.result.is_there) c.requires.width c.seek-sought.ensures in
    ap (option_map (entry_of g.K.Key.key_of_bytes)) (sym (first-out g.K.Key.BYTES c.args.items.now c.args.key.now c.seek-sought.result.place c.seek-sought.result.is_there sought (omega (arith, c.if-sought-count.false, c.count.ensures.value))))
