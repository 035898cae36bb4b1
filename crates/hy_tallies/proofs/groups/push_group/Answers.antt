use Rattle.std.proofs.Common.{◌∙◌, ◌+◌, ap, arith, length, map, refl, subst}
use Rattle.std.proofs.lemmas.List.{length-map, with_items_is}
use Rattle.std.specs.Vec.{with_items}
use Rattle.hy_tallies.specs.declared.groups.Groups.{Groups}
use Rattle.hy_tallies.specs.Lines.{column_in, row_at}
use Rattle.hy_tallies.specs.inside.Keys.{AreFound, with_row}
use Rattle.hy_tallies.proofs.FoundLaws.{pushed-group}
use Rattle.hy_tallies.proofs.groups.push_group.Goals as goal

pub returns-clause-pushed : goal.returns-clause-pushed
returns-clause-pushed c = λ are code none.
    let groups = c.args.groups.now in
    let roomy = c.make_room.new.groups in
    let columns = map column_in c.args.columns.now in
    let row = row_at columns c.args.line in
    let made = c.make_room.ensures.made in
    let new : Groups = record {
      keys = with_items roomy.keys c.push_key.new.keys;
      count = roomy.count + 1;
      room = roomy.room;
      buckets = c.put.new.self;
    } in
    pushed-group groups new row c.args.code roomy.count roomy.buckets.buckets
    (with_items_is roomy.keys c.push_key.new.keys (omega (arith, c.push_key.auto.keys, c.deref_mut.ensures.len, ap length c.deref_mut.ensures.value))
    ∙ c.in_ok-push_key.ensures ∙ ap (λ keys. with_row keys row) (c.deref_mut.ensures.value ∙ ap (λ keys. keys.items) made.keys))
    made.count refl
    (length-map columns _ ∙ length-map c.args.columns.now _ ∙ c.requires.keys)
    (λ group within. subst (λ keys. AreFound roomy.buckets.buckets roomy.room keys.items groups.count) made.keys
    (subst (λ count. AreFound roomy.buckets.buckets roomy.room roomy.keys.items count) made.count
    (c.in_ok-make_room.ensures.found are.found)) group within)
    c.put.ensures.within c.put.ensures.put code none are
