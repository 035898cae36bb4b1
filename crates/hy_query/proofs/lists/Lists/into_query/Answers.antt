use Rattle.std.proofs.Common.{◌++◌, ap, subst, ◌∙◌}
use Rattle.std.proofs.lemmas.Bool.{not-false}
use Rattle.hy_query.specs.Queries.{IsQuery}
use Rattle.hy_query.proofs.ListLaws.{HasLists-query}
use Rattle.hy_query.proofs.lists.Lists.into_query.Goals as goal

pub new-requires : goal.new-requires
new-requires c =
    let tables = c.in_ok-extend_from_slice.ensures.items
    ∙ ap (λ front. front ++ c.args.tables.now) c.new-own_tables.ensures.items ∙ c.requires.2 in
    subst IsQuery (HasLists-query c.args.self c.requires.0 c.extend_from_slice.new.self.items
    (not-false _ c.if-not-self.false) c.requires.1 tables) c.requires.3
