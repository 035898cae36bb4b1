use Rattle.std.proofs.Common.{◌≡◌, ℕ, Bool, List, nat_lt, take, ap, ◌∙◌, rules, tests}
use Rattle.std.specs.List.{prefix_len}
use Rattle.std.proofs.lemmas.Iterator.{YieldsList-from_slice}
use Rattle.std.proofs.lemmas.Iterator.Consumers.{count_from_yields_List}
use Rattle.std.proofs.lemmas.Iterator.Search.{YieldsList-from_take_while}
use Rattle.std.proofs.lemmas.List.Folds.{length-prefix_len}
use Rattle.hy_crossing.proofs.named.NamedPlaces.before.Goals as goal

pub returns : goal.returns
returns c =
    let early : ℕ → Bool = λ place. nat_lt place c.args.end in
    let items : List ℕ = c.deref.result.now in
    let count : c.count-count.result ≡ prefix_len early items =
    count_from_yields_List c.take_while.result _ c.count-count.ensures.ran
    (YieldsList-from_take_while _ early (YieldsList-from_slice items (cc)) c.take_while.ensures.closure
    c.take_while.ensures.done (λ x b q k. search (rules, tests))) ∙ length-prefix_len early items in
    let all : List ℕ = c.deref-2.result.now in
    ap (λ n. take n all) count
    ∙ ap (λ (rows : List ℕ). take (prefix_len early items) rows) (c.deref-2.ensures.0 ∙ c.self.view_is)
    ∙ ap (λ (rows : List ℕ). take (prefix_len early rows) c.args.self.now) (c.deref.ensures.0 ∙ c.self.view_is)
