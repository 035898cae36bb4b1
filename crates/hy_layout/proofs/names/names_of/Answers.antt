use Rattle.std.proofs.Common.{IsPermutation, rules, subst}
use Rattle.std.proofs.lemmas.List.Sorted.{answers_always}
use Rattle.hy_layout.specs.inside.Places.{is_lesser}
use Rattle.hy_layout.proofs.NameOrders.{lesser-weak}
use Rattle.hy_layout.proofs.names.names_of.Goals as goal

pub returns : goal.returns
returns c =
    record {
      same = subst (λ customers. IsPermutation customers c.sort_unstable_by.new.self.items) c.in_ok-names.ensures
          c.sort_unstable_by.ensures.permutation;
      in_order = c.sort_unstable_by.ensures.sorted is_lesser lesser-weak
          (answers_always _ _ _ (λ f a r g k. search rules));
    }
