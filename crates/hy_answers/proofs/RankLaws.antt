-- What a sort by a closure leaves, where the closure answers by the keys of rows.
use Rattle.std.proofs.Common.{◌≡◌, ◌∙◌, List, ap, sym}
use Rattle.std.proofs.lemmas.Fn.{always_returns_same}
use Rattle.std.specs.Borrow.{Bor}
use Rattle.std.specs.Cmp.{IsStrictWeakOrder}
use Rattle.std.specs.Fn.{Called, ComparesAs, Mut}
use Rattle.std.specs.List.Sorted.{IsSortedByClosure, IsStableByClosure}
use Rattle.std.specs.declared.cmp.Ordering.{Ordering}
use Rattle.std.specs.Ordering.{is_lt}
use Rattle.hy_query.specs.declared.query.SortKey.{SortKey}
use Rattle.hy_query.specs.Meaning.{comes_before}
use Rattle.hy_query.specs.Rows.{Row}
use Rattle.hy_query.specs.Sorting.{sorted}
use Rattle.hy_answers.specs.inside.Orders.{rows_order}
use Rattle.hy_answers.proofs.OrderLaws.{comes_before-order, comes_before-weak_by}
use Rattle.hy_answers.proofs.SortLaws.{sorted-unique}

pub sorted-by_closure : {F X : Type 0} {g : Mut F (Bor X × (Bor X × Unit {0})) Ordering} {f : F} (keys : List SortKey)
    (row : X → Row) (xs ys : List X) → IsSortedByClosure g f ys → IsStableByClosure g f xs ys
    → ((a : Bor X × (Bor X × Unit {0})) (r : Ordering) (f' : F) → Called g f a r f'
    → (r ≡ rows_order keys (row a.0.now) (row a.1.0.now)) × (f' ≡ f))
    → ys ≡ sorted (λ one other. comes_before keys (row one) (row other)) xs
sorted-by_closure {X = X} {g = g} {f = f} keys row xs ys up stable answers =
    let less = λ (one other : X). comes_before keys (row one) (row other) in
    let weak : IsStrictWeakOrder less = comes_before-weak_by keys row in
    let compares : ComparesAs g less f = always_returns_same g (λ a r. is_lt r ≡ less a.0.now a.1.0.now) f
    (λ a r f' k. (
      ap is_lt (answers a r f' k).0 ∙ sym (comes_before-order keys (row a.0.now) (row a.1.0.now)),
      (answers a r f' k).1,
    )) in
    sorted-unique less weak xs ys (up less weak compares) (stable less weak compares)
