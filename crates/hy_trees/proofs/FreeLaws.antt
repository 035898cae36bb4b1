-- The free pages after one was taken, after one was given back, and after a page was written that isn't one of them.
use Rattle.std.proofs.Common.{◌≡◌, ◌≢◌, ℕ, zero, suc, ◌+◌, ◌<◌, ◌≤◌, cond, ltb, List, [], ◌∷◌, ◌++◌, length, drop, inl, inr, refl, ap, sym, subst, ◌∙◌, arith}
use Rattle.std.proofs.lemmas.Bool.{cases_eq}
use Rattle.std.proofs.lemmas.Bool.Decides.{nat_tests}
use Rattle.std.proofs.lemmas.List.{length-append, get_or_push}
use Rattle.hy_trees.specs.Nodes.{Node, TakesPage, no_node, node_at, with_free, with_next, with_node}
use Rattle.hy_trees.specs.Trees.{AreFree, times, has_page, height_of, same_as}
use Rattle.hy_trees.specs.Groups.{Taken}
use Rattle.hy_trees.proofs.CountLaws.{times-first, same_as-other, within-has_page}
use Rattle.hy_trees.proofs.NodeLaws.{length-with_node, node_at-more, node_at-with_node_other, node_at-with_node_same}

-- page 0 is never free
pub times-root : (nodes : List Node) (first : ℕ) (free : List ℕ) → AreFree nodes first free → times 0 free ≡ 0
times-root nodes first [] are_free = refl
times-root nodes first (page ∷ free) are_free =
    let rest = times-root nodes (node_at nodes page).next free are_free.3 in
    let here = same_as-other 0 page are_free.1 in
    omega (arith, rest, here)

-- where the free pages say the same, they are the free ones still
pub AreFree-kept : (old new : List Node) (first : ℕ) (free : List ℕ)
    → ((q : ℕ) → 0 < times q free → node_at new q ≡ node_at old q) → AreFree old first free → AreFree new first free
AreFree-kept old new first [] same are_free = are_free
AreFree-kept old new first (page ∷ free) same are_free =
    let here = same page (times-first page free) in (
      are_free.0,
      are_free.1,
      ap (λ (n : Node). n.items) here ∙ are_free.2,
      AreFree-kept old new (node_at new page).next free (λ q there. same q (omega (arith, there)))
          (subst (λ (n : ℕ). AreFree old n free) (ap (λ (n : Node). n.next) (sym here)) are_free.3),
    )

-- a written page that isn't free, and names the next page as before
pub AreFree-with_node : (nodes : List Node) (page : ℕ) (node : Node) (free : List ℕ) → page < length nodes
    → times page free ≡ 0 → node.next ≡ (node_at nodes page).next → AreFree nodes (node_at nodes 0).next free
    → AreFree (with_node nodes page node) (node_at (with_node nodes page node) 0).next free
AreFree-with_node nodes page node free within none next are_free =
    subst (λ (n : ℕ). AreFree (with_node nodes page node) n free) (sym first)
    (AreFree-kept nodes (with_node nodes page node) (node_at nodes 0).next free same are_free)
  where
    first : (node_at (with_node nodes page node) 0).next ≡ (node_at nodes 0).next
    first = elim (cases_eq 0 page) [
      | inl is ↦
          ap (λ (k : ℕ). (node_at (with_node nodes page node) k).next) is
          ∙ ap (λ (n : Node). n.next) (node_at-with_node_same nodes page node within) ∙ next
          ∙ ap (λ (k : ℕ). (node_at nodes k).next) (sym is)
      | inr differs ↦ ap (λ (n : Node). n.next) (node_at-with_node_other nodes page node 0 differs)
    ]

    same : (q : ℕ) → 0 < times q free → node_at (with_node nodes page node) q ≡ node_at nodes q
    same q there = node_at-with_node_other nodes page node q
        (λ is. let at : times q free ≡ 0 = ap (λ k. times k free) is ∙ none in omega (arith, at, there))

-- ---- a page is taken

has_page-more : (nodes : List Node) (node : Node) (q : ℕ)
    → has_page (nodes ++ node ∷ []) q ≡ has_page nodes q + same_as q (length nodes)
has_page-more nodes node q =
    let longer = length-append nodes (node ∷ []) in
    by (length (nodes ++ node ∷ [])) (length nodes) (omega (arith, longer))
  where
    by : (n m : ℕ) → n ≡ m + 1 → cond (ltb q n) 1 0 ≡ cond (ltb q m) 1 0 + same_as q m
    by n m is = grind (arith, nat_tests)

items-more : (nodes : List Node) (q : ℕ) → (node_at (nodes ++ no_node ∷ []) q).items ≡ (node_at nodes q).items
items-more [] zero = refl
items-more [] (suc q) = refl
items-more (node ∷ nodes) zero = refl
items-more (node ∷ nodes) (suc q) = items-more nodes q

items-with_next : (nodes : List Node) (next : ℕ) (q : ℕ)
    → (node_at (with_node nodes 0 (with_next (node_at nodes 0) next)) q).items ≡ (node_at nodes q).items
items-with_next [] next q = refl
items-with_next (node ∷ nodes) next zero = refl
items-with_next (node ∷ nodes) next (suc q) = refl

height-with_next : (nodes : List Node) (next : ℕ)
    → height_of (with_node nodes 0 (with_next (node_at nodes 0) next)) ≡ height_of nodes
height-with_next [] next = refl
height-with_next (node ∷ nodes) next = refl

pub Taken-from_takes : (old new : List Node) (free : List ℕ) (page : ℕ) → 0 < length old
    → AreFree old (node_at old 0).next free → ((q : ℕ) → times q free ≤ has_page old q) → TakesPage old new page
    → Taken old new free (drop 1 free) page
Taken-from_takes old new [] page some are_free once takes =
    let grown = takes.grown are_free in
    subst (λ n. Taken old n [] [] page) (sym grown.1)
    (subst (λ k. Taken old (old ++ no_node ∷ []) [] [] k) (sym grown.0)
    (record {
      longer = (let all = length-append old (no_node ∷ []) in omega (arith, all));
      within = (let all = length-append old (no_node ∷ []) in omega (arith, all));
      differs = omega (arith, some);
      empty = ap (λ (n : Node). n.items) (get_or_push old no_node no_node (length old) refl);
      are_free = ap (λ (n : Node). n.next) (node_at-more old (no_node ∷ []) 0 some) ∙ are_free;
      free = λ q. let more = has_page-more old no_node q in omega (arith, more);
      same = λ q. items-more old q;
      height = ap (λ (n : Node). n.height) (node_at-more old (no_node ∷ []) 0 some);
    }))
Taken-from_takes old new (first ∷ free) page some are_free once takes =
    let taken = takes.free (λ none. are_free.1 (sym are_free.0 ∙ none)) in
    let is : page ≡ first = taken.0 ∙ are_free.0 in
    subst (λ n. Taken old n (first ∷ free) free page) (sym taken.1)
    (subst (λ k. Taken old (with_node old 0 (with_next (node_at old 0) (node_at old k).next)) (first ∷ free) free k)
    (sym is)
    (record {
      longer = (let all = length-with_node old 0 (with_next (node_at old 0) (node_at old first).next) in omega (arith, all));
      within = (let all = length-with_node old 0 (with_next (node_at old 0) (node_at old first).next) in
          let one = once first in let there = times-first first free in
          let w = within-has_page old first (omega (arith, one, there)) in omega (arith, all, w));
      differs = are_free.1;
      empty = items-with_next old (node_at old first).next first ∙ are_free.2;
      are_free = subst (λ (n : ℕ). AreFree (with_node old 0 (with_next (node_at old 0) (node_at old first).next)) n free)
          (sym (ap (λ (n : Node). n.next)
          (node_at-with_node_same old 0 (with_next (node_at old 0) (node_at old first).next) some)))
          (AreFree-kept old (with_node old 0 (with_next (node_at old 0) (node_at old first).next))
          (node_at old first).next free
          (λ q there. node_at-with_node_other old 0 (with_next (node_at old 0) (node_at old first).next) q
          (λ root. let none = times-root old (node_at old first).next free are_free.3 in
          let at : times q free ≡ times 0 free = ap (λ k. times k free) root in
          omega (arith, there, none, at)))
          are_free.3);
      free = λ q.
          let all : has_page (with_node old 0 (with_next (node_at old 0) (node_at old first).next)) q ≡ has_page old q =
          ap (λ (n : ℕ). cond (ltb q n) 1 0)
          (length-with_node old 0 (with_next (node_at old 0) (node_at old first).next)) in
          omega (arith, all);
      same = λ q. items-with_next old (node_at old first).next q;
      height = height-with_next old (node_at old first).next;
    }))

-- ---- a page is given back

pub AreFree-with_free : (nodes : List Node) (page : ℕ) (free : List ℕ) → page < length nodes → page ≢ 0
    → times page free ≡ 0 → AreFree nodes (node_at nodes 0).next free
    → AreFree (with_free nodes page) (node_at (with_free nodes page) 0).next (page ∷ free)
AreFree-with_free nodes page free within differs none are_free = (
  ap (λ (n : Node). n.next) root,
  differs,
  ap (λ (n : Node). n.items) given,
  subst (λ (n : ℕ). AreFree (with_free nodes page) n free) (sym (ap (λ (n : Node). n.next) given))
      (AreFree-kept nodes (with_free nodes page) (node_at nodes 0).next free same are_free),
)
  where
    node : Node
    node = record { items = []; height = (node_at nodes page).height; next = (node_at nodes 0).next }

    between : List Node
    between = with_node nodes page (record { items = []; height = (node_at nodes page).height; next = (node_at nodes 0).next })

    root : node_at (with_free nodes page) 0 ≡ with_next (node_at nodes 0) page
    root = node_at-with_node_same
        (with_node nodes page (record { items = []; height = (node_at nodes page).height; next = (node_at nodes 0).next }))
        0 (with_next (node_at nodes 0) page)
        (let all = length-with_node nodes page
        (record { items = []; height = (node_at nodes page).height; next = (node_at nodes 0).next }) in
        omega (arith, all, within))

    given : node_at (with_free nodes page) page
        ≡ record { items = []; height = (node_at nodes page).height; next = (node_at nodes 0).next }
    given =
        node_at-with_node_other
        (with_node nodes page (record { items = []; height = (node_at nodes page).height; next = (node_at nodes 0).next }))
        0 (with_next (node_at nodes 0) page) page differs
        ∙ node_at-with_node_same nodes page
        (record { items = []; height = (node_at nodes page).height; next = (node_at nodes 0).next }) within

    same : (q : ℕ) → 0 < times q free → node_at (with_free nodes page) q ≡ node_at nodes q
    same q there =
        node_at-with_node_other
        (with_node nodes page (record { items = []; height = (node_at nodes page).height; next = (node_at nodes 0).next }))
        0 (with_next (node_at nodes 0) page) q
        (λ root. let no = times-root nodes (node_at nodes 0).next free are_free in
        let at : times q free ≡ times 0 free = ap (λ k. times k free) root in
        omega (arith, there, no, at))
        ∙ node_at-with_node_other nodes page
        (record { items = []; height = (node_at nodes page).height; next = (node_at nodes 0).next }) q
        (λ is. let at : times q free ≡ times page free = ap (λ k. times k free) is in
        omega (arith, there, none, at))

pub items-with_free : (nodes : List Node) (page q : ℕ) → page < length nodes → page ≢ 0 → q ≢ page
    → (node_at (with_free nodes page) q).items ≡ (node_at nodes q).items
items-with_free nodes page q within root differs = elim (cases_eq q 0) [
  | inl is ↦
      ap (λ (k : ℕ). (node_at (with_free nodes page) k).items) is
      ∙ ap (λ (n : Node). n.items) (node_at-with_node_same
      (with_node nodes page (record { items = []; height = (node_at nodes page).height; next = (node_at nodes 0).next }))
      0 (with_next (node_at nodes 0) page)
      (let all = length-with_node nodes page
      (record { items = []; height = (node_at nodes page).height; next = (node_at nodes 0).next }) in
      omega (arith, all, within)))
      ∙ ap (λ (k : ℕ). (node_at nodes k).items) (sym is)
  | inr other ↦
      ap (λ (n : Node). n.items) (node_at-with_node_other
      (with_node nodes page (record { items = []; height = (node_at nodes page).height; next = (node_at nodes 0).next }))
      0 (with_next (node_at nodes 0) page) q other
      ∙ node_at-with_node_other nodes page
      (record { items = []; height = (node_at nodes page).height; next = (node_at nodes 0).next }) q differs)
]

pub height_of-with_free : (nodes : List Node) (page : ℕ) → page < length nodes
    → height_of (with_free nodes page) ≡ height_of nodes
height_of-with_free nodes page within =
    ap (λ (n : Node). n.height) (node_at-with_node_same
    (with_node nodes page (record { items = []; height = (node_at nodes page).height; next = (node_at nodes 0).next }))
    0 (with_next (node_at nodes 0) page)
    (let all = length-with_node nodes page
    (record { items = []; height = (node_at nodes page).height; next = (node_at nodes 0).next }) in
    omega (arith, all, within)))

pub length-with_free : (nodes : List Node) (page : ℕ) → length (with_free nodes page) ≡ length nodes
length-with_free nodes page =
    length-with_node
    (with_node nodes page (record { items = []; height = (node_at nodes page).height; next = (node_at nodes 0).next }))
    0 (with_next (node_at nodes 0) page)
    ∙ length-with_node nodes page
    (record { items = []; height = (node_at nodes page).height; next = (node_at nodes 0).next })
