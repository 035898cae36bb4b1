-- The way from the root to a page on the way to a key: what becomes of the whole tree where the page's subtree changes.
use Rattle.std.proofs.Common.{◌≡◌, ◌≢◌, true, ◌⊎◌, inl, inr, ℕ, zero, suc, ◌+◌, ◌<◌, ◌≤◌, List, [], ◌∷◌, ◌++◌, length, None, refl, ap, sym, subst, ◌∙◌, arith}
use Rattle.std.proofs.lemmas.List.{append-nil, append_assoc}
use Rattle.hy_trees.specs.Nodes.{Item, Node, node_at}
use Rattle.hy_trees.specs.Trees.{BeginsWith, HasParts, IsBelow, IsFrom, IsLeaf, IsSubtree, KeepItems, Reshapes, StandOnce, entries_below, entries_under, height_of, is_less_bytes, next_key, pages_below, pages_under, same_as, times}
use Rattle.hy_trees.specs.Groups.{IsRooted}
use Rattle.hy_trees.specs.Leaves.{Leads, LeadsToLeaf, leaf_least}
use Rattle.hy_trees.proofs.CountLaws.{has_page-le, same_as-same, times-append, within-has_page}
use Rattle.hy_trees.proofs.LiftLaws.{HasParts-behind, HasParts-front, IsSubtree-child, IsSubtree-of_child, entries_under-of_child, pages_under-of_child, times-child, times-split}
use Rattle.hy_trees.proofs.RiseLaws.{AllByRecursion-append}
use Rattle.hy_trees.proofs.RootLaws.{IsRooted-reshaped, StandOnce-rooted, pages_under-items}
use Rattle.hy_trees.proofs.LeafLaws.{AreAbove-behind, AreBelow-before}

-- ---- the way down

pub Leads-root : (nodes : List Node) (fewest most height root_fewest : ℕ) (least key : List ℕ) → IsFrom least key
    → IsSubtree nodes fewest most height root_fewest least None 0
    → Leads nodes fewest most height root_fewest least key height 0
Leads-root nodes fewest most height root_fewest least key from tree = record {
  top = root_fewest;
  low = least;
  high = None;
  is_top = inr (refl, refl, refl);
  from = from;
  below = tt;
  subtree = tree;
  before = [];
  behind = [];
  are_before = tt;
  are_behind = tt;
  outside = [];
  root = λ less. absurd (omega (arith, less));
  entries = λ other keeps. sym (append-nil (entries_under other height 0));
  pages = λ other keeps q. omega arith;
  subtrees = λ other keeps subtree. subtree;
}

keeps-all : (nodes : List Node) (pages : List ℕ) → KeepItems nodes nodes pages
keeps-all nodes pages q there = refl

module _ (nodes : List Node) (fewest most height root_fewest : ℕ) (least key : List ℕ) where
  -- to a child of the page under whose item the key stands
  pub Leads-child : (depth page : ℕ) (before : List Item) (item : Item) (behind : List Item) → 0 < fewest
      → (leads : Leads nodes fewest most height root_fewest least key (suc depth) page) → suc depth ≤ height
      → (node_at nodes page).items ≡ before ++ (item ∷ behind) → (0 < length before → IsFrom item.key key)
      → IsBelow (next_key behind None) key
      → Leads nodes fewest most height root_fewest least key depth item.number
  Leads-child depth page before item behind some leads deep is above under = record {
    top = fewest;
    low = item.key;
    high = next_key behind leads.high;
    is_top = inl (omega (arith, deep), refl);
    from = from;
    below = below behind under;
    subtree = IsSubtree-child nodes fewest most depth leads.top leads.low leads.high page before item behind is leads.subtree;
    before = leads.before ++ entries_below nodes depth before;
    behind = entries_below nodes depth behind ++ leads.behind;
    are_before = AllByRecursion-append (λ (i : Item). is_less_bytes i.key key ≡ true) leads.before
        (entries_below nodes depth before) leads.are_before
        (AreBelow-before nodes fewest most some depth key before item from
        (HasParts-front (IsSubtree nodes fewest most depth fewest) before (item ∷ behind) leads.high parts));
    are_behind = AllByRecursion-append (λ (i : Item). is_less_bytes key i.key ≡ true) (entries_below nodes depth behind)
        leads.behind
        (AreAbove-behind nodes fewest most some depth key behind leads.high (below behind under)
        (HasParts-behind (IsSubtree nodes fewest most depth fewest) before (item ∷ behind) leads.high parts).1)
        leads.are_behind;
    outside = leads.outside ++ (page ∷ (pages_below nodes depth before ++ pages_below nodes depth behind));
    root = λ less.
        let three = times-append 0 leads.outside (page ∷ (pages_below nodes depth before ++ pages_below nodes depth behind)) in
        let one = root-there leads.is_top in
        omega (arith, three, one);
    entries = λ other keeps.
        leads.entries other (outer other keeps)
        ∙ ap (λ e. leads.before ++ (e ++ leads.behind))
        (entries_under-of_child nodes other depth page before item behind is (same-page other keeps) (front other keeps)
        (back other keeps))
        ∙ regroup leads.before (entries_below nodes depth before) (entries_under other depth item.number)
        (entries_below nodes depth behind) leads.behind;
    pages = λ other keeps q.
        let one = leads.pages other (outer other keeps) q in
        let two = times-split q page (pages_under other (suc depth) page) (pages_below nodes depth before)
        (pages_under other depth item.number) (pages_below nodes depth behind) []
        (pages_under-of_child nodes other depth page before item behind is (same-page other keeps) (front other keeps)
        (back other keeps)) in
        let none = times-append q (pages_under other (suc depth) page) [] in
        let three = times-append q leads.outside (page ∷ (pages_below nodes depth before ++ pages_below nodes depth behind)) in
        let four = times-append q (pages_below nodes depth before) (pages_below nodes depth behind) in
        omega (arith, one, two, none, three, four);
    subtrees = λ other keeps child.
        leads.subtrees other (outer other keeps)
        (IsSubtree-of_child nodes other depth page before item behind is (same-page other keeps) (front other keeps)
        (back other keeps) fewest most leads.top leads.low leads.high leads.subtree child);
  }
    where
      root-there : ((suc depth < height) × (leads.top ≡ fewest)) ⊎ ((suc depth ≡ height) × (page ≡ 0) × (leads.top ≡ root_fewest))
          → 0 < times 0 leads.outside + same_as 0 page
      root-there (inl less) = let there = leads.root less.0 in omega (arith, there)
      root-there (inr root) = let one : same_as 0 page ≡ 1 = ap (same_as 0) root.1 in omega (arith, one)

      regroup : (a b c d e : List Item) → a ++ ((b ++ (c ++ d)) ++ e) ≡ (a ++ b) ++ (c ++ (d ++ e))
      regroup a b c d e = simp append_assoc

      parts : HasParts (IsSubtree nodes fewest most depth fewest) (before ++ (item ∷ behind)) leads.high
      parts = subst (λ i. HasParts (IsSubtree nodes fewest most depth fewest) i leads.high) is leads.subtree.parts

      first : (front : List Item) → BeginsWith leads.low (front ++ (item ∷ behind)) → (0 < length front → IsFrom item.key key)
          → IsFrom item.key key
      first [] begin from = subst (λ k. IsFrom k key) (sym begin) leads.from
      first (x ∷ front) begin from = from (omega arith)

      from : IsFrom item.key key
      from = first before (subst (BeginsWith leads.low) is leads.subtree.begin) above

      below : (items : List Item) → IsBelow (next_key items None) key → IsBelow (next_key items leads.high) key
      below [] none = leads.below
      below (x ∷ items) less = less

      all : (other : List Node)
          → KeepItems nodes other (leads.outside ++ (page ∷ (pages_below nodes depth before ++ pages_below nodes depth behind)))
          → (q : ℕ) → 0 < times q leads.outside + (same_as q page + (times q (pages_below nodes depth before)
          + times q (pages_below nodes depth behind))) → (node_at other q).items ≡ (node_at nodes q).items
      all other keeps q there =
          keeps q
          (let three = times-append q leads.outside (page ∷ (pages_below nodes depth before ++ pages_below nodes depth behind)) in
          let four = times-append q (pages_below nodes depth before) (pages_below nodes depth behind) in
          omega (arith, three, four, there))

      outer : (other : List Node)
          → KeepItems nodes other (leads.outside ++ (page ∷ (pages_below nodes depth before ++ pages_below nodes depth behind)))
          → KeepItems nodes other leads.outside
      outer other keeps q there = all other keeps q (omega (arith, there))

      same-page : (other : List Node)
          → KeepItems nodes other (leads.outside ++ (page ∷ (pages_below nodes depth before ++ pages_below nodes depth behind)))
          → (node_at other page).items ≡ (node_at nodes page).items
      same-page other keeps = all other keeps page (let one = same_as-same page in omega (arith, one))

      front : (other : List Node)
          → KeepItems nodes other (leads.outside ++ (page ∷ (pages_below nodes depth before ++ pages_below nodes depth behind)))
          → KeepItems nodes other (pages_below nodes depth before)
      front other keeps q there = all other keeps q (omega (arith, there))

      back : (other : List Node)
          → KeepItems nodes other (leads.outside ++ (page ∷ (pages_below nodes depth before ++ pages_below nodes depth behind)))
          → KeepItems nodes other (pages_below nodes depth behind)
      back other keeps q there = all other keeps q (omega (arith, there))

  -- ---- the page's subtree takes another form

  module _ (depth page : ℕ) (leads : Leads nodes fewest most height root_fewest least key depth page)
      (new : List Node) (free is_free : List ℕ) (once : StandOnce nodes free height 0)
      (reshapes : Reshapes nodes new free is_free depth page) where
    counted : (q : ℕ) → times q (pages_under nodes height 0) ≡ times q leads.outside + times q (pages_under nodes depth page)
    counted q = leads.pages nodes (keeps-all nodes leads.outside) q

    pub StandOnce-leads : StandOnce nodes free depth page
    StandOnce-leads q =
        let all = once q in let split = counted q in
        let one = times-append q (pages_under nodes height 0) free in
        let two = times-append q (pages_under nodes depth page) free in
        omega (arith, all, split, one, two)

    pub keeps-outside : KeepItems nodes new leads.outside
    keeps-outside q there =
        let all = once q in let split = counted q in let most = has_page-le nodes q in
        let one = times-append q (pages_under nodes height 0) free in
        let two = times-append q (pages_under nodes depth page) free in
        reshapes.others q (within-has_page nodes q (omega (arith, all, split, one, there)))
        (omega (arith, all, split, one, two, most, there))

    -- the whole tree does
    pub Reshapes-leads : Reshapes nodes new free is_free height 0
    Reshapes-leads = record {
      longer = reshapes.longer;
      entries = leads.entries new keeps-outside ∙ ap (λ e. leads.before ++ (e ++ leads.behind)) reshapes.entries
          ∙ sym (leads.entries nodes (keeps-all nodes leads.outside));
      are_free = reshapes.are_free;
      places = λ q.
          let was = counted q in let is = leads.pages new keeps-outside q in
          let places = reshapes.places q in
          let one = times-append q (pages_under nodes height 0) free in
          let two = times-append q (pages_under nodes depth page) free in
          let three = times-append q (pages_under new height 0) is_free in
          let four = times-append q (pages_under new depth page) is_free in
          omega (arith, was, is, places, one, two, three, four);
      others = λ q within none.
          let was = counted q in
          let one = times-append q (pages_under nodes height 0) free in
          let two = times-append q (pages_under nodes depth page) free in
          reshapes.others q within (omega (arith, was, one, two, none));
      height = reshapes.height;
    }

    -- and is a tree where the part under the page is
    pub IsSubtree-leads : IsSubtree new fewest most depth leads.top leads.low leads.high page
        → IsSubtree new fewest most height root_fewest least None 0
    IsSubtree-leads part = leads.subtrees new keeps-outside part

    -- and the key leads to the page as before
    pub Leads-reshaped : IsSubtree new fewest most depth leads.top leads.low leads.high page
        → Leads new fewest most height root_fewest least key depth page
    Leads-reshaped part = record {
      top = leads.top;
      low = leads.low;
      high = leads.high;
      is_top = leads.is_top;
      from = leads.from;
      below = leads.below;
      subtree = part;
      before = leads.before;
      behind = leads.behind;
      are_before = leads.are_before;
      are_behind = leads.are_behind;
      outside = leads.outside;
      root = leads.root;
      entries = λ other keeps. leads.entries other (through other keeps);
      pages = λ other keeps q. leads.pages other (through other keeps) q;
      subtrees = λ other keeps subtree. leads.subtrees other (through other keeps) subtree;
    }
      where
        through : (other : List Node) → KeepItems new other leads.outside → KeepItems nodes other leads.outside
        through other keeps q there = keeps q there ∙ keeps-outside q there

  -- no child is the root
  pub child-not_root : (depth page : ℕ) (free : List ℕ) → StandOnce nodes free height 0
      → (leads : Leads nodes fewest most height root_fewest least key (suc depth) page) (before : List Item) (item : Item)
      (behind : List Item) → (node_at nodes page).items ≡ before ++ (item ∷ behind) → item.number ≢ 0
  child-not_root depth page free once leads before item behind is root =
      let all = once 0 in let most = has_page-le nodes 0 in
      let whole = times-append 0 (pages_under nodes height 0) free in
      let split = leads.pages nodes (keeps-all nodes leads.outside) 0 in
      let part = times-child nodes depth page before item behind is [] 0 in
      let none = times-append 0 (pages_under nodes (suc depth) page) [] in
      let below = pages_under-items nodes depth item.number 0 in
      let one : same_as 0 item.number ≡ 1 = ap (same_as 0) root in
      let above = there leads.is_top in
      omega (arith, all, most, whole, split, part, none, below, one, above)
    where
      there : ((suc depth < height) × (leads.top ≡ fewest)) ⊎ ((suc depth ≡ height) × (page ≡ 0) × (leads.top ≡ root_fewest))
          → 0 < times 0 leads.outside + same_as 0 page
      there (inl less) = let outer = leads.root less.0 in omega (arith, outer)
      there (inr top) = let one : same_as 0 page ≡ 1 = ap (same_as 0) top.1 in omega (arith, one)

  -- a leaf to which the key leads
  pub LeadsToLeaf-leads : (leaf : ℕ) → Leads nodes fewest most height root_fewest least key zero leaf
      → ((q : ℕ) → times q (pages_under nodes height 0) ≤ 1)
      → LeadsToLeaf nodes fewest most height root_fewest least None 0 key leaf
  LeadsToLeaf-leads leaf leads once = record {
    front = leads.before;
    behind = leads.behind;
    from = leads.low;
    to = leads.high;
    there = (let all = leads.pages nodes (keeps-all nodes leads.outside) leaf in let one = same_as-same leaf in
        omega (arith, all, one));
    is_leaf = subst (λ n. IsLeaf n most leads.low leads.high (node_at nodes leaf).items) (least-is height leads.is_top)
        leads.subtree;
    above = leads.from;
    below = leads.below;
    less = leads.are_before;
    greater = leads.are_behind;
    entries = leads.entries nodes (keeps-all nodes leads.outside);
    replaced = λ new same. (
      leads.entries new (keeps new same),
      λ q.
          let was = leads.pages nodes (keeps-all nodes leads.outside) q in
          let is = leads.pages new (keeps new same) q in
          omega (arith, was, is),
      λ is_leaf. leads.subtrees new (keeps new same)
          (subst (λ n. IsLeaf n most leads.low leads.high (node_at new leaf).items) (sym (least-is height leads.is_top))
          is_leaf),
    );
  }
    where
      least-is : (h : ℕ) → ((0 < h) × (leads.top ≡ fewest)) ⊎ ((0 ≡ h) × (leaf ≡ 0) × (leads.top ≡ root_fewest))
          → leads.top ≡ leaf_least h root_fewest fewest
      least-is zero (inl below) = absurd (let none = below.0 in omega (arith, none))
      least-is zero (inr root) = root.2
      least-is (suc h) (inl below) = below.1
      least-is (suc h) (inr root) = absurd (let none = root.0 in omega (arith, none))

      keeps : (new : List Node)
          → ((q : ℕ) → q ≢ leaf → 0 < times q (pages_under nodes height 0) → (node_at new q).items ≡ (node_at nodes q).items)
          → KeepItems nodes new leads.outside
      keeps new same q there =
          let all = leads.pages nodes (keeps-all nodes leads.outside) q in
          let most = once q in
          same q
          (λ is. let one : same_as q leaf ≡ 1 = ap (same_as q) (sym is) ∙ same_as-same q in
          omega (arith, all, most, there, one))
          (omega (arith, all, there))

-- ---- the tree of a segment

pub IsRooted-leads : (fewest most top : ℕ) (least key : List ℕ) (old new : List Node) (free is_free : List ℕ)
    (depth page : ℕ) → IsRooted fewest most top least old free
    → (leads : Leads old fewest most (height_of old) top least key depth page)
    → Reshapes old new free is_free depth page → IsSubtree new fewest most depth leads.top leads.low leads.high page
    → IsRooted fewest most top least new is_free × Reshapes old new free is_free (height_of old) 0
    × Leads new fewest most (height_of new) top least key depth page
IsRooted-leads fewest most top least key old new free is_free depth page rooted leads reshapes part =
    let once = StandOnce-rooted fewest most top least old free rooted in
    let whole = Reshapes-leads old fewest most (height_of old) top least key depth page leads new free is_free once
    reshapes in (
      IsRooted-reshaped fewest most top top least old new free is_free rooted whole
          (IsSubtree-leads old fewest most (height_of old) top least key depth page leads new free is_free once reshapes
          part),
      whole,
      subst (λ h. Leads new fewest most h top least key depth page) (sym reshapes.height)
          (Leads-reshaped old fewest most (height_of old) top least key depth page leads new free is_free once reshapes part),
    )
