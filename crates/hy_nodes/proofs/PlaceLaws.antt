-- A search for a key among the items of a page, whose keys rise.
use Rattle.std.proofs.Common.{◌≡◌, ℕ, ◌+◌, ◌-◌, ◌*◌, ◌<◌, ◌≤◌, Bool, true, false, not, List, refl, subst, sym, ap, ◌∙◌, arith, inl, inr}
use Rattle.std.proofs.Math.Nat.{mul-le-mul_right}
use Rattle.std.proofs.lemmas.Bool.{false≢true, cases_eq}
use Rattle.hy_nodes.specs.Nodes.{item_count, item_offset, key_at}
use Rattle.hy_trees.specs.Nodes.{item_width}
use Rattle.hy_nodes.specs.Places.{AreRising, IsBound, IsChildPlace, IsSought, is_below_at}
use Rattle.hy_trees.specs.Trees.{is_less_bytes}
use Rattle.hy_trees.proofs.OrderLaws.{less-from_not, less-one_way, less-trans}

-- an item before one that begins within a page begins within it too
pub item_offset-before : (key_width place other : ℕ) → place ≤ other → item_offset key_width place ≤ item_offset key_width other
item_offset-before key_width place other before =
    let fewer : place * item_width key_width ≤ other * item_width key_width = mul-le-mul_right (item_width key_width) before in
    omega (arith, fewer)

-- so many bytes lie between the begins of two items
pub item_offset-between : (key_width start end : ℕ) → start ≤ end → item_offset key_width end - item_offset key_width start ≡ (end - start) * item_width key_width
item_offset-between key_width start end ordered =
    let all : (end - start + start) * item_width key_width ≡ end * item_width key_width = ap (λ n. n * item_width key_width) (let same : end - start + start ≡ end = omega (arith, ordered) in same) in
    omega (arith, all)

-- items that move to where others end, which are put before them, end where so many items end
pub item_offset-moved : (key_width place more rest : ℕ) → item_offset key_width place + (more * item_width key_width + rest * item_width key_width) ≡ item_offset key_width (place + (more + rest))
item_offset-moved key_width place more rest = omega arith

module _ (key_width : ℕ) (page key : List ℕ) (count : ℕ) (rising : AreRising key_width page count) where
  -- an item before one that stands before the key does so too
  pub is_below-before : (k middle : ℕ) → k ≤ middle → middle < count → is_below_at key_width page key middle ≡ true → is_below_at key_width page key k ≡ true
  is_below-before k middle before within below =
      elim (cases_eq k middle) [
        | inl same ↦ ap (is_below_at key_width page key) same ∙ below
        | inr differs ↦ less-trans _ _ key (rising k middle (omega arith) within) below
      ]

  -- an item behind one that doesn't stand before the key doesn't either
  pub is_below-behind : (middle k : ℕ) → middle ≤ k → k < count → is_below_at key_width page key middle ≡ false → is_below_at key_width page key k ≡ false
  is_below-behind middle k behind within not_below = by (is_below_at key_width page key k) refl
    where
      by : (b : Bool) → is_below_at key_width page key k ≡ b → is_below_at key_width page key k ≡ false
      by true is = absurd (false≢true (sym not_below ∙ is_below-before middle k behind within is))
      by false is = is

  -- an item behind one that doesn't stand before the key stands behind it
  pub above-behind : (place k : ℕ) → place < k → k < count → is_below_at key_width page key place ≡ false → is_less_bytes key (key_at key_width page k) ≡ true
  above-behind place k behind within not_below = less-from_not _ key _ not_below (rising place k behind within)

  -- all stand before the key, where the last one does
  pub IsBound-all : (last : ℕ) → count ≡ last + 1 → is_below_at key_width page key last ≡ true → IsBound (is_below_at key_width page key) count count
  IsBound-all last all below = record {
    within = omega arith;
    before = λ k before. is_below-before k last (omega (arith, all, before)) (omega (arith, all)) below;
    behind = λ k from within. absurd (omega (arith, from, within));
  }

  -- the last one doesn't, and so many of those before it do
  pub IsBound-before : (last place : ℕ) → count ≡ last + 1 → is_below_at key_width page key last ≡ false → IsBound (is_below_at key_width page key) last place → IsBound (is_below_at key_width page key) count place
  IsBound-before last place all not_below bound = record {
    within = omega (arith, all, bound.within);
    before = bound.before;
    behind = λ k from within. elim (cases_eq k last) [
      | inl same ↦ ap (is_below_at key_width page key) same ∙ not_below
      | inr differs ↦ bound.behind k from (omega (arith, all, within, differs))
    ];
  }

  -- what a search answers, where there is no such item, and where there is one
  pub IsSought-none : count ≡ item_count page → (place : ℕ) → IsBound (is_below_at key_width page key) count place → place ≡ count → IsSought key_width page key place false
  IsSought-none all place bound end = record {
    bound = subst (λ n. IsBound (is_below_at key_width page key) n place) all bound;
    there = λ is. absurd (false≢true is);
    absent = λ is within. absurd (omega (arith, all, end, within));
  }

  pub IsSought-at : count ≡ item_count page → (place : ℕ) (above : Bool) → IsBound (is_below_at key_width page key) count place → place < count → above ≡ is_less_bytes key (key_at key_width page place) → IsSought key_width page key place (not above)
  IsSought-at all place true bound within is = record {
    bound = subst (λ n. IsBound (is_below_at key_width page key) n place) all bound;
    there = λ is. absurd (false≢true is);
    absent = λ not_there some. sym is;
  }
  IsSought-at all place false bound within is = record {
    bound = subst (λ n. IsBound (is_below_at key_width page key) n place) all bound;
    there = λ is_there. (omega (arith, all, within), sym is);
    absent = λ not_there. absurd (false≢true (sym not_there));
  }

-- the child under which a key stands
module _ (key_width : ℕ) (page key : List ℕ) (rising : AreRising key_width page (item_count page)) where
  pub IsChildPlace-first : 0 < item_count page → IsSought key_width page key 0 false → IsChildPlace key_width page key 0
  IsChildPlace-first some sought = record {
    within = some;
    from = λ none. absurd (omega (arith, none));
    behind = λ k behind within. above-behind key_width page key (item_count page) rising 0 k behind within (sought.bound.behind 0 (omega arith) some);
  }

module _ (key_width : ℕ) (page key : List ℕ) (rising : AreRising key_width page (item_count page)) (place : ℕ) where
  pub IsChildPlace-there : IsSought key_width page key place true → IsChildPlace key_width page key place
  IsChildPlace-there sought = record {
    within = (sought.there refl).0;
    from = λ some. (sought.there refl).1;
    behind = λ k behind within. above-behind key_width page key (item_count page) rising place k behind within (sought.bound.behind place (omega arith) (sought.there refl).0);
  }

  pub IsChildPlace-before : IsSought key_width page key (place + 1) false → IsChildPlace key_width page key place
  IsChildPlace-before sought = record {
    within = omega (arith, sought.bound.within);
    from = λ some. less-one_way _ key (sought.bound.before place (omega arith));
    behind = λ k behind within. elim (cases_eq k (place + 1)) [
      | inl same ↦ ap (λ at. is_less_bytes key (key_at key_width page at)) same ∙ sought.absent refl (omega (arith, same, within))
      | inr differs ↦ above-behind key_width page key (item_count page) rising (place + 1) k (omega (arith, behind, differs)) within (sought.bound.behind (place + 1) (omega arith) (omega (arith, behind, differs, within)))
    ];
  }
