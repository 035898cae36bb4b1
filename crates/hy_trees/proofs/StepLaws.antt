-- The writes of a split, a join and a move, one behind another, are these changes.
use Rattle.std.proofs.Common.{◌≡◌, ◌≢◌, ℕ, suc, ◌+◌, ◌-◌, ◌<◌, ◌≤◌, List, [], ◌∷◌, ◌++◌, length, get_or, take, drop, set, refl, ap, sym, subst, ◌∙◌, arith}
use Rattle.std.proofs.Math.Path.{ap₂}
use Rattle.std.proofs.lemmas.List.{append-nil, append_assoc, drop_all, take-append-drop}
use Rattle.hy_trees.specs.Nodes.{Item, Node, no_item, node_at, with_free, with_height, with_key, with_more, with_node, without_items}
use Rattle.hy_trees.specs.Trees.{AreFree, BeginsWith, StandOnce, has_page, height_of, numbers, same_as, times}
use Rattle.hy_trees.specs.Groups.{Joins, Lowers, Raises, SetsItems, Shares, Splits, Taken}
use Rattle.hy_trees.proofs.CountLaws.{differs-from_same_as, has_page-le, has_page-longer, has_page-same, has_page-yes, same_as-same, within-has_page}
use Rattle.hy_trees.proofs.FreeLaws.{AreFree-with_free, height_of-with_free, items-with_free, length-with_free, times-root}
use Rattle.hy_trees.proofs.GroupLaws.{times-three}
use Rattle.hy_trees.proofs.NodeLaws.{length-with_node}
use Rattle.hy_trees.proofs.WriteLaws.{AreFree-with_height, height_of-with_height, items-with_height}
use Rattle.hy_trees.proofs.ListLaws.{put_behind, put_last, set_behind, split_at, split_at_two, take_behind, take_front, take_last}

-- how often the page, and children that stand side by side, stand in the tree and among the free pages
module _ (nodes : List Node) (free : List ℕ) (depth page : ℕ) (before middle behind : List Item)
    (items : (node_at nodes page).items ≡ before ++ (middle ++ behind))
    (once : StandOnce nodes free (suc depth) page) where
  pub stand-once : (q : ℕ) → same_as q page + times q (numbers middle) + times q free ≤ has_page nodes q
  stand-once q =
      let all = once q in
      let split = times-three nodes depth page before middle behind items free q in
      omega (arith, all, split)

begins-with_first : (items : List Item) → BeginsWith (get_or items 0 no_item).key items
begins-with_first [] = tt
begins-with_first (item ∷ items) = refl

-- ---- a split

module _ (old taken moved cut new : List Node) (free is_free : List ℕ) (depth page place at count right : ℕ) (item : Item)
    (key : List ℕ)
    (once : StandOnce old free (suc depth) page)
    (within : place < length (node_at old page).items)
    (is_item : get_or (node_at old page).items place no_item ≡ item)
    (is_count : count ≡ length (node_at old item.number).items)
    (takes : Taken old taken free is_free right)
    (first : SetsItems taken moved right
    (with_more (node_at taken right) 0 (take (count - at) (drop at (node_at taken item.number).items))).items)
    (second : SetsItems moved cut item.number (without_items (node_at moved item.number) at count).items)
    (is_key : key ≡ (get_or (node_at cut right).items 0 no_item).key)
    (third : SetsItems cut new page
    (with_more (node_at cut page) (place + 1) (record { key = key; number = right } ∷ [])).items) where
  split-items : (node_at old page).items
      ≡ take place (node_at old page).items ++ (item ∷ drop (place + 1) (node_at old page).items)
  split-items =
      split_at no_item (node_at old page).items place within
      ∙ ap (λ i. take place (node_at old page).items ++ (i ∷ drop (place + 1) (node_at old page).items)) is_item

  counts : (q : ℕ) → same_as q page + same_as q item.number + times q free ≤ has_page old q
  counts q =
      let all = stand-once old free depth page (take place (node_at old page).items) (item ∷ [])
      (drop (place + 1) (node_at old page).items) split-items once q in
      omega (arith, all)

  child-page : item.number ≢ page
  child-page = differs-from_same_as item.number page
      (let all = counts item.number in let one = same_as-same item.number in let most = has_page-le old item.number in
      omega (arith, all, one, most))

  right-page : right ≢ page
  right-page = differs-from_same_as right page
      (let all = counts right in let one = same_as-same right in let most = has_page-le taken right in
      let free = takes.free right in omega (arith, all, one, most, free))

  right-child : right ≢ item.number
  right-child = differs-from_same_as right item.number
      (let all = counts right in let one = same_as-same right in let most = has_page-le taken right in
      let free = takes.free right in omega (arith, all, one, most, free))

  not-free : (q : ℕ) → 0 < same_as q page + same_as q item.number + same_as q right → times q is_free ≡ 0
  not-free q there =
      let all = counts q in let most = has_page-le taken q in let least = has_page-longer old taken q takes.longer in
      let free = takes.free q in omega (arith, all, there, most, least, free)

  child-items : (node_at moved item.number).items ≡ (node_at old item.number).items
  child-items = first.others item.number (λ same. right-child (sym same)) ∙ takes.same item.number

  cut-items : (node_at cut right).items ≡ drop at (node_at old item.number).items
  cut-items =
      second.others right right-child ∙ first.at
      ∙ ap (λ i. take (count - at) (drop at (node_at taken item.number).items) ++ i) takes.empty
      ∙ append-nil (take (count - at) (drop at (node_at taken item.number).items))
      ∙ ap (λ i. take (count - at) (drop at i)) (takes.same item.number)
      ∙ take_last (node_at old item.number).items at count is_count

  -- what the two pages have then
  pub items-right : (node_at new right).items ≡ drop at (node_at old item.number).items
  items-right = third.others right right-page ∙ cut-items

  pub items-left : (node_at new item.number).items ≡ take at (node_at old item.number).items
  items-left =
      third.others item.number child-page ∙ second.at
      ∙ ap (λ i. take at i ++ drop count i) child-items
      ∙ take_front (node_at old item.number).items at count is_count

  page-items : (node_at cut page).items ≡ (node_at old page).items
  page-items =
      second.others page (λ same. child-page (sym same)) ∙ first.others page (λ same. right-page (sym same))
      ∙ takes.same page

  pub Splits-written : Splits old new free is_free page (take place (node_at old page).items) item
      (record { key = key; number = right }) (drop (place + 1) (node_at old page).items)
  Splits-written = record {
    longer = (let a = first.pages in let b = second.pages in let c = third.pages in let d = takes.longer in
        omega (arith, a, b, c, d));
    old_items = split-items;
    new_items = third.at
        ∙ ap (λ i. take (place + 1) i ++ ((record { key = key; number = right } ∷ []) ++ drop (place + 1) i)) page-items
        ∙ put_behind no_item (node_at old page).items place (record { key = key; number = right }) within
        ∙ ap (λ i. take place (node_at old page).items
        ++ (i ∷ (record { key = key; number = right } ∷ drop (place + 1) (node_at old page).items))) is_item;
    halves = ap₂ (λ a b. a ++ b) items-left items-right ∙ take-append-drop at (node_at old item.number).items;
    key = subst (λ k. BeginsWith k (node_at new right).items) (sym is_key)
        (subst (BeginsWith (get_or (node_at cut right).items 0 no_item).key) (sym (third.others right right-page))
        (begins-with_first (node_at cut right).items));
    are_free = third.free is_free (not-free page (let one = same_as-same page in omega (arith, one)))
        (second.free is_free (not-free item.number (let one = same_as-same item.number in omega (arith, one)))
        (first.free is_free (not-free right (let one = same_as-same right in omega (arith, one))) takes.are_free));
    free = λ q.
        let same = has_page-same taken new q (third.pages ∙ second.pages ∙ first.pages) in
        let free = takes.free q in omega (arith, same, free);
    others = λ q inside differs other none.
        third.others q differs ∙ second.others q other
        ∙ first.others q (λ same.
        let one = same_as-same right in let all = takes.free right in let most = has_page-le taken right in
        let had : has_page old right ≡ 1 = ap (has_page old) (sym same) ∙ has_page-yes old q inside in
        let no : times right free ≡ 0 = ap (λ k. times k free) (sym same) ∙ none in
        omega (arith, one, all, most, had, no))
        ∙ takes.same q;
    height = third.height ∙ second.height ∙ first.height ∙ takes.height;
  }

-- ---- two children that stand side by side

module _ (old : List Node) (free : List ℕ) (depth page place : ℕ) (one two : Item)
    (once : StandOnce old free (suc depth) page)
    (within : place + 1 < length (node_at old page).items)
    (is_one : get_or (node_at old page).items place no_item ≡ one)
    (is_two : get_or (node_at old page).items (place + 1) no_item ≡ two)
    (was_free : AreFree old (node_at old 0).next free) where
  pair-items : (node_at old page).items
      ≡ take place (node_at old page).items ++ (one ∷ (two ∷ drop (place + 2) (node_at old page).items))
  pair-items =
      split_at_two no_item (node_at old page).items place within
      ∙ ap₂ (λ i j. take place (node_at old page).items ++ (i ∷ (j ∷ drop (place + 2) (node_at old page).items))) is_one
      is_two

  pair-counts : (q : ℕ) → same_as q page + (same_as q one.number + same_as q two.number) + times q free ≤ has_page old q
  pair-counts q =
      let all = stand-once old free depth page (take place (node_at old page).items) (one ∷ (two ∷ []))
      (drop (place + 2) (node_at old page).items) pair-items once q in
      omega (arith, all)

  one-page : one.number ≢ page
  one-page = differs-from_same_as one.number page
      (let all = pair-counts one.number in let is = same_as-same one.number in let most = has_page-le old one.number in
      omega (arith, all, is, most))

  two-page : two.number ≢ page
  two-page = differs-from_same_as two.number page
      (let all = pair-counts two.number in let is = same_as-same two.number in let most = has_page-le old two.number in
      omega (arith, all, is, most))

  two-one : two.number ≢ one.number
  two-one = differs-from_same_as two.number one.number
      (let all = pair-counts two.number in let is = same_as-same two.number in let most = has_page-le old two.number in
      omega (arith, all, is, most))

  pair-free : (q : ℕ) → 0 < same_as q page + (same_as q one.number + same_as q two.number) → times q free ≡ 0
  pair-free q there =
      let all = pair-counts q in let most = has_page-le old q in omega (arith, all, there, most)

  pair-within : (q : ℕ) → 0 < same_as q page + (same_as q one.number + same_as q two.number) → q < length old
  pair-within q there = let all = pair-counts q in within-has_page old q (omega (arith, all, there))

  -- all items of the second one stand behind those of the first one; the second one is freed
  module _ (joined cut : List Node) (count more : ℕ) (root : two.number ≢ 0)
      (is_count : count ≡ length (node_at old one.number).items) (is_more : more ≡ length (node_at old two.number).items)
      (first : SetsItems old joined one.number
      (with_more (node_at old one.number) count (take (more - 0) (drop 0 (node_at old two.number).items))).items)
      (second : SetsItems joined cut page (without_items (node_at joined page) (place + 1) (place + 2)).items) where
    inside : two.number < length cut
    inside =
        let a = first.pages in let b = second.pages in
        let c = pair-within two.number (let is = same_as-same two.number in omega (arith, is)) in
        omega (arith, a, b, c)

    items-freed : (q : ℕ) → q ≢ two.number → (node_at (with_free cut two.number) q).items ≡ (node_at cut q).items
    items-freed q differs = items-with_free cut two.number q inside root differs

    pub Joins-written : Joins old (with_free cut two.number) free page (take place (node_at old page).items) one two
        (drop (place + 2) (node_at old page).items)
    Joins-written = record {
      pages = length-with_free cut two.number ∙ second.pages ∙ first.pages;
      old_items = pair-items;
      new_items = items-freed page (λ same. two-page (sym same)) ∙ second.at
          ∙ ap (λ i. take (place + 1) i ++ drop (place + 2) i) (first.others page (λ same. one-page (sym same)))
          ∙ take_behind no_item (node_at old page).items place (omega (arith, within))
          ∙ ap (λ i. take place (node_at old page).items ++ (i ∷ drop (place + 2) (node_at old page).items)) is_one;
      joined = items-freed one.number (λ same. two-one (sym same)) ∙ second.others one.number one-page ∙ first.at
          ∙ put_last (node_at old one.number).items (take (more - 0) (drop 0 (node_at old two.number).items)) count is_count
          ∙ ap (λ i. (node_at old one.number).items ++ i) (take_last (node_at old two.number).items 0 more is_more);
      are_free = AreFree-with_free cut two.number free inside root
          (pair-free two.number (let is = same_as-same two.number in omega (arith, is)))
          (second.free free (pair-free page (let is = same_as-same page in omega (arith, is)))
          (first.free free (pair-free one.number (let is = same_as-same one.number in omega (arith, is))) was_free));
      others = λ q below differs other another.
          items-freed q another ∙ second.others q differs ∙ first.others q other;
      height = height_of-with_free cut two.number inside ∙ second.height ∙ first.height;
    }

  -- another key at the second one
  keyed-items : (cut new : List Node) (key : List ℕ) → (node_at cut page).items ≡ (node_at old page).items
      → SetsItems cut new page (with_key (node_at cut page) (place + 1) key).items
      → (node_at new page).items ≡ take place (node_at old page).items
      ++ (one ∷ (record { key = key; number = two.number } ∷ drop (place + 2) (node_at old page).items))
  keyed-items cut new key same written =
      written.at
      ∙ ap (λ i. set i (place + 1) (record { key = key; number = (get_or i (place + 1) no_item).number })) same
      ∙ set_behind no_item (node_at old page).items place
      (record { key = key; number = (get_or (node_at old page).items (place + 1) no_item).number }) within
      ∙ ap₂ (λ i (j : Item). take place (node_at old page).items
      ++ (i ∷ (record { key = key; number = j.number } ∷ drop (place + 2) (node_at old page).items))) is_one is_two

  -- the first items of the second one move behind those of the first one
  module _ (grown cut new : List Node) (count moved : ℕ) (key : List ℕ)
      (is_count : count ≡ length (node_at old one.number).items)
      (first : SetsItems old grown one.number
      (with_more (node_at old one.number) count (take (moved - 0) (drop 0 (node_at old two.number).items))).items)
      (second : SetsItems grown cut two.number (without_items (node_at grown two.number) 0 moved).items)
      (is_key : key ≡ (get_or (node_at cut two.number).items 0 no_item).key)
      (third : SetsItems cut new page (with_key (node_at cut page) (place + 1) key).items) where
    cut-second : (node_at cut two.number).items ≡ drop moved (node_at old two.number).items
    cut-second = second.at ∙ ap (λ i. drop moved i) (first.others two.number two-one)

    pub items-shared_left_one : (node_at new one.number).items
        ≡ (node_at old one.number).items ++ take moved (node_at old two.number).items
    items-shared_left_one =
        third.others one.number one-page ∙ second.others one.number (λ same. two-one (sym same)) ∙ first.at
        ∙ put_last (node_at old one.number).items (take (moved - 0) (drop 0 (node_at old two.number).items)) count is_count
        ∙ ap (λ n. (node_at old one.number).items ++ take n (node_at old two.number).items)
        (let same : moved - 0 ≡ moved = omega arith in same)

    pub items-shared_left_two : (node_at new two.number).items ≡ drop moved (node_at old two.number).items
    items-shared_left_two = third.others two.number two-page ∙ cut-second

    pub Shares-written_left : Shares old new free page (take place (node_at old page).items) one two key
        (drop (place + 2) (node_at old page).items)
    Shares-written_left = record {
      pages = third.pages ∙ second.pages ∙ first.pages;
      old_items = pair-items;
      new_items = keyed-items cut new key
          (second.others page (λ same. two-page (sym same)) ∙ first.others page (λ same. one-page (sym same))) third;
      moved = ap₂ (λ a b. a ++ b) items-shared_left_one items-shared_left_two
          ∙ append_assoc (node_at old one.number).items (take moved (node_at old two.number).items)
          (drop moved (node_at old two.number).items)
          ∙ ap (λ i. (node_at old one.number).items ++ i) (take-append-drop moved (node_at old two.number).items);
      key = subst (λ k. BeginsWith k (node_at new two.number).items) (sym is_key)
          (subst (BeginsWith (get_or (node_at cut two.number).items 0 no_item).key) (sym (third.others two.number two-page))
          (begins-with_first (node_at cut two.number).items));
      are_free = third.free free (pair-free page (let is = same_as-same page in omega (arith, is)))
          (second.free free (pair-free two.number (let is = same_as-same two.number in omega (arith, is)))
          (first.free free (pair-free one.number (let is = same_as-same one.number in omega (arith, is))) was_free));
      others = λ q below differs other another.
          third.others q differs ∙ second.others q another ∙ first.others q other;
      height = third.height ∙ second.height ∙ first.height;
    }

  -- the last items of the first one move before those of the second one
  module _ (grown cut new : List Node) (count start : ℕ) (key : List ℕ)
      (is_count : count ≡ length (node_at old one.number).items)
      (first : SetsItems old grown two.number
      (with_more (node_at old two.number) 0 (take (count - start) (drop start (node_at old one.number).items))).items)
      (second : SetsItems grown cut one.number (without_items (node_at grown one.number) start count).items)
      (is_key : key ≡ (get_or (node_at cut two.number).items 0 no_item).key)
      (third : SetsItems cut new page (with_key (node_at cut page) (place + 1) key).items) where
    pub items-shared_right_one : (node_at new one.number).items ≡ take start (node_at old one.number).items
    items-shared_right_one =
        third.others one.number one-page ∙ second.at
        ∙ ap (λ i. take start i ++ drop count i) (first.others one.number (λ same. two-one (sym same)))
        ∙ take_front (node_at old one.number).items start count is_count

    pub items-shared_right_two : (node_at new two.number).items
        ≡ drop start (node_at old one.number).items ++ (node_at old two.number).items
    items-shared_right_two =
        third.others two.number two-page ∙ second.others two.number two-one ∙ first.at
        ∙ ap (λ i. i ++ (node_at old two.number).items) (take_last (node_at old one.number).items start count is_count)

    pub Shares-written_right : Shares old new free page (take place (node_at old page).items) one two key
        (drop (place + 2) (node_at old page).items)
    Shares-written_right = record {
      pages = third.pages ∙ second.pages ∙ first.pages;
      old_items = pair-items;
      new_items = keyed-items cut new key
          (second.others page (λ same. one-page (sym same)) ∙ first.others page (λ same. two-page (sym same))) third;
      moved = ap₂ (λ a b. a ++ b) items-shared_right_one items-shared_right_two
          ∙ sym (append_assoc (take start (node_at old one.number).items) (drop start (node_at old one.number).items)
          (node_at old two.number).items)
          ∙ ap (λ i. i ++ (node_at old two.number).items) (take-append-drop start (node_at old one.number).items);
      key = subst (λ k. BeginsWith k (node_at new two.number).items) (sym is_key)
          (subst (BeginsWith (get_or (node_at cut two.number).items 0 no_item).key) (sym (third.others two.number two-page))
          (begins-with_first (node_at cut two.number).items));
      are_free = third.free free (pair-free page (let is = same_as-same page in omega (arith, is)))
          (second.free free (pair-free one.number (let is = same_as-same one.number in omega (arith, is)))
          (first.free free (pair-free two.number (let is = same_as-same two.number in omega (arith, is))) was_free));
      others = λ q below differs other another.
          third.others q differs ∙ second.others q other ∙ first.others q another;
      height = third.height ∙ second.height ∙ first.height;
    }

-- ---- a level more, and a level less

module _ (old taken moved cut put : List Node) (free is_free : List ℕ) (count child height : ℕ) (least_key : List ℕ)
    (some : 0 < length old)
    (once : (q : ℕ) → times q free ≤ has_page old q)
    (is_count : count ≡ length (node_at old 0).items)
    (is_height : height ≡ height_of old)
    (takes : Taken old taken free is_free child)
    (first : SetsItems taken moved child
    (with_more (node_at taken child) 0 (take (count - 0) (drop 0 (node_at taken 0).items))).items)
    (second : SetsItems moved cut 0 (without_items (node_at moved 0) 0 count).items)
    (third : SetsItems cut put 0
    (with_more (node_at cut 0) 0 (record { key = least_key; number = child } ∷ [])).items) where
  pub Raises-written : Raises old (with_node put 0 (with_height (node_at put 0) (height + 1))) free is_free least_key child
  Raises-written = record {
    longer = (let a = length-with_node put 0 (with_height (node_at put 0) (height + 1)) in
        let b = pages in let c = takes.longer in omega (arith, a, b, c));
    root = items-with_height put (height + 1) 0 there ∙ third.at
        ∙ ap (λ i. record { key = least_key; number = child } ∷ i) (second.at ∙ drop-whole);
    moved = items-with_height put (height + 1) child there ∙ third.others child takes.differs
        ∙ second.others child takes.differs ∙ first.at
        ∙ ap (λ i. take (count - 0) (node_at taken 0).items ++ i) takes.empty
        ∙ append-nil (take (count - 0) (node_at taken 0).items)
        ∙ ap (λ i. take (count - 0) i) (takes.same 0)
        ∙ take_last (node_at old 0).items 0 count is_count;
    are_free = AreFree-with_height put (height + 1) is_free there
        (third.free is_free no-root (second.free is_free no-root (first.free is_free no-child takes.are_free)));
    free = λ q.
        let same = has_page-same taken (with_node put 0 (with_height (node_at put 0) (height + 1))) q
        (length-with_node put 0 (with_height (node_at put 0) (height + 1)) ∙ pages) in
        let all = takes.free q in omega (arith, same, all);
    others = λ q inside differs none.
        items-with_height put (height + 1) q there ∙ third.others q differs ∙ second.others q differs
        ∙ first.others q (λ same.
        let one = same_as-same child in let all = takes.free child in let most = has_page-le taken child in
        let had : has_page old child ≡ 1 = ap (has_page old) (sym same) ∙ has_page-yes old q inside in
        let no : times child free ≡ 0 = ap (λ k. times k free) (sym same) ∙ none in
        omega (arith, one, all, most, had, no))
        ∙ takes.same q;
    height = height_of-with_height put (height + 1) there
        ∙ (let is : height + 1 ≡ suc (height_of old) = omega (arith, is_height) in is);
  }
    where
      pages : length put ≡ length taken
      pages = third.pages ∙ second.pages ∙ first.pages

      there : 0 < length put
      there = let same = third.pages ∙ second.pages ∙ first.pages in let longer = takes.longer in
          omega (arith, same, longer, some)

      no-root : times 0 is_free ≡ 0
      no-root = times-root taken (node_at taken 0).next is_free takes.are_free

      no-child : times child is_free ≡ 0
      no-child =
          let all = takes.free child in let one = same_as-same child in let most = has_page-le taken child in
          let few = once child in omega (arith, all, one, most, few)

      drop-whole : drop count (node_at moved 0).items ≡ []
      drop-whole =
          ap (λ i. drop count i) (first.others 0 (λ same. takes.differs (sym same)) ∙ takes.same 0)
          ∙ drop_all count (node_at old 0).items (omega (arith, is_count))

module _ (old cut moved : List Node) (free : List ℕ) (depth count height : ℕ) (child : Item)
    (once : StandOnce old free (suc depth) 0)
    (root : (node_at old 0).items ≡ child ∷ [])
    (was_free : AreFree old (node_at old 0).next free)
    (is_height : height ≡ height_of old) (high : 0 < height)
    (first : SetsItems old cut 0 (without_items (node_at old 0) 0 1).items)
    (is_count : count ≡ length (node_at cut child.number).items)
    (second : SetsItems cut moved 0
    (with_more (node_at cut 0) 0 (take (count - 0) (drop 0 (node_at cut child.number).items))).items) where
  pub Lowers-written : Lowers old
      (with_free (with_node moved 0 (with_height (node_at moved 0) (height - 1))) child.number) free child
  Lowers-written = record {
    pages = length-with_free (with_node moved 0 (with_height (node_at moved 0) (height - 1))) child.number ∙ lengths;
    root = root;
    moved = items-with_free (with_node moved 0 (with_height (node_at moved 0) (height - 1))) child.number 0 inside differs
        (λ same. differs (sym same))
        ∙ items-with_height moved (height - 1) 0 there ∙ second.at
        ∙ ap (λ i. take (count - 0) (node_at cut child.number).items ++ i) (first.at ∙ ap (λ i. drop 1 i) root)
        ∙ append-nil (take (count - 0) (node_at cut child.number).items)
        ∙ take_last (node_at cut child.number).items 0 count is_count
        ∙ first.others child.number differs;
    are_free = AreFree-with_free (with_node moved 0 (with_height (node_at moved 0) (height - 1))) child.number free inside
        differs no-child
        (AreFree-with_height moved (height - 1) free there (second.free free no-root (first.free free no-root was_free)));
    others = λ q below not_root not_child.
        items-with_free (with_node moved 0 (with_height (node_at moved 0) (height - 1))) child.number q inside differs
        not_child
        ∙ items-with_height moved (height - 1) q there ∙ second.others q not_root ∙ first.others q not_root;
    height =
        (let is : height_of old ≡ suc (height - 1) = omega (arith, is_height, high) in is)
        ∙ ap suc (sym (height_of-with_free (with_node moved 0 (with_height (node_at moved 0) (height - 1))) child.number inside
        ∙ height_of-with_height moved (height - 1) there));
  }
    where
      counted : (q : ℕ) → same_as q 0 + same_as q child.number + times q free ≤ has_page old q
      counted q = let all = stand-once old free depth 0 [] (child ∷ []) [] root once q in omega (arith, all)

      differs : child.number ≢ 0
      differs = differs-from_same_as child.number 0
          (let all = stand-once old free depth 0 [] (child ∷ []) [] root once child.number in
          let is = same_as-same child.number in let most = has_page-le old child.number in
          omega (arith, all, is, most))

      no-child : times child.number free ≡ 0
      no-child =
          let all = stand-once old free depth 0 [] (child ∷ []) [] root once child.number in
          let is = same_as-same child.number in let most = has_page-le old child.number in
          omega (arith, all, is, most)

      no-root : times 0 free ≡ 0
      no-root = times-root old (node_at old 0).next free was_free

      within : child.number < length old
      within =
          let all = stand-once old free depth 0 [] (child ∷ []) [] root once child.number in
          let is = same_as-same child.number in
          within-has_page old child.number (omega (arith, all, is))

      lengths : length (with_node moved 0 (with_height (node_at moved 0) (height - 1))) ≡ length old
      lengths = length-with_node moved 0 (with_height (node_at moved 0) (height - 1)) ∙ second.pages ∙ first.pages

      inside : child.number < length (with_node moved 0 (with_height (node_at moved 0) (height - 1)))
      inside =
          let all = stand-once old free depth 0 [] (child ∷ []) [] root once child.number in
          let is = same_as-same child.number in
          let below = within-has_page old child.number (omega (arith, all, is)) in
          let same = length-with_node moved 0 (with_height (node_at moved 0) (height - 1)) ∙ second.pages ∙ first.pages in
          omega (arith, below, same)

      there : 0 < length moved
      there =
          let all = stand-once old free depth 0 [] (child ∷ []) [] root once child.number in
          let is = same_as-same child.number in
          let below = within-has_page old child.number (omega (arith, all, is)) in
          let same = second.pages ∙ first.pages in
          omega (arith, below, same)
