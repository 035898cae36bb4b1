-- Writes into a page, into its children and into the free ones, one behind another, are a join, a move of items, or a root
-- less.
use Rattle.std.proofs.Common.{◌≡◌, ◌≢◌, ℕ, suc, ◌+◌, ◌-◌, ◌/◌, ◌%◌, ◌<◌, ◌≤◌, min, List, [], ◌∷◌, ◌++◌, length, take, drop, slice_index_or, refl, ap, ap₂, sym, subst, ◌∙◌, arith}
use Rattle.std.proofs.lemmas.List.{get_or_append_left, length-append, length-drop, length-take-le}
use Rattle.hy_trees.specs.Nodes.{Item, Node, no_item, node_at, with_free, with_height, with_items, with_key, with_more, with_node, without_items}
use Rattle.hy_trees.specs.Trees.{AreFree, StandOnce, height_of}
use Rattle.hy_trees.specs.Groups.{Lowers, SetsItems}
use Rattle.hy_trees.proofs.StepLaws.{stand-once, Joins-written, Lowers-written, Shares-written_left, Shares-written_right, items-shared_left_one, items-shared_left_two, items-shared_right_one, items-shared_right_two}
use Rattle.hy_trees.proofs.CountLaws.{differs-from_same_as, has_page-le, same_as-same}
use Rattle.hy_trees.proofs.ListLaws.{split_at_two, take_last}
use Rattle.hy_trees.proofs.WriteLaws.{SetsItems-with_items}
use Rattle.hy_joins.specs.Pairs.{AtEach, JoinsAt, SharesLeft, SharesRight, child_at, items_at}

-- half of a number, rounded up
pub half-up : (x : ℕ) → x / 2 + min 1 (x % 2) ≡ (x + 1) / 2
half-up x = omega arith

-- how many items a page has without some of them
pub size-without : (node : Node) (start end : ℕ) → start ≤ end → end ≤ length node.items
    → length (without_items node start end).items ≡ length node.items - (end - start)
size-without node start end ordered within =
    let both = length-append (take start node.items) (drop end node.items) in
    let front = length-take-le start node.items (omega (arith, ordered, within)) in
    let back = length-drop end node.items in
    omega (arith, both, front, back, ordered, within)

-- and with some of another page before its own
pub size-more : (node other : Node) (start end : ℕ) → start ≤ end → end ≤ length other.items
    → length (with_more node 0 (take (end - start) (drop start other.items))).items ≡ length node.items + (end - start)
size-more node other start end ordered within =
    let both = length-append (take (end - start) (drop start other.items)) node.items in
    let back = length-drop start other.items in
    let part = length-take-le (end - start) (drop start other.items) (omega (arith, back, ordered, within)) in
    omega (arith, both, part)

-- one page was written
pub sets : (old new : List Node) (page : ℕ) (items : List Item) → page < length old
    → new ≡ with_node old page (with_items (node_at old page) items) → SetsItems old new page items
sets old new page items within written =
    subst (λ (nodes : List Node). SetsItems old nodes page items) (sym written) (SetsItems-with_items old page items within)

module _ (old : List Node) (page left first second count more : ℕ)
    (within : left + 1 < length (items_at old page))
    (is_first : first ≡ (child_at old page left).number) (is_second : second ≡ (child_at old page (left + 1)).number)
    (page_in : page < length old) (first_in : first < length old) (second_in : second < length old)
    (is_count : count ≡ length (items_at old first)) (is_more : more ≡ length (items_at old second)) where
  abbrev one : Item
  one = child_at old page left

  abbrev two : Item
  two = child_at old page (left + 1)

  one-in : one.number < length old
  one-in = subst (λ (q : ℕ). q < length old) is_first first_in

  two-in : two.number < length old
  two-in = subst (λ (q : ℕ). q < length old) is_second second_in

  one-count : count ≡ length (node_at old one.number).items
  one-count = is_count ∙ ap (λ (q : ℕ). length (items_at old q)) is_first

  two-count : more ≡ length (node_at old two.number).items
  two-count = is_more ∙ ap (λ (q : ℕ). length (items_at old q)) is_second

  numbers-differ : (free : List ℕ) (depth : ℕ) → StandOnce old free (suc depth) page → two.number ≢ one.number
  numbers-differ free depth once = differs-from_same_as two.number one.number
      (let all = stand-once old free depth page (take left (items_at old page)) (one ∷ (two ∷ [])) (drop (left + 2) (items_at old page))
      (split_at_two no_item (items_at old page) left within) once two.number in
      let is = same_as-same two.number in let most = has_page-le old two.number in
      omega (arith, all, is, most))

  pub JoinsAt-written : (joined cut new : List Node) → second ≢ 0
      → joined ≡ with_node old first (with_more (node_at old first) count (take (more - 0) (drop 0 (node_at old second).items)))
      → cut ≡ with_node joined page (without_items (node_at joined page) (left + 1) (left + 2))
      → new ≡ with_free cut second
      → AtEach old page (λ free. JoinsAt old new free page left)
  JoinsAt-written joined cut new root put taken freed free depth are_free once =
      let put_one : joined ≡ with_node old one.number (with_more (node_at old one.number) count (take (more - 0) (drop 0 (node_at old two.number).items))) =
      put ∙ ap₂ (λ (f : ℕ) (s : ℕ). with_node old f (with_more (node_at old f) count (take (more - 0) (drop 0 (node_at old s).items)))) is_first is_second in
      let written : SetsItems old joined one.number (with_more (node_at old one.number) count (take (more - 0) (drop 0 (node_at old two.number).items))).items =
      sets old joined one.number _ one-in put_one in
      subst (λ (nodes : List Node). JoinsAt old nodes free page left)
      (ap (λ (q : ℕ). with_free cut q) (sym is_second) ∙ sym freed)
      (Joins-written old free depth page left one two once within refl refl are_free joined cut count more
      (λ same. root (is_second ∙ same)) one-count two-count written
      (sets joined cut page _ (omega (arith, page_in, written.pages)) taken))

  pub SharesLeft-written : (grown cut new : List Node) (moved : ℕ)
      → grown ≡ with_node old first (with_more (node_at old first) count (take (moved - 0) (drop 0 (node_at old second).items)))
      → cut ≡ with_node grown second (without_items (node_at grown second) 0 moved)
      → new ≡ with_node cut page (with_key (node_at cut page) (left + 1) (child_at cut second 0).key)
      → AtEach old page (λ free. SharesLeft old new free page left moved)
  SharesLeft-written grown cut new moved put taken keyed free depth are_free once =
      let key : List ℕ = (slice_index_or (drop moved (items_at old two.number)) 0 no_item).key in
      let put_one : grown ≡ with_node old one.number (with_more (node_at old one.number) count (take (moved - 0) (drop 0 (node_at old two.number).items))) =
      put ∙ ap₂ (λ (f : ℕ) (s : ℕ). with_node old f (with_more (node_at old f) count (take (moved - 0) (drop 0 (node_at old s).items)))) is_first is_second in
      let written : SetsItems old grown one.number (with_more (node_at old one.number) count (take (moved - 0) (drop 0 (node_at old two.number).items))).items =
      sets old grown one.number _ one-in put_one in
      let taken_two : cut ≡ with_node grown two.number (without_items (node_at grown two.number) 0 moved) =
      taken ∙ ap (λ (s : ℕ). with_node grown s (without_items (node_at grown s) 0 moved)) is_second in
      let shorter : SetsItems grown cut two.number (without_items (node_at grown two.number) 0 moved).items =
      sets grown cut two.number _ (omega (arith, two-in, written.pages)) taken_two in
      let apart : two.number ≢ one.number = numbers-differ free depth once in
      let rest : items_at cut two.number ≡ drop moved (items_at old two.number) =
      shorter.at ∙ ap (λ (i : List Item). drop moved i) (written.others two.number apart) in
      let is_key : key ≡ (slice_index_or (node_at cut two.number).items 0 no_item).key =
      ap (λ (i : List Item). (slice_index_or i 0 no_item).key) (sym rest) in
      let keyed_page : new ≡ with_node cut page (with_key (node_at cut page) (left + 1) key) =
      keyed ∙ ap (λ (k : List ℕ). with_node cut page (with_key (node_at cut page) (left + 1) k))
      (ap (λ (s : ℕ). (child_at cut s 0).key) is_second ∙ sym is_key) in
      let bound : SetsItems cut new page (with_key (node_at cut page) (left + 1) key).items =
      sets cut new page _ (omega (arith, page_in, written.pages, shorter.pages)) keyed_page in
      record {
        shares = Shares-written_left old free depth page left one two once within refl refl are_free grown cut new count moved
            key one-count written shorter is_key bound;
        one = items-shared_left_one old free depth page left one two once within refl refl are_free grown cut new count moved
            key one-count written shorter is_key bound;
        two = items-shared_left_two old free depth page left one two once within refl refl are_free grown cut new count moved
            key one-count written shorter is_key bound;
      }

  pub SharesRight-written : (grown cut new : List Node) (start : ℕ)
      → grown ≡ with_node old second (with_more (node_at old second) 0 (take (count - start) (drop start (node_at old first).items)))
      → cut ≡ with_node grown first (without_items (node_at grown first) start count)
      → new ≡ with_node cut page (with_key (node_at cut page) (left + 1) (child_at cut second 0).key)
      → start < count
      → AtEach old page (λ free. SharesRight old new free page left start)
  SharesRight-written grown cut new start put taken keyed fewer free depth are_free once =
      let key : List ℕ = (slice_index_or (drop start (items_at old one.number)) 0 no_item).key in
      let put_two : grown ≡ with_node old two.number (with_more (node_at old two.number) 0 (take (count - start) (drop start (node_at old one.number).items))) =
      put ∙ ap₂ (λ (f : ℕ) (s : ℕ). with_node old s (with_more (node_at old s) 0 (take (count - start) (drop start (node_at old f).items)))) is_first is_second in
      let written : SetsItems old grown two.number (with_more (node_at old two.number) 0 (take (count - start) (drop start (node_at old one.number).items))).items =
      sets old grown two.number _ two-in put_two in
      let taken_one : cut ≡ with_node grown one.number (without_items (node_at grown one.number) start count) =
      taken ∙ ap (λ (f : ℕ). with_node grown f (without_items (node_at grown f) start count)) is_first in
      let shorter : SetsItems grown cut one.number (without_items (node_at grown one.number) start count).items =
      sets grown cut one.number _ (omega (arith, one-in, written.pages)) taken_one in
      let apart : two.number ≢ one.number = numbers-differ free depth once in
      let all : items_at cut two.number ≡ drop start (items_at old one.number) ++ items_at old two.number =
      shorter.others two.number apart ∙ written.at
      ∙ ap (λ (i : List Item). i ++ items_at old two.number) (take_last (items_at old one.number) start count one-count) in
      let is_key : key ≡ (slice_index_or (node_at cut two.number).items 0 no_item).key =
      sym (ap (λ (i : List Item). (slice_index_or i 0 no_item).key) all
      ∙ ap (λ (i : Item). i.key) (get_or_append_left (drop start (items_at old one.number)) (items_at old two.number) no_item 0
      (omega (arith, length-drop start (items_at old one.number), one-count, fewer)))) in
      let keyed_page : new ≡ with_node cut page (with_key (node_at cut page) (left + 1) key) =
      keyed ∙ ap (λ (k : List ℕ). with_node cut page (with_key (node_at cut page) (left + 1) k))
      (ap (λ (s : ℕ). (child_at cut s 0).key) is_second ∙ sym is_key) in
      let bound : SetsItems cut new page (with_key (node_at cut page) (left + 1) key).items =
      sets cut new page _ (omega (arith, page_in, written.pages, shorter.pages)) keyed_page in
      record {
        shares = Shares-written_right old free depth page left one two once within refl refl are_free grown cut new count start
            key one-count written shorter is_key bound;
        one = items-shared_right_one old free depth page left one two once within refl refl are_free grown cut new count start
            key one-count written shorter is_key bound;
        two = items-shared_right_two old free depth page left one two once within refl refl are_free grown cut new count start
            key one-count written shorter is_key bound;
      }

-- the items of the root's only child are the root's own
pub Lowers-of : (old cut moved lowered new : List Node) (free : List ℕ) (depth count height number : ℕ) (child : Item)
    → 0 < length old → StandOnce old free (suc depth) 0 → items_at old 0 ≡ child ∷ [] → AreFree old (node_at old 0).next free
    → number ≡ child.number → height ≡ height_of moved → 0 < height_of old
    → cut ≡ with_node old 0 (without_items (node_at old 0) 0 1) → count ≡ length (items_at cut number)
    → moved ≡ with_node cut 0 (with_more (node_at cut 0) 0 (take (count - 0) (drop 0 (node_at cut number).items)))
    → lowered ≡ with_node moved 0 (with_height (node_at moved 0) (height - 1))
    → new ≡ with_free lowered number → Lowers old new free child
Lowers-of old cut moved lowered new free depth count height number child some once root are_free is_number is_height high first is_count second third fourth =
    let taken : SetsItems old cut 0 (without_items (node_at old 0) 0 1).items = sets old cut 0 _ some first in
    let counted : count ≡ length (node_at cut child.number).items = is_count ∙ ap (λ (q : ℕ). length (items_at cut q)) is_number in
    let put : SetsItems cut moved 0 (with_more (node_at cut 0) 0 (take (count - 0) (drop 0 (node_at cut child.number).items))).items =
    sets cut moved 0 _ (omega (arith, some, taken.pages))
    (second ∙ ap (λ (q : ℕ). with_node cut 0 (with_more (node_at cut 0) 0 (take (count - 0) (drop 0 (node_at cut q).items)))) is_number) in
    let same : height ≡ height_of old = is_height ∙ put.height ∙ taken.height in
    subst (λ (nodes : List Node). Lowers old nodes free child)
    (ap₂ (λ (nodes : List Node) (q : ℕ). with_free nodes q) (sym third) (sym is_number) ∙ sym fourth)
    (Lowers-written old cut moved free depth count height child once root are_free same (omega (arith, same, high)) taken counted put)
