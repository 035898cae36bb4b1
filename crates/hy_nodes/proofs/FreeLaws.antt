-- Pages that fall out of a tree, and pages that are taken for it.
use Rattle.std.proofs.Common.{◌≡◌, ◌≢◌, ℕ, ◌<◌, ◌≤◌, List, [], ◌∷◌, ◌++◌, length, drop, slice_set, Result, Ok, Err, OnOk, IfOk, sym, ap, ap₂, ◌∙◌, arith, get_or-set_other, get_or-set_same, set-set}
use Rattle.std.proofs.Math.ListN.{drop_of_length-le}
use Rattle.hy_space.specs.Space.{SpaceState, GrowsPage}
use Rattle.hy_nodes.specs.Writes.{pages_of}
use Rattle.hy_trees.specs.Nodes.{Item, Node, no_node, node_at, with_free, with_items, with_next, with_node, without_items}
use Rattle.hy_nodes.specs.Nodes.{nodes_of}
use Rattle.hy_nodes.proofs.WriteLaws.{pages-grown}
use Rattle.hy_nodes.proofs.NodeLaws.{nodes-grown}

-- a page more
pub nodes-grow : {E : Type 0} (n kw segment : ℕ) (old new : SpaceState) (result : Result ℕ E) → segment < length old.owner → 8 ≤ n → IfOk result (GrowsPage n old new segment)
    → OnOk result (nodes_of kw (pages_of new segment) ≡ nodes_of kw (pages_of old segment) ++ no_node ∷ [])
nodes-grow n kw segment old new (Ok page) there header grows = ap (nodes_of kw) (pages-grown n segment page old new grows there) ∙ nodes-grown kw n (pages_of old segment) header
nodes-grow n kw segment old new (Err e) there header grows = tt

-- a page is the first of the free ones
pub nodes-freed : (nodes first second third : List Node) (page count next : ℕ) → page < length nodes → page ≢ 0 → count ≡ length (node_at nodes page).items → next ≡ (node_at nodes 0).next
    → first ≡ with_node nodes page (without_items (node_at nodes page) 0 count) → second ≡ with_node first page (with_next (node_at first page) next) → third ≡ with_node second 0 (with_next (node_at second 0) page)
    → third ≡ with_free nodes page
nodes-freed nodes first second third page count next there differs is_count is_next one two three =
    let none : drop count (node_at nodes page).items ≡ [] = drop_of_length-le (node_at nodes page).items (omega (arith, is_count)) in
    let emptied : first ≡ slice_set nodes page (with_items (node_at nodes page) []) = one ∙ ap (λ (items : List Item). slice_set nodes page (with_items (node_at nodes page) items)) none in
    let here : node_at first page ≡ with_items (node_at nodes page) [] = ap (λ (all : List Node). node_at all page) emptied ∙ get_or-set_same nodes page (with_items (node_at nodes page) []) no_node there in
    let free : second ≡ slice_set nodes page (with_next (with_items (node_at nodes page) []) (node_at nodes 0).next) =
    two
    ∙ ap₂ (λ (all : List Node) (node : Node). slice_set all page (with_next node next)) emptied here
    ∙ set-set nodes page (with_items (node_at nodes page) []) (with_next (with_items (node_at nodes page) []) next)
    ∙ ap (λ (n : ℕ). slice_set nodes page (with_next (with_items (node_at nodes page) []) n)) is_next in
    let root : node_at second 0 ≡ node_at nodes 0 = ap (λ (all : List Node). node_at all 0) free ∙ get_or-set_other nodes page 0 _ no_node (λ same. differs (sym same)) in
    three ∙ ap₂ (λ (all : List Node) (node : Node). slice_set all 0 (with_next node page)) free root
