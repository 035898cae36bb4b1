-- Items that move from one page to another, by the writes that move them.
use Rattle.std.proofs.Common.{◌≡◌, ◌≢◌, ℕ, ◌-◌, ◌<◌, ◌≤◌, List, [], ◌∷◌, ◌++◌, length, take, drop, refl, sym, ap, ◌∙◌, subst, arith}
use Rattle.hy_trees.specs.Nodes.{Item, Node, TakesPage, node_at, with_more, with_node, without_items}
use Rattle.hy_trees.specs.Trees.{AreFree, has_page, times}
use Rattle.hy_trees.specs.Groups.{SetsItems, Taken}
use Rattle.hy_trees.proofs.CountLaws.{differs-from_same_as, has_page-le, same_as-same, times-first, within-has_page}
use Rattle.hy_trees.proofs.FreeLaws.{Taken-from_takes}
use Rattle.std.proofs.lemmas.List.{append-nil}
use Rattle.hy_trees.proofs.ListLaws.{take_front, take_last}
use Rattle.hy_trees.proofs.NodeLaws.{length-with_node, node_at-with_node_other}
use Rattle.hy_trees.proofs.WriteLaws.{SetsItems-with_items}
use Rattle.hy_splits.specs.Splits.{HasFree, MovesItems, MovesOut}

-- what is known of a page beside the free ones
module _ (nodes : List Node) (page : ℕ) (has : HasFree nodes page) where
  pub free-within : page < length nodes
  free-within = within-has_page nodes page (omega (arith, has.once page, same_as-same page))

  pub free-once : (q : ℕ) → times q has.free ≤ has_page nodes q
  free-once q = omega (arith, has.once q)

  -- the first free page is a page of the segment, or there is none
  pub free-first : (node_at nodes 0).next < length nodes
  free-first = by has.free has.are_free free-once
    where
      by : (free : List ℕ) → AreFree nodes (node_at nodes 0).next free → ((q : ℕ) → times q free ≤ has_page nodes q) → (node_at nodes 0).next < length nodes
      by [] none once = omega (arith, none, free-within)
      by (first ∷ rest) are once =
          let there = within-has_page nodes first (let here = times-first first rest in omega (arith, once first, here)) in
          omega (arith, there, are.0)

-- a page that was taken, where another one isn't free
module _ (old taken : List Node) (page right : ℕ) (has : HasFree old page) (takes : TakesPage old taken right) where
  pub free-taken : Taken old taken has.free (drop 1 has.free) right
  free-taken =
      Taken-from_takes old taken has.free right (let there = free-within old page has in omega (arith, there)) has.are_free (free-once old page has) takes

  pub taken-differs : page ≢ right
  taken-differs same =
      differs-from_same_as right page (let most = has_page-le taken right in let one = same_as-same right in let once = has.once right in let free = free-taken.free right in omega (arith, most, one, once, free)) (sym same)

  pub taken-page : page < length taken
  taken-page = let there = free-within old page has in let longer = free-taken.longer in omega (arith, there, longer)

  pub taken-items : length (node_at taken page).items ≡ length (node_at old page).items
  taken-items = ap length (free-taken.same page)

module _ (old between : List Node) (page place right count : ℕ) (is_count : count ≡ length (node_at old page).items)
    (put : between ≡ with_node old right (with_more (node_at old right) 0 (take (count - place) (drop place (node_at old page).items)))) where
  -- the page itself is as it was, until the items are taken out of it
  pub kept-between : page ≢ right → length (node_at between page).items ≡ length (node_at old page).items
  kept-between differs =
      ap (λ (all : List Node). length (node_at all page).items) put
      ∙ ap (λ (node : Node). length node.items) (node_at-with_node_other old right _ page differs)

  pub MovesItems-written : (new : List Node) → page < length old → right < length old
      → new ≡ with_node between page (without_items (node_at between page) place count) → MovesItems old new page place right
  MovesItems-written new there there_right cut = record {
    between = between;
    put = subst (λ (all : List Node). SetsItems old all right (moved (length (node_at old page).items)).items) (sym (put ∙ ap (λ (n : ℕ). with_node old right (moved n)) is_count))
        (SetsItems-with_items old right (moved (length (node_at old page).items)).items there_right);
    cut = subst (λ (all : List Node). SetsItems between all page (rest (length (node_at old page).items)).items) (sym (cut ∙ ap (λ (n : ℕ). with_node between page (rest n)) is_count))
        (SetsItems-with_items between page (rest (length (node_at old page).items)).items
        (let same : length between ≡ length old = ap length put ∙ length-with_node old right (moved count) in omega (arith, same, there)));
  }
    where
      moved : ℕ → Node
      moved n = with_more (node_at old right) 0 (take (n - place) (drop place (node_at old page).items))

      rest : ℕ → Node
      rest n = without_items (node_at between page) place n

-- what the pages have, once the items of one were moved to a page that was taken
module _ (old new : List Node) (page place right : ℕ) (has : HasFree old page) (moves : MovesOut old new page place right) where
  differs : page ≢ right
  differs = taken-differs old moves.taken page right has moves.takes

  taken : Taken old moves.taken has.free (drop 1 has.free) right
  taken = free-taken old moves.taken page right has moves.takes

  pub moved-longer : length old ≤ length new
  moved-longer =
      let grown = taken.longer in let put = moves.moves.put.pages in let cut = moves.moves.cut.pages in
      omega (arith, grown, put, cut)

  pub moved-page : (node_at new page).items ≡ take place (node_at old page).items
  moved-page =
      moves.moves.cut.at
      ∙ ap (λ (items : List Item). take place items ++ drop (length (node_at moves.taken page).items) items) (moves.moves.put.others page differs)
      ∙ take_front (node_at moves.taken page).items place (length (node_at moves.taken page).items) refl
      ∙ ap (take place) (taken.same page)

  pub moved-right : (node_at new right).items ≡ drop place (node_at old page).items
  moved-right =
      moves.moves.cut.others right (λ same. differs (sym same))
      ∙ moves.moves.put.at
      ∙ ap (λ (items : List Item). take (length (node_at moves.taken page).items - place) (drop place (node_at moves.taken page).items) ++ items) taken.empty
      ∙ append-nil (take (length (node_at moves.taken page).items - place) (drop place (node_at moves.taken page).items))
      ∙ take_last (node_at moves.taken page).items place (length (node_at moves.taken page).items) refl
      ∙ ap (drop place) (taken.same page)

  pub moved-others : (q : ℕ) → q ≢ page → q ≢ right → (node_at new q).items ≡ (node_at old q).items
  moved-others q not_page not_right = moves.moves.cut.others q not_page ∙ moves.moves.put.others q not_right ∙ taken.same q
