-- A full child is split.
use Rattle.std.proofs.Common.{◌≡◌, ◌≢◌, inl, inr, ℕ, suc, ◌+◌, ◌-◌, ◌<◌, ◌≤◌, true, false, List, [], ◌∷◌, length, take, drop, min, max, slice_index_or, refl, sym, ap, ◌∙◌, arith}
use Rattle.std.proofs.lemmas.List.{length-drop, length-take-le}
use Rattle.hy_trees.specs.Nodes.{Node, no_item, node_at, with_more}
use Rattle.hy_trees.specs.Trees.{AreFree, StandOnce, has_page, is_less_bytes, pages_under, same_as, times}
use Rattle.hy_trees.specs.Groups.{SetsItems, Splits}
use Rattle.hy_trees.proofs.CountLaws.{differs-from_same_as, has_page-le, same_as-same, times-append}
use Rattle.hy_trees.proofs.FillLaws.{split-fills}
use Rattle.hy_trees.proofs.FreeLaws.{Taken-from_takes}
use Rattle.hy_trees.proofs.ListLaws.{split_at}
use Rattle.hy_trees.proofs.StepLaws.{Splits-written, stand-once}
use Rattle.hy_splits.specs.Splits.{HasFree, IsFullChild, IsHalf, MovesOut, SplitsChild, child_at}
use Rattle.hy_splits.proofs.MoveLaws.{free-within, moved-others, moved-page, moved-right, taken-differs}

-- free pages beside a subtree are pages of the segment, each once
pub free-standing : (nodes : List Node) (free : List ℕ) (depth page : ℕ) → StandOnce nodes free depth page → (q : ℕ) → times q free ≤ has_page nodes q
free-standing nodes free depth page once q = omega (arith, once q, times-append q (pages_under nodes depth page) free)

-- where a full page is cut, both parts are filled enough
pub place-fills : (most fewest sought at : ℕ) → fewest + fewest ≤ most → at ≡ min (max sought fewest) (most - fewest) → (fewest ≤ at) × (at + fewest ≤ most)
place-fills most fewest sought at two is_at = let fills = split-fills most fewest sought two in (omega (arith, fills.0, is_at), omega (arith, fills.1, is_at))

module _ (most : ℕ) (nodes : List Node) (page place : ℕ) (full : IsFullChild most nodes page place) where
  both : (q : ℕ) → same_as q page + same_as q (child_at nodes page place).number + times q full.free ≤ has_page nodes q
  both q =
      let all = stand-once nodes full.free full.depth page (take place (node_at nodes page).items) (child_at nodes page place ∷ []) (drop (place + 1) (node_at nodes page).items) (split_at no_item (node_at nodes page).items place full.within) full.once q in
      omega (arith, all)

  pub full-parent : HasFree nodes page
  full-parent = record { free = full.free; are_free = full.are_free; once = λ q. let all = both q in omega (arith, all) }

  pub full-child : HasFree nodes (child_at nodes page place).number
  full-child = record { free = full.free; are_free = full.are_free; once = λ q. let all = both q in omega (arith, all) }

  pub full-differs : page ≢ (child_at nodes page place).number
  full-differs same = differs-from_same_as (child_at nodes page place).number page
      (let all = both (child_at nodes page place).number in let one = same_as-same (child_at nodes page place).number in let top = has_page-le nodes (child_at nodes page place).number in omega (arith, all, one, top))
      (sym same)

  -- what the parent and the new page have, once items moved out of the child
  module _ (moved : List Node) (at right : ℕ) (moves : MovesOut nodes moved (child_at nodes page place).number at right) where
    pub parent-right : page ≢ right
    parent-right = taken-differs nodes moves.taken page right full-parent moves.takes

    pub parent-moved : (node_at moved page).items ≡ (node_at nodes page).items
    parent-moved = moved-others nodes moved (child_at nodes page place).number at right full-child moves page full-differs parent-right

    pub right-moved : length (node_at moved right).items ≡ most - at
    right-moved =
        ap length (moved-right nodes moved (child_at nodes page place).number at right full-child moves)
        ∙ length-drop at (node_at nodes (child_at nodes page place).number).items
        ∙ ap (λ (n : ℕ). n - at) full.full

    module _ (fewest sought : ℕ) (two : fewest + fewest ≤ most) (some : 0 < fewest) (is_at : at ≡ min (max sought fewest) (most - fewest)) where
      at-fills : (fewest ≤ at) × (at + fewest ≤ most)
      at-fills = place-fills most fewest sought at two is_at

      module _ (new : List Node) (least : List ℕ) (is_key : least ≡ (slice_index_or (node_at moved right).items 0 no_item).key)
          (put : SetsItems moved new page (with_more (node_at moved page) (place + 1) (record { key = least; number = right } ∷ [])).items) where
        left-half : IsHalf fewest most new (child_at nodes page place).number
        left-half =
            let size : length (node_at new (child_at nodes page place).number).items ≡ at =
            ap length (put.others (child_at nodes page place).number (λ same. full-differs (sym same))
            ∙ moved-page nodes moved (child_at nodes page place).number at right full-child moves)
            ∙ length-take-le at (node_at nodes (child_at nodes page place).number).items (omega (arith, full.full, at-fills.1)) in
            record { enough = omega (arith, size, at-fills.0); room = omega (arith, size, at-fills.1, some) }

        right-half : IsHalf fewest most new right
        right-half =
            let size : length (node_at new right).items ≡ most - at = ap length (put.others right (λ same. parent-right (sym same))) ∙ right-moved in
            record { enough = omega (arith, size, at-fills.1); room = omega (arith, size, at-fills.0, at-fills.1, some) }

        splits : (free : List ℕ) (depth : ℕ) → AreFree nodes (node_at nodes 0).next free → StandOnce nodes free (suc depth) page
            → Splits nodes new free (drop 1 free) page (take place (node_at nodes page).items) (child_at nodes page place) (record { key = least; number = right }) (drop (place + 1) (node_at nodes page).items)
        splits free depth are_free once =
            let there = free-within nodes page full-parent in
            let takes = Taken-from_takes nodes moves.taken free right (omega (arith, there)) are_free (free-standing nodes free (suc depth) page once) moves.takes in
            Splits-written nodes moves.taken moves.moves.between moved new free (drop 1 free) depth page place at
            (length (node_at moves.taken (child_at nodes page place).number).items) right (child_at nodes page place) least once full.within refl
            (ap length (takes.same (child_at nodes page place).number)) takes moves.moves.put moves.moves.cut is_key put

        pub SplitsChild-left : (key : List ℕ) → is_less_bytes key least ≡ true → SplitsChild fewest most nodes new key page place (child_at nodes page place).number
        SplitsChild-left key less = record { right = record { key = least; number = right }; splits = splits; left = left-half; behind = right-half; leads = inl (less, refl) }

        pub SplitsChild-right : (key : List ℕ) → is_less_bytes key least ≡ false → SplitsChild fewest most nodes new key page place right
        SplitsChild-right key not_less = record { right = record { key = least; number = right }; splits = splits; left = left-half; behind = right-half; leads = inr (not_less, refl) }
