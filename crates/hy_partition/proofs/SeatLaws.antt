-- What a kit hands out, in order.
use Rattle.std.proofs.Common.{◌≡◌, ◌+◌, ℕ, zero, suc, List, [], ◌∷◌, ◌++◌, length, length-append, map, ap, refl, sym, arith, ◌∙◌}
use Rattle.std.specs.Prelude.{slice_index_or}
use Rattle.std.specs.List.{range_with_len}
use Rattle.hy_passes.specs.Worlds.{SeatState, new_partition}
use Rattle.hy_passes.proofs.Lists.{index-behind}
use Rattle.hy_commands.specs.declared.command.Commit.{Commit}

-- there is one for each number
pub length-numbered : {X : Type 0} (of : ℕ → X) (first count : ℕ) → length (map of (range_with_len first count)) ≡ count
length-numbered of first zero = refl
length-numbered of first (suc count) = ap suc (length-numbered of (first + 1) count)

-- that of the only warehouse, behind the others, of which there are none
pub only_seat : (count : ℕ) (before : List (SeatState Commit)) (seat : SeatState Commit) → count ≡ 1
    → before ++ seat ∷ [] ≡ map new_partition (range_with_len 1 count) → seat ≡ new_partition 1
only_seat count before seat one are =
    let all : before ++ seat ∷ [] ≡ new_partition 1 ∷ [] = are ∙ ap (λ n. map new_partition (range_with_len 1 n)) one in
    let none : length before ≡ 0 = omega (arith, ap length all, length-append before (seat ∷ [])) in
    sym (index-behind before seat [] seat)
    ∙ ap (λ (items : List (SeatState Commit)). slice_index_or items (length before) seat) all
    ∙ ap (λ at. slice_index_or (new_partition 1 ∷ []) at seat) none
