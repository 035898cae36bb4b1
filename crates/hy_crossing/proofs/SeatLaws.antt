-- The seats of a kit in order, and lists with one more behind.
use Rattle.std.proofs.Common.{◌≡◌, ◌+◌, ℕ, zero, suc, List, [], ◌∷◌, ◌++◌, length, map, refl, subst, arith}
use Rattle.std.specs.Prelude.{IfSome, slice_get}
use Rattle.std.specs.List.{range_with_len}
use Rattle.hy_passes.specs.Worlds.{SeatState, new_partition}
use Rattle.hy_commands.specs.declared.command.Commit.{Commit}
use Rattle.hy_partition.proofs.SeatLaws.{length-numbered}

-- the seats of so many warehouses, from one on
abbrev pub seats_from : ℕ → ℕ → List (SeatState Commit)
seats_from first count = map new_partition (range_with_len first count)

pub length-seats : (first count : ℕ) → length (seats_from first count) ≡ count
length-seats first count = length-numbered new_partition first count

-- the next one
module _ (first left count : ℕ) (seat : SeatState Commit) (rest : List (SeatState Commit))
    (counted : left + 1 ≡ count) (are : seat ∷ rest ≡ seats_from first count) where
  next : seat ∷ rest ≡ new_partition first ∷ seats_from (first + 1) left
  next =
      let more : count ≡ suc left = omega (arith, counted) in
      subst (λ n. seat ∷ rest ≡ seats_from first n) more are

  pub next_seat : seat ≡ new_partition first
  next_seat = let same = next in cc

  pub later_seats : rest ≡ seats_from (first + 1) left
  later_seats = let same = next in cc

-- ---- lists with one more

pub length-push : {Row : Type 0} (rows : List Row) (row : Row) → length (rows ++ row ∷ []) ≡ length rows + 1
length-push [] row = refl
length-push (first ∷ rows) row = omega (arith, length-push rows row)

pub each-push : {Row : Type 0} (Holds : ℕ → Row → Type 0) (rows : List Row) (last : Row)
    → ((place : ℕ) → IfSome (slice_get rows place) (Holds place)) → Holds (length rows) last → (place : ℕ)
    → IfSome (slice_get (rows ++ last ∷ []) place) (Holds place)
each-push Holds [] last each it zero = it
each-push Holds [] last each it (suc place) = tt
each-push Holds (first ∷ rows) last each it zero = each zero
each-push Holds (first ∷ rows) last each it (suc place) =
    each-push (λ n. Holds (suc n)) rows last (λ n. each (suc n)) it place
