-- The books of the first warehouses, and of one more.
use Rattle.std.proofs.Common.{◌≡◌, ◌+◌, ◌+ℤ◌, ◌-ℤ◌, ℕ, suc, ℤ, pos, List, length, arith, refl, subst}
use Rattle.std.proofs.lemmas.Int.{ints}
use Rattle.hy_rows.specs.Tables.{Lists, of_warehouse}
use Rattle.hy_ledger.specs.Books.{BookState, no_totals, with_book}
use Rattle.hy_ledger.specs.declared.totals.Totals.{Totals}
use Rattle.hy_commands.specs.declared.command.Commit.{Commit}
use Rattle.hy_commands.specs.Replay.{rows_after}
use Rattle.hy_crossing.specs.of_partition.Accounts.{IsBookOf, home_commits, taken_in}
use Rattle.hy_crossing.specs.of_partition.Jobs.{Log}
use Rattle.hy_crossing.specs.of_partition.Partition.{PartitionState, projection_of}
use Rattle.hy_crossing.specs.Crossings.{IsPartition}
use Rattle.hy_forks.specs.Accounts.{HaveBooks, grown_up_to, kept_up_to}

module _ (lists : Lists) (log : Log) where
  pub books-none : HaveBooks lists log 0 no_totals
  unfolding kept_up_to grown_up_to
  books-none = (refl, refl)

  -- the book of the next warehouse, which has what the serial list has of it
  books-more : (warehouse : ℕ) (books : Totals) (book : BookState)
      → IsBookOf lists (suc warehouse) (projection_of (suc warehouse) log) book
      → HaveBooks lists log warehouse books → HaveBooks lists log (suc warehouse) (with_book books book)
  unfolding kept_up_to grown_up_to
  books-more warehouse books book is have =
      let kept = projection_of (suc warehouse) log in
      let here : ℤ = taken_in (of_warehouse (suc warehouse) lists.tables) in
      let then : ℤ = taken_in (rows_after lists (suc warehouse) kept) in
      let count : books.commits + book.commits
      ≡ kept_up_to log warehouse + length (home_commits (suc warehouse) kept) =
      omega (arith, have.0, is.commits_are) in
      let cents : pos (books.cents + book.cents) ≡ grown_up_to lists log warehouse +ℤ (then -ℤ here) =
      omega (arith, ints, have.1, is.cents_are) in
      (count, cents)

  -- that of the partition at the next place
  pub books-next : (place : ℕ) (books : Totals) (p : PartitionState) → IsPartition lists (suc place) p
      → p.kept ≡ projection_of (suc place) log → IsBookOf p.load p.warehouse p.kept p.book
      → HaveBooks lists log place books → HaveBooks lists log (place + 1) (with_book books p.book)
  books-next place books p partition kept book have =
      let next : suc place ≡ place + 1 = omega arith in
      let of_load = subst (λ (l : Lists). IsBookOf l p.warehouse p.kept p.book) partition.0 book in
      let of_number = subst (λ (n : ℕ). IsBookOf lists n p.kept p.book) partition.1 of_load in
      let of_kept = subst (λ (commits : List Commit). IsBookOf lists (suc place) commits p.book) kept of_number in
      subst (λ (n : ℕ). HaveBooks lists log n (with_book books p.book)) next (books-more place books p.book of_kept have)
