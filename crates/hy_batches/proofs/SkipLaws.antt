-- Batches that are gone over, and not kept.
use Rattle.std.proofs.Common.{◌≡◌, ℕ, true, cond, length, List, Option, None, Some, refl, sym, ap}
use Rattle.std.specs.Prelude.{◌==◌}
use Rattle.hy_rows.specs.Limits.{max_warehouses}
use Rattle.hy_rows.specs.Ranges.{is_between}
use Rattle.hy_commands.specs.declared.edition.Edition.{Edition}
use Rattle.hy_batches.specs.Batches.{Batch}
use Rattle.hy_batches.specs.inside.Reading.{batch_at, content_of, ended_at, front_at, is_read, left, lists_at, marked_at, number_at, passed}
use Rattle.hy_batches.proofs.FormLaws.{bind_some, same_some}
use Rattle.hy_batches.proofs.FormLaws.{passed as chosen-passed}

-- what something is left behind is read, and what is read is some
pub left-found : {A : Type 0} (read : Option (A × List ℕ)) (rest : List ℕ) → left read ≡ Some rest
    → (row : A) × (read ≡ Some (row, rest))
left-found {A = A} (Some read) rest is = (read.0, ap (λ (left : List ℕ). Some (read.0, left)) (same_some read.1 rest is))
left-found None rest is = absurd cc

pub left-none : {A : Type 0} (read : Option (A × List ℕ)) → left read ≡ None → read ≡ None
left-none None none = refl
left-none (Some read) none = absurd cc

read-found : {A : Type 0} (read : Option A) → is_read read ≡ true → (x : A) × (read ≡ Some x)
read-found (Some x) some = (x, refl)
read-found None some = absurd cc

-- a content is a batch of its edition
content_edition : (edition : Edition) (bytes : List ℕ) (batch : Batch) → content_of edition bytes ≡ Some batch
    → batch.edition ≡ edition
unfolding content_of
content_edition edition bytes batch is =
    let a = bind_some (number_at 1 bytes) _ batch is in
    let b = bind_some (cond (is_between 1 max_warehouses a.0.0) (lists_at edition 1 a.0.0 a.0.1) None) _ batch a.2 in
    let e = chosen-passed (length b.0.1 == 0) (record { edition = edition; lists = b.0.0 }) batch b.2 in
    ap (λ (made : Batch). made.edition) (sym e.1)

-- a batch is passed where its parts are
pub batch-passed : (bytes marked sized content framed after : List ℕ) (edition : Edition) (size : ℕ)
    → marked_at bytes ≡ Some (edition, marked) → number_at 8 marked ≡ Some (size, sized)
    → front_at size sized ≡ Some (content, framed) → is_read (content_of edition content) ≡ true
    → ended_at framed ≡ Some after → passed (batch_at bytes) ≡ Some (edition, after)
unfolding batch_at
batch-passed bytes marked sized content framed after edition size m n f r e =
    let found = read-found (content_of edition content) r in
    rw (m, n, f, found.1, e) (ap (λ (of : Edition). Some (of, after)) (content_edition edition content found.0 found.1))

-- what is passed is a batch of that edition
pub passed-found : (read : Option (Batch × List ℕ)) (edition : Edition) (rest : List ℕ) → passed read ≡ Some (edition, rest)
    → (batch : Batch) × (read ≡ Some (batch, rest)) × (batch.edition ≡ edition)
passed-found (Some read) edition rest is =
    let same = same_some (read.0.edition, read.1) (edition, rest) is in (
      read.0,
      ap (λ (left : List ℕ). Some (read.0, left)) (ap (λ (p : Edition × List ℕ). p.1) same),
      ap (λ (p : Edition × List ℕ). p.0) same,
    )
passed-found None edition rest is = absurd cc

pub passed-none : (read : Option (Batch × List ℕ)) → passed read ≡ None → read ≡ None
passed-none None none = refl
passed-none (Some read) none = absurd cc
