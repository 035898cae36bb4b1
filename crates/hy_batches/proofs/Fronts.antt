-- Rows that are read one after another, as a loop reads them.
use Rattle.std.proofs.Common.{◌≡◌, ℕ, suc, ◌-◌, ◌+◌, ◌≤◌, ◌<◌, List, [], ◌∷◌, ◌++◌, Option, None, Some, refl, sym, ap, ◌∙◌, append_assoc, arith}
use Rattle.std.proofs.lemmas.List.{append-nil}
use Rattle.hy_batches.specs.declared.fault.ReadFault.{ReadFault}
use Rattle.hy_batches.specs.declared.fault.ReadFault.TheVariants as faults
use Rattle.hy_batches.specs.inside.Reading.{◌>>=◌, Fails, left}

-- what was read before, and what is read then
abbrev pub with_front : {Row : Type 0} → List Row → Option (List Row × List ℕ) → Option (List Row × List ℕ)
with_front front read = read >>= λ x. Some (front ++ x.0, x.1)

-- rows with the numbers from one on, each of which may be read by its number
module _ {Row : Type 0} (row_at : ℕ → List ℕ → Option (Row × List ℕ)) (rows_at : ℕ → ℕ → List ℕ → Option (List Row × List ℕ))
    (none : (number : ℕ) (bytes : List ℕ) → rows_at number 0 bytes ≡ Some ([], bytes))
    (more : (number count : ℕ) (bytes : List ℕ) → rows_at number (suc count) bytes
    ≡ (row_at number bytes >>= λ row. rows_at (number + 1) count row.1 >>= λ others. Some (row.0 ∷ others.0, others.1))) where
  regroup : (front : List Row) (row : Row) (read : Option (List Row × List ℕ))
      → with_front front (read >>= λ x. Some (row ∷ x.0, x.1)) ≡ with_front (front ++ row ∷ []) read
  regroup front row (Some x) = ap (λ (rows : List Row). Some (rows, x.1)) (sym (append_assoc front (row ∷ []) x.0))
  regroup front row None = refl

  -- the rest of reading, once it is known what the next row is
  pub next : (number count done : ℕ) (bytes : List ℕ) (read : Option (Row × List ℕ)) → done < count
      → row_at number bytes ≡ read → rows_at number (count - done) bytes
      ≡ (read >>= λ row. rows_at (number + 1) (count - (done + 1)) row.1 >>= λ others. Some (row.0 ∷ others.0, others.1))
  next number count done bytes read within is =
      let one_more : count - done ≡ suc (count - (done + 1)) = omega arith in
      ap (λ n. rows_at number n bytes) one_more ∙ (more number (count - (done + 1)) bytes
      ∙ ap (λ (o : Option (Row × List ℕ)). o >>= λ row. rows_at (number + 1) (count - (done + 1)) row.1 >>= λ others. Some (row.0 ∷ others.0, others.1)) is)

  pub row_more : (front : List Row) (number count done : ℕ) (bytes : List ℕ) (row : Row) (after : List ℕ)
      (whole : Option (List Row × List ℕ)) → done < count → row_at number bytes ≡ Some (row, after)
      → with_front front (rows_at number (count - done) bytes) ≡ whole
      → with_front (front ++ row ∷ []) (rows_at (number + 1) (count - (done + 1)) after) ≡ whole
  row_more front number count done bytes row after whole within read left =
      sym (ap (with_front front) (next number count done bytes (Some (row, after)) within read)
      ∙ regroup front row (rows_at (number + 1) (count - (done + 1)) after)) ∙ left

  pub row_fails : (fault : ReadFault) (front : List Row) (number count done : ℕ) (bytes : List ℕ)
      (whole : Option (List Row × List ℕ)) → done < count → Fails fault (row_at number bytes)
      → with_front front (rows_at number (count - done) bytes) ≡ whole → Fails fault whole
  row_fails faults.NoMemory front number count done bytes whole within read left = tt
  row_fails faults.Malformed front number count done bytes whole within read left =
      sym left ∙ ap (with_front front) (next number count done bytes None within read)

  pub rows_done : (front : List Row) (number count done : ℕ) (bytes : List ℕ) (whole : Option (List Row × List ℕ))
      → count ≤ done → with_front front (rows_at number (count - done) bytes) ≡ whole → whole ≡ Some (front, bytes)
  rows_done front number count done bytes whole past left =
      let ended : count - done ≡ 0 = omega arith in
      sym left ∙ (ap (λ n. with_front front (rows_at number n bytes)) ended ∙ (ap (with_front front) (none number bytes)
      ∙ ap (λ (rows : List Row). Some (rows, bytes)) (append-nil front)))

  -- the same of what is left behind the rows, where they aren't kept
  left_regroup : (row : Row) (read : Option (List Row × List ℕ)) → left (read >>= λ x. Some (row ∷ x.0, x.1)) ≡ left read
  left_regroup row (Some x) = refl
  left_regroup row None = refl

  pub left_more : (number count done : ℕ) (bytes : List ℕ) (row : Row) (after : List ℕ) (whole : Option (List ℕ)) → done < count
      → row_at number bytes ≡ Some (row, after) → left (rows_at number (count - done) bytes) ≡ whole
      → left (rows_at (number + 1) (count - (done + 1)) after) ≡ whole
  left_more number count done bytes row after whole within read rest =
      sym (ap left (next number count done bytes (Some (row, after)) within read)
      ∙ left_regroup row (rows_at (number + 1) (count - (done + 1)) after)) ∙ rest

  pub left_fails : (number count done : ℕ) (bytes : List ℕ) (whole : Option (List ℕ)) → done < count
      → row_at number bytes ≡ None → left (rows_at number (count - done) bytes) ≡ whole → whole ≡ None
  left_fails number count done bytes whole within read rest =
      sym rest ∙ ap left (next number count done bytes None within read)

  pub left_done : (number count done : ℕ) (bytes : List ℕ) (whole : Option (List ℕ)) → count ≤ done
      → left (rows_at number (count - done) bytes) ≡ whole → whole ≡ Some bytes
  left_done number count done bytes whole past rest =
      let ended : count - done ≡ 0 = omega arith in
      sym rest ∙ (ap (λ n. left (rows_at number n bytes)) ended ∙ ap left (none number bytes))
