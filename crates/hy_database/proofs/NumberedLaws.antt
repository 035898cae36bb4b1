-- Lists that are joined of the parts of numbers behind one another, as those of a database's warehouses are, and sums
-- over such numbers.
use Rattle.std.proofs.Common.{◌≡◌, ℕ, zero, suc, ◌+◌, ◌<◌, ◌≤◌, ℤ, pos, ◌+ℤ◌, ◌==◌, true, false, cond, inl, inr, List, [], ◌++◌, filter, flat_map, refl, sym, ap, ap₂, subst, ◌∙◌, append-nil, arith}
use Rattle.std.specs.Prelude.{All}
use Rattle.std.specs.List.{range_with_len}
use Rattle.std.proofs.lemmas.Bool.{cases_eq, eq-eqb, ne_eqb}
use Rattle.std.proofs.lemmas.Int.{ints}
use Rattle.std.proofs.lemmas.List.Elements.{All-append, All-nil, All-weaker, filter-append}
use Rattle.hy_schema.specs.Conditions.{column_sum}
use Rattle.hy_commands.proofs.ListLaws.{column_sum-cons, filter-all, filter-none}

-- a number is one of so many behind one another
pub record IsNumbered (first count number : ℕ) : Type 0 where
  pub low : first ≤ number
  pub high : number < first + count

-- the first of them, and a later one
numbered-first : (first count : ℕ) → IsNumbered first (suc count) first
numbered-first first count = record { low = omega arith; high = omega arith }

numbered-later : (first count number : ℕ) → IsNumbered (first + 1) count number → IsNumbered first (suc count) number
numbered-later first count number is = record { low = omega (arith, is.low); high = omega (arith, is.high) }

module _ {Row : Type 0} (part : ℕ → List Row) where
  -- what holds of each part holds of all
  pub All-joined : (P : Row → Type 0) (first count : ℕ)
      → ((number : ℕ) → IsNumbered first count number → All P (part number))
      → All P (flat_map part (range_with_len first count))
  All-joined P first zero each = All-nil P
  All-joined P first (suc count) each =
      All-append P (part first) (flat_map part (range_with_len (first + 1) count))
      (each first (numbered-first first count))
      (All-joined P (first + 1) count (λ number is. each number (numbered-later first count number is)))

  -- where each part's rows have its number, a filter by a number leaves its part
  module _ (owner : Row → ℕ) where
    abbrev IsOwn : ℕ → Type 0
    IsOwn number = All (λ row. owner row ≡ number) (part number)

    own-passes : (number : ℕ) → IsOwn number → filter (λ row. owner row == number) (part number) ≡ part number
    own-passes number own =
        filter-all (λ row. owner row == number) (part number)
        (All-weaker (λ row. owner row ≡ number) (λ row. (owner row == number) ≡ true)
        (λ row is. eq-eqb (owner row) number is) (part number) own)

    own-fails : (number other : ℕ) → IsOwn other → (other ≡ number → ⊥)
        → filter (λ row. owner row == number) (part other) ≡ []
    own-fails number other own apart =
        filter-none (λ row. owner row == number) (part other)
        (All-weaker (λ row. owner row ≡ other) (λ row. (owner row == number) ≡ false)
        (λ row is. ne_eqb (owner row) number (λ same. apart (sym is ∙ same))) (part other) own)

    joined-past : (first count number : ℕ) → number < first
        → ((other : ℕ) → IsNumbered first count other → IsOwn other)
        → filter (λ row. owner row == number) (flat_map part (range_with_len first count)) ≡ []
    joined-past first zero number past own = refl
    joined-past first (suc count) number past own =
        filter-append (λ row. owner row == number) (part first) (flat_map part (range_with_len (first + 1) count))
        ∙ ap₂ (λ here later. here ++ later)
        (own-fails number first (own first (numbered-first first count)) (λ same. omega (arith, same, past)))
        (joined-past (first + 1) count number (omega (arith, past))
        (λ other is. own other (numbered-later first count other is)))

    pub joined-own : (first count number : ℕ) → IsNumbered first count number
        → ((other : ℕ) → IsNumbered first count other → IsOwn other)
        → filter (λ row. owner row == number) (flat_map part (range_with_len first count)) ≡ part number
    joined-own first zero number is own = absurd (omega (arith, is.low, is.high))
    joined-own first (suc count) number is own =
        let later = λ (other : ℕ) (after : IsNumbered (first + 1) count other).
        own other (numbered-later first count other after) in
        filter-append (λ row. owner row == number) (part first) (flat_map part (range_with_len (first + 1) count))
        ∙ elim (cases_eq first number) [
          | inl same ↦
              ap₂ (λ here others. here ++ others)
              (subst (λ n. filter (λ row. owner row == n) (part first) ≡ part n) same
              (own-passes first (own first (numbered-first first count))))
              (joined-past (first + 1) count number (omega (arith, same)) later)
              ∙ append-nil (part number)
          | inr apart ↦
              ap₂ (λ here others. here ++ others)
              (own-fails number first (own first (numbered-first first count)) apart)
              (joined-own (first + 1) count number
              (record { low = omega (arith, is.low, apart); high = omega (arith, is.high) }) later)
        ]

-- ---- sums

-- two columns that agree at each number
pub sum-same : (column other : ℕ → ℤ) (first count : ℕ)
    → ((number : ℕ) → IsNumbered first count number → column number ≡ other number)
    → column_sum column (range_with_len first count) ≡ column_sum other (range_with_len first count)
sum-same column other first zero same = refl
sum-same column other first (suc count) same = omega (
  arith,
  ints,
  same first (numbered-first first count),
  sum-same column other (first + 1) count (λ number is. same number (numbered-later first count number is)),
  column_sum-cons column first (range_with_len (first + 1) count),
  column_sum-cons other first (range_with_len (first + 1) count),
)

pub sum-nothing : (first count : ℕ) → column_sum (λ (number : ℕ). pos 0) (range_with_len first count) ≡ pos 0
sum-nothing first zero = refl
sum-nothing first (suc count) = omega (
  arith,
  ints,
  sum-nothing (first + 1) count,
  column_sum-cons (λ (number : ℕ). pos 0) first (range_with_len (first + 1) count),
)

-- two columns that differ at one number
module _ (column other : ℕ → ℤ) (the : ℕ) (amount : ℤ) where
  abbrev Grows : ℕ → Type 0
  Grows number = column number ≡ other number +ℤ cond (the == number) amount (pos 0)

  grows-elsewhere : (number : ℕ) → (the ≡ number → ⊥) → Grows number → column number ≡ other number
  grows-elsewhere number apart grows =
      let same : cond (the == number) amount (pos 0) ≡ pos 0 =
      ap (λ b. cond b amount (pos 0)) (ne_eqb the number apart) in
      omega (arith, ints, grows, same)

  pub sum-grows : (first count : ℕ) → IsNumbered first count the
      → ((number : ℕ) → IsNumbered first count number → Grows number)
      → column_sum column (range_with_len first count) ≡ column_sum other (range_with_len first count) +ℤ amount
  sum-grows first zero is grows = absurd (omega (arith, is.low, is.high))
  sum-grows first (suc count) is grows =
      let first_grows = grows first (numbered-first first count) in
      let later = λ (number : ℕ) (after : IsNumbered (first + 1) count number).
      grows number (numbered-later first count number after) in
      let more = column_sum-cons column first (range_with_len (first + 1) count) in
      let before = column_sum-cons other first (range_with_len (first + 1) count) in
      elim (cases_eq the first) [
        | inl same ↦
            let chosen : cond (the == first) amount (pos 0) ≡ amount =
            ap (λ b. cond b amount (pos 0)) (eq-eqb the first same) in
            let rest = sum-same column other (first + 1) count (λ number after.
            grows-elsewhere number (λ equal. omega (arith, same, equal, after.low)) (later number after)) in
            omega (arith, ints, first_grows, chosen, rest, more, before)
        | inr apart ↦
            let here = grows-elsewhere first apart first_grows in
            let rest = sum-grows (first + 1) count
            (record { low = omega (arith, is.low, apart); high = omega (arith, is.high) }) later in
            omega (arith, ints, here, rest, more, before)
      ]
