-- The values of a row, tested one after another, and what each test says.
use Rattle.std.proofs.Common.{◌≡◌, ℕ, zero, suc, ℤ, ◌≤ℤ◌, Bool, T, true, false, ◌&&◌, IsTrue, int_le, nat_le, Result, Ok, Err, OnOk, List, [], ◌∷◌, length, get_or, refl, sym, subst, ◌∙◌, arith}
use Rattle.std.specs.Prelude.{⊤}
use Rattle.std.proofs.lemmas.Bool.{false≢true, and_from, and_parts, le-leb, leb-true}
use Rattle.std.proofs.lemmas.List.Sums.{list_all-from_AllPass}
use Rattle.hy_rows.specs.Columns.{Column, allows, are_allowed, is_printable}
use Rattle.hy_rows.specs.Ranges.{IsLoadedText, is_between}
use Rattle.hy_rows.specs.Records.{after_all}
use Rattle.hy_rows.specs.declared.record.Never.{Never}
use Rattle.hy_rows.specs.declared.record.RangeTest.{RangeTest}
use Rattle.hy_rows.specs.declared.value.Value.{Value}
use Rattle.hy_rows.proofs.PrintableLaws.{printable}

-- a test with one value more
abbrev pub tested : RangeTest → Column → Value → RangeTest
tested test column value = record { holds = test.holds && allows column.domain value }

and_true : (one : Bool) → one ≡ (one && true)
and_true true = refl
and_true false = refl

and_assoc : (one other last : Bool) → ((one && other) && last) ≡ (one && (other && last))
and_assoc true other last = refl
and_assoc false other last = refl

-- after all of them it holds where it did before and each value is allowed
pub holds-after_all : (columns : List Column) (row : List Value) (test : RangeTest) → length row ≡ length columns
    → (after_all tested test columns row).holds ≡ (test.holds && are_allowed columns row)
holds-after_all [] [] test same = and_true test.holds
holds-after_all [] (value ∷ row) test same = absurd (omega (arith, same))
holds-after_all (column ∷ columns) [] test same = absurd (omega (arith, same))
holds-after_all (column ∷ columns) (value ∷ row) test same =
    holds-after_all columns row (tested test column value) (omega (arith, same))
    ∙ and_assoc test.holds (allows column.domain value) (are_allowed columns row)

-- where each value is taken, what holds on success holds
pub taken : {Taken : Type 0} {P : Type 0} (result : Result Taken Never) → OnOk result P → P
taken (Ok one) holds = holds
taken (Err never) holds = elim never [ ]

-- each value of a row may be in its column: a fact for each of them
abbrev pub EachAllowed : List Column → List Value → Type 0
EachAllowed [] [] = ⊤
EachAllowed (column ∷ columns) (value ∷ row) = IsTrue (allows column.domain value) × EachAllowed columns row
EachAllowed columns row = ⊥

pub each-allowed : (columns : List Column) (row : List Value) → EachAllowed columns row
    → IsTrue (are_allowed columns row)
each-allowed [] [] each = refl
each-allowed [] (value ∷ row) each = absurd each
each-allowed (column ∷ columns) [] each = absurd each
each-allowed (column ∷ columns) (value ∷ row) each =
    and_from (allows column.domain value) (are_allowed columns row) each.0 (each-allowed columns row each.1)

-- what the test says of the value at a place
abbrev pub AllowedAt : List Column → List Value → ℕ → Type 0
AllowedAt (column ∷ columns) (value ∷ row) zero = IsTrue (allows column.domain value)
AllowedAt (column ∷ columns) (value ∷ row) (suc place) = AllowedAt columns row place
AllowedAt columns row place = ⊤

pub allowed-at : (columns : List Column) (row : List Value) → IsTrue (are_allowed columns row) → (place : ℕ)
    → AllowedAt columns row place
allowed-at [] [] all place = tt
allowed-at [] (value ∷ row) all place = absurd (false≢true all)
allowed-at (column ∷ columns) [] all place = absurd (false≢true all)
allowed-at (column ∷ columns) (value ∷ row) all zero =
    (and_parts (allows column.domain value) (are_allowed columns row) all).0
allowed-at (column ∷ columns) (value ∷ row) all (suc place) =
    allowed-at columns row (and_parts (allows column.domain value) (are_allowed columns row) all).1 place

-- an amount between two others
is_so : {test : Bool} → test ≡ true → T test
is_so passes = subst T (sym passes) tt

is_true : (test : Bool) → T test → test ≡ true
is_true true so = refl
is_true false so = absurd so

pub amount-bounds : (low high number : ℤ) → IsTrue (int_le low number && int_le number high)
    → (low ≤ℤ number) × (number ≤ℤ high)
amount-bounds low high number between =
    let parts = and_parts (int_le low number) (int_le number high) between in
    (record { le = is_so parts.0 }, record { le = is_so parts.1 })

pub bounds-amount : (low high number : ℤ) → low ≤ℤ number → number ≤ℤ high
    → IsTrue (int_le low number && int_le number high)
bounds-amount low high number above below =
    and_from (int_le low number) (int_le number high) (is_true (int_le low number) above.le)
    (is_true (int_le number high) below.le)

-- a printable text within its width
pub text-loaded : (width : ℕ) (text : List ℕ) → IsTrue (nat_le (length text) width && is_printable text)
    → IsLoadedText width text
text-loaded width text allowed =
    let parts = and_parts (nat_le (length text) width) (is_printable text) allowed in
    (leb-true (length text) width parts.0, printable text parts.1)

pub loaded-text : (width : ℕ) (text : List ℕ) → IsLoadedText width text
    → IsTrue (nat_le (length text) width && is_printable text)
loaded-text width text loaded =
    and_from (nat_le (length text) width) (is_printable text) (le-leb (length text) width loaded.0)
    (list_all-from_AllPass (is_between 32 126) text (λ place other within.
    let byte = loaded.1 place other within in
    and_from _ _ (le-leb 32 (get_or text place other) byte.0) (le-leb (get_or text place other) 126 byte.1)))
