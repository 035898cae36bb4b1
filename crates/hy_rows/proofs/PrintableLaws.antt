-- Printable texts, by a test of each byte.
use Rattle.std.proofs.Common.{◌≡◌, ℕ, ◌≤◌, ◌&&◌, Bool, true, false, IsTrue, nat_le, List, [], ◌∷◌, refl, arith}
use Rattle.std.specs.List.{list_all}
use Rattle.std.proofs.lemmas.Bool.{false≢true}
use Rattle.std.proofs.lemmas.Bool.Decides.{nat_tests}
use Rattle.std.proofs.lemmas.List.Elements.{All-nil, All-cons}
use Rattle.hy_rows.specs.Texts.{IsPrintable}

-- a test of a byte
abbrev is_printable_byte : ℕ → Bool
is_printable_byte byte = nat_le 32 byte && nat_le byte 126

-- a byte that passes the test is printable
printable_byte : (byte : ℕ) → IsTrue (is_printable_byte byte) → (32 ≤ byte) × (byte ≤ 126)
printable_byte byte passes = grind (arith, nat_tests)

-- both parts of a test that passes pass
both_parts : (x y : Bool) → (x && y) ≡ true → (x ≡ true) × (y ≡ true)
both_parts true y both = (refl, both)
both_parts false y both = absurd (false≢true both)

-- a text is printable whose bytes all pass the test
pub printable : (text : List ℕ) → IsTrue (list_all is_printable_byte text) → IsPrintable text
printable [] passes = All-nil (λ byte. (32 ≤ byte) × (byte ≤ 126))
printable (byte ∷ bytes) passes =
    let parts = both_parts (is_printable_byte byte) (list_all is_printable_byte bytes) passes in
    All-cons (λ b. (32 ≤ b) × (b ≤ 126)) byte bytes (printable_byte byte parts.0) (printable bytes parts.1)
