-- Texts in fields of a fixed width: padded at the end with zero bytes.
use Rattle.std.specs.Prelude.{ℕ, ◌==◌, ◌-◌, ◌<◌, ◌≤◌, if◌then◌else◌, List, [], ◌∷◌, ◌++◌, length, replicate, All}

-- the text that a field holds: its bytes before the first zero byte
abbrev pub text_of : List ℕ → List ℕ
text_of [] = []
text_of (byte ∷ bytes) = if byte == 0 then [] else byte ∷ text_of bytes

-- the field that holds a text: its bytes, then zero bytes up to the width
abbrev pub padded : ℕ → List ℕ → List ℕ
padded width text = text ++ replicate (width - length text) 0

-- a text that a field of this width can hold
pub record IsText (width : ℕ) (text : List ℕ) : Type 0 where
  pub fits : length text ≤ width
  pub nonzero : All (λ byte. 0 < byte) text

-- printable ASCII, from the space to the tilde
abbrev pub IsPrintable : List ℕ → Type 0
IsPrintable text = All (λ byte. (32 ≤ byte) × (byte ≤ 126)) text
