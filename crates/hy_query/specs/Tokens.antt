-- The tokens of a text. Spaces separate them; a comma and a comparison sign are tokens by themselves. A text in quotes ends
-- at the next quote, and may hold any other byte; what stands right behind it is part of the same token, which then is
-- none that a query may have, as is a text whose quote isn't closed.
use Rattle.std.specs.Prelude.{ℕ, zero, suc, ◌+◌, ◌==◌, ◌||◌, Bool, if◌then◌else◌, List, [], ◌∷◌, length, take, drop}

-- a token, and the place of its first byte in the text
pub record Token : Type 0 where
  pub place : ℕ
  pub word : List ℕ

-- `<`, `=` and `>`
abbrev pub is_sign : ℕ → Bool
is_sign byte = (byte == 60) || (byte == 61) || (byte == 62)

-- a space, a comma or a sign ends a word
abbrev pub ends_word : ℕ → Bool
ends_word byte = (byte == 32) || (byte == 44) || is_sign byte

-- how many bytes stand before the first that ends a word
abbrev pub word_length : List ℕ → ℕ
word_length [] = 0
word_length (byte ∷ later) = if ends_word byte then 0 else suc (word_length later)

-- how many bytes stand up to the next quote, and then up to the end of the word; all, where there is none
abbrev pub text_length : List ℕ → ℕ
text_length [] = 0
text_length (byte ∷ later) = suc (if byte == 39 then word_length later else text_length later)

-- how many bytes a sign has, by the byte behind its first: `<>` and `<=`, `>=`
abbrev pub sign_length : ℕ → List ℕ → ℕ
sign_length first [] = 1
sign_length first (next ∷ later) =
    if first == 60 then (if (next == 61) || (next == 62) then 2 else 1)
    else if (first == 62) then (if next == 61 then 2 else 1) else 1

-- how many bytes the token has that begins with this one, which is no space
abbrev pub token_length : ℕ → List ℕ → ℕ
token_length first later =
    if first == 44 then 1
    else if is_sign first then sign_length first later
    else if first == 39 then suc (text_length later)
    else suc (word_length later)

-- the tokens of a text of at most so many bytes, whose first byte has this place
abbrev pub tokens_from : ℕ → ℕ → List ℕ → List Token
tokens_from most place [] = []
tokens_from zero place (byte ∷ later) = []
tokens_from (suc most) place (byte ∷ later) =
    if byte == 32 then tokens_from most (place + 1) later
    else (let count : ℕ = token_length byte later in
    record { place = place; word = take count (byte ∷ later) }
    ∷ tokens_from most (place + count) (drop count (byte ∷ later)))

abbrev pub tokens : List ℕ → List Token
tokens text = tokens_from (length text) 0 text
