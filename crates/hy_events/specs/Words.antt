-- The words of a line, and the numbers that words say.
use Rattle.std.specs.Prelude.{ℕ, zero, suc, ◌==◌, if◌then◌else◌, List, [], ◌∷◌, Option, None, Some, is_some, option_and_then}
use Rattle.std.specs.List.{slice_split}
use Rattle.hy_decimal.specs.Numbers.{number_of as number_in}

-- a value, and then what follows from it
infixl 10 ◌>>=◌
abbrev pub ◌>>=◌ : {A B : Type 0} → Option A → (A → Option B) → Option B
value >>= next = option_and_then next value

-- what stands between separators: one part more than there are separators, and an empty one between two neighbours
abbrev pub parts : ℕ → List ℕ → List (List ℕ)
parts separator bytes = slice_split (λ byte. byte == separator) bytes

-- words stand between spaces, and the fields of a word between colons
abbrev pub words : List ℕ → List (List ℕ)
words line = parts 32 line

abbrev pub fields : List ℕ → List (List ℕ)
fields word = parts 58 word

-- the first of some words, and the words behind it
abbrev pub first_word : List (List ℕ) → Option (List ℕ)
first_word [] = None
first_word (word ∷ later) = Some word

abbrev pub later_words : List (List ℕ) → List (List ℕ)
later_words [] = []
later_words (word ∷ later) = later

-- the words from a place on, counted from 0, and the word there
abbrev pub words_from : ℕ → List (List ℕ) → List (List ℕ)
words_from zero words = words
words_from (suc place) words = words_from place (later_words words)

abbrev pub word_at : ℕ → List (List ℕ) → Option (List ℕ)
word_at place words = first_word (words_from place words)

-- the number below 2^64 that a word says, if it says one
abbrev pub number_of : List ℕ → Option ℕ
number_of word = number_in 64 word

abbrev pub number_at : ℕ → List (List ℕ) → Option ℕ
number_at place words = word_at place words >>= number_of

-- a value, where no word stands behind so many
abbrev pub of_words : {A : Type 0} → ℕ → List (List ℕ) → A → Option A
of_words count words value = if is_some (word_at count words) then None else Some value
