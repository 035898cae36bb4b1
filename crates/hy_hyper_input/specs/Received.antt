-- What an input says, whatever pieces its bytes come in.
use Rattle.std.specs.Prelude.{◌≡◌, ℕ, ◌<◌, Bool, true, false, not, nat_le, if◌then◌else◌, List, [], ◌∷◌, ◌++◌, length, Option}
use Rattle.std.specs.List.{flat_map, list_all}
use Rattle.std.specs.Io.KnownBytes.{Consumes}
use Rattle.hy_hyper_input.specs.declared.input.Next.{Next}
use Rattle.hy_hyper_input.specs.declared.input.Next.TheVariants as next
use Rattle.hy_hyper_input.specs.Inputs.{FailsToFill, Fills, InputState, Takes, fresh, is_ended, line_feed, max_line, number_behind}

-- a line with its number, or that a line is too long
pub data Said : Type 0 where
  a_line : ℕ → List ℕ → Said
  too_long : ℕ → Said

abbrev pub said : ℕ → List ℕ → Said
said number line = if nat_le (length line) max_line then Said.a_line number line else Said.too_long number

-- what lines say, one after another, behind so many
abbrev pub said_by : ℕ → List (List ℕ) → List Said
said_by number [] = []
said_by number (line ∷ lines) = said (number_behind number) line ∷ said_by (number_behind number) lines

-- the number of the last of them
abbrev pub number_after : ℕ → List (List ℕ) → ℕ
number_after number [] = number
number_after number (line ∷ lines) = number_after (number_behind number) lines

-- lines with their line feeds
abbrev pub whole : List (List ℕ) → List ℕ
whole lines = flat_map (λ line. line ++ line_feed ∷ []) lines

-- what was dropped is of a line that is too long, and of none where the next line isn't
abbrev pub IsDropped : Bool → List ℕ → Type 0
IsDropped true dropped = (max_line < length dropped) × (is_ended dropped ≡ false)
IsDropped false dropped = dropped ≡ []

-- of the bytes that were received so far these lines were taken; behind them stands what was dropped of a line that is too
-- long, and what is left
pub record HasTaken (received : List ℕ) (lines : List (List ℕ)) (input : InputState) : Type 0 where
  pub each : list_all (λ line. not (is_ended line)) lines ≡ true
  pub dropped : List ℕ
  pub are : received ≡ whole lines ++ (dropped ++ input.left)
  pub is_long : IsDropped input.is_long dropped
  pub number : input.number ≡ number_after 0 lines

-- what was told of a line that was taken
abbrev pub tells : InputState → Next → List Said
tells input next.Line = Said.a_line input.number input.line ∷ []
tells input next.TooLong = Said.too_long input.number ∷ []
tells input next.Nothing = []

-- What is told of an input is what the lines of the bytes that were received say, each once and in their order, whatever
-- pieces they came in: it begins so, goes on so with each line that is taken, and with all bytes that come.
pub record SaysItsLines : Type 0 where
  pub takes : (received : List ℕ) (lines : List (List ℕ)) (old new : InputState) (taken : Next)
      → HasTaken received lines old → Takes old new taken
      → (more : List (List ℕ)) × HasTaken received (lines ++ more) new
      × (said_by 0 (lines ++ more) ≡ said_by 0 lines ++ tells new taken)
  pub fills : (received : List ℕ) (lines : List (List ℕ)) (old new : InputState) (more : Bool)
      → is_ended old.left ≡ false → HasTaken received lines old → (filled : Fills old new more)
      → HasTaken (received ++ filled.bytes) lines new

-- From one moment of an input to another this was told of it, one line after another, while some bytes came: whatever was
-- received and taken before, behind it stand these bytes and the lines that say so.
abbrev pub Hears : InputState → InputState → List Said → Type 0
Hears old new told = (received : List ℕ) (lines : List (List ℕ)) → HasTaken received lines old
    → (bytes : List ℕ) × (more : List (List ℕ)) × Consumes old.coming new.coming bytes
    × HasTaken (received ++ bytes) (lines ++ more) new × (said_by 0 (lines ++ more) ≡ said_by 0 lines ++ told)

-- of an input of which nothing has come nothing was taken; and what was told in one stretch and in the next is what was told
-- in both
pub record HearsOn : Type 0 where
  pub first : (coming : Option (List ℕ)) → HasTaken [] [] (fresh coming)
  pub takes : (old new : InputState) (taken : Next) → Takes old new taken → Hears old new (tells new taken)
  pub fills : (old new : InputState) (more : Bool) → is_ended old.left ≡ false → Fills old new more → Hears old new []
  pub fails : (old new : InputState) → is_ended old.left ≡ false → FailsToFill old new → Hears old new []
  pub next : (old middle new : InputState) (told later : List Said) → Hears old middle told → Hears middle new later
      → Hears old new (told ++ later)
