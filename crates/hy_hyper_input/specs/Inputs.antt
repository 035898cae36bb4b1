-- An input, line by line.
use Rattle.std.specs.Prelude.{◌≡◌, ℕ, ◌+◌, ◌-◌, ◌==◌, ◌≤◌, Bool, true, false, if◌then◌else◌, List, [], ◌∷◌, ◌++◌, Option, drop, length, take}
use Rattle.std.specs.List.{list_any}
use Rattle.std.specs.Io.KnownBytes.{Consumes, IsAtEnd, Keeps}
use Rattle.hy_hyper_input.specs.declared.input.Next.{Next}
use Rattle.hy_hyper_input.specs.declared.input.Next.TheVariants as next

abbrev pub line_feed : ℕ
line_feed = 10

-- how many bytes a line may have, and how many there is room for
abbrev pub max_line : ℕ
max_line = 1_048_576

abbrev pub room_bytes : ℕ
room_bytes = max_line + 1

-- the bytes between two places
abbrev pub between : ℕ → ℕ → List ℕ → List ℕ
between start end bytes = take (end - start) (drop start bytes)

-- whether a line ends in these bytes
abbrev pub is_ended : List ℕ → Bool
is_ended bytes = list_any (λ byte. byte == line_feed) bytes

-- what has come of an input: the number of the line that was taken last, from 1, and its bytes; whether the next line is
-- longer than a line may be, so that what came of it was dropped; the bytes behind those; and what is still to come, where
-- that is known
pub record InputState : Type 0 where
  pub number : ℕ
  pub line : List ℕ
  pub is_long : Bool
  pub left : List ℕ
  pub coming : Option (List ℕ)

-- an input of which nothing has come
abbrev pub fresh : Option (List ℕ) → InputState
fresh coming = record { number = 0; line = []; is_long = false; left = []; coming = coming }

-- the number behind another one; the greatest of 64 bits has none behind it
abbrev pub number_behind : ℕ → ℕ
number_behind number = if number == 18_446_744_073_709_551_615 then number else number + 1

-- bytes are a line to its end, and those behind it
pub record EndsLine (bytes line rest : List ℕ) : Type 0 where
  pub whole : bytes ≡ line ++ line_feed ∷ rest
  pub one : is_ended line ≡ false

-- the next line was taken: one that isn't too long; or one of which bytes were dropped, up to its end; or none has come to its
-- end
pub data Takes (old new : InputState) (taken : Next) : Type 0 where
  a_line : taken ≡ next.Line → old.is_long ≡ false → EndsLine old.left new.line new.left → length new.line ≤ max_line
      → new.is_long ≡ false → new.number ≡ number_behind old.number → new.coming ≡ old.coming → Takes old new taken
  too_long : taken ≡ next.TooLong → old.is_long ≡ true → (end : List ℕ) → EndsLine old.left end new.left
      → new.is_long ≡ false → new.number ≡ number_behind old.number → new.coming ≡ old.coming → Takes old new taken
  nothing : taken ≡ next.Nothing → is_ended old.left ≡ false
      → new ≡ record old { left = if old.is_long then [] else old.left } → Takes old new taken

-- where what is left fills all the room, and no line ends in it, the next line is longer than a line may be
abbrev pub with_room : InputState → InputState
with_room input =
    if length input.left == room_bytes then record input { is_long = true; left = [] } else input

-- bytes came, some where not at the end, and were put behind what was left; the line that was taken last is gone
pub record Fills (old new : InputState) (more : Bool) : Type 0 where
  pub bytes : List ℕ
  pub left : new.left ≡ (with_room old).left ++ bytes
  pub is_long : new.is_long ≡ (with_room old).is_long
  pub number : new.number ≡ old.number
  pub came : Consumes old.coming new.coming bytes
  pub at_end : more ≡ false → (bytes ≡ []) × IsAtEnd new.coming

-- nothing came, by a failure of the input
pub record FailsToFill (old new : InputState) : Type 0 where
  pub left : new.left ≡ (with_room old).left
  pub is_long : new.is_long ≡ (with_room old).is_long
  pub number : new.number ≡ old.number
  pub kept : Keeps old.coming new.coming
