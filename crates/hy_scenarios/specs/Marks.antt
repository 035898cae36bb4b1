-- The lines of a scenario, and what their marks say.
use Rattle.std.specs.Prelude.{ℕ, ◌==◌, ◌&&◌, ◌||◌, ◌++◌, Bool, if◌then◌else◌, List, [], ◌∷◌, Option, None, Some, bytes_eq, codes, drop, is_some, nat_eq}
use Rattle.std.specs.List.{filter_map, flat_map, list_any, starts_with}
use Rattle.hy_events.specs.Lines.{lines}

-- a line that says what is done is indented by four spaces; all other lines are prose
abbrev pub step_in : List ℕ → Option (List ℕ)
step_in line = if starts_with nat_eq line (codes "    ") then Some (drop 4 line) else None

abbrev pub steps_of : List ℕ → List (List ℕ)
steps_of text = filter_map step_in (lines text)

-- what stands behind a mark and a space, or behind a mark alone: nothing
abbrev pub behind : ℕ → List ℕ → Option (List ℕ)
behind mark [] = None
behind mark (byte ∷ []) = if byte == mark then Some [] else None
behind mark (byte ∷ space ∷ rest) = if byte == mark && space == 32 then Some rest else None

-- a text as a line, where there is one
abbrev pub line_of : Option (List ℕ) → List ℕ
line_of None = []
line_of (Some text) = text ++ 10 ∷ []

-- the lines behind a mark, one behind another: `<` those of events, `!` those of standard error, `-` and `+` those that
-- are taken out of a file and put into it
abbrev pub text_behind : ℕ → List (List ℕ) → List ℕ
text_behind mark steps = flat_map (λ step. line_of (behind mark step)) steps

-- an exit status
abbrev pub is_status : List ℕ → Bool
is_status step = bytes_eq step (codes "[1]") || bytes_eq step (codes "[2]")

-- the exit status that is wanted: 0 where none is given
abbrev pub status_in : List (List ℕ) → ℕ
status_in steps =
    if list_any (λ step. bytes_eq step (codes "[2]")) steps then 2
    else if list_any (λ step. bytes_eq step (codes "[1]")) steps then 1 else 0

-- a line of standard output is any other
abbrev pub output_in : List ℕ → Option (List ℕ)
output_in step =
    if is_some (behind 60 step) || is_some (behind 33 step) || is_status step then None else Some step

abbrev pub output_of : List (List ℕ) → List ℕ
output_of steps = flat_map (λ step. line_of (output_in step)) steps

-- `$` begins a command, `>` a new file, `@` a change of a file
abbrev pub is_head : List ℕ → Bool
is_head step = is_some (behind 36 step) || is_some (behind 62 step) || is_some (behind 64 step)

-- such a line, and the lines up to the next one
pub record Block : Type 0 where
  pub head : List ℕ
  pub body : List (List ℕ)

abbrev pub body_of : List (List ℕ) → List (List ℕ)
body_of [] = []
body_of (step ∷ later) = if is_head step then [] else step ∷ body_of later

abbrev pub blocks_of : List (List ℕ) → List Block
blocks_of [] = []
blocks_of (step ∷ later) =
    if is_head step then record { head = step; body = body_of later } ∷ blocks_of later else blocks_of later
