-- When a scenario holds.
use Rattle.std.specs.Prelude.{◌≡◌, ◌≢◌, ◌⊎◌, ℕ, All, Bool, true, false, IsUtf8, MatchBool, MatchOption, List, [], ◌∷◌, Some, codes, is_some, option_and_then, unwrap_or}
use Rattle.std.specs.List.{list_any}
use Rattle.hy_files.specs.Files.{FilesByPath, HasFile, KeepsOthers, no_files}
use Rattle.hy_program.specs.declared.ending.Ending.{Ending}
use Rattle.hy_scenarios.specs.Marks.{Block, behind, blocks_of, body_of, is_head, steps_of, text_behind}
use Rattle.hy_scenarios.specs.Changes.{bytes_of, replaced}
use Rattle.hy_scenarios.specs.Commands.{Printed, Prints, given_words, wanted_by, words_of}

-- the file at a path has these bytes, and all others are as they were
abbrev pub Puts : FilesByPath → FilesByPath → List ℕ → List ℕ → Type 0
Puts old new path bytes = HasFile (Some new) path bytes × KeepsOthers (Some old) (Some new) path

-- the lines of events stand in the file `events`, where the command has some
abbrev pub PutsEvents : FilesByPath → FilesByPath → List (List ℕ) → Type 0
PutsEvents old new body = MatchBool (list_any (λ step. is_some (behind 60 step)) body)
    (Puts old new (codes "events") (text_behind 60 body)) (new ≡ old)

-- what a command may read on standard input: the file `events`, or nothing where there is none
abbrev pub input_on : FilesByPath → List ℕ
input_on files = unwrap_or (files (codes "events")) []

-- a command holds exactly where the program printed what is wanted
abbrev pub IsRun : List (List ℕ) → List (List ℕ) → FilesByPath → FilesByPath → Bool → Type 0
IsRun words body old new holds =
    (between : FilesByPath) × (printed : Printed) × (end : Ending) × PutsEvents old between body
    × Prints words (input_on between) between new printed end
    × (((holds ≡ true) × (printed ≡ wanted_by body)) ⊎ ((holds ≡ false) × (printed ≢ wanted_by body)))

-- a file is made where each step behind it says bytes, and changed where it has the lines that are taken out
abbrev pub IsMade : List ℕ → List (List ℕ) → FilesByPath → FilesByPath → Bool → Type 0
IsMade path body old new holds =
    MatchOption (bytes_of body) (holds ≡ false) (λ bytes. (holds ≡ true) × Puts old new path bytes)

abbrev pub IsChanged : List ℕ → List (List ℕ) → FilesByPath → FilesByPath → Bool → Type 0
IsChanged path body old new holds =
    MatchOption (option_and_then (replaced (text_behind 45 body) (text_behind 43 body)) (old path))
    (holds ≡ false) (λ bytes. (holds ≡ true) × Puts old new path bytes)

-- words that aren't all text, and a path that isn't, don't hold
abbrev pub IsCommand : List (List ℕ) → List (List ℕ) → FilesByPath → FilesByPath → Bool → Type 0
IsCommand words body old new holds =
    ((¬ (All IsUtf8 words)) × (holds ≡ false)) ⊎ IsRun words body old new holds

abbrev pub IsFile : (List ℕ → List (List ℕ) → FilesByPath → FilesByPath → Bool → Type 0)
    → List ℕ → List (List ℕ) → FilesByPath → FilesByPath → Bool → Type 0
IsFile Is path body old new holds = ((¬ (IsUtf8 path)) × (holds ≡ false)) ⊎ Is path body old new holds

-- what a block does, by its head
abbrev pub IsDone : Block → FilesByPath → FilesByPath → Bool → Type 0
IsDone block old new holds = MatchOption (behind 36 block.head)
    (MatchOption (behind 62 block.head)
    (MatchOption (behind 64 block.head) (holds ≡ false) (λ path. IsFile IsChanged path block.body old new holds))
    (λ path. IsFile IsMade path block.body old new holds))
    (λ line. MatchOption (given_words (words_of line)) (holds ≡ false)
    (λ words. IsCommand words block.body old new holds))

-- blocks hold where each does, one after the other, on the files that those before it left
abbrev pub AreDone : List Block → FilesByPath → Bool → Type 0
AreDone [] files holds = holds ≡ true
AreDone (block ∷ later) files holds = (new : FilesByPath) × (one : Bool) × IsDone block files new one
    × MatchBool one (AreDone later new holds) (holds ≡ false)

-- the first step begins a block
abbrev pub begins_block : List (List ℕ) → Bool
begins_block [] = false
begins_block (step ∷ later) = is_head step

-- a scenario holds where its blocks do, from no files on
abbrev pub IsVerdict : List ℕ → Bool → Type 0
IsVerdict text holds = MatchBool (begins_block (steps_of text))
    (AreDone (blocks_of (steps_of text)) no_files holds) (holds ≡ false)
