-- Laws on what the blocks of a scenario do.
use Rattle.std.proofs.Common.{rules, arith, ◌≡◌, ◌∙◌, ◌+◌, ◌<◌, ◌++◌, ℕ, zero, suc, Bool, true, false, List, [], ◌∷◌, Option, None, Some, Bor, ap, sym, refl, subst, All, IsUtf8, MatchOption, add-one, drop, drop-cons, get_or, inl, inr, length}
use Rattle.hy_cli.specs.CommandLine.{texts_of}
use Rattle.hy_files.specs.Files.{FilesByPath}
use Rattle.hy_scenarios.specs.Changes.{replaced}
use Rattle.hy_program.specs.declared.ending.Ending.{Ending}
use Rattle.hy_scenarios.specs.Commands.{Printed, Prints, given_words, wanted_by, words_of}
use Rattle.hy_scenarios.specs.Marks.{blocks_of, body_of, is_head, text_behind}
use Rattle.hy_scenarios.specs.Scenarios.{AreDone, IsChanged, IsCommand, IsDone, IsRun, Puts, PutsEvents, input_on}

-- a file that is there, and has the lines that are taken out, is changed
pub changed-is : (path : List ℕ) (body : List (List ℕ)) (old between new : FilesByPath) (bytes changed : List ℕ)
    → Some bytes ≡ old path → Some changed ≡ replaced (text_behind 45 body) (text_behind 43 body) bytes
    → between ≡ old → Puts between new path changed → IsChanged path body old new true
changed-is path body old between new bytes changed there found same put =
    rw (sym there, sym found) (refl, subst (λ files. Puts files new path changed) same put)

-- a command that was given the input which the files have, and found them as they were behind its events
pub ran-on : (words : List (List ℕ)) (between read new : FilesByPath) (input : List ℕ) (printed : Printed) (end : Ending)
    → input ≡ input_on between → read ≡ between → Prints words input read new printed end
    → Prints words (input_on between) between new printed end
ran-on words between read new input printed end is same prints =
    subst (λ bytes. Prints words bytes between new printed end) is
    (subst (λ files. Prints words input files new printed end) same prints)

-- it printed what is wanted, or something else
pub ran-same : (words body : List (List ℕ)) (old between new : FilesByPath) (printed wanted : Printed) (end : Ending)
    → PutsEvents old between body → Prints words (input_on between) between new printed end → wanted ≡ wanted_by body
    → printed ≡ wanted → IsRun words body old new true
ran-same words body old between new printed wanted end put prints is same =
    (between, printed, end, put, prints, inl (refl, same ∙ is))

pub ran-other : (words body : List (List ℕ)) (old between new : FilesByPath) (printed wanted : Printed) (end : Ending)
    → PutsEvents old between body → Prints words (input_on between) between new printed end → wanted ≡ wanted_by body
    → (printed ≡ wanted → ⊥) → IsRun words body old new false
ran-other words body old between new printed wanted end put prints is other =
    (between, printed, end, put, prints, inr (refl, λ same. other (same ∙ sym is)))

-- the block that begins at a place
pub blocks-at : (steps : List (Bor (List ℕ))) (place : ℕ) (step : Bor (List ℕ)) → place < length steps
    → is_head (get_or steps place step).now ≡ true
    → blocks_of (texts_of (drop place steps))
    ≡ record { head = (get_or steps place step).now; body = body_of (texts_of (drop (place + 1) steps)) }
    ∷ blocks_of (texts_of (drop (place + 1) steps))
blocks-at steps place step within is_one =
    rw (add-one place, drop-cons steps place step within, is_one) refl

pub blocks-past : (steps : List (Bor (List ℕ))) (place : ℕ) (step : Bor (List ℕ)) → place < length steps
    → is_head (get_or steps place step).now ≡ false
    → blocks_of (texts_of (drop place steps)) ≡ blocks_of (texts_of (drop (place + 1) steps))
blocks-past steps place step within is_none =
    rw (add-one place, drop-cons steps place step within, is_none) refl

-- the blocks from a place on, where the first of them holds, and where it doesn't
pub holds-at : (steps : List (Bor (List ℕ))) (place : ℕ) (step : Bor (List ℕ)) → place < length steps
    → is_head (get_or steps place step).now ≡ true → (body : List (List ℕ))
    → body ≡ body_of (texts_of (drop (place + 1) steps)) → (old new : FilesByPath) (holds : Bool)
    → IsDone (record { head = (get_or steps place step).now; body = body }) old new true
    → AreDone (blocks_of (texts_of (drop (place + 1) steps))) new holds
    → AreDone (blocks_of (texts_of (drop place steps))) old holds
holds-at steps place step within is_one body same old new holds done later =
    rw (blocks-at steps place step within is_one, sym same) (new, true, done, later)

pub fails-at : (steps : List (Bor (List ℕ))) (place : ℕ) (step : Bor (List ℕ)) → place < length steps
    → is_head (get_or steps place step).now ≡ true → (body : List (List ℕ))
    → body ≡ body_of (texts_of (drop (place + 1) steps)) → (old new : FilesByPath)
    → IsDone (record { head = (get_or steps place step).now; body = body }) old new false
    → AreDone (blocks_of (texts_of (drop place steps))) old false
fails-at steps place step within is_one body same old new done =
    rw (blocks-at steps place step within is_one, sym same) (new, false, done, refl)

pub past-at : (steps : List (Bor (List ℕ))) (place : ℕ) (step : Bor (List ℕ)) → place < length steps
    → is_head (get_or steps place step).now ≡ false → (files : FilesByPath) (holds : Bool)
    → AreDone (blocks_of (texts_of (drop (place + 1) steps))) files holds
    → AreDone (blocks_of (texts_of (drop place steps))) files holds
past-at steps place step within is_none files holds later = rw (blocks-past steps place step within is_none) later

-- a command with a word that is no text
pub not-texts : (line : List ℕ) (words body : List (List ℕ)) (old new : FilesByPath)
    → Some words ≡ given_words (words_of line) → (All IsUtf8 words → ⊥)
    → MatchOption (given_words (words_of line)) (false ≡ false) (λ words. IsCommand words body old new false)
not-texts line words body old new given odd = rw (sym given) (inl (odd, refl))

-- one word that is no text
pub not-all : (words : List (Bor (List ℕ))) (place : ℕ) (word : Bor (List ℕ)) → place < length words
    → (IsUtf8 (get_or words place word).now → ⊥) → All IsUtf8 (texts_of words) → ⊥
not-all [] place word within odd all = absurd (omega (arith, within))
not-all (first ∷ later) zero word within odd all = odd (all 0 [] (omega (arith, within)))
not-all (first ∷ later) (suc place) word within odd all = not-all later place word (omega (arith, within)) odd
    (λ other text below. all (suc other) text (omega (arith, below)))
