-- Lines of a purchase, six bytes each.
use Rattle.std.proofs.Common.{◌≡◌, ◌≤◌, ◌<◌, inl, inr, ℕ, zero, suc, ◌*◌, List, length, take, drop, None, Some, refl, ap, ◌∙◌, arith}
use Rattle.std.specs.Prelude.{slice_get}
use Rattle.std.proofs.lemmas.Bool.{cases_lt, le-ltb, lt-ltb}
use Rattle.std.proofs.lemmas.List.{drop-drop, length-drop}
use Rattle.hy_rows.specs.Limits.{max_lines}
use Rattle.hy_batches.specs.inside.Reading.{counted_lines_at, front_at, line_at, line_in, lines_at, lines_in, number_at}

front-long : (count : ℕ) (bytes : List ℕ) → count ≤ length bytes → front_at count bytes ≡ Some (take count bytes, drop count bytes)
unfolding front_at
front-long count bytes long = rw (le-ltb (length bytes) count long) refl

front-short : (count : ℕ) (bytes : List ℕ) → length bytes < count → front_at count bytes ≡ None
unfolding front_at
front-short count bytes short = rw (lt-ltb (length bytes) count short) refl

line-six : (bytes : List ℕ) → 6 ≤ length bytes → line_at bytes ≡ Some (line_in bytes, drop 6 bytes)
unfolding line_at number_at
line-six bytes long =
    let five : drop 1 (drop 4 bytes) ≡ drop 5 bytes = drop-drop 1 4 bytes in
    let six : drop 1 (drop 5 bytes) ≡ drop 6 bytes = drop-drop 1 5 bytes in
    rw (
      front-long 4 bytes (omega arith),
      front-long 1 (drop 4 bytes) (omega (arith, length-drop 4 bytes)),
      five,
      front-long 1 (drop 5 bytes) (omega (arith, length-drop 5 bytes)),
      six,
    ) refl

-- where a number can't be read for want of bytes, nor can the line
line-short : (bytes : List ℕ) → length bytes < 6 → line_at bytes ≡ None
unfolding line_at number_at
line-short bytes short = elim (cases_lt (length bytes) 4) [
  | inl less ↦ rw (front-short 4 bytes less) refl
  | inr four ↦ elim (cases_lt (length bytes) 5) [
    | inl less ↦
        rw (front-long 4 bytes four, front-short 1 (drop 4 bytes) (omega (arith, length-drop 4 bytes))) refl
    | inr five ↦
        let fifth : drop 1 (drop 4 bytes) ≡ drop 5 bytes = drop-drop 1 4 bytes in
        rw (
          front-long 4 bytes four,
          front-long 1 (drop 4 bytes) (omega (arith, length-drop 4 bytes)),
          fifth,
          front-short 1 (drop 5 bytes) (omega (arith, length-drop 5 bytes)),
        ) refl
  ]
]

pub lines-six : (count : ℕ) (bytes : List ℕ) → 6 * count ≤ length bytes
    → lines_at count bytes ≡ Some (lines_in count bytes, drop (6 * count) bytes)
unfolding lines_at
lines-six zero bytes long = refl
lines-six (suc count) bytes long =
    let later = lines-six count (drop 6 bytes) (omega (arith, length-drop 6 bytes)) in
    let all : drop (6 * count) (drop 6 bytes) ≡ drop (6 * suc count) bytes =
    drop-drop (6 * count) 6 bytes ∙ ap (λ k. drop k bytes) (omega arith) in
    rw (line-six bytes (omega arith), later, all) refl

pub lines-short : (count : ℕ) (bytes : List ℕ) → length bytes < 6 * count → lines_at count bytes ≡ None
unfolding lines_at
lines-short zero bytes short = absurd (omega arith)
lines-short (suc count) bytes short = elim (cases_lt (length bytes) 6) [
  | inl less ↦ rw (line-short bytes less) refl
  | inr six ↦
      rw (line-six bytes six, lines-short count (drop 6 bytes) (omega (arith, length-drop 6 bytes))) refl
]

-- the line at a place stands behind those before it
pub line-here : (count : ℕ) (bytes : List ℕ) (place : ℕ) → place < count
    → slice_get (lines_in count bytes) place ≡ Some (line_in (drop (6 * place) bytes))
line-here zero bytes place within = absurd (omega arith)
line-here (suc count) bytes zero within = refl
line-here (suc count) bytes (suc place) within =
    line-here count (drop 6 bytes) place (omega arith)
    ∙ ap (λ (bytes : List ℕ). Some (line_in bytes)) (drop-drop (6 * place) 6 bytes ∙ ap (λ k. drop k bytes) (omega arith))

pub length-lines : (count : ℕ) (bytes : List ℕ) → length (lines_in count bytes) ≡ count
length-lines zero bytes = refl
length-lines (suc count) bytes = ap suc (length-lines count (drop 6 bytes))

pub line-read : (bytes : List ℕ) → 6 ≤ length bytes → line_at bytes ≡ Some (line_in bytes, drop 6 bytes)
line-read bytes long = line-six bytes long

-- a number of lines, and they
pub counted-none : (bytes : List ℕ) → number_at 1 bytes ≡ None → counted_lines_at bytes ≡ None
unfolding counted_lines_at
counted-none bytes none = rw none refl

pub counted-many : (bytes rest : List ℕ) (count : ℕ) → number_at 1 bytes ≡ Some (count, rest) → max_lines < count
    → counted_lines_at bytes ≡ None
unfolding counted_lines_at
counted-many bytes rest count is many = rw (is, lt-ltb max_lines count many) refl

pub counted-short : (bytes rest : List ℕ) (count : ℕ) → number_at 1 bytes ≡ Some (count, rest) → count ≤ max_lines
    → length rest < 6 * count → counted_lines_at bytes ≡ None
unfolding counted_lines_at
counted-short bytes rest count is few short = rw (is, le-ltb max_lines count few, lines-short count rest short) refl

pub counted-few : (bytes rest : List ℕ) (count : ℕ) → number_at 1 bytes ≡ Some (count, rest) → count ≤ max_lines
    → 6 * count ≤ length rest → counted_lines_at bytes ≡ Some (lines_in count rest, drop (6 * count) rest)
unfolding counted_lines_at
counted-few bytes rest count is few long = rw (is, le-ltb max_lines count few, lines-six count rest long) refl
