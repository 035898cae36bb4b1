-- The order of lists of bytes by the numbers that their first bytes spell.
use Rattle.std.proofs.Common.{◌≡◌, ℕ, zero, suc, ◌+◌, ◌-◌, ◌*◌, ◌<◌, ◌≤◌, true, false, List, [], ◌∷◌, length, take, drop, refl, sym, ap, ap₂, ◌∙◌, subst, arith, inl, inr, Less, Equal, Greater}
use Rattle.std.specs.Prelude.{nat_lt, slice_index}
use Rattle.std.specs.Int.{from_be_bytes, w64}
use Rattle.std.specs.Ordering.{is_lt, nat_cmp, ordering_then}
use Rattle.std.specs.Cmp.{nat_cmp_is}
use Rattle.std.specs.Cmp.Lexicographic.{slice_cmp}
use Rattle.std.proofs.lemmas.Bool.{cases_lt, cases_eq, lt-ltb, le-ltb}
use Rattle.std.proofs.lemmas.List.{drop-drop, get_or-drop}
use Rattle.hy_page.specs.Bytes.{AreBytes}
use Rattle.hy_trees.specs.Trees.{is_less_bytes}
use Rattle.hy_nodes.specs.Words.{first_word, word_from}

-- the number so far, with the byte at a place, and the bytes behind it
pub word_from-step : (left front place : ℕ) (bytes : List ℕ) → word_from (suc left) front (drop place bytes) ≡ word_from left (front * 256 + slice_index bytes place) (drop (place + 1) bytes)
word_from-step left front place bytes =
    ap₂ (λ byte rest. word_from left (front * 256 + byte) rest)
    (get_or-drop place bytes 0 0 ∙ ap (slice_index bytes) (let same : place + 0 ≡ place = omega arith in same))
    (drop-drop 1 place bytes)

-- bytes behind one that is there are bytes
tail : (byte : ℕ) (bytes : List ℕ) → AreBytes (byte ∷ bytes) → AreBytes bytes
tail byte bytes are k = are (suc k)

rest : (bytes : List ℕ) → AreBytes bytes → AreBytes (drop 1 bytes)
rest [] are k = omega arith
rest (byte ∷ bytes) are k = are (suc k)

-- a number behind a lesser one is less, whatever the bytes
pub word_from-mono : (left front other : ℕ) (bytes others : List ℕ) → AreBytes bytes → front < other → word_from left front bytes < word_from left other others
word_from-mono zero front other bytes others are less = less
word_from-mono (suc left) front other bytes others are less =
    word_from-mono left (front * 256 + slice_index bytes 0) (other * 256 + slice_index others 0) (drop 1 bytes) (drop 1 others) (rest bytes are) (omega (arith, are 0, less))

-- no number is less than that of no bytes
word_from-least : (left front other : ℕ) (bytes : List ℕ) → front ≤ other → word_from left front [] ≤ word_from left other bytes
word_from-least zero front other bytes least = least
word_from-least (suc left) front other bytes least = word_from-least left (front * 256 + 0) (other * 256 + slice_index bytes 0) (drop 1 bytes) (omega (arith, least))

is_less-lower : (a b : ℕ) (xs ys : List ℕ) → a < b → is_less_bytes (a ∷ xs) (b ∷ ys) ≡ true
is_less-lower a b xs ys less = ap (λ o. is_lt (ordering_then o (slice_cmp nat_cmp xs ys))) (sym (nat_cmp_is a b Less less))

is_less-higher : (a b : ℕ) (xs ys : List ℕ) → b < a → is_less_bytes (a ∷ xs) (b ∷ ys) ≡ false
is_less-higher a b xs ys more = ap (λ o. is_lt (ordering_then o (slice_cmp nat_cmp xs ys))) (sym (nat_cmp_is a b Greater more))

is_less-equal : (a b : ℕ) (xs ys : List ℕ) → a ≡ b → is_less_bytes (a ∷ xs) (b ∷ ys) ≡ is_less_bytes xs ys
is_less-equal a b xs ys same = ap (λ o. is_lt (ordering_then o (slice_cmp nat_cmp xs ys))) (sym (nat_cmp_is a b Equal same))

-- a key of which the first bytes spell a lesser number than those of a second one, which is no longer, is less
pub less-by_word : (left front : ℕ) (bytes key : List ℕ) → AreBytes bytes → AreBytes key → length key ≤ length bytes → word_from left front bytes < word_from left front key → is_less_bytes (take (length key) bytes) key ≡ true
less-by_word zero front bytes key are keys within less = absurd (omega (arith, less))
less-by_word (suc left) front bytes [] are keys within less = absurd (omega (arith, less, word_from-least (suc left) front front bytes (omega arith)))
less-by_word (suc left) front [] (b ∷ key) are keys within less = absurd (omega (arith, within))
less-by_word (suc left) front (a ∷ bytes) (b ∷ key) are keys within less =
    elim (cases_lt a b) [
      | inl lower ↦ is_less-lower a b (take (length key) bytes) key lower
      | inr not_lower ↦ elim (cases_eq a b) [
        | inl same ↦ is_less-equal a b (take (length key) bytes) key same
            ∙ less-by_word left (front * 256 + b) bytes key (tail a bytes are) (tail b key keys) (omega (arith, within))
            (subst (λ byte. word_from left (front * 256 + byte) bytes < word_from left (front * 256 + b) key) same less)
        | inr differs ↦ absurd (omega (arith, less, word_from-mono left (front * 256 + b) (front * 256 + a) key bytes (tail b key keys) (omega (arith, not_lower, differs))))
      ]
    ]

-- and one of which they spell a greater number isn't
pub not_less-by_word : (left front : ℕ) (bytes key : List ℕ) → AreBytes bytes → AreBytes key → length key ≤ length bytes → word_from left front key < word_from left front bytes → is_less_bytes (take (length key) bytes) key ≡ false
not_less-by_word zero front bytes key are keys within more = absurd (omega (arith, more))
not_less-by_word (suc left) front bytes [] are keys within more = refl
not_less-by_word (suc left) front [] (b ∷ key) are keys within more = absurd (omega (arith, within))
not_less-by_word (suc left) front (a ∷ bytes) (b ∷ key) are keys within more =
    elim (cases_lt a b) [
      | inl lower ↦ absurd (omega (arith, more, word_from-mono left (front * 256 + a) (front * 256 + b) bytes key (tail a bytes are) (omega (arith, lower))))
      | inr not_lower ↦ elim (cases_eq a b) [
        | inl same ↦ is_less-equal a b (take (length key) bytes) key same
            ∙ not_less-by_word left (front * 256 + b) bytes key (tail a bytes are) (tail b key keys) (omega (arith, within))
            (subst (λ byte. word_from left (front * 256 + b) key < word_from left (front * 256 + byte) bytes) same more)
        | inr differs ↦ is_less-higher a b (take (length key) bytes) key (omega (arith, not_lower, differs))
      ]
    ]

-- where they spell the same number, what stands behind them decides
pub less-behind_word : (left front : ℕ) (bytes key : List ℕ) → AreBytes bytes → AreBytes key → length key ≤ length bytes → word_from left front bytes ≡ word_from left front key → is_less_bytes (take (length key) bytes) key ≡ is_less_bytes (drop left (take (length key) bytes)) (drop left key)
less-behind_word zero front bytes key are keys within same = refl
less-behind_word (suc left) front bytes [] are keys within same = refl
less-behind_word (suc left) front [] (b ∷ key) are keys within same = absurd (omega (arith, within))
less-behind_word (suc left) front (a ∷ bytes) (b ∷ key) are keys within equal =
    elim (cases_lt a b) [
      | inl lower ↦ absurd (omega (arith, equal, word_from-mono left (front * 256 + a) (front * 256 + b) bytes key (tail a bytes are) (omega (arith, lower))))
      | inr not_lower ↦ elim (cases_eq a b) [
        | inl same ↦ is_less-equal a b (take (length key) bytes) key same
            ∙ less-behind_word left (front * 256 + b) bytes key (tail a bytes are) (tail b key keys) (omega (arith, within))
            (subst (λ byte. word_from left (front * 256 + byte) bytes ≡ word_from left (front * 256 + b) key) same equal)
        | inr differs ↦ absurd (omega (arith, equal, word_from-mono left (front * 256 + b) (front * 256 + a) key bytes (tail b key keys) (omega (arith, not_lower, differs))))
      ]
    ]

-- a step of a loop over the first eight places
pub word_from-next : (place front : ℕ) (bytes : List ℕ) → place < 8 → word_from (8 - place) front (drop place bytes) ≡ word_from (8 - (place + 1)) (front * 256 + slice_index bytes place) (drop (place + 1) bytes)
word_from-next place front bytes within =
    ap (λ left. word_from left front (drop place bytes)) (let one : 8 - place ≡ suc (8 - (place + 1)) = omega (arith, within) in one)
    ∙ word_from-step (8 - (place + 1)) front place bytes

-- the number of the first bytes of a list is that of the list
word_from-take : (left front : ℕ) (bytes : List ℕ) → word_from left front (take left bytes) ≡ word_from left front bytes
word_from-take zero front bytes = refl
word_from-take (suc left) front [] = refl
word_from-take (suc left) front (byte ∷ bytes) = word_from-take left (front * 256 + byte) bytes

drop-bytes : (begin : ℕ) (bytes : List ℕ) → AreBytes bytes → AreBytes (drop begin bytes)
drop-bytes begin bytes are k = omega (arith, get_or-drop begin bytes k 0, are (begin + k))

-- a key that begins at a place of a page, the number of the eight bytes from there on, and a key with as many bytes
module _ (page key : List ℕ) (begin number : ℕ) (are : AreBytes page) (keys : AreBytes key) (within : length key ≤ length (drop begin page)) (spelled : number ≡ first_word (take 8 (drop begin page))) where
  same_number : number ≡ first_word (drop begin page)
  same_number = spelled ∙ word_from-take 8 0 (drop begin page)

  -- where the numbers of both differ, they say which key is less
  pub less-numbers : (first : ℕ) → first ≡ first_word key → (number ≡ first → ⊥) → nat_lt number first ≡ is_less_bytes (take (length key) (drop begin page)) key
  less-numbers first is differs =
      elim (cases_lt number first) [
        | inl less ↦ lt-ltb number first less ∙ sym (less-by_word 8 0 (drop begin page) key (drop-bytes begin page are) keys within (omega (arith, same_number, is, less)))
        | inr not_less ↦ le-ltb number first not_less ∙ sym (not_less-by_word 8 0 (drop begin page) key (drop-bytes begin page are) keys within
            (let other : first < number = elim (cases_eq number first) [ inl same ↦ absurd (differs same) | inr unlike ↦ omega (arith, unlike, not_less) ] in omega (arith, same_number, is, other)))
      ]

  -- and where they are the same, what is behind them does
  pub less-behind : (first : ℕ) → first ≡ first_word key → number ≡ first → is_less_bytes (drop 8 (take (length key) (drop begin page))) (drop 8 key) ≡ is_less_bytes (take (length key) (drop begin page)) key
  less-behind first is same = sym (less-behind_word 8 0 (drop begin page) key (drop-bytes begin page are) keys within (sym same_number ∙ same ∙ is))

-- a byte behind the first one
slice_index-behind : (k : ℕ) (bytes : List ℕ) → slice_index (drop 1 bytes) k ≡ slice_index bytes (suc k)
slice_index-behind k [] = refl
slice_index-behind k (byte ∷ bytes) = refl

-- the number that eight bytes spell is the one that the standard library reads
pub from_be_bytes-word : (bytes : List ℕ) → from_be_bytes w64 bytes ≡ first_word bytes
from_be_bytes-word bytes =
    let rest_1 = drop 1 bytes in
    let rest_2 = drop 1 rest_1 in
    let rest_3 = drop 1 rest_2 in
    let rest_4 = drop 1 rest_3 in
    let rest_5 = drop 1 rest_4 in
    let rest_6 = drop 1 rest_5 in
    let at_1 = slice_index-behind 0 bytes in
    let at_2 = slice_index-behind 0 rest_1 ∙ slice_index-behind 1 bytes in
    let at_3 = slice_index-behind 0 rest_2 ∙ slice_index-behind 1 rest_1 ∙ slice_index-behind 2 bytes in
    let at_4 = slice_index-behind 0 rest_3 ∙ slice_index-behind 1 rest_2 ∙ slice_index-behind 2 rest_1 ∙ slice_index-behind 3 bytes in
    let at_5 = slice_index-behind 0 rest_4 ∙ slice_index-behind 1 rest_3 ∙ slice_index-behind 2 rest_2 ∙ slice_index-behind 3 rest_1 ∙ slice_index-behind 4 bytes in
    let at_6 = slice_index-behind 0 rest_5 ∙ slice_index-behind 1 rest_4 ∙ slice_index-behind 2 rest_3 ∙ slice_index-behind 3 rest_2 ∙ slice_index-behind 4 rest_1 ∙ slice_index-behind 5 bytes in
    let at_7 = slice_index-behind 0 rest_6 ∙ slice_index-behind 1 rest_5 ∙ slice_index-behind 2 rest_4 ∙ slice_index-behind 3 rest_3 ∙ slice_index-behind 4 rest_2 ∙ slice_index-behind 5 rest_1 ∙ slice_index-behind 6 bytes in
    omega (arith, at_1, at_2, at_3, at_4, at_5, at_6, at_7)
