-- Columns of keys as bytes: they read back, and their order is that of the columns.
use Rattle.std.proofs.Common.{◌≡◌, ℕ, zero, suc, ◌+◌, ◌-◌, ◌*◌, ◌/◌, ◌%◌, ◌<◌, ◌≤◌, ◌^◌, List, [], ◌∷◌, ◌++◌, length, drop, refl, sym, ap, ap₂, ◌∙◌, arith, inl, inr, Ordering, Less, Equal, Greater, length-append, append_assoc}
use Rattle.std.proofs.lemmas.List.{append-nil}
use Rattle.std.specs.Ordering.{nat_cmp, ordering_then}
use Rattle.std.specs.Cmp.{nat_cmp_is}
use Rattle.std.specs.Cmp.Lexicographic.{slice_cmp}
use Rattle.std.specs.Int.{byte_at, bytes_high_first, to_be_bytes, w64}
use Rattle.std.proofs.Math.Nat.{pow-suc, div-div-eq-div-mul, div-add-mod}
use Rattle.std.proofs.lemmas.Nat.{div_below}
use Rattle.std.proofs.lemmas.Bool.{cases_lt, cases_eq}
use Rattle.hy_index.specs.KeyBytes.{high_bytes_of, high_number_from, high_number_of}

pub length-high_bytes_of : (width number : ℕ) → length (high_bytes_of width number) ≡ width
length-high_bytes_of zero number = refl
length-high_bytes_of (suc width) number = omega (arith, length-append (high_bytes_of width (number / 256)) (number % 256 ∷ []), length-high_bytes_of width (number / 256))

high_number_from-last : (front : ℕ) (bytes : List ℕ) (byte : ℕ) → high_number_from front (bytes ++ byte ∷ []) ≡ high_number_from front bytes * 256 + byte
high_number_from-last front [] byte = refl
high_number_from-last front (first ∷ bytes) byte = high_number_from-last (front * 256 + first) bytes byte

-- the bytes of a number that fits them spell that number
pub high_number_of-bytes : (width number : ℕ) → number < 256 ^ width → high_number_of (high_bytes_of width number) ≡ number
high_number_of-bytes zero number fits = omega arith
high_number_of-bytes (suc width) number fits =
    let above : number / 256 < 256 ^ width = div_below number 256 (256 ^ width) (omega arith) (omega (arith, pow-suc 256 width)) in
    high_number_from-last 0 (high_bytes_of width (number / 256)) (number % 256)
    ∙ ap (λ front. front * 256 + number % 256) (high_number_of-bytes width (number / 256) above)
    ∙ omega (arith, div-add-mod number 256)

then-assoc : (one other third : Ordering) → ordering_then (ordering_then one other) third ≡ ordering_then one (ordering_then other third)
then-assoc Less other third = refl
then-assoc Equal other third = refl
then-assoc Greater other third = refl

cmp-less : (a b : ℕ) → a < b → nat_cmp a b ≡ Less
cmp-less a b less = sym (nat_cmp_is a b Less less)

cmp-equal : (a b : ℕ) → a ≡ b → nat_cmp a b ≡ Equal
cmp-equal a b same = sym (nat_cmp_is a b Equal same)

cmp-greater : (a b : ℕ) → b < a → nat_cmp a b ≡ Greater
cmp-greater a b more = sym (nat_cmp_is a b Greater more)

-- numbers compare by their quotients, and then by their remainders
cmp-parts : (a b : ℕ) → nat_cmp a b ≡ ordering_then (nat_cmp (a / 256) (b / 256)) (nat_cmp (a % 256) (b % 256))
cmp-parts a b =
    let of_a = div-add-mod a 256 in
    let of_b = div-add-mod b 256 in
    elim (cases_lt (a / 256) (b / 256)) [
      | inl less ↦ cmp-less a b (omega arith) ∙ sym (ap (λ o. ordering_then o (nat_cmp (a % 256) (b % 256))) (cmp-less (a / 256) (b / 256) less))
      | inr rest ↦ elim (cases_eq (a / 256) (b / 256)) [
        | inl same ↦ elim (cases_lt (a % 256) (b % 256)) [
          | inl less ↦ cmp-less a b (omega arith) ∙ sym (ap₂ ordering_then (cmp-equal (a / 256) (b / 256) same) (cmp-less (a % 256) (b % 256) less))
          | inr more ↦ elim (cases_eq (a % 256) (b % 256)) [
            | inl equal ↦ cmp-equal a b (omega arith) ∙ sym (ap₂ ordering_then (cmp-equal (a / 256) (b / 256) same) (cmp-equal (a % 256) (b % 256) equal))
            | inr greater ↦ cmp-greater a b (omega arith) ∙ sym (ap₂ ordering_then (cmp-equal (a / 256) (b / 256) same) (cmp-greater (a % 256) (b % 256) (omega arith)))
          ]
        ]
        | inr other ↦ cmp-greater a b (omega arith) ∙ sym (ap (λ o. ordering_then o (nat_cmp (a % 256) (b % 256))) (cmp-greater (a / 256) (b / 256) (omega arith)))
      ]
    ]

-- keys that begin with a number compare by it, and then by what is behind it
pub compared-number : (width a b : ℕ) (xs ys : List ℕ) → a < 256 ^ width → b < 256 ^ width
    → slice_cmp nat_cmp (high_bytes_of width a ++ xs) (high_bytes_of width b ++ ys) ≡ ordering_then (nat_cmp a b) (slice_cmp nat_cmp xs ys)
compared-number zero a b xs ys fits_a fits_b = sym (ap (λ o. ordering_then o (slice_cmp nat_cmp xs ys)) (cmp-equal a b (omega arith)))
compared-number (suc width) a b xs ys fits_a fits_b =
    let above_a : a / 256 < 256 ^ width = div_below a 256 (256 ^ width) (omega arith) (omega (arith, pow-suc 256 width)) in
    let above_b : b / 256 < 256 ^ width = div_below b 256 (256 ^ width) (omega arith) (omega (arith, pow-suc 256 width)) in
    ap₂ (slice_cmp nat_cmp) (append_assoc (high_bytes_of width (a / 256)) (a % 256 ∷ []) xs) (append_assoc (high_bytes_of width (b / 256)) (b % 256 ∷ []) ys)
    ∙ compared-number width (a / 256) (b / 256) (a % 256 ∷ xs) (b % 256 ∷ ys) above_a above_b
    ∙ sym (then-assoc (nat_cmp (a / 256) (b / 256)) (nat_cmp (a % 256) (b % 256)) (slice_cmp nat_cmp xs ys))
    ∙ ap (λ o. ordering_then o (slice_cmp nat_cmp xs ys)) (sym (cmp-parts a b))

-- and a number at the end
pub compared-last : (width a b : ℕ) → a < 256 ^ width → b < 256 ^ width → slice_cmp nat_cmp (high_bytes_of width a) (high_bytes_of width b) ≡ nat_cmp a b
compared-last width a b fits_a fits_b =
    ap₂ (slice_cmp nat_cmp) (sym (append-nil (high_bytes_of width a))) (sym (append-nil (high_bytes_of width b)))
    ∙ compared-number width a b [] [] fits_a fits_b
    ∙ then-equal (nat_cmp a b)
  where
    then-equal : (o : Ordering) → ordering_then o Equal ≡ o
    then-equal Less = refl
    then-equal Equal = refl
    then-equal Greater = refl

-- keys that begin with texts of one width compare by these, and then by what is behind them
pub compared-text : (one other xs ys : List ℕ) → length one ≡ length other → slice_cmp nat_cmp (one ++ xs) (other ++ ys) ≡ ordering_then (slice_cmp nat_cmp one other) (slice_cmp nat_cmp xs ys)
compared-text [] [] xs ys same = refl
compared-text [] (b ∷ other) xs ys same = absurd (omega arith)
compared-text (a ∷ one) [] xs ys same = absurd (omega arith)
compared-text (a ∷ one) (b ∷ other) xs ys same =
    ap (ordering_then (nat_cmp a b)) (compared-text one other xs ys (omega arith))
    ∙ sym (then-assoc (nat_cmp a b) (slice_cmp nat_cmp one other) (slice_cmp nat_cmp xs ys))

-- the bytes of a number as the standard library gives them
byte-next : (i number : ℕ) → byte_at (suc i) number ≡ byte_at i (number / 256)
byte-next zero number = refl
byte-next (suc i) number = ap (λ n. n % 256) (ap (λ n. number / n) (pow-suc 256 (suc i) ∙ (let turned : 256 ^ suc i * 256 ≡ 256 * 256 ^ suc i = omega arith in turned)) ∙ sym (div-div-eq-div-mul number 256 (256 ^ suc i)))

high_first-last : (width number : ℕ) → bytes_high_first (suc width) number ≡ bytes_high_first width (number / 256) ++ number % 256 ∷ []
high_first-last zero number = refl
high_first-last (suc width) number = ap₂ ◌∷◌ (byte-next width number) (high_first-last width number)

high_first-bytes : (width number : ℕ) → bytes_high_first width number ≡ high_bytes_of width number
high_first-bytes zero number = refl
high_first-bytes (suc width) number = high_first-last width number ∙ ap (λ front. front ++ number % 256 ∷ []) (high_first-bytes width (number / 256))

drop-high_first : (more width number : ℕ) → drop more (bytes_high_first (more + width) number) ≡ bytes_high_first width number
drop-high_first zero width number = ap (λ w. bytes_high_first w number) (let none : zero + width ≡ width = omega arith in none)
drop-high_first (suc more) width number =
    ap (λ w. drop (suc more) (bytes_high_first w number)) (let next : suc more + width ≡ suc (more + width) = omega arith in next)
    ∙ drop-high_first more width number

pub to_be_bytes-last : (width number : ℕ) → width ≤ 8 → drop (8 - width) (to_be_bytes w64 number) ≡ high_bytes_of width number
to_be_bytes-last width number within =
    ap (λ all. drop (8 - width) (bytes_high_first all number)) (let whole : 8 ≡ 8 - width + width = omega arith in whole)
    ∙ drop-high_first (8 - width) width number
    ∙ high_first-bytes width number
