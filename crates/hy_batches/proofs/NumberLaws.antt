-- Numbers as bytes.
use Rattle.std.proofs.Common.{◌≡◌, ℕ, zero, suc, ◌+◌, ◌*◌, ◌/◌, ◌%◌, ◌^◌, ◌<◌, ◌≤◌, List, [], ◌∷◌, length, take, refl, sym, ap, ◌∙◌, arith}
use Rattle.std.specs.Prelude.{slice_index}
use Rattle.std.specs.Int.{w64, from_le_bytes, to_le_bytes}
use Rattle.std.proofs.Math.Nat.{pow-suc}
use Rattle.std.proofs.Math.Arith.{mod-mul}
use Rattle.hy_page.specs.Bytes.{bytes_of, number_of}
use Rattle.hy_page.proofs.ByteLaws.{take-bytes_of, to_le_bytes-bytes_of}
use Rattle.hy_batches.specs.Encoding.{number_bytes}

-- the first bytes of the eight that the standard library gives
pub written_number : (bytes : List ℕ) (width number : ℕ) → bytes ≡ to_le_bytes w64 number → width ≤ 8
    → take width bytes ≡ number_bytes width number
unfolding number_bytes
written_number bytes width number same within =
    ap (take width) (same ∙ to_le_bytes-bytes_of number) ∙ take-bytes_of width 8 number within

pub all_written : (bytes : List ℕ) (number : ℕ) → bytes ≡ to_le_bytes w64 number → bytes ≡ number_bytes 8 number
unfolding number_bytes
all_written bytes number same = same ∙ to_le_bytes-bytes_of number

-- the bytes of a number one by one
pub spread_2 : (bytes : List ℕ) (number : ℕ) → bytes ≡ number_bytes 2 number
    → number_bytes 2 number ≡ slice_index bytes 0 ∷ slice_index bytes 1 ∷ []
unfolding number_bytes
spread_2 bytes number same = rw same refl

pub spread_4 : (bytes : List ℕ) (number : ℕ) → bytes ≡ number_bytes 4 number
    → number_bytes 4 number ≡ slice_index bytes 0 ∷ slice_index bytes 1 ∷ slice_index bytes 2 ∷ slice_index bytes 3 ∷ []
unfolding number_bytes
spread_4 bytes number same = rw same refl

pub spread_8 : (bytes : List ℕ) (number : ℕ) → bytes ≡ number_bytes 8 number
    → number_bytes 8 number ≡ slice_index bytes 0 ∷ slice_index bytes 1 ∷ slice_index bytes 2 ∷ slice_index bytes 3
    ∷ slice_index bytes 4 ∷ slice_index bytes 5 ∷ slice_index bytes 6 ∷ slice_index bytes 7 ∷ []
unfolding number_bytes
spread_8 bytes number same = rw same refl

power : (width : ℕ) → 0 < 256 ^ width
power zero = omega arith
power (suc width) = omega (arith, pow-suc 256 width, power width)

-- no more than the lowest bytes count
bytes_of-low : (width number : ℕ) → bytes_of width (number % 256 ^ width) ≡ bytes_of width number
bytes_of-low zero number = refl
bytes_of-low (suc width) number =
    let low : number % (256 ^ width * 256) ≡ (number / 256 % 256 ^ width) * 256 + number % 256 =
    mod-mul number (power width) (omega arith) in
    let whole : number % 256 ^ suc width ≡ (number / 256 % 256 ^ width) * 256 + number % 256 =
    ap (λ n. number % n) (pow-suc 256 width) ∙ low in
    let first : (number % 256 ^ suc width) % 256 ≡ number % 256 = omega arith in
    let others : (number % 256 ^ suc width) / 256 ≡ number / 256 % 256 ^ width = omega arith in
    ap (λ n. n ∷ bytes_of width ((number % 256 ^ suc width) / 256)) first
    ∙ ap (λ bytes. number % 256 ∷ bytes) (ap (bytes_of width) others ∙ bytes_of-low width (number / 256))

pub same_low : (width one other : ℕ) → one % 256 ^ width ≡ other % 256 ^ width
    → number_bytes width one ≡ number_bytes width other
unfolding number_bytes
same_low width one other same =
    sym (bytes_of-low width one) ∙ (ap (bytes_of width) same ∙ bytes_of-low width other)

-- the eight bytes of a number, as the standard library takes them
pub read_number : (bytes : List ℕ) → length bytes ≡ 8 → from_le_bytes w64 bytes ≡ number_of bytes
read_number [] size = absurd (omega arith)
read_number (a ∷ []) size = absurd (omega arith)
read_number (a ∷ b ∷ []) size = absurd (omega arith)
read_number (a ∷ b ∷ c ∷ []) size = absurd (omega arith)
read_number (a ∷ b ∷ c ∷ d ∷ []) size = absurd (omega arith)
read_number (a ∷ b ∷ c ∷ d ∷ e ∷ []) size = absurd (omega arith)
read_number (a ∷ b ∷ c ∷ d ∷ e ∷ f ∷ []) size = absurd (omega arith)
read_number (a ∷ b ∷ c ∷ d ∷ e ∷ f ∷ g ∷ []) size = absurd (omega arith)
read_number (a ∷ b ∷ c ∷ d ∷ e ∷ f ∷ g ∷ h ∷ []) size = omega arith
read_number (a ∷ b ∷ c ∷ d ∷ e ∷ f ∷ g ∷ h ∷ i ∷ more) size = absurd (omega arith)
