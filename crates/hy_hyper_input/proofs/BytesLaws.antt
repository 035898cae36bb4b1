-- Bytes between two places.
use Rattle.std.proofs.Common.{◌≡◌, ℕ, zero, suc, ◌+◌, ◌-◌, ◌≤◌, List, [], ◌∷◌, ◌++◌, take, drop, length, refl, sym, ap, ◌∙◌, arith}
use Rattle.std.proofs.lemmas.List.{drop-take}
use Rattle.hy_hyper_input.specs.Inputs.{between}

take-take : (one other : ℕ) (bytes : List ℕ) → one ≤ other → take one (take other bytes) ≡ take one bytes
take-take zero other bytes within = refl
take-take (suc one) zero bytes within = absurd (omega (arith, within))
take-take (suc one) (suc other) [] within = refl
take-take (suc one) (suc other) (byte ∷ bytes) within = ap (λ rest. byte ∷ rest) (take-take one other bytes (omega (arith, within)))

drop-none : (count : ℕ) → drop {A = ℕ} count [] ≡ []
drop-none zero = refl
drop-none (suc count) = refl

drop-drop : (one other : ℕ) (bytes : List ℕ) → drop one (drop other bytes) ≡ drop (other + one) bytes
drop-drop one zero bytes = ap (λ n. drop n bytes) (omega arith)
drop-drop one (suc other) [] = drop-none one ∙ sym (drop-none (suc other + one))
drop-drop one (suc other) (byte ∷ bytes) =
    drop-drop one other bytes
    ∙ sym (ap (λ n. drop n (byte ∷ bytes)) (let next : suc other + one ≡ suc (other + one) = omega arith in next))

pub take-few : (count : ℕ) (bytes : List ℕ) → length (take count bytes) ≤ count
take-few zero bytes = omega arith
take-few (suc count) [] = omega arith
take-few (suc count) (byte ∷ bytes) = omega (arith, take-few count bytes)

-- those before a place among them, and those behind it
pub between-front : (start place end : ℕ) (bytes : List ℕ) → start + place ≤ end
    → between start (start + place) bytes ≡ take place (between start end bytes)
between-front start place end bytes within =
    ap (λ n. take n (drop start bytes)) (omega arith)
    ∙ sym (take-take place (end - start) (drop start bytes) (omega (arith, within)))

pub between-behind : (start place end : ℕ) (bytes : List ℕ) → start + place ≤ end
    → drop place (between start end bytes) ≡ between (start + place) end bytes
between-behind start place end bytes within =
    ap (λ n. drop place (take n (drop start bytes)))
    (let count : end - start ≡ place + (end - (start + place)) = omega (arith, within) in count)
    ∙ drop-take place (end - (start + place)) (drop start bytes)
    ∙ ap (take (end - (start + place))) (drop-drop place start bytes)

-- they are among those before their end
pub between-same : (start end : ℕ) (bytes others : List ℕ) → start ≤ end → take end bytes ≡ take end others
    → between start end bytes ≡ between start end others
between-same start end bytes others order same = front bytes ∙ ap (drop start) same ∙ sym (front others)
  where
    front : (bytes : List ℕ) → between start end bytes ≡ drop start (take end bytes)
    front bytes =
        sym (drop-take start (end - start) bytes)
        ∙ ap (λ n. drop start (take n bytes)) (let sum : start + (end - start) ≡ end = omega (arith, order) in sum)

-- they are those before a place among them, and those behind it
take-parts : (place more : ℕ) (bytes : List ℕ) → take (place + more) bytes ≡ take place bytes ++ take more (drop place bytes)
take-parts zero more bytes = ap (λ n. take n bytes) (omega arith)
take-parts (suc place) more [] = none (suc place + more) ∙ sym (none more)
  where
    none : (count : ℕ) → take {A = ℕ} count [] ≡ []
    none zero = refl
    none (suc count) = refl
take-parts (suc place) more (byte ∷ bytes) =
    ap (λ n. take n (byte ∷ bytes)) (let next : suc place + more ≡ suc (place + more) = omega arith in next)
    ∙ ap (λ rest. byte ∷ rest) (take-parts place more bytes)

pub between-more : (start middle end : ℕ) (bytes : List ℕ) → start ≤ middle → middle ≤ end
    → between start end bytes ≡ between start middle bytes ++ between middle end bytes
between-more start middle end bytes first last =
    ap (λ n. take n (drop start bytes))
    (let count : end - start ≡ (middle - start) + (end - middle) = omega (arith, first, last) in count)
    ∙ take-parts (middle - start) (end - middle) (drop start bytes)
    ∙ ap (λ rest. between start middle bytes ++ take (end - middle) rest)
    (drop-drop (middle - start) start bytes
    ∙ ap (λ n. drop n bytes) (let sum : start + (middle - start) ≡ middle = omega (arith, first) in sum))

-- how many they are
take-count : (count : ℕ) (bytes : List ℕ) → count ≤ length bytes → length (take count bytes) ≡ count
take-count zero bytes within = refl
take-count (suc count) [] within = absurd (omega (arith, within))
take-count (suc count) (byte ∷ bytes) within = ap suc (take-count count bytes (omega (arith, within)))

drop-count : (count : ℕ) (bytes : List ℕ) → count ≤ length bytes → length (drop count bytes) ≡ length bytes - count
drop-count zero bytes within = omega arith
drop-count (suc count) [] within = absurd (omega (arith, within))
drop-count (suc count) (byte ∷ bytes) within =
    drop-count count bytes (omega (arith, within))
    ∙ (let same : length bytes - count ≡ length (byte ∷ bytes) - suc count = omega arith in same)

pub between-count : (start end : ℕ) (bytes : List ℕ) → start ≤ end → end ≤ length bytes
    → length (between start end bytes) ≡ end - start
between-count start end bytes order within =
    take-count (end - start) (drop start bytes)
    (omega (arith, order, within, drop-count start bytes (omega (arith, order, within))))
