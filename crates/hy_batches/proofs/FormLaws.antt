-- What is read is what was written: the laws that the forms of all values share, and those of numbers.
use Rattle.std.proofs.Common.{◌≡◌, ℕ, suc, ◌+◌, ◌*◌, ◌/◌, ◌%◌, ◌^◌, ◌<◌, ◌≤◌, Bool, true, false, cond, ltb, ◌&&◌, List, [], ◌∷◌, ◌++◌, length, take, drop, Option, None, Some, refl, sym, ap, subst, ◌∙◌, append_assoc, arith, inl, inr}
use Rattle.std.proofs.lemmas.Bool.{and_from, and_parts, cases_lt, ltb-false, ltb-true, le-ltb, lt-ltb}
use Rattle.std.proofs.lemmas.List.{take_at, drop_at, take-append-drop, length-append, length-take, length-take-le, get_or-take, get_or_past}
use Rattle.hy_page.specs.Bytes.{AreBytes, bytes_of, number_of}
use Rattle.hy_page.proofs.ByteLaws.{AreBytes-drop, length-bytes_of, number_of-below, number_of-bytes_of}
use Rattle.hy_batches.specs.Encoding.{number_bytes}
use Rattle.hy_batches.specs.Grammar.{fits}
use Rattle.hy_batches.specs.inside.Reading.{◌>>=◌, front_at, number_at}

AreBytes-take : (bytes : List ℕ) (count : ℕ) → AreBytes bytes → AreBytes (take count bytes)
AreBytes-take bytes count are k =
    elim (cases_lt k count) [
      | inl below ↦ rw (get_or-take count bytes k 0 below) (are k)
      | inr past ↦ rw (get_or_past (take count bytes) k 0 (omega (arith, length-take count bytes))) (omega arith)
    ]

pub AreBytes-rest : (byte : ℕ) (bytes : List ℕ) → AreBytes (byte ∷ bytes) → AreBytes bytes
AreBytes-rest byte bytes are k = are (suc k)

-- ---- steps

-- the value of a step that gave one
pub bind_some : {A B : Type 0} (read : Option A) (next : A → Option B) (y : B) → (read >>= next) ≡ Some y
    → (x : A) × (read ≡ Some x) × (next x ≡ Some y)
bind_some (Some x) next y is = (x, refl, is)
bind_some None next y is = absurd cc

-- a test that let a value through
pub passed : {A : Type 0} (test : Bool) (x y : A) → cond test (Some x) None ≡ Some y → (test ≡ true) × (x ≡ y)
passed true x y is = (refl, cc)
passed false x y is = absurd cc

pub not_failed : {A : Type 0} (test : Bool) (read : Option A) (y : A) → cond test None read ≡ Some y
    → (test ≡ false) × (read ≡ Some y)
not_failed true read y is = absurd cc
not_failed false read y is = (refl, is)

abbrev some : {A : Type 0} → A → Option A
some x = Some x

pub same_some : {A : Type 0} (x y : A) → some x ≡ some y → x ≡ y
same_some x y is = cc

-- ---- forms

-- what was taken from the front of bytes, and what is left
pub record Takes (bytes text rest : List ℕ) : Type 0 where
  pub parts : bytes ≡ text ++ rest
  pub are_bytes : AreBytes rest

pub takes_both : (first front second back third : List ℕ) → Takes first front second → Takes second back third
    → Takes first (front ++ back) third
takes_both first front second back third one other = record {
  parts = one.parts ∙ (ap (λ bytes. front ++ bytes) other.parts ∙ sym (append_assoc front back third));
  are_bytes = other.are_bytes;
}

-- a byte before it
pub takes_byte : (byte : ℕ) (bytes text rest : List ℕ) → Takes bytes text rest → Takes (byte ∷ bytes) (byte ∷ text) rest
takes_byte byte bytes text rest one = record { parts = ap (λ bytes. byte ∷ bytes) one.parts; are_bytes = one.are_bytes }

-- a value that has its form is read from it, whatever comes behind, and a value that is read has its form there
pub record IsForm {Value : Type 0} (read : List ℕ → Option (Value × List ℕ)) (text : Value → List ℕ) (fit : Value → Bool) : Type 0 where
  pub takes : (bytes : List ℕ) (value : Value) (rest : List ℕ) → AreBytes bytes → read bytes ≡ Some (value, rest)
      → Takes bytes (text value) rest × (fit value ≡ true)
  pub again : (value : Value) (rest : List ℕ) → fit value ≡ true → read (text value ++ rest) ≡ Some (value, rest)

-- ---- bytes and numbers

pub front_taken : (count : ℕ) (bytes front rest : List ℕ) → AreBytes bytes → front_at count bytes ≡ Some (front, rest)
    → Takes bytes front rest × AreBytes front × (length front ≡ count)
unfolding front_at
front_taken count bytes front rest are is =
    let g = not_failed (ltb (length bytes) count) (Some (take count bytes, drop count bytes)) (front, rest) is in
    let long : count ≤ length bytes = ltb-false _ _ g.0 in
    let pair : (take count bytes, drop count bytes) ≡ (front, rest) = same_some _ _ g.1 in
    let front_is : take count bytes ≡ front = ap (λ (p : List ℕ × List ℕ). p.0) pair in
    let rest_is : drop count bytes ≡ rest = ap (λ (p : List ℕ × List ℕ). p.1) pair in (
      record { parts = rw (← front_is, ← rest_is) (sym (take-append-drop count bytes)); are_bytes = rw (← rest_is) (AreBytes-drop bytes count are) },
      rw (← front_is) (AreBytes-take bytes count are),
      rw (← front_is) (length-take-le count bytes long),
    )

pub front_again : (count : ℕ) (front rest : List ℕ) → length front ≡ count → front_at count (front ++ rest) ≡ Some (front, rest)
unfolding front_at
front_again count front rest size =
    let long : ltb (length (front ++ rest)) count ≡ false = le-ltb _ _ (omega (arith, length-append front rest)) in
    rw (long, take_at front rest count size, drop_at front rest count size) refl

bytes_of-number_of : (bytes : List ℕ) → AreBytes bytes → bytes_of (length bytes) (number_of bytes) ≡ bytes
bytes_of-number_of [] are = refl
bytes_of-number_of (byte ∷ bytes) are =
    let low : byte < 256 = are 0 in
    let first : (byte + 256 * number_of bytes) % 256 ≡ byte = omega arith in
    let others : (byte + 256 * number_of bytes) / 256 ≡ number_of bytes = omega arith in
    ap (λ n. n ∷ bytes_of (length bytes) ((byte + 256 * number_of bytes) / 256)) first
    ∙ ap (λ rest. byte ∷ rest) (ap (bytes_of (length bytes)) others ∙ bytes_of-number_of bytes (AreBytes-rest byte bytes are))

number_takes : (width : ℕ) (bytes : List ℕ) (number : ℕ) (rest : List ℕ) → AreBytes bytes
    → number_at width bytes ≡ Some (number, rest) → Takes bytes (number_bytes width number) rest × (fits width number ≡ true)
unfolding number_at number_bytes
number_takes width bytes number rest are is =
    let b = bind_some (front_at width bytes) (λ front. Some (number_of front.0, front.1)) (number, rest) is in
    let front = b.0.0 in
    let t = front_taken width bytes front b.0.1 are b.1 in
    let pair : (number_of front, b.0.1) ≡ (number, rest) = same_some _ _ b.2 in
    let text : bytes_of width (number_of front) ≡ front =
    ap (λ size. bytes_of size (number_of front)) (sym t.2) ∙ bytes_of-number_of front t.1 in
    let below : number_of front < 256 ^ length front = number_of-below front t.1 in
    let low : number_of front < 256 ^ width = subst (λ size. number_of front < 256 ^ size) t.2 below in
    subst (λ (p : ℕ × List ℕ). Takes bytes (bytes_of width p.0) p.1 × (fits width p.0 ≡ true)) pair
    (subst (λ text. Takes bytes text b.0.1) (sym text) t.0, lt-ltb _ _ low)

number_again : (width number : ℕ) (rest : List ℕ) → fits width number ≡ true
    → number_at width (number_bytes width number ++ rest) ≡ Some (number, rest)
unfolding number_at number_bytes
number_again width number rest fit =
    let low : number < 256 ^ width = ltb-true _ _ fit in
    rw (front_again width (bytes_of width number) rest (length-bytes_of width number))
    (ap (λ n. Some (n, rest)) (number_of-bytes_of width number low))

pub number_form : (width : ℕ) → IsForm (number_at width) (number_bytes width) (fits width)
number_form width = record { takes = number_takes width; again = number_again width }

-- the first step of several
pub first_of : {Value Whole : Type 0} {read : List ℕ → Option (Value × List ℕ)} {text : Value → List ℕ} {fit : Value → Bool}
    (form : IsForm read text fit) (bytes : List ℕ) (next : Value × List ℕ → Option Whole) (whole : Whole) → AreBytes bytes
    → (read bytes >>= next) ≡ Some whole
    → (value : Value) × (rest : List ℕ) × Takes bytes (text value) rest × (fit value ≡ true) × (next (value, rest) ≡ Some whole)
first_of {read = read} form bytes next whole are is =
    let b = bind_some (read bytes) next whole is in
    let t = form.takes bytes b.0.0 b.0.1 are b.1 in
    (b.0.0, b.0.1, t.0, t.1, b.2)

-- ---- tests one behind another

pub three : (a b c : Bool) → (a && b && c) ≡ true → (a ≡ true) × (b ≡ true) × (c ≡ true)
three a b c h = let last = and_parts (a && b) c h in let front = and_parts a b last.0 in (front.0, front.1, last.1)

pub six : (a b c d e f : Bool) → (a && b && c && d && e && f) ≡ true
    → (a ≡ true) × (b ≡ true) × (c ≡ true) × (d ≡ true) × (e ≡ true) × (f ≡ true)
six a b c d e f h =
    let last = and_parts (a && b && c && d && e) f h in
    let fifth = and_parts (a && b && c && d) e last.0 in
    let fourth = and_parts (a && b && c) d fifth.0 in
    let front = three a b c fourth.0 in
    (front.0, front.1, front.2, fourth.1, fifth.1, last.1)

pub seven : (a b c d e f g : Bool) → (a && b && c && d && e && f && g) ≡ true
    → (a ≡ true) × (b ≡ true) × (c ≡ true) × (d ≡ true) × (e ≡ true) × (f ≡ true) × (g ≡ true)
seven a b c d e f g h =
    let last = and_parts (a && b && c && d && e && f) g h in
    let front = six a b c d e f last.0 in
    (front.0, front.1, front.2, front.3, front.4, front.5, last.1)

pub all_three : (a b c : Bool) → a ≡ true → b ≡ true → c ≡ true → (a && b && c) ≡ true
all_three a b c x y z = and_from (a && b) c (and_from a b x y) z

pub all_six : (a b c d e f : Bool) → a ≡ true → b ≡ true → c ≡ true → d ≡ true → e ≡ true → f ≡ true
    → (a && b && c && d && e && f) ≡ true
all_six a b c d e f x y z u v w =
    and_from (a && b && c && d && e) f (and_from (a && b && c && d) e (and_from (a && b && c) d (all_three a b c x y z) u) v) w

pub all_seven : (a b c d e f g : Bool) → a ≡ true → b ≡ true → c ≡ true → d ≡ true → e ≡ true → f ≡ true → g ≡ true
    → (a && b && c && d && e && f && g) ≡ true
all_seven a b c d e f g x y z u v w t = and_from (a && b && c && d && e && f) g (all_six a b c d e f x y z u v w) t
