-- Texts one behind another in one buffer, and the text of a field that is copied part by part.
use Rattle.std.proofs.Common.{◌≡◌, ℕ, zero, suc, ◌+◌, ◌-◌, ◌<◌, ◌≤◌, ◌≢◌, List, [], ◌∷◌, ◌++◌, length, take, drop, get_or, refl, subst, sym, ap, ap₂, ◌∙◌, arith, append_assoc, length-append}
use Rattle.std.proofs.Math.Seq.{take-add}
use Rattle.std.proofs.lemmas.List.{drop-append-le, drop-drop, drop_at, length-drop, take-append-le, take_all}
use Rattle.hy_page.specs.Bytes.{bytes_at}
use Rattle.hy_rows.specs.Spelling.{list_at}
use Rattle.hy_rows.specs.Texts.{text_of}
use Rattle.hy_rows.proofs.TextLaws.{length-text_of, text_of-cons}
use Rattle.hy_columns.specs.inside.Texts.{AreEnds, begin_of, texts_from}

-- there is a text for each end
pub length-texts : (bytes : List ℕ) (start : ℕ) (ends : List ℕ) → length (texts_from bytes start ends) ≡ length ends
length-texts bytes start [] = refl
length-texts bytes start (end ∷ ends) = ap suc (length-texts bytes end ends)

-- ---- the text at a place

begin-behind : (start end : ℕ) (ends : List ℕ) (place : ℕ) → begin_of end ends place ≡ begin_of start (end ∷ ends) (suc place)
begin-behind start end ends zero = refl
begin-behind start end ends (suc place) = refl

-- behind the first text it is an end
pub begin-later : (start : ℕ) (ends : List ℕ) (place : ℕ) → place ≢ 0 → get_or ends (place - 1) 0 ≡ begin_of start ends place
begin-later start ends zero later = absurd (later refl)
begin-later start ends (suc place) later =
    let before : suc place - 1 ≡ place = omega arith in
    ap (λ k. get_or ends k 0) before

pub text-at : (bytes : List ℕ) (start : ℕ) (ends : List ℕ) (place : ℕ) → place < length ends
    → list_at (texts_from bytes start ends) place ≡ bytes_at bytes (begin_of start ends place) (get_or ends place 0 - begin_of start ends place)
text-at bytes start [] place within = absurd (omega (arith, within))
text-at bytes start (end ∷ ends) zero within = refl
text-at bytes start (end ∷ ends) (suc place) within =
    text-at bytes end ends place (omega (arith, within))
    ∙ ap (λ from. bytes_at bytes from (get_or ends place 0 - from)) (begin-behind start end ends place)

-- all ends lie behind the first begin
ends-behind : (start : ℕ) (ends : List ℕ) (total : ℕ) → AreEnds start ends total → start ≤ total
ends-behind start [] total are = omega (arith, are)
ends-behind start (end ∷ ends) total are = omega (arith, are.0, ends-behind end ends total are.1)

pub text-rises : (start : ℕ) (ends : List ℕ) (total place : ℕ) → AreEnds start ends total → place < length ends
    → begin_of start ends place ≤ get_or ends place 0
text-rises start [] total place are within = absurd (omega (arith, within))
text-rises start (end ∷ ends) total zero are within = are.0
text-rises start (end ∷ ends) total (suc place) are within =
    omega (arith, text-rises end ends total place are.1 (omega (arith, within)), begin-behind start end ends place)

pub text-within : (start : ℕ) (ends : List ℕ) (total place : ℕ) → AreEnds start ends total → place < length ends
    → get_or ends place 0 ≤ total
text-within start [] total place are within = absurd (omega (arith, within))
text-within start (end ∷ ends) total zero are within = ends-behind end ends total are.1
text-within start (end ∷ ends) total (suc place) are within = text-within end ends total place are.1 (omega (arith, within))

-- ---- a text more

pub texts-push : (bytes more : List ℕ) (start : ℕ) (ends : List ℕ) → AreEnds start ends (length bytes)
    → texts_from (bytes ++ more) start (ends ++ length (bytes ++ more) ∷ []) ≡ texts_from bytes start ends ++ more ∷ []
texts-push bytes more start [] are =
    let size : length (bytes ++ more) - start ≡ length more = omega (arith, are, length-append bytes more) in
    let behind : drop start (bytes ++ more) ≡ more = drop_at bytes more start (sym are) in
    ap (λ text. text ∷ [])
    (ap₂ (λ count rest. take count rest) size behind ∙ take_all (length more) more (omega arith))
texts-push bytes more start (end ∷ ends) are =
    let last : end ≤ length bytes = ends-behind end ends (length bytes) are.1 in
    ap₂ (λ first others. first ∷ others)
    (ap (take (end - start)) (drop-append-le start bytes more (omega (arith, last, are.0)))
    ∙ take-append-le (end - start) (drop start bytes) more (omega (arith, last, length-drop start bytes)))
    (texts-push bytes more end ends are.1)

pub ends-push : (start : ℕ) (ends : List ℕ) (total more : ℕ) → AreEnds start ends total → total ≤ more
    → AreEnds start (ends ++ more ∷ []) more
ends-push start [] total more are within = (omega (arith, are, within), refl)
ends-push start (end ∷ ends) total more are within = (are.0, ends-push end ends total more are.1 within)

-- so it is for any bytes and ends that are these
pub pushed-ends : (old more bytes : List ℕ) (ends now : List ℕ) → AreEnds 0 ends (length old) → bytes ≡ old ++ more
    → now ≡ ends ++ length bytes ∷ [] → AreEnds 0 now (length bytes)
pushed-ends old more bytes ends now are is_bytes is_now =
    subst (λ list. AreEnds 0 list (length bytes)) (sym is_now)
    (ends-push 0 ends (length old) (length bytes) are (omega (arith, ap length is_bytes, length-append old more)))

pub pushed-texts : (old more bytes : List ℕ) (ends now : List ℕ) → AreEnds 0 ends (length old) → bytes ≡ old ++ more
    → now ≡ ends ++ length bytes ∷ [] → texts_from bytes 0 now ≡ texts_from old 0 ends ++ more ∷ []
pushed-texts old more bytes ends now are is_bytes is_now =
    ap₂ (λ bytes ends. texts_from bytes 0 ends) is_bytes (is_now ∙ ap (λ bytes. ends ++ length bytes ∷ []) is_bytes)
    ∙ texts-push old more 0 ends are

-- ---- a text that is copied part by part

-- some bytes, and those behind them
pub bytes-parts : (bytes : List ℕ) (start count left : ℕ) → count ≤ left
    → bytes_at bytes start left ≡ bytes_at bytes start count ++ bytes_at bytes (start + count) (left - count)
bytes-parts bytes start count left within =
    let all : left ≡ count + (left - count) = omega (arith, within) in
    ap (bytes_at bytes start) all
    ∙ take-add count (left - count) (drop start bytes)
    ∙ ap (λ rest. bytes_at bytes start count ++ take (left - count) rest) (drop-drop count start bytes)

-- a text that ends in the first part is that part's
text-ends : (part rest : List ℕ) → length (text_of part) < length part → text_of (part ++ rest) ≡ text_of part
text-ends [] rest short = absurd (omega (arith, short))
text-ends (zero ∷ part) rest short = refl
text-ends (suc byte ∷ part) rest short =
    let some : 0 < suc byte = omega arith in
    let here : text_of (suc byte ∷ part) ≡ suc byte ∷ text_of part = text_of-cons (suc byte) part some in
    text_of-cons (suc byte) (part ++ rest) some
    ∙ ap (λ text. suc byte ∷ text) (text-ends part rest (omega (arith, short, ap length here)))
    ∙ sym here

-- one that doesn't goes on in the next
text-goes : (part rest : List ℕ) → length part ≤ length (text_of part) → text_of (part ++ rest) ≡ text_of part ++ text_of rest
text-goes [] rest whole = refl
text-goes (zero ∷ part) rest whole = absurd (omega (arith, whole))
text-goes (suc byte ∷ part) rest whole =
    let some : 0 < suc byte = omega arith in
    let here : text_of (suc byte ∷ part) ≡ suc byte ∷ text_of part = text_of-cons (suc byte) part some in
    text_of-cons (suc byte) (part ++ rest) some
    ∙ ap (λ text. suc byte ∷ text) (text-goes part rest (omega (arith, whole, ap length here)))
    ∙ ap (λ text. text ++ text_of rest) (sym here)

-- what was copied, with the text of what is left, is the whole: so it is behind one part more, and where the text ends in it
module _ (bytes copied whole part text : List ℕ) (at count left : ℕ) (within : count ≤ left)
    (is_part : part ≡ bytes_at bytes at count) (is_text : text ≡ text_of part)
    (so_far : copied ++ text_of (bytes_at bytes at left) ≡ whole) where
  parts : bytes_at bytes at left ≡ part ++ bytes_at bytes (at + count) (left - count)
  parts = bytes-parts bytes at count left within ∙ ap (λ first. first ++ bytes_at bytes (at + count) (left - count)) (sym is_part)

  pub copied-end : length text < length part → copied ++ text ≡ whole
  copied-end short =
      let rest : List ℕ = bytes_at bytes (at + count) (left - count) in
      ap (λ text. copied ++ text) (is_text ∙ sym (text-ends part rest (omega (arith, short, ap length is_text))) ∙ ap text_of (sym parts))
      ∙ so_far

  pub copied-part : length part ≤ length text → (copied ++ text) ++ text_of (bytes_at bytes (at + count) (left - count)) ≡ whole
  copied-part goes =
      let rest : List ℕ = bytes_at bytes (at + count) (left - count) in
      append_assoc copied text (text_of rest)
      ∙ ap (λ all. copied ++ all)
      (ap (λ text. text ++ text_of rest) is_text ∙ sym (text-goes part rest (omega (arith, goes, ap length is_text))) ∙ ap text_of (sym parts))
      ∙ so_far
