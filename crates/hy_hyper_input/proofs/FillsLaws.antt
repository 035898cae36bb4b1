-- What is there once bytes have come.
use Rattle.std.proofs.Common.{◌≡◌, ℕ, ◌+◌, ◌-◌, ◌≤◌, ◌==◌, Bool, true, false, cond, List, [], ◌++◌, Option, take, drop, length, refl, sym, ap, ◌∙◌, arith}
use Rattle.std.specs.Io.KnownBytes.{Consumes, IsAtEnd, Keeps}
use Rattle.hy_hyper_input.specs.Inputs.{FailsToFill, Fills, InputState, between, room_bytes, with_room}
use Rattle.hy_hyper_input.proofs.BytesLaws.{between-count, between-more, between-same}
use Rattle.hy_hyper_input.proofs.TakesLaws.{behind}

module _ (number : ℕ) (line : List ℕ) (is_long : Bool) (coming : Option (List ℕ)) (start end : ℕ) (bytes : List ℕ)
    (order : start ≤ end) (within : end ≤ length bytes) (room : length bytes ≡ room_bytes) (full : Bool)
    (full_is : full ≡ (end - start == length bytes)) where
  abbrev old : InputState
  old = behind number line is_long (between start end bytes) coming

  is_full : (length (between start end bytes) == room_bytes) ≡ full
  is_full =
      ap (λ n. n == room_bytes) (between-count start end bytes order within)
      ∙ ap (λ n. end - start == n) (sym room) ∙ sym full_is

  left-made : (with_room old).left ≡ cond full [] (between start end bytes)
  left-made = rw is_full (by full)
    where
      by : (full : Bool) → (cond full (record old { is_long = true; left = [] }) old).left ≡ cond full [] (between start end bytes)
      by true = refl
      by false = refl

  long-made : (with_room old).is_long ≡ cond full true is_long
  long-made = rw is_full (by full)
    where
      by : (full : Bool) → (cond full (record old { is_long = true; left = [] }) old).is_long ≡ cond full true is_long
      by true = refl
      by false = refl

  module _ (made : List ℕ) (first last : ℕ) (later : Option (List ℕ)) (none : List ℕ) (news : List ℕ)
      (in_order : first ≤ last) (left_is : between first last made ≡ cond full [] (between start end bytes))
      (before : take last news ≡ take last made) where
    still : between first last news ≡ (with_room old).left
    still = between-same first last news made in_order before ∙ left_is ∙ sym left-made

    pub fails : Keeps coming later
        → FailsToFill old (behind number none (cond full true is_long) (between first last news) later)
    fails kept = record { left = still; is_long = sym long-made; number = refl; kept = kept }

    pub fills : (count : ℕ) (more : Bool) → Consumes coming later (between last (last + count) news)
        → (more ≡ false → count ≡ 0) → (count ≡ 0 → IsAtEnd later)
        → Fills old (behind number none (cond full true is_long) (between first (last + count) news) later) more
    fills count more came none_came at_end = record {
      bytes = between last (last + count) news;
      left = between-more first last (last + count) news in_order (omega arith)
          ∙ ap (λ left. left ++ between last (last + count) news) still;
      is_long = sym long-made;
      number = refl;
      came = came;
      at_end = λ no. (
        ap (λ n. between last (last + n) news) (none_came no)
            ∙ ap (λ n. take n (drop last news)) (let same : last + 0 - last ≡ 0 = omega arith in same),
        at_end (none_came no),
      );
    }
