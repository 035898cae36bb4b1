-- A segment has no more pages than frames are in use, since each of its pages has a frame of its own.
use Rattle.std.proofs.Common.{◌≡◌, ℕ, zero, suc, ◌+◌, ◌<◌, ◌≤◌, inl, inr, List, [], ◌∷◌, length, get_or, take, refl, sym, ap, ◌∙◌, arith, sum_by}
use Rattle.std.proofs.lemmas.List.{take_all}
use Rattle.std.proofs.lemmas.List.Sums.{sum_by_more}
use Rattle.std.proofs.lemmas.Bool.{cases_lt, cases_eq}
use Rattle.hy_frames.specs.FrameTable.{Frame, FrameTable, empty_frame, count_of, in_use, occurrences}
use Rattle.hy_frames.proofs.FrameLaws.{above, above_yes, used_in_range}
use Rattle.hy_space.specs.Space.{SpaceState, times}
use Rattle.hy_space.specs.inside.Users.{IsCounted}
use Rattle.hy_space.proofs.UserLaws.{same, same_yes, same_no}
use Rattle.hy_space.proofs.TableLaws.{occurrences-cons}
use Rattle.std.proofs.lemmas.List.Sums.{get_or-le-sum_by}

-- the sum of a function over the numbers below `n`
abbrev pub sum_below : ℕ → (ℕ → ℕ) → ℕ
sum_below zero g = 0
sum_below (suc n) g = sum_below n g + g n

sum_below-le : (n : ℕ) (g h : ℕ → ℕ) → ((k : ℕ) → g k ≤ h k) → sum_below n g ≤ sum_below n h
sum_below-le zero g h less = omega arith
sum_below-le (suc n) g h less = omega (arith, sum_below-le n g h less, less n)

sum_below-split : (n : ℕ) (f g h : ℕ → ℕ) → ((k : ℕ) → f k ≡ g k + h k) → sum_below n f ≡ sum_below n g + sum_below n h
sum_below-split zero f g h sum = refl
sum_below-split (suc n) f g h sum = omega (arith, sum_below-split n f g h sum, sum n)

sum_below-zero : (n : ℕ) (g : ℕ → ℕ) → ((k : ℕ) → k < n → g k ≡ 0) → sum_below n g ≡ 0
sum_below-zero zero g none = refl
sum_below-zero (suc n) g none = omega (arith, sum_below-zero n g (λ k below. none k (omega arith)), none n (omega arith))

-- one number below `n` counts once
sum_below-same : (n f : ℕ) → f < n → sum_below n (λ k. same f k) ≡ 1
sum_below-same zero f below = absurd (omega arith)
sum_below-same (suc n) f below = elim (cases_eq f n) [
  | inl last ↦ omega (arith, same_yes f n last, sum_below-zero n (λ k. same f k) (λ k less. same_no f k (λ e. absurd (omega arith))))
  | inr apart ↦ omega (arith, same_no f n apart, sum_below-same n f (omega arith))
]

-- the length of a list of numbers below `n` is the sum of how often each stands in it
length-sum_below : (n : ℕ) (numbers : List ℕ) → ((f : ℕ) → 0 < occurrences f numbers → f < n) → length numbers ≡ sum_below n (λ f. occurrences f numbers)
length-sum_below n [] within = sym (sum_below-zero n (λ f. occurrences f []) (λ k _. refl))
length-sum_below n (number ∷ numbers) within =
    let rest = length-sum_below n numbers (λ f more. within f (omega (arith, occurrences-cons f number numbers))) in
    let one = sum_below-same n number (within number (omega (arith, occurrences-cons number number numbers, same_yes number number refl))) in
    omega (arith, sum_below-split n (λ f. occurrences f (number ∷ numbers)) (λ f. same number f) (λ f. occurrences f numbers) (λ f. occurrences-cons f number numbers))

-- a count of frames, number by number
count-sum_below : (frames : List Frame) (n : ℕ) → n ≤ length frames → sum_by (λ frame. above 0 frame.count) (take n frames) ≡ sum_below n (λ f. above 0 (get_or frames f empty_frame).count)
count-sum_below frames zero within = refl
count-sum_below frames (suc n) within =
    ap (λ m. sum_by (λ (frame : Frame). above 0 frame.count) (take m frames)) (next n)
    ∙ sum_by_more (λ (frame : Frame). above 0 frame.count) frames n empty_frame within
    ∙ ap (λ m. m + above 0 (get_or frames n empty_frame).count) (count-sum_below frames n (omega arith))
  where
    next : (m : ℕ) → suc m ≡ m + 1
    next m = omega arith

-- a list that has each frame once at most, and only used ones, is no longer than there are used frames
pub length-le-in_use : (table : FrameTable) (numbers : List ℕ) → ((f : ℕ) → occurrences f numbers ≤ 1) → ((f : ℕ) → 0 < occurrences f numbers → 0 < count_of table f) → length numbers ≤ in_use table
length-le-in_use table numbers once used =
    let n = length table.frames in
    let all : sum_by (λ frame. above 0 frame.count) (take n table.frames) ≡ in_use table = ap (sum_by (λ (frame : Frame). above 0 frame.count)) (take_all n table.frames (omega arith)) in
    let each : (f : ℕ) → occurrences f numbers ≤ above 0 (get_or table.frames f empty_frame).count = λ f. elim (cases_lt 0 (occurrences f numbers)) [
      | inl some ↦ omega (arith, once f, above_yes 0 (get_or table.frames f empty_frame).count (used f some))
      | inr none ↦ omega arith
    ] in
    omega (
      arith,
      length-sum_below n numbers (λ f more. used_in_range table.frames f (used f more)),
      sum_below-le n (λ f. occurrences f numbers) (λ f. above 0 (get_or table.frames f empty_frame).count) each,
      count-sum_below table.frames n (omega arith),
    )

-- so a segment of the owner is no longer
pub page_count-le : (page_size : ℕ) (s : SpaceState) (segment : ℕ) → IsCounted page_size s → segment < length s.owner → length (get_or s.owner segment []) ≤ in_use s.frames
page_count-le page_size s segment counted there =
    let row = get_or s.owner segment [] in
    let part : (f : ℕ) → occurrences f row ≤ times f s.owner = λ f. get_or-le-sum_by (occurrences f) s.owner segment [] there in
    length-le-in_use s.frames row (λ f. omega (arith, part f, counted.owner_once f)) (λ f more. omega (arith, part f, counted.exact f))
