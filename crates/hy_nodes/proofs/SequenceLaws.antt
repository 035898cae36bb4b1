-- Lists of the first items of a sequence.
use Rattle.std.proofs.Common.{◌≡◌, ℕ, zero, suc, ◌+◌, ◌-◌, ◌<◌, ◌≤◌, Bool, true, false, cond, min, None, Some, List, [], ◌∷◌, ◌++◌, length, get_or, refl, sym, ap, ap₂, ◌∙◌, arith, inl, inr, length-append, append_assoc}
use Rattle.std.specs.Prelude.{filter, find}
use Rattle.std.specs.Option.{option_or}
use Rattle.std.proofs.lemmas.List.Folds.{find-append}
use Rattle.std.proofs.lemmas.Bool.{cases_lt}
use Rattle.std.proofs.lemmas.List.{append-nil, get_or_append_left}
use Rattle.std.proofs.Math.Seq.{get_or-append_seam}
use Rattle.std.proofs.lemmas.List.Elements.{filter-append}
use Rattle.hy_nodes.specs.Nodes.{first_items}

pub length-first_items : {X : Type 0} (item : ℕ → X) (count : ℕ) → length (first_items item count) ≡ count
length-first_items item zero = refl
length-first_items item (suc count) = omega (arith, length-append (first_items item count) (item count ∷ []), length-first_items item count)

pub first_items-same : {X : Type 0} (one other : ℕ → X) (count : ℕ) → ((k : ℕ) → k < count → one k ≡ other k) → first_items one count ≡ first_items other count
first_items-same one other zero same = refl
first_items-same one other (suc count) same = ap₂ (λ front last. front ++ last ∷ []) (first_items-same one other count (λ k below. same k (omega arith))) (same count (omega arith))

-- an item by its place
pub get_or-first_items : {X : Type 0} (item : ℕ → X) (count k : ℕ) (d : X) → k < count → get_or (first_items item count) k d ≡ item k
get_or-first_items item zero k d within = absurd (omega arith)
get_or-first_items item (suc count) k d within = elim (cases_lt k count) [
  | inl below ↦ get_or_append_left (first_items item count) (item count ∷ []) d k (omega (arith, length-first_items item count)) ∙ get_or-first_items item count k d below
  | inr last ↦
      let here : k ≡ length (first_items item count) = omega (arith, length-first_items item count) in
      ap (λ i. get_or (first_items item count ++ item count ∷ []) i d) here ∙ get_or-append_seam (first_items item count) (item count) [] d
      ∙ ap item (let same : count ≡ k = omega arith in same)
]

-- the items in two parts
pub first_items-split : {X : Type 0} (item : ℕ → X) (front behind : ℕ) → first_items item (front + behind) ≡ first_items item front ++ first_items (λ k. item (front + k)) behind
first_items-split item front zero =
    ap (first_items item) (let none : front + zero ≡ front = omega arith in none)
    ∙ sym (append-nil (first_items item front))
first_items-split item front (suc behind) =
    ap (first_items item) (let more : front + suc behind ≡ suc (front + behind) = omega arith in more)
    ∙ ap (λ all. all ++ item (front + behind) ∷ []) (first_items-split item front behind)
    ∙ (append_assoc (first_items item front) (first_items (λ k. item (front + k)) behind) (item (front + behind) ∷ []))

-- a sequence that is one sequence before a place, and another from there on
pub first_items-joined : {X : Type 0} (item front behind : ℕ → X) (place rest count : ℕ) → count ≡ place + rest → ((k : ℕ) → k < place → item k ≡ front k) → ((k : ℕ) → k < rest → item (place + k) ≡ behind k)
    → first_items item count ≡ first_items front place ++ first_items behind rest
first_items-joined item front behind place rest count all same_front same_behind =
    ap (first_items item) all
    ∙ first_items-split item place rest
    ∙ ap₂ ◌++◌ (first_items-same item front place same_front) (first_items-same (λ k. item (place + k)) behind rest same_behind)

-- and one with an item between them
pub first_items-between : {X : Type 0} (item front behind : ℕ → X) (place rest count : ℕ) (here : X) → count ≡ place + 1 + rest → ((k : ℕ) → k < place → item k ≡ front k) → item place ≡ here → ((k : ℕ) → k < rest → item (place + 1 + k) ≡ behind k)
    → first_items item count ≡ first_items front place ++ here ∷ first_items behind rest
first_items-between item front behind place rest count here all same_front is_here same_behind =
    ap (first_items item) all
    ∙ first_items-split item (place + 1) rest
    ∙ ap₂ ◌++◌ (first_items-joined item front (λ k. here) place 1 (place + 1) refl same_front (λ k below. ap item (let same : place + k ≡ place = omega arith in same) ∙ is_here)) (first_items-same (λ k. item (place + 1 + k)) behind rest same_behind)
    ∙ (append_assoc (first_items front place) (here ∷ []) (first_items behind rest))

-- a test of one item
filter-one : {X : Type 0} (test : X → Bool) (x : X) (b : Bool) → test x ≡ b → filter test (x ∷ []) ≡ cond b (x ∷ []) []
filter-one test x b is = ap (λ t. cond t (x ∷ []) []) is

-- the items that pass a test, where these stand together
pub filter-run : {X : Type 0} (test : X → Bool) (item : ℕ → X) (from to count : ℕ) → ((k : ℕ) → k < count → k < from → test (item k) ≡ false)
    → ((k : ℕ) → k < count → from ≤ k → k < to → test (item k) ≡ true) → ((k : ℕ) → k < count → to ≤ k → test (item k) ≡ false)
    → filter test (first_items item count) ≡ first_items (λ k. item (from + k)) (min to count - from)
filter-run test item from to zero before inside behind = ap (first_items (λ k. item (from + k))) (let none : 0 ≡ min to 0 - from = omega arith in none)
filter-run test item from to (suc count) before inside behind =
    let earlier = filter-run test item from to count (λ k below. before k (omega arith)) (λ k below. inside k (omega arith)) (λ k below. behind k (omega arith)) in
    filter-append test (first_items item count) (item count ∷ [])
    ∙ elim (cases_lt count from) [
      | inl early ↦
          ap₂ ◌++◌ earlier (filter-one test (item count) false (before count (omega arith) early))
          ∙ append-nil _
          ∙ ap (first_items (λ k. item (from + k))) (let same : min to count - from ≡ min to (suc count) - from = omega arith in same)
      | inr late ↦ elim (cases_lt count to) [
        | inl within ↦
            let place : from + (min to count - from) ≡ count = omega arith in
            ap₂ ◌++◌ earlier (filter-one test (item count) true (inside count (omega arith) late within))
            ∙ ap (λ k. first_items (λ i. item (from + i)) (min to count - from) ++ item k ∷ []) (sym place)
            ∙ ap (first_items (λ k. item (from + k))) (let more : suc (min to count - from) ≡ min to (suc count) - from = omega arith in more)
        | inr past ↦
            ap₂ ◌++◌ earlier (filter-one test (item count) false (behind count (omega arith) past))
            ∙ append-nil _
            ∙ ap (first_items (λ k. item (from + k))) (let same : min to count - from ≡ min to (suc count) - from = omega arith in same)
      ]
    ]

-- the first item that passes a test
pub find-none : {X : Type 0} (test : X → Bool) (item : ℕ → X) (count : ℕ) → ((k : ℕ) → k < count → test (item k) ≡ false) → find test (first_items item count) ≡ None
find-none test item zero fails = refl
find-none test item (suc count) fails =
    find-append test (first_items item count) (item count ∷ [])
    ∙ ap (λ one. option_or one (find test (item count ∷ []))) (find-none test item count (λ k below. fails k (omega arith)))
    ∙ ap (λ t. cond t (Some (item count)) None) (fails count (omega arith))

pub find-first : {X : Type 0} (test : X → Bool) (item : ℕ → X) (count place : ℕ) → place < count → ((k : ℕ) → k < place → test (item k) ≡ false) → test (item place) ≡ true → find test (first_items item count) ≡ Some (item place)
find-first test item zero place within before here = absurd (omega arith)
find-first test item (suc count) place within before here = elim (cases_lt place count) [
  | inl early ↦
      find-append test (first_items item count) (item count ∷ [])
      ∙ ap (λ one. option_or one (find test (item count ∷ []))) (find-first test item count place early before here)
  | inr last ↦
      let same : count ≡ place = omega arith in
      find-append test (first_items item count) (item count ∷ [])
      ∙ ap (λ one. option_or one (find test (item count ∷ []))) (find-none test item count (λ k below. before k (omega arith)))
      ∙ ap (λ t. cond t (Some (item count)) None) (ap (λ k. test (item k)) same ∙ here)
      ∙ ap (λ k. Some (item k)) same
]

-- a list of items from one on, and one item more
pub first_items-more : {X : Type 0} (item : ℕ → X) (from k : ℕ) (list : List X) (x : X) → from ≤ k → list ≡ first_items (λ i. item (from + i)) (k - from) → x ≡ item k → list ++ x ∷ [] ≡ first_items (λ i. item (from + i)) (k + 1 - from)
first_items-more item from k list x within is_list is_x =
    ap₂ (λ front last. front ++ last ∷ []) is_list (is_x ∙ ap item (let here : k ≡ from + (k - from) = omega arith in here))
    ∙ ap (first_items (λ i. item (from + i))) (let more : suc (k - from) ≡ k + 1 - from = omega arith in more)
