-- A serial list is one still with one more commit, and the journal counts it.
use Rattle.std.proofs.Common.{◌≡◌, ℕ, zero, suc, ◌+◌, ◌<◌, ◌≤◌, Bool, true, false, cond, List, [], ◌∷◌, ◌++◌, map, length, Option, Some, None, refl, ap, sym, ◌∙◌, arith, append-nil, length-append}
use Rattle.std.proofs.lemmas.List.{map-append}
use Rattle.std.specs.Prelude.{All, nat_le, ◌&&◌, slice_index}
use Rattle.std.specs.List.{range_with_len, cons_option}
use Rattle.std.proofs.lemmas.Bool.{le-leb}
use Rattle.std.proofs.lemmas.List.Elements.{All-nil, All-cons, All-append, filter_map-append}
use Rattle.atomic_table.specs.Seated.{TableId}
use Rattle.hy_passes.specs.declared.entry.Entry.{Entry}
use Rattle.hy_passes.specs.SerialList.{are_warehouses, is_crossing, is_number, kept_of, max_commits, names, number_after, numbers_of, respects_after, IsSerial}
use Rattle.hy_passes.specs.Inside.{IsCounted}
use Rattle.hy_worlds.specs.Origins.{Origin}
use Rattle.hy_passes.proofs.Lists.{kept-adds, kept-skips}
use Rattle.hy_passes.proofs.Totals.{log-room, numbers-within}

pub plus-one : (n : ℕ) → n + 1 ≡ suc n
plus-one n = omega arith

All-one : {X : Type 0} (P : X → Type 0) (xs : List X) (x : X) → All P xs → P x → All P (xs ++ x ∷ [])
All-one P xs x all one = All-append P xs (x ∷ []) all (All-cons P x [] one (All-nil P))

range-more : (first n : ℕ) → range_with_len first (suc n) ≡ range_with_len first n ++ (first + n) ∷ []
range-more first zero = ap (λ k. k ∷ []) (omega arith)
range-more first (suc n) =
    let k : first + 1 + n ≡ first + suc n = omega arith in
    ap (λ l. first ∷ l) (range-more (first + 1) n ∙ ap (λ k. range_with_len (first + 1) n ++ k ∷ []) k)

pub respects-more : {C : Type 0} (before : ℕ) (log : List (Entry C)) (entry : Entry C) → respects_after before log ≡ true
    → entry.stamp ≤ before + length log → respects_after before (log ++ entry ∷ []) ≡ true
respects-more before [] entry so stamp =
    ap (λ b. b && true) (le-leb entry.stamp before (omega arith))
respects-more before (first ∷ log) entry so stamp = both (nat_le first.stamp before) so (respects-more (suc before) log entry)
  where
    both : (b : Bool) → (b && respects_after (suc before) log) ≡ true
        → (respects_after (suc before) log ≡ true → entry.stamp ≤ suc before + length log → respects_after (suc before) (log ++ entry ∷ []) ≡ true)
        → (b && respects_after (suc before) (log ++ entry ∷ [])) ≡ true
    both true so later = later so (omega arith)
    both false so later = so

marked-if : (b : Bool) (n : ℕ) → is_number (cond b (Some n) None) ≡ b
marked-if true n = refl
marked-if false n = refl

module _ {C : Type 0} (warehouses : C → List ℕ) (number : C → Option ℕ) where
  numbers-more : (log : List (Entry C)) (entry : Entry C) (o : Option ℕ) → number entry.commit ≡ o
      → numbers_of warehouses number (log ++ entry ∷ []) ≡ numbers_of warehouses number log ++ cons_option o []
  numbers-more log entry o is =
      filter_map-append (λ (e : Entry C). number e.commit) log (entry ∷ [])
      ∙ ap (λ p. numbers_of warehouses number log ++ cons_option p []) is

  numbered-more : (log : List (Entry C)) (b : Bool)
      → numbers_of warehouses number log ≡ range_with_len 1 (length (numbers_of warehouses number log))
      → numbers_of warehouses number log ++ cons_option (cond b (Some (suc (length (numbers_of warehouses number log)))) None) []
      ≡ range_with_len 1 (length (numbers_of warehouses number log ++ cons_option (cond b (Some (suc (length (numbers_of warehouses number log)))) None) []))
  numbered-more log false so =
      append-nil (numbers_of warehouses number log) ∙ so
      ∙ ap (λ l. range_with_len 1 (length l)) (sym (append-nil (numbers_of warehouses number log)))
  numbered-more log true so =
      let ns = numbers_of warehouses number log in
      let n : ℕ = length ns in
      let next : suc n ≡ 1 + n = omega arith in
      let longer : suc n ≡ length (ns ++ suc n ∷ []) = omega (arith, length-append ns (suc n ∷ [])) in
      ap (λ l. l ++ suc n ∷ []) so
      ∙ ap (λ k. range_with_len 1 n ++ k ∷ []) next
      ∙ sym (range-more 1 n)
      ∙ ap (λ k. range_with_len 1 k) longer

  module _ (partitions : ℕ) where
    pub serial-more : (log : List (Entry C)) (entry : Entry C) → IsSerial warehouses number partitions log
        → are_warehouses partitions (warehouses entry.commit) ≡ true
        → number entry.commit ≡ number_after warehouses number log entry.commit
        → entry.stamp ≤ length log
        → IsSerial warehouses number partitions (log ++ entry ∷ [])
    serial-more log entry serial named numbered stamped =
        let b = is_crossing warehouses entry.commit in
        let o : Option ℕ = cond b (Some (suc (length (numbers_of warehouses number log)))) None in
        record {
          named = All-one (λ (e : Entry C). are_warehouses partitions (warehouses e.commit) ≡ true) log entry serial.named named;
          marked = All-one (λ (e : Entry C). is_number (number e.commit) ≡ is_crossing warehouses e.commit) log entry serial.marked
              (ap is_number numbered ∙ marked-if b (suc (length (numbers_of warehouses number log))));
          numbered = numbers-more log entry o numbered ∙ numbered-more log b serial.numbered
              ∙ ap (λ l. range_with_len 1 (length l)) (sym (numbers-more log entry o numbered));
          stamped = respects-more 0 log entry serial.stamped (omega (arith, stamped));
        }

  module _ {origin : Origin} {word : TableId} {seat size crossings : ℕ} {counts : List ℕ} {log : List (Entry C)} (i : IsCounted warehouses number origin word seat log size crossings counts) where
    few-commits : length log ≤ 68719476736
    few-commits =
        log-room warehouses origin.partitions log i.few i.serial.named
        (λ w h.
        let h' : w < length counts = omega (arith, i.places, h) in
        let k = i.counted w h' in
        let m = i.room w h' in
        omega (arith, k, m, ap (λ v. length (kept_of warehouses v log)) (plus-one w)))

    -- the counts have room for more
    pub size-room : size ≤ 68719476736
    size-room = let l = few-commits in omega (arith, i.size_is)

    pub crossings-room : crossings ≤ 68719476736
    crossings-room =
        let l = few-commits in let n = numbers-within warehouses number log in omega (arith, i.crossings_are)

    -- after one more commit
    pub counts-more : (entry : Entry C) (crossings' : ℕ) (counts' : List ℕ)
        → are_warehouses origin.partitions (warehouses entry.commit) ≡ true
        → number entry.commit ≡ number_after warehouses number log entry.commit
        → entry.stamp ≤ length log
        → ((w : ℕ) → names warehouses w entry.commit ≡ true → length (kept_of warehouses w log) < max_commits)
        → crossings' ≡ cond (is_number (number entry.commit)) (suc crossings) crossings
        → length counts' ≡ length counts
        → ((k : ℕ) → k < length counts → slice_index counts' k ≡ cond (names warehouses (k + 1) entry.commit) (suc (slice_index counts k)) (slice_index counts k))
        → IsCounted warehouses number origin word seat (log ++ entry ∷ []) (size + 1) crossings' counts'
    counts-more entry crossings' counts' named numbered stamped room crossed same counted = record {
      word_is = i.word_is;
      first = i.first;
      size_is = omega (arith, i.size_is, length-append log (entry ∷ []));
      crossings_are = crossed ∙ more (number entry.commit) refl;
      places = same ∙ i.places;
      few = i.few;
      counted = λ k h. (at k (omega (arith, same, h)) (names warehouses (k + 1) entry.commit) refl).0;
      room = λ k h. (at k (omega (arith, same, h)) (names warehouses (k + 1) entry.commit) refl).1;
      serial = serial-more origin.partitions log entry i.serial named numbered stamped;
    }
      where
        more : (o : Option ℕ) → number entry.commit ≡ o
            → cond (is_number o) (suc crossings) crossings ≡ length (numbers_of warehouses number (log ++ entry ∷ []))
        more None is = i.crossings_are ∙ ap length (sym (append-nil (numbers_of warehouses number log)) ∙ sym (numbers-more log entry None is))
        more (Some n) is =
            omega (arith, i.crossings_are, length-append (numbers_of warehouses number log) (n ∷ []), ap length (numbers-more log entry (Some n) is))

        at : (k : ℕ) → k < length counts → (b : Bool) → names warehouses (k + 1) entry.commit ≡ b
            → (slice_index counts' k ≡ length (kept_of warehouses (k + 1) (log ++ entry ∷ []))) × (slice_index counts' k ≤ max_commits)
        at k h true is =
            let c : slice_index counts' k ≡ suc (slice_index counts k) = counted k h ∙ ap (λ b. cond b (suc (slice_index counts k)) (slice_index counts k)) is in
            let l = kept-adds warehouses (k + 1) log entry is in
            let r = room (k + 1) is in
            let o = i.counted k h in (
              omega (arith, c, o, ap length l, length-append (kept_of warehouses (k + 1) log) (entry.commit ∷ [])),
              omega (arith, c, o, r),
            )
        at k h false is =
            let c : slice_index counts' k ≡ slice_index counts k = counted k h ∙ ap (λ b. cond b (suc (slice_index counts k)) (slice_index counts k)) is in
            let l = kept-skips warehouses (k + 1) log entry is in
            (c ∙ i.counted k h ∙ ap length (sym l), omega (arith, c, i.room k h))

-- one warehouse of the kit
pub named-alone : (partitions w : ℕ) → 1 ≤ w → w ≤ partitions → are_warehouses partitions (w ∷ []) ≡ true
named-alone partitions w low high =
    ap (λ b. (b && nat_le w partitions) && true) (le-leb 1 w low) ∙ ap (λ b. b && true) (le-leb w partitions high)

-- a list by numbers, with the next number behind
pub numbered-behind : {X : Type 0} (f : ℕ → X) (first n : ℕ) (x : X) → x ≡ f (first + n)
    → map f (range_with_len first n) ++ x ∷ [] ≡ map f (range_with_len first (n + 1))
numbered-behind f first n x is =
    ap (λ y. map f (range_with_len first n) ++ y ∷ []) is
    ∙ sym (map-append f (range_with_len first n) ((first + n) ∷ []))
    ∙ ap (λ l. map f l) (sym (range-more first n))
    ∙ ap (λ k. map f (range_with_len first k)) (sym (plus-one n))
