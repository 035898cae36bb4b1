-- How the users of frames add up.
use Rattle.std.proofs.Common.{◌≡◌, ◌≢◌, ℕ, ◌+◌, ◌-◌, ◌<◌, ◌≤◌, inl, inr, List, [], ◌∷◌, ◌++◌, true, cond, eqb, length, get_or, take, map, refl, sym, ap, ap₂, ◌∙◌, arith}
use Rattle.std.proofs.lemmas.Bool.{cases_lt, cases_eq, eq-eqb, ne_eqb}
use Rattle.std.proofs.lemmas.List.{get_or_read, map-append, take_more}
use Rattle.std.proofs.lemmas.List.Sums.{sum_by_more, sum_by_more_le}
use Rattle.hy_frames.specs.FrameTable.{occurrences, Frame, FrameTable, empty_frame, count_of, page_of, lent_at, free_of, Sets}
use Rattle.hy_space.specs.Space.{times, table_bytes, DropsUsers, Lends}

-- 1 where two numbers are one, else 0
abbrev pub same : ℕ → ℕ → ℕ
same a b = cond (eqb a b) 1 0

pub same_yes : (a b : ℕ) → a ≡ b → same a b ≡ 1
same_yes a b e = ap {B = ℕ} (λ t. cond t 1 0) (eq-eqb a b e)

pub same_no : (a b : ℕ) → a ≢ b → same a b ≡ 0
same_no a b n = ap {B = ℕ} (λ t. cond t 1 0) (ne_eqb a b n)

pub DropsUsers-then : (a b c : FrameTable) (x y z : ℕ → ℕ) → DropsUsers a b x → DropsUsers b c y → ((f : ℕ) → z f ≡ x f + y f) → DropsUsers a c z
DropsUsers-then a b c x y z first second sum = record {
  counts = λ f. omega (arith, first.counts f, second.counts f, sum f);
  pages = λ f used. second.pages f used ∙ first.pages f (omega (arith, second.counts f));
  lent = λ f used. second.lent f used ∙ first.lent f (omega (arith, second.counts f));
  limit = second.limit ∙ first.limit;
  free = omega (arith, first.free, second.free);
}

pub DropsUsers-one : (old new : FrameTable) (f : ℕ) → 0 < count_of old f → (count_of old f ≡ 1 → Sets old new f empty_frame) → (1 < count_of old f → Sets old new f (record { count = count_of old f - 1; bytes = page_of old f; lent = lent_at old f })) → (count_of old f ≡ 1 → free_of new ≡ free_of old + 1) → (1 < count_of old f → free_of new ≡ free_of old) → DropsUsers old new (λ g. same f g)
DropsUsers-one old new f used last more freed kept = elim (cases_lt 1 (count_of old f)) [
  | inl shared ↦
      let sets = more shared in
      record {
        counts = λ g. elim (cases_eq g f) [
          | inl here ↦ omega (arith, ap (count_of new) here, ap (count_of old) here, ap (λ (x : Frame). x.count) sets.here, same_yes f g (sym here))
          | inr apart ↦ omega (arith, ap (λ (x : Frame). x.count) (sets.others g apart), same_no f g (λ e. apart (sym e)))
        ];
        pages = λ g _. elim (cases_eq g f) [
          | inl here ↦ ap (page_of new) here ∙ ap (λ (x : Frame). x.bytes) sets.here ∙ ap (page_of old) (sym here)
          | inr apart ↦ ap (λ (x : Frame). x.bytes) (sets.others g apart)
        ];
        lent = λ g _. elim (cases_eq g f) [
          | inl here ↦ ap (lent_at new) here ∙ ap (λ (x : Frame). x.lent) sets.here ∙ ap (lent_at old) (sym here)
          | inr apart ↦ ap (λ (x : Frame). x.lent) (sets.others g apart)
        ];
        limit = sets.limit;
        free = omega (arith, kept shared);
      }
  | inr single ↦
      let sets = last (omega arith) in
      record {
        counts = λ g. elim (cases_eq g f) [
          | inl here ↦ omega (arith, ap (count_of new) here, ap (count_of old) here, ap (λ (x : Frame). x.count) sets.here, same_yes f g (sym here))
          | inr apart ↦ omega (arith, ap (λ (x : Frame). x.count) (sets.others g apart), same_no f g (λ e. apart (sym e)))
        ];
        pages = λ g still. elim (cases_eq g f) [
          | inl here ↦ absurd (omega (arith, ap (count_of new) here, ap (λ (x : Frame). x.count) sets.here))
          | inr apart ↦ ap (λ (x : Frame). x.bytes) (sets.others g apart)
        ];
        lent = λ g still. elim (cases_eq g f) [
          | inl here ↦ absurd (omega (arith, ap (count_of new) here, ap (λ (x : Frame). x.count) sets.here))
          | inr apart ↦ ap (λ (x : Frame). x.lent) (sets.others g apart)
        ];
        limit = sets.limit;
        free = omega (arith, freed (omega arith));
      }
]

-- holds of more frames, one after the other
pub Lends-then : (a b c : FrameTable) (x y z : ℕ → ℕ) → Lends a b x → Lends b c y → ((f : ℕ) → z f ≡ x f + y f) → Lends a c z
Lends-then a b c x y z first second sum = record {
  counts = λ f. second.counts f ∙ first.counts f;
  pages = λ f. second.pages f ∙ first.pages f;
  others = λ f none. second.others f (omega (arith, sum f)) ∙ first.others f (omega (arith, sum f));
  still = λ f was. second.still f (first.still f was);
  limit = second.limit ∙ first.limit;
  free = second.free ∙ first.free;
}

pub Lends-one : (old new : FrameTable) (f : ℕ) → Sets old new f (record { count = count_of old f; bytes = page_of old f; lent = lent_at new f }) → free_of new ≡ free_of old → (lent_at old f ≡ true → lent_at new f ≡ true) → Lends old new (λ g. same f g)
Lends-one old new f sets free still_lent = record {
  counts = λ g. elim (cases_eq g f) [
    | inl here ↦ ap (count_of new) here ∙ ap (λ (x : Frame). x.count) sets.here ∙ ap (count_of old) (sym here)
    | inr apart ↦ ap (λ (x : Frame). x.count) (sets.others g apart)
  ];
  pages = λ g. elim (cases_eq g f) [
    | inl here ↦ ap (page_of new) here ∙ ap (λ (x : Frame). x.bytes) sets.here ∙ ap (page_of old) (sym here)
    | inr apart ↦ ap (λ (x : Frame). x.bytes) (sets.others g apart)
  ];
  others = λ g none. ap (λ (x : Frame). x.lent) (sets.others g (λ e. absurd (omega (arith, same_yes f g (sym e)))));
  still = λ g was. elim (cases_eq g f) [
    | inl here ↦ ap (lent_at new) here ∙ still_lent (ap (lent_at old) (sym here) ∙ was)
    | inr apart ↦ ap (λ (x : Frame). x.lent) (sets.others g apart) ∙ was
  ];
  limit = sets.limit;
  free = free;
}

-- one more number of a list
pub occurrences_more : (numbers : List ℕ) (i number : ℕ) → i < length numbers → number ≡ get_or numbers i number → (f : ℕ) → occurrences f (take (i + 1) numbers) ≡ occurrences f (take i numbers) + same number f
occurrences_more numbers i number within read f =
    sum_by_more (λ x. same x f) numbers i 0 within ∙ ap (λ x. occurrences f (take i numbers) + same x f) (sym (get_or_read numbers i number within read 0))

-- the next number of a list is not among the ones so far alone
pub occurrences_next : (numbers : List ℕ) (i number : ℕ) → i < length numbers → number ≡ get_or numbers i number → occurrences number (take i numbers) + 1 ≤ occurrences number numbers
occurrences_next numbers i number within read = omega (
  arith,
  sum_by_more_le (λ x. same x number) numbers i 0 within,
  same_yes (get_or numbers i 0) number (sym (get_or_read numbers i number within read 0)),
)

-- one more segment of a table
pub times_next : (table : List (List ℕ)) (i : ℕ) (segment : List ℕ) → i < length table → segment ≡ get_or table i segment → (f : ℕ) → times f (take i table) + occurrences f segment ≤ times f table
times_next table i segment within read f =
    omega (arith, sum_by_more_le (occurrences f) table i segment within, ap (occurrences f) read)

-- the pages of some frames are held, and only those are lent
pub record AreHeld (old now : FrameTable) (pages : List (List ℕ)) (numbers : List ℕ) : Type 0 where
  pub holds : pages ≡ map (page_of old) numbers
  pub lends : Lends old now (λ f. occurrences f numbers)
  pub lent : (f : ℕ) → 0 < occurrences f numbers → lent_at now f ≡ true

-- the same of a table
pub record IsHeld (old now : FrameTable) (pages : List (List (List ℕ))) (table : List (List ℕ)) : Type 0 where
  pub holds : pages ≡ table_bytes old table
  pub lends : Lends old now (λ f. times f table)
  pub lent : (f : ℕ) → 0 < times f table → lent_at now f ≡ true

Lends-none : (old : FrameTable) (z : ℕ → ℕ) → Lends old old z
Lends-none old z = record { counts = λ f. refl; pages = λ f. refl; others = λ f none. refl; still = λ f was. was; limit = refl; free = refl }

pub AreHeld-none : (old : FrameTable) → AreHeld old old [] []
AreHeld-none old = record { holds = refl; lends = Lends-none old _; lent = λ f more. absurd (omega arith) }

pub IsHeld-none : (old : FrameTable) → IsHeld old old [] []
IsHeld-none old = record { holds = refl; lends = Lends-none old _; lent = λ f more. absurd (omega arith) }

-- one more frame's page is held
pub AreHeld-next : (old mid new : FrameTable) (pages : List (List ℕ)) (numbers : List ℕ) (i f : ℕ) (page : List ℕ) → i < length numbers → f ≡ get_or numbers i f → AreHeld old mid pages (take i numbers) → page ≡ page_of mid f → Lends mid new (λ g. same f g) → lent_at new f ≡ true → AreHeld old new (pages ++ page ∷ []) (take (i + 1) numbers)
AreHeld-next old mid new pages numbers i f page within read held is_page lends is_lent = record {
  holds =
      ap (λ all. all ++ page ∷ []) held.holds
      ∙ ap (λ x. map (page_of old) (take i numbers) ++ x ∷ []) (is_page ∙ held.lends.pages f ∙ ap (page_of old) (get_or_read numbers i f within read 0))
      ∙ sym (map-append (page_of old) (take i numbers) (get_or numbers i 0 ∷ []))
      ∙ ap (map (page_of old)) (sym (take_more numbers i 0 within));
  lends = Lends-then old mid new _ _ _ held.lends lends (occurrences_more numbers i f within read);
  lent = λ g more. elim (cases_eq g f) [
    | inl here ↦ ap (lent_at new) here ∙ is_lent
    | inr apart ↦ lends.still g (held.lent g (omega (arith, occurrences_more numbers i f within read g, same_no f g (λ e. apart (sym e)))))
  ];
}

-- one more segment's pages are held
pub IsHeld-next : (old mid new : FrameTable) (pages : List (List (List ℕ))) (table : List (List ℕ)) (i : ℕ) (segment : List ℕ) (held_pages : List (List ℕ)) → i < length table → segment ≡ get_or table i segment → IsHeld old mid pages (take i table) → held_pages ≡ map (page_of mid) segment → Lends mid new (λ f. occurrences f segment) → ((f : ℕ) → 0 < occurrences f segment → lent_at new f ≡ true) → IsHeld old new (pages ++ held_pages ∷ []) (take (i + 1) table)
IsHeld-next old mid new pages table i segment held_pages within read held is_pages lends is_lent = record {
  holds =
      ap (λ all. all ++ held_pages ∷ []) held.holds
      ∙ ap (λ x. table_bytes old (take i table) ++ x ∷ []) (is_pages ∙ same_pages segment ∙ ap (map (page_of old)) (get_or_read table i segment within read []))
      ∙ sym (map-append (map (page_of old)) (take i table) (get_or table i [] ∷ []))
      ∙ ap (table_bytes old) (sym (take_more table i [] within));
  lends = Lends-then old mid new _ _ _ held.lends lends sum;
  lent = λ f more. elim (cases_lt 0 (occurrences f segment)) [
    | inl here ↦ is_lent f here
    | inr none ↦ lends.still f (held.lent f (omega (arith, sum f)))
  ];
}
  where
    sum : (f : ℕ) → times f (take (i + 1) table) ≡ times f (take i table) + occurrences f segment
    sum f = sum_by_more (occurrences f) table i [] within ∙ ap (λ x. times f (take i table) + occurrences f x) (sym (get_or_read table i segment within read []))

    same_pages : (numbers : List ℕ) → map (page_of mid) numbers ≡ map (page_of old) numbers
    same_pages [] = refl
    same_pages (f ∷ numbers) = ap₂ ◌∷◌ (held.lends.pages f) (same_pages numbers)
