-- How a change of one slot changes the counters and the list of unused numbers.
use Rattle.std.proofs.Common.{◌≡◌, ◌≢◌, ℕ, ◌+◌, ◌-◌, ◌<◌, ◌≤◌, inl, inr, List, [], ◌∷◌, ◌++◌, Bool, true, false, cond, eqb, ltb, length, get_or, set, refl, sym, ap, ◌∙◌, subst, arith, count_by, length-set}
use Rattle.std.proofs.lemmas.List.{get_or-set_same, get_or-set_other, get_or_past, get_or_default, get_or_append_left, length_push, get_or_push}
use Rattle.std.proofs.lemmas.List.Sums.{sum_by-set, sum_by_push}
use Rattle.std.proofs.lemmas.Bool.{cases_lt, cases_eq, lt-ltb, le-ltb, eq-eqb, ne_eqb}
use Rattle.hy_frames.specs.FrameTable.{Frame, FrameTable, empty_frame, count_of, page_of, in_use, shared_of, Sets, IsSoundTable, occurrences}
use Rattle.hy_frames.specs.inside.Slots.{unused_at, IsSoundSlots, IsPut}

-- 1 where a count is above a limit, else 0
abbrev pub above : ℕ → ℕ → ℕ
above limit count = cond (ltb limit count) 1 0

-- how many frames have a count above a limit
abbrev pub count_above : ℕ → List Frame → ℕ
count_above limit frames = count_by (λ frame. ltb limit frame.count) frames

pub above_yes : (limit count : ℕ) → limit < count → above limit count ≡ 1
above_yes limit count more = ap {B = ℕ} (λ b. cond b 1 0) (lt-ltb limit count more)

pub above_no : (limit count : ℕ) → count ≤ limit → above limit count ≡ 0
above_no limit count less = ap {B = ℕ} (λ b. cond b 1 0) (le-ltb limit count less)

-- a frame with a user has a slot
pub used_in_range : (frames : List Frame) (f : ℕ) → 0 < (get_or frames f empty_frame).count → f < length frames
used_in_range frames f used = elim (cases_lt f (length frames)) [
  | inl within ↦ within
  | inr past ↦ absurd (omega (arith, ap (λ frame. frame.count) (get_or_past frames f empty_frame past)))
]

-- setting one slot changes a count of slots by what was there and what is there now
pub count_above-set : (limit : ℕ) (frames : List Frame) (f : ℕ) (frame : Frame) → f < length frames → count_above limit (set frames f frame) + above limit (get_or frames f empty_frame).count ≡ count_above limit frames + above limit frame.count
count_above-set limit frames f frame within = sum_by-set (λ x. above limit x.count) frames f frame empty_frame within

pub count_above-push : (limit : ℕ) (frames : List Frame) (frame : Frame) → count_above limit (frames ++ frame ∷ []) ≡ count_above limit frames + above limit frame.count
count_above-push limit frames frame = sum_by_push (λ x. above limit x.count) frames frame

-- a number added at the end of a list
pub occurrences-push : (n : ℕ) (numbers : List ℕ) (number : ℕ) → occurrences n (numbers ++ number ∷ []) ≡ occurrences n numbers + cond (eqb number n) 1 0
occurrences-push n numbers number = sum_by_push (λ x. cond (eqb x n) 1 0) numbers number

-- setting one slot sets its frame, and no other
pub Sets-set : (table : FrameTable) (f : ℕ) (frame : Frame) → f < length table.frames → Sets table (record { max = table.max; frames = set table.frames f frame }) f frame
Sets-set table f frame within = record {
  here = get_or-set_same table.frames f frame empty_frame within;
  others = λ g apart. get_or-set_other table.frames f g frame empty_frame apart;
  limit = refl;
}

-- a slot behind all slots sets its frame, and no other
pub Sets-push : (table : FrameTable) (frame : Frame) → Sets table (record { max = table.max; frames = table.frames ++ frame ∷ [] }) (length table.frames) frame
Sets-push table frame = record {
  here = get_or_push table.frames frame empty_frame (length table.frames) refl;
  others = λ g apart. elim (cases_lt g (length table.frames)) [
    | inl within ↦ get_or_append_left table.frames (frame ∷ []) empty_frame g within
    | inr past ↦ get_or_past (table.frames ++ frame ∷ []) g empty_frame (omega (arith, length_push table.frames frame)) ∙ sym (get_or_past table.frames g empty_frame past)
  ];
  limit = refl;
}

-- an unused slot exists, and its count is 0
pub unused_tells : (frames : List Frame) (f : ℕ) → 0 < unused_at frames f → (f < length frames) × ((get_or frames f empty_frame).count ≡ 0)
unused_tells frames f unused =
    let taken : Frame = record { count = 1; bytes = []; lent = false } in
    elim (cases_lt f (length frames)) [
      | inl within ↦ (within, ap (λ frame. frame.count) (get_or_default frames f empty_frame taken within) ∙ zero_from _ unused)
      | inr past ↦ absurd (omega (arith, ap {B = ℕ} (λ frame. cond (eqb frame.count 0) 1 0) (get_or_past frames f taken past)))
    ]
  where
    zero_from : (count : ℕ) → 0 < cond (eqb count 0) 1 0 → count ≡ 0
    zero_from count positive = elim (cases_eq count 0) [
      | inl same ↦ same
      | inr apart ↦ absurd (omega (arith, ap {B = ℕ} (λ b. cond b 1 0) (ne_eqb count 0 apart)))
    ]

-- what an unused slot's number adds, after a set and after a push
pub unused_at-set_same : (frames : List Frame) (f : ℕ) (frame : Frame) → f < length frames → unused_at (set frames f frame) f ≡ cond (eqb frame.count 0) 1 0
unused_at-set_same frames f frame within = ap {B = ℕ} (λ (x : Frame). cond (eqb x.count 0) 1 0) (get_or-set_same frames f frame (record { count = 1; bytes = []; lent = false }) within)

pub unused_at-set_other : (frames : List Frame) (f : ℕ) (frame : Frame) (g : ℕ) → g ≢ f → unused_at (set frames f frame) g ≡ unused_at frames g
unused_at-set_other frames f frame g apart = ap {B = ℕ} (λ (x : Frame). cond (eqb x.count 0) 1 0) (get_or-set_other frames f g frame (record { count = 1; bytes = []; lent = false }) apart)

pub unused_at-push : (frames : List Frame) (frame : Frame) (g : ℕ) → 0 < frame.count → unused_at (frames ++ frame ∷ []) g ≡ unused_at frames g
unused_at-push frames frame g used =
    let taken : Frame = record { count = 1; bytes = []; lent = false } in
    elim (cases_lt g (length frames)) [
      | inl within ↦ ap {B = ℕ} (λ (x : Frame). cond (eqb x.count 0) 1 0) (get_or_append_left frames (frame ∷ []) taken g within)
      | inr past ↦
          let before : unused_at frames g ≡ 0 = ap {B = ℕ} (λ (x : Frame). cond (eqb x.count 0) 1 0) (get_or_past frames g taken past) in
          elim (cases_eq (length frames) g) [
            | inl last ↦
                ap {B = ℕ} (λ (x : Frame). cond (eqb x.count 0) 1 0) (get_or_push frames frame taken g last)
                ∙ ap {B = ℕ} (λ b. cond b 1 0) (ne_eqb frame.count 0 (omega arith)) ∙ sym before
            | inr apart ↦
                ap {B = ℕ} (λ (x : Frame). cond (eqb x.count 0) 1 0) (get_or_past (frames ++ frame ∷ []) g taken (omega (arith, length_push frames frame)))
                ∙ sym before
          ]
    ]

-- a slot in use is not unused
unused_at-used : (frames : List Frame) (f : ℕ) → f < length frames → 0 < (get_or frames f empty_frame).count → unused_at frames f ≡ 0
unused_at-used frames f within used =
    let taken : Frame = record { count = 1; bytes = []; lent = false } in
    let same : (get_or frames f taken).count ≡ (get_or frames f empty_frame).count = ap (λ (x : Frame). x.count) (get_or_default frames f taken empty_frame within) in
    ap {B = ℕ} (λ b. cond b 1 0) (ne_eqb (get_or frames f taken).count 0 (omega arith))

unused_at-le : (frames : List Frame) (f : ℕ) → unused_at frames f ≤ 1
unused_at-le frames f = one_at_most (eqb (get_or frames f (record { count = 1; bytes = []; lent = false })).count 0)
  where
    one_at_most : (b : Bool) → cond b 1 0 ≤ 1
    one_at_most true = omega arith
    one_at_most false = omega arith

-- the numbers of unused slots after the last of them was used
each_once_reused : (frames : List Frame) (unused : List ℕ) (f : ℕ) (frame : Frame) → 0 < frame.count → ((g : ℕ) → occurrences g (unused ++ f ∷ []) ≡ unused_at frames g) → f < length frames → (g : ℕ) → occurrences g unused ≡ unused_at (set frames f frame) g
each_once_reused frames unused f frame used each_once within g =
    let at_f : occurrences f unused ≡ unused_at (set frames f frame) f = omega (
      arith,
      occurrences-push f unused f,
      ap {B = ℕ} (λ b. cond b 1 0) (eq-eqb f f refl),
      each_once f,
      unused_at-le frames f,
      unused_at-set_same frames f frame within,
      ap {B = ℕ} (λ b. cond b 1 0) (ne_eqb frame.count 0 (omega arith)),
    ) in
    elim (cases_eq g f) [
      | inl same ↦ ap (λ n. occurrences n unused) same ∙ at_f ∙ ap (unused_at (set frames f frame)) (sym same)
      | inr apart ↦ omega (
        arith,
        occurrences-push g unused f,
        ap {B = ℕ} (λ b. cond b 1 0) (ne_eqb f g (λ e. apart (sym e))),
        each_once g,
        unused_at-set_other frames f frame g apart,
      )
    ]

-- what holds after a frame with one user was put into an unused slot
pub record IsTaken (page_size : ℕ) (old new : FrameTable) (unused : List ℕ) (room shared spares spare_room f : ℕ) (frame : Frame) : Type 0 where
  pub sound : IsSoundSlots page_size new unused room shared spares spare_room
  pub unused_before : count_of old f ≡ 0
  pub sets : Sets old new f frame
  pub used : in_use new ≡ in_use old + 1
  pub sharing : shared_of new ≡ shared_of old

module _ (page_size : ℕ) (old : FrameTable) (room shared spares spare_room new_spares new_spare_room f : ℕ) (frame : Frame) (one_less : new_spares ≡ spares - 1) (one : frame.count ≡ 1) (size : length frame.bytes ≡ page_size) (free : in_use old < old.max) where
  -- each page has the same size after a frame was set
  pages_after : IsSoundTable page_size old → (new : FrameTable) → Sets old new f frame → (g : ℕ) → 1 ≤ count_of new g → length (page_of new g) ≡ page_size
  pages_after sound new sets g used = elim (cases_eq g f) [
    | inl same ↦ ap (λ n. length (page_of new n)) same ∙ ap (λ (x : Frame). length x.bytes) sets.here ∙ size
    | inr apart ↦
        let stays = sets.others g apart in
        ap (λ (x : Frame). length x.bytes) stays ∙ sound.pages g (omega (arith, ap (λ (x : Frame). x.count) stays))
  ]

  -- a frame put where the last unused number says
  taken_reused : (unused : List ℕ) (new_room : ℕ) → IsSoundSlots page_size old (unused ++ f ∷ []) room shared spares spare_room → length old.frames ≤ new_room → length old.frames ≤ new_spare_room → IsTaken page_size old (record { max = old.max; frames = set old.frames f frame }) unused new_room shared new_spares new_spare_room f frame
  taken_reused unused new_room sound fits pages_fit =
      let new : FrameTable = record { max = old.max; frames = set old.frames f frame } in
      let added : occurrences f (unused ++ f ∷ []) ≡ occurrences f unused + 1 = occurrences-push f unused f ∙ ap (λ b. occurrences f unused + cond b 1 0) (eq-eqb f f refl) in
      let once : unused_at old.frames f ≡ occurrences f unused + 1 = sym (sound.each_once f) ∙ added in
      let slot = unused_tells old.frames f (omega arith) in
      let sets : Sets old new f frame = Sets-set old f frame slot.0 in
      let in_use_by : in_use new + above 0 (count_of old f) ≡ in_use old + above 0 frame.count = count_above-set 0 old.frames f frame slot.0 in
      let shared_by : shared_of new + above 1 (count_of old f) ≡ shared_of old + above 1 frame.count = count_above-set 1 old.frames f frame slot.0 in
      let was_0 = above_no 0 (count_of old f) (omega arith) in
      let was_1 = above_no 1 (count_of old f) (omega arith) in
      let is_0 = above_yes 0 frame.count (omega arith) in
      let is_1 = above_no 1 frame.count (omega arith) in
      let length_new : length new.frames ≡ length old.frames = length-set old.frames f frame in
      let pushed = length_push unused f in
      let parted = sound.partition in
      record {
        sound = record {
          table = record {
            size = sound.table.size;
            pages = pages_after sound.table new sets;
            within = omega arith;
            some = sound.table.some;
            limit = sound.table.limit;
          };
          each_once = each_once_reused old.frames unused f frame (omega arith) sound.each_once slot.0;
          partition = omega arith;
          fits = omega arith;
          small = omega (arith, sound.small);
          sharing = omega (arith, sound.sharing);
          few_spares = omega (arith, sound.few_spares);
          spares_fit = omega arith;
        };
        unused_before = slot.1;
        sets = sets;
        used = omega arith;
        sharing = omega arith;
      }

  -- a frame put behind all slots
  taken_behind : (new_room : ℕ) → f ≡ length old.frames → IsSoundSlots page_size old [] room shared spares spare_room → length old.frames + 1 ≤ new_room → length old.frames + 1 ≤ new_spare_room → IsTaken page_size old (record { max = old.max; frames = old.frames ++ frame ∷ [] }) [] new_room shared new_spares new_spare_room f frame
  taken_behind new_room last sound fits pages_fit =
      let new : FrameTable = record { max = old.max; frames = old.frames ++ frame ∷ [] } in
      let sets : Sets old new f frame = subst (λ n. Sets old new n frame) (sym last) (Sets-push old frame) in
      let in_use_by : in_use new ≡ in_use old + above 0 frame.count = count_above-push 0 old.frames frame in
      let shared_by : shared_of new ≡ shared_of old + above 1 frame.count = count_above-push 1 old.frames frame in
      let is_0 = above_yes 0 frame.count (omega arith) in
      let is_1 = above_no 1 frame.count (omega arith) in
      let length_new : length new.frames ≡ length old.frames + 1 = length_push old.frames frame in
      let parted : in_use old + 0 ≡ length old.frames = sound.partition in
      record {
        sound = record {
          table = record {
            size = sound.table.size;
            pages = pages_after sound.table new sets;
            within = omega arith;
            some = sound.table.some;
            limit = sound.table.limit;
          };
          each_once = λ g. sound.each_once g ∙ sym (unused_at-push old.frames frame g (omega arith));
          partition = omega arith;
          fits = omega arith;
          small = omega (arith, sound.table.limit);
          sharing = omega (arith, sound.sharing);
          few_spares = omega (arith, sound.few_spares);
          spares_fit = omega arith;
        };
        unused_before = ap (λ (x : Frame). x.count) (get_or_past old.frames f empty_frame (omega arith));
        sets = sets;
        used = omega arith;
        sharing = omega arith;
      }

  -- a frame put into an unused slot, or behind all slots
  pub taken : (unused : List ℕ) (frames : List Frame) (unused' : List ℕ) (new_room : ℕ) → IsSoundSlots page_size old unused room shared spares spare_room → IsPut old.frames unused frames unused' frame f → length frames ≤ new_room → length frames ≤ new_spare_room → IsTaken page_size old (record { max = old.max; frames = frames }) unused' new_room shared new_spares new_spare_room f frame
  taken unused frames unused' new_room sound is_put fits pages_fit = elim is_put [
    | inl reused ↦
        let before = subst (λ all. IsSoundSlots page_size old all room shared spares spare_room) reused.0 sound in
        let fits' : length (set old.frames f frame) ≤ new_room = subst (λ all. length all ≤ new_room) reused.1 fits in
        let pages_fit' : length (set old.frames f frame) ≤ new_spare_room = subst (λ all. length all ≤ new_spare_room) reused.1 pages_fit in
        subst (λ all. IsTaken page_size old (record { max = old.max; frames = all }) unused' new_room shared new_spares new_spare_room f frame) (sym reused.1) (taken_reused unused' new_room before (omega (arith, length-set old.frames f frame)) (omega (arith, length-set old.frames f frame)))
    | inr behind ↦
        let before = subst (λ all. IsSoundSlots page_size old all room shared spares spare_room) behind.0 sound in
        let fits' : length (old.frames ++ frame ∷ []) ≤ new_room = subst (λ all. length all ≤ new_room) behind.3 fits in
        let pages_fit' : length (old.frames ++ frame ∷ []) ≤ new_spare_room = subst (λ all. length all ≤ new_spare_room) behind.3 pages_fit in
        let after = taken_behind new_room behind.2 before (omega (arith, length_push old.frames frame)) (omega (arith, length_push old.frames frame)) in
        subst (λ all. IsTaken page_size old (record { max = old.max; frames = all }) unused' new_room shared new_spares new_spare_room f frame) (sym behind.3) (
        subst (λ all. IsTaken page_size old (record { max = old.max; frames = old.frames ++ frame ∷ [] }) all new_room shared new_spares new_spare_room f frame) (sym behind.1) after
        )
  ]

-- an unused number is the number of a slot
pub known_numbers : (page_size : ℕ) (table : FrameTable) (unused : List ℕ) (room shared spares spare_room : ℕ) → IsSoundSlots page_size table unused room shared spares spare_room → (f : ℕ) → 0 < occurrences f unused → f < length table.frames
known_numbers page_size table unused room shared spares spare_room sound f stands = (unused_tells table.frames f (omega (arith, sound.each_once f))).0

-- a slot in use changes, and is in use still
pub changed : (page_size : ℕ) (old : FrameTable) (unused : List ℕ) (room shared new_shared spares spare_room f : ℕ) (frame : Frame) → f < length old.frames → 0 < count_of old f → 0 < frame.count → length frame.bytes ≡ page_size → new_shared + above 1 (count_of old f) ≡ shared + above 1 frame.count → IsSoundSlots page_size old unused room shared spares spare_room → IsSoundSlots page_size (record { max = old.max; frames = set old.frames f frame }) unused room new_shared spares spare_room
changed page_size old unused room shared new_shared spares spare_room f frame within used still size sharing sound =
    let new : FrameTable = record { max = old.max; frames = set old.frames f frame } in
    let sets : Sets old new f frame = Sets-set old f frame within in
    let in_use_by : in_use new + above 0 (count_of old f) ≡ in_use old + above 0 frame.count = count_above-set 0 old.frames f frame within in
    let shared_by : shared_of new + above 1 (count_of old f) ≡ shared_of old + above 1 frame.count = count_above-set 1 old.frames f frame within in
    let was_0 = above_yes 0 (count_of old f) used in
    let is_0 = above_yes 0 frame.count still in
    let length_new : length new.frames ≡ length old.frames = length-set old.frames f frame in
    record {
      table = record {
        size = sound.table.size;
        pages = λ g more. elim (cases_eq g f) [
          | inl same ↦ ap (λ n. length (page_of new n)) same ∙ ap (λ (x : Frame). length x.bytes) sets.here ∙ size
          | inr apart ↦ ap (λ (x : Frame). length x.bytes) (sets.others g apart) ∙ sound.table.pages g (omega (arith, ap (λ (x : Frame). x.count) (sets.others g apart)))
        ];
        within = omega (arith, sound.table.within);
        some = sound.table.some;
        limit = sound.table.limit;
      };
      each_once = λ g. sound.each_once g ∙ sym (elim (cases_eq g f) [
        | inl same ↦ ap (unused_at new.frames) same ∙ unused_at-set_same old.frames f frame within ∙ ap {B = ℕ} (λ b. cond b 1 0) (ne_eqb frame.count 0 (omega arith)) ∙ sym (unused_at-used old.frames f within used) ∙ ap (unused_at old.frames) (sym same)
        | inr apart ↦ unused_at-set_other old.frames f frame g apart
      ]);
      partition = omega (arith, sound.partition);
      fits = omega (arith, sound.fits);
      small = omega (arith, sound.small);
      sharing = omega (arith, sound.sharing);
      few_spares = sound.few_spares;
      spares_fit = omega (arith, sound.spares_fit);
    }

-- the last user of a slot goes, and its page may become a spare one
pub freed : (page_size : ℕ) (old : FrameTable) (unused : List ℕ) (room shared spares new_spares spare_room f : ℕ) → f < length old.frames → count_of old f ≡ 1 → new_spares ≤ spares + 1 → IsSoundSlots page_size old unused room shared spares spare_room → IsSoundSlots page_size (record { max = old.max; frames = set old.frames f empty_frame }) (unused ++ f ∷ []) room shared new_spares spare_room
freed page_size old unused room shared spares new_spares spare_room f within one more_spares sound =
    let new : FrameTable = record { max = old.max; frames = set old.frames f empty_frame } in
    let sets : Sets old new f empty_frame = Sets-set old f empty_frame within in
    let in_use_by : in_use new + above 0 (count_of old f) ≡ in_use old + above 0 0 = count_above-set 0 old.frames f empty_frame within in
    let shared_by : shared_of new + above 1 (count_of old f) ≡ shared_of old + above 1 0 = count_above-set 1 old.frames f empty_frame within in
    let was_0 = above_yes 0 (count_of old f) (omega arith) in
    let was_1 = above_no 1 (count_of old f) (omega arith) in
    let length_new : length new.frames ≡ length old.frames = length-set old.frames f empty_frame in
    let pushed = length_push unused f in
    record {
      table = record {
        size = sound.table.size;
        pages = λ g more. elim (cases_eq g f) [
          | inl same ↦ absurd (omega (arith, ap (count_of new) same, ap (λ (x : Frame). x.count) sets.here))
          | inr apart ↦ ap (λ (x : Frame). length x.bytes) (sets.others g apart) ∙ sound.table.pages g (omega (arith, ap (λ (x : Frame). x.count) (sets.others g apart)))
        ];
        within = omega (arith, sound.table.within);
        some = sound.table.some;
        limit = sound.table.limit;
      };
      each_once = λ g. occurrences-push g unused f ∙ elim (cases_eq g f) [
        | inl same ↦
            ap (λ n. occurrences n unused + cond (eqb f n) 1 0) same
            ∙ omega (arith, sound.each_once f, unused_at-used old.frames f within (omega arith), ap {B = ℕ} (λ b. cond b 1 0) (eq-eqb f f refl), unused_at-set_same old.frames f empty_frame within)
            ∙ ap (unused_at new.frames) (sym same)
        | inr apart ↦ omega (arith, sound.each_once g, unused_at-set_other old.frames f empty_frame g apart, ap {B = ℕ} (λ b. cond b 1 0) (ne_eqb f g (λ e. apart (sym e))))
      ];
      partition = omega (arith, sound.partition);
      fits = omega (arith, sound.fits);
      small = omega (arith, sound.small);
      sharing = omega (arith, sound.sharing);
      few_spares = omega (arith, sound.few_spares);
      spares_fit = omega (arith, sound.spares_fit);
    }

-- what a slot that is lent out of a table says of its frame
pub record IsSlotOf (page_size : ℕ) (table : FrameTable) (f : ℕ) (slot : Frame) : Type 0 where
  pub within : f < length table.frames
  pub used : 0 < count_of table f
  pub is : slot ≡ get_or table.frames f empty_frame
  pub size : length slot.bytes ≡ page_size

pub IsSlotOf-from : (page_size : ℕ) (table now : FrameTable) (unused : List ℕ) (room shared spares spare_room f number : ℕ) (slot : Frame) → IsSoundSlots page_size table unused room shared spares spare_room → table ≡ now → f ≡ number → 0 < count_of now number → slot ≡ get_or table.frames f slot → IsSlotOf page_size table f slot
IsSlotOf-from page_size table now unused room shared spares spare_room f number slot sound is_now is_number used_now is_slot =
    let used : 0 < count_of table f = omega (arith, ap (λ t. count_of t number) is_now, ap (count_of table) is_number) in
    let within = used_in_range table.frames f used in
    let is : slot ≡ get_or table.frames f empty_frame = is_slot ∙ get_or_default table.frames f slot empty_frame within in
    record { within = within; used = used; is = is; size = ap (λ (x : Frame). length x.bytes) is ∙ sound.table.pages f used }

module _ (page_size : ℕ) (table now : FrameTable) (unused : List ℕ) (room shared spares spare_room f number : ℕ) (slot : Frame) (sound : IsSoundSlots page_size table unused room shared spares spare_room) (is_now : table ≡ now) (is_number : f ≡ number) (used_now : 0 < count_of now number) (is_slot : slot ≡ get_or table.frames f slot) where
  slot_of : IsSlotOf page_size table f slot
  slot_of = IsSlotOf-from page_size table now unused room shared spares spare_room f number slot sound is_now is_number used_now is_slot

  -- a slot has one user more, and is shared from the second one on
  pub user_added : (new : Frame) (new_shared : ℕ) → new ≡ record { count = slot.count + 1; bytes = slot.bytes; lent = slot.lent } → (slot.count ≡ 1 → new_shared ≡ shared + 1) → ((slot.count ≡ 1 → ⊥) → new_shared ≡ shared) → IsSoundSlots page_size (record { max = table.max; frames = set table.frames f new }) unused room new_shared spares spare_room
  user_added new new_shared is_new first more =
      let s = slot_of in
      let count : slot.count ≡ count_of table f = ap (λ (x : Frame). x.count) s.is in
      let new_count : new.count ≡ slot.count + 1 = ap (λ (x : Frame). x.count) is_new in
      let is_1 : above 1 new.count ≡ 1 = above_yes 1 new.count (omega (arith, s.used)) in
      let sharing : new_shared + above 1 (count_of table f) ≡ shared + above 1 new.count = elim (cases_eq slot.count 1) [
        | inl one ↦ omega (arith, first one, above_no 1 (count_of table f) (omega arith))
        | inr many ↦ omega (arith, more many, s.used, above_yes 1 (count_of table f) (omega (arith, s.used)))
      ] in
      changed page_size table unused room shared new_shared spares spare_room f new s.within s.used (omega arith) (ap (λ (x : Frame). length x.bytes) is_new ∙ s.size) sharing sound

  -- a slot has one user less, which wasn't the last one
  pub user_dropped : (new : Frame) (new_shared : ℕ) → (slot.count ≡ 1 → ⊥) → new ≡ record { count = slot.count - 1; bytes = slot.bytes; lent = slot.lent } → (slot.count ≡ 2 → new_shared ≡ shared - 1) → ((slot.count ≡ 2 → ⊥) → new_shared ≡ shared) → IsSoundSlots page_size (record { max = table.max; frames = set table.frames f new }) unused room new_shared spares spare_room
  user_dropped new new_shared many is_new second more =
      let s = slot_of in
      let count : slot.count ≡ count_of table f = ap (λ (x : Frame). x.count) s.is in
      let new_count : new.count ≡ slot.count - 1 = ap (λ (x : Frame). x.count) is_new in
      let apart : slot.count ≢ 1 = many in
      let was_1 : above 1 (count_of table f) ≡ 1 = above_yes 1 (count_of table f) (omega (arith, s.used)) in
      let some : 0 < shared = omega (arith, sound.sharing, count_above-set 1 table.frames f empty_frame s.within, above_no 1 0 (omega arith)) in
      let sharing : new_shared + above 1 (count_of table f) ≡ shared + above 1 new.count = elim (cases_eq slot.count 2) [
        | inl two ↦ omega (arith, second two, above_no 1 new.count (omega arith))
        | inr three ↦ omega (arith, more three, s.used, above_yes 1 new.count (omega (arith, s.used)))
      ] in
      changed page_size table unused room shared new_shared spares spare_room f new s.within s.used (omega (arith, s.used)) (ap (λ (x : Frame). length x.bytes) is_new ∙ s.size) sharing sound

  -- a slot has lost its last user
  pub last_dropped : (new : Frame) (new_unused : List ℕ) (new_room new_spares new_spare_room : ℕ) → slot.count ≡ 1 → new ≡ empty_frame → new_unused ≡ unused ++ f ∷ [] → new_room ≡ room → new_spares ≤ spares + 1 → new_spare_room ≡ spare_room → IsSoundSlots page_size (record { max = table.max; frames = set table.frames f new }) new_unused new_room shared new_spares new_spare_room
  last_dropped new new_unused new_room new_spares new_spare_room one is_new is_unused same_room more_spares same_spare_room =
      let s = slot_of in
      let done = freed page_size table unused room shared spares new_spares spare_room f s.within (sym (ap (λ (x : Frame). x.count) s.is) ∙ one) more_spares sound in
      subst (λ all. IsSoundSlots page_size (record { max = table.max; frames = set table.frames f new }) all new_room shared new_spares new_spare_room) (sym is_unused) (
      subst (λ n. IsSoundSlots page_size (record { max = table.max; frames = set table.frames f new }) (unused ++ f ∷ []) n shared new_spares new_spare_room) (sym same_room) (
      subst (λ n. IsSoundSlots page_size (record { max = table.max; frames = set table.frames f new }) (unused ++ f ∷ []) room shared new_spares n) (sym same_spare_room) (
      subst (λ frame. IsSoundSlots page_size (record { max = table.max; frames = set table.frames f frame }) (unused ++ f ∷ []) room shared new_spares spare_room) (sym is_new) done)))

  -- a slot in use changes, and has as many users as before
  pub same_users : (new : Frame) → new.count ≡ slot.count → length new.bytes ≡ page_size → IsSoundSlots page_size (record { max = table.max; frames = set table.frames f new }) unused room shared spares spare_room
  same_users new same_count size =
      let s = slot_of in
      let count : slot.count ≡ count_of table f = ap (λ (x : Frame). x.count) s.is in
      changed page_size table unused room shared shared spares spare_room f new s.within s.used (omega (arith, s.used)) size (ap (λ n. shared + above 1 n) (sym (same_count ∙ count))) sound
