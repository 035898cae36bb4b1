-- What each change of frames and tables does to the counts, and to what the owner and the children see.
use Rattle.std.proofs.Common.{◌≡◌, ◌≢◌, ℕ, false, ◌+◌, ◌-◌, ◌<◌, ◌≤◌, inl, inr, List, [], ◌∷◌, ◌++◌, length, get_or, take, drop, set, replicate, refl, sym, ap, ◌∙◌, subst, arith, sum_by, All, Option, Some, None, length-set}
use Rattle.std.specs.Option.{option_map}
use Rattle.std.proofs.lemmas.List.{get_or_past, get_or-set_same, get_or-set_other, get_or_append_left, get_or_push, length_push}
use Rattle.std.proofs.lemmas.List.Sums.{sum_by-set, sum_by-le}
use Rattle.std.proofs.lemmas.List.Elements.{All-from_get_or}
use Rattle.std.proofs.lemmas.Bool.{cases_lt, cases_eq}
use Rattle.hy_frames.specs.FrameTable.{Frame, FrameTable, count_of, page_of, lent_at, free_of, frame_at, Sets, Takes, occurrences}
use Rattle.hy_space.specs.Space.{SpaceState, KeepsOwn, KeepsOthers, WritesPage, GrowsPage, MakesPrivate, IsPrivate, page_count, Lends, with_new_frame, with_first_frames, AddsUsers, DropsUsers, child_times, times, table_bytes, owner_bytes, child_table, child_bytes, HasPage, IsOwn, frame_no, with_frame, with_page, with_new_page, with_first_pages}
use Rattle.hy_space.specs.inside.Children.{IsPadded}
use Rattle.hy_space.specs.inside.Users.{IsCounted}
use Rattle.hy_space.proofs.UserLaws.{same, same_yes, same_no}
use Rattle.hy_space.proofs.TableLaws.{stands, apart_frames, times-with_frame, times-cut, occurrences-drop-le, table_bytes-with_frame, table_bytes-push, table_bytes-cut, frame_no-with_frame, frame_no-with_new_frame, frame_no-new, frame_no-with_first_frames, same_bytes, same_child_bytes, written_table, child_in_sum}

-- a frame without users gets one, and a page
pub record TakesOne (old new : FrameTable) (fresh : ℕ) (bytes : List ℕ) : Type 0 where
  pub counts : (f : ℕ) → count_of new f ≡ count_of old f + same fresh f
  pub pages : (f : ℕ) → f ≢ fresh → page_of new f ≡ page_of old f
  pub here : page_of new fresh ≡ bytes
  pub lent : (f : ℕ) → f ≢ fresh → lent_at new f ≡ lent_at old f
  pub not_lent : lent_at new fresh ≡ false

pub TakesOne-from : (old new : FrameTable) (fresh : ℕ) (bytes : List ℕ) → count_of old fresh ≡ 0 → Sets old new fresh (record { count = 1; bytes = bytes; lent = false }) → TakesOne old new fresh bytes
TakesOne-from old new fresh bytes unused sets = record {
  counts = λ f. elim (cases_eq f fresh) [
    | inl here ↦ omega (arith, ap (count_of new) here, ap (count_of old) here, ap (λ (x : Frame). x.count) sets.here, same_yes fresh f (sym here))
    | inr apart ↦ omega (arith, ap (λ (x : Frame). x.count) (sets.others f apart), same_no fresh f (λ e. apart (sym e)))
  ];
  pages = λ f apart. ap (λ (x : Frame). x.bytes) (sets.others f apart);
  here = ap (λ (x : Frame). x.bytes) sets.here;
  lent = λ f apart. ap (λ (x : Frame). x.lent) (sets.others f apart);
  not_lent = ap (λ (x : Frame). x.lent) sets.here;
}

-- the counts are right, and the children see what they saw
pub record IsKept (page_size : ℕ) (old new : SpaceState) : Type 0 where
  pub counted : IsCounted page_size new
  pub children : (child : ℕ) → child_bytes new child ≡ child_bytes old child

-- one more place without a child changes no child
get_or-padded : (old new : List (Option (List (List ℕ)))) (child : ℕ) → IsPadded old new → get_or new child None ≡ get_or old child None
get_or-padded old new child padded = elim padded [
  | inl is ↦ ap (λ all. get_or all child None) is
  | inr is ↦ ap (λ all. get_or all child None) is ∙ elim (cases_lt child (length old)) [
    | inl within ↦ get_or_append_left old (None ∷ []) None child within
    | inr past ↦ elim (cases_eq (length old) child) [
      | inl last ↦ get_or_push old None None child last ∙ sym (get_or_past old child None past)
      | inr apart ↦ get_or_past (old ++ None ∷ []) child None (omega (arith, length_push old None)) ∙ sym (get_or_past old child None past)
    ]
  ]
]

module _ (page_size : ℕ) (s : SpaceState) (counted : IsCounted page_size s) where
  -- a frame with users in the owner's table has as many users at least
  owner_counted : (f : ℕ) → times f s.owner ≤ count_of s.frames f
  owner_counted f = omega (arith, counted.exact f)

  -- a frame with users in a child's table has as many users at least
  child_counted : (f child : ℕ) → child_times f (child_table s child) ≤ count_of s.frames f
  child_counted f child = omega (arith, counted.exact f, child_in_sum f s.children child)

  -- a page that is the owner's own is written
  pub written_own : (segment page : ℕ) → HasPage s segment page → IsOwn s segment page → (new : FrameTable) (bytes : List ℕ) → Sets s.frames new (frame_no s segment page) (record { count = 1; bytes = bytes; lent = false }) → (table_bytes new s.owner ≡ with_page (owner_bytes s) segment page bytes) × ((child : ℕ) → option_map (table_bytes new) (child_table s child) ≡ child_bytes s child)
  written_own segment page place own new bytes sets =
      let f = frame_no s segment page in
      let stay : (g : ℕ) → g ≢ f → page_of new g ≡ page_of s.frames g = λ g apart. ap (λ (x : Frame). x.bytes) (sets.others g apart) in
      let stood = stands s.owner segment page place.0 place.1 in
      let only : (g child : ℕ) → 0 < child_times g (child_table s child) → g ≢ f = λ g child more e. absurd (omega (arith, counted.exact f, own, child_in_sum f s.children child, ap (λ n. child_times n (child_table s child)) e)) in (
        written_table s.frames new s.owner segment page place.0 place.1 stay (counted.owner_once f) ∙ ap (λ (x : Frame). with_page (owner_bytes s) segment page x.bytes) sets.here,
        λ child. same_child_bytes s.frames new (child_table s child) (λ g more. stay g (only g child more)),
      )

  -- and every other page stays as it was
  pub written_others : (segment page : ℕ) → HasPage s segment page → IsOwn s segment page → (new : FrameTable) (frame : Frame) → frame.count ≡ 1 → Sets s.frames new (frame_no s segment page) frame → KeepsOthers s (record { owner = s.owner; children = s.children; frames = new }) segment page
  written_others segment page place own new frame one sets =
      let f = frame_no s segment page in record {
        frames = λ g apart _. sets.others g apart;
        own = λ segment' page' before after own'. elim (cases_eq (frame_no s segment' page') f) [
          | inl here ↦ ap (count_of new) here ∙ ap (λ (x : Frame). x.count) sets.here ∙ one
          | inr apart ↦ ap (λ (x : Frame). x.count) (sets.others (frame_no s segment' page') apart) ∙ own'
        ];
        private = λ segment' page' other before after private'.
            let apart = apart_frames s.owner segment page segment' page' place.0 place.1 before.0 before.1 (counted.owner_once f) other in
            let same_frame = sets.others (frame_no s segment' page') apart in
            record {
              own = ap (λ (x : Frame). x.count) same_frame ∙ private'.own;
              not_lent = ap (λ (x : Frame). x.lent) same_frame ∙ private'.not_lent;
            };
      }

  pub written : (segment page : ℕ) → HasPage s segment page → IsOwn s segment page → (new : FrameTable) (bytes : List ℕ) → Sets s.frames new (frame_no s segment page) (record { count = 1; bytes = bytes; lent = false }) → free_of new ≡ free_of s.frames → WritesPage s (record { owner = s.owner; children = s.children; frames = new }) segment page bytes
  written segment page place own new bytes sets free =
      let seen = written_own segment page place own new bytes sets in record {
        bytes = seen.0;
        table = refl;
        frame = sets;
        others = written_others segment page place own new (record { count = 1; bytes = bytes; lent = false }) refl sets;
        children = record { tables = refl; bytes = seen.1 };
        free = free;
        limit = sets.limit;
      }

  -- a page that children see too is put into a fresh frame
  pub replaced : (segment page fresh : ℕ) (bytes : List ℕ) (mid new : FrameTable) → HasPage s segment page → 1 < count_of s.frames (frame_no s segment page) → count_of s.frames fresh ≡ 0 → TakesOne s.frames mid fresh bytes → DropsUsers mid new (λ f. same (frame_no s segment page) f) → (IsKept page_size s (record { owner = with_frame s.owner segment page fresh; children = s.children; frames = new })) × (table_bytes new (with_frame s.owner segment page fresh) ≡ with_page (owner_bytes s) segment page bytes)
  replaced segment page fresh bytes mid new place shared unused takes drops =
      let f = frame_no s segment page in
      let stays : (g : ℕ) → 0 < count_of s.frames g → 0 < count_of new g → page_of new g ≡ page_of s.frames g = λ g used still. drops.pages g still ∙ takes.pages g (λ e. absurd (omega (arith, ap (count_of s.frames) e))) in
      let still : (g : ℕ) → (g ≡ f → ⊥) → 0 < count_of s.frames g → 0 < count_of new g = λ g apart used. omega (arith, drops.counts g, takes.counts g, same_no f g (λ e. apart (sym e))) in
      let still_f : 0 < count_of new f = omega (arith, drops.counts f, takes.counts f, same_yes f f refl) in
      let stay : (g : ℕ) → 0 < count_of s.frames g → page_of new g ≡ page_of s.frames g = λ g used. elim (cases_eq g f) [
        | inl here ↦ stays g used (subst (λ x. 0 < count_of new x) (sym here) still_f)
        | inr apart ↦ stays g used (still g apart used)
      ] in
      let fresh_apart : f ≢ fresh = λ e. absurd (omega (arith, ap (count_of s.frames) e)) in
      let fresh_still : 0 < count_of new fresh = omega (arith, drops.counts fresh, takes.counts fresh, same_yes fresh fresh refl, same_no f fresh fresh_apart) in (
        record {
          counted = record {
            exact = λ g. omega (arith, drops.counts g, takes.counts g, counted.exact g, times-with_frame g s.owner segment page fresh place.0 place.1);
            owner_once = λ g. elim (cases_eq g fresh) [
              | inl here ↦ omega (arith, ap (count_of s.frames) here, owner_counted g, times-with_frame g s.owner segment page fresh place.0 place.1, same_yes fresh g (sym here))
              | inr apart ↦ omega (arith, counted.owner_once g, times-with_frame g s.owner segment page fresh place.0 place.1, same_no fresh g (λ e. apart (sym e)))
            ];
            child_once = counted.child_once;
            largest = counted.largest;
            segments = omega (arith, counted.segments, length-set s.owner segment (set (get_or s.owner segment []) page fresh));
          };
          children = λ child. same_child_bytes s.frames new (child_table s child) (λ g more. stay g (omega (arith, child_counted g child)));
        },
        table_bytes-with_frame new s.owner segment page fresh
            ∙ ap (λ all. with_page all segment page (page_of new fresh)) (same_bytes s.frames new s.owner (λ g more. stay g (omega (arith, owner_counted g))))
            ∙ ap (with_page (owner_bytes s) segment page) (drops.pages fresh fresh_still ∙ takes.here),
      )

  -- a fresh frame stands at a segment's end
  pub grown : (segment fresh : ℕ) (bytes : List ℕ) (new : FrameTable) → segment < length s.owner → count_of s.frames fresh ≡ 0 → TakesOne s.frames new fresh bytes → (table_bytes new (set s.owner segment (get_or s.owner segment [] ++ fresh ∷ [])) ≡ with_new_page (owner_bytes s) segment bytes) × ((child : ℕ) → option_map (table_bytes new) (child_table s child) ≡ child_bytes s child)
  grown segment fresh bytes new there unused takes =
      let stay : (g : ℕ) → 0 < count_of s.frames g → page_of new g ≡ page_of s.frames g = λ g used. takes.pages g (λ e. absurd (omega (arith, ap (count_of s.frames) e))) in (
        table_bytes-push new s.owner segment fresh
            ∙ ap (λ all. with_new_page all segment (page_of new fresh)) (same_bytes s.frames new s.owner (λ g more. stay g (omega (arith, owner_counted g))))
            ∙ ap (with_new_page (owner_bytes s) segment) takes.here,
        λ child. same_child_bytes s.frames new (child_table s child) (λ g more. stay g (omega (arith, child_counted g child))),
      )

  -- the frames at a segment's end are given up
  pub trimmed : (segment count : ℕ) (new : FrameTable) → segment < length s.owner → DropsUsers s.frames new (λ f. occurrences f (drop count (get_or s.owner segment []))) → (IsKept page_size s (record { owner = set s.owner segment (take count (get_or s.owner segment [])); children = s.children; frames = new })) × (table_bytes new (set s.owner segment (take count (get_or s.owner segment []))) ≡ with_first_pages (owner_bytes s) segment count)
  trimmed segment count new there drops =
      let kept = set s.owner segment (take count (get_or s.owner segment [])) in
      let before : table_bytes new kept ≡ table_bytes s.frames kept = same_bytes s.frames new kept (λ g more. drops.pages g (omega (arith, drops.counts g, counted.exact g, times-cut g s.owner segment count there))) in (
        record {
          counted = record {
            exact = λ g. omega (arith, drops.counts g, counted.exact g, times-cut g s.owner segment count there);
            owner_once = λ g. omega (arith, counted.owner_once g, times-cut g s.owner segment count there);
            child_once = counted.child_once;
            largest = counted.largest;
            segments = omega (arith, counted.segments, length-set s.owner segment (take count (get_or s.owner segment [])));
          };
          children = λ child. same_child_bytes s.frames new (child_table s child) (λ g more. drops.pages g (omega (arith, drops.counts g, counted.exact g, occurrences-drop-le g s.owner segment count there, child_in_sum g s.children child)));
        },
        before ∙ table_bytes-cut s.frames s.owner segment count,
      )

  -- the users of a child's table are given up
  pub closed : (child : ℕ) (table : List (List ℕ)) (new : FrameTable) → child < length s.children → child_table s child ≡ Some table → DropsUsers s.frames new (λ f. times f table) → (table_bytes new s.owner ≡ owner_bytes s) × ((other : ℕ) → other ≢ child → option_map (table_bytes new) (child_table s other) ≡ child_bytes s other)
  closed child table new there is_table drops =
      let rest = set s.children child None in
      let parts : (f : ℕ) → sum_by (child_times f) rest + times f table ≡ sum_by (child_times f) s.children = λ f. omega (arith, sum_by-set (child_times f) s.children child None None there, ap (child_times f) is_table) in (
        same_bytes s.frames new s.owner (λ g more. drops.pages g (omega (arith, drops.counts g, counted.exact g, parts g))),
        λ other apart. same_child_bytes s.frames new (child_table s other) (λ g more. drops.pages g (omega (arith, drops.counts g, counted.exact g, parts g, child_in_sum g rest other, ap (child_times g) (get_or-set_other s.children child other None None apart)))),
      )

  -- few enough tables have a frame for one more user
  pub room_for_user : (f : ℕ) → count_of s.frames f ≤ length s.children + 1
  room_for_user f =
      let once : All (λ table. child_times f table ≤ 1) s.children = All-from_get_or (λ table. child_times f table ≤ 1) s.children None (λ child _. counted.child_once f child) in
      omega (arith, counted.exact f, counted.owner_once f, sum_by-le (child_times f) 1 s.children once)

  -- a child is opened at a place that had none
  pub forked : (table : List (List ℕ)) (children : List (Option (List (List ℕ)))) (child : ℕ) (new : FrameTable) → IsPadded s.children children → AddsUsers s.frames new (λ f. times f table) → (other : ℕ) → other ≢ child → (get_or (set children child (Some table)) other None ≡ child_table s other) × (option_map (table_bytes new) (get_or (set children child (Some table)) other None) ≡ child_bytes s other)
  forked table children child new padded adds other apart =
      let read : get_or (set children child (Some table)) other None ≡ child_table s other = get_or-set_other children child other (Some table) None apart ∙ get_or-padded s.children children other padded in (
        read,
        ap (option_map (table_bytes new)) read ∙ same_child_bytes s.frames new (child_table s other) (λ f more. adds.pages f),
      )

-- a frame with a user less
abbrev less : Frame → Frame
less frame = record frame { count = frame.count - 1 }

-- ---- pages that stay the owner's own

-- where each page keeps its frame, and each frame of an own page its count and whether it is lent, own pages stay own
pub KeepsOwn-from : (old new : SpaceState) → ((segment page : ℕ) → HasPage old segment page → HasPage new segment page → (frame_no new segment page ≡ frame_no old segment page) × (IsOwn old segment page → (count_of new.frames (frame_no old segment page) ≡ 1) × (lent_at new.frames (frame_no old segment page) ≡ lent_at old.frames (frame_no old segment page)))) → KeepsOwn old new
KeepsOwn-from old new stays = record {
  own = λ segment page before after is_own.
      let stay = stays segment page before after in
      ap (count_of new.frames) stay.0 ∙ (stay.1 is_own).0;
  private = λ segment page before after is_private.
      let stay = stays segment page before after in
      record {
        own = ap (count_of new.frames) stay.0 ∙ (stay.1 is_private.own).0;
        not_lent = ap (lent_at new.frames) stay.0 ∙ (stay.1 is_private.own).1 ∙ is_private.not_lent;
      };
}

-- ---- one page of the owner

-- where every other page stays and this one isn't lent afterwards, every page stays
KeepsOwn-private : (old new : SpaceState) (segment page : ℕ) → KeepsOthers old new segment page → IsPrivate new segment page → KeepsOwn old new
KeepsOwn-private old new segment page others private = record {
  own = others.own;
  private = λ segment' page' before after was. elim (cases_eq segment' segment) [
    | inl here ↦ elim (cases_eq page' page) [
      | inl there ↦ subst (λ n. IsPrivate new segment' n) (sym there) (subst (λ n. IsPrivate new n page) (sym here) private)
      | inr apart ↦ others.private segment' page' (λ same. apart same.1) before after was
    ]
    | inr apart ↦ others.private segment' page' (λ same. apart same.0) before after was
  ];
}

-- a page of the owner's own is private where it is written, and where it is taken back
pub MakesPrivate-written : (old new : SpaceState) (segment page : ℕ) (content : List ℕ) → IsOwn old segment page → WritesPage old new segment page content → MakesPrivate old new segment page
MakesPrivate-written old new segment page content own writes =
    let same_frame : frame_no new segment page ≡ frame_no old segment page = ap (λ rows. get_or (get_or rows segment []) page 0) writes.table in
    let private : IsPrivate new segment page = record {
      own = ap (count_of new.frames) same_frame ∙ ap (λ (x : Frame). x.count) writes.frame.here;
      not_lent = ap (lent_at new.frames) same_frame ∙ ap (λ (x : Frame). x.lent) writes.frame.here;
    } in
    record {
      private = private;
      table = λ _. writes.table;
      free = λ _. writes.free;
      fresh = λ shared. absurd (shared own);
      others = writes.others.frames;
      kept = KeepsOwn-private old new segment page writes.others private;
      children = writes.children;
      limit = writes.limit;
    }

module _ (page_size : ℕ) (s : SpaceState) (counted : IsCounted page_size s) where
  -- no child has the frame of an own page
  pub owners_alone : (segment page : ℕ) → HasPage s segment page → IsOwn s segment page → (times (frame_no s segment page) s.owner ≡ 1) × (sum_by (child_times (frame_no s segment page)) s.children ≡ 0)
  owners_alone segment page place own =
      let f = frame_no s segment page in
      let stood = stands s.owner segment page place.0 place.1 in
      (omega (arith, counted.exact f, counted.owner_once f), omega (arith, counted.exact f, counted.owner_once f))

  -- a close keeps own pages
  pub close_keeps : (child : ℕ) (table : List (List ℕ)) (children : List (Option (List (List ℕ)))) (new : FrameTable) → child_table s child ≡ Some table → DropsUsers s.frames new (λ f. times f table) → KeepsOwn s (record { owner = s.owner; children = children; frames = new })
  close_keeps child table children new is_table drops = KeepsOwn-from s (record { owner = s.owner; children = children; frames = new }) (λ segment page before after. (
    refl,
    λ own.
        let f = frame_no s segment page in
        let none : times f table ≡ 0 = omega (arith, (owners_alone segment page before own).1, child_in_sum f s.children child, ap (child_times f) is_table) in
        let one : count_of new f ≡ 1 = omega (arith, drops.counts f, own) in
        (one, drops.lent f (omega arith)),
  ))

  -- a child with the table of another one keeps own pages, none of which that one has
  pub again_keeps : (new : SpaceState) (child : ℕ) (table : List (List ℕ)) → child_table s child ≡ Some table → new.owner ≡ s.owner → AddsUsers s.frames new.frames (λ f. times f table) → KeepsOwn s new
  again_keeps new child table is_table same adds = KeepsOwn-from s new (λ segment page before after. (
    ap (λ (rows : List (List ℕ)). get_or (get_or rows segment []) page 0) same,
    λ own.
        let f = frame_no s segment page in
        let none : times f table ≡ 0 = omega (arith, (owners_alone segment page before own).1, child_in_sum f s.children child, ap (child_times f) is_table) in
        let one : count_of new.frames f ≡ 1 = omega (arith, adds.counts f, own, none) in
        (one, adds.lent f),
  ))

  -- a new page keeps own pages
  pub grow_keeps : (segment fresh : ℕ) (bytes : List ℕ) (new : FrameTable) → segment < length s.owner → count_of s.frames fresh ≡ 0 → TakesOne s.frames new fresh bytes → KeepsOwn s (record { owner = with_new_frame s.owner segment fresh; children = s.children; frames = new })
  grow_keeps segment fresh bytes new there unused takes = KeepsOwn-from s (record { owner = with_new_frame s.owner segment fresh; children = s.children; frames = new }) (λ segment' page' before after. (
    frame_no-with_new_frame s.owner segment fresh segment' page' before.1,
    λ own.
        let f = frame_no s segment' page' in
        let apart : f ≢ fresh = λ e. absurd (omega (arith, own, ap (count_of s.frames) e)) in
        (omega (arith, takes.counts f, own, same_no fresh f (λ e. apart (sym e))), takes.lent f apart),
  ))

  -- a cut keeps own pages
  pub cut_keeps : (segment count : ℕ) (new : FrameTable) → segment < length s.owner → DropsUsers s.frames new (λ f. occurrences f (drop count (get_or s.owner segment []))) → KeepsOwn s (record { owner = with_first_frames s.owner segment count; children = s.children; frames = new })
  cut_keeps segment count new there drops = KeepsOwn-from s (record { owner = with_first_frames s.owner segment count; children = s.children; frames = new }) (λ segment' page' before after.
      let same_frame = frame_no-with_first_frames s.owner segment count segment' page' there after.1 in (
        same_frame,
        λ own.
            let f = frame_no s segment' page' in
            let alone = owners_alone segment' page' before own in
            let stood = stands (with_first_frames s.owner segment count) segment' page' after.0 after.1 in
            let stays : 1 ≤ times f (with_first_frames s.owner segment count) = omega (arith, ap (λ n. times n (with_first_frames s.owner segment count)) same_frame) in
            let none : occurrences f (drop count (get_or s.owner segment [])) ≡ 0 = omega (arith, times-cut f s.owner segment count there, alone.0) in
            let one : count_of new f ≡ 1 = omega (arith, drops.counts f, own) in
            (one, drops.lent f (omega arith)),
      ))

  -- holds of a child's pages keep the owner's own pages, none of which the child has
  pub holds_keep : (child : ℕ) (table : List (List ℕ)) (new : FrameTable) → child_table s child ≡ Some table → Lends s.frames new (λ f. times f table) → KeepsOwn s (record { owner = s.owner; children = s.children; frames = new })
  holds_keep child table new is_table lends = KeepsOwn-from s (record { owner = s.owner; children = s.children; frames = new }) (λ segment page before after. (
    refl,
    λ own.
        let f = frame_no s segment page in
        let none : times f table ≡ 0 = omega (arith, (owners_alone segment page before own).1, child_in_sum f s.children child, ap (child_times f) is_table) in
        (lends.counts f ∙ own, lends.others f none),
  ))

  -- a copy of a page that children see too, in a fresh frame
  pub copied : (segment page fresh : ℕ) (bytes : List ℕ) (mid new : FrameTable) → HasPage s segment page → 1 < count_of s.frames (frame_no s segment page) → Takes s.frames mid fresh bytes → Sets mid new (frame_no s segment page) (less (frame_at mid (frame_no s segment page))) → free_of new ≡ free_of mid → IsKept page_size s (record { owner = with_frame s.owner segment page fresh; children = s.children; frames = new }) → MakesPrivate s (record { owner = with_frame s.owner segment page fresh; children = s.children; frames = new }) segment page
  copied segment page fresh bytes mid new place shared takes sets free kept =
      let f = frame_no s segment page in
      let now : SpaceState = record { owner = with_frame s.owner segment page fresh; children = s.children; frames = new } in
      let is_fresh : frame_no now segment page ≡ fresh = ap (λ row. get_or row page 0) (get_or-set_same s.owner segment (set (get_or s.owner segment []) page fresh) [] place.0) ∙ get_or-set_same (get_or s.owner segment []) page fresh 0 place.1 in
      let fresh_apart : fresh ≢ f = λ e. absurd (omega (arith, takes.unused, ap (count_of s.frames) e)) in
      let here : frame_at new fresh ≡ record { count = 1; bytes = bytes; lent = false } = sets.others fresh fresh_apart ∙ takes.set.here in
      let stays : (g : ℕ) → g ≢ f → g ≢ fresh → frame_at new g ≡ frame_at s.frames g = λ g was is_now. sets.others g was ∙ takes.set.others g is_now in
      let same_frame : (segment' page' : ℕ) → ¬ ((segment' ≡ segment) × (page' ≡ page)) → HasPage s segment' page' → frame_no now segment' page' ≡ frame_no s segment' page' = λ segment' page' other before. (frame_no-with_frame s.owner segment page fresh segment' page' other before.0).0 in
      let own_stays : (g : ℕ) → count_of s.frames g ≡ 1 → frame_at new g ≡ frame_at s.frames g = λ g own. stays g (λ e. absurd (omega (arith, ap (count_of s.frames) e))) (λ e. absurd (omega (arith, takes.unused, ap (count_of s.frames) e))) in
      let private : IsPrivate now segment page = record {
        own = ap (count_of new) is_fresh ∙ ap (λ (x : Frame). x.count) here;
        not_lent = ap (lent_at new) is_fresh ∙ ap (λ (x : Frame). x.lent) here;
      } in
      let not_own : (segment' page' : ℕ) → IsOwn s segment' page' → ¬ ((segment' ≡ segment) × (page' ≡ page)) = λ segment' page' own same. absurd (omega (arith, own, shared, ap (λ n. count_of s.frames (frame_no s n page')) same.0, ap (λ n. count_of s.frames (frame_no s segment n)) same.1)) in
      let others : KeepsOthers s now segment page = record {
        frames = λ g was is_now. stays g was (λ e. is_now (e ∙ sym is_fresh));
        own = λ segment' page' before after own.
            ap (count_of new) (same_frame segment' page' (not_own segment' page' own) before) ∙ ap (λ (x : Frame). x.count) (own_stays (frame_no s segment' page') own) ∙ own;
        private = λ segment' page' other before after was.
            let same = own_stays (frame_no s segment' page') was.own in
            record {
              own = ap (count_of new) (same_frame segment' page' other before) ∙ ap (λ (x : Frame). x.count) same ∙ was.own;
              not_lent = ap (lent_at new) (same_frame segment' page' other before) ∙ ap (λ (x : Frame). x.lent) same ∙ was.not_lent;
            };
      } in
      record {
        private = private;
        table = λ own. absurd (omega (arith, own));
        free = λ own. absurd (omega (arith, own));
        fresh = λ _. record {
          unused = ap (count_of s.frames) is_fresh ∙ takes.unused;
          table = ap (with_frame s.owner segment page) (sym is_fresh);
          left = sets.here ∙ ap (λ (x : Frame). less x) (takes.set.others f (λ e. fresh_apart (sym e)));
          free = omega (arith, takes.free, free);
        };
        others = others.frames;
        kept = KeepsOwn-private s now segment page others private;
        children = record { tables = refl; bytes = kept.children };
        limit = sets.limit ∙ takes.set.limit;
      }

  -- a page of zeros behind a segment's pages
  pub grown_page : (segment fresh : ℕ) (new : FrameTable) → segment < length s.owner → Takes s.frames new fresh (replicate page_size 0) → GrowsPage page_size s (record { owner = with_new_frame s.owner segment fresh; children = s.children; frames = new }) segment (page_count s segment)
  grown_page segment fresh new there takes =
      let bytes = replicate page_size 0 in
      let now : SpaceState = record { owner = with_new_frame s.owner segment fresh; children = s.children; frames = new } in
      let one = TakesOne-from s.frames new fresh bytes takes.unused takes.set in
      let seen = grown page_size s counted segment fresh bytes new there takes.unused one in
      let is_fresh : frame_no now segment (page_count s segment) ≡ fresh = frame_no-new s.owner segment fresh there in
      record {
        number = refl;
        bytes = seen.0;
        table = ap (with_new_frame s.owner segment) (sym is_fresh);
        unused = ap (count_of s.frames) is_fresh ∙ takes.unused;
        frame = subst (λ f. Sets s.frames new f (record { count = 1; bytes = bytes; lent = false })) (sym is_fresh) takes.set;
        private = record {
          own = ap (count_of new) is_fresh ∙ ap (λ (x : Frame). x.count) takes.set.here;
          not_lent = ap (lent_at new) is_fresh ∙ ap (λ (x : Frame). x.lent) takes.set.here;
        };
        kept = grow_keeps segment fresh bytes new there takes.unused one;
        children = record { tables = refl; bytes = seen.1 };
        free = takes.free;
        limit = takes.set.limit;
      }
