-- What a child's page that moves to a frame of its own does to the tables and to the users of frames.
use Rattle.std.proofs.Common.{◌≡◌, ◌≢◌, ℕ, zero, suc, ◌+◌, ◌<◌, ◌≤◌, Bool, true, false, not, ◌&&◌, ◌||◌, cond, eqb, inl, inr, List, [], ◌∷◌, length, get_or, set, drop, refl, sym, ap, ap₂, ◌∙◌, subst, arith, Some, unwrap_or, IsSomeAnd, length-set, get_or-set_same, get_or-set_other}
use Rattle.std.specs.Option.{option_map}
use Rattle.std.specs.List.{AllByRecursion, filter, list_any}
use Rattle.std.proofs.lemmas.List.{at_drop_more, length-map, nil_from_length}
use Rattle.std.proofs.lemmas.Bool.{cases_eq, cases_Bool, and_from, and_parts, eq-eqb, ltb-true}
use Rattle.hy_frames.specs.FrameTable.{FrameTable, count_of, lent_at, free_of}
use Rattle.hy_space.specs.Space.{SpaceState, HasPage, HasChildPage, SameForOwner, SameForOthers, MovesUser, MovesChildPage, times, child_table, child_bytes, child_frame_no, frame_no, with_frame}
use Rattle.hy_space.proofs.UserLaws.{same, same_yes, same_no}
use Rattle.hy_space.proofs.TableLaws.{stands, times-with_frame}
use Rattle.hy_undo.specs.UndoLog.{Image, UndoLog}
use Rattle.hy_undo.specs.Touched.{PageAddress, is_same_address, address_of, different, was_there, touched}
use Rattle.hy_undo.proofs.TouchedLaws.{same_address, is_same_address-refl, never_both, length-kept-cons}
use Rattle.hy_undo.specs.inside.Fork.{rows_of, addresses, address_at, IsBeside, SharesGrown, ChangesChild, IsSplit, AllSplit, IsOfPage}

-- ---- another frame at one address of a table

pub drop-set_before : {X : Type 0} (n : ℕ) (xs : List X) (i : ℕ) (x : X) → i < n → drop n (set xs i x) ≡ drop n xs
drop-set_before zero xs i x below = absurd (omega arith)
drop-set_before (suc n) [] i x below = refl
drop-set_before (suc n) (y ∷ xs) zero x below = refl
drop-set_before (suc n) (y ∷ xs) (suc i) x below = drop-set_before n xs i x (omega arith)

module _ (table : List (List ℕ)) (segment page frame : ℕ) (there : segment < length table) where
  row-here : get_or (with_frame table segment page frame) segment [] ≡ set (get_or table segment []) page frame
  row-here = get_or-set_same table segment (set (get_or table segment []) page frame) [] there

  row-other : (s : ℕ) → s ≢ segment → get_or (with_frame table segment page frame) s [] ≡ get_or table s []
  row-other s apart = get_or-set_other table segment s (set (get_or table segment []) page frame) [] apart

  pub length-row-with_frame : (s : ℕ) → length (get_or (with_frame table segment page frame) s []) ≡ length (get_or table s [])
  length-row-with_frame s = elim (cases_eq s segment) [
    | inl here ↦
        ap (λ x. length (get_or (with_frame table segment page frame) x [])) here
        ∙ ap length row-here ∙ length-set (get_or table segment []) page frame
        ∙ sym (ap (λ x. length (get_or table x [])) here)
    | inr apart ↦ ap length (row-other s apart)
  ]

  pub drop-row-with_frame : (counts : List ℕ) (s : ℕ) → page < get_or counts segment 0 → drop (get_or counts s 0) (get_or (with_frame table segment page frame) s []) ≡ drop (get_or counts s 0) (get_or table s [])
  drop-row-with_frame counts s below = elim (cases_eq s segment) [
    | inl here ↦
        ap (λ x. drop (get_or counts x 0) (get_or (with_frame table segment page frame) x [])) here
        ∙ ap (drop (get_or counts segment 0)) row-here
        ∙ drop-set_before (get_or counts segment 0) (get_or table segment []) page frame below
        ∙ sym (ap (λ x. drop (get_or counts x 0) (get_or table x [])) here)
    | inr apart ↦ ap (drop (get_or counts s 0)) (row-other s apart)
  ]

  pub frame-with_frame_other : (s p : ℕ) → ((s ≡ segment) × (p ≡ page) → ⊥) → get_or (get_or (with_frame table segment page frame) s []) p 0 ≡ get_or (get_or table s []) p 0
  frame-with_frame_other s p apart = elim (cases_eq s segment) [
    | inl here ↦
        ap (λ x. get_or (get_or (with_frame table segment page frame) x []) p 0) here
        ∙ ap (λ row. get_or row p 0) row-here
        ∙ get_or-set_other (get_or table segment []) page p frame 0 (λ e. apart (here, e))
        ∙ sym (ap (λ x. get_or (get_or table x []) p 0) here)
    | inr differs ↦ ap (λ row. get_or row p 0) (row-other s differs)
  ]

-- ---- users

-- the counts after a user of one frame moved to another
pub counts_moved : (old new : FrameTable) (from to : ℕ) → MovesUser old new from to → (f : ℕ) → count_of new f + same from f ≡ count_of old f + same to f
counts_moved old new from to moves f =
    let apart : from ≢ to = λ e. absurd (omega (arith, ap (count_of old) e, moves.unused, moves.left)) in
    elim (cases_eq f from) [
      | inl here ↦ omega (arith, ap (count_of new) here, ap (count_of old) here, moves.left, same_yes from f (sym here), same_no to f (λ e. apart (sym (e ∙ here))))
      | inr other ↦ elim (cases_eq f to) [
        | inl there ↦ omega (arith, ap (count_of new) there, ap (count_of old) there, moves.here, moves.unused, same_no from f (λ e. other (sym e)), same_yes to f (sym there))
        | inr neither ↦ omega (arith, moves.others f other neither, same_no from f (λ e. other (sym e)), same_no to f (λ e. neither (sym e)))
      ]
    ]

-- one change behind another
pub ChangesChild-then : (old mid new : SpaceState) (child : ℕ) → ChangesChild old mid child → ChangesChild mid new child → ChangesChild old new child
ChangesChild-then old mid new child first second = record {
  owner = record {
    table = second.owner.table ∙ first.owner.table;
    bytes = second.owner.bytes ∙ first.owner.bytes;
  };
  others = record {
    tables = λ other apart. second.others.tables other apart ∙ first.others.tables other apart;
    bytes = λ other apart. second.others.bytes other apart ∙ first.others.bytes other apart;
  };
  counts = λ f. omega (arith, first.counts f, second.counts f);
  lent = λ f used. second.lent f (omega (arith, first.counts f)) ∙ first.lent f used;
  limit = second.limit ∙ first.limit;
}

pub ChangesChild-same : (s : SpaceState) (child : ℕ) → ChangesChild s s child
ChangesChild-same s child = record {
  owner = record { table = refl; bytes = refl };
  others = record { tables = λ other apart. refl; bytes = λ other apart. refl };
  counts = λ f. refl;
  lent = λ f used. refl;
  limit = refl;
}

-- ---- a page of the child moves

module _ (counts : List ℕ) (now next : SpaceState) (child segment page : ℕ) (beside : IsBeside now child) (shares : (s : ℕ) → SharesGrown counts now child s) (address : HasPage now segment page) (moves : MovesChildPage now next child segment page) (owner : SameForOwner now next) (others : SameForOthers now next child) where
  abbrev from : ℕ
  from = child_frame_no now child segment page

  abbrev to : ℕ
  to = child_frame_no next child segment page

  opened : child_table next child ≡ Some (with_frame (rows_of now child) segment page to)
  opened = moves.table ∙ ap (option_map (λ table. with_frame table segment page to)) beside.is_open

  rows_next : rows_of next child ≡ with_frame (rows_of now child) segment page to
  rows_next = ap (λ o. unwrap_or o []) opened

  pub in_rows : (segment < length (rows_of now child)) × (page < length (get_or (rows_of now child) segment []))
  in_rows = (omega (arith, address.0, beside.segments), omega (arith, address.1, (shares segment).pages))

  swapped : (f : ℕ) → times f (rows_of next child) + same from f ≡ times f (rows_of now child) + same to f
  swapped f = omega (arith, ap (times f) rows_next, times-with_frame f (rows_of now child) segment page to in_rows.0 in_rows.1)

  counted : (f : ℕ) → count_of next.frames f + same from f ≡ count_of now.frames f + same to f
  counted f = counts_moved now.frames next.frames from to moves.users f

  pub split_changes : ChangesChild now next child
  split_changes = record {
    owner = owner;
    others = others;
    counts = λ f. omega (arith, swapped f, counted f);
    lent = λ f used. moves.users.lent f (omega arith);
    limit = moves.users.limit;
  }

  pub split_beside : IsBeside next child
  split_beside = record {
    is_open = opened ∙ ap Some (sym rows_next);
    users = λ f. omega (arith, beside.users f, swapped f, counted f, ap (times f) owner.table);
    owner_once = λ f. omega (arith, beside.owner_once f, ap (times f) owner.table);
    once = λ f. elim (cases_eq f to) [
      | inl here ↦ omega (arith, swapped f, beside.users f, ap (count_of now.frames) here, moves.users.unused, same_yes to f (sym here))
      | inr apart ↦ omega (arith, swapped f, beside.once f, same_no to f (λ e. apart (sym e)))
    ];
    segments = ap length rows_next ∙ length-set (rows_of now child) segment (set (get_or (rows_of now child) segment []) page to) ∙ beside.segments ∙ sym (ap length owner.table);
  }

  pub split_shares : page < get_or counts segment 0 → (s : ℕ) → SharesGrown counts next child s
  split_shares below s = record {
    pages =
        ap (λ rows. length (get_or rows s [])) rows_next
        ∙ length-row-with_frame (rows_of now child) segment page to in_rows.0 s
        ∙ (shares s).pages ∙ sym (ap (λ rows. length (get_or rows s [])) owner.table);
    grown =
        ap (λ rows. drop (get_or counts s 0) (get_or rows s [])) rows_next
        ∙ drop-row-with_frame (rows_of now child) segment page to in_rows.0 counts s below
        ∙ (shares s).grown ∙ sym (ap (λ rows. drop (get_or counts s 0) (get_or rows s [])) owner.table);
  }

  -- the frames of the owner's pages have users already
  held : (s p : ℕ) → HasPage now s p → 0 < count_of now.frames (frame_no now s p)
  held s p there = omega (arith, beside.users (frame_no now s p), stands now.owner s p there.0 there.1)

  frame_stays : (s p : ℕ) → frame_no next s p ≡ frame_no now s p
  frame_stays s p = ap (λ table. get_or (get_or table s []) p 0) owner.table

  -- the page that moved is split
  pub split_here : child_frame_no now child segment page ≡ frame_no now segment page → IsSplit next child (record { segment = segment; page = page })
  split_here shared =
      let f = frame_no now segment page in
      let fresh : to ≢ f = λ e. absurd (omega (arith, ap (count_of now.frames) e, moves.users.unused, held segment page address)) in
      record {
        apart = omega (arith, ap (λ x. times x (rows_of next child)) (frame_stays segment page), swapped f, beside.once f, same_yes from f shared, same_no to f fresh);
        private = record { own = moves.users.here; not_lent = moves.users.not_lent };
      }

  -- another address keeps its frame
  pub frame_kept : (s p : ℕ) → ((s ≡ segment) × (p ≡ page) → ⊥) → child_frame_no next child s p ≡ child_frame_no now child s p
  frame_kept s p apart = ap (λ rows. get_or (get_or rows s []) p 0) rows_next ∙ frame-with_frame_other (rows_of now child) segment page to in_rows.0 s p apart

  pub shared_kept : (s p : ℕ) → ((s ≡ segment) × (p ≡ page) → ⊥) → child_frame_no now child s p ≡ frame_no now s p → child_frame_no next child s p ≡ frame_no next s p
  shared_kept s p apart shared = frame_kept s p apart ∙ shared ∙ sym (frame_stays s p)

  -- and stays split
  pub split_kept : (q : PageAddress) → ((q.segment ≡ segment) × (q.page ≡ page) → ⊥) → HasPage now q.segment q.page → child_frame_no now child segment page ≡ frame_no now segment page → IsSplit now child q → IsSplit next child q
  split_kept q apart there shared split =
      let f = frame_no now q.segment q.page in
      let g = child_frame_no now child q.segment q.page in
      let fresh : to ≢ f = λ e. absurd (omega (arith, ap (count_of now.frames) e, moves.users.unused, held q.segment q.page there)) in
      let g_to : to ≢ g = λ e. absurd (omega (arith, ap (count_of now.frames) e, moves.users.unused, split.private.own)) in
      let two : 1 < count_of now.frames from = omega (
        arith,
        ap (λ x. times x (rows_of now child)) shared,
        ap (count_of now.frames) shared,
        beside.users (frame_no now segment page),
        stands now.owner segment page address.0 address.1,
        stands (rows_of now child) segment page in_rows.0 in_rows.1,
      ) in
      let g_from : from ≢ g = λ e. absurd (omega (arith, ap (count_of now.frames) e, split.private.own)) in
      let read = frame_kept q.segment q.page apart in
      record {
        apart = omega (arith, ap (λ x. times x (rows_of next child)) (frame_stays q.segment q.page), swapped f, split.apart, same_no to f fresh);
        private = record {
          own = omega (arith, ap (count_of next.frames) read, counted g, split.private.own, same_no from g g_from, same_no to g g_to);
          not_lent = ap (lent_at next.frames) read ∙ moves.users.lent g (omega (arith, split.private.own)) ∙ split.private.not_lent;
        };
      }

-- ---- the page that may move

module _ (counts : List ℕ) (now : SpaceState) (child segment page : ℕ) (beside : IsBeside now child) (shares : (s : ℕ) → SharesGrown counts now child s) (address : HasPage now segment page) where
  pub has_child_page : HasChildPage now child segment page
  has_child_page =
      let P = λ (table : List (List ℕ)). (segment < length table) × (page < length (get_or table segment [])) in
      let inside : P (rows_of now child) = (omega (arith, address.0, beside.segments), omega (arith, address.1, (shares segment).pages)) in
      subst (λ o. IsSomeAnd o P) (sym beside.is_open) inside

  pub has_two_users : child_frame_no now child segment page ≡ frame_no now segment page → 1 < count_of now.frames (child_frame_no now child segment page)
  has_two_users shared = omega (
    arith,
    ap (λ x. times x (rows_of now child)) shared,
    ap (count_of now.frames) shared,
    beside.users (frame_no now segment page),
    stands now.owner segment page address.0 address.1,
    stands (rows_of now child) segment page (omega (arith, address.0, beside.segments)) (omega (arith, address.1, (shares segment).pages)),
  )

-- ---- all touched pages, one behind another

-- the pages of the images before one are split, where no later image is of them
pub record IsSplitUpTo (log : UndoLog) (begin now : SpaceState) (child i : ℕ) : Type 0 where
  pub changes : ChangesChild begin now child
  pub beside : IsBeside now child
  pub bytes : child_bytes now child ≡ child_bytes begin child
  pub shares : (s : ℕ) → SharesGrown log.counts now child s
  pub waits : (q : PageAddress) → list_any (is_same_address q) (drop i (addresses log.images)) ≡ true → child_frame_no now child q.segment q.page ≡ frame_no now q.segment q.page
  pub split : (q : PageAddress) → HasPage now q.segment q.page → was_there log.counts q ≡ true → list_any (is_same_address q) (addresses log.images) ≡ true → list_any (is_same_address q) (drop i (addresses log.images)) ≡ false → IsSplit now child q
  pub free : free_of now.frames + touched log ≡ free_of begin.frames + length (filter (was_there log.counts) (different (drop i (addresses log.images))))

-- an image is the last one of a page that was there
abbrev pub is_last : UndoLog → ℕ → Bool
is_last log i = was_there log.counts (address_at log.images i) && not (list_any (is_same_address (address_at log.images i)) (drop (i + 1) (addresses log.images)))

pub split_begin : (log : UndoLog) (s : SpaceState) (child : ℕ) → IsBeside s child → rows_of s child ≡ s.owner → IsSplitUpTo log s s child 0
split_begin log s child beside same_rows = record {
  changes = ChangesChild-same s child;
  beside = beside;
  bytes = refl;
  shares = λ segment. record {
    pages = ap (λ rows. length (get_or rows segment [])) same_rows;
    grown = ap (λ rows. drop (get_or log.counts segment 0) (get_or rows segment [])) same_rows;
  };
  waits = λ q _. ap (λ rows. get_or (get_or rows q.segment []) q.page 0) same_rows;
  split = λ q there was among later. never_both (list_any (is_same_address q) (addresses log.images)) among later;
  free = refl;
}

module _ (log : UndoLog) (begin now : SpaceState) (child i : ℕ) (within : i < length log.images) (before : IsSplitUpTo log begin now child i) where
  abbrev here : PageAddress
  here = address_at log.images i

  abbrev later : List PageAddress
  later = drop (i + 1) (addresses log.images)

  in_places : i < length (addresses log.images)
  in_places = omega (arith, within, length-map log.images address_of)

  among_more : (q : PageAddress) → list_any (is_same_address q) (drop i (addresses log.images)) ≡ (is_same_address q here || list_any (is_same_address q) later)
  among_more q = at_drop_more (list_any (is_same_address q)) (addresses log.images) i (record { segment = 0; page = 0 }) in_places

  kept_more : length (filter (was_there log.counts) (different (drop i (addresses log.images)))) ≡ cond (is_last log i) 1 0 + length (filter (was_there log.counts) (different later))
  kept_more =
      at_drop_more (λ rest. length (filter (was_there log.counts) (different rest))) (addresses log.images) i (record { segment = 0; page = 0 }) in_places
      ∙ length-kept-cons (was_there log.counts) here later

  -- an image that is passed over
  pub split_skip : is_last log i ≡ false → IsSplitUpTo log begin now child (i + 1)
  split_skip not_last = record {
    changes = before.changes;
    beside = before.beside;
    bytes = before.bytes;
    shares = before.shares;
    waits = λ q among. before.waits q (among_more q ∙ or_right (is_same_address q here) (list_any (is_same_address q) later) among);
    split = λ q there was among behind. elim (cases_Bool (is_same_address q here)) [
      | inl same_as ↦
          let at : q ≡ here = same_address q here same_as in
          let last : is_last log i ≡ true = subst (λ (p : PageAddress). (was_there log.counts p && not (list_any (is_same_address p) later)) ≡ true) at (and_from (was_there log.counts q) (not (list_any (is_same_address q) later)) was (ap not behind)) in
          never_both (is_last log i) last not_last
      | inr apart ↦ before.split q there was among (among_more q ∙ ap₂ ◌||◌ apart behind)
    ];
    free = omega (arith, before.free, kept_more, ap {B = ℕ} (λ b. cond b 1 0) not_last);
  }
    where
      or_right : (a b : Bool) → b ≡ true → (a || b) ≡ true
      or_right true b passes = refl
      or_right false b passes = passes

  pub shared_here : child_frame_no now child here.segment here.page ≡ frame_no now here.segment here.page
  shared_here = before.waits here (among_more here ∙ ap (λ b. b || list_any (is_same_address here) later) (is_same_address-refl here))

  -- no frame is free at a page that needs one
  pub split_refused : is_last log i ≡ true → free_of now.frames ≡ 0 → free_of begin.frames < touched log
  split_refused last none =
      let more : length (filter (was_there log.counts) (different (drop i (addresses log.images)))) ≡ 1 + length (filter (was_there log.counts) (different later)) = kept_more ∙ ap (λ b. cond b 1 0 + length (filter (was_there log.counts) (different later))) last in
      omega (arith, before.free)

  -- a page that moves
  pub split_more : (next : SpaceState) → is_last log i ≡ true → HasPage now here.segment here.page → MovesChildPage now next child here.segment here.page → SameForOwner now next → SameForOthers now next child → child_bytes next child ≡ child_bytes now child → IsSplitUpTo log begin next child (i + 1)
  split_more next last there moves owner others bytes =
      let parts = and_parts (was_there log.counts here) (not (list_any (is_same_address here) later)) last in
      let not_later : list_any (is_same_address here) later ≡ false = not_true (list_any (is_same_address here) later) parts.1 in
      let below : here.page < get_or log.counts here.segment 0 = ltb-true here.page (get_or log.counts here.segment 0) parts.0 in
      let counts = log.counts in
      let beside = before.beside in
      let differs : (q : PageAddress) → is_same_address q here ≡ false → (q.segment ≡ here.segment) × (q.page ≡ here.page) → ⊥ = λ q apart e. never_both (is_same_address q here) (and_from (eqb q.segment here.segment) (eqb q.page here.page) (eq-eqb q.segment here.segment e.0) (eq-eqb q.page here.page e.1)) apart in
      record {
        changes = ChangesChild-then begin now next child before.changes (split_changes counts now next child here.segment here.page beside before.shares there moves owner others);
        beside = split_beside counts now next child here.segment here.page beside before.shares there moves owner others;
        bytes = bytes ∙ before.bytes;
        shares = split_shares counts now next child here.segment here.page beside before.shares there moves owner others below;
        waits = λ q among. elim (cases_Bool (is_same_address q here)) [
          | inl same_as ↦ never_both (list_any (is_same_address here) later) (subst (λ (p : PageAddress). list_any (is_same_address p) later ≡ true) (same_address q here same_as) among) not_later
          | inr apart ↦ shared_kept counts now next child here.segment here.page beside before.shares there moves owner others q.segment q.page (differs q apart) (before.waits q (among_more q ∙ ap₂ ◌||◌ apart among))
        ];
        split = λ q address was among behind.
            let place_now : HasPage now q.segment q.page = (omega (arith, address.0, ap length owner.table), omega (arith, address.1, ap (λ table. length (get_or table q.segment [])) owner.table)) in
            elim (cases_Bool (is_same_address q here)) [
              | inl same_as ↦ subst (λ (p : PageAddress). IsSplit next child p) (sym (same_address q here same_as)) (split_here counts now next child here.segment here.page beside before.shares there moves owner others shared_here)
              | inr apart ↦ split_kept counts now next child here.segment here.page beside before.shares there moves owner others q (differs q apart) place_now shared_here (before.split q place_now was among (among_more q ∙ ap₂ ◌||◌ apart behind))
            ];
        free = omega (
          arith,
          before.free,
          moves.users.free,
          kept_more,
          ap {B = ℕ} (λ b. cond b 1 0) last,
        );
      }
    where
      not_true : (b : Bool) → not b ≡ true → b ≡ false
      not_true true fails = absurd (cc)
      not_true false passes = refl

-- the page of each image is there
pub page_there : (s : SpaceState) (images : List Image) (i : ℕ) → AllByRecursion (IsOfPage s) images → i < length images → HasPage s (address_at images i).segment (address_at images i).page
page_there s [] i each within = absurd (omega arith)
page_there s (image ∷ images) zero each within = each.0
page_there s (image ∷ images) (suc i) each within = page_there s images i each.1 (omega arith)

pub HasPage-same : (old new : SpaceState) (s p : ℕ) → new.owner ≡ old.owner → HasPage old s p → HasPage new s p
HasPage-same old new s p same_table there = (omega (arith, there.0, ap length same_table), omega (arith, there.1, ap (λ table. length (get_or table s [])) same_table))

-- at the end all are split
pub split_end : (log : UndoLog) (begin now : SpaceState) (child i : ℕ) → length log.images ≤ i → IsSplitUpTo log begin now child i → (AllSplit log now child) × (free_of now.frames + touched log ≡ free_of begin.frames)
split_end log begin now child i past done =
    let none : drop i (addresses log.images) ≡ [] = drop_past (addresses log.images) i (omega (arith, length-map log.images address_of)) in (
      λ q there was among. done.split q there was among (ap (list_any (is_same_address q)) none),
      done.free ∙ ap (λ rest. free_of begin.frames + length (filter (was_there log.counts) (different rest))) none ∙ omega arith,
    )
  where
    drop_past : (xs : List PageAddress) (n : ℕ) → length xs ≤ n → drop n xs ≡ []
    drop_past xs zero past = nil_from_length xs (omega arith)
    drop_past [] (suc n) past = refl
    drop_past (x ∷ xs) (suc n) past = drop_past xs n (omega arith)
