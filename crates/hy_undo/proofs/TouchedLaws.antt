-- Laws of touched pages.
use Rattle.std.proofs.Common.{◌≡◌, ℕ, suc, ◌+◌, ◌≤◌, Bool, true, false, ◌&&◌, ◌||◌, not, cond, eqb, inl, inr, List, [], ◌∷◌, ◌++◌, length, map, refl, sym, ap, ap₂, ◌∙◌, subst, arith, count_by}
use Rattle.std.specs.List.{filter, list_any}
use Rattle.std.proofs.lemmas.List.{map-append, length-map}
use Rattle.std.proofs.lemmas.List.Folds.{list_any-append}
use Rattle.std.proofs.lemmas.List.Sums.{length-filter, count_by-le-length, sum_by-cons}
use Rattle.std.proofs.lemmas.Bool.{cases_Bool, and_parts, eqb-true, eq-eqb, and_from}
use Rattle.hy_undo.specs.UndoLog.{Image, UndoLog, with_image}
use Rattle.hy_undo.specs.Touched.{PageAddress, is_same_address, address_of, different, was_there, touched_pages, touched}

-- ---- addresses

pub same_address : (one other : PageAddress) → is_same_address one other ≡ true → one ≡ other
same_address one other same =
    let parts = and_parts (eqb one.segment other.segment) (eqb one.page other.page) same in
    let make = λ (s p : ℕ). let address : PageAddress = record { segment = s; page = p } in address in
    ap₂ make (eqb-true one.segment other.segment parts.0) (eqb-true one.page other.page parts.1)

pub is_same_address-refl : (address : PageAddress) → is_same_address address address ≡ true
is_same_address-refl address = and_from (eqb address.segment address.segment) (eqb address.page address.page) (eq-eqb address.segment address.segment refl) (eq-eqb address.page address.page refl)

-- a test does not pass and fail
pub never_both : {X : Type 0} (b : Bool) → b ≡ true → b ≡ false → X
never_both b passes fails = absurd (cc)

is_same_address-sym_true : (one other : PageAddress) → is_same_address one other ≡ true → is_same_address other one ≡ true
is_same_address-sym_true one other same = subst (λ (address : PageAddress). is_same_address address one ≡ true) (same_address one other same) (is_same_address-refl one)

is_same_address-sym_false : (one other : PageAddress) → is_same_address one other ≡ false → is_same_address other one ≡ false
is_same_address-sym_false one other differ = elim (cases_Bool (is_same_address other one)) [
  | inl same ↦ never_both (is_same_address one other) (is_same_address-sym_true other one same) differ
  | inr apart ↦ apart
]

-- ---- different addresses

-- an address is among the different addresses where it is among the addresses
any_of_choice : (b : Bool) (q address : PageAddress) (later : List PageAddress) → list_any (is_same_address q) (cond b later (address ∷ later)) ≡ (cond b false (is_same_address q address) || list_any (is_same_address q) later)
any_of_choice true q address later = refl
any_of_choice false q address later = refl

pub list_any-different : (q : PageAddress) (addresses : List PageAddress) → list_any (is_same_address q) (different addresses) ≡ list_any (is_same_address q) addresses
list_any-different q [] = refl
list_any-different q (address ∷ later) =
    any_of_choice (list_any (is_same_address address) later) q address (different later)
    ∙ ap (λ rest. cond (list_any (is_same_address address) later) false (is_same_address q address) || rest) (list_any-different q later)
    ∙ elim (cases_Bool (is_same_address q address)) [
      | inl same ↦
          let here : q ≡ address = same_address q address same in
          ap (λ (at : PageAddress). cond (list_any (is_same_address at) later) false (is_same_address q address) || list_any (is_same_address q) later) (sym here)
          ∙ once_more (list_any (is_same_address q) later) (is_same_address q address) same
      | inr apart ↦ not_here (list_any (is_same_address address) later) (is_same_address q address) (list_any (is_same_address q) later) apart
    ]
  where
    once_more : (among here : Bool) → here ≡ true → (cond among false here || among) ≡ (here || among)
    once_more true true passes = refl
    once_more false true passes = refl
    once_more among false passes = never_both false passes refl

    not_here : (b here among : Bool) → here ≡ false → (cond b false here || among) ≡ (here || among)
    not_here true here among fails = sym (ap (λ x. x || among) fails)
    not_here false here among fails = refl

-- an address is at most once among the different addresses
count_of_choice : (b : Bool) (q address : PageAddress) (later : List PageAddress) → count_by (is_same_address q) (cond b later (address ∷ later)) ≡ cond b 0 (cond (is_same_address q address) 1 0) + count_by (is_same_address q) later
count_of_choice true q address later = omega arith
count_of_choice false q address later = sum_by-cons (λ x. cond (is_same_address q x) 1 0) address later

pub count_by-different : (q : PageAddress) (addresses : List PageAddress) → count_by (is_same_address q) (different addresses) ≡ cond (list_any (is_same_address q) addresses) 1 0
count_by-different q [] = refl
count_by-different q (address ∷ later) =
    count_of_choice (list_any (is_same_address address) later) q address (different later)
    ∙ ap (λ rest. cond (list_any (is_same_address address) later) 0 (cond (is_same_address q address) 1 0) + rest) (count_by-different q later)
    ∙ elim (cases_Bool (is_same_address q address)) [
      | inl same ↦
          let here : q ≡ address = same_address q address same in
          ap (λ (at : PageAddress). cond (list_any (is_same_address at) later) 0 (cond (is_same_address q address) 1 0) + cond (list_any (is_same_address q) later) 1 0) (sym here)
          ∙ once_more (list_any (is_same_address q) later) (is_same_address q address) same
      | inr apart ↦ not_here (list_any (is_same_address address) later) (is_same_address q address) (list_any (is_same_address q) later) apart
    ]
  where
    once_more : (among here : Bool) → here ≡ true → cond among 0 (cond here 1 0) + cond among 1 0 ≡ cond (here || among) 1 0
    once_more true true passes = omega arith
    once_more false true passes = omega arith
    once_more among false passes = never_both false passes refl

    not_here : (b here among : Bool) → here ≡ false → cond b 0 (cond here 1 0) + cond among 1 0 ≡ cond (here || among) 1 0
    not_here true true among fails = never_both true refl fails
    not_here false true among fails = never_both true refl fails
    not_here true false true fails = omega arith
    not_here true false false fails = omega arith
    not_here false false true fails = omega arith
    not_here false false false fails = omega arith

-- ---- a filter of addresses

module _ (test : PageAddress → Bool) where
  list_any-filter_choice : (b : Bool) (q address : PageAddress) (kept : List PageAddress) → list_any (is_same_address q) (cond b (address ∷ kept) kept) ≡ ((b && is_same_address q address) || list_any (is_same_address q) kept)
  list_any-filter_choice true q address kept = refl
  list_any-filter_choice false q address kept = refl

  -- an address is kept where it was there and passes
  pub list_any-filter : (q : PageAddress) (addresses : List PageAddress) → list_any (is_same_address q) (filter test addresses) ≡ (test q && list_any (is_same_address q) addresses)
  list_any-filter q [] = none (test q)
    where
      none : (b : Bool) → false ≡ (b && false)
      none true = refl
      none false = refl
  list_any-filter q (address ∷ addresses) =
      list_any-filter_choice (test address) q address (filter test addresses)
      ∙ ap (λ rest. (test address && is_same_address q address) || rest) (list_any-filter q addresses)
      ∙ elim (cases_Bool (is_same_address q address)) [
        | inl same ↦
            ap (λ (at : PageAddress). (test at && is_same_address q address) || (test q && list_any (is_same_address q) addresses)) (sym (same_address q address same))
            ∙ together (test q) (is_same_address q address) (list_any (is_same_address q) addresses)
        | inr apart ↦ elsewhere (test address) (test q) (is_same_address q address) (list_any (is_same_address q) addresses) apart
      ]
    where
      together : (t here among : Bool) → ((t && here) || (t && among)) ≡ (t && (here || among))
      together true here among = refl
      together false here among = refl

      elsewhere : (s t here among : Bool) → here ≡ false → ((s && here) || (t && among)) ≡ (t && (here || among))
      elsewhere s t true among fails = never_both true refl fails
      elsewhere true t false among fails = refl
      elsewhere false t false among fails = refl

  count_by-filter_choice : (b : Bool) (q address : PageAddress) (kept : List PageAddress) → count_by (is_same_address q) (cond b (address ∷ kept) kept) ≤ cond (is_same_address q address) 1 0 + count_by (is_same_address q) kept
  count_by-filter_choice true q address kept = omega (arith, sum_by-cons (λ x. cond (is_same_address q x) 1 0) address kept)
  count_by-filter_choice false q address kept = omega arith

  -- a filter keeps an address no more often
  pub count_by-filter-le : (q : PageAddress) (addresses : List PageAddress) → count_by (is_same_address q) (filter test addresses) ≤ count_by (is_same_address q) addresses
  count_by-filter-le q [] = omega arith
  count_by-filter-le q (address ∷ addresses) = omega (
    arith,
    count_by-filter_choice (test address) q address (filter test addresses),
    sum_by-cons (λ x. cond (is_same_address q x) 1 0) address addresses,
    count_by-filter-le q addresses,
  )

  -- how many different addresses pass, with one address more in front
  kept_choice : (b t : Bool) (address : PageAddress) (later : List PageAddress) → test address ≡ t → length (filter test (cond b later (address ∷ later))) ≡ cond (t && not b) 1 0 + length (filter test later)
  kept_choice true true address later passes = omega arith
  kept_choice true false address later passes = omega arith
  kept_choice false true address later passes = ap (λ (b : Bool). length (cond b (address ∷ filter test later) (filter test later))) passes ∙ omega arith
  kept_choice false false address later passes = ap (λ (b : Bool). length (cond b (address ∷ filter test later) (filter test later))) passes ∙ omega arith

  pub length-kept-cons : (address : PageAddress) (later : List PageAddress) → length (filter test (different (address ∷ later))) ≡ cond (test address && not (list_any (is_same_address address) later)) 1 0 + length (filter test (different later))
  length-kept-cons address later = kept_choice (list_any (is_same_address address) later) (test address) address (different later) refl

  -- and with one address more behind
  pub length-kept-push : (addresses : List PageAddress) (last : PageAddress) → length (filter test (different (addresses ++ last ∷ []))) ≡ length (filter test (different addresses)) + cond (test last && not (list_any (is_same_address last) addresses)) 1 0
  length-kept-push [] last = length-kept-cons last [] ∙ omega arith
  length-kept-push (address ∷ addresses) last =
      let before = length (filter test (different addresses)) in
      length-kept-cons address (addresses ++ last ∷ [])
      ∙ ap (λ b. cond (test address && not b) 1 0 + length (filter test (different (addresses ++ last ∷ [])))) (list_any-append (is_same_address address) addresses (last ∷ []))
      ∙ ap (λ n. cond (test address && not (list_any (is_same_address address) addresses || (is_same_address address last || false))) 1 0 + n) (length-kept-push addresses last)
      ∙ elim (cases_Bool (is_same_address address last)) [
        | inl same ↦
            subst (λ (at : PageAddress). cond (test address && not (list_any (is_same_address address) addresses || (is_same_address address at || false))) 1 0 + (before + cond (test at && not (list_any (is_same_address at) addresses)) 1 0) ≡ cond (test address && not (list_any (is_same_address address) addresses)) 1 0 + before + cond (test at && not (is_same_address at address || list_any (is_same_address at) addresses)) 1 0) (same_address address last same)
            (again (test address) (is_same_address address address) (list_any (is_same_address address) addresses) before (is_same_address-refl address))
        | inr apart ↦ further (test address) (test last) (is_same_address address last) (is_same_address last address) (list_any (is_same_address address) addresses) (list_any (is_same_address last) addresses) before apart (is_same_address-sym_false address last apart)
      ]
      ∙ ap (λ n. n + cond (test last && not (is_same_address last address || list_any (is_same_address last) addresses)) 1 0) (sym (length-kept-cons address addresses))
    where
      again : (t here among : Bool) (n : ℕ) → here ≡ true → cond (t && not (among || (here || false))) 1 0 + (n + cond (t && not among) 1 0) ≡ cond (t && not among) 1 0 + n + cond (t && not (here || among)) 1 0
      again t false among n passes = never_both false passes refl
      again true true true n passes = omega arith
      again true true false n passes = omega arith
      again false true among n passes = omega arith

      further : (s t here there among among' : Bool) (n : ℕ) → here ≡ false → there ≡ false → cond (s && not (among || (here || false))) 1 0 + (n + cond (t && not among') 1 0) ≡ cond (s && not among) 1 0 + n + cond (t && not (there || among')) 1 0
      further s t true there among among' n fails fails' = never_both true refl fails
      further s t false true among among' n fails fails' = never_both true refl fails'
      further s t false false true among' n fails fails' = omega arith
      further s t false false false among' n fails fails' = omega arith

-- ---- touched pages

-- a page is touched where it was there at the begin and has an image
pub list_any-touched : (log : UndoLog) (q : PageAddress) → list_any (is_same_address q) (touched_pages log) ≡ (was_there log.counts q && list_any (is_same_address q) (map address_of log.images))
list_any-touched log q =
    list_any-filter (was_there log.counts) q (different (map address_of log.images))
    ∙ ap (λ among. was_there log.counts q && among) (list_any-different q (map address_of log.images))

-- no page is touched twice
pub touched_once : (log : UndoLog) (q : PageAddress) → count_by (is_same_address q) (touched_pages log) ≤ 1
touched_once log q = omega (
  arith,
  count_by-filter-le (was_there log.counts) q (different (map address_of log.images)),
  count_by-different q (map address_of log.images),
  one_at_most (list_any (is_same_address q) (map address_of log.images)),
)
  where
    one_at_most : (b : Bool) → cond b 1 0 ≤ 1
    one_at_most true = omega arith
    one_at_most false = omega arith

-- an image more touches one page more where its page was there at the begin and had no image
pub touched-with_image : (log : UndoLog) (image : Image) → touched (with_image log image) ≡ touched log + cond (was_there log.counts (address_of image) && not (list_any (is_same_address (address_of image)) (map address_of log.images))) 1 0
touched-with_image log image =
    ap (λ addresses. length (filter (was_there log.counts) (different addresses))) (map-append address_of log.images (image ∷ []))
    ∙ length-kept-push (was_there log.counts) (map address_of log.images) (address_of image)

-- there are no more different addresses than addresses
length-different : (addresses : List PageAddress) → length (different addresses) ≤ length addresses
length-different [] = omega arith
length-different (address ∷ later) = omega (arith, choice (list_any (is_same_address address) later), length-different later)
  where
    choice : (b : Bool) → length (cond b (different later) (address ∷ different later)) ≤ suc (length (different later))
    choice true = omega arith
    choice false = omega arith

-- no more pages are touched than there are images
pub touched-le : (log : UndoLog) → touched log ≤ length log.images
touched-le log = omega (
  arith,
  length-filter (was_there log.counts) (different (map address_of log.images)),
  count_by-le-length (was_there log.counts) (different (map address_of log.images)),
  length-different (map address_of log.images),
  length-map log.images address_of,
)

-- an empty log touches nothing
pub touched-empty : (counts : List ℕ) → touched (record { counts = counts; images = [] }) ≡ 0
touched-empty counts = refl
