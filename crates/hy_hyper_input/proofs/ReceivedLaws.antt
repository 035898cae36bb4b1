-- What is told of an input is what its lines say.
use Rattle.std.proofs.Common.{◌≡◌, ℕ, ◌<◌, ◌≤◌, ◌==◌, ◌||◌, ◌&&◌, Bool, true, false, cond, not, List, [], ◌∷◌, ◌++◌, length, refl, sym, ap, ap₂, ◌∙◌, subst, arith, append_assoc, append-nil, length-append}
use Rattle.std.specs.Prelude.{nat_le}
use Rattle.std.proofs.lemmas.Bool.{le-leb}
use Rattle.std.proofs.lemmas.Bool.Decides.{nat_tests}
use Rattle.std.proofs.lemmas.List.Folds.{list_all-append, list_any-append}
use Rattle.hy_hyper_input.specs.declared.input.Next.{Next}
use Rattle.hy_hyper_input.specs.Inputs.{EndsLine, Fills, InputState, Takes, is_ended, line_feed, max_line, number_behind, room_bytes, with_room}
use Rattle.hy_hyper_input.specs.Inputs.Takes.{a_line, nothing, too_long}
use Rattle.hy_hyper_input.specs.Received.{HasTaken, IsDropped, Said, number_after, said, said_by, tells, whole}

-- ---- a line more

whole-more : (lines : List (List ℕ)) (line : List ℕ) → whole (lines ++ line ∷ []) ≡ whole lines ++ (line ++ line_feed ∷ [])
whole-more [] line = append-nil (line ++ line_feed ∷ [])
whole-more (first ∷ lines) line =
    ap (λ rest. (first ++ line_feed ∷ []) ++ rest) (whole-more lines line)
    ∙ sym (append_assoc (first ++ line_feed ∷ []) (whole lines) (line ++ line_feed ∷ []))

number-more : (number : ℕ) (lines : List (List ℕ)) (line : List ℕ)
    → number_after number (lines ++ line ∷ []) ≡ number_behind (number_after number lines)
number-more number [] line = refl
number-more number (first ∷ lines) line = number-more (number_behind number) lines line

said-more : (number : ℕ) (lines : List (List ℕ)) (line : List ℕ)
    → said_by number (lines ++ line ∷ []) ≡ said_by number lines ++ said (number_behind (number_after number lines)) line ∷ []
said-more number [] line = refl
said-more number (first ∷ lines) line =
    ap (λ rest. said (number_behind number) first ∷ rest) (said-more (number_behind number) lines line)

not-false : (b : Bool) → b ≡ false → not b ≡ true
not-false true is = absurd (cc)
not-false false is = refl

module _ (received : List ℕ) (lines : List (List ℕ)) (old new : InputState) (has : HasTaken received lines old)
    (line end : List ℕ) (parts : has.dropped ++ end ≡ line) (ends : EndsLine old.left end new.left)
    (one : is_ended line ≡ false) (short : new.is_long ≡ false) (counted : new.number ≡ number_behind old.number) where
  taken : HasTaken received (lines ++ line ∷ []) new
  taken = record {
    each = list_all-append (λ line. not (is_ended line)) lines (line ∷ [])
        ∙ ap₂ (λ a b. a && b) has.each (ap (λ b. b && true) (not-false (is_ended line) one));
    dropped = [];
    are = has.are
        ∙ ap (λ left. whole lines ++ (has.dropped ++ left)) ends.whole
        ∙ ap (λ rest. whole lines ++ rest)
        (sym (append_assoc has.dropped end (line_feed ∷ new.left))
        ∙ ap (λ front. front ++ line_feed ∷ new.left) parts
        ∙ sym (append_assoc line (line_feed ∷ []) new.left))
        ∙ sym (append_assoc (whole lines) (line ++ line_feed ∷ []) new.left)
        ∙ ap (λ front. front ++ new.left) (sym (whole-more lines line));
    is_long = subst (λ is. IsDropped is []) (sym short) refl;
    number = counted ∙ ap number_behind has.number ∙ sym (number-more 0 lines line);
  }

  says : said new.number line ≡ said (number_behind (number_after 0 lines)) line
  says = ap (λ n. said n line) (counted ∙ ap number_behind has.number)

-- ---- whether a line is too long

said-short : (number : ℕ) (line : List ℕ) → length line ≤ max_line → said number line ≡ Said.a_line number line
said-short number line fits = rw (le-leb (length line) max_line fits) refl

said-long : (number : ℕ) (line : List ℕ) → max_line < length line → said number line ≡ Said.too_long number
said-long number line long = by (nat_le (length line) max_line) refl
  where
    by : (fits : Bool) → nat_le (length line) max_line ≡ fits
        → cond fits (Said.a_line number line) (Said.too_long number) ≡ Said.too_long number
    by false is = refl
    by true is = absurd (grind (arith, nat_tests, is, long))

unended : (one other : List ℕ) → is_ended one ≡ false → is_ended other ≡ false → is_ended (one ++ other) ≡ false
unended one other first second =
    list_any-append (λ byte. byte == line_feed) one other ∙ ap₂ (λ a b. a || b) first second

-- ---- what is taken

-- nothing: what is left of a line that is too long was dropped
keeps-nothing : (received : List ℕ) (lines : List (List ℕ)) (old new : InputState) (is_long : Bool) → old.is_long ≡ is_long
    → is_ended old.left ≡ false → new ≡ record old { left = cond is_long [] old.left } → HasTaken received lines old
    → HasTaken received lines new
keeps-nothing received lines old new false short none same has =
    subst (HasTaken received lines) (sym same) (record {
      each = has.each;
      dropped = has.dropped;
      are = has.are;
      is_long = has.is_long;
      number = has.number;
    })
keeps-nothing received lines old new true long none same has =
    let was = subst (λ is. IsDropped is has.dropped) long has.is_long in
    subst (HasTaken received lines) (sym same) (record {
      each = has.each;
      dropped = has.dropped ++ old.left;
      are = has.are ∙ ap (λ rest. whole lines ++ rest) (sym (append-nil (has.dropped ++ old.left)));
      is_long = subst (λ is. IsDropped is (has.dropped ++ old.left)) (sym long) (
        omega (arith, was.0, length-append has.dropped old.left),
        unended has.dropped old.left was.1 none,
      );
      number = has.number;
    })

abbrev More : List ℕ → List (List ℕ) → InputState → Next → Type 0
More received lines new next = (more : List (List ℕ)) × HasTaken received (lines ++ more) new
    × (said_by 0 (lines ++ more) ≡ said_by 0 lines ++ tells new next)

pub says-taken : (received : List ℕ) (lines : List (List ℕ)) (old new : InputState) (next : Next)
    → HasTaken received lines old → Takes old new next → More received lines new next
says-taken received lines old new next has (a_line is short ends fits later number coming) =
    let none : has.dropped ≡ [] = subst (λ is. IsDropped is has.dropped) short has.is_long in
    subst (More received lines new) (sym is) (
      new.line ∷ [],
      taken received lines old new has new.line new.line (ap (λ front. front ++ new.line) none) ends ends.one later number,
      said-more 0 lines new.line
          ∙ ap (λ last. said_by 0 lines ++ last ∷ [])
          (sym (says received lines old new has new.line new.line (ap (λ front. front ++ new.line) none) ends ends.one
          later number) ∙ said-short new.number new.line fits),
    )
says-taken received lines old new next has (too_long is long end ends later number coming) =
    let was = subst (λ is. IsDropped is has.dropped) long has.is_long in
    let line : List ℕ = has.dropped ++ end in
    let one = unended has.dropped end was.1 ends.one in
    subst (More received lines new) (sym is) (
      line ∷ [],
      taken received lines old new has line end refl ends one later number,
      said-more 0 lines line
          ∙ ap (λ last. said_by 0 lines ++ last ∷ [])
          (sym (says received lines old new has line end refl ends one later number)
          ∙ said-long new.number line (omega (arith, was.0, length-append has.dropped end))),
    )
says-taken received lines old new next has (nothing is none same) =
    subst (More received lines new) (sym is) (
      [],
      subst (λ all. HasTaken received all new) (sym (append-nil lines))
          (keeps-nothing received lines old new old.is_long refl none same has),
      ap (said_by 0) (append-nil lines) ∙ sym (append-nil (said_by 0 lines)),
    )

-- ---- what comes

-- room is made for it
pub makes-room : (received : List ℕ) (lines : List (List ℕ)) (old : InputState) → is_ended old.left ≡ false
    → HasTaken received lines old → HasTaken received lines (with_room old)
makes-room received lines old none has = by (length old.left == room_bytes) refl
  where
    by : (full : Bool) → (length old.left == room_bytes) ≡ full
        → HasTaken received lines (cond full (record old { is_long = true; left = [] }) old)
    by false is = has
    by true is = record {
      each = has.each;
      dropped = has.dropped ++ old.left;
      are = has.are ∙ ap (λ rest. whole lines ++ rest) (sym (append-nil (has.dropped ++ old.left)));
      is_long = (
        grind (arith, nat_tests, is, length-append has.dropped old.left),
        unended has.dropped old.left (of_line old.is_long has.is_long) none,
      );
      number = has.number;
    }
      where
        of_line : (is_long : Bool) → IsDropped is_long has.dropped → is_ended has.dropped ≡ false
        of_line true dropped = dropped.1
        of_line false dropped = ap is_ended dropped

-- the number of the line that was taken last stays
pub room-number : (old : InputState) → old.number ≡ (with_room old).number
room-number old = by (length old.left == room_bytes)
  where
    by : (full : Bool) → old.number ≡ (cond full (record old { is_long = true; left = [] }) old).number
    by true = refl
    by false = refl

pub says-filled : (received : List ℕ) (lines : List (List ℕ)) (old new : InputState) (more : Bool)
    → is_ended old.left ≡ false → HasTaken received lines old → (filled : Fills old new more)
    → HasTaken (received ++ filled.bytes) lines new
says-filled received lines old new more none has filled =
    let made = makes-room received lines old none has in
    record {
      each = made.each;
      dropped = made.dropped;
      are = ap (λ all. all ++ filled.bytes) made.are
          ∙ append_assoc (whole lines) (made.dropped ++ (with_room old).left) filled.bytes
          ∙ ap (λ rest. whole lines ++ rest)
          (append_assoc made.dropped (with_room old).left filled.bytes
          ∙ ap (λ left. made.dropped ++ left) (sym filled.left));
      is_long = subst (λ is. IsDropped is made.dropped) (sym filled.is_long) made.is_long;
      number = filled.number ∙ room-number old ∙ made.number;
    }
