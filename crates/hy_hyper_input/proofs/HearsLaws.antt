-- What is told in one stretch of an input and in the next.
use Rattle.std.proofs.Common.{◌≡◌, ℕ, Bool, false, List, [], ◌++◌, Option, refl, sym, ap, subst, ◌∙◌, append_assoc, append-nil}
use Rattle.std.specs.Io.KnownBytes.{Consumes}
use Rattle.std.proofs.KnownBytes.{Consumes-kept, Consumes-nil, Consumes-trans}
use Rattle.hy_hyper_input.specs.declared.input.Next.{Next}
use Rattle.hy_hyper_input.specs.Inputs.{FailsToFill, Fills, InputState, Takes, fresh, is_ended}
use Rattle.hy_hyper_input.specs.Inputs.Takes.{a_line, nothing, too_long}
use Rattle.hy_hyper_input.specs.Received.{IsDropped, whole, HasTaken, Hears, Said, said_by, tells}
use Rattle.hy_hyper_input.proofs.ReceivedLaws.{makes-room, room-number, says-filled, says-taken}

-- nothing was received, and nothing taken
pub hears-first : (coming : Option (List ℕ)) → HasTaken [] [] (fresh coming)
hears-first coming = record { each = refl; dropped = []; are = refl; is_long = refl; number = refl }

-- the same input, of which nothing more is told
pub hears-nothing : (input : InputState) → Hears input input []
hears-nothing input received lines has = (
  [],
  [],
  Consumes-nil input.coming,
  subst (λ all. HasTaken all (lines ++ []) input) (sym (append-nil received))
      (subst (λ all. HasTaken received all input) (sym (append-nil lines)) has),
  ap (said_by 0) (append-nil lines) ∙ sym (append-nil (said_by 0 lines)),
)

same-coming : (old new : InputState) (taken : Next) → Takes old new taken → new.coming ≡ old.coming
same-coming old new taken (a_line is short ends fits later number coming) = coming
same-coming old new taken (too_long is long end ends later number coming) = coming
same-coming old new taken (nothing is none same) = ap (λ (input : InputState). input.coming) same

-- one line
pub hears-taken : (old new : InputState) (taken : Next) → Takes old new taken → Hears old new (tells new taken)
hears-taken old new taken takes received lines has =
    let more = says-taken received lines old new taken has takes in (
      [],
      more.0,
      subst (λ coming. Consumes old.coming coming []) (sym (same-coming old new taken takes)) (Consumes-nil old.coming),
      subst (λ all. HasTaken all (lines ++ more.0) new) (sym (append-nil received)) more.1,
      more.2,
    )

-- bytes came
pub hears-filled : (old new : InputState) (more : Bool) → is_ended old.left ≡ false → Fills old new more → Hears old new []
hears-filled old new more none filled received lines has = (
  filled.bytes,
  [],
  filled.came,
  subst (λ all. HasTaken (received ++ filled.bytes) all new) (sym (append-nil lines))
      (says-filled received lines old new more none has filled),
  ap (said_by 0) (append-nil lines) ∙ sym (append-nil (said_by 0 lines)),
)

-- nothing came, by a failure
pub hears-failed : (old new : InputState) → is_ended old.left ≡ false → FailsToFill old new → Hears old new []
hears-failed old new none failed received lines has =
    let made = makes-room received lines old none has in (
      [],
      [],
      Consumes-kept old.coming old.coming new.coming [] (Consumes-nil old.coming) failed.kept,
      subst (λ all. HasTaken all (lines ++ []) new) (sym (append-nil received))
          (subst (λ all. HasTaken received all new) (sym (append-nil lines)) (record {
            each = made.each;
            dropped = made.dropped;
            are = made.are ∙ ap (λ left. whole lines ++ (made.dropped ++ left)) (sym failed.left);
            is_long = subst (λ is. IsDropped is made.dropped) (sym failed.is_long) made.is_long;
            number = failed.number ∙ room-number old ∙ made.number;
          })),
      ap (said_by 0) (append-nil lines) ∙ sym (append-nil (said_by 0 lines)),
    )

-- one stretch behind another
pub hears-then : (old middle new : InputState) (told later : List Said) → Hears old middle told → Hears middle new later
    → Hears old new (told ++ later)
hears-then old middle new told later first next received lines has =
    let one = first received lines has in
    let two = next (received ++ one.0) (lines ++ one.1) one.3 in (
      one.0 ++ two.0,
      one.1 ++ two.1,
      Consumes-trans old.coming middle.coming new.coming one.0 two.0 one.2 two.2,
      subst (λ all. HasTaken all (lines ++ (one.1 ++ two.1)) new) (append_assoc received one.0 two.0)
          (subst (λ all. HasTaken ((received ++ one.0) ++ two.0) all new) (append_assoc lines one.1 two.1) two.3),
      ap (said_by 0) (sym (append_assoc lines one.1 two.1)) ∙ two.4 ∙ ap (λ rows. rows ++ later) one.4
          ∙ append_assoc (said_by 0 lines) told later,
    )
