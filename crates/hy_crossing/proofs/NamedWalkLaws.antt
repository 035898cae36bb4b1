-- A walk over the places that a command names: what a place that isn't named leaves as it is holds all the way.
use Rattle.std.proofs.Common.{◌≡◌, ℕ, suc, ◌+◌, ◌<◌, ◌≤◌, Bool, true, false, List, length, slice_index_or, refl, sym, subst, arith}
use Rattle.hy_commands.specs.declared.command.Command.{Command}
use Rattle.hy_commands.specs.Commands.{is_named_at}
use Rattle.hy_crossing.specs.Crossings.{is_named}
use Rattle.hy_crossing.specs.Lists.{IsDoneUpTo, IsLedUpTo, Stepping}
use Rattle.hy_crossing.specs.Named.{places_before}
use Rattle.hy_crossing.proofs.TurnLaws.{led-same}
use Rattle.hy_crossing.proofs.WalkLaws.{next-place, none-left, over, start-more, start_of}

named-number : (command : Command) (place : ℕ) (b : Bool) → is_named command (suc place) ≡ b
    → is_named command (place + 1) ≡ b
named-number command place b is =
    let next : suc place ≡ place + 1 = omega arith in
    subst (λ n. is_named command n ≡ b) next is

-- behind the place that was visited
pub behind : (places : List ℕ) (index : ℕ) (Holds : ℕ → Type 0) → Holds (slice_index_or places index 0 + 1)
    → Holds (start_of places (index + 1))
behind places index Holds holds = subst Holds (sym (start-more places index)) holds

-- the next place is that of a warehouse that is named, and what held where the walk stood holds there too
pub record IsReached (command : Command) (end : ℕ) (Holds : ℕ → Type 0) (place : ℕ) : Type 0 where
  pub holds : Holds place
  pub within : place < end
  pub named : is_named command (place + 1) ≡ true

module _ (command : Command) (end : ℕ) (places : List ℕ) (are : places ≡ places_before command end) (index : ℕ) where
  pub is-within : index < length places → slice_index_or places index 0 < end
  is-within more = (next-place (is_named_at command) end places index are more).within

  module _ (Holds : ℕ → Type 0) (still : (place : ℕ) → place < end → is_named command (place + 1) ≡ false → Holds place
      → Holds (place + 1)) where
    pub at-next : index < length places → Holds (start_of places index)
        → IsReached command end Holds (slice_index_or places index 0)
    at-next more holds =
        let next = next-place (is_named_at command) end places index are more in record {
          holds =
              over Holds (start_of places index) (slice_index_or places index 0) next.order
              (λ place late early. still place (omega (arith, early, next.within))
              (named-number command place false (next.apart place late early))) holds;
          within = next.within;
          named = named-number command (slice_index_or places index 0) true next.passes;
        }

    pub at-end : index ≤ length places → length places ≤ index → Holds (start_of places index) → Holds end
    at-end few all holds =
        let none = none-left (is_named_at command) end places index are (omega (arith, few, all)) in
        over Holds (start_of places index) end none.order
        (λ place late early. still place early (named-number command place false (none.apart place late early))) holds

  -- elements that are led through, of which those that aren't named stay
  module _ {State Row : Type 0} (step : ℕ → State → State → Row → Row → Type 0) (before now : State)
      (olds news : List Row) (stays : (number : ℕ) → is_named command number ≡ false → (row : Row) → step number now now row row)
      (there : end ≤ length olds) where
    abbrev Led : ℕ → Type 0
    Led place = IsLedUpTo step place before now olds news

    still-led : (place : ℕ) → place < end → is_named command (place + 1) ≡ false → Led place → Led (place + 1)
    still-led place within unnamed led =
        led-same step place before now olds news led (omega (arith, within, there, led.count)) now
        (stays (place + 1) unnamed)

    pub led-next : index < length places → IsLedUpTo step (start_of places index) before now olds news
        → IsReached command end (λ place. IsLedUpTo step place before now olds news) (slice_index_or places index 0)
    led-next more led = at-next Led still-led more led

    pub led-rest : index ≤ length places → length places ≤ index
        → IsLedUpTo step (start_of places index) before now olds news → IsLedUpTo step end before now olds news
    led-rest few all led = at-end Led still-led few all led

  -- the same without a state
  module _ {Row : Type 0} (relation : ℕ → Row → Row → Type 0) (olds news : List Row)
      (stays : (number : ℕ) → is_named command number ≡ false → (row : Row) → relation number row row)
      (there : end ≤ length olds) where
    pub done-next : index < length places → IsDoneUpTo relation (start_of places index) olds news
        → IsReached command end (λ place. IsDoneUpTo relation place olds news) (slice_index_or places index 0)
    done-next more done =
        led-next (Stepping relation) 0 0 olds news (λ number unnamed row. (stays number unnamed row, refl)) there more done

    pub done-rest : index ≤ length places → length places ≤ index → IsDoneUpTo relation (start_of places index) olds news
        → IsDoneUpTo relation end olds news
    done-rest few all done =
        led-rest (Stepping relation) 0 0 olds news (λ number unnamed row. (stays number unnamed row, refl)) there few all done
