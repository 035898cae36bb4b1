-- What is taken of the bytes between two places.
use Rattle.std.proofs.Common.{◌≡◌, ℕ, ◌+◌, ◌-◌, ◌≤◌, Bool, true, false, List, [], Option, None, Some, take, drop, length, refl, ap, arith}
use Rattle.memchr.specs.Find.{IsFirstByte, is_byte}
use Rattle.hy_hyper_input.specs.declared.input.Next.TheVariants as next
use Rattle.hy_hyper_input.specs.Inputs.{EndsLine, InputState, Takes, between, line_feed, max_line, number_behind, room_bytes}
use Rattle.hy_hyper_input.specs.Inputs.Takes.{a_line, nothing, too_long}
use Rattle.hy_hyper_input.proofs.BytesLaws.{take-few}
use Rattle.hy_hyper_input.proofs.EndLaws.{ends-between, not-ended}

-- the input behind so many lines
abbrev pub behind : ℕ → List ℕ → Bool → List ℕ → Option (List ℕ) → InputState
behind number line is_long left coming =
    record { number = number; line = line; is_long = is_long; left = left; coming = coming }

pub none-between : (place : ℕ) (bytes : List ℕ) → between place place bytes ≡ []
none-between place bytes = ap (λ n. take n (drop place bytes)) (let none : place - place ≡ 0 = omega arith in none)

module _ (number : ℕ) (line : List ℕ) (coming : Option (List ℕ)) (start end : ℕ) (bytes : List ℕ) where
  abbrev left : List ℕ
  left = between start end bytes

  pub takes-nothing : (is_long : Bool) → is_long ≡ false → IsFirstByte (is_byte line_feed) left None
      → Takes (behind number line is_long left coming) (behind number line is_long left coming) next.Nothing
  takes-nothing true short none = absurd (cc)
  takes-nothing false short none = nothing refl (not-ended left none) refl

  pub drops-all : (is_long : Bool) → is_long ≡ true → IsFirstByte (is_byte line_feed) left None
      → Takes (behind number line is_long left coming) (behind number line is_long (between end end bytes) coming) next.Nothing
  drops-all false long none = absurd (cc)
  drops-all true long none =
      nothing refl (not-ended left none)
      (ap (λ left. behind number line true left coming) (none-between end bytes))

  module _ (place later : ℕ) (order : start ≤ end) (within : end ≤ length bytes)
      (first : IsFirstByte (is_byte line_feed) left (Some place)) (next_is : later ≡ number_behind number) where
    ends : EndsLine left (between start (start + place) bytes) (between (start + place + 1) end bytes)
    ends = ends-between start end place bytes order within first

    pub takes-long : (is_long : Bool) → is_long ≡ true
        → Takes (behind number line is_long left coming)
        (behind later line false (between (start + place + 1) end bytes) coming) next.TooLong
    takes-long is_long long = too_long refl long (between start (start + place) bytes) ends refl next_is refl

    pub takes-line : (is_long : Bool) → is_long ≡ false → length bytes ≡ room_bytes
        → Takes (behind number line is_long left coming)
        (behind later (between start (start + place) bytes) is_long (between (start + place + 1) end bytes) coming) next.Line
    takes-line is_long short room = a_line refl short ends fits short next_is refl
      where
        fits : length (between start (start + place) bytes) ≤ max_line
        fits = omega (
          arith,
          room,
          within,
          order,
          first.0.high,
          take-few (end - start) (drop start bytes),
          take-few (start + place - start) (drop start bytes),
        )
