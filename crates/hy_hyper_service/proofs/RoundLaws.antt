-- How rounds follow one another.
use Rattle.std.proofs.Common.{IfErr, IsErrAnd, Err, Ok, Result, ◌≡◌, ℕ, ◌+◌, ◌-◌, ◌^◌, List, [], ◌∷◌, ◌++◌, length, refl, sym, ap, subst, ◌∙◌, append_assoc, append-nil, length-append}
use Rattle.std.proofs.lemmas.List.Concat.{flat_map-append}
use Rattle.hy_rows.specs.Tables.{Lists}
use Rattle.hy_hyper_input.specs.Inputs.{InputState}
use Rattle.hy_hyper_input.specs.Received.{Hears, Said}
use Rattle.hy_hyper_input.proofs.HearsLaws.{hears-nothing, hears-then}
use Rattle.hy_hyper_service.specs.declared.lines.RoundEnd.{RoundEnd}
use Rattle.hy_hyper_service.specs.declared.lines.RoundEnd.TheVariants as ends
use Rattle.hy_hyper_service.specs.Rounds.{AreRounds, IsOver, IsRound, RoundState, RunsRound, ServesInput, ServiceState, quit_line, said_in, told_at}

-- ---- what was told up to the end of a round

-- behind what was told before
told-behind : (end : RoundEnd) (number : ℕ) (before said : List Said)
    → before ++ told_at end number said ≡ told_at end number (before ++ said)
told-behind ends.Waits number before said = refl
told-behind ends.Full number before said = refl
told-behind ends.Quit number before said = sym (append_assoc before said (Said.a_line number quit_line ∷ []))

said-more : (rounds : List RoundState) (round : RoundState) → said_in (rounds ++ round ∷ []) ≡ said_in rounds ++ round.said
said-more rounds round =
    flat_map-append (λ (round : RoundState). round.said) rounds (round ∷ [])
    ∙ ap (λ rest. said_in rounds ++ rest) (append-nil round.said)

-- ---- one round more

module _ (page_size : ℕ) (lists : Lists) where
  rounds-more : (first : ServiceState) (rounds : List RoundState) (middle : ServiceState) (round : RoundState)
      → AreRounds page_size lists first rounds middle → IsRound page_size lists round.said round.text middle round.behind
      → AreRounds page_size lists first (rounds ++ round ∷ []) round.behind
  rounds-more first [] middle round are is =
      (subst (λ (service : ServiceState). IsRound page_size lists round.said round.text service round.behind) are is, refl)
  rounds-more first (one ∷ later) middle round are is = (are.0, rounds-more one.behind later middle round are.1 is)

  -- what was served so far, by so many rounds
  pub record HasServed (first now : ServiceState) (before input : InputState) (count : ℕ) : Type 0 where
    pub rounds : List RoundState
    pub are : AreRounds page_size lists first rounds now
    pub heard : Hears before input (said_in rounds)
    pub counted : length rounds ≡ count

  pub nothing-served : (first : ServiceState) (before : InputState) → HasServed first first before before 0
  nothing-served first before = record { rounds = []; are = refl; heard = hears-nothing before; counted = refl }

  module _ (first now : ServiceState) (before middle : InputState) (count : ℕ)
      (so_far : HasServed first now before middle count) (next : ServiceState) (input : InputState) (end : RoundEnd)
      (runs : RunsRound page_size lists now next middle input end) where
    abbrev round : RoundState
    round = record { said = runs.said; text = runs.text; behind = next }

    abbrev pub rounds : List RoundState
    rounds = so_far.rounds ++ round ∷ []

    are : AreRounds page_size lists first rounds next
    are = rounds-more first so_far.rounds now round so_far.are runs.round

    heard : Hears before input (told_at end input.number (said_in rounds))
    heard = subst (Hears before input)
        (told-behind end input.number (said_in so_far.rounds) runs.said
        ∙ ap (told_at end input.number) (sym (said-more so_far.rounds round)))
        (hears-then before middle input (said_in so_far.rounds) (told_at end input.number runs.said) so_far.heard
        runs.of_lines.heard)

    counted : length rounds ≡ count + 1
    counted = length-append so_far.rounds (round ∷ []) ∙ ap (λ n. n + 1) so_far.counted

    -- no line ended the service, and maybe more bytes came
    pub served-more : (later : InputState) → told_at end input.number (said_in rounds) ≡ said_in rounds
        → Hears input later [] → HasServed first next before later (count + 1)
    served-more later no_quit more = record {
      rounds = rounds;
      are = are;
      heard = subst (Hears before later) (append-nil (said_in rounds))
          (hears-then before input later (said_in rounds) [] (subst (Hears before input) no_quit heard) more);
      counted = counted;
    }

    -- the service is at its end, and maybe more bytes came
    pub served-all : (later : InputState)
        → told_at end input.number (said_in rounds) ≡ told_at end later.number (said_in rounds)
        → Hears input later [] → IsOver end (count + 1) later → ServesInput page_size lists first next before later
    served-all later same more over = record {
      rounds = rounds;
      are = are;
      end = end;
      heard = subst (Hears before later) (append-nil (told_at end input.number (said_in rounds)) ∙ same)
          (hears-then before input later (told_at end input.number (said_in rounds)) [] heard more);
      over = subst (λ n. IsOver end n later) (sym counted) over;
    }

  -- there were as many rounds as may be counted
  pub served-counted : (first now : ServiceState) (before input : InputState) (count : ℕ)
      → HasServed first now before input count → count ≡ 2 ^ 64 - 1 → ServesInput page_size lists first now before input
  served-counted first now before input count so_far all = record {
    rounds = so_far.rounds;
    are = so_far.are;
    end = ends.Full;
    heard = so_far.heard;
    over = IsOver.counted (so_far.counted ∙ all);
  }

-- what a `?` hands on
pub handed-on : {T E : Type 0} (answer : Result T E) (value : E) (P : E → Type 0)
    → IsErrAnd answer (λ error. error ≡ value) → P value → IfErr answer P
handed-on (Ok found) value P is holds = tt
handed-on (Err error) value P is holds = subst P (sym is) holds
