-- How the lines of a round follow one another.
use Rattle.std.proofs.Common.{◌≡◌, ◌+◌, ◌≤◌, ℕ, Bool, true, false, cond, List, [], ◌∷◌, ◌++◌, length, refl, sym, ap, subst, ◌∙◌, append_assoc, append-nil, length-append, arith}
use Rattle.hy_script.specs.Databases.{DatabaseState}
use Rattle.hy_hyper_input.specs.declared.input.Next.{Next}
use Rattle.hy_hyper_input.specs.declared.input.Next.TheVariants as next
use Rattle.hy_hyper_input.specs.Inputs.{InputState, Takes, is_ended}
use Rattle.hy_hyper_input.specs.Inputs.Takes.{a_line, nothing, too_long}
use Rattle.hy_hyper_input.specs.Received.{Hears, Said, tells}
use Rattle.hy_hyper_input.proofs.HearsLaws.{hears-nothing, hears-taken, hears-then}
use Rattle.hy_hyper_answers.specs.Served.{AnswersSaid, HeldAnswers, Serves, number_of, printed}
use Rattle.hy_hyper_answers.proofs.ServedLaws.{serves-more}
use Rattle.hy_hyper_service.specs.declared.lines.RoundEnd.{RoundEnd}
use Rattle.hy_hyper_service.specs.declared.lines.RoundEnd.TheVariants as ends
use Rattle.hy_hyper_service.specs.Rounds.{AnswersLines, IsEndFor, NoneQuits, Quits, max_lines, quit_line, told_at}

none-quits-more : (said : List Said) (one : Said) → NoneQuits said → (Quits one → ⊥) → NoneQuits (said ++ one ∷ [])
none-quits-more [] one none stays = (stays, tt)
none-quits-more (first ∷ later) one none stays = (none.0, none-quits-more later one none.1 stays)

-- so many lines were taken and answered
pub record HasAnswered (page_size : ℕ) (before now : DatabaseState) (held holds : HeldAnswers) (old input : InputState)
    (count : ℕ) : Type 0 where
  pub said : List Said
  pub text : List ℕ
  pub heard : Hears old input said
  pub none_quits : NoneQuits said
  pub counted : length said ≡ count
  pub serves : Serves page_size held.style said before now text
  pub holds_are : holds ≡ record held { text = held.text ++ text }

module _ (page_size : ℕ) (before : DatabaseState) (held : HeldAnswers) (old : InputState) where
  pub none-answered : HasAnswered page_size before before held held old old 0
  none-answered = record {
    said = [];
    text = [];
    heard = hears-nothing old;
    none_quits = tt;
    counted = refl;
    serves = (refl, refl);
    holds_are = ap (λ text. record held { text = text }) (sym (append-nil held.text));
  }

  module _ (now : DatabaseState) (holds : HeldAnswers) (middle : InputState) (count : ℕ)
      (so_far : HasAnswered page_size before now held holds old middle count) (few : count ≤ max_lines) where
    -- a round of these lines
    ended : (end : RoundEnd) (input : InputState) → Hears old input (told_at end input.number so_far.said)
        → IsEndFor end so_far.said holds.text → AnswersLines page_size before now held holds old input end
    ended end input heard is = record {
      said = so_far.said;
      text = so_far.text;
      of_lines = record {
        heard = heard;
        none_quits = so_far.none_quits;
        few = omega (arith, few, so_far.counted);
        ended = subst (λ (all : HeldAnswers). IsEndFor end so_far.said all.text) so_far.holds_are is;
      };
      serves = so_far.serves;
      holds_are = so_far.holds_are;
    }

    -- behind which more may be there
    pub full : IsEndFor ends.Full so_far.said holds.text → AnswersLines page_size before now held holds old middle ends.Full
    full is = ended ends.Full middle so_far.heard is

    module _ (input : InputState) (taken : Next) (takes : Takes middle input taken) where
      heard-more : (told : List Said) → tells input taken ≡ told → Hears old input (so_far.said ++ told)
      heard-more told is = hears-then old middle input so_far.said told so_far.heard
          (subst (Hears middle input) is (hears-taken middle input taken takes))

      -- one line more, which is answered
      pub one-more : (one : Said) → tells input taken ≡ one ∷ [] → (Quits one → ⊥) → (next : DatabaseState)
          (answer : List ℕ) (later : HeldAnswers) → AnswersSaid page_size one now next answer
          → later ≡ record holds { text = holds.text ++ printed holds.style (number_of one) answer }
          → HasAnswered page_size before next held later old input (count + 1)
      one-more one is stays next answer later answers is_later =
          let behind = printed held.style (number_of one) answer in record {
            said = so_far.said ++ one ∷ [];
            text = so_far.text ++ behind;
            heard = heard-more (one ∷ []) is;
            none_quits = none-quits-more so_far.said one so_far.none_quits stays;
            counted = length-append so_far.said (one ∷ []) ∙ ap (λ n. n + 1) so_far.counted;
            serves = serves-more page_size held.style so_far.said one before now next so_far.text answer so_far.serves
                answers;
            holds_are = is_later
                ∙ ap (λ (all : HeldAnswers). record all { text = all.text ++ printed all.style (number_of one) answer })
                so_far.holds_are
                ∙ ap (λ text. record held { text = text }) (append_assoc held.text so_far.text behind);
          }

      -- one that ends the service
      pub quits : tells input taken ≡ Said.a_line input.number quit_line ∷ []
          → AnswersLines page_size before now held holds old input ends.Quit
      quits is = ended ends.Quit input (heard-more (Said.a_line input.number quit_line ∷ []) is) tt

      -- no line that is there to its end
      pub no-more : tells input taken ≡ [] → AnswersLines page_size before now held holds old input ends.Waits
      no-more is = ended ends.Waits input (subst (Hears old input) (append-nil so_far.said) (heard-more [] is)) tt

-- where nothing was taken, no line is left
pub none-left : (old new : InputState) (taken : Next) → Takes old new taken → taken ≡ next.Nothing
    → is_ended new.left ≡ false
none-left old new taken (a_line line short ends fits later number coming) is = absurd (cc (is, line))
none-left old new taken (too_long line long end ends later number coming) is = absurd (cc (is, line))
none-left old new taken (nothing line none same) is =
    ap (λ (input : InputState). is_ended input.left) same ∙ by old.is_long
  where
    by : (is_long : Bool) → is_ended (cond is_long [] old.left) ≡ false
    by true = refl
    by false = none
