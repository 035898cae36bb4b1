-- Bytes that are logs and bytes that aren't, by hand.
use Rattle.std.proofs.Common.{◌≡◌, ℕ, false, List, [], ◌∷◌, ◌++◌, None, Some, refl, sym, ap, ◌∙◌, take}
use Rattle.std.specs.Prelude.{replicate}
use Rattle.std.proofs.lemmas.List.{append-nil}
use Rattle.hy_commands.specs.declared.edition.Edition.TheVariants as editions
use Rattle.hy_batches.specs.Batches.{Batch, may_follow}
use Rattle.hy_batches.specs.Encoding.{batch_bytes, number_bytes}
use Rattle.hy_batches.specs.Grammar.{IsBatch}
use Rattle.hy_batches.specs.Logs.{IsFaultyAt, IsLog, is_end}
use Rattle.hy_batches.specs.WorkedBatches.{batch_by, empty_content, framed, framed_second, sample, sample_by, sample_content}
use Rattle.hy_batches.specs.inside.Reading.{any_commit_at, batch_at, command_at, commit_at, commits_at, content_of, edition_marked, ended_at, front_at, list_at, lists_at, marked_at, number_at, payment_at, who_at}
use Rattle.hy_batches.proofs.BatchForms.{batch_again}
use Rattle.hy_batches.proofs.LogLaws.{next_falls, next_missing, whole_goes_on}

-- the bytes of a batch behind a mark that isn't known
abbrev framed_third : ℕ → List ℕ → ℕ → List ℕ
framed_third size content last = 72 ∷ 89 ∷ 66 ∷ 51 ∷ size ∷ replicate 7 0 ++ content ++ last ∷ []

-- bytes that are no end, and from which no batch is read, fail at their first byte
fails : (rest : List ℕ) → is_end rest ≡ false → batch_at rest ≡ None → IsFaultyAt rest 0
fails rest goes_on none =
    ([], rest, record { spelled = refl; whole = refl; goes_on = goes_on; fault = next_missing editions.First rest none }, refl)

-- one whole batch, and then such bytes
fails_behind : (rest : List ℕ) → is_end rest ≡ false → batch_at rest ≡ None → IsFaultyAt (framed 30 sample_content 69 ++ rest) 43
unfolding number_bytes
fails_behind rest goes_on none =
    (sample ∷ [], rest, record { spelled = refl; whole = refl; goes_on = goes_on; fault = next_missing editions.First rest none }, refl)

-- ---- logs

-- no bytes, and the sample once, and twice with some bytes of a third
nothing : IsLog [] [] []
nothing = record { spelled = refl; whole = refl; ended = refl }

once : IsLog (framed 30 sample_content 69) (sample ∷ []) []
unfolding number_bytes
once = record { spelled = refl; whole = refl; ended = refl }

cut : IsLog (framed 30 sample_content 69 ++ framed 30 sample_content 69 ++ take 14 (framed 30 sample_content 69)) (sample ∷ sample ∷ [])
    (take 14 (framed 30 sample_content 69))
unfolding number_bytes
cut = record { spelled = refl; whole = refl; ended = refl }

-- the second edition alone, behind the first, and before a batch of the first that was cut
second : IsLog (framed_second 30 sample_content 69) (sample_by editions.Second ∷ []) []
unfolding number_bytes
second = record { spelled = refl; whole = refl; ended = refl }

both : IsLog (framed 30 sample_content 69 ++ framed_second 30 sample_content 69) (sample ∷ sample_by editions.Second ∷ []) []
unfolding number_bytes
both = record { spelled = refl; whole = refl; ended = refl }

cut_first : IsLog (framed_second 30 sample_content 69 ++ take 20 (framed 30 sample_content 69)) (sample_by editions.Second ∷ [])
    (take 20 (framed 30 sample_content 69))
unfolding number_bytes
cut_first = record { spelled = refl; whole = refl; ended = refl }

-- a length that is one too great, and three bytes of a mark
too_long : IsLog (framed 31 sample_content 69) [] (framed 31 sample_content 69)
too_long = record { spelled = refl; whole = refl; ended = refl }

three_bytes : IsLog (72 ∷ 89 ∷ 66 ∷ []) [] (72 ∷ 89 ∷ 66 ∷ [])
three_bytes = record { spelled = refl; whole = refl; ended = refl }

-- ---- faults

-- a length that is one too small
too_short_none : batch_at (framed 29 sample_content 69) ≡ None
unfolding batch_at marked_at edition_marked front_at number_at content_of lists_at list_at commits_at commit_at any_commit_at command_at payment_at who_at ended_at
too_short_none = refl

too_short : IsFaultyAt (framed 29 sample_content 69) 0
too_short = fails (framed 29 sample_content 69) refl too_short_none

-- another last byte, alone and behind a whole batch
other_end : batch_at (framed 30 sample_content 70) ≡ None
unfolding batch_at marked_at edition_marked front_at number_at content_of lists_at list_at commits_at commit_at any_commit_at command_at payment_at who_at ended_at
other_end = refl

wrong_end : IsFaultyAt (framed 30 sample_content 70) 0
wrong_end = fails (framed 30 sample_content 70) refl other_end

wrong_end_behind : IsFaultyAt (framed 30 sample_content 69 ++ framed 30 sample_content 70) 43
wrong_end_behind = fails_behind (framed 30 sample_content 70) refl other_end

-- 99 cents
abbrev less_content : List ℕ
less_content =
    2 ∷ 1 ∷ 0 ∷ 0 ∷ 0 ∷ 0 ∷ 2 ∷ 1 ∷ 1 ∷ 1 ∷ 1 ∷ 0 ∷ 1 ∷ 0 ∷ 99 ∷ 0 ∷ 0 ∷ 0 ∷ 1 ∷ 0 ∷ 0 ∷ 0 ∷ 0 ∷ 0 ∷ 0 ∷ 0 ∷ 0 ∷ 0 ∷ 0 ∷ 0 ∷ []

less_none : batch_at (framed 30 less_content 69) ≡ None
unfolding batch_at marked_at edition_marked front_at number_at content_of lists_at list_at commits_at commit_at any_commit_at command_at payment_at who_at ended_at
less_none = refl

less : IsFaultyAt (framed 30 less_content 69) 0
less = fails (framed 30 less_content 69) refl less_none

-- two bytes that no mark begins with
two_bytes_none : batch_at (72 ∷ 88 ∷ []) ≡ None
unfolding batch_at marked_at edition_marked front_at number_at
two_bytes_none = refl

two_bytes : IsFaultyAt (72 ∷ 88 ∷ []) 0
two_bytes = fails (72 ∷ 88 ∷ []) refl two_bytes_none

-- a mark of no edition
third_none : batch_at (framed_third 30 sample_content 69) ≡ None
unfolding batch_at marked_at edition_marked front_at number_at
third_none = refl

third : IsFaultyAt (framed_third 30 sample_content 69) 0
third = fails (framed_third 30 sample_content 69) refl third_none

-- a whole batch of the first edition behind one of the second, also one without commits
falls : (batch : Batch) → IsBatch batch → batch.edition ≡ editions.First
    → IsFaultyAt (framed_second 30 sample_content 69 ++ batch_bytes batch) 43
unfolding number_bytes
falls batch fit first =
    let bytes = batch_bytes batch in
    let found : batch_at bytes ≡ Some (batch, []) =
    ap batch_at (sym (append-nil bytes)) ∙ batch_again batch [] fit in
    let goes_on : is_end bytes ≡ false = ap is_end (sym (append-nil bytes)) ∙ whole_goes_on batch [] fit in (
      sample_by editions.Second ∷ [],
      bytes,
      record {
        spelled = refl;
        whole = refl;
        goes_on = goes_on;
        fault = next_falls editions.Second bytes batch [] found (ap (may_follow editions.Second) first);
      },
      refl,
    )

first_behind : IsFaultyAt (framed_second 30 sample_content 69 ++ framed 30 sample_content 69) 43
unfolding number_bytes
first_behind = falls sample refl refl

empty_behind : IsFaultyAt (framed_second 30 sample_content 69 ++ framed 5 empty_content 69) 43
unfolding number_bytes
empty_behind = falls (batch_by editions.First ([] ∷ [])) refl refl
