-- Fields and records, as far as they were written.
use Rattle.std.proofs.Common.{◌≡◌, ◌≢◌, ◌==◌, ◌&&◌, ◌||◌, ◌∙◌, ◌+◌, ◌-◌, ◌^◌, ◌<◌, ℕ, true, false, not, min, List, [], ◌∷◌, ◌++◌, Option, Some, Vec, length, append_assoc, sym, ap, arith}
use Rattle.std.proofs.lemmas.List.{append-nil, length_push}
use Rattle.std.specs.Io.KnownBytes.{Appends, Keeps}
use Rattle.std.specs.Option.{unwrap_or}
use Rattle.csv.proofs.WriteFacts.{blank-more, row-final, row-more}
use Rattle.csv.specs.Writing.{default_writer, field_text, fields_written, has_written, is_blank, next_sep, row_body, row_text, tail_text, text_written, writer_pending, writer_setup, writer_under}
use Rattle.csv.specs.declared.writer.QuoteStyle.TheVariants as style
use Rattle.csv.specs.declared.writer.Writer.{Writer}
use Rattle.hy_answers.specs.inside.Writers.{HasFields}

-- the bytes that a vector has
abbrev bytes_of : {Alloc : Type 0} → Vec ℕ Alloc → Option (List ℕ)
bytes_of bytes = Some bytes.items

-- the bytes that a writer has
abbrev all_bytes : {Alloc : Type 0} → Writer (Vec ℕ Alloc) → List ℕ
all_bytes writer = unwrap_or (text_written bytes_of writer) []

module _ {Alloc : Type 0} (text : List ℕ) (fields : List (List ℕ)) (old new : Writer (Vec ℕ Alloc)) where
  pub field-written : (field : List ℕ) → length fields < 2 ^ 63 → HasFields text fields old
      → (((writer_setup old).style ≢ style.NonNumeric)
      → Appends (text_written bytes_of old) (text_written bytes_of new)
      (next_sep (writer_setup old) (fields_written old) ++ field_text (writer_setup old) field))
      → writer_setup new ≡ writer_setup old → fields_written new ≡ min (fields_written old + 1) (2 ^ 64 - 1)
      → ((has_written old ≡ false) → ((writer_setup old).style ≢ style.NonNumeric)
      → has_written new ≡ not (length (field_text (writer_setup old) field) == 0))
      → ((has_written old ≡ true) → has_written new ≡ true) → HasFields text (fields ++ field ∷ []) new
  field-written field few has appends same counted shows stays =
      let long = length_push fields field in
      let style_is : (writer_setup old).style ≢ style.NonNumeric = λ is. absurd (necessary (ap (λ setup. setup.style) (sym has.setup) ∙ is)) in
      let whole : all_bytes old ≡ text ++ row_body default_writer fields = ap (λ known. unwrap_or known []) has.written in
      let appended : all_bytes new ≡ all_bytes old ++ (next_sep default_writer (length fields) ++ field_text default_writer field) =
      appends style_is ∙ (λ i. all_bytes old ++ (next_sep (has.setup i) (has.count i) ++ field_text (has.setup i) field)) in
      record {
        setup = same ∙ has.setup;
        count = omega (arith, counted, has.count, long);
        shown = blank-more default_writer fields field (has_written old) (has_written new) has.shown
            (λ none. shows none style_is ∙ ap (λ setup. not (length (field_text setup field) == 0)) has.setup) stays
            ∙ ap (λ n. not (has_written new) && ((n == 0) || (n == 1))) (sym long);
        written = ap Some (appended ∙ ap (λ before. before ++ (next_sep default_writer (length fields)
            ++ field_text default_writer field)) whole
            ∙ append_assoc text (row_body default_writer fields) _
            ∙ ap (λ body. text ++ body) (sym (row-more default_writer fields field)));
      }
    where
      necessary : style.Necessary ≡ style.NonNumeric → ⊥
      necessary is = cc

  pub record-written : HasFields text fields old
      → Appends (text_written bytes_of old) (text_written bytes_of new)
      (tail_text (writer_setup old) (has_written old) (fields_written old))
      → fields_written new ≡ 0 → has_written new ≡ false → writer_setup new ≡ writer_setup old
      → HasFields (text ++ row_text default_writer fields) [] new
  unfolding is_blank
  record-written has appends none clean same =
      let whole : all_bytes old ≡ text ++ row_body default_writer fields = ap (λ known. unwrap_or known []) has.written in
      let tail : all_bytes new ≡ all_bytes old ++ tail_text default_writer (has_written old) (length fields) =
      appends ∙ (λ i. all_bytes old ++ tail_text (has.setup i) (has_written old) (has.count i)) in
      record {
        setup = same ∙ has.setup;
        count = none;
        shown = sym (ap (λ wrote. not wrote && true) clean);
        written = ap Some (row-final (Some text) (Some (all_bytes old)) (Some (all_bytes new)) default_writer fields
            (has_written old) (length fields) whole has.shown tail
            ∙ sym (append-nil (text ++ row_text default_writer fields)));
      }

-- a new writer has written nothing
pub nothing-written : {Alloc : Type 0} (writer : Writer (Vec ℕ Alloc)) (under : Vec ℕ Alloc) → under.items ≡ []
    → writer_under writer ≡ under → writer_pending writer ≡ [] → writer_setup writer ≡ default_writer
    → fields_written writer ≡ 0 → has_written writer ≡ false → HasFields [] [] writer
unfolding is_blank
nothing-written writer under empty under_is pending setup none clean = record {
  setup = setup;
  count = none;
  shown = sym (ap (λ wrote. not wrote && true) clean);
  written = ap Some (λ i. (ap (λ (bytes : Vec ℕ _). bytes.items) under_is ∙ empty) i ++ pending i);
}

-- what a writer gives back, between two records
pub all-written : {Alloc : Type 0} (text : List ℕ) (writer : Writer (Vec ℕ Alloc)) (bytes : Vec ℕ Alloc)
    → HasFields text [] writer → Keeps (text_written bytes_of writer) (Some bytes.items) → bytes.items ≡ text
all-written text writer bytes has keeps =
    keeps ∙ ap (λ known. unwrap_or known []) has.written ∙ append-nil text
