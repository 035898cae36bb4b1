-- The form of batches.
use Rattle.std.proofs.Common.{◌≡◌, ℕ, Bool, true, false, cond, List, [], ◌∷◌, ◌++◌, length, Option, None, Some, refl, sym, ap, subst, ◌∙◌, append_assoc, arith}
use Rattle.std.specs.Prelude.{◌==◌, bytes_eq, nat_le}
use Rattle.std.specs.List.{flat_map}
use Rattle.std.proofs.lemmas.Bool.{and_from, and_parts, eqb-true, leb-true, lt-ltb}
use Rattle.std.proofs.lemmas.List.{append-nil, nil_from_length}
use Rattle.std.proofs.lemmas.Slice.Eq.{bytes_eq-Decides}
use Rattle.hy_page.specs.Bytes.{AreBytes}
use Rattle.hy_rows.specs.Limits.{max_warehouses}
use Rattle.hy_rows.specs.Ranges.{is_between}
use Rattle.hy_commands.specs.declared.command.Commit.{Commit}
use Rattle.hy_commands.specs.declared.edition.Edition.{Edition}
use Rattle.hy_commands.specs.declared.edition.Edition.TheVariants as editions
use Rattle.hy_batches.specs.Batches.{Batch}
use Rattle.hy_batches.specs.Encoding.{batch_bytes, content_bytes, list_bytes, mark, number_bytes}
use Rattle.hy_batches.specs.Grammar.{are_lists, fits, is_batch}
use Rattle.hy_batches.specs.inside.Reading.{batch_at, content_of, edition_marked, ended_at, front_at, lists_at, marked_at}
use Rattle.hy_batches.proofs.FormLaws.{IsForm, Takes, bind_some, first_of, front_again, front_taken, number_form, passed, same_some, takes_both}
use Rattle.hy_batches.proofs.CommitForms.{lists_again, lists_takes}
use Rattle.hy_batches.proofs.LengthLaws.{length-content}

-- ---- the content

abbrev made : Edition → List (List Commit) → Batch
made edition lists = record { edition = edition; lists = lists }

-- so many lists that were read are a batch
pub read_batch : (edition : Edition) (count : ℕ) (bytes : List ℕ) (lists : List (List Commit)) (rest : List ℕ) → AreBytes bytes
    → is_between 1 max_warehouses count ≡ true → lists_at edition 1 count bytes ≡ Some (lists, rest)
    → is_batch (made edition lists) ≡ true
read_batch edition count bytes lists rest are few is =
    let t = lists_takes edition count bytes lists rest are is in
    and_from (is_between 1 max_warehouses (length lists)) (are_lists edition 1 lists)
    (subst (λ size. is_between 1 max_warehouses size ≡ true) (sym t.2) few) t.1

content_takes : (edition : Edition) (bytes : List ℕ) (batch : Batch) → AreBytes bytes → content_of edition bytes ≡ Some batch
    → (bytes ≡ content_bytes batch.lists) × (is_batch batch ≡ true) × (batch.edition ≡ edition)
unfolding content_of
content_takes edition bytes batch are is =
    let a = first_of (number_form 1) bytes _ batch are is in
    let b = bind_some (cond (is_between 1 max_warehouses a.0) (lists_at edition 1 a.0 a.1) None) _ batch a.4 in
    let g = chosen (is_between 1 max_warehouses a.0) (lists_at edition 1 a.0 a.1) b.0 b.1 in
    let t = lists_takes edition a.0 a.1 b.0.0 b.0.1 a.2.are_bytes g.1 in
    let e = passed (length b.0.1 == 0) (made edition b.0.0) batch b.2 in
    let none : b.0.1 ≡ [] = nil_from_length b.0.1 (eqb-true _ _ e.0) in
    let both = takes_both bytes (number_bytes 1 a.0) a.1 (flat_map list_bytes b.0.0) b.0.1 a.2 t.0 in
    let spelled : bytes ≡ number_bytes 1 a.0 ++ flat_map list_bytes b.0.0 =
    both.parts ∙ (ap (λ rest. (number_bytes 1 a.0 ++ flat_map list_bytes b.0.0) ++ rest) none
    ∙ append-nil (number_bytes 1 a.0 ++ flat_map list_bytes b.0.0)) in
    subst (λ (batch : Batch). (bytes ≡ content_bytes batch.lists) × (is_batch batch ≡ true) × (batch.edition ≡ edition)) e.1 (
      spelled ∙ ap (λ size. number_bytes 1 size ++ flat_map list_bytes b.0.0) (sym t.2),
      read_batch edition a.0 a.1 b.0.0 b.0.1 a.2.are_bytes g.0 g.1,
      refl,
    )
  where
    chosen : (test : Bool) (read : Option (List (List Commit) × List ℕ)) (y : List (List Commit) × List ℕ)
        → cond test read None ≡ Some y → (test ≡ true) × (read ≡ Some y)
    chosen true read y is = (refl, is)
    chosen false read y is = absurd cc

content_again : (batch : Batch) → is_batch batch ≡ true → content_of batch.edition (content_bytes batch.lists) ≡ Some batch
unfolding content_of
content_again batch fit =
    let edition = batch.edition in
    let lists = batch.lists in
    let parts = and_parts (is_between 1 max_warehouses (length lists)) (are_lists edition 1 lists) fit in
    let few = leb-true _ _ (and_parts (nat_le 1 (length lists)) (nat_le (length lists) max_warehouses) parts.0).1 in
    let wide : fits 1 (length batch.lists) ≡ true = lt-ltb _ _ (omega arith) in
    let all : lists_at batch.edition 1 (length batch.lists) (flat_map list_bytes batch.lists) ≡ Some (batch.lists, []) =
    ap (lists_at edition 1 (length lists)) (sym (append-nil (flat_map list_bytes lists))) ∙ lists_again edition lists [] parts.1 in
    rw ((number_form 1).again (length batch.lists) (flat_map list_bytes batch.lists) wide, parts.0, all) refl

-- ---- the mark and the end

pub length-mark : (edition : Edition) → length (mark edition) ≡ 4
length-mark editions.First = refl
length-mark editions.Second = refl

-- the bytes of a mark tell its edition, and no others do
mark_takes : (front : List ℕ) (edition : Edition) → edition_marked front ≡ Some edition → front ≡ mark edition
unfolding edition_marked
mark_takes front edition is =
    told (bytes_eq front (mark editions.First)) (bytes_eq front (mark editions.Second))
    ((bytes_eq-Decides front (mark editions.First)).0) ((bytes_eq-Decides front (mark editions.Second)).0) is
  where
    told : (first second : Bool) → (first ≡ true → front ≡ mark editions.First) → (second ≡ true → front ≡ mark editions.Second)
        → cond first (Some editions.First) (cond second (Some editions.Second) None) ≡ Some edition → front ≡ mark edition
    told true second is_first is_second is =
        is_first refl ∙ ap mark (same_some editions.First edition is)
    told false true is_first is_second is =
        is_second refl ∙ ap mark (same_some editions.Second edition is)
    told false false is_first is_second is = absurd cc

mark_again : (edition : Edition) → edition_marked (mark edition) ≡ Some edition
unfolding edition_marked
mark_again editions.First = refl
mark_again editions.Second = refl

pub marked_takes : (bytes : List ℕ) (edition : Edition) (rest : List ℕ) → AreBytes bytes
    → marked_at bytes ≡ Some (edition, rest) → Takes bytes (mark edition) rest
unfolding marked_at
marked_takes bytes edition rest are is =
    let a = bind_some (front_at 4 bytes) _ (edition, rest) is in
    let t = front_taken 4 bytes a.0.0 a.0.1 are a.1 in
    let b = bind_some (edition_marked a.0.0) (λ edition. Some (edition, a.0.1)) (edition, rest) a.2 in
    let same : a.0.0 ≡ mark b.0 = mark_takes a.0.0 b.0 b.1 in
    subst (λ (p : Edition × List ℕ). Takes bytes (mark p.0) p.1) (same_some (b.0, a.0.1) (edition, rest) b.2)
    (subst (λ front. Takes bytes front a.0.1) same t.0)

pub marked_again : (edition : Edition) (rest : List ℕ) → marked_at (mark edition ++ rest) ≡ Some (edition, rest)
unfolding marked_at
marked_again edition rest = rw (front_again 4 (mark edition) rest (length-mark edition), mark_again edition) refl

ended_takes : (bytes rest : List ℕ) → AreBytes bytes → ended_at bytes ≡ Some rest → Takes bytes (69 ∷ []) rest
unfolding ended_at number_bytes
ended_takes bytes rest are is =
    let a = first_of (number_form 1) bytes _ rest are is in
    let g = passed (a.0 == 69) a.1 rest a.4 in
    let same : a.0 ≡ 69 = eqb-true _ _ g.0 in
    subst (λ rest. Takes bytes (69 ∷ []) rest) g.1 (subst (λ last. Takes bytes (number_bytes 1 last) a.1) same a.2)

ended_again : (rest : List ℕ) → ended_at (69 ∷ rest) ≡ Some rest
unfolding ended_at number_bytes
ended_again rest = rw ((number_form 1).again 69 rest refl) refl

-- ---- batches

pub batch_takes : (bytes : List ℕ) (batch : Batch) (rest : List ℕ) → AreBytes bytes
    → batch_at bytes ≡ Some (batch, rest) → Takes bytes (batch_bytes batch) rest × (is_batch batch ≡ true)
unfolding batch_at
batch_takes bytes batch rest are is =
    let a = bind_some (marked_at bytes) _ (batch, rest) is in
    let m = marked_takes bytes a.0.0 a.0.1 are a.1 in
    let b = first_of (number_form 8) a.0.1 _ (batch, rest) m.are_bytes a.2 in
    let c = bind_some (front_at b.0 b.1) _ (batch, rest) b.4 in
    let f = front_taken b.0 b.1 c.0.0 c.0.1 b.2.are_bytes c.1 in
    let d = bind_some (content_of a.0.0 c.0.0) _ (batch, rest) c.2 in
    let t = content_takes a.0.0 c.0.0 d.0 f.1 d.1 in
    let e = bind_some (ended_at c.0.1) (λ after. Some (d.0, after)) (batch, rest) d.2 in
    let l = ended_takes c.0.1 e.0 f.0.are_bytes e.1 in
    let marked : Takes bytes (mark d.0.edition) a.0.1 = subst (λ edition. Takes bytes (mark edition) a.0.1) (sym t.2) m in
    let both = takes_both _ _ _ _ _ (takes_both _ _ _ _ _ (takes_both bytes (mark d.0.edition) a.0.1 (number_bytes 8 b.0) b.1 marked b.2) f.0) l in
    let sized : Takes bytes (mark d.0.edition ++ number_bytes 8 (length c.0.0) ++ c.0.0 ++ 69 ∷ []) e.0 =
    subst (λ size. Takes bytes (mark d.0.edition ++ number_bytes 8 size ++ c.0.0 ++ 69 ∷ []) e.0) (sym f.2) both in
    let whole : Takes bytes (batch_bytes d.0) e.0 =
    subst (λ content. Takes bytes (mark d.0.edition ++ number_bytes 8 (length content) ++ content ++ 69 ∷ []) e.0) t.0 sized in
    subst (λ (p : Batch × List ℕ). Takes bytes (batch_bytes p.0) p.1 × (is_batch p.0 ≡ true))
    (same_some (d.0, e.0) (batch, rest) e.2)
    (whole, t.1)

pub batch_again : (batch : Batch) (rest : List ℕ) → is_batch batch ≡ true
    → batch_at (batch_bytes batch ++ rest) ≡ Some (batch, rest)
unfolding batch_at
batch_again batch rest fit =
    let content = content_bytes batch.lists in
    let wide : fits 8 (length (content_bytes batch.lists)) ≡ true = lt-ltb _ _ (length-content batch fit) in
    let last = 69 ∷ rest in
    let regrouped : batch_bytes batch ++ rest
    ≡ mark batch.edition ++ (number_bytes 8 (length (content_bytes batch.lists)) ++ (content_bytes batch.lists ++ (69 ∷ rest))) =
    append_assoc (mark batch.edition ++ number_bytes 8 (length content) ++ content) (69 ∷ []) rest
    ∙ (append_assoc (mark batch.edition ++ number_bytes 8 (length content)) content last
    ∙ append_assoc (mark batch.edition) (number_bytes 8 (length content)) (content ++ last)) in
    ap batch_at regrouped
    ∙ rw (
      marked_again batch.edition (number_bytes 8 (length (content_bytes batch.lists)) ++ (content_bytes batch.lists ++ (69 ∷ rest))),
      (number_form 8).again (length (content_bytes batch.lists)) (content_bytes batch.lists ++ (69 ∷ rest)) wide,
      front_again (length (content_bytes batch.lists)) (content_bytes batch.lists) (69 ∷ rest) refl,
      content_again batch fit,
      ended_again rest,
    ) refl

pub batch_form : IsForm batch_at batch_bytes is_batch
batch_form = record { takes = batch_takes; again = batch_again }
