-- The forms of commits and of their lists.
use Rattle.std.proofs.Common.{◌≡◌, ℕ, zero, suc, true, cond, List, [], ◌∷◌, ◌++◌, length, None, Some, refl, sym, ap, subst, ◌∙◌, append_assoc}
use Rattle.std.specs.Prelude.{nat_le, not}
use Rattle.std.specs.List.{flat_map, list_all}
use Rattle.std.proofs.lemmas.Bool.{and_from, and_parts}
use Rattle.hy_page.specs.Bytes.{AreBytes}
use Rattle.hy_commands.specs.declared.command.Commit.{Commit}
use Rattle.hy_commands.specs.declared.command.Commit.TheVariants as commits
use Rattle.hy_commands.specs.declared.edition.Edition.{Edition}
use Rattle.hy_commands.specs.declared.edition.Edition.TheVariants as editions
use Rattle.hy_commands.specs.Commands.{edition_of, is_in_range}
use Rattle.hy_commands.specs.Parts.{is_by_number}
use Rattle.hy_batches.specs.Batches.{is_edition}
use Rattle.hy_batches.specs.Encoding.{command_bytes, commit_bytes, list_bytes, number_bytes}
use Rattle.hy_batches.specs.Grammar.{are_lists, command_fits, commit_fits, fits, is_allowed, is_commit, is_list, names, names_several}
use Rattle.hy_batches.specs.inside.Reading.{any_commit_at, command_at, commit_at, commits_at, list_at, lists_at}
use Rattle.hy_batches.proofs.FormLaws.{AreBytes-rest, IsForm, Takes, bind_some, first_of, number_form, passed, same_some, takes_both, takes_byte, all_three, three}
use Rattle.hy_batches.proofs.CommandForms.{command_again, command_takes}
use Rattle.hy_batches.proofs.LengthLaws.{allowed_range}
use Rattle.hy_batches.proofs.RowForms.{rows_again, rows_takes}
use Rattle.hy_batches.proofs.RowReading.{commit_of, commits_of, more_commits, more_lists, no_commits, no_lists}

-- ---- editions

-- an edition is itself, and no other
pub same_edition : (edition : Edition) → is_edition edition edition ≡ true
same_edition editions.First = refl
same_edition editions.Second = refl

pub edition_is : (one other : Edition) → is_edition one other ≡ true → one ≡ other
edition_is editions.First editions.First same = refl
edition_is editions.First editions.Second same = absurd cc
edition_is editions.Second editions.First same = absurd cc
edition_is editions.Second editions.Second same = refl

-- ---- commits

any_commit_takes : (edition : Edition) (bytes : List ℕ) (commit : Commit) (rest : List ℕ) → AreBytes bytes
    → any_commit_at edition bytes ≡ Some (commit, rest)
    → Takes bytes (commit_bytes commit) rest × (commit_fits commit ≡ true) × (edition_of commit ≡ edition)
unfolding any_commit_at
any_commit_takes edition [] commit rest are is = absurd cc
any_commit_takes edition (zero ∷ bytes) commit rest are is =
    let a = bind_some (command_at bytes) (λ command. Some (commits.Local edition command.0, command.1)) (commit, rest) is in
    let t = command_takes bytes a.0.0 a.0.1 (AreBytes-rest 0 bytes are) a.1 in
    subst (λ (p : Commit × List ℕ). Takes (0 ∷ bytes) (commit_bytes p.0) p.1 × (commit_fits p.0 ≡ true) × (edition_of p.0 ≡ edition))
    (same_some (commits.Local edition a.0.0, a.0.1) (commit, rest) a.2)
    (takes_byte 0 bytes (command_bytes a.0.0) a.0.1 t.0, t.1, refl)
any_commit_takes edition (suc zero ∷ bytes) commit rest are is =
    let a = first_of (number_form 8) bytes _ (commit, rest) (AreBytes-rest 1 bytes are) is in
    let b = bind_some (command_at a.1) (λ command. Some (commits.Cross edition a.0 command.0, command.1)) (commit, rest) a.4 in
    let t = command_takes a.1 b.0.0 b.0.1 a.2.are_bytes b.1 in
    let both = takes_both bytes (number_bytes 8 a.0) a.1 (command_bytes b.0.0) b.0.1 a.2 t.0 in
    subst (λ (p : Commit × List ℕ). Takes (1 ∷ bytes) (commit_bytes p.0) p.1 × (commit_fits p.0 ≡ true) × (edition_of p.0 ≡ edition))
    (same_some (commits.Cross edition a.0 b.0.0, b.0.1) (commit, rest) b.2) (
      takes_byte 1 bytes (number_bytes 8 a.0 ++ command_bytes b.0.0) b.0.1 both,
      and_from (fits 8 a.0) (command_fits b.0.0) a.3 t.1,
      refl,
    )
any_commit_takes edition (suc (suc tag) ∷ bytes) commit rest are is = absurd cc

any_commit_again : (edition : Edition) (warehouse : ℕ) (commit : Commit) (rest : List ℕ) → is_commit edition warehouse commit ≡ true
    → any_commit_at edition (commit_bytes commit ++ rest) ≡ Some (commit, rest)
unfolding any_commit_at
any_commit_again edition warehouse (commits.Local own command) rest fit =
    let commit = commits.Local own command in
    let tests = three (is_edition own edition) (is_allowed warehouse commit) (command_fits command) fit in
    let parts = three (is_in_range command) (names command warehouse) (not (names_several command)) tests.1 in
    rw (command_again command rest tests.2 parts.0)
    (ap (λ edition. Some (commits.Local edition command, rest)) (sym (edition_is own edition tests.0)))
any_commit_again edition warehouse (commits.Cross own number command) rest fit =
    let commit = commits.Cross own number command in
    let tests = three (is_edition own edition) (is_allowed warehouse commit) (commit_fits commit) fit in
    let in_range = allowed_range (is_in_range command) (names command warehouse) (names_several command) (nat_le 1 number) (is_by_number command) tests.1 in
    let wide = and_parts (fits 8 number) (command_fits command) tests.2 in
    let regrouped : commit_bytes (commits.Cross own number command) ++ rest ≡ 1 ∷ (number_bytes 8 number ++ (command_bytes command ++ rest)) =
    ap (λ bytes. 1 ∷ bytes) (append_assoc (number_bytes 8 number) (command_bytes command) rest) in
    ap (any_commit_at edition) regrouped
    ∙ rw ((number_form 8).again number (command_bytes command ++ rest) wide.0, command_again command rest wide.1 in_range)
    (ap (λ edition. Some (commits.Cross edition number command, rest)) (sym (edition_is own edition tests.0)))

commit_takes : (edition : Edition) (warehouse : ℕ) (bytes : List ℕ) (commit : Commit) (rest : List ℕ) → AreBytes bytes
    → commit_at edition warehouse bytes ≡ Some (commit, rest)
    → Takes bytes (commit_bytes commit) rest × (is_commit edition warehouse commit ≡ true)
unfolding commit_at
commit_takes edition warehouse bytes commit rest are is =
    let a = bind_some (any_commit_at edition bytes) (λ commit. cond (is_allowed warehouse commit.0) (Some commit) None) (commit, rest) is in
    let t = any_commit_takes edition bytes a.0.0 a.0.1 are a.1 in
    let g = passed (is_allowed warehouse a.0.0) a.0 (commit, rest) a.2 in
    let own : is_edition (edition_of a.0.0) edition ≡ true =
    ap (λ own. is_edition own edition) t.2 ∙ same_edition edition in
    subst (λ (p : Commit × List ℕ). Takes bytes (commit_bytes p.0) p.1 × (is_commit edition warehouse p.0 ≡ true)) g.1
    (t.0, all_three (is_edition (edition_of a.0.0) edition) (is_allowed warehouse a.0.0) (commit_fits a.0.0) own g.0 t.1)

commit_again : (edition : Edition) (warehouse : ℕ) (commit : Commit) (rest : List ℕ) → is_commit edition warehouse commit ≡ true
    → commit_at edition warehouse (commit_bytes commit ++ rest) ≡ Some (commit, rest)
unfolding commit_at
commit_again edition warehouse commit rest fit =
    let tests = three (is_edition (edition_of commit) edition) (is_allowed warehouse commit) (commit_fits commit) fit in
    rw (any_commit_again edition warehouse commit rest fit, tests.1) refl

commit_form : (edition : Edition) (warehouse number : ℕ)
    → IsForm (commit_of edition warehouse number) commit_bytes (is_commit edition warehouse)
commit_form edition warehouse number = record { takes = commit_takes edition warehouse; again = commit_again edition warehouse }

-- ---- the list of a warehouse

list_takes : (edition : Edition) (warehouse : ℕ) (bytes : List ℕ) (commits : List Commit) (rest : List ℕ) → AreBytes bytes
    → list_at edition warehouse bytes ≡ Some (commits, rest)
    → Takes bytes (list_bytes commits) rest × (is_list edition warehouse commits ≡ true)
unfolding list_at
list_takes edition warehouse bytes commits rest are is =
    let a = first_of (number_form 4) bytes (λ count. commits_at edition warehouse count.0 count.1) (commits, rest) are is in
    let t = rows_takes (commit_of edition warehouse) (commits_of edition warehouse) (no_commits edition warehouse) (more_commits edition warehouse) commit_bytes
    (λ number. is_commit edition warehouse) (λ number. list_all (is_commit edition warehouse)) (λ number. refl)
    (λ number commit commits. refl) (commit_form edition warehouse) 0 a.0 a.1 commits rest a.2.are_bytes a.4 in
    let both = takes_both bytes (number_bytes 4 a.0) a.1 (flat_map commit_bytes commits) rest a.2 t.0 in (
      subst (λ size. Takes bytes (number_bytes 4 size ++ flat_map commit_bytes commits) rest) (sym t.2) both,
      and_from (fits 4 (length commits)) (list_all (is_commit edition warehouse) commits)
          (subst (λ size. fits 4 size ≡ true) (sym t.2) a.3) t.1,
    )

list_again : (edition : Edition) (warehouse : ℕ) (commits : List Commit) (rest : List ℕ) → is_list edition warehouse commits ≡ true
    → list_at edition warehouse (list_bytes commits ++ rest) ≡ Some (commits, rest)
unfolding list_at
list_again edition warehouse commits rest fit =
    let parts = and_parts (fits 4 (length commits)) (list_all (is_commit edition warehouse) commits) fit in
    ap (list_at edition warehouse) (append_assoc (number_bytes 4 (length commits)) (flat_map commit_bytes commits) rest)
    ∙ rw ((number_form 4).again (length commits) (flat_map commit_bytes commits ++ rest) parts.0)
    (rows_again (commit_of edition warehouse) (commits_of edition warehouse) (no_commits edition warehouse) (more_commits edition warehouse) commit_bytes
    (λ number. is_commit edition warehouse) (λ number. list_all (is_commit edition warehouse)) (λ number. refl)
    (λ number commit commits. refl) (commit_form edition warehouse) 0 commits rest parts.1)

list_form : (edition : Edition) (warehouse : ℕ) → IsForm (list_at edition warehouse) list_bytes (is_list edition warehouse)
list_form edition warehouse = record { takes = list_takes edition warehouse; again = list_again edition warehouse }

-- ---- the lists of all warehouses

pub lists_takes : (edition : Edition) (count : ℕ) (bytes : List ℕ) (lists : List (List Commit)) (rest : List ℕ) → AreBytes bytes
    → lists_at edition 1 count bytes ≡ Some (lists, rest)
    → Takes bytes (flat_map list_bytes lists) rest × (are_lists edition 1 lists ≡ true) × (length lists ≡ count)
lists_takes edition count bytes lists rest are is =
    rows_takes (list_at edition) (lists_at edition) (no_lists edition) (more_lists edition) list_bytes (is_list edition) (are_lists edition)
    (λ number. refl) (λ number commits lists. refl) (list_form edition) 1 count bytes lists rest are is

pub lists_again : (edition : Edition) (lists : List (List Commit)) (rest : List ℕ) → are_lists edition 1 lists ≡ true
    → lists_at edition 1 (length lists) (flat_map list_bytes lists ++ rest) ≡ Some (lists, rest)
lists_again edition lists rest fit =
    rows_again (list_at edition) (lists_at edition) (no_lists edition) (more_lists edition) list_bytes (is_list edition) (are_lists edition)
    (λ number. refl) (λ number commits lists. refl) (list_form edition) 1 lists rest fit
