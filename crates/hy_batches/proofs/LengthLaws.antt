-- How long the bytes of a batch can be.
use Rattle.std.proofs.Common.{◌≡◌, ℕ, ◌+◌, ◌*◌, ◌^◌, ◌<◌, ◌≤◌, Bool, true, ◌&&◌, List, [], ◌∷◌, length, ap, ◌∙◌, arith, length-append}
use Rattle.std.specs.Prelude.{nat_le, not}
use Rattle.std.specs.List.{flat_map, list_all}
use Rattle.std.proofs.lemmas.Bool.{and_parts, leb-true, ltb-true}
use Rattle.std.proofs.lemmas.List.Concat.{flat_map-cons}
use Rattle.hy_rows.specs.Limits.{max_warehouses}
use Rattle.hy_rows.specs.Ranges.{is_between}
use Rattle.hy_commands.specs.declared.command.Commit.{Commit}
use Rattle.hy_commands.specs.declared.command.Commit.TheVariants as commits
use Rattle.hy_commands.specs.declared.edition.Edition.{Edition}
use Rattle.hy_commands.specs.Commands.{is_in_range}
use Rattle.hy_commands.specs.Parts.{is_by_number}
use Rattle.hy_batches.specs.Batches.{Batch, is_edition}
use Rattle.hy_batches.specs.Encoding.{command_bytes, commit_bytes, content_bytes, list_bytes, number_bytes}
use Rattle.hy_batches.specs.Grammar.{are_lists, command_fits, commit_fits, fits, is_allowed, is_batch, is_commit, is_list, names, names_several}
use Rattle.hy_batches.proofs.CommandForms.{length-command, length-number_bytes, length-rows}
use Rattle.hy_batches.proofs.FormLaws.{three}

-- the first of the tests of a commit
pub allowed_range : (a b c d e : Bool) → (a && b && c && d && e) ≡ true → a ≡ true
allowed_range a b c d e h = (three a b c (and_parts (a && b && c) d (and_parts (a && b && c && d) e h).0).0).0

length-commit : (edition : Edition) (warehouse : ℕ) (commit : Commit) → is_commit edition warehouse commit ≡ true
    → length (commit_bytes commit) ≤ 128
length-commit edition warehouse (commits.Local own command) fit =
    let commit = commits.Local own command in
    let tests = three (is_edition own edition) (is_allowed warehouse commit) (command_fits command) fit in
    let parts = three (is_in_range command) (names command warehouse) (not (names_several command)) tests.1 in
    omega (arith, length-command command parts.0)
length-commit edition warehouse (commits.Cross own number command) fit =
    let commit = commits.Cross own number command in
    let tests = three (is_edition own edition) (is_allowed warehouse commit) (commit_fits commit) fit in
    let in_range = allowed_range (is_in_range command) (names command warehouse) (names_several command) (nat_le 1 number) (is_by_number command) tests.1 in
    omega (arith, length-command command in_range, length-append (number_bytes 8 number) (command_bytes command), length-number_bytes 8 number)

length-list : (edition : Edition) (warehouse : ℕ) (commits : List Commit) → is_list edition warehouse commits ≡ true
    → length (list_bytes commits) ≤ 2 ^ 40
length-list edition warehouse commits fit =
    let parts = and_parts (fits 4 (length commits)) (list_all (is_commit edition warehouse) commits) fit in
    let few = ltb-true _ _ parts.0 in
    let rows = length-rows commit_bytes (is_commit edition warehouse) 128 (length-commit edition warehouse) commits parts.1 in
    omega (arith, length-append (number_bytes 4 (length commits)) (flat_map commit_bytes commits), length-number_bytes 4 (length commits))

length-lists : (edition : Edition) (warehouse : ℕ) (lists : List (List Commit)) → are_lists edition warehouse lists ≡ true
    → length (flat_map list_bytes lists) ≤ 2 ^ 40 * length lists
length-lists edition warehouse [] fit = omega arith
length-lists edition warehouse (commits ∷ lists) fit =
    let parts = and_parts (is_list edition warehouse commits) (are_lists edition (warehouse + 1) lists) fit in
    let one = length-list edition warehouse commits parts.0 in
    let others = length-lists edition (warehouse + 1) lists parts.1 in
    let whole : length (flat_map list_bytes (commits ∷ lists)) ≡ length (list_bytes commits) + length (flat_map list_bytes lists) =
    ap length (flat_map-cons list_bytes commits lists) ∙ length-append (list_bytes commits) (flat_map list_bytes lists) in
    omega arith

-- the length of a content has its eight bytes
pub length-content : (batch : Batch) → is_batch batch ≡ true → length (content_bytes batch.lists) < 256 ^ 8
length-content batch fit =
    let lists = batch.lists in
    let parts = and_parts (is_between 1 max_warehouses (length lists)) (are_lists batch.edition 1 lists) fit in
    let few = leb-true _ _ (and_parts (nat_le 1 (length lists)) (nat_le (length lists) max_warehouses) parts.0).1 in
    omega (arith, length-lists batch.edition 1 lists parts.1, length-append (number_bytes 1 (length lists)) (flat_map list_bytes lists), length-number_bytes 1 (length lists))
