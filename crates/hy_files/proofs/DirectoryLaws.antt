-- Laws on the files of a directory.
use Rattle.std.proofs.Common.{◌≡◌, inl, inr, ℕ, suc, zero, ◌+◌, ◌<◌, Bool, true, false, not, ◌&&◌, IsErrAnd, IfErr, List, [], ◌∷◌, ◌++◌, get_or, take, refl, ap, subst, sym, arith, ◌∙◌}
use Rattle.std.specs.Prelude.{◌≢◌, ◌⊎◌, Option, None, Some, Result, Ok, Err, codes}
use Rattle.std.specs.List.{AllByRecursion, list_all}
use Rattle.std.specs.Str.{bytes_eq}
use Rattle.std.proofs.lemmas.Bool.{false≢true}
use Rattle.std.proofs.lemmas.List.{append_cancel_left}
use Rattle.std.proofs.lemmas.Option.{slice_get-get_or}
use Rattle.std.proofs.lemmas.Slice.Eq.{bytes_eq-Decides}
use Rattle.hy_rows.specs.declared.catalogue.TheConstants.{TABLES}
use Rattle.hy_rows.specs.declared.catalogue.Table.{Table}
use Rattle.hy_rows.specs.declared.catalogue.Table.TheVariants as table
use Rattle.hy_schema.specs.declared.refusal.Refusal.TheVariants as refusals
use Rattle.hy_files.specs.declared.directory.FileFault.{FileFault}
use Rattle.hy_files.specs.declared.directory.FileFault.TheVariants as fault
use Rattle.hy_rows.specs.Catalogue.{file_of, tables_by_file}
use Rattle.hy_files.specs.Directory.{AreFiles, KeepsOtherFiles, path_of}
use Rattle.hy_files.specs.Faults.{IsUnread, IsUnwritten}
use Rattle.hy_files.specs.Files.{FilesByPath, HasFile, IsMissing, KeepsOthers}

-- the error that a `?` hands on
pub IfErr-this : {T E : Type 0} (answer : Result T E) (value : E) (P : E → Type 0)
    → IsErrAnd answer (λ error. error ≡ value) → P value → IfErr answer P
IfErr-this (Ok found) value P is holds = tt
IfErr-this (Err error) value P is holds = subst P (sym is) holds

-- one file more
pub AreFiles-push : (known : Option FilesByPath) (directory : List ℕ) (before : List Table) (texts : List (List ℕ))
    (table : Table) (text : List ℕ) → AreFiles known directory before texts
    → HasFile known (path_of directory table) text
    → AreFiles known directory (before ++ table ∷ []) (texts ++ text ∷ [])
AreFiles-push known directory [] [] table text files here = (here, tt)
AreFiles-push known directory [] (first ∷ texts) table text files here = absurd files
AreFiles-push known directory (first ∷ before) [] table text files here = absurd files
AreFiles-push known directory (first ∷ before) (one ∷ texts) table text files here =
    (files.0, AreFiles-push known directory before texts table text files.1 here)

-- the fault of the file at a number is one of the files, where those before it were read
pub IsUnread-at : (known : Option FilesByPath) (directory : List ℕ) (texts : List (List ℕ)) (number : ℕ)
    (why : FileFault) → number < TABLES → AreFiles known directory (take number tables_by_file) texts
    → (why ≡ fault.Refused refusals.NoMemory)
    ⊎ ((why ≡ fault.CannotRead (get_or tables_by_file number table.Warehouse))
    × IsMissing known (path_of directory (get_or tables_by_file number table.Warehouse)))
    → IsUnread known directory why
IsUnread-at known directory texts number why within files (inl memory) =
    subst (IsUnread known directory) (sym memory) refl
IsUnread-at known directory texts number why within files (inr missing) =
    subst (IsUnread known directory) (sym missing.0)
    (number, slice_get-get_or tables_by_file number table.Warehouse within, missing.1, texts, files)

-- and where those before it were written, and those behind it weren't
pub IsUnwritten-at : (old new : Option FilesByPath) (directory : List ℕ) (texts : List (List ℕ)) (number : ℕ)
    (why : FileFault) → number < TABLES → AreFiles new directory (take number tables_by_file) (take number texts)
    → KeepsOtherFiles old new directory (take (number + 1) tables_by_file)
    → (why ≡ fault.Refused refusals.NoMemory) ⊎ (why ≡ fault.CannotWrite (get_or tables_by_file number table.Warehouse))
    → IsUnwritten old new directory texts why
IsUnwritten-at old new directory texts number why within files others (inl memory) =
    subst (IsUnwritten old new directory texts) (sym memory)
    (refl, inr (get_or tables_by_file number table.Warehouse, (number, slice_get-get_or tables_by_file number table.Warehouse within, files, others)))
IsUnwritten-at old new directory texts number why within files others (inr unwritten) =
    subst (IsUnwritten old new directory texts) (sym unwritten)
    (number, slice_get-get_or tables_by_file number table.Warehouse within, files, others)

-- files with different names have different paths
path-differs : (directory : List ℕ) (table other : Table) → not (bytes_eq (file_of other) (file_of table)) ≡ true
    → path_of directory other ≢ path_of directory table
path-differs directory table other differs same =
    let name : file_of other ≡ file_of table =
    append_cancel_left (directory ++ codes "/") (file_of other) (file_of table) same in
    false≢true (ap not (sym ((bytes_eq-Decides (file_of other) (file_of table)).1 name)) ∙ differs)

-- no table before a number has the file of the table at that number
pub names-differ : (number : ℕ) → number < TABLES
    → list_all (λ other. not (bytes_eq (file_of other) (file_of (get_or tables_by_file number table.Warehouse))))
    (take number tables_by_file) ≡ true
names-differ zero within = refl
names-differ (suc zero) within = refl
names-differ (suc (suc zero)) within = refl
names-differ (suc (suc (suc zero))) within = refl
names-differ (suc (suc (suc (suc zero)))) within = refl
names-differ (suc (suc (suc (suc (suc zero))))) within = refl
names-differ (suc (suc (suc (suc (suc (suc zero)))))) within = refl
names-differ (suc (suc (suc (suc (suc (suc (suc zero))))))) within = refl
names-differ (suc (suc (suc (suc (suc (suc (suc (suc zero)))))))) within = refl
names-differ (suc (suc (suc (suc (suc (suc (suc (suc (suc number))))))))) within = absurd (omega arith)

-- a file stays where another one is written
HasFile-kept : (old new : Option FilesByPath) (path other bytes : List ℕ) → other ≢ path → KeepsOthers old new path
    → HasFile old other bytes → HasFile new other bytes
HasFile-kept None None path other bytes differs keeps here = tt
HasFile-kept None (Some new) path other bytes differs keeps here = absurd keeps
HasFile-kept (Some old) None path other bytes differs keeps here = absurd keeps
HasFile-kept (Some old) (Some new) path other bytes differs keeps here = keeps other differs ∙ here

and_parts : (a b : Bool) → a && b ≡ true → (a ≡ true) × (b ≡ true)
and_parts true true both = (refl, refl)
and_parts true false both = absurd (false≢true both)
and_parts false b both = absurd (false≢true both)

-- files stay where one with another name is written
pub AreFiles-kept : (old new : Option FilesByPath) (directory : List ℕ) (table : Table) (before : List Table)
    (texts : List (List ℕ))
    → list_all (λ other. not (bytes_eq (file_of other) (file_of table))) before ≡ true
    → KeepsOthers old new (path_of directory table)
    → AreFiles old directory before texts → AreFiles new directory before texts
AreFiles-kept old new directory table [] [] differ keeps files = tt
AreFiles-kept old new directory table [] (first ∷ texts) differ keeps files = absurd files
AreFiles-kept old new directory table (first ∷ before) [] differ keeps files = absurd files
AreFiles-kept old new directory table (first ∷ before) (one ∷ texts) differ keeps files =
    let both = and_parts _ _ differ in (
      HasFile-kept old new (path_of directory table) (path_of directory first) one
          (path-differs directory table first both.0) keeps files.0,
      AreFiles-kept old new directory table before texts both.1 keeps files.1,
    )

-- what holds of each of a list and one more
AllByRecursion-front : {X : Type 0} (P : X → Type 0) (front : List X) (last : X)
    → AllByRecursion P (front ++ last ∷ []) → AllByRecursion P front × P last
AllByRecursion-front P [] last all = (tt, all.0)
AllByRecursion-front P (first ∷ front) last all =
    let later = AllByRecursion-front P front last all.1 in ((all.0, later.0), later.1)

AllByRecursion-take : {X : Type 0} (P : X → Type 0) (count : ℕ) (list : List X)
    → AllByRecursion P list → AllByRecursion P (take count list)
AllByRecursion-take P zero list all = tt
AllByRecursion-take P (suc count) [] all = tt
AllByRecursion-take P (suc count) (first ∷ list) all = (all.0, AllByRecursion-take P count list all.1)

-- the other files stay where one more of the directory is written
pub KeepsOtherFiles-push : (old now new : Option FilesByPath) (directory : List ℕ) (written : List Table)
    (table : Table) → KeepsOtherFiles old now directory written → KeepsOthers now new (path_of directory table)
    → KeepsOtherFiles old new directory (written ++ table ∷ [])
KeepsOtherFiles-push None None None directory written table keeps more = tt
KeepsOtherFiles-push None None (Some new) directory written table keeps more = absurd more
KeepsOtherFiles-push None (Some now) new directory written table keeps more = absurd keeps
KeepsOtherFiles-push (Some old) None new directory written table keeps more = absurd keeps
KeepsOtherFiles-push (Some old) (Some now) None directory written table keeps more = absurd more
KeepsOtherFiles-push (Some old) (Some now) (Some new) directory written table keeps more =
    λ other differs.
    let both = AllByRecursion-front (λ one. other ≢ path_of directory one) written table differs in
    more other both.1 ∙ keeps other both.0

-- files that are none of a directory's are none of its first ones
pub KeepsOtherFiles-take : (old new : Option FilesByPath) (directory : List ℕ) (count : ℕ) (written : List Table)
    → KeepsOtherFiles old new directory (take count written) → KeepsOtherFiles old new directory written
KeepsOtherFiles-take None None directory count written keeps = tt
KeepsOtherFiles-take None (Some new) directory count written keeps = absurd keeps
KeepsOtherFiles-take (Some old) None directory count written keeps = absurd keeps
KeepsOtherFiles-take (Some old) (Some new) directory count written keeps =
    λ other differs.
    keeps other (AllByRecursion-take (λ one. other ≢ path_of directory one) count written differs)
