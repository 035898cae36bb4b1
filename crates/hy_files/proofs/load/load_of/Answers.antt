use Rattle.std.proofs.Common.{◌≡◌, MatchResult, map, subst, arith}
use Rattle.hy_schema.specs.Loads.{IsLoad, all_whole}
use Rattle.hy_loads.specs.Checks.{IsRefusalOf}
use Rattle.hy_tables.specs.Files.{ends_read, lists_read}
use Rattle.hy_files.proofs.LoadLaws.{readings-nine, text-at}
use Rattle.hy_files.proofs.load.load_of.Goals as goal

-- the texts that are read are the nine of the list, in their order
pub returns : goal.returns
returns c =
    let all = c.args.texts.now in
    subst
    (λ readings.
    MatchResult c.load.result
    (λ load. (load ≡ lists_read readings) × (ends_read readings ≡ all_whole) × IsLoad (lists_read readings))
    (IsRefusalOf (ends_read readings) (lists_read readings)))
    (readings-nine (map (λ text. text.items) all) _ _ _ _ _ _ _ _ _
    (text-at (λ text. text.items) all 0 c.index-texts-0.result _ (omega arith) c.index-texts-0.is c.deref.ensures.value)
    (text-at (λ text. text.items) all 1 c.index-texts-1.result _ (omega arith) c.index-texts-1.is c.deref-2.ensures.value)
    (text-at (λ text. text.items) all 2 c.index-texts-2.result _ (omega arith) c.index-texts-2.is c.deref-3.ensures.value)
    (text-at (λ text. text.items) all 3 c.index-texts-3.result _ (omega arith) c.index-texts-3.is c.deref-4.ensures.value)
    (text-at (λ text. text.items) all 4 c.index-texts-4.result _ (omega arith) c.index-texts-4.is c.deref-5.ensures.value)
    (text-at (λ text. text.items) all 5 c.index-texts-5.result _ (omega arith) c.index-texts-5.is c.deref-6.ensures.value)
    (text-at (λ text. text.items) all 6 c.index-texts-6.result _ (omega arith) c.index-texts-6.is c.deref-7.ensures.value)
    (text-at (λ text. text.items) all 7 c.index-texts-7.result _ (omega arith) c.index-texts-7.is c.deref-8.ensures.value)
    (text-at (λ text. text.items) all 8 c.index-texts-8.result _ (omega arith) c.index-texts-8.is c.deref-9.ensures.value))
    c.load.ensures
