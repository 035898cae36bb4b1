-- A new entry changes what stands at its own path alone.
use Rattle.std.proofs.Common.{◌≡◌, arith, ap}
use Rattle.std.specs.Prelude.{option_map}
use Rattle.std.specs.BTreeMap.{get_by_text}
use Rattle.std.proofs.lemmas.Map.Text.{text_keys}
use Rattle.hy_files.proofs.memory.MemoryFiles.put.Goals as goal

pub returns-clause-others : goal.returns-clause-others
returns-clause-others c = λ other differs.
    let same : get_by_text c.insert.new.self other ≡ get_by_text c.args.self.now.files other =
    grind (arith, text_keys, differs) in
    ap (option_map (λ bytes. bytes.items)) same
