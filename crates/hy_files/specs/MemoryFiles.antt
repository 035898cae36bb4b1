-- Files in memory.
use Rattle.std.specs.Prelude.{option_map}
use Rattle.std.specs.BTreeMap.{get_by_text}
use Rattle.hy_files.specs.declared.memory.MemoryFiles.{MemoryFiles}
use Rattle.hy_files.specs.Files.{FilesByPath}

-- the files in memory, by their paths
abbrev pub files_on : MemoryFiles → FilesByPath
files_on memory path = option_map (λ bytes. bytes.items) (get_by_text memory.files path)
