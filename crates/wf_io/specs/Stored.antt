-- What the shelves and sinks in memory hold.
use Rattle.std.specs.Prelude.{ℕ, true, false, List, [], ◌∷◌, if◌then◌else◌}
use Rattle.std.specs.Str.{bytes_eq}
use Rattle.wf_io.specs.Told.{File}
use Rattle.wf_io.specs.declared.mem_shelf.MemFile.{MemFile}
use Rattle.wf_io.specs.declared.plain_shelf.PlainFile.{PlainFile}

-- the file of that name: the first, and where there is none it is empty and broken
abbrev pub stored : List MemFile → List ℕ → File
stored [] name = record { bytes = []; broken = true }
stored (f ∷ fs) name = if bytes_eq f.name name then record { bytes = f.bytes; broken = f.broken } else stored fs name

-- the whole file of that name: the first, and where there is none it is empty
abbrev pub stored_whole : List PlainFile → List ℕ → File
stored_whole [] name = record { bytes = []; broken = false }
stored_whole (f ∷ fs) name = if bytes_eq f.name name then record { bytes = f.bytes; broken = false } else stored_whole fs name

-- a shelf in memory: its files, the most bytes that a call reads, and how often a call failed
pub record Stock : Type 0 where
  pub files : List MemFile
  pub piece : ℕ
  pub faults : ℕ

-- a shelf in memory with a fuse: the shelf, and how many calls are still passed on to it
pub record Fuse : Type 0 where
  pub stock : Stock
  pub calls : ℕ

-- a sink in memory: the bytes that were put, its room, and how often a call failed
pub record Written : Type 0 where
  pub bytes : List ℕ
  pub room : ℕ
  pub faults : ℕ
