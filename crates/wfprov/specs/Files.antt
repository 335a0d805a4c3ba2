-- Files that were noted.
use Rattle.std.specs.Prelude.{Bool, List, ◌==◌, ◌&&◌}
use Rattle.std.specs.List.{list_any}
use Rattle.wfprov.specs.declared.read_once.FileId.{FileId}

-- the file is one of these
abbrev pub is_noted : FileId → List FileId → Bool
is_noted id ids = list_any (λ other. (other.device == id.device) && (other.inode == id.inode)) ids
