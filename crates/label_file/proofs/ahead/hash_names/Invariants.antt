use Rattle.std.proofs.Common.{◌≡◌, List, ◌++◌, length, take}
use Rattle.label_file.specs.declared.key.HashedName.{HashedName}
use Rattle.label_file.specs.Hashed.{AreNamesAhead}
use Rattle.label_file.proofs.ahead.hash_names.Given as goal

abbrev pub invariant-loop-i : goal.invariant-loop-i
invariant-loop-i l = (length l.names ≡ 16) × ((ns : List HashedName) → AreNamesAhead l.keyed l.left ns → AreNamesAhead l.keyed l.bytes (take l.i l.names ++ ns))
