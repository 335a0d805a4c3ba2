-- How bytes that are no package are told.
use Rattle.std.specs.Prelude.{ℕ, List, codes}
use Rattle.package_file.specs.declared.fault.PackFault.{PackFault}
use Rattle.package_file.specs.declared.fault.PackFault.TheVariants.{NotJson, NotPackage, BadPackage, NoMemory}

-- the name of a fault of a package
abbrev pub pack_name : PackFault → List ℕ
pack_name NotJson = codes "NotJson"
pack_name NotPackage = codes "NotPackage"
pack_name BadPackage = codes "BadPackage"
pack_name NoMemory = codes "NoMemory"
