-- Bytes have an outcome: they tell a package, or have a fault.
use Rattle.std.specs.Prelude.{◌≢◌, ◌⊎◌, ℕ, List}
use Rattle.package_file.specs.declared.parts.PackageParts.{PackageParts}
use Rattle.package_file.specs.declared.fault.PackFault.{PackFault}
use Rattle.package_file.specs.declared.fault.PackFault.TheVariants.{NoMemory}
use Rattle.package_file.specs.Form.{TellsParts}
use Rattle.package_file.specs.Packed.{ArePackage, IsFaultOfBytes}

-- bytes tell the parts of a package, or there is a reason why they are none
abbrev pub PackageOrFaultLaw : Type 0
PackageOrFaultLaw =
    (bytes : List ℕ) → ((x : PackageParts) × TellsParts bytes x × ArePackage x) ⊎ ((f : PackFault) × (f ≢ NoMemory) × IsFaultOfBytes bytes f)
