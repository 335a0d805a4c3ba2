-- The laws of the grammar of a package, together.
use Rattle.std.proofs.Common.{ℕ, List}
use Rattle.wf_model.specs.Grammar.{Grammar}
use Rattle.wf_model.specs.WellFormed.{IsWellFormed}
use Rattle.wf_model.specs.Proper.{IsProper}
use Rattle.wf_model.specs.View.{View}
use Rattle.wf_model.specs.DefaultView.{default_view}
use Rattle.wf_model.specs.Safe.{IsSafe}
use Rattle.wf_model.specs.Finishing.{ExpandsComposites}
use Rattle.wf_laws.proofs.Full.{full_law, safe_full_law}
use Rattle.wf_laws.proofs.Safe.{one_test_suffices}
use Rattle.version_model.proofs.Standing.{standing_law, standing_route_law, agree_too}
use Rattle.package_model.specs.Shown.{AreSeen, place_in}
use Rattle.package_model.specs.Laws.{packaged, PackageLaw}
use Rattle.package_model.proofs.PackageParts.{package_stands}
use Rattle.package_model.proofs.PackageBack.{package_proper, package_linear, package_induced, agree_back}
use Rattle.package_model.proofs.PackageFormed.{package_formed}

-- the default view is safe where the view is
package_safe : (g : Grammar) (u : View) (ms ps : List ℕ) → ExpandsComposites g u → AreSeen g u ms ps → IsWellFormed g → IsProper g → IsSafe g u → IsSafe (packaged g u ms ps) (default_view (packaged g u ms ps))
package_safe g u ms ps ec s wf proper safe k sk a b xa xb i o hi ho q =
    let full = safe_full_law g u wf proper ec safe in
    let ind = package_induced g u ms ps ec s full.0 ((full_law g u full.0 wf proper ec).0 full.1) in
    let here = one_test_suffices (packaged g u ms ps) (default_view (packaged g u ms ps)) _ (package_formed g u ms ps ec s wf) ind k sk in
    (here b xb i o hi ho).0 ((here a xa i o hi ho).1 q)

pub package_law : PackageLaw
package_law g u ms ps ec s = record {
  formed = package_formed g u ms ps ec s;
  proper = package_proper g u ms ps ec s;
  linear = package_linear g u ms ps ec s;
  stands = package_stands g u ms ps ec s;
  induced = package_induced g u ms ps ec s;
  safe = package_safe g u ms ps ec s;
  reach = λ d e proper ind ind2. standing_law g u (packaged g u ms ps) (default_view (packaged g u ms ps)) (place_in ms) (place_in ps) proper ec (package_stands g u ms ps ec s) d e ind ind2;
  open_routes = λ a r. standing_route_law g u (packaged g u ms ps) (default_view (packaged g u ms ps)) (place_in ms) (place_in ps) (package_stands g u ms ps ec s) a r;
  agree = λ a b ra rb. (agree_too (place_in ps) a b, agree_back g u ms ps ec s a b g.start g.start ra rb);
}
