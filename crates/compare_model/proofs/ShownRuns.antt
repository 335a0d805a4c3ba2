-- The run that shows a pair is accepted, and both views see its instance.
use Rattle.std.proofs.Common.{ℕ, ◌<◌, ◌≤◌, List, [], ◌∷◌, length, sym, subst, arith}
use Rattle.wf_model.specs.Lists.{IsIn}
use Rattle.wf_model.specs.Grammar.{Grammar}
use Rattle.wf_model.specs.View.{View}
use Rattle.wf_model.specs.Run.{IsAccepted, seen_in}
use Rattle.wf_model.specs.Reach.{Step, target_of}
use Rattle.wf_model.specs.Routes.{IsRoute}
use Rattle.wf_model.specs.OpenRoutes.{IsOpenRoute}
use Rattle.compare_model.specs.RunAlong.{run_along, name_along}
use Rattle.compare_model.specs.OutcomeLaws.{ShownLaw}
use Rattle.compare_model.proofs.SeenByBoth.{route_too}
use Rattle.compare_model.proofs.ShortRoutes.{fewer_steps}
use Rattle.compare_model.proofs.RunsAlong.{run_along_law}

open_is_route : (g : Grammar) (u : View) (m : ℕ) (a : List Step) → IsOpenRoute g u m a → IsRoute g m a
open_is_route g u m [] x = tt
open_is_route g u m (s ∷ a) x = (x.0.in_range, x.1, x.0.position, open_is_route g u (target_of g s) a x.2)

pub shown_law : ShownLaw
shown_law g c u wf coarser m limit most small instance events h =
    let few : length h.route < length g.modules = fewer_steps g c m h.route h.shortest wf in
    let modules : length g.modules ≤ 1024 = wf.few_modules in
    let open_route = h.shortest.leads.0 in
    let r = run_along_law g wf limit h.route (open_is_route g c g.start h.route open_route) (omega arith) small in
    let seen : (v : View) → IsOpenRoute g v g.start h.route → IsIn (record { name = instance; module_no = m }) (seen_in g v g.start events) =
    λ v x. subst (λ z. IsIn (record { name = instance; module_no = m }) (seen_in g v g.start z)) (sym h.run_is)
    (subst (λ z. IsIn (record { name = z; module_no = m }) (seen_in g v g.start (run_along g h.route))) (sym h.instance_is)
    (subst (λ z. IsIn (record { name = name_along g h.route; module_no = z }) (seen_in g v g.start (run_along g h.route))) h.shortest.leads.1 (r.seen v x))) in
    record {
      accepted = subst (IsAccepted g limit) (sym h.run_is) r.accepted;
      coarse = seen c open_route;
      fine = seen u (route_too g c u coarser g.start h.route open_route);
    }
