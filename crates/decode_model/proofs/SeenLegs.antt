-- The steps of legs are open routes.
use Rattle.std.proofs.Common.{ℕ, zero, suc, ◌/◌, ◌%◌, List, [], ◌∷◌, length, take, sym, subst}
use Rattle.wf_model.specs.Grammar.{Grammar}
use Rattle.wf_model.specs.View.{View, IsSeenModule}
use Rattle.wf_model.specs.Reach.{Step, module_along}
use Rattle.wf_model.specs.OpenRoutes.{IsOpenRoute}
use Rattle.wf_model.proofs.OpenRoutes.{open_take, route_seen, open_append}
use Rattle.decode_model.specs.Rounds.{times}
use Rattle.decode_model.specs.Matrices.{IsOnceRound}
use Rattle.decode_model.specs.Legs.{Leg, One, Chain, Part, leg_steps, way_steps, IsLeg, AreLegs}
use Rattle.decode_model.proofs.Rounds.{times_continuing}

module _ (g : Grammar) (u : View) where
  open_times : (m : ℕ) (round : List Step) (n : ℕ) → IsOnceRound g u m round → IsOpenRoute g u m (times n round)
  open_times m round zero x = tt
  open_times m round (suc n) x = open_append g u m round (times n round) x.open_route (subst (λ z. IsOpenRoute g u z (times n round)) (sym x.goes_round.back) (open_times m round n x))

  leg_open : (m : ℕ) (leg : Leg) → IsLeg g u m leg → IsOpenRoute g u m (leg_steps leg)
  leg_open m (One s) x = (x.0, x.1, tt)
  leg_open m (Chain from round c) x =
      let n = c / length round in
      let rest = take (c % length round) round in
      let back = (times_continuing g m round x.1.goes_round n).1 in
      open_append g u m (times n round) rest (open_times m round n x.1) (subst (λ z. IsOpenRoute g u z rest) (sym back) (open_take g u m (c % length round) round x.1.open_route))
  leg_open m (Part from steps) x = x.1

  pub legs_open : (m : ℕ) (legs : List Leg) → AreLegs g u m legs → IsOpenRoute g u m (way_steps legs)
  legs_open m [] x = tt
  legs_open m (leg ∷ legs) x = open_append g u m (leg_steps leg) (way_steps legs) (leg_open m leg x.0) (legs_open (module_along g m (leg_steps leg)) legs x.1)

  pub legs_seen : (m : ℕ) (legs : List Leg) → IsSeenModule g u m → AreLegs g u m legs → IsSeenModule g u (module_along g m (way_steps legs))
  legs_seen m legs h x = route_seen g u m (way_steps legs) h (legs_open m legs x)
