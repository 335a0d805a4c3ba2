-- Cycles that are seen and expanded whole.
use Rattle.std.proofs.Common.{◌≡◌, ◌↔◌, ℕ, zero, suc, ◌+◌, ◌-◌, ◌%◌, ◌<◌, Bool, true, false, IsTrue, List, [], ◌∷◌, length, get_or, Option, Some, None, refl, sym, ap, ◌∙◌, subst, arith, true≢false}
use Rattle.std.specs.Prelude.{is_some, not}
use Rattle.wf_model.specs.Grammar.{Grammar, Assignment, head_of, body_of}
use Rattle.wf_model.specs.WellFormed.{IsWellFormed}
use Rattle.wf_model.specs.Linear.{IsLinear, IsStepOf}
use Rattle.wf_model.specs.Reach.{Step, target_of}
use Rattle.wf_model.specs.View.{View, expands, IsSeenModule, at_start, in_body}
use Rattle.wf_model.proofs.Lists.{is_at, at_in}
use Rattle.label_model.specs.Continuing.{continuing, next_by, after}
use Rattle.label_model.proofs.ContinuingSteps.{continuing_is, continuing_law}
use Rattle.label_model.proofs.Periods.{after-add}
use Rattle.decode_model.specs.Rounds.{AreContinuing}
use Rattle.wf_model.specs.OpenRoutes.{IsOpenStep, IsOpenRoute}
use Rattle.decode_model.specs.Matrices.{IsOnceRound}
use Rattle.wf_recur.specs.Cycles.{CyclesSeen, round_at, least_of, AreCyclesOf}
use Rattle.wf_recur.proofs.Places.{place_to_first, rounds_left_out}
use Rattle.wf_vlabel.specs.Groups.{GroupsSeen}
use Rattle.wf_vlabel.specs.Cuts.{IsCut}
use Rattle.wf_vlabel.specs.Tables.{Expands, AreBodyGroups}
use Rattle.wf_vlabel.specs.RoundSteps.{IsOnce, IsOpenCycle}
use Rattle.wf_vlabel.specs.ChainMatrices.{HasSteps}
use Rattle.wf_vlabel.proofs.OnceRound.{once_length}

-- two views that expand the same modules see the same
pub same_seen : (g : Grammar) (u v : View) → ((m : ℕ) → expands u m ≡ expands v m) → {m : ℕ} → IsSeenModule g u m → IsSeenModule g v m
same_seen g u v e (at_start s) = at_start s
same_seen g u v e (in_body p l s x i) = in_body p l (same_seen g u v e s) (subst IsTrue (e (head_of g p)) x) i

-- the continuing step of a seen, expanded module leads to a seen one
seen_next : (g : Grammar) (u : View) (m : ℕ) → IsSeenModule g u m → IsTrue (expands u m) → (o : Option Step) → continuing g m ≡ o → IsSeenModule g u (next_by g m o)
seen_next g u m s x None e = s
seen_next g u m s x (Some t) e =
    let c : IsStepOf g m t = (continuing_is g m t e).0 in
    in_body t.production c.in_range (subst (IsSeenModule g u) (sym c.head) s) (subst (λ z. IsTrue (expands u z)) (sym c.head) x)
    (at_in (target_of g t) t.position (body_of g t.production) (is_at t.position (body_of g t.production) 0 c.position))

seen_after : (g : Grammar) (u : View) (k m : ℕ) → IsSeenModule g u m → ((j : ℕ) → IsTrue (expands u (after g j m))) → IsSeenModule g u (after g k m)
seen_after g u zero m s x = s
seen_after g u (suc k) m s x = seen_after g u k (next_by g m (continuing g m)) (seen_next g u m s (x 0) (continuing g m) refl) (λ j. x (suc j))

-- the continuing steps of its modules are open, and so the bodies have their matrices
pub steps_held : (g : Grammar) (u : View) (d : Assignment) (t : GroupsSeen) (first : ℕ) → AreBodyGroups g (expands u) d t → IsOpenCycle g u first → HasSteps g d t first
steps_held g u d t first b o k s e =
    let c : IsStepOf g (after g k first) s = (continuing_is g (after g k first) s e).0 in
    let open_step : IsOpenStep g u s = record {
      in_range = c.in_range;
      seen = subst (IsSeenModule g u) (sym c.head) (seen_after g u k first o.seen o.whole);
      expanded = subst (λ z. IsTrue (expands u z)) (sym c.head) (o.whole k);
      position = c.position;
    } in
    let same : Expands u (expands u) = λ m. refl in
    record {
      has = b.has u s same open_step;
      into = b.into u s same open_step;
      out_of = b.out_of u s same open_step;
    }

-- what is told of the module at place 0 tells whether the cycle is open
pub open_told : (g : Grammar) (u : View) (first : ℕ) (o : Option ℕ) (answer : Bool) → IsSeenModule g u first → IsCut g (expands u) first o → is_some o ≡ not answer → IsTrue answer ↔ IsOpenCycle g u first
open_told g u first None true s c t = ((λ h. record { seen = s; whole = c }), λ h. refl)
open_told g u first None false s c t = absurd (true≢false (sym t))
open_told g u first (Some n) true s c t = absurd (true≢false t)
open_told g u first (Some n) false s c t = ((λ h. absurd (true≢false (sym h))), λ h. absurd (true≢false (sym (h.whole n) ∙ c.0)))

-- steps of seen, expanded modules, one after another
route_open : (g : Grammar) → IsWellFormed g → IsLinear g → (u : View) (m : ℕ) (steps : List Step) → AreContinuing g m steps → IsOpenRoute g u m steps → (k : ℕ) → k < length steps → IsSeenModule g u (after g k m) × IsTrue (expands u (after g k m))
route_open g wf lin u m [] c r k l = absurd (omega arith)
route_open g wf lin u m (s ∷ steps) c r zero l = (subst (IsSeenModule g u) r.1 r.0.seen, subst (λ z. IsTrue (expands u z)) r.1 r.0.expanded)
route_open g wf lin u m (s ∷ steps) c r (suc k) l =
    let e : continuing g m ≡ Some s = (continuing_law g wf lin m s).1 c.0 in
    subst (λ o. IsSeenModule g u (after g k (next_by g m o)) × IsTrue (expands u (after g k (next_by g m o)))) (sym e) (route_open g wf lin u (target_of g s) steps c.1 r.2 k (omega arith))

pub once_of : (g : Grammar) (u : View) (m : ℕ) (round : List Step) → IsOnceRound g u m round → IsOnce g m round
once_of g u m round o = record { goes_round = o.goes_round; some = o.some; least = o.least }

-- where steps once round a cycle are open, the cycle is
pub cycle_open : (g : Grammar) (t : CyclesSeen) (c p : ℕ) (u v : View) (round : List Step) → IsWellFormed g → IsLinear g → AreCyclesOf g t → c < length t.rounds → p < length (round_at t c) →
    ((m : ℕ) → expands u m ≡ expands v m) → IsOnceRound g u (get_or (round_at t c) p 0) round → IsOpenCycle g v (least_of (round_at t c))
cycle_open g t c p u v round wf lin h i l same o =
    record {
      seen = same_seen g u v same (subst (IsSeenModule g u) (place_to_first g t wf lin h c p i l) (each (size - p)).0);
      whole = λ k. subst IsTrue (same (after g k (least_of (round_at t c))))
          (subst (λ z. IsTrue (expands u z)) (after-add g (size - p) k m ∙ ap (after g k) (place_to_first g t wf lin h c p i l)) (each (size - p + k)).1);
    }
  where
    size : ℕ
    size = length (round_at t c)

    m : ℕ
    m = get_or (round_at t c) p 0

    each : (k : ℕ) → IsSeenModule g u (after g k m) × IsTrue (expands u (after g k m))
    each k =
        let n = once_length g t c p wf lin h i l round (once_of g u m round o) in
        let low : k % length (round_at t c) < length round = omega arith in
        subst (λ z. IsSeenModule g u z × IsTrue (expands u z)) (sym (rounds_left_out g t wf lin h c p k i l)) (route_open g wf lin u m round o.goes_round.continuing o.open_route (k % length (round_at t c)) low)
