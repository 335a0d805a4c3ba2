-- The modules, productions, routes and steps of a version are those of the grammar.
use Rattle.std.proofs.Common.{◌≡◌, ℕ, zero, suc, ◌<◌, List, [], ◌∷◌, map, length, get_or, refl, sym, ap, ◌∙◌, subst, inl, inr, arith}
use Rattle.std.proofs.lemmas.List.{get_or-take, length-take-le}
use Rattle.wf_model.specs.Lists.{IsIn}
use Rattle.wf_model.specs.Grammar.{Grammar, Module, Position, Production, production_at, module_at, inputs_of, outputs_of, head_of, body_of, IsComposite}
use Rattle.wf_model.specs.View.{View, IsSeenModule, at_start, in_body}
use Rattle.wf_model.specs.Proper.{Makes, Derives}
use Rattle.wf_model.specs.Linear.{IsStepOf, Continues}
use Rattle.wf_model.specs.Reach.{Step, target_of, module_along}
use Rattle.wf_model.specs.Routes.{IsRoute}
use Rattle.wf_laws.proofs.Safe.{walk_same}
use Rattle.wf_model.specs.Versions.{version_of, IsVersion}
use Rattle.version_model.specs.Laws.{VersionRouteLaw}

-- what is found in a list of numbers below m, or 0, is below m
below_or : (m j : ℕ) (ms : List ℕ) → 0 < m → ((k : ℕ) → IsIn k ms → k < m) → get_or ms j 0 < m
below_or m j [] z h = z
below_or m zero (k ∷ ms) z h = h k (inl refl)
below_or m (suc j) (k ∷ ms) z h = below_or m j ms z (λ n q. h n (inr q))

module _ (g : Grammar) (m p : ℕ) (is : IsVersion g m p) where
  pub count_modules : length (version_of g m p).modules ≡ m
  count_modules = length-take-le m g.modules is.modules

  pub count_productions : length (version_of g m p).productions ≡ p
  count_productions = length-take-le p g.productions is.productions

  pub in_version : (q : ℕ) → q < length (version_of g m p).productions → q < p
  in_version q h = subst (λ z. q < z) count_productions h

  pub in_grammar : (q : ℕ) → q < p → q < length g.productions
  in_grammar q h = let k = is.productions in omega arith

  pub module_in : (k : ℕ) → k < m → k < length (version_of g m p).modules
  module_in k h = subst (λ z. k < z) (sym count_modules) h

  pub production_same : (q : ℕ) → q < p → production_at (version_of g m p) q ≡ production_at g q
  production_same q h = get_or-take p g.productions q _ h

  pub head_same : (q : ℕ) → q < p → head_of (version_of g m p) q ≡ head_of g q
  head_same q h = ap (λ (r : Production). r.head) (production_same q h)

  pub body_same : (q : ℕ) → q < p → body_of (version_of g m p) q ≡ body_of g q
  body_same q h = ap (λ (r : Production). map (λ (z : Position). z.module_no) r.positions) (production_same q h)

  pub module_same : (k : ℕ) → k < m → module_at (version_of g m p) k ≡ module_at g k
  module_same k h = get_or-take m g.modules k _ h

  pub ins_same : (k : ℕ) → k < m → inputs_of (version_of g m p) k ≡ inputs_of g k
  ins_same k h = ap (λ (z : Module). length z.inputs) (module_same k h)

  pub outs_same : (k : ℕ) → k < m → outputs_of (version_of g m p) k ≡ outputs_of g k
  outs_same k h = ap (λ (z : Module). length z.outputs) (module_same k h)

  pub target_same : (s : Step) → s.production < p → target_of (version_of g m p) s ≡ target_of g s
  target_same s h = ap (λ ms. get_or ms s.position 0) (body_same s.production h)

  pub target_below : (s : Step) → s.production < p → target_of g s < m
  target_below s h = let z = is.start in below_or m s.position (body_of g s.production) (omega arith) (is.bodies s.production h)

  -- the module of a position, whatever its number
  pub place_below : (q j : ℕ) → q < p → get_or (body_of g q) j 0 < m
  place_below q j h = target_below (record { production = q; position = j }) h

  pub step_up : (k : ℕ) (s : Step) → IsStepOf (version_of g m p) k s → IsStepOf g k s
  step_up k s x =
      let h = in_version s.production x.in_range in
      record { in_range = in_grammar s.production h; head = sym (head_same s.production h) ∙ x.head; position = subst (λ ms. s.position < length ms) (body_same s.production h) x.position }

  makes_up : (a b : ℕ) → Makes (version_of g m p) a b → Makes g a b
  makes_up a b q =
      let h = in_version q.0 q.1.0 in
      (q.0, (in_grammar q.0 h, sym (head_same q.0 h) ∙ q.1.1), subst (IsIn b) (body_same q.0 h) q.2)

  -- a continuing step of a version is one of the grammar
  pub continues_up : (k : ℕ) (s : Step) → Continues (version_of g m p) k s → Continues g k s
  continues_up k s q = (step_up k s q.0, subst (λ z. Derives g z k) (target_same s (in_version s.production q.0.in_range)) (walk_same makes_up q.1))

  -- a module with a step in the version is composite in it
  pub step_composite : (k : ℕ) (s : Step) → IsStepOf (version_of g m p) k s → IsComposite (version_of g m p) k
  step_composite k s x = (s.production, (x.in_range, x.head))

  pub route_up : (k : ℕ) (a : List Step) → IsRoute (version_of g m p) k a → IsRoute g k a
  route_up k [] x = tt
  route_up k (s ∷ a) x =
      let h = in_version s.production x.0 in (
        in_grammar s.production h,
        sym (head_same s.production h) ∙ x.1,
        subst (λ ms. s.position < length ms) (body_same s.production h) x.2,
        subst (λ z. IsRoute g z a) (target_same s h) (route_up (target_of (version_of g m p) s) a x.3),
      )

  pub along_same : (k : ℕ) (a : List Step) → k < m → IsRoute (version_of g m p) k a → (module_along (version_of g m p) k a ≡ module_along g k a) × (module_along g k a < m)
  along_same k [] hk x = (refl, hk)
  along_same k (s ∷ a) hk x =
      let h = in_version s.production x.0 in
      let t = target_same s h in
      let r = along_same (target_of (version_of g m p) s) a (subst (λ z. z < m) (sym t) (target_below s h)) x.3 in
      (r.0 ∙ ap (λ z. module_along g z a) t, subst (λ z. module_along g z a < m) t r.1)

  pub seen_below : (u : View) (k : ℕ) → IsSeenModule (version_of g m p) u k → k < m
  seen_below u k (at_start e) = subst (λ z. z < m) (sym e) is.start
  seen_below u k (in_body q hq s ex h) = let h2 = in_version q hq in is.bodies q h2 k (subst (IsIn k) (body_same q h2) h)

pub version_route_law : VersionRouteLaw
version_route_law g m p is k hk a x = let r = along_same g m p is k a hk x in (route_up g m p is k a x, r.0, r.1)
