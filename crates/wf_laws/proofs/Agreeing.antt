-- Addresses in one run agree, and each is a route that tells the module of its instance.
use Rattle.std.proofs.Common.{◌≡◌, ℕ, ◌<◌, IsTrue, List, [], ◌∷◌, length, get_or, Some, refl, ap, subst, inl, inr, arith}
use Rattle.wf_model.specs.Lists.{IsIn}
use Rattle.wf_model.specs.Grammar.{Grammar, head_of, body_of}
use Rattle.wf_model.specs.View.{expands}
use Rattle.wf_model.specs.DefaultView.{default_view}
use Rattle.wf_model.specs.declared.event.Event.{Event}
use Rattle.wf_model.specs.declared.event.Event.TheVariants.{Start, Expand}
use Rattle.wf_model.specs.Run.{Instance, Expanded, made, expanded_by, IsRun, root_of}
use Rattle.wf_model.specs.Reach.{Step, target_of, module_along}
use Rattle.wf_model.specs.Routes.{IsAddress, IsRoute, Agree}
use Rattle.wf_model.proofs.Lists.{is_at}
use Rattle.wf_model.proofs.Runs.{run_state, named_at}
use Rattle.wf_model.proofs.Level.{opening}
use Rattle.wf_model.proofs.Differ.{one_of_name}
use Rattle.wf_model.proofs.Taking.{run_differs}
use Rattle.wf_model.proofs.Whole.{all_seen}
use Rattle.wf_model.proofs.DefaultView.{default_expands_all}
use Rattle.wf_model.proofs.Open.{open_law}
use Rattle.wf_model.proofs.Expanding.{one_expansion}
use Rattle.wf_laws.specs.Agreeing.{AgreeLaw, RouteLaw}

agree_from : (events : List Event) (a b : List Step) (n x y : List ℕ) → IsAddress events n a x → IsAddress events n b y → Agree a b
agree_from events [] b n x y h k = tt
agree_from events (s ∷ a) [] n x y h k = tt
agree_from events (s ∷ a) (t ∷ b) n x y h k =
    let e = one_expansion (expanded_by events n) (record { production = s.production; names = h.0 }) (record { production = t.production; names = k.0 }) h.1 k.1 in
    let names : h.0 ≡ k.0 = ap (λ (z : Expanded). z.names) e in (
      ap (λ (z : Expanded). z.production) e,
      λ position. agree_from events a b (get_or k.0 t.position []) x y (subst (λ c. IsAddress events c a x) (λ i. get_or (names i) (position i) []) h.3) k.3,
    )

pub agree_law : AgreeLaw
agree_law events a b x y h k = agree_from events a b (root_of events) x y h k

module _ (g : Grammar) (m : ℕ) (events : List Event) (run : IsRun g m events) where
  -- a child of an instance is there, with the module of its position
  child_made : (n : List ℕ) (x : Expanded) (k : ℕ) → expanded_by events n ≡ Some x → k < length x.names → IsIn (record { name = get_or x.names k []; module_no = get_or (body_of g x.production) k 0 }) (made g m events)
  child_made n x k e h =
      let o = opening g m [] events n x run e in
      let i : Instance = record { name = n; module_no = head_of g x.production } in
      let u = default_view g in
      let seen = all_seen g u (default_expands_all g) m events run i o.stands in
      let opened : IsTrue (expands u i.module_no) = default_expands_all g (head_of g x.production) (x.production, (o.in_range, refl)) in
      let hb : k < length (body_of g x.production) = omega (arith, o.one_each) in
      let j = named_at (get_or x.names k []) (get_or (body_of g x.production) k 0) k x.names (body_of g x.production) (is_at k x.names [] h) (is_at k (body_of g x.production) 0 hb) in
      (run_state g u m events run).seen_made _ ((open_law g u m events run _).1 (inr (i, (seen, opened, (x, e)), (x, e, j))))

  route_from : (a : List Step) (n x : List ℕ) (k : ℕ) → IsIn (record { name = n; module_no = k }) (made g m events) → IsAddress events n a x → IsRoute g k a × IsIn (record { name = x; module_no = module_along g k a }) (made g m events)
  route_from [] n x k h a = (tt, subst (λ z. IsIn (record { name = z; module_no = k }) (made g m events)) a h)
  route_from (s ∷ a) n x k h b =
      let y : Expanded = record { production = s.production; names = b.0 } in
      let o = opening g m [] events n y run b.1 in
      let same : head_of g s.production ≡ k = ap (λ (z : Instance). z.module_no) (one_of_name (made g m events) (run_differs g m events run) (record { name = n; module_no = head_of g s.production }) (record { name = n; module_no = k }) o.stands h refl) in
      let r = route_from a (get_or b.0 s.position []) x (target_of g s) (child_made n y s.position b.1 b.2) b.3 in
      let within : s.position < length (body_of g s.production) = let q : length b.0 ≡ length (body_of g s.production) = o.one_each in let p : s.position < length b.0 = b.2 in omega arith in
      ((o.in_range, same, within, r.0), r.1)

pub route_law : RouteLaw
route_law g m [] run started a x h = absurd (started refl)
route_law g m (Start r ∷ events) run started a x h = let q = route_from g m (Start r ∷ events) run a r x m (inl refl) h in record { route = q.0; stands = q.1 }
route_law g m (Expand i p names ∷ events) run started a x h = absurd run.0.stands
