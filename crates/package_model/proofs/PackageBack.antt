-- Back from a package: all that it shows stands in the grammar. So it is proper and strictly linear where the grammar is, and safe where the view is.
use Rattle.std.proofs.Common.{◌≡◌, ℕ, zero, suc, ◌<◌, true, false, IsTrue, List, [], ◌∷◌, map, length, get_or, refl, sym, ap, ◌∙◌, subst, inl, inr, ⊎_elim, true≢false}
use Rattle.std.proofs.lemmas.Bool.{cases_Bool}
use Rattle.std.proofs.lemmas.List.{length-map, get_or-map}
use Rattle.wf_model.specs.Lists.{IsIn, here}
use Rattle.wf_model.specs.Grammar.{Grammar, Assignment, inputs_of, outputs_of, head_of, body_of, IsProductionOf, IsAtomic, IsComposite}
use Rattle.wf_model.specs.View.{View, expands, shows, IsSeenModule, at_start, in_body}
use Rattle.wf_model.specs.DefaultView.{default_view}
use Rattle.wf_model.specs.Safe.{IsInduced}
use Rattle.wf_model.specs.Proper.{Makes, Derives, RankWithin, Becomes, IsProper}
use Rattle.wf_model.specs.Linear.{Continues, IsLinear}
use Rattle.wf_model.specs.Finishing.{ExpandsComposites}
use Rattle.wf_model.specs.Reach.{Step, target_of}
use Rattle.wf_model.specs.Routes.{Agree}
use Rattle.wf_model.specs.OpenRoutes.{IsOpenRoute}
use Rattle.wf_model.proofs.Lists.{in_map, in_map_from, is_at, at_in}
use Rattle.wf_model.proofs.Walks.{walk-append, walk_one, walk_through}
use Rattle.wf_model.proofs.Going.{same_step}
use Rattle.label_model.proofs.Differing.{in_order_differ}
use Rattle.version_model.specs.Standing.{IsSameProduction, StandsIn, renumbered}
use Rattle.version_model.proofs.Standing.{standing_induced_law}
use Rattle.package_model.specs.Shown.{IsOpenProduction, AreSeen, place_in}
use Rattle.package_model.specs.Laws.{packaged}
use Rattle.package_model.proofs.Places.{place_again}
use Rattle.package_model.proofs.PackageParts.{found, one_place, ins_same, outs_same, count, opened, head_at, body_at, wired_at, open_placed, same_production, expanded_same, shown_same}

module _ (g : Grammar) (u : View) (ms ps : List ℕ) (ec : ExpandsComposites g u) (s : AreSeen g u ms ps) where
  pub body_back : (q : ℕ) → q < length ps → (b : ℕ) → IsIn b (body_of (packaged g u ms ps) q) → (m : ℕ) × IsSeenModule g u m × IsIn m (body_of g (get_or ps q 0)) × (b ≡ place_in ms m)
  body_back q hq b h =
      let o = opened g u ms ps ec s q hq in
      let r = in_map_from (place_in ms) b (body_of g (get_or ps q 0)) (subst (IsIn b) (body_at g u ms ps ec s q hq) h) in
      (r.0, in_body (get_or ps q 0) o.0 o.1 o.2 r.1, r.1, r.2)

  pub in_body_back : (q : ℕ) → q < length ps → (b : ℕ) → IsIn b (body_of (packaged g u ms ps) q) → IsIn (get_or ms b 0) (body_of g (get_or ps q 0))
  in_body_back q hq b h = let r = body_back q hq b h in subst (λ z. IsIn z (body_of g (get_or ps q 0))) (sym (ap (λ z. get_or ms z 0) r.3 ∙ found g u ms ps ec s r.0 r.1)) r.2

  -- what is seen of the package is a place of a seen module
  pub seen_back : (k : ℕ) → IsSeenModule (packaged g u ms ps) (default_view (packaged g u ms ps)) k → (m : ℕ) × IsSeenModule g u m × (k ≡ place_in ms m)
  seen_back k (at_start e) = (g.start, at_start refl, e)
  seen_back k (in_body q hq sm ex h) = let r = body_back q (subst (λ z. q < z) (count g u ms ps ec s) hq) k h in (r.0, r.1, r.3)

  pub production_back : (q k : ℕ) → IsProductionOf (packaged g u ms ps) q k → (q < length ps) × IsProductionOf g (get_or ps q 0) (get_or ms k 0)
  production_back q k h =
      let hq : q < length ps = subst (λ z. q < z) (count g u ms ps ec s) h.0 in
      let o = opened g u ms ps ec s q hq in
      (hq, (o.0, sym (found g u ms ps ec s (head_of g (get_or ps q 0)) o.1) ∙ ap (λ z. get_or ms z 0) (sym (head_at g u ms ps ec s q hq) ∙ h.1)))

  makes_back : (a b : ℕ) → Makes (packaged g u ms ps) a b → Makes g (get_or ms a 0) (get_or ms b 0)
  makes_back a b q = let r = production_back q.0 a q.1 in (get_or ps q.0 0, r.1, in_body_back q.0 r.0 b q.2)

  becomes_back : (a b : ℕ) → Becomes (packaged g u ms ps) a b → Becomes g (get_or ms a 0) (get_or ms b 0)
  becomes_back a b q =
      let r = production_back q.0 a q.1 in
      (get_or ps q.0 0, r.1, sym (ap length (body_at g u ms ps ec s q.0 r.0) ∙ length-map (body_of g (get_or ps q.0 0)) (place_in ms)) ∙ q.2, in_body_back q.0 r.0 b q.3)

  -- ---- proper
  reached : (m : ℕ) → IsSeenModule g u m → Derives (packaged g u ms ps) (place_in ms g.start) (place_in ms m)
  reached m (at_start e) = subst (λ z. Derives (packaged g u ms ps) (place_in ms g.start) (place_in ms z)) (sym e) here
  reached m (in_body p hp sm ex h) =
      let same = same_production g u ms ps ec s p (hp, sm, ex) in
      walk-append (reached (head_of g p) sm) (walk_one (place_in ps p, (same.in_range, same.head), subst (IsIn (place_in ms m)) (sym same.body) (in_map (place_in ms) m (body_of g p) h)))

  pub shut_atomic : (m : ℕ) → IsSeenModule g u m → expands u m ≡ false → IsAtomic (packaged g u ms ps) (place_in ms m)
  shut_atomic m sm ex q hq e =
      let h : q < length ps = subst (λ z. q < z) (count g u ms ps ec s) hq in
      let o = opened g u ms ps ec s q h in
      let same = one_place g u ms ps ec s (head_of g (get_or ps q 0)) m o.1 sm (sym (head_at g u ms ps ec s q h) ∙ e) in
      true≢false (sym o.2 ∙ (ap (expands u) same ∙ ex))

  no_composite : {A : Type 0} (m : ℕ) → expands u m ≡ true → IsAtomic g m → A
  no_composite m ex atomic = let c = ec m ex in absurd (atomic c.0 c.1.0 c.1.1)

  ranked : (n m : ℕ) → IsSeenModule g u m → RankWithin g n m → RankWithin (packaged g u ms ps) n (place_in ms m)
  ranked zero m sm r = ⊎_elim (λ ex. no_composite m ex r) (λ ex. shut_atomic m sm ex) (cases_Bool (expands u m))
  ranked (suc n) m sm r = ⊎_elim (λ ex. ⊎_elim (λ a. no_composite m ex a) (λ q. inr (by ex q (ranked n))) r) (λ ex. inl (shut_atomic m sm ex)) (cases_Bool (expands u m))
    where
      by : expands u m ≡ true → (p : ℕ) × IsProductionOf g p m × ((k : ℕ) → IsIn k (body_of g p) → RankWithin g n k) → ((m : ℕ) → IsSeenModule g u m → RankWithin g n m → RankWithin (packaged g u ms ps) n (place_in ms m)) →
          (p : ℕ) × IsProductionOf (packaged g u ms ps) p (place_in ms m) × ((k : ℕ) → IsIn k (body_of (packaged g u ms ps) p) → RankWithin (packaged g u ms ps) n k)
      by ex q ih =
          let o : IsOpenProduction g u q.0 = (q.1.0, subst (IsSeenModule g u) (sym q.1.1) sm, ap (expands u) q.1.1 ∙ ex) in
          let same = same_production g u ms ps ec s q.0 o in (
            place_in ps q.0,
            (same.in_range, same.head ∙ ap (place_in ms) q.1.1),
            λ k i.
                let c = in_map_from (place_in ms) k (body_of g q.0) (subst (IsIn k) same.body i) in
                subst (RankWithin (packaged g u ms ps) n) (sym c.2) (ih c.0 (in_body q.0 o.0 o.1 o.2 c.1) (q.2 c.0 c.1)),
          )

  -- a composite module of the package is the place of a seen module that the view expands
  pub composite_back : (k : ℕ) → IsComposite (packaged g u ms ps) k → (m : ℕ) × IsSeenModule g u m × IsTrue (expands u m) × IsComposite g m × (k ≡ place_in ms m)
  composite_back k c =
      let h : c.0 < length ps = subst (λ z. c.0 < z) (count g u ms ps ec s) c.1.0 in
      let o = opened g u ms ps ec s c.0 h in
      (head_of g (get_or ps c.0 0), o.1, o.2, (get_or ps c.0 0, (o.0, refl)), sym c.1.1 ∙ head_at g u ms ps ec s c.0 h)

  pub package_proper : IsProper g → IsProper (packaged g u ms ps)
  package_proper p = record {
    reached = λ k c. let r = composite_back k c in subst (Derives (packaged g u ms ps) (place_in ms g.start)) (sym r.4) (reached r.0 r.1);
    ranked = λ k c. let r = composite_back k c in let n = p.ranked r.0 r.3 in (n.0, subst (RankWithin (packaged g u ms ps) n.0) (sym r.4) (ranked n.0 r.0 r.1 n.1));
    no_unit_loop = λ a b q w. p.no_unit_loop (get_or ms a 0) (get_or ms b 0) (becomes_back a b q) (walk_through (λ k. get_or ms k 0) (λ x y r. walk_one (becomes_back x y r)) w);
  }

  -- ---- strictly linear
  -- a step of the package, by the numbers of the grammar
  abbrev pub step_back : Step → Step
  step_back t = record { production = get_or ps t.production 0; position = t.position }

  pub continues_back : (k : ℕ) (t : Step) → Continues (packaged g u ms ps) k t → Continues g (get_or ms k 0) (step_back t)
  continues_back k t q =
      let r = production_back t.production k (q.0.in_range, q.0.head) in
      let o = opened g u ms ps ec s t.production r.0 in
      let eb = body_at g u ms ps ec s t.production r.0 in
      let p = get_or ps t.production 0 in
      let l : t.position < length (body_of g p) = subst (λ z. t.position < z) (ap length eb ∙ length-map (body_of g p) (place_in ms)) q.0.position in
      let sm = in_body p o.0 o.1 o.2 (at_in (get_or (body_of g p) t.position 0) t.position (body_of g p) (is_at t.position (body_of g p) 0 l)) in
      let et : get_or ms (target_of (packaged g u ms ps) t) 0 ≡ target_of g (step_back t) =
      ap (λ bs. get_or ms (get_or bs t.position 0) 0) eb ∙ (ap (λ z. get_or ms z 0) (get_or-map (place_in ms) (body_of g p) t.position 0 0 l) ∙ found g u ms ps ec s (get_or (body_of g p) t.position 0) sm) in (
        record { in_range = r.1.0; head = r.1.1; position = l },
        subst (λ z. Derives g z (get_or ms k 0)) et (walk_through (λ k. get_or ms k 0) (λ x y c. walk_one (makes_back x y c)) q.1),
      )

  -- a production of the package is the place of its production
  pub production_again : (q : ℕ) → q < length ps → place_in ps (get_or ps q 0) ≡ q
  production_again q h = place_again ps q (in_order_differ ps s.productions_in_order) h

  pub package_linear : IsLinear g → IsLinear (packaged g u ms ps)
  package_linear lin k t v ct cv =
      let e = lin (get_or ms k 0) (step_back t) (step_back v) (continues_back k t ct) (continues_back k v cv) in
      let ht : t.production < length ps = subst (λ z. t.production < z) (count g u ms ps ec s) ct.0.in_range in
      let hv : v.production < length ps = subst (λ z. v.production < z) (count g u ms ps ec s) cv.0.in_range in
      same_step t v (sym (production_again t.production ht) ∙ (ap (λ (z : Step). place_in ps z.production) e ∙ production_again v.production hv)) (ap (λ (z : Step). z.position) e)

  -- ---- the package stands in the grammar
  abbrev up : ℕ → ℕ
  up k = get_or ms k 0

  all_up : (ks : List ℕ) → ((m : ℕ) → IsIn m ks → IsSeenModule g u m) → map up (map (place_in ms) ks) ≡ ks
  all_up [] f = refl
  all_up (k ∷ ks) f = ap (λ z. z ∷ map up (map (place_in ms) ks)) (found g u ms ps ec s k (f k (inl refl))) ∙ ap (λ l. k ∷ l) (all_up ks (λ m i. f m (inr i)))

  production_up : (q : ℕ) → q < length ps → IsSameProduction (packaged g u ms ps) q g (get_or ps q 0) up
  production_up q hq =
      let o = opened g u ms ps ec s q hq in
      record {
        in_range = o.0;
        head = sym (found g u ms ps ec s (head_of g (get_or ps q 0)) o.1) ∙ ap up (sym (head_at g u ms ps ec s q hq));
        body = sym (all_up (body_of g (get_or ps q 0)) (λ m i. in_body (get_or ps q 0) o.0 o.1 o.2 i)) ∙ ap (map up) (sym (body_at g u ms ps ec s q hq));
        wired = sym (wired_at g u ms ps ec s q hq);
      }

  grammar_stands : StandsIn (packaged g u ms ps) (default_view (packaged g u ms ps)) g u up (λ q. get_or ps q 0)
  grammar_stands = record {
    start = sym (found g u ms ps ec s g.start (at_start refl));
    ins = λ k sk. let r = seen_back k sk in ap (inputs_of g) (at r.0 k r.1 r.2) ∙ sym (ap (inputs_of (packaged g u ms ps)) r.2 ∙ ins_same g u ms ps ec s r.0 r.1);
    outs = λ k sk. let r = seen_back k sk in ap (outputs_of g) (at r.0 k r.1 r.2) ∙ sym (ap (outputs_of (packaged g u ms ps)) r.2 ∙ outs_same g u ms ps ec s r.0 r.1);
    expanded = λ k sk. let r = seen_back k sk in ap (expands u) (at r.0 k r.1 r.2) ∙ sym (ap (expands (default_view (packaged g u ms ps))) r.2 ∙ expanded_same g u ms ps ec s r.0 r.1);
    shown = shown_up;
    productions = λ q hq sq ex. production_up q (subst (λ z. q < z) (count g u ms ps ec s) hq);
  }
    where
      at : (m k : ℕ) → IsSeenModule g u m → k ≡ place_in ms m → up k ≡ m
      at m k sm e = ap up e ∙ found g u ms ps ec s m sm

      shown_up : (k : ℕ) → IsSeenModule (packaged g u ms ps) (default_view (packaged g u ms ps)) k → expands (default_view (packaged g u ms ps)) k ≡ false → (i o : ℕ) → i < inputs_of (packaged g u ms ps) k → o < outputs_of (packaged g u ms ps) k →
          shows u (up k) i o ≡ shows (default_view (packaged g u ms ps)) k i o
      shown_up k sk ex i o hi ho =
          let r = seen_back k sk in
          let exm : expands u r.0 ≡ false = sym (expanded_same g u ms ps ec s r.0 r.1) ∙ (ap (expands (default_view (packaged g u ms ps))) (sym r.2) ∙ ex) in
          let hi2 : i < inputs_of g r.0 = subst (λ z. i < z) (ap (inputs_of (packaged g u ms ps)) r.2 ∙ ins_same g u ms ps ec s r.0 r.1) hi in
          let ho2 : o < outputs_of g r.0 = subst (λ z. o < z) (ap (outputs_of (packaged g u ms ps)) r.2 ∙ outs_same g u ms ps ec s r.0 r.1) ho in
          ap (λ z. shows u z i o) (at r.0 k r.1 r.2) ∙ (sym (shown_same g u ms ps ec s r.0 r.1 exm i o hi2 ho2) ∙ ap (λ z. shows (default_view (packaged g u ms ps)) z i o) (sym r.2))

  pub package_induced : (d : Assignment) → IsInduced g u d → IsInduced (packaged g u ms ps) (default_view (packaged g u ms ps)) (λ k. d (get_or ms k 0))
  package_induced d ind = standing_induced_law (packaged g u ms ps) (default_view (packaged g u ms ps)) g u up (λ q. get_or ps q 0) grammar_stands d ind

  -- ---- routes that agree
  pub agree_back : (a b : List Step) (m n : ℕ) → IsOpenRoute g u m a → IsOpenRoute g u n b → Agree (renumbered (place_in ps) a) (renumbered (place_in ps) b) → Agree a b
  agree_back [] b m n ra rb q = tt
  agree_back (t ∷ a) [] m n ra rb q = tt
  agree_back (t ∷ a) (v ∷ b) m n ra rb q =
      let pt = open_placed g u ms ps ec s t.production (ra.0.in_range, ra.0.seen, ra.0.expanded) in
      let pv = open_placed g u ms ps ec s v.production (rb.0.in_range, rb.0.seen, rb.0.expanded) in
      (sym pt.is ∙ (ap (λ z. get_or ps z 0) q.0 ∙ pv.is), λ e. agree_back a b (target_of g t) (target_of g v) ra.2 rb.2 (q.1 e))
