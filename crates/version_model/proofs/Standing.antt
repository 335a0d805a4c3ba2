-- Where one grammar stands in another, the same pairs are induced, and the same is reached.
use Rattle.std.proofs.Common.{◌≡◌, ◌↔◌, ℕ, zero, suc, ◌<◌, true, false, cond, IsTrue, List, [], ◌∷◌, ◌++◌, map, length, get_or, flat_map, Some, None, refl, sym, ap, ◌∙◌, subst, inl, inr, ⊎_elim}
use Rattle.std.proofs.lemmas.Bool.{cases_Bool}
use Rattle.std.proofs.lemmas.List.{length-map, get_or-map}
use Rattle.std.specs.Cmp.Derive.{one_truth}
use Rattle.wf_model.specs.Lists.{IsIn, numbers_from}
use Rattle.wf_model.specs.Grammar.{Grammar, Assignment, inputs_of, outputs_of, head_of, body_of, IsAtomic, IsProductionOf}
use Rattle.wf_model.specs.View.{View, expands, IsSeenModule, at_start, in_body}
use Rattle.wf_model.specs.Proper.{RankWithin, IsProper}
use Rattle.wf_model.specs.Links.{wiring, pair_links, place_links, body_links, Path, input, output}
use Rattle.wf_model.specs.Safe.{IsInduced, BodyJoins}
use Rattle.wf_model.specs.Finishing.{ExpandsComposites}
use Rattle.wf_model.specs.Reach.{Step, target_of, module_along}
use Rattle.wf_model.specs.Routes.{IsRoute, Agree}
use Rattle.wf_model.specs.OpenRoutes.{IsOpenStep, IsOpenRoute}
use Rattle.wf_model.proofs.Lists.{in_map}
use Rattle.wf_model.proofs.SameLinks.{pair_links_same}
use Rattle.wf_model.proofs.OpenRoutes.{step_seen}
use Rattle.version_model.specs.Standing.{StandsIn, renumbered_step, renumbered, StandingLaw, StandingRouteLaw, StandingInducedLaw}
use Rattle.version_model.proofs.Matching.{Follows, AreRelated, related_back, along_related, reaches_follows}

module _ (g : Grammar) (u : View) (h : Grammar) (w : View) (to by : ℕ → ℕ) (stands : StandsIn g u h w to by) where
  -- what the first shows, the second shows
  pub seen_too : (m : ℕ) → IsSeenModule g u m → IsSeenModule h w (to m)
  seen_too m (at_start e) = at_start (ap to e ∙ sym stands.start)
  seen_too m (in_body p hp s ex i) =
      let q = stands.productions p hp s ex in
      in_body (by p) q.in_range (subst (IsSeenModule h w) (sym q.head) (seen_too (head_of g p) s)) (ap (expands w) q.head ∙ (stands.expanded (head_of g p) s ∙ ex))
      (subst (IsIn (to m)) (sym q.body) (in_map to m (body_of g p) i))

  -- the same step leads to the same module
  pub same_target : (s : Step) → IsOpenStep g u s → target_of h (renumbered_step by s) ≡ to (target_of g s)
  same_target s x = ap (λ ms. get_or ms s.position 0) (stands.productions s.production x.in_range x.seen x.expanded).body ∙ get_or-map to (body_of g s.production) s.position 0 0 x.position

  module _ (d e : Assignment) where
    -- the same pairs are assigned to a module
    abbrev HasSame : ℕ → Type 0
    HasSame m = (i o : ℕ) → i < inputs_of g m → o < outputs_of g m → e (to m) i o ≡ d m i o

    pair_links_both : {A : Type 0} (m : ℕ) (a : A) → IsSeenModule g u m → HasSame m → pair_links h e (to m) a ≡ pair_links g d m a
    pair_links_both {A} m a s same =
        ap (λ n. flat_map (λ i. flat_map (λ o. cond (e (to m) i o) (record { from = input a i; to = output a o } ∷ []) []) (numbers_from 0 n)) (numbers_from 0 (inputs_of h (to m)))) (stands.outs m s) ∙
        (ap (λ n. flat_map (λ i. flat_map (λ o. cond (e (to m) i o) (record { from = input a i; to = output a o } ∷ []) []) (numbers_from 0 (outputs_of g m))) (numbers_from 0 n)) (stands.ins m s) ∙
        pair_links_same g (λ k. e (to k)) d m a same)

    place_links_both : (k : ℕ) (ms : List ℕ) → ((m : ℕ) → IsIn m ms → IsSeenModule g u m × HasSame m) → place_links h e k (map to ms) ≡ place_links g d k ms
    place_links_both k [] f = refl
    place_links_both k (m ∷ ms) f =
        let q = f m (inl refl) in
        ap (λ l. l ++ place_links h e (suc k) (map to ms)) (pair_links_both m (Some k) q.0 q.1) ∙
        ap (λ l. pair_links g d m (Some k) ++ l) (place_links_both (suc k) ms (λ n i. f n (inr i)))

    -- a body has the same links
    body_links_both : (p : ℕ) → p < length g.productions → IsSeenModule g u (head_of g p) → IsTrue (expands u (head_of g p)) → ((m : ℕ) → IsIn m (body_of g p) → HasSame m) → body_links h e (by p) ≡ body_links g d p
    body_links_both p hp s ex f =
        let q = stands.productions p hp s ex in
        ap (λ l. l ++ place_links h e 0 (body_of h (by p))) q.wired ∙
        (ap (λ ms. wiring g p ++ place_links h e 0 ms) q.body ∙
        ap (λ l. wiring g p ++ l) (place_links_both 0 (body_of g p) (λ m i. (in_body p hp s ex i, f m i))))

  -- what the productions of the second induce, those of the first induce
  pub induced_here : (e : Assignment) → IsInduced h w e → IsInduced g u (λ m. e (to m))
  induced_here e ind = record {
    shown = λ m s ex i o hi ho.
        ind.shown (to m) (seen_too m s) (stands.expanded m s ∙ ex) i o (subst (λ z. i < z) (sym (stands.ins m s)) hi) (subst (λ z. o < z) (sym (stands.outs m s)) ho) ∙
        stands.shown m s ex i o hi ho;
    induced = here;
  }
    where
      here : (p : ℕ) → p < length g.productions → IsSeenModule g u (head_of g p) → IsTrue (expands u (head_of g p)) → (i o : ℕ) → i < inputs_of g (head_of g p) → o < outputs_of g (head_of g p) →
          IsTrue (e (to (head_of g p)) i o) ↔ BodyJoins g (λ m. e (to m)) p i o
      here p hp s ex i o hi ho =
          let q = stands.productions p hp s ex in
          let same = body_links_both (λ m. e (to m)) e p hp s ex (λ m j a b ha hb. refl) in
          let there : IsTrue (e (head_of h (by p)) i o) ↔ BodyJoins h e (by p) i o =
          ind.induced (by p) q.in_range (subst (IsSeenModule h w) (sym q.head) (seen_too (head_of g p) s)) (ap (expands w) q.head ∙ (stands.expanded (head_of g p) s ∙ ex)) i o
          (subst (λ z. i < z) (sym (ap (inputs_of h) q.head ∙ stands.ins (head_of g p) s)) hi)
          (subst (λ z. o < z) (sym (ap (outputs_of h) q.head ∙ stands.outs (head_of g p) s)) ho) in (
            (λ t. subst (λ l. Path l (input None i) (output None o)) same (there.0 (subst (λ z. IsTrue (e z i o)) (sym q.head) t))),
            (λ t. subst (λ z. IsTrue (e z i o)) q.head (there.1 (subst (λ l. Path l (input None i) (output None o)) (sym same) t))),
          )

  module _ (d e : Assignment) (ind : IsInduced g u d) (ind2 : IsInduced h w e) where
    -- where the modules of a body have the same pairs, so has the head
    head_same : (p : ℕ) → p < length g.productions → IsSeenModule g u (head_of g p) → IsTrue (expands u (head_of g p)) → ((m : ℕ) → IsIn m (body_of g p) → HasSame d e m) → HasSame d e (head_of g p)
    head_same p hp s ex f i o hi ho =
        let same : body_links g (λ m. e (to m)) p ≡ body_links g d p = sym (body_links_both (λ m. e (to m)) e p hp s ex (λ m j a b ha hb. refl)) ∙ body_links_both d e p hp s ex f in
        let one = ind.induced p hp s ex i o hi ho in
        let two = (induced_here e ind2).induced p hp s ex i o hi ho in
        one_truth (e (to (head_of g p)) i o) (d (head_of g p) i o)
        (λ t. one.1 (subst (λ l. Path l (input None i) (output None o)) same (two.0 t)))
        (λ t. two.1 (subst (λ l. Path l (input None i) (output None o)) (sym same) (one.0 t)))

    shut_same : (m : ℕ) → IsSeenModule g u m → expands u m ≡ false → HasSame d e m
    shut_same m s ex i o hi ho = (induced_here e ind2).shown m s ex i o hi ho ∙ sym (ind.shown m s ex i o hi ho)

    -- by the ranks of modules: one production of each tells its pairs
    inside : (m p : ℕ) → IsProductionOf g p m → IsSeenModule g u m → expands u m ≡ true → ((k : ℕ) → IsIn k (body_of g p) → IsSeenModule g u k → HasSame d e k) → HasSame d e m
    inside m p q s ex f =
        let seen : IsSeenModule g u (head_of g p) = subst (IsSeenModule g u) (sym q.1) s in
        let opened : IsTrue (expands u (head_of g p)) = ap (expands u) q.1 ∙ ex in
        subst (HasSame d e) q.1 (head_same p q.0 seen opened (λ k i. f k i (in_body p q.0 seen opened i)))

    atomic_same : ExpandsComposites g u → (m : ℕ) → IsAtomic g m → IsSeenModule g u m → HasSame d e m
    atomic_same ec m atomic s = ⊎_elim (λ ex. let c = ec m ex in absurd (atomic c.0 c.1.0 c.1.1)) (λ ex. shut_same m s ex) (cases_Bool (expands u m))

    ranked_same : ExpandsComposites g u → (n m : ℕ) → RankWithin g n m → IsSeenModule g u m → HasSame d e m
    ranked_same ec zero m atomic s = atomic_same ec m atomic s
    ranked_same ec (suc n) m (inl atomic) s = atomic_same ec m atomic s
    ranked_same ec (suc n) m (inr r) s = ⊎_elim
        (λ ex. inside m r.0 r.1 s ex (λ k i t. ranked_same ec n k (r.2 k i) t))
        (λ ex. shut_same m s ex)
        (cases_Bool (expands u m))

    pairs_same : IsProper g → ExpandsComposites g u → (m : ℕ) → IsSeenModule g u m → HasSame d e m
    pairs_same proper ec m s = ⊎_elim
        (λ ex. let r = proper.ranked m (ec m ex) in ranked_same ec r.0 m r.1 s)
        (λ ex. shut_same m s ex)
        (cases_Bool (expands u m))

    same_bodies : IsProper g → ExpandsComposites g u → (s : Step) → IsOpenStep g u s → body_links h e (by s.production) ≡ body_links g d s.production
    same_bodies proper ec s x = body_links_both d e s.production x.in_range x.seen x.expanded (λ m i. pairs_same proper ec m (in_body s.production x.in_range x.seen x.expanded i))

  -- a seen module and its number in the second, an open step and its number there
  abbrev Renumbered : ℕ → ℕ → Type 0
  Renumbered m n = IsSeenModule g u m × (n ≡ to m)

  abbrev RenumberedStep : Step → Step → Type 0
  RenumberedStep s t = IsOpenStep g u s × (t ≡ renumbered_step by s)

  target_related : (s t : Step) → RenumberedStep s t → Renumbered (target_of g s) (target_of h t)
  target_related s t x = (step_seen g u s x.0, ap (target_of h) x.1 ∙ same_target s x.0)

  ins_related : (m n : ℕ) → Renumbered m n → inputs_of g m ≡ inputs_of h n
  ins_related m n r = sym (stands.ins m r.0) ∙ ap (inputs_of h) (sym r.1)

  outs_related : (m n : ℕ) → Renumbered m n → outputs_of g m ≡ outputs_of h n
  outs_related m n r = sym (stands.outs m r.0) ∙ ap (outputs_of h) (sym r.1)

  module _ (d e : Assignment) (ind : IsInduced g u d) (ind2 : IsInduced h w e) (proper : IsProper g) (ec : ExpandsComposites g u) where
    follows : Follows g d h e Renumbered RenumberedStep
    follows = record {
      target = target_related;
      position = λ s t x. ap (λ (z : Step). z.position) (sym x.1);
      ins = ins_related;
      outs = outs_related;
      pairs = λ m n r i o hi ho t. ap (λ z. e z i o) r.1 ∙ (pairs_same d e ind ind2 proper ec m r.0 i o hi ho ∙ t);
      links = λ s t x l i. subst (λ (z : Step). IsIn l (body_links h e z.production)) (sym x.1) (subst (IsIn l) (sym (same_bodies d e ind ind2 proper ec s x.0)) i);
    }

    follows_back : Follows h e g d (λ n m. Renumbered m n) (λ t s. RenumberedStep s t)
    follows_back = record {
      target = λ t s x. target_related s t x;
      position = λ t s x. ap (λ (z : Step). z.position) x.1;
      ins = λ n m r. sym (ins_related m n r);
      outs = λ n m r. sym (outs_related m n r);
      pairs = λ n m r i o hi ho t.
          sym (pairs_same d e ind ind2 proper ec m r.0 i o (subst (λ z. i < z) (sym (ins_related m n r)) hi) (subst (λ z. o < z) (sym (outs_related m n r)) ho)) ∙ (ap (λ z. e z i o) (sym r.1) ∙ t);
      links = λ t s x l i. subst (IsIn l) (same_bodies d e ind ind2 proper ec s x.0) (subst (λ (z : Step). IsIn l (body_links h e z.production)) x.1 i);
    }

  -- the steps of an open route are open steps
  pub route_related : (m : ℕ) (a : List Step) → IsOpenRoute g u m a → AreRelated RenumberedStep a (renumbered by a)
  route_related m [] x = tt
  route_related m (s ∷ a) x = ((x.0, refl), route_related (target_of g s) a x.2)

  -- an open step is one of the second
  pub step_too : (s : Step) → IsOpenStep g u s → IsOpenStep h w (renumbered_step by s) × (head_of h (by s.production) ≡ to (head_of g s.production))
  step_too s x =
      let q = stands.productions s.production x.in_range x.seen x.expanded in (
        record {
          in_range = q.in_range;
          seen = subst (IsSeenModule h w) (sym q.head) (seen_too (head_of g s.production) x.seen);
          expanded = ap (expands w) q.head ∙ (stands.expanded (head_of g s.production) x.seen ∙ x.expanded);
          position = subst (λ z. s.position < z) (sym (ap length q.body ∙ length-map (body_of g s.production) to)) x.position;
        },
        q.head,
      )

  -- an open route leads to the same module
  pub along_too : (a : List Step) (m n : ℕ) → n ≡ to m → IsOpenRoute g u m a → module_along h n (renumbered by a) ≡ to (module_along g m a)
  along_too [] m n e x = e
  along_too (s ∷ a) m n e x = along_too a (target_of g s) (target_of h (renumbered_step by s)) (same_target s x.0) x.2

  there : (a : List Step) (m n : ℕ) → n ≡ to m → IsOpenRoute g u m a → IsOpenRoute h w n (renumbered by a)
  there [] m n e x = tt
  there (s ∷ a) m n e x = let q = step_too s x.0 in (q.0, q.1 ∙ (ap to x.1 ∙ sym e), there a (target_of g s) (target_of h (renumbered_step by s)) (same_target s x.0) x.2)

  back : (a : List Step) (m n : ℕ) → n ≡ to m → IsSeenModule g u m → IsRoute g m a → IsOpenRoute h w n (renumbered by a) → IsOpenRoute g u m a
  back [] m n e s r x = tt
  back (t ∷ a) m n e s r x =
      let ex : expands u m ≡ true = sym (stands.expanded m s) ∙ (ap (expands w) (sym e ∙ sym x.1) ∙ x.0.expanded) in
      let o : IsOpenStep g u t = record { in_range = r.0; seen = subst (IsSeenModule g u) (sym r.1) s; expanded = ap (expands u) r.1 ∙ ex; position = r.2 } in
      (o, r.1, back a (target_of g t) (target_of h (renumbered_step by t)) (same_target t o) (step_seen g u t o) r.3 x.2)

pub agree_too : (by : ℕ → ℕ) (a b : List Step) → Agree a b → Agree (renumbered by a) (renumbered by b)
agree_too by [] b x = tt
agree_too by (s ∷ a) [] x = tt
agree_too by (s ∷ a) (t ∷ b) x = (ap by x.0, λ e. agree_too by a b (x.1 e))

pub standing_law : StandingLaw
standing_law g u h w to by proper ec stands d e ind ind2 = record {
  pairs = pairs_same g u h w to by stands d e ind ind2 proper ec;
  reaches = λ a b oa ob agree i o hi ho.
      let seen : IsSeenModule g u g.start = at_start refl in
      let x = follows g u h w to by stands d e ind ind2 proper ec in
      let y = follows_back g u h w to by stands d e ind ind2 proper ec in
      let ra = route_related g u h w to by stands g.start a oa in
      let rb = route_related g u h w to by stands g.start b ob in
      let ta = along_related g d h e _ _ x a (renumbered by a) g.start h.start ra (seen, stands.start) in
      let tb = along_related g d h e _ _ x b (renumbered by b) g.start h.start rb (seen, stands.start) in (
        (λ q. reaches_follows g d h e _ _ x a (renumbered by a) b (renumbered by b) ra rb agree g.start h.start (seen, stands.start) i o hi ho q),
        (λ q. reaches_follows h e g d _ _ y (renumbered by a) a (renumbered by b) b (related_back _ a (renumbered by a) ra) (related_back _ b (renumbered by b) rb) (agree_too by a b agree) h.start g.start (seen, stands.start) i o
            (subst (λ z. i < z) (ins_related g u h w to by stands _ _ ta) hi)
            (subst (λ z. o < z) (outs_related g u h w to by stands _ _ tb) ho)
            q),
      );
}

pub standing_route_law : StandingRouteLaw
standing_route_law g u h w to by stands a r = (there g u h w to by stands a g.start h.start stands.start, back g u h w to by stands a g.start h.start stands.start (at_start refl) r)

pub standing_induced_law : StandingInducedLaw
standing_induced_law g u h w to by stands e ind = induced_here g u h w to by stands e ind
