-- An assignment that has every pair of another reaches whatever the other reaches.
use Rattle.std.proofs.Common.{◌≡◌, ℕ, ◌+◌, ◌<◌, IsTrue, List, [], ◌∷◌, get_or, Option, Some, None, sym, ap, ◌∙◌, subst, inl, inr, ⊎_elim}
use Rattle.wf_model.specs.Lists.{IsIn}
use Rattle.wf_model.specs.Grammar.{Grammar, Assignment, inputs_of, outputs_of, body_of}
use Rattle.wf_model.specs.View.{View, IsSeenModule, in_body}
use Rattle.wf_model.specs.Links.{Port, Link, input, output, wiring, pair_links, place_links, body_links, Path}
use Rattle.wf_model.specs.Reach.{Step, target_of, module_along, Into, OutOf, Down, Up, Reaches}
use Rattle.wf_model.specs.Routes.{Agree}
use Rattle.wf_model.specs.OpenRoutes.{IsOpenStep, IsOpenRoute}
use Rattle.wf_model.proofs.Lists.{in_append_left, in_append_right, in_append_cases, at_in}
use Rattle.wf_model.proofs.Level.{pair_links_from, pair_links_in, place_links_from, place_links_in}
use Rattle.wf_model.proofs.OpenRoutes.{step_seen}
use Rattle.wf_laws.proofs.Safe.{walk_same}

module _ (g : Grammar) (d e : Assignment) where
  -- each pair that the first assigns to a module, the second assigns to it too
  abbrev pub HasAll : ℕ → Type 0
  HasAll m = (i o : ℕ) → i < inputs_of g m → o < outputs_of g m → IsTrue (d m i o) → IsTrue (e m i o)

  -- the links of a body by the first are links by the second
  links_more : (p : ℕ) → ((k : ℕ) → IsIn k (body_of g p) → HasAll k) → (l : Link (Option ℕ)) → IsIn l (body_links g d p) → IsIn l (body_links g e p)
  links_more p all l h = ⊎_elim
      (λ a. in_append_left l (wiring g p) (place_links g e 0 (body_of g p)) a)
      (λ a.
      let c = place_links_from g d l 0 (body_of g p) a in
      let w = pair_links_from g d c.1 (Some (0 + c.0)) l c.3 in
      let r = pair_links_in g e c.1 (Some (0 + c.0)) w.0 w.1 w.2 w.3 (all c.1 (at_in c.1 c.0 (body_of g p) c.2) w.0 w.1 w.2 w.3 w.4) in
      in_append_right l (wiring g p) (place_links g e 0 (body_of g p))
      (place_links_in g e l 0 (body_of g p) c.0 c.1 c.2 (subst (λ z. IsIn z (pair_links g e c.1 (Some (0 + c.0)))) (sym w.5) r)))
      (in_append_cases l (wiring g p) (place_links g d 0 (body_of g p)) h)

  pub path_more : (p : ℕ) → ((k : ℕ) → IsIn k (body_of g p) → HasAll k) → (x y : Port (Option ℕ)) → Path (body_links g d p) x y → Path (body_links g e p) x y
  path_more p all x y w = walk_same (λ a b l. links_more p all (record { from = a; to = b }) l) w

  module _ (u : View) (all : (m : ℕ) → IsSeenModule g u m → HasAll m) where
    -- a path in the body that an open step leaves
    step_more : (s : Step) → IsOpenStep g u s → (x y : Port (Option ℕ)) → Path (body_links g d s.production) x y → Path (body_links g e s.production) x y
    step_more s x = path_more s.production (λ k i. all k (in_body s.production x.in_range x.seen x.expanded i))

    into_more : (s : Step) → IsOpenStep g u s → (i j : ℕ) → Into g d s i j → Into g e s i j
    into_more s x i j q = (q.0, step_more s x (input None i) (input (Some s.position) j) q.1)

    out_more : (s : Step) → IsOpenStep g u s → (j o : ℕ) → OutOf g d s j o → OutOf g e s j o
    out_more s x j o q = (q.0, step_more s x (output (Some s.position) j) (output None o) q.1)

    down_more : (b : List Step) (m : ℕ) → IsSeenModule g u m → IsOpenRoute g u m b → (i o : ℕ) → i < inputs_of g m → o < outputs_of g (module_along g m b) → Down g d m b i o → Down g e m b i o
    down_more [] m h x i o hi ho q = all m h i o hi ho q
    down_more (s ∷ b) m h x i o hi ho q = (q.0, into_more s x.0 i q.0 q.1, down_more b (target_of g s) (step_seen g u s x.0) x.2 q.0 o q.1.0 ho q.2)

    up_more : (a : List Step) (m : ℕ) → IsSeenModule g u m → IsOpenRoute g u m a → (i o : ℕ) → i < inputs_of g (module_along g m a) → o < outputs_of g m → Up g d m a i o → Up g e m a i o
    up_more [] m h x i o hi ho q = all m h i o hi ho q
    up_more (s ∷ a) m h x i o hi ho q = (q.0, out_more s x.0 q.0 o q.1, up_more a (target_of g s) (step_seen g u s x.0) x.2 i q.0 hi q.1.0 q.2)

    pub reaches_more : (a b : List Step) → Agree a b → (m : ℕ) → IsSeenModule g u m → IsOpenRoute g u m a → IsOpenRoute g u m b →
        (i o : ℕ) → i < inputs_of g (module_along g m a) → o < outputs_of g (module_along g m b) → Reaches g d m a b i o → Reaches g e m a b i o
    reaches_more [] b agree m h xa xb i o hi ho q = down_more b m h xb i o hi ho q
    reaches_more (s ∷ a) [] agree m h xa xb i o hi ho q = up_more (s ∷ a) m h xa i o hi ho q
    reaches_more (s ∷ a) (t ∷ b) agree m h xa xb i o hi ho q = go (reaches_more a b) q
      where
        same : s.position ≡ t.position → target_of g t ≡ target_of g s
        same p = ap (λ z. get_or (body_of g z) t.position 0) (sym agree.0) ∙ ap (λ z. get_or (body_of g s.production) z 0) (sym p)

        go : (Agree a b → (m : ℕ) → IsSeenModule g u m → IsOpenRoute g u m a → IsOpenRoute g u m b → (i o : ℕ) → i < inputs_of g (module_along g m a) → o < outputs_of g (module_along g m b) → Reaches g d m a b i o → Reaches g e m a b i o) →
            Reaches g d m (s ∷ a) (t ∷ b) i o → Reaches g e m (s ∷ a) (t ∷ b) i o
        go rest (inl c) = inl (
          c.0,
          rest (agree.1 c.0) (target_of g s) (step_seen g u s xa.0) xa.2 (subst (λ z. IsOpenRoute g u z b) (same c.0) xb.2) i o hi (subst (λ z. o < outputs_of g (module_along g z b)) (same c.0) ho) c.1,
        )
        go rest (inr c) =
            let r = c.1 in
            inr (
              c.0,
              (
                r.0,
                r.1,
                r.2,
                r.3,
                up_more a (target_of g s) (step_seen g u s xa.0) xa.2 i r.0 hi r.2 r.4,
                step_more s xa.0 (output (Some s.position) r.0) (input (Some t.position) r.1) r.5,
                down_more b (target_of g t) (step_seen g u t xb.0) xb.2 r.1 o r.3 ho r.6,
              ),
            )
