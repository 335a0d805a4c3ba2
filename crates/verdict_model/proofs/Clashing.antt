-- Two labels clash or not, and they do not exactly where the ways that they tell agree. So no run has two that clash.
use Rattle.std.proofs.Common.{◌≡◌, ◌≢◌, ◌⊎◌, ℕ, List, [], ◌∷◌, ◌++◌, get_or, refl, sym, ap, ◌∙◌, subst, inl, inr, ⊎_elim, arith, append_assoc}
use Rattle.std.proofs.lemmas.Bool.{cases_eq}
use Rattle.wf_model.specs.Grammar.{Grammar, production_at, body_of}
use Rattle.wf_model.specs.WellFormed.{IsWellFormed}
use Rattle.wf_model.specs.declared.event.Event.{Event}
use Rattle.wf_model.specs.Run.{IsRun, root_of}
use Rattle.wf_model.specs.Items.{Item}
use Rattle.wf_model.specs.Reach.{Step}
use Rattle.wf_model.specs.Routes.{IsAddress, Agree}
use Rattle.wf_model.proofs.Lists.{at_below, at_in}
use Rattle.wf_model.proofs.Level.{opening}
use Rattle.wf_laws.proofs.Routes.{address_more}
use Rattle.wf_laws.proofs.Agreeing.{agree_law}
use Rattle.label_model.specs.Labels.{Label, Input, Output, OfEdge, IsLabel}
use Rattle.verdict_model.specs.Telling.{Tells}
use Rattle.verdict_model.specs.Verdicts.{IsHidden, AreClashing}
use Rattle.verdict_model.specs.Laws.{EitherLaw, NoClashLaw}
use Rattle.verdict_model.proofs.LabelsTold.{telling_law, IsMadeAt, made_at}
use Rattle.verdict_model.proofs.Naming.{Passes, passes_more, names_passed, passed_named, input_unnamed, output_unnamed}
use Rattle.verdict_model.proofs.Hiding.{hidden_or_not, input_shown, output_shown}

-- the address of a child of the instance at the address a, by the production p
abbrev pub child_of : List Step → ℕ → ℕ → List Step
child_of a p k = a ++ record { production = p; position = k } ∷ []

-- two ways pass one address by different productions
abbrev pub AreParting : List Step → ℕ → List Step → ℕ → Type 0
AreParting a p b q = (c : List Step) × (r : ℕ) × (k : ℕ) × Passes a p c r × Passes b q c k × (r ≢ k)

pub agree_nil : (a : List Step) → Agree a []
agree_nil [] = tt
agree_nil (s ∷ a) = tt

-- two ways part, or their addresses agree
module _ (p q k l : ℕ) where
  pub parting_or_agree : (a b : List Step) → AreParting a p b q ⊎ Agree (child_of a p k) (child_of b q l)
  parting_or_agree [] [] = ⊎_elim (λ e. inr (e, λ z. tt)) (λ n. inl ([], p, q, inl (refl, refl), inl (refl, refl), n)) (cases_eq p q)
  parting_or_agree [] (t ∷ b) = ⊎_elim (λ e. inr (e, λ z. tt)) (λ n. inl ([], p, t.production, inl (refl, refl), inr (t, b, refl, refl), n)) (cases_eq p t.production)
  parting_or_agree (s ∷ a) [] = ⊎_elim (λ e. inr (e, λ z. agree_nil (child_of a p k))) (λ n. inl ([], s.production, q, inr (s, a, refl, refl), inl (refl, refl), n)) (cases_eq s.production q)
  parting_or_agree (s ∷ a) (t ∷ b) = go (parting_or_agree a b) (cases_eq s.production t.production) (cases_eq s.position t.position)
    where
      go : AreParting a p b q ⊎ Agree (child_of a p k) (child_of b q l) → (s.production ≡ t.production) ⊎ (s.production ≡ t.production → ⊥) → (s.position ≡ t.position) ⊎ (s.position ≡ t.position → ⊥) →
          AreParting (s ∷ a) p (t ∷ b) q ⊎ Agree (s ∷ child_of a p k) (t ∷ child_of b q l)
      go rest (inr n) f = inl ([], s.production, t.production, inr (s, a, refl, refl), inr (t, b, refl, refl), n)
      go rest (inl e) (inr n) = inr (e, λ z. absurd (n z))
      go (inr h) (inl e) (inl f) = inr (e, λ z. h)
      go (inl h) (inl e) (inl f) =
          let same : s ≡ t = λ i. record { production = e i; position = f i } in
          inl (s ∷ h.0, h.1, h.2, passes_more s a p h.0 h.1 h.3, subst (λ (z : Step). Passes (t ∷ b) q (z ∷ h.0) h.2) (sym same) (passes_more t b q h.0 h.2 h.4), h.5)

-- what is passed is left by a step to a child
left_by : (a : List Step) (p k : ℕ) (c : List Step) (r : ℕ) → Passes a p c r → (s : Step) × (rest : List Step) × (child_of a p k ≡ c ++ s ∷ rest) × (s.production ≡ r)
left_by a p k c r (inl h) = (record { production = p; position = k }, [], ap (λ z. child_of z p k) h.0, h.1)
left_by a p k c r (inr h) = (h.0, child_of h.1 p k, ap (λ z. child_of z p k) h.2 ∙ append_assoc c (h.0 ∷ h.1) (record { production = p; position = k } ∷ []), h.3)

pub agreed_at : (c : List Step) (s t : Step) (a b : List Step) → Agree (c ++ s ∷ a) (c ++ t ∷ b) → s.production ≡ t.production
agreed_at [] s t a b h = h.0
agreed_at (w ∷ c) s t a b h = agreed_at c s t a b (h.1 refl)

-- ways to addresses that agree do not part
pub agree_not_parting : (a b : List Step) (p q k l : ℕ) → Agree (child_of a p k) (child_of b q l) → AreParting a p b q → ⊥
agree_not_parting a b p q k l h x =
    let y = left_by a p k x.0 x.1 x.3 in
    let z = left_by b q l x.0 x.2 x.4 in
    let w = subst (λ v. Agree v (x.0 ++ z.0 ∷ z.1)) y.2 (subst (λ v. Agree (child_of a p k) v) z.2 h) in
    x.5 (sym y.3 ∙ (agreed_at x.0 y.0 z.0 y.1 z.1 w ∙ z.3))

module _ (g : Grammar) (wf : IsWellFormed g) (x y : Label) (a b : List Step) (p q e f : ℕ) (tx : Tells g x a p e) (ty : Tells g y b q f) where
  pub clash_parting : AreClashing g x y → AreParting a p b q
  clash_parting h = (h.0, h.1, h.2, passed_named g wf x a p e tx h.0 h.1 h.3, passed_named g wf y b q f ty h.0 h.2 h.4, h.5)

  pub parting_clash : AreParting a p b q → AreClashing g x y
  parting_clash h = (h.0, h.1, h.2, names_passed g wf x a p e tx h.0 h.1 h.3, names_passed g wf y b q f ty h.0 h.2 h.4, h.5)

  clash_or_not : AreClashing g x y ⊎ (AreClashing g x y → ⊥)
  clash_or_not = ⊎_elim (λ h. inl (parting_clash h)) (λ h. inr (λ z. agree_not_parting a b p q 0 0 h (clash_parting z))) (parting_or_agree p q 0 0 a b)

pub either_law : EitherLaw
either_law g u wf x y lx ly = record { hidden = hidden x lx; clash = clash x y lx ly }
  where
    hidden : (x : Label) → IsLabel g x → IsHidden g u x ⊎ (IsHidden g u x → ⊥)
    hidden (Input k) l = inr (input_shown g u k)
    hidden (Output k) l = inr (output_shown g u k)
    hidden (OfEdge z) l = let r = (telling_law g wf).each z l in hidden_or_not g wf u (OfEdge z) r.0 r.1 r.2 r.3

    clash : (x y : Label) → IsLabel g x → IsLabel g y → AreClashing g x y ⊎ (AreClashing g x y → ⊥)
    clash (Input k) y l h = inr (λ z. input_unnamed g k z.0 z.1 z.3)
    clash (Output k) y l h = inr (λ z. output_unnamed g k z.0 z.1 z.3)
    clash (OfEdge v) (Input k) l h = inr (λ z. input_unnamed g k z.0 z.2 z.4)
    clash (OfEdge v) (Output k) l h = inr (λ z. output_unnamed g k z.0 z.2 z.4)
    clash (OfEdge v) (OfEdge w) l h =
        let r = (telling_law g wf).each v l in
        let s = (telling_law g wf).each w h in
        clash_or_not g wf (OfEdge v) (OfEdge w) r.0 s.0 r.1 s.1 r.2 s.2 r.3 s.3

-- the address of the instance where the item of an edge is produced
pub source_address : (g : Grammar) → IsWellFormed g → (events : List Event) → IsRun g g.start events → (t : Item) (a : List Step) (p e : ℕ) → (m : IsMadeAt g events t a p e) →
    IsAddress events (root_of events) (child_of a p m.edge.from.position) (get_or m.names m.edge.from.position [])
source_address g wf events run t a p e m =
    let from = (wf.bodies p m.ends.of_it.0).edges_from m.edge (at_in m.edge e (production_at g p).edges m.number) in
    let o = opening g g.start [] events m.instance (record { production = p; names = m.names }) run m.expanded in
    address_more events a (root_of events) m.instance (record { production = p; position = m.edge.from.position }) m.names m.address m.expanded
    (let l = at_below from.0 m.edge.from.position (body_of g p) from.1 in omega (arith, o.one_each))

pub no_clash_law : NoClashLaw
no_clash_law g wf events run s t x y hx hy clash =
    let nx = clash.3 in
    let ny = clash.4 in
    let mx = made_at g events run s x wf hx.0 nx.0 nx.1 nx.2 nx.3 in
    let my = made_at g events run t y wf hy.0 ny.0 ny.1 ny.2 ny.3 in
    let agree = agree_law events _ _ _ _ (source_address g wf events run s nx.0 nx.1 nx.2 mx) (source_address g wf events run t ny.0 ny.1 ny.2 my) in
    agree_not_parting nx.0 ny.0 nx.1 ny.1 mx.edge.from.position my.edge.from.position agree (clash_parting g wf x y nx.0 ny.0 nx.1 ny.1 nx.2 ny.2 nx.3 ny.3 clash)
