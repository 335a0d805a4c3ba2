-- Where two labels are consumed and produced, in the grammar and in the package of a view, and that they clash in both or in none.
use Rattle.std.proofs.Common.{◌≡◌, ◌⊎◌, ℕ, ◌<◌, List, [], ◌∷◌, length, get_or, refl, sym, ap, ◌∙◌, subst, inl, inr, ⊎_elim}
use Rattle.std.proofs.lemmas.List.{map-append}
use Rattle.wf_model.specs.Lists.{IsAt}
use Rattle.wf_model.specs.Grammar.{Grammar, Edge, Production, production_at, inputs_of, outputs_of, body_of}
use Rattle.wf_model.specs.WellFormed.{IsWellFormed, IsInnerInput, IsInnerOutput}
use Rattle.wf_model.specs.View.{View, expands, IsSeenModule, at_start}
use Rattle.wf_model.specs.Finishing.{ExpandsComposites}
use Rattle.wf_model.specs.Reach.{Step, module_along}
use Rattle.wf_model.specs.Routes.{Agree}
use Rattle.wf_model.specs.OpenRoutes.{IsOpenStep, IsOpenRoute}
use Rattle.wf_model.proofs.Lists.{at_below, at_in, at_is, is_at}
use Rattle.wf_model.proofs.OpenRoutes.{route_seen, open_append}
use Rattle.wf_laws.proofs.Address.{module_along_more}
use Rattle.label_model.specs.Labels.{Place, Label, Input, Output, OfEdge, IsLabel}
use Rattle.verdict_model.specs.Telling.{Tells, Names, ConsumedAt, ProducedAt}
use Rattle.verdict_model.specs.Verdicts.{IsHidden, AreClashing}
use Rattle.verdict_model.proofs.Clashing.{child_of, agree_nil, parting_or_agree, agree_not_parting, clash_parting, parting_clash}
use Rattle.verdict_model.proofs.Hiding.{AllExpanded, shown_expanded}
use Rattle.verdict_model.proofs.Naming.{input_unnamed, output_unnamed}
use Rattle.version_model.specs.Standing.{renumbered, renumbered_step}
use Rattle.version_model.proofs.Standing.{agree_too}
use Rattle.package_model.specs.Shown.{AreSeen, place_in, shown_production}
use Rattle.package_model.specs.Packages.{package_production}
use Rattle.package_model.specs.Laws.{packaged}
use Rattle.package_model.specs.TranslationLaws.{TellsByPlace}
use Rattle.package_model.proofs.PackageBack.{agree_back}
use Rattle.package_model.proofs.PackageFormed.{package_formed}
use Rattle.package_model.proofs.PackageParts.{open_placed, production_of}

module _ (g : Grammar) (u : View) (ms ps : List ℕ) (wf : IsWellFormed g) (ec : ExpandsComposites g u) (s : AreSeen g u ms ps) where
  abbrev pack : Grammar
  pack = packaged g u ms ps

  abbrev by_place : List Step → List Step
  by_place a = renumbered (place_in ps) a

  pub pack_formed : IsWellFormed pack
  pack_formed = package_formed g u ms ps ec s wf

  -- the address of a child, by place
  child_up : (a : List Step) (p k : ℕ) → by_place (child_of a p k) ≡ child_of (by_place a) (place_in ps p) k
  child_up a p k = map-append (renumbered_step (place_in ps)) a (record { production = p; position = k } ∷ [])

  -- a label that is not hidden, of an edge, and the one that tells the same by place
  pub record IsWay (l k : Label) (a : List Step) (p e : ℕ) : Type 0 where
    pub tells : Tells g l a p e
    pub told : Tells pack k (by_place a) (place_in ps p) e
    pub all : AllExpanded g u g.start a

  module _ (l k : Label) (a : List Step) (p e : ℕ) (way : IsWay l k a p e) where
    seen_end : IsSeenModule g u (module_along g g.start a)
    seen_end = route_seen g u g.start a (at_start refl) way.all.0

    -- a child stands at an open route
    child_open : (j : ℕ) → j < length (body_of g p) → IsOpenRoute g u g.start (child_of a p j)
    child_open j h =
        let e = way.tells.ending in
        let st : IsOpenStep g u (record { production = p; position = j }) = record { in_range = e.of_it.0; seen = subst (IsSeenModule g u) (sym e.of_it.1) seen_end; expanded = ap (expands u) e.of_it.1 ∙ way.all.1; position = h } in
        open_append g u g.start a (record { production = p; position = j } ∷ []) way.all.0 (st, e.of_it.1, tt)

    first_open : IsOpenRoute g u g.start (child_of a p 0)
    first_open = child_open 0 ((wf.bodies p way.tells.ending.of_it.0).some_position)

    -- the edges of its production
    same_edges : (production_at pack (place_in ps p)).edges ≡ (production_at g p).edges
    same_edges =
        let e = way.tells.ending in
        let pl = open_placed g u ms ps ec s p (e.of_it.0, subst (IsSeenModule g u) (sym e.of_it.1) seen_end, ap (expands u) e.of_it.1 ∙ way.all.1) in
        ap (λ (z : Production). z.edges) (production_of g u ms ps ec s (place_in ps p) pl.below ∙ ap (λ z. package_production (shown_production g ms z)) pl.is)

  -- two such labels clash in both or in none
  module _ (x y k l : Label) (a b : List Step) (p q e f : ℕ) (wx : IsWay x k a p e) (wy : IsWay y l b q f) where
    edges_clash_up : AreClashing g x y → AreClashing pack k l
    edges_clash_up h = ⊎_elim
        (λ part. parting_clash pack pack_formed k l (by_place a) (by_place b) (place_in ps p) (place_in ps q) e f wx.told wy.told part)
        (λ agree. absurd (agree_not_parting a b p q 0 0
        (agree_back g u ms ps ec s (child_of a p 0) (child_of b q 0) g.start g.start (first_open x k a p e wx) (first_open y l b q f wy)
        (subst (λ z. Agree z (by_place (child_of b q 0))) (sym (child_up a p 0)) (subst (λ z. Agree (child_of (by_place a) (place_in ps p) 0) z) (sym (child_up b q 0)) agree)))
        (clash_parting g wf x y a b p q e f wx.tells wy.tells h)))
        (parting_or_agree (place_in ps p) (place_in ps q) 0 0 (by_place a) (by_place b))

    edges_clash_back : AreClashing pack k l → AreClashing g x y
    edges_clash_back h = ⊎_elim
        (λ part. parting_clash g wf x y a b p q e f wx.tells wy.tells part)
        (λ agree. absurd (agree_not_parting (by_place a) (by_place b) (place_in ps p) (place_in ps q) 0 0
        (subst (λ z. Agree z (child_of (by_place b) (place_in ps q) 0)) (child_up a p 0) (subst (λ z. Agree (by_place (child_of a p 0)) z) (child_up b q 0) (agree_too (place_in ps) (child_of a p 0) (child_of b q 0) agree)))
        (clash_parting pack pack_formed k l (by_place a) (by_place b) (place_in ps p) (place_in ps q) e f wx.told wy.told h)))
        (parting_or_agree p q 0 0 a b)

    -- where they do not clash, the addresses of their children agree
    pub edges_agree : (i j : ℕ) → (AreClashing g x y → ⊥) → Agree (child_of a p i) (child_of b q j)
    edges_agree i j apart = ⊎_elim (λ part. absurd (apart (parting_clash g wf x y a b p q e f wx.tells wy.tells part))) (λ z. z) (parting_or_agree p q i j a b)

  way_of : (p : Place) (k : Label) → (t : TellsByPlace g u ms ps (OfEdge p) k) → (IsHidden g u (OfEdge p) → ⊥) → IsWay (OfEdge p) k t.0 t.1 t.2
  way_of p k t shown = record { tells = t.3; told = t.4; all = shown_expanded g wf u (OfEdge p) t.0 t.1 t.2 t.3 shown }

  pub clash_up : (x y k l : Label) → TellsByPlace g u ms ps x k → TellsByPlace g u ms ps y l → (IsHidden g u x → ⊥) → (IsHidden g u y → ⊥) → AreClashing g x y → AreClashing pack k l
  clash_up (Input i) y k l tx ty nx ny h = absurd (input_unnamed g i h.0 h.1 h.3)
  clash_up (Output i) y k l tx ty nx ny h = absurd (output_unnamed g i h.0 h.1 h.3)
  clash_up (OfEdge p) (Input i) k l tx ty nx ny h = absurd (input_unnamed g i h.0 h.2 h.4)
  clash_up (OfEdge p) (Output i) k l tx ty nx ny h = absurd (output_unnamed g i h.0 h.2 h.4)
  clash_up (OfEdge p) (OfEdge q) k l tx ty nx ny h = edges_clash_up (OfEdge p) (OfEdge q) k l tx.0 ty.0 tx.1 ty.1 tx.2 ty.2 (way_of p k tx nx) (way_of q l ty ny) h

  pub clash_back : (x y k l : Label) → TellsByPlace g u ms ps x k → TellsByPlace g u ms ps y l → (IsHidden g u x → ⊥) → (IsHidden g u y → ⊥) → AreClashing pack k l → AreClashing g x y
  clash_back (Input i) y k l tx ty nx ny h = absurd (input_unnamed pack i h.0 h.1 (subst (λ z. Names pack z h.0 h.1) tx h.3))
  clash_back (Output i) y k l tx ty nx ny h = absurd (output_unnamed pack i h.0 h.1 (subst (λ z. Names pack z h.0 h.1) tx h.3))
  clash_back (OfEdge p) (Input i) k l tx ty nx ny h = absurd (input_unnamed pack i h.0 h.2 (subst (λ z. Names pack z h.0 h.2) ty h.4))
  clash_back (OfEdge p) (Output i) k l tx ty nx ny h = absurd (output_unnamed pack i h.0 h.2 (subst (λ z. Names pack z h.0 h.2) ty h.4))
  clash_back (OfEdge p) (OfEdge q) k l tx ty nx ny h = edges_clash_back (OfEdge p) (OfEdge q) k l tx.0 ty.0 tx.1 ty.1 tx.2 ty.2 (way_of p k tx nx) (way_of q l ty ny) h

  -- the address of a port of the root, or of a child on a way
  abbrev IsEnd : Label → Label → List Step → Type 0
  IsEnd x k a = (a ≡ []) ⊎ ((b : List Step) × (p : ℕ) × (e : ℕ) × (j : ℕ) × IsWay x k b p e × (a ≡ child_of b p j))

  -- where the item of a label is consumed, in both
  pub record IsConsumed (x k : Label) : Type 0 where
    pub address : List Step
    pub port : ℕ
    pub here : ConsumedAt g x address port
    pub there : ConsumedAt pack k (by_place address) port
    pub open_route : IsOpenRoute g u g.start address
    pub in_range : port < inputs_of g (module_along g g.start address)
    pub end : IsEnd x k address

  pub record IsProduced (y l : Label) : Type 0 where
    pub address : List Step
    pub port : ℕ
    pub here : ProducedAt g y address port
    pub there : ProducedAt pack l (by_place address) port
    pub open_route : IsOpenRoute g u g.start address
    pub in_range : port < outputs_of g (module_along g g.start address)
    pub end : IsEnd y l address

  -- the edge of a place
  edge_there : (p : Place) (k : Label) (a : List Step) (q e : ℕ) → Tells g (OfEdge p) a q e → (x : Edge) × IsAt x e (production_at g q).edges
  edge_there p k a q e t = let d : Edge = record { from = record { position = 0; port = 0 }; to = record { position = 0; port = 0 } } in (get_or (production_at g q).edges e d, is_at e (production_at g q).edges d t.ending.edge)

  module _ (p : Place) (k : Label) (t : TellsByPlace g u ms ps (OfEdge p) k) (shown : IsHidden g u (OfEdge p) → ⊥) where
    way : IsWay (OfEdge p) k t.0 t.1 t.2
    way = way_of p k t shown

    edge : (x : Edge) × IsAt x t.2 (production_at g t.1).edges
    edge = edge_there p k t.0 t.1 t.2 t.3

    at_pack : IsAt edge.0 t.2 (production_at pack (place_in ps t.1)).edges
    at_pack = subst (IsAt edge.0 t.2) (sym (same_edges (OfEdge p) k t.0 t.1 t.2 way)) edge.1

    to_input : IsInnerInput g t.1 edge.0.to
    to_input = (wf.bodies t.1 t.3.ending.of_it.0).edges_to edge.0 (at_in edge.0 t.2 (production_at g t.1).edges edge.1)

    from_output : IsInnerOutput g t.1 edge.0.from
    from_output = (wf.bodies t.1 t.3.ending.of_it.0).edges_from edge.0 (at_in edge.0 t.2 (production_at g t.1).edges edge.1)

    -- the module of a child
    child_module : (j m : ℕ) → IsAt m j (body_of g t.1) → module_along g g.start (child_of t.0 t.1 j) ≡ m
    child_module j m h = module_along_more g g.start t.0 (record { production = t.1; position = j }) ∙ at_is m j (body_of g t.1) 0 h

    told_edge : (z : Label) → k ≡ z → Tells pack z (by_place t.0) (place_in ps t.1) t.2
    told_edge z e = subst (λ w. Tells pack w (by_place t.0) (place_in ps t.1) t.2) e t.4

    edge_consumed : IsConsumed (OfEdge p) k
    edge_consumed = record {
      address = child_of t.0 t.1 edge.0.to.position;
      port = edge.0.to.port;
      here = (t.0, t.1, t.2, edge.0, t.3, edge.1, refl, refl);
      there = subst (λ z. ConsumedAt pack z (by_place (child_of t.0 t.1 edge.0.to.position)) edge.0.to.port) (sym t.4.is)
          (by_place t.0, place_in ps t.1, t.2, edge.0, told_edge _ t.4.is, at_pack, child_up t.0 t.1 edge.0.to.position, refl);
      open_route = child_open (OfEdge p) k t.0 t.1 t.2 way edge.0.to.position (at_below to_input.0 edge.0.to.position (body_of g t.1) to_input.1);
      in_range = subst (λ z. edge.0.to.port < inputs_of g z) (sym (child_module edge.0.to.position to_input.0 to_input.1)) to_input.2;
      end = inr (t.0, t.1, t.2, edge.0.to.position, way, refl);
    }

    edge_produced : IsProduced (OfEdge p) k
    edge_produced = record {
      address = child_of t.0 t.1 edge.0.from.position;
      port = edge.0.from.port;
      here = (t.0, t.1, t.2, edge.0, t.3, edge.1, refl, refl);
      there = subst (λ z. ProducedAt pack z (by_place (child_of t.0 t.1 edge.0.from.position)) edge.0.from.port) (sym t.4.is)
          (by_place t.0, place_in ps t.1, t.2, edge.0, told_edge _ t.4.is, at_pack, child_up t.0 t.1 edge.0.from.position, refl);
      open_route = child_open (OfEdge p) k t.0 t.1 t.2 way edge.0.from.position (at_below from_output.0 edge.0.from.position (body_of g t.1) from_output.1);
      in_range = subst (λ z. edge.0.from.port < outputs_of g z) (sym (child_module edge.0.from.position from_output.0 from_output.1)) from_output.2;
      end = inr (t.0, t.1, t.2, edge.0.from.position, way, refl);
    }

  -- each label that is not hidden is consumed in both, but for an output of the root
  pub consumed_or_output : (x k : Label) → IsLabel g x → TellsByPlace g u ms ps x k → (IsHidden g u x → ⊥) → IsConsumed x k ⊎ ((p : ℕ) × (x ≡ Output p) × (k ≡ Output p))
  consumed_or_output (Input p) k lx t shown = inl (record {
    address = [];
    port = p;
    here = (refl, refl);
    there = subst (λ z. ConsumedAt pack z [] p) (sym t) (refl, refl);
    open_route = tt;
    in_range = lx;
    end = inl refl;
  })
  consumed_or_output (Output p) k lx t shown = inr (p, refl, t)
  consumed_or_output (OfEdge p) k lx t shown = inl (edge_consumed p k t shown)

  -- and produced in both, but for an input of the root
  pub produced_or_input : (y l : Label) → IsLabel g y → TellsByPlace g u ms ps y l → (IsHidden g u y → ⊥) → IsProduced y l ⊎ ((p : ℕ) × (y ≡ Input p) × (l ≡ Input p))
  produced_or_input (Input p) l ly t shown = inr (p, refl, t)
  produced_or_input (Output p) l ly t shown = inl (record {
    address = [];
    port = p;
    here = (refl, refl);
    there = subst (λ z. ProducedAt pack z [] p) (sym t) (refl, refl);
    open_route = tt;
    in_range = ly;
    end = inl refl;
  })
  produced_or_input (OfEdge p) l ly t shown = inl (edge_produced p l t shown)

  -- their addresses agree where the labels do not clash
  pub ends_agree : (x y k l : Label) (a b : List Step) → IsEnd x k a → IsEnd y l b → (AreClashing g x y → ⊥) → Agree a b
  ends_agree x y k l a b (inl e) h apart = subst (λ z. Agree z b) (sym e) tt
  ends_agree x y k l a b (inr q) (inl e) apart = subst (λ z. Agree a z) (sym e) (agree_nil a)
  ends_agree x y k l a b (inr q) (inr r) apart =
      subst (λ z. Agree z b) (sym q.5) (subst (λ z. Agree (child_of q.0 q.1 q.3) z) (sym r.5) (edges_agree x y k l q.0 r.0 q.1 r.1 q.2 r.2 q.4 r.4 q.3 r.3 apart))
