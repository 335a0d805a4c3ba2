-- Two labels that do not clash have a run that has both.
use Rattle.std.proofs.Common.{◌≡◌, ◌≢◌, ℕ, ◌<◌, List, [], ◌∷◌, length, get_or, refl, sym, subst, ⊎_elim}
use Rattle.wf_model.specs.Lists.{IsIn}
use Rattle.wf_model.specs.Grammar.{Grammar, Edge, production_at, head_of, body_of}
use Rattle.wf_model.specs.WellFormed.{IsWellFormed}
use Rattle.wf_model.specs.declared.event.Event.{Event}
use Rattle.wf_model.specs.declared.event.Event.TheVariants.{Start}
use Rattle.wf_model.specs.Run.{IsRun, root_of}
use Rattle.wf_model.specs.Items.{Item}
use Rattle.wf_model.specs.Reach.{Step, target_of, module_along}
use Rattle.wf_model.specs.Routes.{IsAddress, IsRoute, Agree}
use Rattle.wf_model.proofs.Lists.{at_below, at_in, is_at}
use Rattle.wf_laws.proofs.Routes.{routes_law}
use Rattle.wf_laws.proofs.Making.{first_name, first_is_name}
use Rattle.label_model.specs.Labels.{Label, Input, Output, OfEdge, IsLabel}
use Rattle.label_model.specs.RunLabels.{labelled, HasLabel}
use Rattle.verdict_model.specs.Telling.{Tells}
use Rattle.verdict_model.specs.Laws.{BothLaw}
use Rattle.verdict_model.proofs.LabelsTold.{telling_law}
use Rattle.verdict_model.proofs.Clashing.{child_of, agree_nil, parting_or_agree, parting_clash}
use Rattle.verdict_model.proofs.ListedItems.{input_listed, output_listed, edge_listed, edge_made}

-- an address so that each run that has it has an item with the label
record IsNeeded (g : Grammar) (l : Label) (way : List Step) : Type 0 where
  route : IsRoute g g.start way
  found : (events : List Event) → IsRun g g.start events → events ≢ [] → (x : List ℕ) → IsAddress events (root_of events) way x → (t : Item) × HasLabel g events t l

-- the route to a child of the instance to which a route leads
route_more : (g : Grammar) (m : ℕ) (a : List Step) (p k : ℕ) → IsRoute g m a → p < length g.productions → head_of g p ≡ module_along g m a → k < length (body_of g p) → IsRoute g m (child_of a p k)
route_more g m [] p k r hp hd hk = (hp, hd, hk, tt)
route_more g m (s ∷ a) p k r hp hd hk = (r.0, r.1, r.2, route_more g (target_of g s) a p k r.3 hp hd hk)

no_edge : Edge
no_edge = record { from = record { position = 0; port = 0 }; to = record { position = 0; port = 0 } }

-- the position where an edge of a production begins
source_of : Grammar → ℕ → ℕ → ℕ
source_of g p e = (get_or (production_at g p).edges e no_edge).from.position

module _ (g : Grammar) (wf : IsWellFormed g) where
  port_needed : (l : Label) → ((events : List Event) → IsRun g g.start events → events ≢ [] → (t : Item) × IsIn (t, l) (labelled g events)) → IsLabel g l → IsNeeded g l []
  port_needed l h lab = record { route = tt; found = λ events run ne x al. let r = h events run ne in (r.0, (r.1, lab)) }

  edge_needed : (l : Label) (a : List Step) (p e : ℕ) → IsLabel g l → Tells g l a p e → IsNeeded g l (child_of a p (source_of g p e))
  unfolding source_of
  edge_needed l a p e lab tells =
      let edges = (production_at g p).edges in
      let edge = get_or edges e no_edge in
      let at = is_at e edges no_edge tells.ending.edge in
      let from = (wf.bodies p tells.ending.of_it.0).edges_from edge (at_in edge e edges at) in
      record {
        route = route_more g g.start a p edge.from.position tells.ending.route tells.ending.of_it.0 tells.ending.of_it.1 (at_below from.0 edge.from.position (body_of g p) from.1);
        found = λ events run ne x al.
            let m = edge_made g events a p e edge.from.position x edge tells.ending at al in
            (m.0, (subst (λ z. IsIn (m.0, z) (labelled g events)) (sym tells.is) (edge_listed g events run wf m.0 a p e m.1), lab));
      }

  -- two addresses that are needed and agree are those of a run that has its start event
  found_both : (x y : Label) (a b : List Step) → IsNeeded g x a → IsNeeded g y b → Agree a b → (events : List Event) × IsRun g g.start events × ((s : Item) × HasLabel g events s x) × ((t : Item) × HasLabel g events t y)
  found_both x y a b na nb ag = let r = routes_law g wf g.start a b na.route nb.route ag in go r.0 r.1 r.2.0 r.2.1 r.3.0 r.3.1
    where
      at_start : (a : List Step) (x : List ℕ) → IsAddress [] [] a x → IsAddress (Start first_name ∷ []) first_name a first_name
      at_start [] x h = refl
      at_start (s ∷ a) x h = let q = h.1 in absurd (cc)

      with_both : (events : List Event) → IsRun g g.start events → events ≢ [] → (v : List ℕ) → IsAddress events (root_of events) a v → (w : List ℕ) → IsAddress events (root_of events) b w →
          (events : List Event) × IsRun g g.start events × ((s : Item) × HasLabel g events s x) × ((t : Item) × HasLabel g events t y)
      with_both events run ne v hv w hw = (events, run, na.found events run ne v hv, nb.found events run ne w hw)

      go : (events : List Event) → IsRun g g.start events → (v : List ℕ) → IsAddress events (root_of events) a v → (w : List ℕ) → IsAddress events (root_of events) b w →
          (events : List Event) × IsRun g g.start events × ((s : Item) × HasLabel g events s x) × ((t : Item) × HasLabel g events t y)
      go [] run v hv w hw = with_both (Start first_name ∷ []) ((refl, first_is_name), tt) (λ q. absurd (cc)) first_name (at_start a v hv) first_name (at_start b w hw)
      go (e ∷ events) run v hv w hw = with_both (e ∷ events) run (λ q. absurd (cc)) v hv w hw

  input_needed : (k : ℕ) → IsLabel g (Input k) → IsNeeded g (Input k) []
  input_needed k l = port_needed (Input k) (λ events run ne. input_listed g events run ne k l) l

  output_needed : (k : ℕ) → IsLabel g (Output k) → IsNeeded g (Output k) []
  output_needed k l = port_needed (Output k) (λ events run ne. output_listed g events run ne k l) l

  -- each label of the grammar has such an address
  needed : (x : Label) → IsLabel g x → (a : List Step) × IsNeeded g x a
  needed (Input k) l = ([], input_needed k l)
  needed (Output k) l = ([], output_needed k l)
  needed (OfEdge q) l = let r = (telling_law g wf).each q l in (child_of r.0 r.1 (source_of g r.1 r.2), edge_needed (OfEdge q) r.0 r.1 r.2 l r.3)

pub both_law : BothLaw
both_law g wf (Input k) y lx ly apart = let n = needed g wf y ly in found_both g wf (Input k) y [] n.0 (input_needed g wf k lx) n.1 tt
both_law g wf (Output k) y lx ly apart = let n = needed g wf y ly in found_both g wf (Output k) y [] n.0 (output_needed g wf k lx) n.1 tt
both_law g wf (OfEdge v) (Input k) lx ly apart = let n = needed g wf (OfEdge v) lx in found_both g wf (OfEdge v) (Input k) n.0 [] n.1 (input_needed g wf k ly) (agree_nil n.0)
both_law g wf (OfEdge v) (Output k) lx ly apart = let n = needed g wf (OfEdge v) lx in found_both g wf (OfEdge v) (Output k) n.0 [] n.1 (output_needed g wf k ly) (agree_nil n.0)
both_law g wf (OfEdge v) (OfEdge w) lx ly apart =
    let r = (telling_law g wf).each v lx in
    let s = (telling_law g wf).each w ly in
    let k = source_of g r.1 r.2 in
    let l = source_of g s.1 s.2 in
    found_both g wf (OfEdge v) (OfEdge w) (child_of r.0 r.1 k) (child_of s.0 s.1 l) (edge_needed g wf (OfEdge v) r.0 r.1 r.2 lx r.3) (edge_needed g wf (OfEdge w) s.0 s.1 s.2 ly s.3)
    (⊎_elim (λ h. absurd (apart (parting_clash g wf (OfEdge v) (OfEdge w) r.0 s.0 r.1 s.1 r.2 s.2 r.3 s.3 h))) (λ h. h) (parting_or_agree r.1 s.1 k l r.0 s.0))
