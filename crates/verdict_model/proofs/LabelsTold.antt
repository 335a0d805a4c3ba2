-- What the labels of the items of a run tell: the instance that made the item, and the event that expanded it.
use Rattle.std.proofs.Common.{◌≡◌, ℕ, List, [], Some, sym, ap, ◌∙◌, subst, append-nil}
use Rattle.wf_model.specs.Lists.{IsIn, IsAt}
use Rattle.wf_model.specs.Grammar.{Grammar, Edge, production_at, head_of}
use Rattle.wf_model.specs.WellFormed.{IsWellFormed}
use Rattle.wf_model.specs.declared.event.Event.{Event}
use Rattle.wf_model.specs.declared.event.Event.TheVariants.{Expand}
use Rattle.wf_model.specs.Run.{expanded_by, IsRun, root_of}
use Rattle.wf_model.specs.Reach.{Step}
use Rattle.wf_model.specs.Routes.{IsAddress}
use Rattle.wf_model.specs.Items.{Item, edge_item}
use Rattle.wf_model.proofs.Lists.{at_below}
use Rattle.label_model.specs.Labels.{Label, Place, Input, Output, OfEdge}
use Rattle.label_model.specs.Places.{IsEnding}
use Rattle.label_model.specs.RunLabels.{address_in, labelled}
use Rattle.label_model.proofs.PlaceRoutes.{place_law}
use Rattle.label_model.proofs.InstanceAddresses.{instance_law}
use Rattle.label_model.proofs.TakenEvents.{expansion_of}
use Rattle.label_model.proofs.ItemLabels.{IsOfEdge, IsKind, an_input, an_output, of_edge, kind, ending}
use Rattle.verdict_model.specs.Telling.{Tells}
use Rattle.verdict_model.specs.Laws.{TellingLaw}

-- labels of edges are one where their places are
pub same_place : (q r : Place) → OfEdge q ≡ OfEdge r → q ≡ r
same_place q r e = cc

pub telling_law : TellingLaw
telling_law g wf = record {
  each = λ q h. let r = (place_law g wf g.start).each q h in (r.0, r.1, r.2, record { ending = r.3; is = ap OfEdge (sym r.4) });
  one = λ l a b p q e f h k. (place_law g wf g.start).one a b p q e f h.ending k.ending (same_place _ _ (sym h.is ∙ k.is));
}

-- the label of a port of the root tells nothing
pub input_untold : (g : Grammar) (k : ℕ) (a : List Step) (p e : ℕ) → Tells g (Input k) a p e → ⊥
input_untold g k a p e h = let q = h.is in absurd (cc)

pub output_untold : (g : Grammar) (k : ℕ) (a : List Step) (p e : ℕ) → Tells g (Output k) a p e → ⊥
output_untold g k a p e h = let q = h.is in absurd (cc)

-- an item of a run that an edge of the instance at this address makes
pub record IsMadeAt (g : Grammar) (events : List Event) (t : Item) (a : List Step) (p e : ℕ) : Type 0 where
  pub instance : List ℕ
  pub names : List (List ℕ)
  pub edge : Edge
  pub address : IsAddress events (root_of events) a instance
  pub expanded : expanded_by events instance ≡ Some (record { production = p; names = names })
  pub number : IsAt edge e (production_at g p).edges
  pub same : t ≡ edge_item g instance p names edge
  pub ends : IsEnding g g.start a p e

module _ (g : Grammar) (events : List Event) (run : IsRun g g.start events) (t : Item) (l : Label) where
  -- an item of an edge, at the address that is looked for
  pub made_there : (i : List ℕ) (p : ℕ) (names : List (List ℕ)) → IsIn (Expand i p names) events → (x : IsOfEdge g events t l i p names) → IsMadeAt g events t (address_in events i) p x.edge_no
  made_there i p names here x =
      let o = expansion_of g g.start events run i p names here in
      record {
        instance = i;
        names = names;
        edge = x.edge;
        address = (instance_law g g.start events [] (record { name = i; module_no = head_of g p }) (subst (λ z. IsRun g g.start z) (sym (append-nil events)) run) o.stands).address;
        expanded = o.told;
        number = x.at;
        same = x.item_is;
        ends = ending g events run i p names here x.edge_no (at_below x.edge x.edge_no (production_at g p).edges x.at);
      }

  -- and what its label tells
  pub told_there : (i : List ℕ) (p : ℕ) (names : List (List ℕ)) → IsIn (Expand i p names) events → (x : IsOfEdge g events t l i p names) → Tells g l (address_in events i) p x.edge_no
  told_there i p names here x = record { ending = (made_there i p names here x).ends; is = x.label_is }

  -- the label of the item tells where the item is made
  pub made_at : IsWellFormed g → IsIn (t, l) (labelled g events) → (a : List Step) (p e : ℕ) → Tells g l a p e → IsMadeAt g events t a p e
  made_at wf h a p e tells = go (kind g events run t l h)
    where
      go : IsKind g events t l → IsMadeAt g events t a p e
      go (an_input k small x y) = absurd (input_untold g k a p e (subst (λ z. Tells g z a p e) y tells))
      go (an_output k small x y) = absurd (output_untold g k a p e (subst (λ z. Tells g z a p e) y tells))
      go (of_edge i q names here x) =
          let m = made_there i q names here x in
          let r = (telling_law g wf).one l (address_in events i) a q p x.edge_no e (told_there i q names here x) tells in
          subst (λ z. IsMadeAt g events t a p z) r.2 (subst (λ z. IsMadeAt g events t a z x.edge_no) r.1 (subst (λ z. IsMadeAt g events t z q x.edge_no) r.0 m))
