-- The labels of the items of an accepted run are labels of the grammar.
use Rattle.std.proofs.Common.{◌≡◌, ℕ, ◌^◌, ◌<◌, ◌≤◌, List, [], ◌∷◌, ◌++◌, length, sym, ap, ◌∙◌, subst, arith, length-append}
use Rattle.std.proofs.lemmas.List.{length-map}
use Rattle.wf_model.specs.Lists.{IsIn}
use Rattle.wf_model.specs.Grammar.{Grammar, production_at, head_of, body_of}
use Rattle.wf_model.specs.WellFormed.{IsWellFormed}
use Rattle.wf_model.specs.declared.event.Event.{Event}
use Rattle.wf_model.specs.declared.event.Event.TheVariants.{Start, Expand}
use Rattle.wf_model.specs.Run.{Instance, named, made, made_by, AllExtend, IsRun, IsAccepted}
use Rattle.wf_model.specs.Items.{Item, items, items_by}
use Rattle.wf_model.proofs.Lists.{in_map_from, at_below, in_flat_map, in_flat_map_from}
use Rattle.wf_model.proofs.Runs.{names-named}
use Rattle.label_model.specs.Labels.{IsPlace, IsLabel, Label}
use Rattle.label_model.specs.Places.{place_of}
use Rattle.label_model.specs.RunLabels.{address_in, labels_by, labelled_by, labelled}
use Rattle.label_model.specs.Bound.{expand_events}
use Rattle.label_model.specs.RunLaws.{LabelLaw}
use Rattle.label_model.proofs.PlaceRoutes.{place_law}
use Rattle.label_model.proofs.LookingBack.{address_short}
use Rattle.label_model.proofs.TakenEvents.{expansion_of}
use Rattle.label_model.proofs.Lists.{firsts}
use Rattle.label_model.proofs.ItemLabels.{IsKind, an_input, an_output, of_edge, kind, ending, as_long}

-- each expand event makes an instance
pub made_long : (g : Grammar) → IsWellFormed g → (m : ℕ) (a b : List Event) → AllExtend g m b a → expand_events a ≤ length (made g m a)
made_long g wf m [] b x = omega arith
made_long g wf m (Start r ∷ a) b x = let h = made_long g wf m a (b ++ Start r ∷ []) x.1 in omega (arith, h, length-append (made_by g m (Start r)) (made g m a))
made_long g wf m (Expand i p names ∷ a) b x =
    let h = made_long g wf m a (b ++ Expand i p names ∷ []) x.1 in
    let can = x.0 in
    let some_position = (wf.bodies p can.in_range).some_position in
    let n : length (named names (body_of g p)) ≡ length names = sym (length-map (named names (body_of g p)) (λ (j : Instance). j.name)) ∙ ap length (names-named names (body_of g p) can.one_each) in
    omega (arith, h, can.one_each, some_position, n, length-append (named names (body_of g p)) (made g m a))

-- and the start event makes one more
pub run_long : (g : Grammar) → IsWellFormed g → (m : ℕ) (events : List Event) (i : Instance) → IsRun g m events → IsIn i (made g m events) → expand_events events < length (made g m events)
run_long g wf m [] i x h = absurd h
run_long g wf m (Expand j p names ∷ a) i x h = absurd x.0.stands
run_long g wf m (Start r ∷ a) i x h = let k = made_long g wf m a (Start r ∷ []) x.1 in omega (arith, k, length-append (made_by g m (Start r)) (made g m a))

-- the place of an edge of an event of an accepted run
module _ (g : Grammar) (wf : IsWellFormed g) (events : List Event) (acc : IsAccepted g (2 ^ 24) events) (i : List ℕ) (p : ℕ) (names : List (List ℕ)) (here : IsIn (Expand i p names) events) where
  -- the address of its instance has fewer than 2^24 steps
  address_below : length (address_in events i) < 2 ^ 24
  address_below =
      let x = expansion_of g g.start events acc.0 i p names here in
      omega (arith, address_short events i, run_long g wf g.start events (record { name = i; module_no = head_of g p }) acc.0 x.stands, acc.1)

  pub place_valid : (e : ℕ) → e < length (production_at g p).edges → IsPlace g g.start (place_of g g.start (address_in events i) p e)
  place_valid e small = (place_law g wf g.start).valid (address_in events i) p e (ending g events acc.0 i p names here e small) address_below

module _ (g : Grammar) (wf : IsWellFormed g) (events : List Event) (acc : IsAccepted g (2 ^ 24) events) where
  -- what is listed with an item is a label
  listed_label : (t : Item) (l : Label) → IsIn (t, l) (labelled g events) → IsLabel g l
  listed_label t l h = go (kind g events acc.0 t l h)
    where
      go : IsKind g events t l → IsLabel g l
      go (an_input k small a b) = subst (λ z. IsLabel g z) (sym b) small
      go (an_output k small a b) = subst (λ z. IsLabel g z) (sym b) small
      go (of_edge i p names here x) = subst (λ z. IsLabel g z) (sym x.label_is) (place_valid g wf events acc i p names here x.edge_no (at_below x.edge x.edge_no (production_at g p).edges x.at))

  -- something is listed with each item
  each_labelled : (t : Item) → IsIn t (items g g.start events) → (l : Label) × IsIn (t, l) (labelled g events)
  each_labelled t h =
      let r = in_flat_map_from (items_by g g.start) t events h in
      let e = r.0 in
      let i = subst (IsIn t) (sym (firsts (items_by g g.start e) (labels_by g events e) (as_long g events e))) r.2 in
      let q = in_map_from (λ (z : Item × Label). z.0) t (labelled_by g events e) i in
      let same : q.0 ≡ (t, q.0.1) = λ n. (sym q.2 n, q.0.1) in
      (q.0.1, in_flat_map (labelled_by g events) e (t, q.0.1) events r.1 (subst (λ z. IsIn z (labelled_by g events e)) same q.1))

pub label_law : LabelLaw
label_law g wf events acc = record {
  each = λ t h. let r = each_labelled g wf events acc t h in (r.0, (r.1, listed_label g wf events acc t r.0 r.1));
  labels = listed_label g wf events acc;
}
