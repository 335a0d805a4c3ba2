-- An item keeps its label and its visibility, and is visible exactly where its label is not hidden.
use Rattle.std.proofs.Common.{◌≡◌, ◌≢◌, ◌↔◌, ◌&&◌, ℕ, List, [], ◌∷◌, ◌++◌, flat_map, bytes_eq, Some, None, refl, sym, ap, ◌∙◌, subst}
use Rattle.std.proofs.lemmas.Bool.{and_parts, and_from}
use Rattle.wf_model.specs.Lists.{IsIn}
use Rattle.wf_model.specs.Grammar.{Grammar, module_at}
use Rattle.wf_model.specs.WellFormed.{IsWellFormed}
use Rattle.wf_model.specs.View.{View, expands, at_start}
use Rattle.wf_model.specs.declared.event.Event.{Event}
use Rattle.wf_model.specs.Run.{Instance, IsRun, seen_in, root_of}
use Rattle.wf_model.specs.Reach.{Step, module_along, IsAlong}
use Rattle.wf_model.specs.Items.{Item, items, items_by, IsMadeOpen, IsVisible}
use Rattle.wf_model.proofs.Lists.{in_append_left, in_map, in_flat_map, in_flat_map_from, some_from, some_gives, same_bytes, bytes_same}
use Rattle.wf_model.proofs.Runs.{AllExtend-append}
use Rattle.wf_laws.proofs.Address.{seen_law}
use Rattle.wf_laws.proofs.Routes.{address_law}
use Rattle.wf_laws.proofs.Grown.{grown_law}
use Rattle.label_model.specs.Labels.{Label}
use Rattle.label_model.specs.RunLabels.{address_in, labels_by, labelled_by, labelled}
use Rattle.label_model.proofs.Lists.{firsts}
use Rattle.label_model.proofs.ItemLabels.{IsKind, an_input, an_output, of_edge, kind, no_item, as_long}
use Rattle.label_model.proofs.FileGrowth.{labelled-append}
use Rattle.verdict_model.specs.Verdicts.{IsHidden}
use Rattle.verdict_model.specs.Laws.{KeptLaw}
use Rattle.verdict_model.proofs.LabelsTold.{IsMadeAt, made_there, told_there}
use Rattle.verdict_model.proofs.RootPorts.{input_item_at, output_item_at}
use Rattle.verdict_model.proofs.Hiding.{AllExpanded, along_open, open_along, along_address, shown_expanded, expanded_shown, input_shown, output_shown}

-- where there is an expansion, there are events
pub made_started : (g : Grammar) (events : List Event) (t : Item) (a : List Step) (p e : ℕ) → IsMadeAt g events t a p e → events ≢ []
made_started g [] t a p e h q = let z = h.expanded in absurd (cc)
made_started g (x ∷ events) t a p e h q = absurd (cc)

-- what has a label is an item of the run
pub labelled_item : (g : Grammar) (events : List Event) (t : Item) (l : Label) → IsIn (t, l) (labelled g events) → IsIn t (items g g.start events)
labelled_item g events t l h =
    let r = in_flat_map_from (labelled_by g events) (t, l) events h in
    let e = r.0 in
    in_flat_map (items_by g g.start) e t events r.1
    (subst (IsIn t) (firsts (items_by g g.start e) (labels_by g events e) (as_long g events e)) (in_map (λ (z : Item × Label). z.0) (t, l) (labelled_by g events e) r.2))

module _ (g : Grammar) (wf : IsWellFormed g) (u : View) (events : List Event) (run : IsRun g g.start events) (t : Item) where
  -- the item of an edge is visible exactly where all on the address of its maker is expanded
  visible_expanded : (a : List Step) (p e : ℕ) → IsMadeAt g events t a p e → IsVisible g u g.start events t ↔ AllExpanded g u g.start a
  visible_expanded a p e m = (to, from)
    where
      started : events ≢ []
      started = made_started g events t a p e m

      maker : IsVisible g u g.start events t ↔ IsMadeOpen g u g.start events (Some m.instance)
      maker = ((λ v. subst (IsMadeOpen g u g.start events) (ap (λ (z : Item). z.maker) m.same) v), (λ v. subst (IsMadeOpen g u g.start events) (sym (ap (λ (z : Item). z.maker) m.same)) v))

      to : IsVisible g u g.start events t → AllExpanded g u g.start a
      to v =
          let s = some_gives (λ (z : Instance). bytes_eq z.name m.instance && expands u z.module_no) (seen_in g u g.start events) (maker.0 v) in
          let parts = and_parts (bytes_eq s.0.name m.instance) (expands u s.0.module_no) s.2 in
          let ad = (seen_law g u g.start events s.0 run started).0 s.1 in
          let al : IsAlong g u events (root_of events) ad.0 m.instance = subst (IsAlong g u events (root_of events) ad.0) (same_bytes s.0.name m.instance parts.0) ad.1 in
          let same : ad.0 ≡ a = address_law g wf g.start events run ad.0 a m.instance (along_address g u events ad.0 (root_of events) m.instance al) m.address in (
            open_along g u events g.start a (root_of events) m.instance m.ends.route (at_start refl) (subst (λ z. IsAlong g u events (root_of events) z m.instance) same al),
            ap (λ z. expands u (module_along g g.start z)) (sym same) ∙ (ap (expands u) ad.2 ∙ parts.1),
          )

      from : AllExpanded g u g.start a → IsVisible g u g.start events t
      from all =
          let al = along_open g u events g.start a (root_of events) m.instance all.0 m.address in
          let i : Instance = record { name = m.instance; module_no = module_along g g.start a } in
          let seen = (seen_law g u g.start events i run started).1 (a, al, refl) in
          maker.1 (some_from (λ (z : Instance). bytes_eq z.name m.instance && expands u z.module_no) i (seen_in g u g.start events) seen
          (and_from (bytes_eq m.instance m.instance) (expands u i.module_no) (bytes_same m.instance m.instance refl) all.1))

  -- an item that no instance made is visible
  unmade_visible : t.maker ≡ None → IsVisible g u g.start events t
  unmade_visible e = subst (IsMadeOpen g u g.start events) (sym e) tt

  pub visible_shown : (l : Label) → IsIn (t, l) (labelled g events) → IsVisible g u g.start events t ↔ (IsHidden g u l → ⊥)
  visible_shown l h = go (kind g events run t l h)
    where
      go : IsKind g events t l → IsVisible g u g.start events t ↔ (IsHidden g u l → ⊥)
      go (an_input k small x y) = (
        (λ v q. input_shown g u k (subst (IsHidden g u) y q)),
        (λ q. unmade_visible (ap (λ (z : Item). z.maker) x ∙ (input_item_at (root_of events) 0 (module_at g g.start).inputs k no_item small).maker)),
      )
      go (an_output k small x y) = (
        (λ v q. output_shown g u k (subst (IsHidden g u) y q)),
        (λ q. unmade_visible (ap (λ (z : Item). z.maker) x ∙ (output_item_at (root_of events) 0 (module_at g g.start).outputs k no_item small).maker)),
      )
      go (of_edge i p names here x) =
          let m = made_there g events run t l i p names here x in
          let v = visible_expanded (address_in events i) p x.edge_no m in
          let tells = told_there g events run t l i p names here x in (
            (λ q. expanded_shown g wf u l (address_in events i) p x.edge_no tells (v.0 q)),
            (λ q. v.1 (shown_expanded g wf u l (address_in events i) p x.edge_no tells q)),
          )

pub kept_law : KeptLaw
kept_law g u wf events more run t l h =
    let before = (AllExtend-append g g.start [] events more run).0 in
    record {
      label = (subst (IsIn (t, l)) (sym (labelled-append g events more run)) (in_append_left (t, l) (labelled g events) (flat_map (labelled_by g (events ++ more)) more) h.0), h.1);
      visible = (grown_law g u g.start events more run).visible t (labelled_item g events t l h.0);
      shown = visible_shown g wf u events before t l h.0;
    }
