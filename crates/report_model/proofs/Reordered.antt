-- Runs with the same events: they have the same root, expansions, addresses and labels.
use Rattle.std.proofs.Common.{◌≡◌, ℕ, List, [], ◌∷◌, map, length, zip, get_or, Option, Some, None, refl, sym, ap, ◌∙◌, subst, inl}
use Rattle.wf_model.specs.Lists.{IsIn, numbers_from}
use Rattle.wf_model.specs.Grammar.{Grammar, head_of, production_at}
use Rattle.wf_model.specs.WellFormed.{IsWellFormed}
use Rattle.wf_model.specs.declared.event.Event.{Event}
use Rattle.wf_model.specs.declared.event.Event.TheVariants.{Start, Expand}
use Rattle.wf_model.specs.Run.{Instance, Expanded, made, expanded_by, IsRun, root_of}
use Rattle.wf_model.specs.Items.{Item, items_by}
use Rattle.wf_model.specs.Reach.{Step}
use Rattle.wf_model.specs.Routes.{IsAddress}
use Rattle.wf_model.proofs.Lists.{in_map, in_map_from, in_flat_map, in_flat_map_from}
use Rattle.wf_model.proofs.Runs.{name_in}
use Rattle.wf_model.proofs.Expanding.{expanded_from}
use Rattle.wf_laws.proofs.Order.{order_law}
use Rattle.wf_laws.proofs.Routes.{address_law}
use Rattle.label_model.specs.Labels.{Label, OfEdge}
use Rattle.label_model.specs.Places.{place_of}
use Rattle.label_model.specs.RunLabels.{address_in, labels_by, labelled_by, labelled}
use Rattle.label_model.specs.Files.{Entry, entry_of, entries_of}
use Rattle.label_model.proofs.TakenEvents.{expansion_of}
use Rattle.label_model.proofs.InstanceAddresses.{known}
use Rattle.report_model.specs.Laws.{ReorderedLaw}
use Rattle.report_model.proofs.Events.{one_start, events_differ}

module _ (g : Grammar) (e f : List Event) (run_e : IsRun g g.start e) (run_f : IsRun g g.start f) (to : (x : Event) → IsIn x e → IsIn x f) (from : (x : Event) → IsIn x f → IsIn x e) where
  same_expansions : (n : List ℕ) → expanded_by e n ≡ expanded_by f n
  same_expansions n = go (expanded_by e n) (expanded_by f n) refl refl
    where
      go : (o w : Option Expanded) → expanded_by e n ≡ o → expanded_by f n ≡ w → expanded_by e n ≡ expanded_by f n
      go (Some y) w a b = a ∙ sym (expansion_of g g.start f run_f n y.production y.names (to _ (expanded_from e n y a))).told
      go None (Some y) a b = (expansion_of g g.start e run_e n y.production y.names (from _ (expanded_from f n y b))).told ∙ sym b
      go None None a b = a ∙ sym b

  along_to : (a : List Step) (n c : List ℕ) → IsAddress e n a c → IsAddress f n a c
  along_to [] n c h = h
  along_to (s ∷ a) n c h = (h.0, sym (same_expansions n) ∙ h.1, h.2, along_to a (get_or h.0 s.position []) c h.3)

same_root : (g : Grammar) (e f : List Event) → IsRun g g.start e → IsRun g g.start f → ((x : Event) → IsIn x e → IsIn x f) → ((x : Event) → IsIn x f → IsIn x e) → root_of e ≡ root_of f
same_root g [] [] a b to from = refl
same_root g [] (y ∷ f) a b to from = absurd (from y (inl refl))
same_root g (y ∷ e) [] a b to from = absurd (to y (inl refl))
same_root g (Expand i p names ∷ e) f a b to from = absurd a.0.stands
same_root g (Start r ∷ e) (Expand i p names ∷ f) a b to from = absurd b.0.stands
same_root g (Start r ∷ e) (Start q ∷ f) a b to from = one_start g g.start (Start q ∷ f) b r q (to (Start r) (inl refl)) (inl refl)

module _ (g : Grammar) (e f : List Event) (wf : IsWellFormed g) (run_e : IsRun g g.start e) (run_f : IsRun g g.start f) (to : (x : Event) → IsIn x e → IsIn x f) (from : (x : Event) → IsIn x f → IsIn x e) where
  same_address : (i : List ℕ) (p : ℕ) (names : List (List ℕ)) → IsIn (Expand i p names) e → address_in e i ≡ address_in f i
  same_address i p names h =
      let j : Instance = record { name = i; module_no = head_of g p } in
      let a = known g g.start e run_e i (name_in j (made g g.start e) (expansion_of g g.start e run_e i p names h).stands) in
      let b = known g g.start f run_f i (name_in j (made g g.start f) (expansion_of g g.start f run_f i p names (to _ h)).stands) in
      let c = along_to g e f run_e run_f to from (address_in e i) (root_of e) i a in
      address_law g wf g.start f run_f (address_in e i) (address_in f i) i (subst (λ z. IsAddress f z (address_in e i) i) (same_root g e f run_e run_f to from) c) b

  same_labels : (x : Event) → IsIn x e → labels_by g e x ≡ labels_by g f x
  same_labels (Start r) h = refl
  same_labels (Expand i p names) h = ap (λ (a : List Step). map (λ k. OfEdge (place_of g g.start a p k)) (numbers_from 0 (length (production_at g p).edges))) (same_address i p names h)

  labels_to : (t : Item) (l : Label) → IsIn (t, l) (labelled g e) → IsIn (t, l) (labelled g f)
  labels_to t l h =
      let r = in_flat_map_from (labelled_by g e) (t, l) e h in
      in_flat_map (labelled_by g f) r.0 (t, l) f (to r.0 r.1) (subst (λ z. IsIn (t, l) (zip (items_by g g.start r.0) z)) (same_labels r.0 r.1) r.2)

entries_within : (g : Grammar) (e f : List Event) → ((t : Item) (l : Label) → IsIn (t, l) (labelled g e) → IsIn (t, l) (labelled g f)) → (x : Entry) → IsIn x (entries_of g e) → IsIn x (entries_of g f)
entries_within g e f h x i = let r = in_map_from entry_of x (labelled g e) i in subst (λ z. IsIn z (entries_of g f)) (sym r.2) (in_map entry_of r.0 (labelled g f) (h r.0.0 r.0.1 r.1))

pub reordered_law : ReorderedLaw
reordered_law g e f wf run_e run_f same =
    let to : (x : Event) → IsIn x e → IsIn x f = λ x. (same x).0 in
    let from : (x : Event) → IsIn x f → IsIn x e = λ x. (same x).1 in
    record {
      events = same;
      once = events_differ g g.start [] f run_f;
      root = same_root g e f run_e run_f to from;
      under = λ u. order_law g u g.start e f run_e run_f same;
      expansions = same_expansions g e f run_e run_f to from;
      addresses = λ n a c. (along_to g e f run_e run_f to from a n c, along_to g f e run_f run_e from to a n c);
      labels = λ t l. (labels_to g e f wf run_e run_f to from t l, labels_to g f e wf run_f run_e from to t l);
      entries = λ x. (entries_within g e f (labels_to g e f wf run_e run_f to from) x, entries_within g f e (labels_to g f e wf run_f run_e from to) x);
    }
