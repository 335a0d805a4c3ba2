-- Items at their addresses.
use Rattle.std.proofs.Common.{◌≡◌, ℕ, suc, ◌+◌, ◌<◌, ◌≢◌, Bool, true, false, cond, ◌&&◌, List, [], ◌∷◌, ◌++◌, length, get_or, bytes_eq, Option, Some, None, refl, sym, ap, ◌∙◌, subst, inl, inr, ⊎_elim, arith}
use Rattle.std.proofs.lemmas.Bool.{and_parts}
use Rattle.wf_model.specs.Lists.{IsIn}
use Rattle.wf_model.specs.Grammar.{Grammar, production_at, module_at, head_of, body_of, inputs_of, outputs_of}
use Rattle.wf_model.specs.WellFormed.{IsWellFormed}
use Rattle.wf_model.specs.View.{View, expands, at_start}
use Rattle.wf_model.specs.declared.event.Event.{Event}
use Rattle.wf_model.specs.declared.event.Event.TheVariants.{Start, Expand}
use Rattle.wf_model.specs.Run.{Instance, Expanded, expanded_by, Extends, AllExtend, IsRun, opens, seen_in, made, root_of}
use Rattle.wf_model.specs.Links.{Port, input, output, links, Path}
use Rattle.wf_model.specs.Reach.{Step, IsAlong}
use Rattle.wf_model.specs.Items.{Item, input_items, output_items, edge_item, items_by, IsMadeOpen, IsVisible, PathBetween}
use Rattle.wf_model.specs.Depends.{IsConsumedAt, IsProducedAt, ItemsLaw, DependsLaw}
use Rattle.wf_model.proofs.Lists.{in_append_cases, in_map_from, in_flat_map_from, some_gives, same_bytes, bytes_same, at_below, at_is}
use Rattle.wf_model.proofs.Runs.{run_state, expansion_kept, expansion_later}
use Rattle.wf_model.proofs.Level.{opening}
use Rattle.wf_model.proofs.Differ.{made_differ, one_of_name}
use Rattle.wf_laws.proofs.Reach.{crossing_law}
use Rattle.wf_laws.proofs.Address.{seen_law, along_more, module_along_more}

-- before an instance's expand event it is not expanded
shut_before : (g : Grammar) (m : ℕ) (b a : List Event) (i : List ℕ) (p : ℕ) (names : List (List ℕ)) → AllExtend g m b a → IsIn (Expand i p names) a → expanded_by b i ≡ None
shut_before g m b [] i p names x q = absurd q
shut_before g m b (e ∷ a) i p names x (inl q) = (subst (λ z. Extends g m b z) (sym q) x.0).open_end
shut_before g m b (e ∷ a) i p names x (inr q) = go (shut_before g m (b ++ e ∷ []) a i p names x.1 q) (expanded_by b i) refl
  where
    go : expanded_by (b ++ e ∷ []) i ≡ None → (o : Option Expanded) → expanded_by b i ≡ o → expanded_by b i ≡ None
    go ih None h = h
    go ih (Some y) h = let z = sym (expansion_kept b (e ∷ []) i y h) ∙ ih in absurd (cc)

-- an expand event of a run is what the run tells of its instance
expansion_of : (g : Grammar) (m : ℕ) (b a : List Event) (i : List ℕ) (p : ℕ) (names : List (List ℕ)) → AllExtend g m b a → IsIn (Expand i p names) a → expanded_by a i ≡ Some (record { production = p; names = names })
expansion_of g m b [] i p names x q = absurd q
expansion_of g m b (e ∷ a) i p names x (inl q) =
    ap (λ (z : Event). expanded_by (z ∷ a) i) (sym q) ∙ ap (λ t. cond {A = Option Expanded} t (Some (record { production = p; names = names })) (expanded_by a i)) (bytes_same i i refl)
expansion_of g m b (Start r ∷ a) i p names x (inr q) = expansion_of g m (b ++ Start r ∷ []) a i p names x.1 q
expansion_of g m b (Expand j r new ∷ a) i p names x (inr q) = go (expansion_of g m (b ++ Expand j r new ∷ []) a i p names x.1 q) (bytes_eq j i) refl
  where
    go : expanded_by a i ≡ Some (record { production = p; names = names }) → (t : Bool) → bytes_eq j i ≡ t → cond t (Some (record { production = r; names = new })) (expanded_by a i) ≡ Some (record { production = p; names = names })
    go ih false t = ih
    go ih true t =
        let none = shut_before g m (b ++ Expand j r new ∷ []) a i p names x.1 q in
        let here : expanded_by (b ++ Expand j r new ∷ []) i ≡ Some (record { production = r; names = new }) =
        expansion_later b (Expand j r new ∷ []) i (ap (expanded_by b) (sym (same_bytes j i t)) ∙ x.0.open_end) ∙ ap (λ z. cond {A = Option Expanded} z (Some (record { production = r; names = new })) None) t in
        let z = sym here ∙ none in absurd (cc)

in_input_items : (t : Item) (r : List ℕ) (k : ℕ) (ns : List (List ℕ)) → IsIn t (input_items r k ns) → (h : ℕ) × (h < k + length ns) × (t.consumed ≡ Some (input r h)) × (t.produced ≡ None)
in_input_items t r k [] q = absurd q
in_input_items t r k (n ∷ ns) (inl e) = (k, omega arith, ap (λ (z : Item). z.consumed) e, ap (λ (z : Item). z.produced) e)
in_input_items t r k (n ∷ ns) (inr q) = let s = in_input_items t r (suc k) ns q in (s.0, (let l : s.0 < suc k + length ns = s.1 in omega arith), s.2, s.3)

in_output_items : (t : Item) (r : List ℕ) (k : ℕ) (ns : List (List ℕ)) → IsIn t (output_items r k ns) → (h : ℕ) × (h < k + length ns) × (t.produced ≡ Some (output r h)) × (t.consumed ≡ None)
in_output_items t r k [] q = absurd q
in_output_items t r k (n ∷ ns) (inl e) = (k, omega arith, ap (λ (z : Item). z.produced) e, ap (λ (z : Item). z.consumed) e)
in_output_items t r k (n ∷ ns) (inr q) = let s = in_output_items t r (suc k) ns q in (s.0, (let l : s.0 < suc k + length ns = s.1 in omega arith), s.2, s.3)

-- the two parts of the law
abbrev AtPlaces : Grammar → View → ℕ → List Event → Item → Type 0
AtPlaces g u m events t =
    record {
      consumed : (x : Port (List ℕ)) → t.consumed ≡ Some x → (a : List Step) × (i : ℕ) × IsConsumedAt g u m events t a i;
      produced : (x : Port (List ℕ)) → t.produced ≡ Some x → (a : List Step) × (o : ℕ) × IsProducedAt g u m events t a o;
    }

none_some : (o : Option (Port (List ℕ))) (x : Port (List ℕ)) → o ≡ None → o ≡ Some x → ⊥
none_some o x e h = let z = sym e ∙ h in (cc)

module _ (g : Grammar) (u : View) (wf : IsWellFormed g) (m : ℕ) (events : List Event) (run : IsRun g m events) (ne : events ≢ []) where
  at_root : (t : Item) (r : List ℕ) → root_of events ≡ r → IsIn t (items_by g m (Start r)) → AtPlaces g u m events t
  at_root t r rt h =
      ⊎_elim
      (λ a. let q = in_input_items t r 0 (module_at g m).inputs a in record {
        consumed = λ x e. ([], q.0, record { instance = r; along = rt; port = q.2; in_range = (let l : q.0 < 0 + inputs_of g m = q.1 in omega arith) });
        produced = λ x e. absurd (none_some t.produced x q.3 e);
      })
      (λ a. let q = in_output_items t r 0 (module_at g m).outputs a in record {
        consumed = λ x e. absurd (none_some t.consumed x q.3 e);
        produced = λ x e. ([], q.0, record { instance = r; along = rt; port = q.2; in_range = (let l : q.0 < 0 + outputs_of g m = q.1 in omega arith) });
      })
      (in_append_cases t (input_items r 0 (module_at g m).inputs) (output_items r 0 (module_at g m).outputs) h)

  at_edge : (t : Item) (i : List ℕ) (p : ℕ) (names : List (List ℕ)) → IsIn (Expand i p names) events → IsIn t (items_by g m (Expand i p names)) → IsVisible g u m events t → AtPlaces g u m events t
  at_edge t i p names ev h vis =
      let q = in_map_from (edge_item g i p names) t (production_at g p).edges h in
      let told = expansion_of g m [] events i p names run ev in
      let o = opening g m [] events i (record { production = p; names = names }) run told in
      let body = wf.bodies p o.in_range in
      let opens' : opens u (seen_in g u m events) i ≡ true = subst (IsMadeOpen g u m events) (ap (λ (z : Item). z.maker) q.2) vis in
      let s = some_gives (λ (z : Instance). bytes_eq z.name i && expands u z.module_no) (seen_in g u m events) opens' in
      let parts = and_parts (bytes_eq s.0.name i) (expands u s.0.module_no) s.2 in
      let st = run_state g u m events run in
      let same : s.0 ≡ record { name = i; module_no = head_of g p } = one_of_name (made g m events) (made_differ g m [] events tt run) s.0 _ (st.seen_made s.0 s.1) o.stands (same_bytes s.0.name i parts.0) in
      let ex : expands u (head_of g p) ≡ true = ap (λ (z : Instance). expands u z.module_no) (sym same) ∙ parts.1 in
      let ad = (seen_law g u m events s.0 run ne).0 s.1 in
      let al : IsAlong g u events (root_of events) ad.0 i = subst (IsAlong g u events (root_of events) ad.0) (same_bytes s.0.name i parts.0) ad.1 in
      let step : ℕ → Step = λ k. record { production = p; position = k } in
      let ft = body.edges_to q.0 q.1 in
      let ff = body.edges_from q.0 q.1 in
      record {
        consumed = λ x e. (
          ad.0 ++ step q.0.to.position ∷ [],
          q.0.to.port,
          record {
            instance = get_or names q.0.to.position [];
            along = along_more g u events ad.0 (root_of events) i (step q.0.to.position) names al told (let l = at_below ft.0 q.0.to.position (body_of g p) ft.1 in omega (arith, o.one_each)) ex;
            port = ap (λ (z : Item). z.consumed) q.2;
            in_range = subst (λ z. q.0.to.port < inputs_of g z) (sym (module_along_more g m ad.0 (step q.0.to.position) ∙ at_is ft.0 q.0.to.position (body_of g p) 0 ft.1)) ft.2;
          },
        );
        produced = λ x e. (
          ad.0 ++ step q.0.from.position ∷ [],
          q.0.from.port,
          record {
            instance = get_or names q.0.from.position [];
            along = along_more g u events ad.0 (root_of events) i (step q.0.from.position) names al told (let l = at_below ff.0 q.0.from.position (body_of g p) ff.1 in omega (arith, o.one_each)) ex;
            port = ap (λ (z : Item). z.produced) q.2;
            in_range = subst (λ z. q.0.from.port < outputs_of g z) (sym (module_along_more g m ad.0 (step q.0.from.position) ∙ at_is ff.0 q.0.from.position (body_of g p) 0 ff.1)) ff.2;
          },
        );
      }

-- the start event of a run is that of its root
start_is_root : (g : Grammar) (m : ℕ) (events : List Event) (r : List ℕ) → IsRun g m events → IsIn (Start r) events → root_of events ≡ r
start_is_root g m [] r x h = absurd h
start_is_root g m (Expand i p new ∷ events) r x h = absurd x.0.stands
start_is_root g m (Start s ∷ events) r x (inl e) = let q : Start r ≡ Start s = e in let q' : r ≡ s = cc in sym q'
start_is_root g m (Start s ∷ events) r x (inr h) = absurd (later events (Start s ∷ []) (λ q. cc) x.1 h)
  where
    later : (a b : List Event) → b ≢ [] → AllExtend g m b a → IsIn (Start r) a → ⊥
    later [] b n x h = h
    later (e ∷ a) b n x (inl q) = n (subst (λ z. Extends g m b z) (sym q) x.0).0
    later (e ∷ a) b n x (inr h) = later a (b ++ e ∷ []) (longer b e) x.1 h
      where
        longer : (b : List Event) (e : Event) → b ++ e ∷ [] ≢ []
        longer [] e q = cc
        longer (c ∷ b) e q = cc

pub items_law : ItemsLaw
items_law g u wf m events run ne t h vis =
    let q = in_flat_map_from (items_by g m) t events h in
    by_event q.0 q.1 q.2
  where
    by_event : (e : Event) → IsIn e events → IsIn t (items_by g m e) → AtPlaces g u m events t
    by_event (Start r) ev i = at_root g u wf m events run ne t r (start_is_root g m events r run ev) i
    by_event (Expand i p names) ev k = at_edge g u wf m events run ne t i p names ev k vis

pub depends_law : DependsLaw
depends_law g u d wf ind events x s t a b i o cs pt =
    let q = crossing_law g u d wf ind g.start (at_start refl) events x a b cs.instance pt.instance cs.along pt.along i o cs.in_range pt.in_range in
    ((λ w. q.0 (there s.consumed t.produced cs.port pt.port w)), (λ r. back s.consumed t.produced cs.port pt.port (q.1 r)))
  where
    there : (c p : Option (Port (List ℕ))) → c ≡ Some (input cs.instance i) → p ≡ Some (output pt.instance o) → PathBetween g u g.start events c p → Path (links g u g.start events) (input cs.instance i) (output pt.instance o)
    there c p ec ep w = subst (λ z. PathBetween g u g.start events (Some (input cs.instance i)) z) ep (subst (λ z. PathBetween g u g.start events z p) ec w)

    back : (c p : Option (Port (List ℕ))) → c ≡ Some (input cs.instance i) → p ≡ Some (output pt.instance o) → Path (links g u g.start events) (input cs.instance i) (output pt.instance o) → PathBetween g u g.start events c p
    back c p ec ep w = subst (λ z. PathBetween g u g.start events z p) (sym ec) (subst (λ z. PathBetween g u g.start events (Some (input cs.instance i)) z) (sym ep) w)
