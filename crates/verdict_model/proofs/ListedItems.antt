-- Items that are listed with their labels: those of the ports of the root, and those of the edges of an instance that is expanded.
use Rattle.std.proofs.Common.{◌≡◌, ◌≢◌, ℕ, zero, suc, ◌+◌, ◌<◌, List, [], ◌∷◌, ◌++◌, map, length, get_or, zip, Some, refl, sym, ◌∙◌, subst, inl, inr, arith, append-nil}
use Rattle.std.proofs.lemmas.List.{length-map}
use Rattle.wf_model.specs.Lists.{IsIn, IsAt, numbers_from}
use Rattle.wf_model.specs.Grammar.{Grammar, Edge, production_at, module_at, head_of, inputs_of, outputs_of}
use Rattle.wf_model.specs.WellFormed.{IsWellFormed}
use Rattle.wf_model.specs.declared.event.Event.{Event}
use Rattle.wf_model.specs.declared.event.Event.TheVariants.{Start, Expand}
use Rattle.wf_model.specs.Run.{expanded_by, IsRun, root_of}
use Rattle.wf_model.specs.Reach.{Step}
use Rattle.wf_model.specs.Routes.{IsAddress}
use Rattle.wf_model.specs.Items.{Item, input_items, output_items, edge_item}
use Rattle.wf_model.proofs.Lists.{in_append_left, in_append_right, in_flat_map, is_at}
use Rattle.wf_model.proofs.NumberLists.{length-numbers}
use Rattle.wf_model.proofs.Mapping.{at_map}
use Rattle.wf_model.proofs.Expanding.{expanded_from}
use Rattle.wf_laws.proofs.Routes.{address_law}
use Rattle.label_model.specs.Labels.{Label, Input, Output, OfEdge}
use Rattle.label_model.specs.Places.{place_of, IsEnding}
use Rattle.label_model.specs.RunLabels.{address_in, labelled_by, labelled}
use Rattle.label_model.proofs.InstanceAddresses.{instance_law}
use Rattle.label_model.proofs.TakenEvents.{expansion_of}
use Rattle.label_model.proofs.Lists.{zip-append}
use Rattle.label_model.proofs.ItemLabels.{no_item, length-inputs, length-outputs}
use Rattle.verdict_model.proofs.LabelsTold.{IsMadeAt}
use Rattle.verdict_model.proofs.Clashing.{child_of}

-- an item of a list stands beside its numbered label
beside : (h : ℕ → Label) (ts : List Item) (j n k : ℕ) (t : Item) → n ≡ length ts → IsAt t k ts → IsIn (t, h (j + k)) (zip ts (map h (numbers_from j n)))
beside h [] j n k t e q = absurd q
beside h (x ∷ ts) j zero k t e q = absurd (omega arith)
beside h (x ∷ ts) j (suc n) zero t e q = let w : j + 0 ≡ j = omega arith in inl (λ i. (q i, h (w i)))
beside h (x ∷ ts) j (suc n) (suc k) t e q =
    let f : n ≡ length ts = omega arith in
    let w : suc j + k ≡ j + suc k = omega arith in
    inr (subst (λ z. IsIn (t, h z) (zip ts (map h (numbers_from (suc j) n)))) w (beside h ts (suc j) n k t f q))

-- so it is where the numbers begin with 0
beside_all : (h : ℕ → Label) (ts : List Item) (n k : ℕ) (t : Item) → n ≡ length ts → IsAt t k ts → IsIn (t, h k) (zip ts (map h (numbers_from 0 n)))
beside_all h ts n k t e q = let w : 0 + k ≡ k = omega arith in subst (λ z. IsIn (t, h z) (zip ts (map h (numbers_from 0 n)))) w (beside h ts 0 n k t e q)

module _ (g : Grammar) (events : List Event) (run : IsRun g g.start events) where
  -- a run that has events begins with its start event
  start_there : (events : List Event) → IsRun g g.start events → events ≢ [] → IsIn (Start (root_of events)) events
  start_there [] run ne = absurd (ne refl)
  start_there (Start r ∷ rest) run ne = inl refl
  start_there (Expand i p names ∷ rest) run ne = absurd run.0.stands

  ins : List (List ℕ)
  ins = (module_at g g.start).inputs

  outs : List (List ℕ)
  outs = (module_at g g.start).outputs

  -- the items of the ports of the root, with their labels
  ports_listed : (r : List ℕ) → labelled_by g events (Start r) ≡ zip (input_items r 0 ins) (map Input (numbers_from 0 (length ins))) ++ zip (output_items r 0 outs) (map Output (numbers_from 0 (length outs)))
  unfolding ins outs
  ports_listed r =
      zip-append (input_items r 0 ins) (output_items r 0 outs) (map Input (numbers_from 0 (length ins))) (map Output (numbers_from 0 (length outs)))
      (length-inputs r 0 ins ∙ sym (length-map (numbers_from 0 (length ins)) Input ∙ length-numbers 0 (length ins)))

  pub input_listed : events ≢ [] → (k : ℕ) → k < inputs_of g g.start → (t : Item) × IsIn (t, Input k) (labelled g events)
  unfolding ins outs
  input_listed ne k small =
      let r = root_of events in
      let t = get_or (input_items r 0 ins) k no_item in
      let at = beside_all Input (input_items r 0 ins) (length ins) k t (sym (length-inputs r 0 ins)) (is_at k (input_items r 0 ins) no_item (let w : k < length (input_items r 0 ins) = omega (arith, small, length-inputs r 0 ins) in w)) in (
        t,
        in_flat_map (labelled_by g events) (Start r) (t, Input k) events (start_there events run ne)
            (subst (IsIn (t, Input k)) (sym (ports_listed r)) (in_append_left (t, Input k) (zip (input_items r 0 ins) (map Input (numbers_from 0 (length ins)))) (zip (output_items r 0 outs) (map Output (numbers_from 0 (length outs)))) at)),
      )

  pub output_listed : events ≢ [] → (k : ℕ) → k < outputs_of g g.start → (t : Item) × IsIn (t, Output k) (labelled g events)
  unfolding ins outs
  output_listed ne k small =
      let r = root_of events in
      let t = get_or (output_items r 0 outs) k no_item in
      let at = beside_all Output (output_items r 0 outs) (length outs) k t (sym (length-outputs r 0 outs)) (is_at k (output_items r 0 outs) no_item (let w : k < length (output_items r 0 outs) = omega (arith, small, length-outputs r 0 outs) in w)) in (
        t,
        in_flat_map (labelled_by g events) (Start r) (t, Output k) events (start_there events run ne)
            (subst (IsIn (t, Output k)) (sym (ports_listed r)) (in_append_right (t, Output k) (zip (input_items r 0 ins) (map Input (numbers_from 0 (length ins)))) (zip (output_items r 0 outs) (map Output (numbers_from 0 (length outs)))) at)),
      )

  -- the item of an edge, with the label that tells the address of its maker
  pub edge_listed : IsWellFormed g → (t : Item) (a : List Step) (p e : ℕ) → IsMadeAt g events t a p e → IsIn (t, OfEdge (place_of g g.start a p e)) (labelled g events)
  edge_listed wf t a p e m =
      let i = m.instance in
      let here = expanded_from events i (record { production = p; names = m.names }) m.expanded in
      let o = expansion_of g g.start events run i p m.names here in
      let looked = (instance_law g g.start events [] (record { name = i; module_no = head_of g p }) (subst (λ z. IsRun g g.start z) (sym (append-nil events)) run) o.stands).address in
      let same : address_in events i ≡ a = address_law g wf g.start events run (address_in events i) a i looked m.address in
      let label : ℕ → Label = λ n. OfEdge (place_of g g.start (address_in events i) p n) in
      let edges = (production_at g p).edges in
      let item = edge_item g i p m.names in
      let at = beside_all label (map item edges) (length edges) e (item m.edge) (sym (length-map edges item)) (at_map item m.edge e edges m.number) in
      let listed = in_flat_map (labelled_by g events) (Expand i p m.names) (item m.edge, label e) events here at in
      subst (λ z. IsIn (t, OfEdge (place_of g g.start z p e)) (labelled g events)) same (subst (λ z. IsIn (z, label e) (labelled g events)) (sym m.same) listed)

-- the instance that an address with one step more leaves last
left_last : (events : List Event) (a : List Step) (n x : List ℕ) (p k : ℕ) → IsAddress events n (child_of a p k) x → (c : List ℕ) × (names : List (List ℕ)) × IsAddress events n a c × (expanded_by events c ≡ Some (record { production = p; names = names }))
left_last events [] n x p k h = (n, h.0, refl, h.1)
left_last events (s ∷ a) n x p k h =
    let r = left_last events a (get_or h.0 s.position []) x p k h.3 in
    (r.0, r.1, (h.0, h.1, h.2, r.2), r.3)

-- where a run has the address of a child of an instance, the edges of the production make items
pub edge_made : (g : Grammar) (events : List Event) (a : List Step) (p e k : ℕ) (x : List ℕ) (edge : Edge) → IsEnding g g.start a p e → IsAt edge e (production_at g p).edges → IsAddress events (root_of events) (child_of a p k) x → (t : Item) × IsMadeAt g events t a p e
edge_made g events a p e k x edge ends at h =
    let r = left_last events a (root_of events) x p k h in
    (edge_item g r.0 p r.1 edge, record { instance = r.0; names = r.1; edge = edge; address = r.2; expanded = r.3; number = at; same = refl; ends = ends })
