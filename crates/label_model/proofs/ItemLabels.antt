-- The labels that are listed with the items of a run.
use Rattle.std.proofs.Common.{◌≡◌, ◌≢◌, ℕ, zero, suc, ◌+◌, ◌<◌, List, [], ◌∷◌, ◌++◌, map, length, get_or, zip, None, refl, sym, ap, ◌∙◌, subst, inl, inr, ⊎_elim, arith, append-nil, length-append}
use Rattle.std.proofs.lemmas.List.{length-map}
use Rattle.wf_model.specs.Lists.{IsIn, IsAt, numbers_from}
use Rattle.wf_model.specs.Grammar.{Grammar, Edge, production_at, module_at, head_of, inputs_of, outputs_of}
use Rattle.wf_model.specs.declared.event.Event.{Event}
use Rattle.wf_model.specs.declared.event.Event.TheVariants.{Start, Expand}
use Rattle.wf_model.specs.Run.{IsRun, root_of}
use Rattle.wf_model.specs.Items.{Item, input_items, output_items, edge_item, items_by}
use Rattle.wf_model.proofs.Lists.{in_append_cases, in_flat_map_from}
use Rattle.label_model.specs.Labels.{Label, Input, Output, OfEdge}
use Rattle.label_model.specs.Places.{place_of, IsEnding}
use Rattle.label_model.specs.RunLabels.{address_in, labelled_by, labelled, labels_by}
use Rattle.label_model.proofs.InstanceAddresses.{instance_law}
use Rattle.label_model.proofs.TakenEvents.{taken, expansion_of}
use Rattle.label_model.proofs.Lists.{zip-append}
use Rattle.wf_model.proofs.NumberLists.{length-numbers}

-- an item and the label of its edge
pub record IsOfEdge (g : Grammar) (events : List Event) (t : Item) (l : Label) (i : List ℕ) (p : ℕ) (names : List (List ℕ)) : Type 0 where
  pub edge_no : ℕ
  pub edge : Edge
  pub at : IsAt edge edge_no (production_at g p).edges
  pub item_is : t ≡ edge_item g i p names edge
  pub label_is : l ≡ OfEdge (place_of g g.start (address_in events i) p edge_no)

-- an item of a list, and what is numbered beside it
zipped : {A : Type 0} (f : A → Item) (h : ℕ → Label) (xs : List A) (j : ℕ) (t : Item) (l : Label) → IsIn (t, l) (zip (map f xs) (map h (numbers_from j (length xs)))) → (k : ℕ) × (x : A) × IsAt x k xs × (t ≡ f x) × (l ≡ h (j + k))
zipped f h [] j t l q = absurd q
zipped f h (x ∷ xs) j t l (inl e) = (0, x, refl, ap (λ z. z.0) e, ap (λ z. z.1) e ∙ ap h (let w : j ≡ j + 0 = omega arith in w))
zipped f h (x ∷ xs) j t l (inr q) = let r = zipped f h xs (suc j) t l q in (suc r.0, r.1, r.2, r.3, r.4 ∙ ap h (let w : suc j + r.0 ≡ j + suc r.0 = omega arith in w))

pub no_item : Item
no_item = record { name = []; maker = None; produced = None; consumed = None }

pub length-inputs : (r : List ℕ) (k : ℕ) (ns : List (List ℕ)) → length (input_items r k ns) ≡ length ns
length-inputs r k [] = refl
length-inputs r k (n ∷ ns) = ap suc (length-inputs r (suc k) ns)

pub length-outputs : (r : List ℕ) (k : ℕ) (ns : List (List ℕ)) → length (output_items r k ns) ≡ length ns
length-outputs r k [] = refl
length-outputs r k (n ∷ ns) = ap suc (length-outputs r (suc k) ns)

-- an item of a list whose labels are numbered
numbered : (h : ℕ → Label) (ts : List Item) (j n : ℕ) (t : Item) (l : Label) → n ≡ length ts → IsIn (t, l) (zip ts (map h (numbers_from j n))) → (k : ℕ) × (t ≡ get_or ts k no_item) × (l ≡ h (j + k)) × (k < length ts)
numbered h [] j n t l e q = absurd q
numbered h (x ∷ ts) j zero t l e q = absurd (omega arith)
numbered h (x ∷ ts) j (suc n) t l e (inl w) = (0, ap (λ z. z.0) w, ap (λ z. z.1) w ∙ ap h (let v : j ≡ j + 0 = omega arith in v), omega arith)
numbered h (x ∷ ts) j (suc n) t l e (inr q) = let f : n ≡ length ts = omega arith in let r = numbered h ts (suc j) n t l f q in (suc r.0, r.1, r.2 ∙ ap h (let w : suc j + r.0 ≡ j + suc r.0 = omega arith in w), omega (arith, r.3))

-- a run that has a label has its start event
pub label_started : (g : Grammar) (events : List Event) (t : Item) (l : Label) → IsIn (t, l) (labelled g events) → events ≢ []
label_started g [] t l h q = h
label_started g (e ∷ events) t l h q = absurd (cc)

-- what an item and its label are
pub data IsKind (g : Grammar) (events : List Event) (t : Item) (l : Label) : Type 0 where
  an_input : (k : ℕ) → k < inputs_of g g.start → t ≡ get_or (input_items (root_of events) 0 (module_at g g.start).inputs) k no_item → l ≡ Input k → IsKind g events t l
  an_output : (k : ℕ) → k < outputs_of g g.start → t ≡ get_or (output_items (root_of events) 0 (module_at g g.start).outputs) k no_item → l ≡ Output k → IsKind g events t l
  of_edge : (i : List ℕ) (p : ℕ) (names : List (List ℕ)) → IsIn (Expand i p names) events → IsOfEdge g events t l i p names → IsKind g events t l

pub kind : (g : Grammar) (events : List Event) → IsRun g g.start events → (t : Item) (l : Label) → IsIn (t, l) (labelled g events) → IsKind g events t l
kind g events run t l h =
    let r = in_flat_map_from (labelled_by g events) (t, l) events h in
    go r.0 r.1 r.2
  where
    go : (e : Event) → IsIn e events → IsIn (t, l) (labelled_by g events e) → IsKind g events t l
    go (Expand i p names) here q =
        let r = zipped (edge_item g i p names) (λ e. OfEdge (place_of g g.start (address_in events i) p e)) (production_at g p).edges 0 t l q in
        of_edge i p names here (record { edge_no = r.0; edge = r.1; at = r.2; item_is = r.3; label_is = r.4 ∙ ap (λ e. OfEdge (place_of g g.start (address_in events i) p e)) (let w : 0 + r.0 ≡ r.0 = omega arith in w) })
    go (Start r) here q =
        let x = taken g g.start events [] (Start r) run here in
        let root : root_of events ≡ r = ap root_of x.is ∙ ap (λ z. root_of (z ++ Start r ∷ x.later)) x.extends.0 in
        let ins = (module_at g g.start).inputs in
        let outs = (module_at g g.start).outputs in
        let q' = subst (λ z. IsIn (t, l) z) (zip-append (input_items r 0 ins) (output_items r 0 outs) (map Input (numbers_from 0 (length ins))) (map Output (numbers_from 0 (length outs)))
        (length-inputs r 0 ins ∙ sym (length-map (numbers_from 0 (length ins)) Input ∙ length-numbers 0 (length ins)))) q in
        ⊎_elim
        (λ a. let k = numbered Input (input_items r 0 ins) 0 (length ins) t l (sym (length-inputs r 0 ins)) a in
        an_input k.0 (let w : k.0 < length ins = omega (arith, k.3, length-inputs r 0 ins) in w) (k.1 ∙ ap (λ z. get_or (input_items z 0 ins) k.0 no_item) (sym root)) (k.2 ∙ ap Input (let w : 0 + k.0 ≡ k.0 = omega arith in w)))
        (λ a. let k = numbered Output (output_items r 0 outs) 0 (length outs) t l (sym (length-outputs r 0 outs)) a in
        an_output k.0 (let w : k.0 < length outs = omega (arith, k.3, length-outputs r 0 outs) in w) (k.1 ∙ ap (λ z. get_or (output_items z 0 outs) k.0 no_item) (sym root)) (k.2 ∙ ap Output (let w : 0 + k.0 ≡ k.0 = omega arith in w)))
        (in_append_cases (t, l) (zip (input_items r 0 ins) (map Input (numbers_from 0 (length ins)))) (zip (output_items r 0 outs) (map Output (numbers_from 0 (length outs)))) q')

-- the ending of an edge's item of a run
pub ending : (g : Grammar) (events : List Event) → IsRun g g.start events → (i : List ℕ) (p : ℕ) (names : List (List ℕ)) → IsIn (Expand i p names) events → (e : ℕ) → e < length (production_at g p).edges → IsEnding g g.start (address_in events i) p e
ending g events run i p names here e small =
    let x = expansion_of g g.start events run i p names here in
    let l = instance_law g g.start events [] (record { name = i; module_no = head_of g p }) (subst (λ z. IsRun g g.start z) (sym (append-nil events)) run) x.stands in
    record { route = l.route; of_it = (x.in_range, sym l.ends); edge = small }

-- each item of an event has one label
pub as_long : (g : Grammar) (events : List Event) (e : Event) → length (items_by g g.start e) ≡ length (labels_by g events e)
as_long g events (Start r) =
    let a = length-append (input_items r 0 (module_at g g.start).inputs) (output_items r 0 (module_at g g.start).outputs) in
    let b = length-append (map Input (numbers_from 0 (length (module_at g g.start).inputs))) (map Output (numbers_from 0 (length (module_at g g.start).outputs))) in
    omega (
      arith,
      a,
      b,
      length-inputs r 0 (module_at g g.start).inputs,
      length-outputs r 0 (module_at g g.start).outputs,
      length-map (numbers_from 0 (length (module_at g g.start).inputs)) Input,
      length-map (numbers_from 0 (length (module_at g g.start).outputs)) Output,
      length-numbers 0 (length (module_at g g.start).inputs),
      length-numbers 0 (length (module_at g g.start).outputs),
    )
as_long g events (Expand i p names) =
    length-map (production_at g p).edges (edge_item g i p names) ∙ sym (length-map (numbers_from 0 (length (production_at g p).edges)) _ ∙ length-numbers 0 (length (production_at g p).edges))
