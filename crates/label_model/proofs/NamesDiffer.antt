-- The items of a run have names that differ. Each is the name of an instance, a dot and the name of a port.
use Rattle.std.proofs.Common.{◌≡◌, ℕ, suc, ◌<◌, List, [], ◌∷◌, ◌++◌, map, length, flat_map, get_or, codes, refl, sym, ap, ◌∙◌, subst, inl, inr, arith}
use Rattle.std.proofs.lemmas.List.{map-append, append_cancel_left}
use Rattle.wf_model.specs.Lists.{IsIn, IsAt, AllDiffer}
use Rattle.wf_model.specs.Grammar.{Grammar, Edge, production_at, module_at, outputs_of, body_of}
use Rattle.wf_model.specs.WellFormed.{IsWellFormed, IsShortName}
use Rattle.wf_model.specs.declared.event.Event.{Event}
use Rattle.wf_model.specs.declared.event.Event.TheVariants.{Start, Expand}
use Rattle.wf_model.specs.Run.{Instance, IsName, made, made_by, names_of, CanExpand, Extends, IsRun}
use Rattle.wf_model.specs.Items.{Item, dotted, input_items, output_items, edge_item, items_by}
use Rattle.wf_model.proofs.Lists.{in_append_right, in_map_from, in_flat_map, in_flat_map_from, at_in, is_at, at_is, at_below, differ_at}
use Rattle.wf_model.proofs.Runs.{names-named}
use Rattle.wf_model.proofs.Taking.{run_differs}
use Rattle.wf_model.proofs.ItemNames.{no_dot, dotted_same, ports_differ}
use Rattle.label_model.proofs.Differing.{differ-append, differ_parts, differ_map}
use Rattle.label_model.proofs.TakenEvents.{taken}
use Rattle.label_model.proofs.EdgeSources.{sources_differ}

-- the names of the items that an event makes
abbrev pub item_names : Grammar → Event → List (List ℕ)
item_names g e = map (λ (t : Item). t.name) (items_by g g.start e)

inputs_named : (r : List ℕ) (k : ℕ) (ns : List (List ℕ)) → map (λ (t : Item). t.name) (input_items r k ns) ≡ map (dotted r) ns
inputs_named r k [] = refl
inputs_named r k (n ∷ ns) = ap (λ z. dotted r n ∷ z) (inputs_named r (suc k) ns)

outputs_named : (r : List ℕ) (k : ℕ) (ns : List (List ℕ)) → map (λ (t : Item). t.name) (output_items r k ns) ≡ map (dotted r) ns
outputs_named r k [] = refl
outputs_named r k (n ∷ ns) = ap (λ z. dotted r n ∷ z) (outputs_named r (suc k) ns)

root_named : (g : Grammar) (r : List ℕ) → item_names g (Start r) ≡ map (dotted r) ((module_at g g.start).inputs ++ (module_at g g.start).outputs)
root_named g r =
    let ins = (module_at g g.start).inputs in
    let outs = (module_at g g.start).outputs in
    map-append (λ (t : Item). t.name) (input_items r 0 ins) (output_items r 0 outs) ∙
    (ap (λ z. z ++ map (λ (t : Item). t.name) (output_items r 0 outs)) (inputs_named r 0 ins) ∙
    (ap (λ z. map (dotted r) ins ++ z) (outputs_named r 0 outs) ∙ sym (map-append (dotted r) ins outs)))

-- the name of the instance at which an edge begins, and that of the port there
abbrev owner_of : List (List ℕ) → Edge → List ℕ
owner_of names e = get_or names e.from.position []

abbrev ports_of : Grammar → ℕ → ℕ → List (List ℕ)
ports_of g p k = (module_at g (get_or (body_of g p) k 0)).outputs

abbrev port_of : Grammar → ℕ → Edge → List ℕ
port_of g p e = get_or (ports_of g p e.from.position) e.from.port []

edges_named : (g : Grammar) (i : List ℕ) (p : ℕ) (names : List (List ℕ)) (es : List Edge) → map (λ (t : Item). t.name) (map (edge_item g i p names) es) ≡ map (λ (e : Edge). dotted (owner_of names e) (port_of g p e)) es
edges_named g i p names [] = refl
edges_named g i p names (e ∷ es) = ap (λ z. dotted (owner_of names e) (port_of g p e) ∷ z) (edges_named g i p names es)

-- an edge begins at one of the children, and at a port that is there and has a short name
record IsSource (g : Grammar) (p : ℕ) (names : List (List ℕ)) (e : Edge) : Type 0 where
  at : IsAt (owner_of names e) e.from.position names
  port : e.from.port < length (ports_of g p e.from.position)
  short : IsShortName (port_of g p e)

source : (g : Grammar) → IsWellFormed g → (b : List Event) (i : List ℕ) (p : ℕ) (names : List (List ℕ)) → CanExpand g g.start b i p names → (e : Edge) → IsIn e (production_at g p).edges → IsSource g p names e
source g wf b i p names can e h =
    let body = wf.bodies p can.in_range in
    let o = body.edges_from e h in
    let below = at_below o.0 e.from.position (body_of g p) o.1 in
    let k : get_or (body_of g p) e.from.position 0 ≡ o.0 = at_is o.0 e.from.position (body_of g p) 0 o.1 in
    let small = body.modules o.0 (at_in o.0 e.from.position (body_of g p) o.1) in
    let m = wf.modules (module_at g o.0) (at_in (module_at g o.0) o.0 g.modules (is_at o.0 g.modules (record { name = []; inputs = []; outputs = [] }) small)) in
    let outs = (module_at g o.0).outputs in
    let n = get_or outs e.from.port [] in
    let short = m.ports n (in_append_right n (module_at g o.0).inputs outs (at_in n e.from.port outs (is_at e.from.port outs [] o.2))) in
    record {
      at = is_at e.from.position names [] (omega (arith, can.one_each, below));
      port = subst (λ z. e.from.port < outputs_of g z) (sym k) o.2;
      short = subst (λ z. IsShortName (get_or (module_at g z).outputs e.from.port [])) (sym k) short;
    }

-- the name of an item is that of an instance which the event makes, a dot and that of a port
pub record IsOwned (g : Grammar) (e : Event) (x : List ℕ) : Type 0 where
  pub owner : List ℕ
  pub port : List ℕ
  pub made : IsIn owner (names_of (made_by g g.start e))
  pub good : IsName owner
  pub short : IsShortName port
  pub dots : x ≡ dotted owner port

module _ (g : Grammar) (wf : IsWellFormed g) where
  pub owned : (b : List Event) (e : Event) → Extends g g.start b e → (x : List ℕ) → IsIn x (item_names g e) → IsOwned g e x
  owned b (Start r) h x i =
      let ports = (module_at g g.start).inputs ++ (module_at g g.start).outputs in
      let q = in_map_from (dotted r) x ports (subst (IsIn x) (root_named g r) i) in
      let m = wf.modules (module_at g g.start) (at_in (module_at g g.start) g.start g.modules (is_at g.start g.modules (record { name = []; inputs = []; outputs = [] }) wf.start)) in
      record { owner = r; port = q.0; made = inl refl; good = h.1; short = m.ports q.0 q.1; dots = q.2 }
  owned b (Expand i p names) can x h =
      let q = in_map_from (λ (e : Edge). dotted (owner_of names e) (port_of g p e)) x (production_at g p).edges (subst (IsIn x) (edges_named g i p names (production_at g p).edges) h) in
      let e = q.0 in
      let s = source g wf b i p names can e q.1 in
      let inside = at_in (owner_of names e) e.from.position names s.at in
      record {
        owner = owner_of names e;
        port = port_of g p e;
        made = subst (IsIn (owner_of names e)) (sym (names-named names (body_of g p) can.one_each)) inside;
        good = can.good (owner_of names e) inside;
        short = s.short;
        dots = q.2;
      }

  -- edges with one name begin at one port
  one_source : (b : List Event) (i : List ℕ) (p : ℕ) (names : List (List ℕ)) → CanExpand g g.start b i p names → (e f : Edge) → IsIn e (production_at g p).edges → IsIn f (production_at g p).edges →
      dotted (owner_of names e) (port_of g p e) ≡ dotted (owner_of names f) (port_of g p f) → e.from ≡ f.from
  one_source b i p names can e f he hf q =
      let se = source g wf b i p names can e he in
      let sf = source g wf b i p names can f hf in
      let n = owner_of names e in
      let k = owner_of names f in
      let r = dotted_same n (port_of g p e) k (port_of g p f) (no_dot n (can.good n (at_in n e.from.position names se.at))) (no_dot k (can.good k (at_in k f.from.position names sf.at))) q in
      let place : e.from.position ≡ f.from.position = differ_at n e.from.position f.from.position names can.differ se.at (subst (λ z. IsAt z f.from.position names) (sym r.0) sf.at) in
      let outs = ports_of g p e.from.position in
      let m = get_or (body_of g p) e.from.position 0 in
      let d = (differ_parts (module_at g m).inputs outs (ports_differ g wf m)).1 in
      let inside : f.from.port < length outs = subst (λ z. f.from.port < length (ports_of g p z)) (sym place) sf.port in
      let name : port_of g p e ≡ get_or outs f.from.port [] = r.1 ∙ ap (λ z. get_or (ports_of g p z) f.from.port []) (sym place) in
      let port : e.from.port ≡ f.from.port = differ_at (port_of g p e) e.from.port f.from.port outs d (is_at e.from.port outs [] se.port) (subst (λ z. IsAt z f.from.port outs) (sym name) (is_at f.from.port outs [] inside)) in
      λ j. record { position = place j; port = port j }

  -- the items of one event have names that differ
  by_one : (b : List Event) (e : Event) → Extends g g.start b e → AllDiffer (item_names g e)
  by_one b (Start r) h =
      let ports = (module_at g g.start).inputs ++ (module_at g g.start).outputs in
      subst AllDiffer (sym (root_named g r)) (differ_map (λ n. n) (dotted r) ports (subst AllDiffer (sym (map_same ports)) (ports_differ g wf g.start)) (λ x y i j q. append_cancel_left (r ++ codes ".") x y q))
    where
      map_same : (xs : List (List ℕ)) → map (λ n. n) xs ≡ xs
      map_same [] = refl
      map_same (x ∷ xs) = ap (λ z. x ∷ z) (map_same xs)
  by_one b (Expand i p names) can =
      let es = (production_at g p).edges in
      subst AllDiffer (sym (edges_named g i p names es))
      (differ_map (λ (e : Edge). e.from) (λ (e : Edge). dotted (owner_of names e) (port_of g p e)) es (sources_differ g wf p can.in_range) (one_source b i p names can))

-- the names of the instances of a run, event by event
names-flat : (g : Grammar) (m : ℕ) (events : List Event) → names_of (made g m events) ≡ flat_map (λ e. names_of (made_by g m e)) events
names-flat g m [] = refl
names-flat g m (e ∷ events) = map-append (λ (i : Instance). i.name) (made_by g m e) (made g m events) ∙ ap (λ z. names_of (made_by g m e) ++ z) (names-flat g m events)

-- where the names of instances differ, so do those of items, if they do within each event
differ_flat : (g : Grammar) (events : List Event) → AllDiffer (flat_map (λ e. names_of (made_by g g.start e)) events) → ((e : Event) → IsIn e events → AllDiffer (item_names g e)) →
    ((e : Event) (x : List ℕ) → IsIn e events → IsIn x (item_names g e) → IsOwned g e x) → AllDiffer (flat_map (item_names g) events)
differ_flat g [] d each owns = tt
differ_flat g (e ∷ events) d each owns =
    let makes : Event → List (List ℕ) = λ e. names_of (made_by g g.start e) in
    let parts = differ_parts (makes e) (flat_map makes events) d in
    differ-append (item_names g e) (flat_map (item_names g) events) (each e (inl refl)) (differ_flat g events parts.1 (λ f i. each f (inr i)) (λ f x i j. owns f x (inr i) j))
    (λ x i j.
    let r = in_flat_map_from (item_names g) x events j in
    let a = owns e x (inl refl) i in
    let b = owns r.0 x (inr r.1) r.2 in
    let s = dotted_same a.owner a.port b.owner b.port (no_dot a.owner a.good) (no_dot b.owner b.good) (sym a.dots ∙ b.dots) in
    parts.2 a.owner a.made (subst (λ z. IsIn z (flat_map makes events)) (sym s.0) (in_flat_map makes r.0 b.owner events r.1 b.made)))

pub names_differ : (g : Grammar) → IsWellFormed g → (events : List Event) → IsRun g g.start events → AllDiffer (flat_map (item_names g) events)
names_differ g wf events run =
    differ_flat g events (subst AllDiffer (names-flat g g.start events) (run_differs g g.start events run))
    (λ e h. let t = taken g g.start events [] e run h in by_one g wf t.before e t.extends)
    (λ e x h i. let t = taken g g.start events [] e run h in owned g wf t.before e t.extends x i)
