-- The lines of items, from the table.
use Rattle.std.proofs.Common.{◌≡◌, ℕ, zero, suc, ◌+◌, ◌<◌, ◌≤◌, Bool, true, false, cond, List, [], ◌∷◌, ◌++◌, map, take, drop, length, get_or, refl, ap, sym, subst, ◌∙◌, arith}
use Rattle.std.specs.Prelude.{flat_map}
use Rattle.std.proofs.lemmas.Grind.{flat_map-append}
use Rattle.std.proofs.lemmas.List.{take-map, drop-map, length-map, length-take-le, length-drop}
use Rattle.std.proofs.lemmas.List.Folds.{flat_map-map}
use Rattle.wf_model.specs.declared.event.Event.{Event}
use Rattle.wf_model.specs.declared.event.Event.TheVariants.{Start}
use Rattle.wf_model.specs.Lists.{IsIn}
use Rattle.wf_model.specs.Grammar.{Grammar, Edge, production_at, module_at, body_of}
use Rattle.wf_model.specs.WellFormed.{IsWellFormed}
use Rattle.wf_model.specs.View.{View}
use Rattle.wf_model.specs.Run.{Instance, named, opens, seen_in, CanExpand}
use Rattle.wf_model.specs.Items.{dotted, input_items, output_items, edge_item, items_by}
use Rattle.wf_model.proofs.Lists.{in_map, in_append_right, at_below}
use Rattle.wf_model.proofs.Mapping.{flat_map_same}
use Rattle.wf_model.proofs.ItemNames.{extends_before}
use Rattle.wf_flat.specs.declared.table.Inst.{Inst}
use Rattle.wf_flat.specs.declared.table.Opened.{Opened}
use Rattle.wf_flat.specs.Table.{Table, IsTableOf, IsOpenedIn, instance_of, names_in, given_names, expansion_of, events_of, no_instance}
use Rattle.wf_flat.specs.Shown.{RunSeen}
use Rattle.wf_export.specs.ExportText.{item_line, visible_line, items_text}
use Rattle.wf_export.specs.Shown.{IsRunSeen, IsReady, port_lines, root_lines, held_edge_line, expansion_lines, held_items_text}

-- lists that are made of lists
pub flat_map-flat_map : {A B C : Type 0} (f : B → List C) (h : A → List B) (xs : List A) → flat_map f (flat_map h xs) ≡ flat_map (λ x. flat_map f (h x)) xs
flat_map-flat_map f h [] = refl
flat_map-flat_map f h (x ∷ xs) = flat_map-append f (h x) (flat_map h xs) ∙ ap (λ l. flat_map f (h x) ++ l) (flat_map-flat_map f h xs)

-- one test for all texts
tested : {A : Type 0} (b : Bool) (f : A → List ℕ) (xs : List A) → flat_map (λ x. cond b (f x) []) xs ≡ cond b (flat_map f xs) []
tested true f xs = refl
tested false f [] = refl
tested false f (x ∷ xs) = tested false f xs

-- the instances at the positions of a body have these names and modules
child_told : (cs : List Inst) (ns : List (List ℕ)) (ms : List ℕ) (k : ℕ) → map instance_of cs ≡ named ns ms → k < length cs → ((get_or cs k no_instance).name ≡ get_or ns k []) × ((get_or cs k no_instance).module.0 ≡ get_or ms k 0)
child_told [] ns ms k e h = absurd (omega arith)
child_told (c ∷ cs) [] ms k e h = absurd (let q = ap (λ (l : List Instance). length l) e in omega arith)
child_told (c ∷ cs) (n ∷ ns) [] k e h = absurd (let q = ap (λ (l : List Instance). length l) e in omega arith)
child_told (c ∷ cs) (n ∷ ns) (m ∷ ms) zero e h =
    let d : Instance = instance_of c in
    (ap (λ (l : List Instance). (get_or l 0 d).name) e, ap (λ (l : List Instance). (get_or l 0 d).module_no) e)
child_told (c ∷ cs) (n ∷ ns) (m ∷ ms) (suc k) e h = let l : k < length cs = omega arith in child_told cs ns ms k (ap (drop 1) e) l

module _ (g : Grammar) (u : View) (e : List Event) where
  input_lines : (r : List ℕ) (k : ℕ) (ns : List (List ℕ)) → flat_map (visible_line g u e) (input_items r k ns) ≡ port_lines r ns
  input_lines r k [] = refl
  input_lines r k (n ∷ ns) = ap (λ l. item_line (dotted r n) ++ l) (input_lines r (suc k) ns)

  output_lines : (r : List ℕ) (k : ℕ) (ns : List (List ℕ)) → flat_map (visible_line g u e) (output_items r k ns) ≡ port_lines r ns
  output_lines r k [] = refl
  output_lines r k (n ∷ ns) = ap (λ l. item_line (dotted r n) ++ l) (output_lines r (suc k) ns)

  -- the lines of what an event makes
  abbrev event_lines : Event → List ℕ
  event_lines x = flat_map (visible_line g u e) (items_by g g.start x)

  start_lines : (xs : List Inst) → flat_map event_lines (map Start (take 1 (names_in xs))) ≡ root_lines g xs
  start_lines [] = refl
  start_lines (x ∷ xs) =
      let ins = (module_at g g.start).inputs in
      let outs = (module_at g g.start).outputs in
      ap (λ l. l ++ [])
      (flat_map-append (visible_line g u e) (input_items x.name 0 ins) (output_items x.name 0 outs)
      ∙ (ap (λ l. l ++ flat_map (visible_line g u e) (output_items x.name 0 outs)) (input_lines x.name 0 ins)
      ∙ ap (λ l. port_lines x.name ins ++ l) (output_lines x.name 0 outs)))

module _ (g : Grammar) (wf : IsWellFormed g) (t : Table) (run : IsTableOf g t) (o : Opened) (io : IsIn o t.order) (there : IsOpenedIn (length t.instances) o) where
  abbrev given : List (List ℕ)
  given = given_names (names_in t.instances) o

  abbrev children : List Inst
  children = take o.count (drop o.first t.instances)

  can : (before : List Event) × CanExpand g g.start before (get_or (names_in t.instances) o.instance []) o.production.0 given
  can =
      extends_before g g.start [] (events_of t) (expansion_of (names_in t.instances) o) run.accepted.0
      (in_append_right (expansion_of (names_in t.instances) o) (map Start (take 1 (names_in t.instances))) (map (expansion_of (names_in t.instances)) t.order) (in_map (expansion_of (names_in t.instances)) o t.order io))

  room : o.first + o.count ≤ length t.instances
  room = there.2

  children_count : length children ≡ o.count
  children_count = length-take-le o.count (drop o.first t.instances) (let r = room in omega (arith, length-drop o.first t.instances))

  given_is : given ≡ map (λ (x : Inst). x.name) children
  given_is = ap (take o.count) (drop-map (λ (x : Inst). x.name) o.first t.instances) ∙ take-map (λ (x : Inst). x.name) o.count (drop o.first t.instances)

  body_count : length (body_of g o.production.0) ≡ o.count
  body_count = sym can.1.one_each ∙ (ap length given_is ∙ (length-map children (λ (x : Inst). x.name) ∙ children_count))

  from_there : (d : Edge) → IsIn d (production_at g o.production.0).edges → d.from.position < o.count
  from_there d i =
      let f = (wf.bodies o.production.0 can.1.in_range).edges_from d i in
      subst (λ n. d.from.position < n) body_count (at_below f.0 d.from.position (body_of g o.production.0) f.1)

  -- the production and the instances are there
  pub ready : IsReady g (length t.instances) o
  ready = record { in_range = can.1.in_range; within = room; edges = from_there }

  children_are : map instance_of children ≡ named given (body_of g o.production.0)
  children_are = sym (ap (take o.count) (drop-map instance_of o.first t.instances) ∙ take-map instance_of o.count (drop o.first t.instances)) ∙ run.ordered o io

  edge_told : (d : Edge) → IsIn d (production_at g o.production.0).edges → item_line (edge_item g (get_or (names_in t.instances) o.instance []) o.production.0 given d).name ≡ held_edge_line g children d
  edge_told d i =
      let c = child_told children given (body_of g o.production.0) d.from.position children_are (subst (λ n. d.from.position < n) (sym children_count) (from_there d i)) in
      ap (λ n. item_line (dotted n (get_or (module_at g (get_or (body_of g o.production.0) d.from.position 0)).outputs d.from.port []))) (sym c.0)
      ∙ ap (λ m. item_line (dotted (get_or children d.from.position no_instance).name (get_or (module_at g m).outputs d.from.port []))) (sym c.1)

  expansion_told : (u : View) (shown : RunSeen) → IsRunSeen g u t shown → event_lines g u (events_of t) (expansion_of (names_in t.instances) o) ≡ expansion_lines g t.instances shown.opens o
  expansion_told u shown seen =
      let name = get_or (names_in t.instances) o.instance [] in
      let edges = (production_at g o.production.0).edges in
      let b = opens u (seen_in g u g.start (events_of t)) name in
      flat_map-map (visible_line g u (events_of t)) (edge_item g name o.production.0 given) edges
      ∙ (tested b (λ d. item_line (edge_item g name o.production.0 given d).name) edges
      ∙ (ap (λ l. cond b l []) (flat_map_same _ _ edges edge_told)
      ∙ ap (λ z. cond z (flat_map (held_edge_line g children) edges) []) (sym (seen.opens o.instance there.0))))

-- the lines of the root's ports, and of what the expansions make
pub items_told : (g : Grammar) (u : View) (t : Table) (shown : RunSeen) → IsRunSeen g u t shown → held_items_text g t shown.opens ≡ items_text g u (events_of t)
items_told g u t shown seen =
    let e = events_of t in
    let ns = names_in t.instances in
    sym (flat_map-flat_map (visible_line g u e) (items_by g g.start) e
    ∙ (flat_map-append (event_lines g u e) (map Start (take 1 ns)) (map (expansion_of ns) t.order)
    ∙ (ap (λ l. l ++ flat_map (event_lines g u e) (map (expansion_of ns) t.order)) (start_lines g u e t.instances)
    ∙ ap (λ l. root_lines g t.instances ++ l)
    (flat_map-map (event_lines g u e) (expansion_of ns) t.order
    ∙ flat_map_same _ _ t.order (λ o i. expansion_told g seen.grammar t seen.run o i (seen.opened o i) u shown seen)))))
