-- The items of a run that are named by the ports of an instance.
use Rattle.std.proofs.Common.{◌≡◌, ℕ, zero, suc, ◌+◌, ◌-◌, ◌<◌, ◌≤◌, ◌⊎◌, List, [], ◌∷◌, ◌++◌, map, take, drop, length, get_or, Option, Some, None, refl, ap, sym, subst, ◌∙◌, arith, inl, inr, ⊎_elim, bytes_eq}
use Rattle.std.specs.Prelude.{position, option_map, IfSome, ◌==◌}
use Rattle.std.proofs.lemmas.Option.{MatchOption-at_none, MatchOption-at_some}
use Rattle.std.proofs.lemmas.List.{get_or-map, get_or-take, get_or-drop, get_or_read, get_or_default, length-drop, take_all}
use Rattle.std.proofs.lemmas.List.Quantifiers.{position-Some}
use Rattle.wf_model.specs.declared.event.Event.{Event}
use Rattle.wf_model.specs.declared.event.Event.TheVariants.{Start, Expand}
use Rattle.wf_model.specs.declared.numbers.ProdNo.{ProdNo}
use Rattle.wf_model.specs.Lists.{IsIn, IsAt, AllDiffer}
use Rattle.wf_model.specs.Grammar.{Grammar, Module, Inner, Edge, production_at, module_at, body_of, outputs_of}
use Rattle.wf_model.specs.WellFormed.{IsWellFormed, IsWellFormedModule, IsInnerOutput}
use Rattle.wf_model.specs.Run.{Instance, Expanded, named, made, made_by, names_of, CanExpand, Extends, AllExtend}
use Rattle.wf_model.specs.Links.{Port, input, output}
use Rattle.wf_model.specs.Items.{Item, dotted, input_items, output_items, edge_item, items_by, items}
use Rattle.wf_model.proofs.Lists.{in_append_cases, in_append_left, in_append_right, in_map, in_map_from, in_flat_map, in_flat_map_from, at_in, at_is, at_below, is_at, differ_at, same_bytes, bytes_same}
use Rattle.wf_model.proofs.Runs.{named_at, names-named, name_in}
use Rattle.wf_model.proofs.Differ.{one_of_name}
use Rattle.wf_model.proofs.Taking.{run_differs}
use Rattle.wf_model.proofs.ItemNames.{no_dot, dotted_same, extends_before, made_once, ports_differ, differ_right, name_made}
use Rattle.wf_model.proofs.Mapping.{at_map}
use Rattle.wf_model.proofs.Expanding.{expanded_from}
use Rattle.wf_flat.specs.declared.table.Inst.{Inst}
use Rattle.wf_flat.specs.declared.graph.Port.{Port as PortHeld}
use Rattle.wf_flat.specs.declared.item.Item.{Item as ItemHeld}
use Rattle.wf_flat.specs.Table.{Table, IsTableOf, IsParentAt, instance_of, names_in, events_of, events_by, no_instance}
use Rattle.wf_flat.specs.Graph.{named_port}
use Rattle.wf_flat.specs.Item.{named_item, IsItemWithin, IsItemOfEdge}
use Rattle.wf_flat.proofs.Instances.{same_names}
use Rattle.wf_flat.proofs.OfInstance.{module_there, production_there}
use Rattle.wf_flat.proofs.Dots.{none_passes, not_dotted, split_at}
use Rattle.wf_flat.proofs.Givers.{made_name}

in_inputs : (t : Item) (r : List ℕ) (k : ℕ) (ns : List (List ℕ)) → IsIn t (input_items r k ns) → (n : List ℕ) × IsIn n ns × (t.name ≡ dotted r n)
in_inputs t r k [] h = absurd h
in_inputs t r k (n ∷ ns) (inl e) = (n, inl refl, ap (λ (z : Item). z.name) e)
in_inputs t r k (n ∷ ns) (inr h) = let q = in_inputs t r (suc k) ns h in (q.0, inr q.1, q.2)

in_outputs : (t : Item) (r : List ℕ) (k : ℕ) (ns : List (List ℕ)) → IsIn t (output_items r k ns) → (n : List ℕ) × IsIn n ns × (t.name ≡ dotted r n)
in_outputs t r k [] h = absurd h
in_outputs t r k (n ∷ ns) (inl e) = (n, inl refl, ap (λ (z : Item). z.name) e)
in_outputs t r k (n ∷ ns) (inr h) = let q = in_outputs t r (suc k) ns h in (q.0, inr q.1, q.2)

abbrev some_output : List ℕ → ℕ → Option (Port (List ℕ))
some_output a n = Some (output a n)

abbrev some_input : List ℕ → ℕ → Option (Port (List ℕ))
some_input a n = Some (input a n)

-- an item of the root's ports is named by the run's start
pub record IsOfStart (g : Grammar) (a : List Event) (owner port : List ℕ) : Type 0 where
  pub event : IsIn (Start owner) a
  pub named : IsIn port ((module_at g g.start).inputs ++ (module_at g g.start).outputs)

-- an item of an edge is named by an expansion
pub record IsOfEdge (g : Grammar) (a : List Event) (owner port : List ℕ) : Type 0 where
  pub parent : List ℕ
  pub production : ℕ
  pub names : List (List ℕ)
  pub edge : Edge
  pub event : IsIn (Expand parent production names) a
  pub inside : IsIn edge (production_at g production).edges
  pub place : IsAt owner edge.from.position names
  pub named : port ≡ get_or (module_at g (get_or (body_of g production) edge.from.position 0)).outputs edge.from.port []

-- what gave an item its name
named_so : (g : Grammar) (a : List Event) (t : Item) (owner port : List ℕ) → IsWellFormed g → AllExtend g g.start [] a → IsIn t (items g g.start a) → (IsIn 46 owner → ⊥) → t.name ≡ dotted owner port → IsOfStart g a owner port ⊎ IsOfEdge g a owner port
named_so g a t owner port wf x h d e =
    let r = in_flat_map_from (items_by g g.start) t a h in
    let y = extends_before g g.start [] a r.0 x r.1 in
    go y.0 r.0 r.1 y.1 r.2
  where
    go : (c : List Event) (v : Event) → IsIn v a → Extends g g.start c v → IsIn t (items_by g g.start v) → IsOfStart g a owner port ⊎ IsOfEdge g a owner port
    go c (Start r) i y k =
        let q : (n : List ℕ) × IsIn n ((module_at g g.start).inputs ++ (module_at g g.start).outputs) × (t.name ≡ dotted r n) =
        ⊎_elim
        (λ s. let p = in_inputs t r 0 (module_at g g.start).inputs s in (p.0, in_append_left p.0 (module_at g g.start).inputs (module_at g g.start).outputs p.1, p.2))
        (λ s. let p = in_outputs t r 0 (module_at g g.start).outputs s in (p.0, in_append_right p.0 (module_at g g.start).inputs (module_at g g.start).outputs p.1, p.2))
        (in_append_cases t (input_items r 0 (module_at g g.start).inputs) (output_items r 0 (module_at g g.start).outputs) k) in
        let z = dotted_same r q.0 owner port (no_dot r y.1) d (sym q.2 ∙ e) in
        inl (record {
          event = subst (λ n. IsIn (Start n) a) z.0 i;
          named = subst (λ n. IsIn n ((module_at g g.start).inputs ++ (module_at g g.start).outputs)) z.1 q.1;
        })
    go c (Expand i p ns) v y k =
        let q = in_map_from (edge_item g i p ns) t (production_at g p).edges k in
        let f = q.0.from in
        let out = (wf.bodies p y.in_range).edges_from q.0 q.1 in
        let low : f.position < length (body_of g p) = at_below out.0 f.position (body_of g p) out.1 in
        let l : f.position < length ns = subst (λ n. f.position < n) (sym y.one_each) low in
        let at = is_at f.position ns [] l in
        let z = dotted_same (get_or ns f.position []) (get_or (module_at g (get_or (body_of g p) f.position 0)).outputs f.port []) owner port (no_dot (get_or ns f.position []) (y.good (get_or ns f.position []) (at_in (get_or ns f.position []) f.position ns at))) d (sym (ap (λ (z : Item). z.name) q.2) ∙ e) in
        inr (record {
          parent = i;
          production = p;
          names = ns;
          edge = q.0;
          event = v;
          inside = q.1;
          place = subst (λ n. IsAt n f.position ns) z.0 at;
          named = sym z.1;
        })

-- an item is named by an instance of the run
item_name : (g : Grammar) (a : List Event) (t : Item) → IsWellFormed g → AllExtend g g.start [] a → IsIn t (items g g.start a) → (owner port : List ℕ) × (t.name ≡ dotted owner port) × IsIn owner (names_of (made g g.start a))
item_name g a t wf x h =
    let r = in_flat_map_from (items_by g g.start) t a h in
    let y = extends_before g g.start [] a r.0 x r.1 in
    go y.0 r.0 r.1 y.1 r.2
  where
    go : (c : List Event) (v : Event) → IsIn v a → Extends g g.start c v → IsIn t (items_by g g.start v) → (owner port : List ℕ) × (t.name ≡ dotted owner port) × IsIn owner (names_of (made g g.start a))
    go c (Start r) i y k =
        let o = name_made g g.start r (Start r) a i (inl refl) in
        ⊎_elim
        (λ s. let p = in_inputs t r 0 (module_at g g.start).inputs s in (r, p.0, p.2, o))
        (λ s. let p = in_outputs t r 0 (module_at g g.start).outputs s in (r, p.0, p.2, o))
        (in_append_cases t (input_items r 0 (module_at g g.start).inputs) (output_items r 0 (module_at g g.start).outputs) k)
    go c (Expand i p ns) v y k =
        let q = in_map_from (edge_item g i p ns) t (production_at g p).edges k in
        let f = q.0.from in
        let out = (wf.bodies p y.in_range).edges_from q.0 q.1 in
        let l : f.position < length ns = subst (λ n. f.position < n) (sym y.one_each) (at_below out.0 f.position (body_of g p) out.1) in
        let n : IsIn (get_or ns f.position []) (names_of (named ns (body_of g p))) = subst (IsIn (get_or ns f.position [])) (sym (names-named ns (body_of g p) y.one_each)) (at_in (get_or ns f.position []) f.position ns (is_at f.position ns [] l)) in
        (get_or ns f.position [], get_or (module_at g (get_or (body_of g p) f.position 0)).outputs f.port [], ap (λ (z : Item). z.name) q.2, name_made g g.start (get_or ns f.position []) (Expand i p ns) a v n)

-- a name that is split at its first dot, where no instance has the name before it, names no item
pub no_instance_named : (g : Grammar) (t : Table) (i : Item) (owner port : List ℕ) → IsTableOf g t → IsWellFormed g → position (bytes_eq owner) (names_in t.instances) ≡ None → (IsIn 46 owner → ⊥) → IsIn i (items g g.start (events_of t)) → i.name ≡ dotted owner port → ⊥
no_instance_named g t i owner port run wf w d h e =
    let r = item_name g (events_of t) i wf run.accepted.0 h in
    let s = dotted_same r.0 r.1 owner port (no_dot r.0 (made_name g g.start [] (events_of t) r.0 run.accepted.0 r.3)) d (sym r.2 ∙ e) in
    none_passes (bytes_eq owner) (names_in t.instances) w owner (subst (IsIn owner) (same_names g t run) (subst (λ n. IsIn n (names_of (made g g.start (events_of t)))) s.0 r.3)) (bytes_same owner owner refl)

-- a name without a dot names no item
pub no_dot_named : (g : Grammar) (t : Table) (i : Item) (name : List ℕ) → IsTableOf g t → IsWellFormed g → position (λ (z : ℕ). z == 46) name ≡ None → IsIn i (items g g.start (events_of t)) → i.name ≡ name → ⊥
no_dot_named g t i name run wf w h e = let r = item_name g (events_of t) i wf run.accepted.0 h in not_dotted name r.0 r.1 w (sym r.2 ∙ e)

-- a name is that of an instance, a dot and the rest
pub split_found : (name : List ℕ) (names : List (List ℕ)) (dot k : ℕ) → position (λ (z : ℕ). z == 46) name ≡ Some dot → position (bytes_eq (take dot name)) names ≡ Some k → dotted (get_or names k []) (take (length name - (dot + 1)) (drop (dot + 1) name)) ≡ name
split_found name names dot k e f =
    let p = position-Some (bytes_eq (take dot name)) names k [] f in
    let l : length (drop (dot + 1) name) ≤ length name - (dot + 1) = omega (arith, length-drop (dot + 1) name) in
    ap (dotted (get_or names k [])) (take_all (length name - (dot + 1)) (drop (dot + 1) name) l)
    ∙ (ap (λ n. dotted n (drop (dot + 1) name)) (sym (same_bytes (take dot name) (get_or names k []) p.1)) ∙ sym (split_at name dot e).0)

module _ (g : Grammar) (t : Table) (run : IsTableOf g t) (wf : IsWellFormed g) (k : ℕ) (there : k < length t.instances) where
  abbrev x : Inst
  x = get_or t.instances k no_instance

  abbrev own : List ℕ
  own = get_or (names_in t.instances) k []

  own_name : own ≡ x.name
  own_name = get_or-map (λ (y : Inst). y.name) t.instances k no_instance [] there

  differ : AllDiffer (names_of (made g g.start (events_of t)))
  differ = run_differs g g.start (events_of t) run.accepted.0

  x_made : IsIn (instance_of x) (made g g.start (events_of t))
  x_made = subst (IsIn (instance_of x)) run.made (at_in (instance_of x) k (map instance_of t.instances) (at_map instance_of x k t.instances (is_at k t.instances no_instance there)))

  own_dotless : IsIn 46 own → ⊥
  own_dotless = no_dot own (made_name g g.start [] (events_of t) own run.accepted.0 (subst (λ n. IsIn n (names_of (made g g.start (events_of t)))) (sym own_name) (name_in (instance_of x) (made g g.start (events_of t)) x_made)))

  -- the module of an instance of this name
  own_module : (m : ℕ) → IsIn (record { name = own; module_no = m }) (made g g.start (events_of t)) → m ≡ x.module.0
  own_module m h = ap (λ (i : Instance). i.module_no) (one_of_name (made g g.start (events_of t)) differ (record { name = own; module_no = m }) (instance_of x) h x_made own_name)

  pub module_formed : IsWellFormedModule (module_at g x.module.0)
  module_formed = wf.modules (module_at g x.module.0) (at_in (module_at g x.module.0) x.module.0 g.modules (is_at x.module.0 g.modules (record { name = []; inputs = []; outputs = [] }) (module_there g t run wf k there)))

  -- the instance and its module, as they are read
  pub inst_read : (all : List Inst) (r : Inst) → all ≡ t.instances → get_or all k r ≡ x
  inst_read all r e = ap (λ l. get_or l k r) e ∙ get_or_default t.instances k r no_instance there

  pub module_low : (ms : List Module) (j : ℕ) → ms ≡ g.modules → j ≡ x.module.0 → j < length ms
  module_low ms j e h = subst (λ l. j < length l) (sym e) (subst (λ n. n < length g.modules) (sym h) (module_there g t run wf k there))

  pub module_read : (ms : List Module) (j : ℕ) (m : Module) → ms ≡ g.modules → j ≡ x.module.0 → m ≡ get_or ms j m → m ≡ module_at g x.module.0
  module_read ms j m e h i =
      get_or_read g.modules x.module.0 m (module_there g t run wf k there) (i ∙ (ap (λ l. get_or l j m) e ∙ ap (λ n. get_or g.modules n m) h)) (record { name = []; inputs = []; outputs = [] })

  -- the root
  module _ (root : x.parent ≡ None) where
    starts : IsIn (Start own) (events_of t)
    starts = let z : k ≡ 0 = MatchOption-at_none (k ≡ 0) (λ p. IsParentAt g t.instances p k) root (run.parents k x (is_at k t.instances no_instance there)) in first t.instances k z there
      where
        first : (xs : List Inst) (j : ℕ) → j ≡ 0 → j < length xs → IsIn (Start (get_or (names_in xs) j [])) (events_by (names_in xs) t.order)
        first [] j z h = absurd (omega arith)
        first (y ∷ xs) zero z h = inl refl
        first (y ∷ xs) (suc j) z h = absurd (omega arith)

    root_module : g.start ≡ x.module.0
    root_module = own_module g.start (in_flat_map (made_by g g.start) (Start own) (record { name = own; module_no = g.start }) (events_of t) starts (inl refl))

    pub root_found : (i : Item) → IsIn i (input_items own 0 (module_at g x.module.0).inputs ++ output_items own 0 (module_at g x.module.0).outputs) → IsIn i (items g g.start (events_of t))
    root_found i h = in_flat_map (items_by g g.start) (Start own) i (events_of t) starts (subst (λ m. IsIn i (input_items own 0 (module_at g m).inputs ++ output_items own 0 (module_at g m).outputs)) (sym root_module) h)

    pub root_none : (port : List ℕ) (i : Item) → (IsIn port ((module_at g x.module.0).inputs ++ (module_at g x.module.0).outputs) → ⊥) → IsIn i (items g g.start (events_of t)) → i.name ≡ dotted own port → ⊥
    root_none port i no_port h e = ⊎_elim start edge (named_so g (events_of t) i own port wf run.accepted.0 h own_dotless e)
      where
        start : IsOfStart g (events_of t) own port → ⊥
        start s = no_port (subst (λ m. IsIn port ((module_at g m).inputs ++ (module_at g m).outputs)) root_module s.named)

        edge : IsOfEdge g (events_of t) own port → ⊥
        edge s =
            let c = extends_before g g.start [] (events_of t) (Expand s.parent s.production s.names) run.accepted.0 s.event in
            let n : IsIn own (names_of (named s.names (body_of g s.production))) = subst (IsIn own) (sym (names-named s.names (body_of g s.production) c.1.one_each)) (at_in own s.edge.from.position s.names s.place) in
            let q : Start own ≡ Expand s.parent s.production s.names = made_once g g.start own (events_of t) differ (Start own) (Expand s.parent s.production s.names) starts s.event (inl refl) n in
            cc

  -- an instance below the root
  module _ (p : ℕ) (child : x.parent ≡ Some p) where
    abbrev y : Inst
    y = get_or t.instances p no_instance

    pub parent_at : IsParentAt g t.instances p k
    parent_at = MatchOption-at_some (k ≡ 0) (λ p. IsParentAt g t.instances p k) p child (run.parents k x (is_at k t.instances no_instance there))

    pub parent_there : p < length t.instances
    parent_there = let b : p < k = parent_at.before in let h = there in omega arith

    module _ (q : ProdNo) (opened : y.production ≡ Some q) where
      abbrev given : List (List ℕ)
      given = take (length (body_of g q.0)) (drop y.first_child (names_in t.instances))

      pub first_is : y.first_child ≤ k
      first_is = parent_at.first

      pub last_is : k < y.first_child + length (body_of g q.0)
      last_is =
          let s : Some parent_at.production ≡ Some q = sym parent_at.expanded ∙ opened in
          let e : parent_at.production ≡ q = cc in
          subst (λ (r : ProdNo). k < y.first_child + length (body_of g r.0)) e parent_at.last

      pub room_is : y.first_child + length (body_of g q.0) ≤ length t.instances
      room_is = run.children p y q (is_at p t.instances no_instance parent_there) opened

      gives : IsIn (Expand y.name q.0 given) (events_of t)
      gives =
          expanded_from (events_of t) y.name (record { production = q.0; names = given })
          (run.expanded p y (is_at p t.instances no_instance parent_there) ∙ ap (option_map {U = Expanded} (λ (r : ProdNo). record { production = r.0; names = take (length (body_of g r.0)) (drop y.first_child (names_in t.instances)) })) opened)

      can : (c : List Event) × CanExpand g g.start c y.name q.0 given
      can = extends_before g g.start [] (events_of t) (Expand y.name q.0 given) run.accepted.0 gives

      -- the names of the children, in the table
      child_name : (j : ℕ) → j < length (body_of g q.0) → get_or given j [] ≡ get_or (names_in t.instances) (y.first_child + j) []
      child_name j h = get_or-take (length (body_of g q.0)) (drop y.first_child (names_in t.instances)) j [] h ∙ get_or-drop y.first_child (names_in t.instances) j []

      low : k - y.first_child < length (body_of g q.0)
      low = let a = first_is in let b = last_is in omega arith

      own_given : get_or given (k - y.first_child) [] ≡ own
      own_given = let a = first_is in let e : y.first_child + (k - y.first_child) ≡ k = omega arith in child_name (k - y.first_child) low ∙ ap (λ z. get_or (names_in t.instances) z []) e

      own_place : IsAt own (k - y.first_child) given
      own_place = subst (λ z. IsAt z (k - y.first_child) given) own_given (is_at (k - y.first_child) given [] (subst (λ n. k - y.first_child < n) (sym can.1.one_each) low))

      own_body : get_or (body_of g q.0) (k - y.first_child) 0 ≡ x.module.0
      own_body =
          own_module (get_or (body_of g q.0) (k - y.first_child) 0)
          (in_flat_map (made_by g g.start) (Expand y.name q.0 given) (record { name = own; module_no = get_or (body_of g q.0) (k - y.first_child) 0 }) (events_of t) gives
          (named_at own (get_or (body_of g q.0) (k - y.first_child) 0) (k - y.first_child) given (body_of g q.0) own_place (is_at (k - y.first_child) (body_of g q.0) 0 low)))

      pub child_found : (o : ℕ) (port : List ℕ) (e : Edge) (i : ItemHeld) → IsIn e (production_at g q.0).edges → IsItemOfEdge p y.first_child k o e i → position (bytes_eq port) (module_at g x.module.0).outputs ≡ Some o →
          IsIn (named_item (names_in t.instances) (dotted own port) i) (items g g.start (events_of t))
      child_found o port e i h s w =
          subst (λ z. IsIn z (items g g.start (events_of t))) all
          (in_flat_map (items_by g g.start) (Expand y.name q.0 given) (edge_item g y.name q.0 given e) (events_of t) gives (in_map (edge_item g y.name q.0 given) e (production_at g q.0).edges h))
        where
          port_name : get_or (module_at g x.module.0).outputs o [] ≡ port
          port_name = let r = position-Some (bytes_eq port) (module_at g x.module.0).outputs o [] w in sym (same_bytes port (get_or (module_at g x.module.0).outputs o []) r.1)

          name_is : dotted (get_or given e.from.position []) (get_or (module_at g (get_or (body_of g q.0) e.from.position 0)).outputs e.from.port []) ≡ dotted own port
          name_is =
              ap (λ (j : Inner). dotted (get_or given j.position []) (get_or (module_at g (get_or (body_of g q.0) j.position 0)).outputs j.port [])) s.leaves
              ∙ (ap (λ z. dotted z (get_or (module_at g (get_or (body_of g q.0) (k - y.first_child) 0)).outputs o [])) own_given
              ∙ (ap (λ m. dotted own (get_or (module_at g m).outputs o [])) own_body ∙ ap (dotted own) port_name))

          maker_is : Some y.name ≡ option_map (λ j. get_or (names_in t.instances) j []) i.maker
          maker_is = sym (ap (option_map (λ j. get_or (names_in t.instances) j [])) s.maker ∙ ap Some (get_or-map (λ (z : Inst). z.name) t.instances p no_instance [] parent_there))

          from_is : Some (output (get_or given e.from.position []) e.from.port) ≡ option_map (named_port (names_in t.instances)) i.from
          from_is =
              ap (λ (j : Inner). some_output (get_or given j.position []) j.port) s.leaves
              ∙ (ap (λ z. some_output z o) own_given ∙ sym (ap (option_map (named_port (names_in t.instances))) s.from))

          to_low : e.to.position < length (body_of g q.0)
          to_low = let r = (wf.bodies q.0 can.1.in_range).edges_to e h in at_below r.0 e.to.position (body_of g q.0) r.1

          to_is : Some (input (get_or given e.to.position []) e.to.port) ≡ option_map (named_port (names_in t.instances)) i.to
          to_is = ap (λ z. some_input z e.to.port) (child_name e.to.position to_low) ∙ sym (ap (option_map (named_port (names_in t.instances))) s.to)

          all : edge_item g y.name q.0 given e ≡ named_item (names_in t.instances) (dotted own port) i
          all = λ z. record { name = name_is z; maker = maker_is z; produced = from_is z; consumed = to_is z }

      pub child_within : (o : ℕ) (e : Edge) (i : ItemHeld) → IsIn e (production_at g q.0).edges → IsItemOfEdge p y.first_child k o e i → IsItemWithin (length t.instances) i
      child_within o e i h s =
          let r = (wf.bodies q.0 can.1.in_range).edges_to e h in
          let l : e.to.position < length (body_of g q.0) = at_below r.0 e.to.position (body_of g q.0) r.1 in
          let m = room_is in
          let b : y.first_child + e.to.position < length t.instances = omega arith in
          record {
            maker = subst (λ (z : Option ℕ). IfSome z (λ j. j < length t.instances)) (sym s.maker) parent_there;
            from = subst (λ (z : Option PortHeld). IfSome z (λ j. j.instance < length t.instances)) (sym s.from) there;
            to = subst (λ (z : Option PortHeld). IfSome z (λ j. j.instance < length t.instances)) (sym s.to) b;
          }

      -- an item that is named by an output of the instance is that of an edge which leaves it
      child_edge : (port : List ℕ) (i : Item) → IsIn i (items g g.start (events_of t)) → i.name ≡ dotted own port →
          (e : Edge) × IsIn e (production_at g q.0).edges × (e.from.position ≡ k - y.first_child) × IsAt port e.from.port (module_at g x.module.0).outputs
      child_edge port i h e = ⊎_elim start edge (named_so g (events_of t) i own port wf run.accepted.0 h own_dotless e)
        where
          given_own : IsIn own (names_of (named given (body_of g q.0)))
          given_own = subst (IsIn own) (sym (names-named given (body_of g q.0) can.1.one_each)) (at_in own (k - y.first_child) given own_place)

          start : IsOfStart g (events_of t) own port → (e : Edge) × IsIn e (production_at g q.0).edges × (e.from.position ≡ k - y.first_child) × IsAt port e.from.port (module_at g x.module.0).outputs
          start s = let d : Start own ≡ Expand y.name q.0 given = made_once g g.start own (events_of t) differ (Start own) (Expand y.name q.0 given) s.event gives (inl refl) given_own in absurd (cc)

          edge : IsOfEdge g (events_of t) own port → (e : Edge) × IsIn e (production_at g q.0).edges × (e.from.position ≡ k - y.first_child) × IsAt port e.from.port (module_at g x.module.0).outputs
          edge s =
              let c = extends_before g g.start [] (events_of t) (Expand s.parent s.production s.names) run.accepted.0 s.event in
              let n : IsIn own (names_of (named s.names (body_of g s.production))) = subst (IsIn own) (sym (names-named s.names (body_of g s.production) c.1.one_each)) (at_in own s.edge.from.position s.names s.place) in
              let d : Expand s.parent s.production s.names ≡ Expand y.name q.0 given = made_once g g.start own (events_of t) differ (Expand s.parent s.production s.names) (Expand y.name q.0 given) s.event gives n given_own in
              let a : s.production ≡ q.0 = cc in
              let b : s.names ≡ given = cc in
              let f = s.edge.from in
              let at : f.position ≡ k - y.first_child = differ_at own f.position (k - y.first_child) given can.1.differ (subst (λ l. IsAt own f.position l) b s.place) own_place in
              let inside : IsIn s.edge (production_at g q.0).edges = subst (λ z. IsIn s.edge (production_at g z).edges) a s.inside in
              let out : IsInnerOutput g q.0 f = (wf.bodies q.0 can.1.in_range).edges_from s.edge inside in
              let m : out.0 ≡ x.module.0 = sym (at_is out.0 f.position (body_of g q.0) 0 out.1) ∙ (ap (λ z. get_or (body_of g q.0) z 0) at ∙ own_body) in
              let l : f.port < length (module_at g x.module.0).outputs = subst (λ z. f.port < outputs_of g z) m out.2 in
              let name : port ≡ get_or (module_at g x.module.0).outputs f.port [] =
              s.named ∙ (ap (λ z. get_or (module_at g (get_or (body_of g z) f.position 0)).outputs f.port []) a ∙ (ap (λ z. get_or (module_at g (get_or (body_of g q.0) z 0)).outputs f.port []) at ∙ ap (λ z. get_or (module_at g z).outputs f.port []) own_body)) in
              (s.edge, inside, at, subst (λ z. IsAt z f.port (module_at g x.module.0).outputs) (sym name) (is_at f.port (module_at g x.module.0).outputs [] l))

      -- no item is named by a port that is no output
      pub no_output : (port : List ℕ) (i : Item) → position (bytes_eq port) (module_at g x.module.0).outputs ≡ None → IsIn i (items g g.start (events_of t)) → i.name ≡ dotted own port → ⊥
      no_output port i w h e = let r = child_edge port i h e in none_passes (bytes_eq port) (module_at g x.module.0).outputs w port (at_in port r.0.from.port (module_at g x.module.0).outputs r.3) (bytes_same port port refl)

      -- no item is named by an output that no edge leaves
      pub no_edge : (port : List ℕ) (o : ℕ) (i : Item) → position (bytes_eq port) (module_at g x.module.0).outputs ≡ Some o → ((e : Edge) → IsIn e (production_at g q.0).edges → e.from ≡ record { position = k - y.first_child; port = o } → ⊥) →
          IsIn i (items g g.start (events_of t)) → i.name ≡ dotted own port → ⊥
      no_edge port o i w lacks h e =
          let outputs = (module_at g x.module.0).outputs in
          let r = child_edge port i h e in
          let v = position-Some (bytes_eq port) outputs o [] w in
          let at : IsAt port o outputs = subst (λ z. IsAt z o outputs) (sym (same_bytes port (get_or outputs o []) v.1)) (is_at o outputs [] v.0) in
          let same : r.0.from.port ≡ o = differ_at port r.0.from.port o outputs (differ_right (module_at g x.module.0).inputs outputs (ports_differ g wf x.module.0)) r.3 at in
          lacks r.0 r.1 (λ z. record { position = r.2 z; port = same z })

-- what holds of a value that may be there, and what follows from it
pub if_some : {A : Type 0} (o : Option A) (P Q : A → Type 0) → ((i : A) → P i → Q i) → IfSome o P → IfSome o Q
if_some None P Q f h = h
if_some (Some i) P Q f h = f i h

-- the answer for an output of an instance below the root, where the parent was read from the table
module _ (g : Grammar) (t : Table) (run : IsTableOf g t) (wf : IsWellFormed g) (k : ℕ) (there : k < length t.instances) (p : ℕ) (child : (get_or t.instances k no_instance).parent ≡ Some p) (y : Inst) (read : y ≡ get_or t.instances p no_instance) (q : ProdNo) (opened : y.production ≡ Some q) (o : ℕ) (port : List ℕ) (named_o : Some o ≡ position (bytes_eq port) (module_at g (get_or t.instances k no_instance).module.0).outputs) (r : Option ItemHeld) where
  abbrev parent_opened : (get_or t.instances p no_instance).production ≡ Some q
  parent_opened = ap (λ (z : Inst). z.production) (sym read) ∙ opened

  abbrev IsFound : ItemHeld → Type 0
  IsFound i = (e : Edge) × IsIn e (production_at g q.0).edges × IsItemOfEdge p y.first_child k o e i

  of_table : (e : Edge) (i : ItemHeld) → IsItemOfEdge p y.first_child k o e i → IsItemOfEdge p (get_or t.instances p no_instance).first_child k o e i
  of_table e i h = subst (λ (z : Inst). IsItemOfEdge p z.first_child k o e i) read h

  pub answer_found : IfSome r IsFound → IfSome r (λ i. IsIn (named_item (names_in t.instances) (dotted (get_or (names_in t.instances) k []) port) i) (items g g.start (events_of t)))
  answer_found h =
      if_some r IsFound (λ i. IsIn (named_item (names_in t.instances) (dotted (get_or (names_in t.instances) k []) port) i) (items g g.start (events_of t)))
      (λ i f. child_found g t run wf k there p child q parent_opened o port f.0 i f.1 (of_table f.0 i f.2) (sym named_o)) h

  pub answer_within : IfSome r IsFound → IfSome r (λ i. IsItemWithin (length t.instances) i)
  answer_within h = if_some r IsFound (λ i. IsItemWithin (length t.instances) i) (λ i f. child_within g t run wf k there p child q parent_opened o f.0 i f.1 (of_table f.0 i f.2)) h

  pub answer_none : ((e : Edge) → IsIn e (production_at g q.0).edges → e.from ≡ record { position = k - y.first_child; port = o } → ⊥) →
      (i : Item) → IsIn i (items g g.start (events_of t)) → i.name ≡ dotted (get_or (names_in t.instances) k []) port → ⊥
  answer_none lacks i h e =
      no_edge g t run wf k there p child q parent_opened port o i (sym named_o)
      (λ a b s. lacks a b (subst (λ (z : Inst). a.from ≡ record { position = k - z.first_child; port = o }) (sym read) s)) h e

  pub starts_low : y.first_child ≤ k
  starts_low = subst (λ (z : Inst). z.first_child ≤ k) (sym read) (first_is g t run wf k there p child q parent_opened)

  pub ends_high : k < y.first_child + length (body_of g q.0)
  ends_high = subst (λ (z : Inst). k < z.first_child + length (body_of g q.0)) (sym read) (last_is g t run wf k there p child q parent_opened)

  pub has_room : y.first_child + length (body_of g q.0) ≤ length t.instances
  has_room = subst (λ (z : Inst). z.first_child + length (body_of g q.0) ≤ length t.instances) (sym read) (room_is g t run wf k there p child q parent_opened)

  pub in_productions : q.0 < length g.productions
  in_productions = production_there g t run wf p (parent_there g t run wf k there p child) q parent_opened
