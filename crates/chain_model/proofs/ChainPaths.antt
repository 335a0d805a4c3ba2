-- A path in a run is cut into the steps of a chain at the edges that it takes, and the steps of a chain make a path.
use Rattle.std.proofs.Common.{◌≡◌, ℕ, suc, ◌<◌, Bool, true, false, cond, IsTrue, List, [], ◌∷◌, get_or, Option, Some, None, refl, sym, ap, ◌∙◌, subst, inl, inr, ⊎_elim}
use Rattle.std.proofs.lemmas.Option.{same_Some}
use Rattle.wf_model.specs.Lists.{IsIn, Walk, here, onward}
use Rattle.wf_model.specs.Grammar.{Grammar, Assignment, production_at, module_at, inputs_of, outputs_of}
use Rattle.wf_model.specs.declared.numbers.Side.TheVariants.{Input, Output}
use Rattle.wf_model.specs.View.{View, expands, shows}
use Rattle.wf_model.specs.declared.event.Event.{Event}
use Rattle.wf_model.specs.declared.event.Event.TheVariants.{Start, Expand}
use Rattle.wf_model.specs.Run.{Instance, expanded_by, IsRun, IsOpen, seen_in}
use Rattle.wf_model.specs.Links.{Port, Link, input, output, edge_link, instance_at, move_link, links_with, IsLinked}
use Rattle.wf_model.specs.Items.{Item, input_items, output_items, edge_item, items_by, items, IsVisible}
use Rattle.wf_model.proofs.Lists.{in_append_cases, in_map, in_map_from, in_flat_map, in_flat_map_from}
use Rattle.wf_model.proofs.Walks.{walk-append, walk_one}
use Rattle.wf_model.proofs.Level.{in_entry_links, in_exit_links}
use Rattle.wf_model.proofs.Open.{visible_law}
use Rattle.wf_model.proofs.Expanding.{expanded_from}
use Rattle.wf_laws.proofs.Safe.{walk_same}
use Rattle.label_model.proofs.TakenEvents.{expansion_of}
use Rattle.chain_model.specs.Chains.{unopened_pairs, IsOfOpen, IsEntry, IsExit, LeadsThrough, LeadsOn, HasItemChain}
use Rattle.chain_model.proofs.OpenLinks.{edges_in, IsOfUnopened, wiring_cases, edge_wired, entry_wired, exit_wired, link_cases, open_linked, unopened_linked}

abbrev Ports : Type 0
Ports = Port (List ℕ)

apart : {A : Type 0} → Input ≡ Output → A
apart e = absurd (cc)

none_some : {A B : Type 0} (o : Option A) (x : A) → o ≡ None → o ≡ Some x → B
none_some o x a b = let z = sym a ∙ b in absurd (cc)

-- an item of the root's ports is not produced, or not consumed
input_unmade : (t : Item) (r : List ℕ) (k : ℕ) (ns : List (List ℕ)) → IsIn t (input_items r k ns) → t.produced ≡ None
input_unmade t r k [] h = absurd h
input_unmade t r k (n ∷ ns) (inl e) = ap (λ (s : Item). s.produced) e
input_unmade t r k (n ∷ ns) (inr h) = input_unmade t r (suc k) ns h

output_unused : (t : Item) (r : List ℕ) (k : ℕ) (ns : List (List ℕ)) → IsIn t (output_items r k ns) → t.consumed ≡ None
output_unused t r k [] h = absurd h
output_unused t r k (n ∷ ns) (inl e) = ap (λ (s : Item). s.consumed) e
output_unused t r k (n ∷ ns) (inr h) = output_unused t r (suc k) ns h

module _ (g : Grammar) (u : View) (m : ℕ) (events : List Event) where
  edge_sides : (x y : Ports) → IsOfOpen g u m events (edges_in g) x y → (x.side ≡ Output) × (y.side ≡ Input)
  edge_sides x y h =
      let k = in_map_from edge_link h.inner (production_at g h.by.production).edges h.in_body in
      (ap (λ (l : Link (List ℕ)). l.from.side) h.is ∙ ap (λ (l : Link (Option ℕ)). l.from.side) k.2, ap (λ (l : Link (List ℕ)). l.to.side) h.is ∙ ap (λ (l : Link (Option ℕ)). l.to.side) k.2)

  entry_sides : (x y : Ports) → IsEntry g u m events x y → (x.side ≡ Input) × (y.side ≡ Input)
  entry_sides x y h =
      let k = in_entry_links h.inner 0 (production_at g h.by.production).entries h.in_body in
      (ap (λ (l : Link (List ℕ)). l.from.side) h.is ∙ ap (λ (l : Link (Option ℕ)). l.from.side) k.4, ap (λ (l : Link (List ℕ)). l.to.side) h.is ∙ ap (λ (l : Link (Option ℕ)). l.to.side) k.4)

  exit_sides : (x y : Ports) → IsExit g u m events x y → (x.side ≡ Output) × (y.side ≡ Output)
  exit_sides x y h =
      let k = in_exit_links h.inner 0 (production_at g h.by.production).exits h.in_body in
      (ap (λ (l : Link (List ℕ)). l.from.side) h.is ∙ ap (λ (l : Link (Option ℕ)). l.from.side) k.4, ap (λ (l : Link (List ℕ)). l.to.side) h.is ∙ ap (λ (l : Link (Option ℕ)). l.to.side) k.4)

  -- an edge of an open instance is a visible item
  record IsItemAt (p q : Ports) : Type 0 where
    item : Item
    there : IsIn item (items g m events)
    visible : IsVisible g u m events item
    produced : item.produced ≡ Some p
    consumed : item.consumed ≡ Some q

  item_at : (p q : Ports) → IsOfOpen g u m events (edges_in g) p q → IsItemAt p q
  item_at p q w =
      let k = in_map_from edge_link w.inner (production_at g w.by.production).edges w.in_body in
      let t = edge_item g w.owner.name w.by.production w.by.names k.0 in
      let same : ◌≡◌ {A = Link (List ℕ)} (record { from = p; to = q }) (move_link (instance_at w.owner.name w.by.names) (edge_link k.0)) = w.is ∙ ap (move_link (instance_at w.owner.name w.by.names)) k.2 in
      let there : IsIn t (items g m events) = in_flat_map (items_by g m) (Expand w.owner.name w.by.production w.by.names) t events (expanded_from events w.owner.name w.by w.told)
      (in_map (edge_item g w.owner.name w.by.production w.by.names) k.0 (production_at g w.by.production).edges k.1) in
      record {
        item = t;
        there = there;
        visible = (visible_law g u m events t there).1 (inr (w.owner, w.is_open, refl));
        produced = ap (λ (l : Link (List ℕ)). Some l.from) (sym same);
        consumed = ap (λ (l : Link (List ℕ)). Some l.to) (sym same);
      }

  -- and a visible item that is produced and consumed is an edge of an open instance
  edge_of : IsRun g m events → (t : Item) (p q : Ports) → IsIn t (items g m events) → IsVisible g u m events t → t.produced ≡ Some p → t.consumed ≡ Some q → IsOfOpen g u m events (edges_in g) p q
  edge_of run t p q h visible ep eq = let r = in_flat_map_from (items_by g m) t events h in by_event r.0 r.1 r.2
    where
      by_event : (x : Event) → IsIn x events → IsIn t (items_by g m x) → IsOfOpen g u m events (edges_in g) p q
      by_event (Start r) hx z =
          ⊎_elim (λ a. none_some t.produced p (input_unmade t r 0 (module_at g m).inputs a) ep) (λ a. none_some t.consumed q (output_unused t r 0 (module_at g m).outputs a) eq)
          (in_append_cases t (input_items r 0 (module_at g m).inputs) (output_items r 0 (module_at g m).outputs) z)
      by_event (Expand i p2 names) hx z =
          let k = in_map_from (edge_item g i p2 names) t (production_at g p2).edges z in
          let maker : t.maker ≡ Some i = ap (λ (s : Item). s.maker) k.2 in
          ⊎_elim (λ none. none_some t.maker i none maker)
          (λ o.
          let name : i ≡ o.0.name = same_Some i o.0.name (sym maker ∙ o.2) in
          record {
            owner = o.0;
            is_open = o.1;
            by = record { production = p2; names = names };
            told = ap (expanded_by events) (sym name) ∙ (expansion_of g m events run i p2 names hx).told;
            inner = edge_link k.0;
            in_body = in_map edge_link k.0 (production_at g p2).edges k.1;
            is = λ t'. record { from = same_Some p (output (get_or names k.0.from.position []) k.0.from.port) (sym ep ∙ ap (λ (w : Item). w.produced) k.2) t'; to = same_Some q (input (get_or names k.0.to.position []) k.0.to.port) (sym eq ∙ ap (λ (w : Item). w.consumed) k.2) t' };
          })
          ((visible_law g u m events t h).0 visible)

  module _ (d : Assignment) (run : IsRun g m events)
      (known : (n : Instance) → IsIn n (seen_in g u m events) → expands u n.module_no ≡ false → (i o : ℕ) → i < inputs_of g n.module_no → o < outputs_of g n.module_no → d n.module_no i o ≡ shows u n.module_no i o) where
    abbrev Linked : Ports → Ports → Type 0
    Linked = IsLinked (links_with g u d m events)

    -- the pairs of what is not open are those of the full assignment
    pairs_known : (n : Instance) → IsIn n (seen_in g u m events) → (i o : ℕ) → i < inputs_of g n.module_no → o < outputs_of g n.module_no → unopened_pairs u d n.module_no i o ≡ d n.module_no i o
    pairs_known n s i o hi ho = go (expands u n.module_no) refl
      where
        go : (b : Bool) → expands u n.module_no ≡ b → cond (expands u n.module_no) (d n.module_no i o) (shows u n.module_no i o) ≡ d n.module_no i o
        go true ex = ap (λ b. cond b (d n.module_no i o) (shows u n.module_no i o)) ex
        go false ex = ap (λ b. cond b (d n.module_no i o) (shows u n.module_no i o)) ex ∙ sym (known n s ex i o hi ho)

    -- from where x is consumed to an output of an instance that is not open
    record IsBegun (x : Item) : Type 0 where
      n : Instance
      seen : IsIn n (seen_in g u m events)
      not_open : ¬ IsOpen g u m events n
      from : Ports
      i : ℕ
      o : ℕ
      consumed : x.consumed ≡ Some from
      entries : Walk (IsEntry g u m events) from (input n.name i)
      input_there : i < inputs_of g n.module_no
      output_there : o < outputs_of g n.module_no
      pair : IsTrue (unopened_pairs u d n.module_no i o)

    ended : (x y : Item) (b : IsBegun x) (q : Ports) → y.produced ≡ Some q → Walk (IsExit g u m events) (output b.n.name b.o) q → LeadsThrough g u d m events x b.n y
    ended x y b q eq w = record {
      seen = b.seen;
      not_open = b.not_open;
      from = b.from;
      to = q;
      i = b.i;
      o = b.o;
      consumed = b.consumed;
      entries = b.entries;
      input_there = b.input_there;
      output_there = b.output_there;
      pair = b.pair;
      exits = w;
      produced = eq;
    }

    module _ (y : Item) (q' : Ports) (made : y.produced ≡ Some q') (out : q'.side ≡ Output) (there : IsIn y (items g m events)) (visible : IsVisible g u m events y) where
      mutual
        -- at an input, to which entries have led from where x is consumed
        enter : {p q : Ports} → Walk Linked p q → q ≡ q' → (x : Item) (c : Ports) → x.consumed ≡ Some c → Walk (IsEntry g u m events) c p → p.side ≡ Input → HasItemChain g u d m events x y
        enter here e x c ec w sp = apart (sym sp ∙ (ap (λ (z : Ports). z.side) e ∙ out))
        enter (onward {x = p} {y = r} l v) e x c ec w sp =
            ⊎_elim
            (λ a. ⊎_elim (λ k. apart (sym sp ∙ (edge_sides p r k).0))
            (λ k. ⊎_elim (λ s. enter v e x c ec (walk-append w (walk_one s)) (entry_sides p r s).1) (λ s. apart (sym sp ∙ (exit_sides p r s).0)) k)
            (wiring_cases g u m events p r a))
            (λ a.
            let ep : p ≡ input a.owner.name a.i = ap (λ (z : Link (List ℕ)). z.from) a.is in
            let er : r ≡ output a.owner.name a.o = ap (λ (z : Link (List ℕ)). z.to) a.is in
            leave v e x
            (record {
              n = a.owner;
              seen = a.seen;
              not_open = a.not_open;
              from = c;
              i = a.i;
              o = a.o;
              consumed = ec;
              entries = subst (Walk (IsEntry g u m events) c) ep w;
              input_there = a.input_there;
              output_there = a.output_there;
              pair = pairs_known a.owner a.seen a.i a.o a.input_there a.output_there ∙ a.pair;
            })
            (subst (Walk (IsExit g u m events) (output a.owner.name a.o)) (sym er) here) (ap (λ (z : Ports). z.side) er))
            (link_cases g u m events d p r l)

        -- at an output, to which exits have led from an instance that is not open
        leave : {p q : Ports} → Walk Linked p q → q ≡ q' → (x : Item) (b : IsBegun x) → Walk (IsExit g u m events) (output b.n.name b.o) p → p.side ≡ Output → HasItemChain g u d m events x y
        leave {p} here e x b w sp = (y, (b.n, record { there = there; visible = visible; through = ended x y b p (made ∙ ap Some (sym e)) w }), here)
        leave (onward {x = p} {y = r} l v) e x b w sp =
            ⊎_elim
            (λ a. ⊎_elim
            (λ k.
            let t = item_at p r k in
            let rest = enter v e t.item r t.consumed here (edge_sides p r k).1 in
            (t.item, (b.n, record { there = t.there; visible = t.visible; through = ended x t.item b p t.produced w }), onward rest.1 rest.2))
            (λ k. ⊎_elim (λ s. apart (sym (entry_sides p r s).0 ∙ sp)) (λ s. leave v e x b (walk-append w (walk_one s)) (exit_sides p r s).1) k)
            (wiring_cases g u m events p r a))
            (λ a. apart (sym (ap (λ (z : Link (List ℕ)). z.from.side) a.is) ∙ sp))
            (link_cases g u m events d p r l)

    -- a path from where x is consumed to where y is produced gives a chain
    pub chain_of_path : (x y : Item) (p q : Ports) → IsIn y (items g m events) → IsVisible g u m events y → x.consumed ≡ Some p → p.side ≡ Input → y.produced ≡ Some q → q.side ≡ Output → Walk Linked p q → HasItemChain g u d m events x y
    chain_of_path x y p q there visible ep sp eq sq w = enter y q eq sq there visible w refl x p ep here sp

    through_path : (x y : Item) (n : Instance) (t : LeadsThrough g u d m events x n y) → Walk Linked t.from t.to
    through_path x y n t =
        let pair : IsOfUnopened g u d m events (input n.name t.i) (output n.name t.o) = record {
          owner = n;
          seen = t.seen;
          not_open = t.not_open;
          i = t.i;
          o = t.o;
          input_there = t.input_there;
          output_there = t.output_there;
          pair = sym (pairs_known n t.seen t.i t.o t.input_there t.output_there) ∙ t.pair;
          is = refl;
        } in
        walk-append (walk_same (λ a b s. open_linked g u m events d a b (entry_wired g u m events a b s)) t.entries)
        (walk-append (walk_one (unopened_linked g u m events d (input n.name t.i) (output n.name t.o) pair)) (walk_same (λ a b s. open_linked g u m events d a b (exit_wired g u m events a b s)) t.exits))

    begun_at : (x y : Item) (n : Instance) (t : LeadsThrough g u d m events x n y) (p : Ports) → x.consumed ≡ Some p → Walk Linked p t.to
    begun_at x y n t p ep = subst (λ z. Walk Linked z t.to) (same_Some t.from p (sym t.consumed ∙ ep)) (through_path x y n t)

    steps_path : {t y : Item} → Walk (LeadsOn g u d m events) t y → (x : Item) → LeadsOn g u d m events x t → (p q : Ports) → x.consumed ≡ Some p → y.produced ≡ Some q → Walk Linked p q
    steps_path {t} here x s p q ep eq = subst (Walk Linked p) (same_Some s.1.through.to q (sym s.1.through.produced ∙ eq)) (begun_at x t s.0 s.1.through p ep)
    steps_path (onward {x = t} {y = z} r w) x s p q ep eq =
        let a = s.1.through in
        let b = r.1.through in
        let k = edge_of run t a.to b.from s.1.there s.1.visible a.produced b.consumed in
        walk-append (begun_at x t s.0 a p ep) (onward (open_linked g u m events d a.to b.from (edge_wired g u m events a.to b.from k)) (steps_path w t r b.from q b.consumed eq))

    -- and a chain gives such a path
    pub path_of_chain : (x y : Item) → HasItemChain g u d m events x y → (p q : Ports) → x.consumed ≡ Some p → y.produced ≡ Some q → Walk Linked p q
    path_of_chain x y c p q ep eq = steps_path c.2 x c.1 p q ep eq

  -- the first item of a chain is consumed, and the last is produced
  pub chain_consumed : (d : Assignment) (x y : Item) → HasItemChain g u d m events x y → (p : Ports) × (x.consumed ≡ Some p)
  chain_consumed d x y c = (c.1.1.through.from, c.1.1.through.consumed)

  pub chain_produced : (d : Assignment) (x y : Item) → HasItemChain g u d m events x y → (q : Ports) × (y.produced ≡ Some q)
  chain_produced d x y c = last c.2 x c.1
    where
      last : {t y : Item} → Walk (LeadsOn g u d m events) t y → (x : Item) → LeadsOn g u d m events x t → (q : Ports) × (y.produced ≡ Some q)
      last here x s = (s.1.through.to, s.1.through.produced)
      last (onward {x = t} {y = z} r w) x s = last w t r
