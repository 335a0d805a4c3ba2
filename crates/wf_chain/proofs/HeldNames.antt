-- A held item of a run has the name of the item that it is.
use Rattle.std.proofs.Common.{◌≡◌, ℕ, suc, ◌+◌, ◌<◌, List, [], ◌∷◌, length, get_or, Option, Some, None, refl, sym, ap, subst, ◌∙◌, inl, inr, ⊎_elim, arith}
use Rattle.std.specs.Prelude.{option_map, IfSome}
use Rattle.std.proofs.lemmas.Option.{same_Some}
use Rattle.wf_model.specs.declared.event.Event.{Event}
use Rattle.wf_model.specs.declared.event.Event.TheVariants.{Start, Expand}
use Rattle.wf_model.specs.Lists.{IsIn, IsAt}
use Rattle.wf_model.specs.Grammar.{Grammar, module_at, production_at, body_of}
use Rattle.wf_model.specs.WellFormed.{IsWellFormed}
use Rattle.wf_model.specs.Run.{Instance, made, made_by, named, Extends}
use Rattle.wf_model.specs.Links.{Port, input, output}
use Rattle.wf_model.specs.Items.{Item, dotted, items, items_by, input_items, output_items, edge_item}
use Rattle.wf_model.proofs.Lists.{in_append_cases, in_map_from, in_flat_map, in_flat_map_from, at_is, is_at, at_below}
use Rattle.wf_model.proofs.Runs.{named_at}
use Rattle.wf_model.proofs.ItemNames.{extends_before}
use Rattle.wf_flat.specs.declared.graph.Port.{Port as PortHeld}
use Rattle.wf_flat.specs.declared.item.Item.{Item as ItemHeld}
use Rattle.wf_flat.specs.Table.{Table, IsTableOf, names_in, no_instance, events_of}
use Rattle.wf_flat.specs.Graph.{named_port}
use Rattle.wf_flat.specs.Item.{named_item, IsItemWithin, IsItemNamed}
use Rattle.wf_chain.specs.HeldItems.{side_names, port_name, name_by, item_name, IsHeldItem}
use Rattle.wf_chain.proofs.Opening.{made_is}

-- a port of the root that is an item
record IsRootPort (r : List ℕ) (k : ℕ) (ns : List (List ℕ)) (t : Item) (from to : ℕ → Option (Port (List ℕ))) : Type 0 where
  place : ℕ
  port : List ℕ
  number : ℕ
  number_is : number ≡ k + place
  at : IsAt port place ns
  name : t.name ≡ dotted r port
  produced : t.produced ≡ from number
  consumed : t.consumed ≡ to number

input_at : (t : Item) (r : List ℕ) (k : ℕ) (ns : List (List ℕ)) → IsIn t (input_items r k ns) → IsRootPort r k ns t (λ n. None) (λ n. Some (input r n))
input_at t r k [] h = absurd h
input_at t r k (n ∷ ns) (inl e) = record {
  place = 0;
  port = n;
  number = k;
  number_is = omega arith;
  at = refl;
  name = ap (λ (z : Item). z.name) e;
  produced = ap (λ (z : Item). z.produced) e;
  consumed = ap (λ (z : Item). z.consumed) e;
}
input_at t r k (n ∷ ns) (inr h) =
    let q = input_at t r (suc k) ns h in
    let e : q.number ≡ suc k + q.place = q.number_is in
    record { place = suc q.place; port = q.port; number = q.number; number_is = omega arith; at = q.at; name = q.name; produced = q.produced; consumed = q.consumed }

output_at : (t : Item) (r : List ℕ) (k : ℕ) (ns : List (List ℕ)) → IsIn t (output_items r k ns) → IsRootPort r k ns t (λ n. Some (output r n)) (λ n. None)
output_at t r k [] h = absurd h
output_at t r k (n ∷ ns) (inl e) = record {
  place = 0;
  port = n;
  number = k;
  number_is = omega arith;
  at = refl;
  name = ap (λ (z : Item). z.name) e;
  produced = ap (λ (z : Item). z.produced) e;
  consumed = ap (λ (z : Item). z.consumed) e;
}
output_at t r k (n ∷ ns) (inr h) =
    let q = output_at t r (suc k) ns h in
    let e : q.number ≡ suc k + q.place = q.number_is in
    record { place = suc q.place; port = q.port; number = q.number; number_is = omega arith; at = q.at; name = q.name; produced = q.produced; consumed = q.consumed }

-- the held port that a named one comes from
held_some : (names : List (List ℕ)) (o : Option PortHeld) (q : Port (List ℕ)) → option_map (named_port names) o ≡ Some q → (p : PortHeld) × (o ≡ Some p) × (named_port names p ≡ q)
held_some names None q e = absurd (cc)
held_some names (Some p) q e = (p, refl, same_Some (named_port names p) q e)

held_none : (names : List (List ℕ)) (o : Option PortHeld) → option_map (named_port names) o ≡ None → o ≡ None
held_none names None e = refl
held_none names (Some p) e = absurd (cc)

module _ (g : Grammar) (t : Table) (run : IsTableOf g t) (wf : IsWellFormed g) where
  abbrev names : List (List ℕ)
  names = names_in t.instances

  -- the name of a held port, whose instance was made with this module
  port_told : (p : PortHeld) → p.instance < length t.instances → (q : Port (List ℕ)) → named_port names p ≡ q → (m : ℕ) → IsIn (record { name = q.owner; module_no = m }) (made g g.start (events_of t)) →
      port_name g t p ≡ dotted q.owner (get_or (side_names q.side (module_at g m)) q.number [])
  port_told p there q e m h =
      let owner : get_or names p.instance [] ≡ q.owner = ap (λ (z : Port (List ℕ)). z.owner) e in
      let module_is : (get_or t.instances p.instance no_instance).module.0 ≡ m = sym (ap (λ (z : Instance). z.module_no) (made_is g t run p.instance there (record { name = q.owner; module_no = m }) h (sym owner))) in
      λ z. dotted (owner z) (get_or (side_names (e z).side (module_at g (module_is z))) (e z).number [])

  module _ (i : ItemHeld) (name : List ℕ) (within : IsItemWithin (length t.instances) i) where
    abbrev x : Item
    x = named_item names name i

    within_of : (o : Option PortHeld) (p : PortHeld) → o ≡ Some p → IfSome o (λ z. z.instance < length t.instances) → p.instance < length t.instances
    within_of o p e w = subst (λ (z : Option PortHeld). IfSome z (λ y. y.instance < length t.instances)) e w

    by_start : (r : List ℕ) → IsIn (Start r) (events_of t) → IsIn x (items_by g g.start (Start r)) → item_name g t i ≡ name
    by_start r ev h = ⊎_elim of_input of_output (in_append_cases x (input_items r 0 (module_at g g.start).inputs) (output_items r 0 (module_at g g.start).outputs) h)
      where
        root : IsIn (record { name = r; module_no = g.start }) (made g g.start (events_of t))
        root = in_flat_map (made_by g g.start) (Start r) (record { name = r; module_no = g.start }) (events_of t) ev (inl refl)

        of_input : IsIn x (input_items r 0 (module_at g g.start).inputs) → item_name g t i ≡ name
        of_input a =
            let q = input_at x r 0 (module_at g g.start).inputs a in
            let p = held_some names i.to (input r q.number) q.consumed in
            let n : q.number ≡ q.place = let e : q.number ≡ 0 + q.place = q.number_is in omega arith in
            ap (λ o. name_by g t o i.to) (held_none names i.from q.produced) ∙ (ap (name_by g t None) p.1
            ∙ (port_told p.0 (within_of i.to p.0 p.1 within.to) (input r q.number) p.2 g.start root
            ∙ (ap (λ k. dotted r (get_or (module_at g g.start).inputs k [])) n ∙ (ap (dotted r) (at_is q.port q.place (module_at g g.start).inputs [] q.at) ∙ sym q.name))))

        of_output : IsIn x (output_items r 0 (module_at g g.start).outputs) → item_name g t i ≡ name
        of_output a =
            let q = output_at x r 0 (module_at g g.start).outputs a in
            let p = held_some names i.from (output r q.number) q.produced in
            let n : q.number ≡ q.place = let e : q.number ≡ 0 + q.place = q.number_is in omega arith in
            ap (λ o. name_by g t o i.to) p.1
            ∙ (port_told p.0 (within_of i.from p.0 p.1 within.from) (output r q.number) p.2 g.start root
            ∙ (ap (λ k. dotted r (get_or (module_at g g.start).outputs k [])) n ∙ (ap (dotted r) (at_is q.port q.place (module_at g g.start).outputs [] q.at) ∙ sym q.name)))

    by_expand : (c : List Event) (j : List ℕ) (q : ℕ) (given : List (List ℕ)) → Extends g g.start c (Expand j q given) → IsIn (Expand j q given) (events_of t) → IsIn x (items_by g g.start (Expand j q given)) → item_name g t i ≡ name
    by_expand c j q given can ev h =
        let r = in_map_from (edge_item g j q given) x (production_at g q).edges h in
        let e = r.0 in
        let pos = e.from.position in
        let from = (wf.bodies q can.in_range).edges_from e r.1 in
        let low : pos < length (body_of g q) = at_below from.0 pos (body_of g q) from.1 in
        let m = get_or (body_of g q) pos 0 in
        let child : Instance = record { name = get_or given pos []; module_no = m } in
        let there : IsIn child (named given (body_of g q)) = named_at (get_or given pos []) m pos given (body_of g q) (is_at pos given [] (subst (λ n. pos < n) (sym can.one_each) low)) (is_at pos (body_of g q) 0 low) in
        let p = held_some names i.from (output (get_or given pos []) e.from.port) (ap (λ (z : Item). z.produced) r.2) in
        ap (λ o. name_by g t o i.to) p.1
        ∙ (port_told p.0 (within_of i.from p.0 p.1 within.from) (output (get_or given pos []) e.from.port) p.2 m (in_flat_map (made_by g g.start) (Expand j q given) child (events_of t) ev there)
        ∙ sym (ap (λ (z : Item). z.name) r.2))

    -- the name by which it is an item of the run
    pub name_told : IsIn x (items g g.start (events_of t)) → item_name g t i ≡ name
    name_told h =
        let r = in_flat_map_from (items_by g g.start) x (events_of t) h in
        let y = extends_before g g.start [] (events_of t) r.0 run.accepted.0 r.1 in
        go y.0 r.0 r.1 y.1 r.2
      where
        go : (c : List Event) (v : Event) → IsIn v (events_of t) → Extends g g.start c v → IsIn x (items_by g g.start v) → item_name g t i ≡ name
        go c (Start r) ev y k = by_start r ev k
        go c (Expand j q given) ev y k = by_expand c j q given y ev k

    pub held_there : IsIn x (items g g.start (events_of t)) → IsHeldItem g t i
    held_there h = record { there = subst (λ n. IsIn (named_item names n i) (items g g.start (events_of t))) (sym (name_told h)) h; within = within }

  -- what is found by a name
  pub found_held : (name : List ℕ) (o : Option ItemHeld) → IfSome o (IsItemNamed g t name) → IfSome o (IsItemWithin (length t.instances)) → IfSome o (IsHeldItem g t)
  found_held name None h w = h
  found_held name (Some i) h w = held_there i name w h

  pub found_named : (name : List ℕ) (o : Option ItemHeld) → IfSome o (IsItemNamed g t name) → IfSome o (IsItemWithin (length t.instances)) → IfSome o (λ i. item_name g t i ≡ name)
  found_named name None h w = h
  found_named name (Some i) h w = name_told i name w h
