-- The items of the root and of the expansions of a held run are the items of the run, in order of making.
use Rattle.std.proofs.Common.{◌≡◌, ℕ, suc, ◌+◌, ◌<◌, ◌≤◌, List, [], ◌∷◌, ◌++◌, map, flat_map, take, drop, length, get_or, Some, None, refl, sym, ap, subst, ◌∙◌, inl, inr, ⊎_elim, arith}
use Rattle.std.specs.Prelude.{option_map}
use Rattle.std.proofs.lemmas.List.{length-map, map-append, get_or-take, get_or-drop}
use Rattle.std.proofs.lemmas.Grind.{common_steps}
use Rattle.std.proofs.lemmas.List.Concat.{flat_map-append}
use Rattle.wf_model.specs.declared.event.Event.TheVariants.{Start}
use Rattle.wf_model.specs.Lists.{IsIn, numbers_from}
use Rattle.wf_model.specs.Grammar.{Grammar, Edge, module_at, production_at, body_of}
use Rattle.wf_model.specs.WellFormed.{IsWellFormed}
use Rattle.wf_model.specs.Run.{CanExpand}
use Rattle.wf_model.specs.Links.{input, output}
use Rattle.wf_model.specs.Items.{Item, dotted, items, items_by, input_items, output_items, edge_item}
use Rattle.wf_model.proofs.Lists.{in_append_left, in_append_right, in_append_cases, in_map, in_map_from, in_flat_map, in_flat_map_from, at_below}
use Rattle.wf_model.proofs.ItemNames.{extends_before}
use Rattle.wf_model.proofs.Mapping.{flat_map_same, map-flat_map}
use Rattle.wf_flat.specs.declared.item.Item.{Item as ItemHeld}
use Rattle.wf_flat.specs.declared.table.Opened.{Opened}
use Rattle.wf_flat.specs.Table.{Table, IsTableOf, IsOpenedIn, names_in, events_of, expansion_of, given_names}
use Rattle.wf_flat.specs.Graph.{named_port}
use Rattle.wf_flat.specs.Item.{named_item, IsItemWithin}
use Rattle.wf_chain.specs.HeldItems.{item_of}
use Rattle.wf_chain.specs.ItemLists.{input_held, output_held, ports_held, root_held, edge_held, opened_held, AreItemsOf}
use Rattle.wf_chain.proofs.HeldNames.{name_told}

-- the item of an input of the instance r, by the names of all inputs, and that of an output
abbrev input_named : List ℕ → List (List ℕ) → ℕ → Item
input_named r all k = record { name = dotted r (get_or all k []); maker = None; produced = None; consumed = Some (input r k) }

abbrev output_named : List ℕ → List (List ℕ) → ℕ → Item
output_named r all k = record { name = dotted r (get_or all k []); maker = None; produced = Some (output r k); consumed = None }

inputs_named : (r : List ℕ) (all : List (List ℕ)) (k : ℕ) (ns : List (List ℕ)) → ((j : ℕ) → get_or ns j [] ≡ get_or all (k + j) []) → input_items r k ns ≡ map (input_named r all) (numbers_from k (length ns))
inputs_named r all k [] e = refl
inputs_named r all k (n ∷ ns) e =
    let first : n ≡ get_or all k [] = e 0 ∙ ap (λ i. get_or all i []) (omega arith) in
    let rest = inputs_named r all (suc k) ns (λ j. e (suc j) ∙ ap (λ i. get_or all i []) (omega arith)) in
    λ z. record { name = dotted r (first z); maker = None; produced = None; consumed = Some (input r k) } ∷ rest z

outputs_named : (r : List ℕ) (all : List (List ℕ)) (k : ℕ) (ns : List (List ℕ)) → ((j : ℕ) → get_or ns j [] ≡ get_or all (k + j) []) → output_items r k ns ≡ map (output_named r all) (numbers_from k (length ns))
outputs_named r all k [] e = refl
outputs_named r all k (n ∷ ns) e =
    let first : n ≡ get_or all k [] = e 0 ∙ ap (λ i. get_or all i []) (omega arith) in
    let rest = outputs_named r all (suc k) ns (λ j. e (suc j) ∙ ap (λ i. get_or all i []) (omega arith)) in
    λ z. record { name = dotted r (first z); maker = None; produced = Some (output r k); consumed = None } ∷ rest z

-- the only name of a list of one at most
of_first : (names : List (List ℕ)) (r : List ℕ) → IsIn r (take 1 names) → (r ≡ get_or names 0 []) × (0 < length names)
of_first [] r h = absurd h
of_first (n ∷ names) r (inl e) = (e, omega arith)
of_first (n ∷ names) r (inr h) = absurd h

module _ (g : Grammar) (t : Table) (run : IsTableOf g t) (wf : IsWellFormed g) (opened : (o : Opened) → IsIn o t.order → IsOpenedIn (length t.instances) o) where
  abbrev names : List (List ℕ)
  names = names_in t.instances

  abbrev all_items : List Item
  all_items = items g g.start (events_of t)

  -- a held item is the item of the run that has its instances
  told : (i : ItemHeld) (x : Item) → IsItemWithin (length t.instances) i → IsIn x all_items → option_map (λ k. get_or names k []) i.maker ≡ x.maker → option_map (named_port names) i.from ≡ x.produced →
      option_map (named_port names) i.to ≡ x.consumed → item_of g t i ≡ x
  told i x within h maker from to =
      let e : named_item names x.name i ≡ x = λ z. record { name = x.name; maker = maker z; produced = from z; consumed = to z } in
      ap (λ n. named_item names n i) (name_told g t run wf i x.name within (subst (λ y. IsIn y all_items) (sym e) h)) ∙ e

  -- so are held items that are made of a list
  list_told : {A : Type 0} (f : A → ItemHeld) (h : A → Item) (xs : List A) → ((a : A) → IsIn a xs → item_of g t (f a) ≡ h a) → map (item_of g t) (map f xs) ≡ map h xs
  list_told f h [] e = refl
  list_told f h (x ∷ xs) e = let rest = list_told f h xs (λ a i. e a (inr i)) in let first = e x (inl refl) in λ z. first z ∷ rest z

  -- an event that started the run
  module _ (r : List ℕ) (there : IsIn r (take 1 names)) where
    is_root : r ≡ get_or names 0 []
    is_root = (of_first names r there).0

    some : 0 < length t.instances
    some = subst (λ n. 0 < n) (length-map t.instances _) (of_first names r there).1

    started : IsIn (Start r) (events_of t)
    started = in_append_left (Start r) (map Start (take 1 names)) (map (expansion_of names) t.order) (in_map Start r (take 1 names) there)

    abbrev ins : List (List ℕ)
    ins = (module_at g g.start).inputs

    abbrev outs : List (List ℕ)
    outs = (module_at g g.start).outputs

    inputs_are : input_items r 0 ins ≡ map (input_named r ins) (numbers_from 0 (length ins))
    inputs_are = inputs_named r ins 0 ins (λ j. ap (λ i. get_or ins i []) (omega arith))

    outputs_are : output_items r 0 outs ≡ map (output_named r outs) (numbers_from 0 (length outs))
    outputs_are = outputs_named r outs 0 outs (λ j. ap (λ i. get_or outs i []) (omega arith))

    input_told : (k : ℕ) → IsIn k (numbers_from 0 (length ins)) → item_of g t (input_held k) ≡ input_named r ins k
    input_told k h =
        let there' = subst (IsIn (input_named r ins k)) (sym inputs_are) (in_map (input_named r ins) k (numbers_from 0 (length ins)) h) in
        told (input_held k) (input_named r ins k) (record { maker = tt; from = tt; to = some })
        (in_flat_map (items_by g g.start) (Start r) (input_named r ins k) (events_of t) started (in_append_left (input_named r ins k) (input_items r 0 ins) (output_items r 0 outs) there'))
        refl refl (λ z. Some (input (sym is_root z) k))

    output_told : (k : ℕ) → IsIn k (numbers_from 0 (length outs)) → item_of g t (output_held k) ≡ output_named r outs k
    output_told k h =
        let there' = subst (IsIn (output_named r outs k)) (sym outputs_are) (in_map (output_named r outs) k (numbers_from 0 (length outs)) h) in
        told (output_held k) (output_named r outs k) (record { maker = tt; from = some; to = tt })
        (in_flat_map (items_by g g.start) (Start r) (output_named r outs k) (events_of t) started (in_append_right (output_named r outs k) (input_items r 0 ins) (output_items r 0 outs) there'))
        refl (λ z. Some (output (sym is_root z) k)) refl

    ports_told : map (item_of g t) (ports_held g) ≡ items_by g g.start (Start r)
    ports_told =
        let a = list_told input_held (input_named r ins) (numbers_from 0 (length ins)) input_told ∙ sym inputs_are in
        let b = list_told output_held (output_named r outs) (numbers_from 0 (length outs)) output_told ∙ sym outputs_are in
        map-append (item_of g t) (map input_held (numbers_from 0 (length ins))) (map output_held (numbers_from 0 (length outs))) ∙ (λ z. a z ++ b z)

    ports_within : (i : ItemHeld) → IsIn i (ports_held g) → IsItemWithin (length t.instances) i
    ports_within i h = ⊎_elim
        (λ a. let k = in_map_from input_held i (numbers_from 0 (length ins)) a in subst (IsItemWithin (length t.instances)) (sym k.2) (record { maker = tt; from = tt; to = some }))
        (λ b. let k = in_map_from output_held i (numbers_from 0 (length outs)) b in subst (IsItemWithin (length t.instances)) (sym k.2) (record { maker = tt; from = some; to = tt }))
        (in_append_cases i (map input_held (numbers_from 0 (length ins))) (map output_held (numbers_from 0 (length outs))) h)

  -- an event that expanded an instance
  module _ (o : Opened) (there : IsIn o t.order) where
    abbrev given : List (List ℕ)
    given = given_names names o

    expands : IsIn (expansion_of names o) (events_of t)
    expands = in_append_right (expansion_of names o) (map Start (take 1 names)) (map (expansion_of names) t.order) (in_map (expansion_of names) o t.order there)

    can : CanExpand g g.start (extends_before g g.start [] (events_of t) (expansion_of names o) run.accepted.0 expands).0 (get_or names o.instance []) o.production.0 given
    can = (extends_before g g.start [] (events_of t) (expansion_of names o) run.accepted.0 expands).1

    -- its production is there
    pub production_there : o.production.0 < length g.productions
    production_there = can.in_range

    -- it has an instance for each position
    few : length given ≤ o.count
    few = few_taken o.count (drop o.first names)
      where
        few_taken : (n : ℕ) (xs : List (List ℕ)) → length (take n xs) ≤ n
        few_taken n xs = grind (arith, common_steps)

    child_there : (pos : ℕ) → pos < length (body_of g o.production.0) → (pos < o.count) × (o.first + pos < length t.instances)
    child_there pos h =
        let e = can.one_each in
        let f = few in
        let room = (opened o there).2 in
        (omega arith, omega arith)

    child_name : (pos : ℕ) → pos < length (body_of g o.production.0) → get_or names (o.first + pos) [] ≡ get_or given pos []
    child_name pos h = sym (get_or-take o.count (drop o.first names) pos [] (child_there pos h).0 ∙ get_or-drop o.first names pos [])

    module _ (e : Edge) (h : IsIn e (production_at g o.production.0).edges) where
      from_low : e.from.position < length (body_of g o.production.0)
      from_low = let q = (wf.bodies o.production.0 can.in_range).edges_from e h in at_below q.0 e.from.position (body_of g o.production.0) q.1

      to_low : e.to.position < length (body_of g o.production.0)
      to_low = let q = (wf.bodies o.production.0 can.in_range).edges_to e h in at_below q.0 e.to.position (body_of g o.production.0) q.1

      pub from_there : o.first + e.from.position < length t.instances
      from_there = (child_there e.from.position from_low).1

      pub to_there : o.first + e.to.position < length t.instances
      to_there = (child_there e.to.position to_low).1

      edge_within : IsItemWithin (length t.instances) (edge_held o e)
      edge_within = record { maker = (opened o there).0; from = from_there; to = to_there }

      edge_told : item_of g t (edge_held o e) ≡ edge_item g (get_or names o.instance []) o.production.0 given e
      edge_told =
          let x = edge_item g (get_or names o.instance []) o.production.0 given e in
          let from = child_name e.from.position from_low in
          let to = child_name e.to.position to_low in
          told (edge_held o e) x edge_within
          (in_flat_map (items_by g g.start) (expansion_of names o) x (events_of t) expands (in_map (edge_item g (get_or names o.instance []) o.production.0 given) e (production_at g o.production.0).edges h))
          refl (λ z. Some (output (from z) e.from.port)) (λ z. Some (input (to z) e.to.port))

    opened_told : map (item_of g t) (opened_held g o) ≡ items_by g g.start (expansion_of names o)
    opened_told = list_told (edge_held o) (edge_item g (get_or names o.instance []) o.production.0 given) (production_at g o.production.0).edges edge_told

    opened_within : (i : ItemHeld) → IsIn i (opened_held g o) → IsItemWithin (length t.instances) i
    opened_within i h = let k = in_map_from (edge_held o) i (production_at g o.production.0).edges h in subst (IsItemWithin (length t.instances)) (sym k.2) (edge_within k.0 k.1)

  abbrev all_held : List ItemHeld
  all_held = root_held g t ++ flat_map (opened_held g) t.order

  all_told : map (item_of g t) all_held ≡ all_items
  all_told =
      let root = map-flat_map (item_of g t) (λ n. ports_held g) (take 1 names) ∙ (flat_map_same (λ n. map (item_of g t) (ports_held g)) (λ r. items_by g g.start (Start r)) (take 1 names) ports_told ∙ sym (flat_map-map (items_by g g.start) Start (take 1 names))) in
      let rest = map-flat_map (item_of g t) (opened_held g) t.order ∙ (flat_map_same (λ o. map (item_of g t) (opened_held g o)) (λ o. items_by g g.start (expansion_of names o)) t.order opened_told ∙ sym (flat_map-map (items_by g g.start) (expansion_of names) t.order)) in
      map-append (item_of g t) (root_held g t) (flat_map (opened_held g) t.order) ∙ ((λ z. root z ++ rest z) ∙ sym (flat_map-append (items_by g g.start) (map Start (take 1 names)) (map (expansion_of names) t.order)))
    where
      flat_map-map : {A B C : Type 0} (f : B → List C) (h : A → B) (xs : List A) → flat_map f (map h xs) ≡ flat_map (λ x. f (h x)) xs
      flat_map-map f h [] = refl
      flat_map-map f h (x ∷ xs) = ap (λ l. f (h x) ++ l) (flat_map-map f h xs)

  all_within : (i : ItemHeld) → IsIn i all_held → IsItemWithin (length t.instances) i
  all_within i h = ⊎_elim
      (λ a. let r = in_flat_map_from (λ n. ports_held g) i (take 1 names) a in ports_within r.0 r.1 i r.2)
      (λ b. let o = in_flat_map_from (opened_held g) i t.order b in opened_within o.0 o.1 i o.2)
      (in_append_cases i (root_held g t) (flat_map (opened_held g) t.order) h)

  pub are_items : (is : List ItemHeld) → is ≡ all_held → AreItemsOf g t is
  are_items is e = subst (AreItemsOf g t) (sym e) (record {
    all = all_told;
    each = λ i h. record { there = subst (IsIn (item_of g t i)) all_told (in_map (item_of g t) i all_held h); within = all_within i h };
  })
