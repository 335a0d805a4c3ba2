-- Links by number are links by name.
use Rattle.std.proofs.Common.{◌≡◌, ℕ, suc, ◌+◌, ◌<◌, ◌≤◌, ◌^◌, ◌%◌, Bool, true, false, cond, List, [], ◌∷◌, ◌++◌, map, flat_map, take, drop, length, get_or, Option, Some, None, refl, ap, sym, subst, ◌∙◌, arith, inl, inr}
use Rattle.std.specs.Prelude.{◌==◌}
use Rattle.std.specs.Int.{bit_at}
use Rattle.std.proofs.Math.Nat.{mod-eq_of_lt}
use Rattle.std.proofs.lemmas.List.{map-append, get_or-take, get_or-drop, get_or_read}
use Rattle.wf_model.specs.declared.numbers.Side.{Side}
use Rattle.wf_model.specs.declared.numbers.Side.TheVariants.{Input, Output}
use Rattle.wf_model.specs.Lists.{IsIn, numbers_from}
use Rattle.wf_model.specs.Grammar.{Grammar, Production, Edge, Inner, Module, module_at, inputs_of, outputs_of}
use Rattle.wf_model.specs.WellFormed.{IsWellFormed}
use Rattle.wf_model.proofs.Lists.{at_in, is_at}
use Rattle.wf_model.specs.Links.{Port, Link, input, output, edge_link, entry_links, exit_links, pair_links, instance_at, move_link}
use Rattle.wf_model.specs.Meaning.{pairs_of, bit_of}
use Rattle.wf_model.proofs.Mapping.{map-flat_map, flat_map_same}
use Rattle.wf_flat.specs.Graph.{named_port, named_link, named_links, pair, row_links, matrix_links, child_port, edge_at, entries_at, exits_at, wiring_at, pairs_by, pairs_at}
use Rattle.wf_flat.proofs.OfInstance.{AreBelow, wiring_of}

map_if : {A B : Type 0} (f : A → B) (b : Bool) (x : A) → map f (cond b (x ∷ []) []) ≡ cond b (f x ∷ []) []
map_if f true x = refl
map_if f false x = refl

module _ (names : List (List ℕ)) (k : ℕ) where
  abbrev n : List ℕ
  n = get_or names k []

  abbrev by_name : ℕ → ℕ → Link (List ℕ)
  by_name i o = record { from = input n i; to = output n o }

  row_named : (i row o m : ℕ) → named_links names (row_links k i row o m) ≡ flat_map (λ j. cond (bit_at row j == 1) (by_name i j ∷ []) []) (numbers_from o m)
  row_named i row o m =
      map-flat_map (named_link names) (λ j. cond (bit_at row j == 1) (pair k i j ∷ []) []) (numbers_from o m)
      ∙ flat_map_same (λ j. map (named_link names) (cond (bit_at row j == 1) (pair k i j ∷ []) [])) (λ j. cond (bit_at row j == 1) (by_name i j ∷ []) []) (numbers_from o m) (λ j _. map_if (named_link names) (bit_at row j == 1) (pair k i j))

  matrix_named : (g : Grammar) (leaf : List (Option (List ℕ))) (m : ℕ) (rows : List ℕ) → get_or leaf m None ≡ Some rows → named_links names (matrix_links k rows (outputs_of g m) 0 (inputs_of g m)) ≡ pair_links g (pairs_of leaf) m n
  matrix_named g leaf m rows e =
      map-flat_map (named_link names) (λ j. row_links k j (get_or rows j 0) 0 (outputs_of g m)) (numbers_from 0 (inputs_of g m))
      ∙ flat_map_same (λ j. map (named_link names) (row_links k j (get_or rows j 0) 0 (outputs_of g m))) (λ i. flat_map (λ o. cond (pairs_of leaf m i o) (by_name i o ∷ []) []) (numbers_from 0 (outputs_of g m))) (numbers_from 0 (inputs_of g m))
      (λ i _. row_named i (get_or rows i 0) 0 (outputs_of g m) ∙ flat_map_same (λ j. cond (bit_at (get_or rows i 0) j == 1) (by_name i j ∷ []) []) (λ o. cond (pairs_of leaf m i o) (by_name i o ∷ []) []) (numbers_from 0 (outputs_of g m)) (λ o _. ap (λ r. cond (bit_of r i o) (by_name i o ∷ []) []) (sym e)))

  nothing : {A B : Type 0} (xs : List A) → flat_map {X = A} {A = B} (λ x. []) xs ≡ []
  nothing [] = refl
  nothing (x ∷ xs) = nothing xs

  none_named : (g : Grammar) (leaf : List (Option (List ℕ))) (m : ℕ) → get_or leaf m None ≡ None → pair_links g (pairs_of leaf) m n ≡ []
  none_named g leaf m e =
      flat_map_same (λ i. flat_map (λ o. cond (pairs_of leaf m i o) (by_name i o ∷ []) []) (numbers_from 0 (outputs_of g m))) (λ i. []) (numbers_from 0 (inputs_of g m))
      (λ i _. flat_map_same (λ o. cond (pairs_of leaf m i o) (by_name i o ∷ []) []) (λ o. []) (numbers_from 0 (outputs_of g m)) (λ o _. ap (λ r. cond (bit_of r i o) (by_name i o ∷ []) []) e) ∙ nothing (numbers_from 0 (outputs_of g m)))
      ∙ nothing (numbers_from 0 (inputs_of g m))

  module _ (first count : ℕ) (room : first + count < 2 ^ 32) where
    abbrev ns : List (List ℕ)
    ns = take count (drop first names)

    child_named : (s : Side) (i : Inner) → i.position < count → named_port names (child_port first s i) ≡ record { owner = get_or ns i.position []; side = s; number = i.port }
    child_named s i h =
        let low : first + i.position < 2 ^ 32 = omega arith in
        let a : get_or names ((first + i.position) % 2 ^ 32) [] ≡ get_or names (first + i.position) [] = ap (λ z. get_or names z []) (mod-eq_of_lt low) in
        let b : get_or ns i.position [] ≡ get_or names (first + i.position) [] = get_or-take count (drop first names) i.position [] h ∙ get_or-drop first names i.position [] in
        ap (λ (z : List ℕ). port_of z) (a ∙ sym b)
      where
        port_of : List ℕ → Port (List ℕ)
        port_of z = record { owner = z; side = s; number = i.port }

    edges_named : (es : List Edge) → ((e : Edge) → IsIn e es → (e.from.position < count) × (e.to.position < count)) → named_links names (map (edge_at first) es) ≡ map (move_link (instance_at n ns)) (map edge_link es)
    edges_named [] h = refl
    edges_named (e ∷ es) h =
        let r = h e (inl refl) in
        ap (λ (x : Link (List ℕ)). x ∷ named_links names (map (edge_at first) es)) (λ i. record { from = child_named Output e.from r.0 i; to = child_named Input e.to r.1 i })
        ∙ ap (λ l. move_link (instance_at n ns) (edge_link e) ∷ l) (edges_named es (λ z i. h z (inr i)))

    entries_named : (j : ℕ) (is : List Inner) → ((i : Inner) → IsIn i is → i.position < count) → named_links names (entries_at k first j is) ≡ map (move_link (instance_at n ns)) (entry_links j is)
    entries_named j [] h = refl
    entries_named j (i ∷ is) h =
        ap (λ (x : Port (List ℕ)). (let l : Link (List ℕ) = record { from = input n j; to = x } in l) ∷ named_links names (entries_at k first (j + 1) is)) (child_named Input i (h i (inl refl)))
        ∙ ap (λ l. move_link (instance_at n ns) (record { from = input None j; to = input (Some i.position) i.port }) ∷ l)
        (ap (λ q. named_links names (entries_at k first q is)) (let e : j + 1 ≡ suc j = omega arith in e) ∙ entries_named (suc j) is (λ z q. h z (inr q)))

    exits_named : (j : ℕ) (is : List Inner) → ((i : Inner) → IsIn i is → i.position < count) → named_links names (exits_at k first j is) ≡ map (move_link (instance_at n ns)) (exit_links j is)
    exits_named j [] h = refl
    exits_named j (i ∷ is) h =
        ap (λ (x : Port (List ℕ)). (let l : Link (List ℕ) = record { from = x; to = output n j } in l) ∷ named_links names (exits_at k first (j + 1) is)) (child_named Output i (h i (inl refl)))
        ∙ ap (λ l. move_link (instance_at n ns) (record { from = output (Some i.position) i.port; to = output None j }) ∷ l)
        (ap (λ q. named_links names (exits_at k first q is)) (let e : j + 1 ≡ suc j = omega arith in e) ∙ exits_named (suc j) is (λ z q. h z (inr q)))

    pub wiring_named : (r : Production) → AreBelow count r → named_links names (wiring_at k first r) ≡ map (move_link (instance_at n ns)) (wiring_of r)
    wiring_named r below =
        let f = move_link (instance_at n ns) in
        map-append (named_link names) (map (edge_at first) r.edges) (entries_at k first 0 r.entries ++ exits_at k first 0 r.exits)
        ∙ (ap (λ l. named_links names (map (edge_at first) r.edges) ++ l) (map-append (named_link names) (entries_at k first 0 r.entries) (exits_at k first 0 r.exits))
        ∙ (ap (λ l. l ++ (named_links names (entries_at k first 0 r.entries) ++ named_links names (exits_at k first 0 r.exits))) (edges_named r.edges below.edges)
        ∙ (ap (λ l. map f (map edge_link r.edges) ++ (l ++ named_links names (exits_at k first 0 r.exits))) (entries_named 0 r.entries below.entries)
        ∙ (ap (λ l. map f (map edge_link r.edges) ++ (map f (entry_links 0 r.entries) ++ l)) (exits_named 0 r.exits below.exits)
        ∙ (ap (λ l. map f (map edge_link r.edges) ++ l) (sym (map-append f (entry_links 0 r.entries) (exit_links 0 r.exits)))
        ∙ sym (map-append f (map edge_link r.edges) (entry_links 0 r.entries ++ exit_links 0 r.exits)))))))

  -- the pairs of a module by its rows
  pub pairs_named : (g : Grammar) (leaf : List (Option (List ℕ))) (m : ℕ) → named_links names (pairs_at g leaf m k) ≡ pair_links g (pairs_of leaf) m n
  pairs_named g leaf m = by (get_or leaf m None) refl
    where
      by : (o : Option (List ℕ)) → get_or leaf m None ≡ o → named_links names (pairs_by g m k (get_or leaf m None)) ≡ pair_links g (pairs_of leaf) m n
      by None e = ap (λ o. named_links names (pairs_by g m k o)) e ∙ sym (none_named g leaf m e)
      by (Some rows) e = ap (λ o. named_links names (pairs_by g m k o)) e ∙ matrix_named g leaf m rows e

pub record Counted (g : Grammar) (m : ℕ) (r : Module) : Type 0 where
  pub inputs : length r.inputs ≡ inputs_of g m
  pub outputs : length r.outputs ≡ outputs_of g m
  pub few_inputs : length r.inputs ≤ 64
  pub few_outputs : length r.outputs ≤ 64

pub counted : (g : Grammar) (ms : List Module) (m : ℕ) (r : Module) → IsWellFormed g → ms ≡ g.modules → m < length g.modules → r ≡ get_or ms m r → Counted g m r
counted g ms m r wf e h q =
    let is : r ≡ module_at g m = get_or_read g.modules m r h (q ∙ ap (λ l. get_or l m r) e) (record { name = []; inputs = []; outputs = [] }) in
    let w = wf.modules (module_at g m) (at_in (module_at g m) m g.modules (is_at m g.modules (record { name = []; inputs = []; outputs = [] }) h)) in
    record {
      inputs = ap (λ (z : Module). length z.inputs) is;
      outputs = ap (λ (z : Module). length z.outputs) is;
      few_inputs = subst (λ (z : Module). length z.inputs ≤ 64) (sym is) w.few_inputs;
      few_outputs = subst (λ (z : Module). length z.outputs ≤ 64) (sym is) w.few_outputs;
    }
