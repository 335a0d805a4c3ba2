-- An expand event that a run takes: its instance is there, with the bits of the labels of the items that the event makes.
use Rattle.std.proofs.Common.{◌≡◌, ℕ, suc, ◌<◌, ◌≤◌, true, false, not, nat_le, List, [], ◌∷◌, ◌++◌, map, length, get_or, zip, Option, Some, None, bytes_eq, refl, inl, ap, sym, ◌∙◌, subst, arith, true≢false}
use Rattle.std.specs.Prelude.{position, is_some, option_map, ◌==◌}
use Rattle.std.specs.List.{list_all}
use Rattle.std.proofs.lemmas.Bool.Decides.{nat_tests}
use Rattle.std.proofs.lemmas.List.{length-map, get_or-map}
use Rattle.std.proofs.lemmas.Simd.{map-map}
use Rattle.std.proofs.lemmas.List.Quantifiers.{position-Some}
use Rattle.wf_model.specs.declared.event.Event.{Event}
use Rattle.wf_model.specs.declared.event.Event.TheVariants.{Start, Expand}
use Rattle.wf_model.specs.Lists.{IsIn, numbers_from}
use Rattle.wf_model.specs.Grammar.{Grammar, Edge, production_at, head_of, alternative_of}
use Rattle.wf_model.specs.WellFormed.{IsWellFormed}
use Rattle.wf_model.specs.Run.{Instance, made, names_of, expanded_by, CanExpand, IsAccepted}
use Rattle.wf_model.specs.Items.{edge_item}
use Rattle.wf_model.specs.Faults.{fault_of}
use Rattle.wf_model.proofs.Lists.{same_bytes, is_at, at_in, in_append_right}
use Rattle.wf_model.proofs.NumberLists.{length-numbers}
use Rattle.wf_model.proofs.Runs.{name_in, name_new, AllExtend-append}
use Rattle.wf_model.proofs.ItemNames.{name_made}
use Rattle.wf_model.proofs.Differ.{one_of_name}
use Rattle.wf_model.proofs.Taking.{run_differs, taking_law}
use Rattle.bit_pack.specs.Bits.{packed}
use Rattle.bit_pack.specs.Written.{first_bits}
use Rattle.bit_pack.proofs.Filling.{first_packed}
use Rattle.wf_spec.specs.Held.{HeldGrammar}
use Rattle.label_model.specs.Labels.{Label, OfEdge, label_bits, ending_bits}
use Rattle.label_model.specs.Places.{place_of}
use Rattle.label_model.specs.Files.{Entry, entry_of}
use Rattle.label_model.specs.RunLabels.{address_in, labelled_by, IsPrefix}
use Rattle.label_model.proofs.RunPrefixes.{prefix_in_run_law}
use Rattle.wf_run.specs.Runs.{RunSeen, Node, node_at, name_at, IsExpandedAs, IsRunOf}
use Rattle.wf_spec.proofs.Finding.{not_found}
use Rattle.wf_spec.proofs.Tests.{all_gives, all_from}
use Rattle.wf_labeller.specs.Entries.{edge_entry, numbered_edges}
use Rattle.wf_labeller.specs.Groups.{edges_bits, bits_of_items}
use Rattle.wf_labeller.proofs.MadeBits.{bits-zip}
use Rattle.wf_run.proofs.NamedInstances.{none_there}

-- a test of lengths passes where the lengths are so
rooms_from : (names : List (List ℕ)) → ((n : List ℕ) → IsIn n names → length n ≤ 64) → list_all (λ n. nat_le (length n) 64) names ≡ true
rooms_from names h = all_from (λ n. nat_le (length n) 64) names (λ n i. let few = h n i in grind (arith, nat_tests))

-- and where it passes, they are so
pub rooms_give : (names : List (List ℕ)) → list_all (λ n. nat_le (length n) 64) names ≡ true → (n : List ℕ) → IsIn n names → length n ≤ 64
rooms_give names e n i = let t = all_gives (λ n. nat_le (length n) 64) names e n i in grind (arith, nat_tests)

-- the name of a run that starts has at most 64 bytes
pub root_short : (r : RunSeen) (events : List Event) → IsRunOf r events → (n : List ℕ) → fault_of r.grammar.core r.most events (Start n) ≡ None → length n ≤ 64
root_short r events run n taken =
    let g = r.grammar.core in
    let after = (taking_law g r.most events (Start n) run.accepted).0 taken in
    after.2 n (name_made g g.start n (Start n) (events ++ Start n ∷ []) (in_append_right (Start n) events (Start n ∷ []) (inl refl)) (inl refl))

module _ (r : RunSeen) (events : List Event) (run : IsRunOf r events) (i : List ℕ) (p : ℕ) (names : List (List ℕ)) (taken : fault_of r.grammar.core r.most events (Expand i p names) ≡ None) where
  abbrev g : Grammar
  g = r.grammar.core

  -- the instances before the event
  abbrev all : List Instance
  all = made g g.start events

  after : IsAccepted g r.most (events ++ Expand i p names ∷ [])
  after = (taking_law g r.most events (Expand i p names) run.accepted).0 taken

  can : CanExpand g g.start events i p names
  can = (AllExtend-append g g.start [] events (Expand i p names ∷ []) after.0).1.0

  there : IsIn i (names_of all)
  there = name_in _ all can.stands

  -- the names have at most 64 bytes
  pub are_short : (n : List ℕ) → IsIn n names → length n ≤ 64
  are_short n h = after.2 n (name_new g g.start events i p names n can.one_each h)

  -- which a test of them does not deny
  pub have_room : list_all (λ n. nat_le (length n) 64) names ≡ false → ⊥
  have_room e = absurd (true≢false (sym (rooms_from names are_short) ∙ e))

  -- the name of the instance is found
  pub is_found : position (bytes_eq i) r.names ≡ None → ⊥
  is_found e = not_found r.names i None (sym e) refl (subst (IsIn i) (sym run.names) there)

  module _ (k : ℕ) (place : position (bytes_eq i) r.names ≡ Some k) where
    its_name : i ≡ name_at r k
    its_name = same_bytes i (name_at r k) (position-Some (bytes_eq i) r.names k [] place).1

    within : k < length all
    within = subst (λ n. k < n) (ap length run.names ∙ length-map all (λ (j : Instance). j.name)) (position-Some (bytes_eq i) r.names k [] place).0

    in_nodes : k < length r.nodes
    in_nodes = subst (λ n. k < n) (sym (length-map all (λ (j : Instance). j.module_no)) ∙ (sym (ap length run.modules) ∙ length-map r.nodes (λ (n : Node). n.module_no))) within

    -- the instance of this number has the name, so it is the one that is expanded
    its_instance : get_or all k none_there ≡ record { name = i; module_no = head_of g p }
    its_instance = one_of_name all (run_differs g g.start events run.accepted.0) (get_or all k none_there) (record { name = i; module_no = head_of g p })
        (at_in (get_or all k none_there) k all (is_at k all none_there within)) can.stands
        (sym (get_or-map (λ (j : Instance). j.name) all k none_there [] within) ∙ (sym (ap (λ l. get_or l k []) run.names) ∙ sym its_name))

    -- so its module is the head of the production
    its_module : (node_at r k).module_no ≡ head_of g p
    its_module =
        sym (get_or-map (λ (n : Node). n.module_no) r.nodes k _ 0 in_nodes) ∙ (ap (λ l. get_or l k 0) run.modules ∙
        (get_or-map (λ (j : Instance). j.module_no) all k none_there 0 within ∙ ap (λ (j : Instance). j.module_no) its_instance))

    -- which a test of the two does not deny
    pub is_of_head : (m q : ℕ) → m ≡ (node_at r k).module_no → q ≡ head_of g p → not (m == q) ≡ true → ⊥
    is_of_head m q a b e = let f : m ≡ q = a ∙ (its_module ∙ sym b) in absurd (grind (arith, nat_tests))

    -- it has no children yet
    pub is_closed : {A : Type 0} (f : A → List ℕ) (o : Option A) → option_map f o ≡ (node_at r k).children → is_some o ≡ true → ⊥
    is_closed f None a e = true≢false (sym e)
    is_closed f (Some x) a e =
        let opened = subst (IsExpandedAs r events (name_at r k)) (sym a) (run.each k in_nodes).children in
        let closed = can.open_end in
        let same = ap (expanded_by events) its_name in
        let other = opened.1 in
        absurd (cc)

    -- it is one of a composite module, so the run keeps its prefix
    its_prefix : IsPrefix g events i (node_at r k).bits (node_at r k).chain
    its_prefix = subst (λ n. IsPrefix g events n (node_at r k).bits (node_at r k).chain) (sym its_name) ((run.each k in_nodes).composite (p, (can.in_range, sym its_module)))

    -- the label of an edge is the prefix, and the ending
    its_label : IsWellFormed g → (e : ℕ) →
        label_bits (OfEdge (place_of g g.start (address_in (events ++ Expand i p names ∷ []) i) p e)) ≡ (node_at r k).bits ++ ending_bits (node_at r k).chain (alternative_of g p) e
    its_label wf e =
        let keeps = (prefix_in_run_law g wf).keeps events i p names after.0 in
        keeps.label e (node_at r k).bits (node_at r k).chain (keeps.old i (node_at r k).bits (node_at r k).chain there its_prefix)

    -- the entries of edges, from number j on
    entries_are : IsWellFormed g → (j : ℕ) (es : List Edge) →
        map (edge_entry g p names (node_at r k).bits (node_at r k).chain) (numbered_edges j es) ≡
        map entry_of (zip (map (edge_item g i p names) es) (map (λ e. OfEdge (place_of g g.start (address_in (events ++ Expand i p names ∷ []) i) p e)) (numbers_from j (length es))))
    entries_are wf j [] = refl
    entries_are wf j (e ∷ es) =
        ap (λ b. record { name = (edge_item g i p names e).name; label = packed b } ∷ map (edge_entry g p names (node_at r k).bits (node_at r k).chain) (numbered_edges (suc j) es)) (sym (its_label wf j)) ∙
        ap (λ (l : List Entry). entry_of (edge_item g i p names e, OfEdge (place_of g g.start (address_in (events ++ Expand i p names ∷ []) i) p j)) ∷ l) (entries_are wf (suc j) es)

    -- the entries that are made with the prefix that the run keeps of the instance are those of the items of the event
    pub made_entries : IsWellFormed g → (h : HeldGrammar) (q : ℕ) (bytes : List ℕ) (n : ℕ) (chain : Option ℕ) → h ≡ r.grammar → q ≡ p → bytes ≡ packed (node_at r k).bits → n ≡ length (node_at r k).bits → chain ≡ (node_at r k).chain →
        map (edge_entry h.core q names (first_bits bytes n) chain) (numbered_edges 0 (production_at h.core q).edges) ≡
        map entry_of (labelled_by g (events ++ Expand i p names ∷ []) (Expand i p names))
    made_entries wf h q bytes n chain a b c d f =
        ap (λ (z : HeldGrammar). map (edge_entry z.core q names (first_bits bytes n) chain) (numbered_edges 0 (production_at z.core q).edges)) a ∙
        (ap (λ z. map (edge_entry g z names (first_bits bytes n) chain) (numbered_edges 0 (production_at g z).edges)) b ∙
        (ap (λ z. map (edge_entry g p names z chain) (numbered_edges 0 (production_at g p).edges)) (ap (λ z. first_bits z n) c ∙ (ap (first_bits (packed (node_at r k).bits)) d ∙ first_packed (node_at r k).bits)) ∙
        (ap (λ z. map (edge_entry g p names (node_at r k).bits z) (numbered_edges 0 (production_at g p).edges)) f ∙ entries_are wf 0 (production_at g p).edges)))

    -- the labels of edges of these numbers
    labels_are : IsWellFormed g → (ns : List ℕ) →
        map (λ e. label_bits (OfEdge (place_of g g.start (address_in (events ++ Expand i p names ∷ []) i) p e))) ns ≡ map (λ e. (node_at r k).bits ++ ending_bits (node_at r k).chain (alternative_of g p) e) ns
    labels_are wf [] = refl
    labels_are wf (n ∷ ns) =
        ap (λ b. b ∷ map (λ e. label_bits (OfEdge (place_of g g.start (address_in (events ++ Expand i p names ∷ []) i) p e))) ns) (its_label wf n) ∙
        ap (λ l. ((node_at r k).bits ++ ending_bits (node_at r k).chain (alternative_of g p) n) ∷ l) (labels_are wf ns)

    -- the labels that are made with the prefix that the run keeps of the instance are those of the items of the event
    pub made_bits : IsWellFormed g → (q : ℕ) → q ≡ p → edges_bits g q (node_at r k).bits (node_at r k).chain ≡ bits_of_items (labelled_by g (events ++ Expand i p names ∷ []) (Expand i p names))
    made_bits wf q b =
        let es = (production_at g p).edges in
        let ns = numbers_from 0 (length es) in
        let label : ℕ → Label = λ e. OfEdge (place_of g g.start (address_in (events ++ Expand i p names ∷ []) i) p e) in
        ap (λ z. edges_bits g z (node_at r k).bits (node_at r k).chain) b ∙
        (sym (labels_are wf ns) ∙
        (sym (map-map label_bits label ns) ∙
        sym (bits-zip (map (edge_item g i p names) es) (map label ns) (length-map es (edge_item g i p names) ∙ sym (length-map ns label ∙ length-numbers 0 (length es))))))
