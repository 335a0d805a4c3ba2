-- A run after one of its instances was expanded is that of one expand event more.
use Rattle.std.proofs.Common.{◌≡◌, ℕ, ◌+◌, ◌-◌, ◌<◌, Bool, true, false, cond, List, [], ◌∷◌, ◌++◌, map, set, length, get_or, Option, Some, None, refl, ap, sym, subst, ◌∙◌, inl, inr, ⊎_elim, arith}
use Rattle.std.specs.Prelude.{option_map}
use Rattle.std.proofs.lemmas.Bool.{cases_eq, cases_lt}
use Rattle.std.proofs.lemmas.List.{map-append, map-set, set-get_or, get_or-map, get_or_append_left, get_or-append-add}
use Rattle.wf_model.specs.Lists.{IsIn, IsAt, numbers_from}
use Rattle.wf_model.specs.Grammar.{Grammar, IsComposite, head_of, alternative_of, body_of}
use Rattle.wf_model.specs.WellFormed.{IsWellFormed}
use Rattle.wf_model.specs.Reach.{Step, target_of, module_along}
use Rattle.wf_model.specs.declared.event.Event.{Event}
use Rattle.wf_model.specs.declared.event.Event.TheVariants.{Expand}
use Rattle.wf_model.specs.Run.{Instance, Expanded, named, made, names_of, expanded_by, CanExpand, IsAccepted}
use Rattle.wf_model.proofs.Lists.{bytes_same, at_in, is_at, differ_at}
use Rattle.wf_model.proofs.Runs.{made_more, names-named, expansion_later, expansion_other, run_state, AllExtend-append}
use Rattle.wf_model.proofs.Differ.{one_of_name}
use Rattle.wf_model.proofs.Taking.{run_differs}
use Rattle.label_model.specs.Continuing.{continuing, continues}
use Rattle.label_model.specs.Places.{chain_at}
use Rattle.label_model.specs.Labels.{step_bits}
use Rattle.label_model.specs.RunLabels.{address_in, IsPrefix}
use Rattle.label_model.specs.RunLaws.{Keeps}
use Rattle.wf_model.proofs.Composites.{composite_is, atomic_is}
use Rattle.label_model.proofs.ContinuingSteps.{continues_gives, continues_not}
use Rattle.label_model.proofs.InstanceAddresses.{instance_law}
use Rattle.label_model.proofs.LookingBack.{expand_events-append}
use Rattle.label_model.proofs.RunPrefixes.{prefix_in_run_law}
use Rattle.label_model.proofs.StepsTold.{prefix_law}
use Rattle.wf_run.specs.Runs.{Node, Prefix, RunSeen, node_at, name_at, names_at, prefix_at, IsExpandedAs, IsKeptOf, IsRunOf}
use Rattle.wf_run.specs.Opening.{prefix_by, child_node, with_children, opened_run}
use Rattle.wf_run.proofs.Numbering.{read_last}
use Rattle.wf_run.proofs.NamedInstances.{instance_of, instances_of, names_count, names_differ, instance_at}
use Rattle.wf_run.proofs.ChildInstances.{children_there}
use Rattle.wf_run.proofs.OpenedNodes.{no_node, length-opened, node_expanded, node_other, node_new}

-- the modules of instances that get names
modules-named : (names : List (List ℕ)) (ms : List ℕ) → length names ≡ length ms → map (λ (i : Instance). i.module_no) (named names ms) ≡ ms
modules-named [] [] e = refl
modules-named [] (m ∷ ms) e = absurd (omega arith)
modules-named (n ∷ names) [] e = absurd (omega arith)
modules-named (n ∷ names) (m ∷ ms) e = let f : length names ≡ length ms = omega arith in ap (λ l. m ∷ l) (modules-named names ms f)

abbrev module_of : Node → ℕ
module_of n = n.module_no

-- an instance that is set to one of its own module
modules-set : (nodes : List Node) (k : ℕ) (n : Node) → k < length nodes → n.module_no ≡ (get_or nodes k no_node).module_no → map module_of (set nodes k n) ≡ map module_of nodes
modules-set nodes k n h e = map-set module_of nodes k n ∙ (ap (set (map module_of nodes) k) (e ∙ sym (get_or-map module_of nodes k no_node 0 h)) ∙ set-get_or (map module_of nodes) k 0)

abbrev expanded : ℕ → List (List ℕ) → Option Expanded
expanded p names = Some (record { production = p; names = names })

-- the prefix that a step gives to a child, where it is known whether it is the continuing one
abbrev prefix_if : Grammar → Step → Prefix → Bool → Prefix
prefix_if g s parent t =
    cond t (record { bits = parent.bits; chain = option_map (λ c. c + 1) parent.chain })
    (record { bits = parent.bits ++ step_bits (record { chain = parent.chain; alternative = alternative_of g s.production; position = s.position }); chain = chain_at g (target_of g s) 0 })

-- the prefix of a child, where it is known whether its module is composite
abbrev prefix_where : Grammar → Step → Prefix → Bool → Prefix
prefix_where g s parent t = cond t (prefix_by g s parent) (record { bits = []; chain = None })

-- the same but for the kept instance's number
record IsKeptAs (r : RunSeen) (events : List Event) (name : List ℕ) (n : Node) : Type 0 where
  children : IsExpandedAs r events name n.children
  composite : IsComposite r.grammar.core n.module_no → IsPrefix r.grammar.core events name n.bits n.chain
  atomic : (IsComposite r.grammar.core n.module_no → ⊥) → (n.bits ≡ []) × (n.chain ≡ None)

kept_by : (r : RunSeen) (events : List Event) (k : ℕ) (name : List ℕ) (n : Node) → name_at r k ≡ name → node_at r k ≡ n → IsKeptAs r events name n → IsKeptOf r events k
kept_by r events k name n e f h =
    let q = subst (IsKeptAs r events (name_at r k)) (sym f) (subst (λ z. IsKeptAs r events z n) (sym e) h) in
    record { children = q.children; composite = q.composite; atomic = q.atomic }

module _ (r : RunSeen) (events : List Event) (k p : ℕ) (i : List ℕ) (names : List (List ℕ)) (wf : IsWellFormed r.grammar.core) (run : IsRunOf r events) (there : k < length r.nodes) (named_so : name_at r k ≡ i)
    (next : IsAccepted r.grammar.core r.most (events ++ Expand i p names ∷ [])) where
  abbrev g : Grammar
  g = r.grammar.core

  abbrev after : RunSeen
  after = opened_run r k p names

  abbrev later : List Event
  later = events ++ Expand i p names ∷ []

  abbrev step : ℕ → Step
  step j = record { production = p; position = j }

  can : CanExpand g g.start events i p names
  can = (AllExtend-append g g.start [] events (Expand i p names ∷ []) next.0).1.0

  keeps : Keeps g events i p names
  keeps = (prefix_in_run_law g wf).keeps events i p names next.0

  i_at : IsAt i k r.names
  i_at = subst (λ z. IsAt z k r.names) named_so (is_at k r.names [] (let c = names_count r events run in omega arith))

  -- the module of the instance is the head of the production
  head : head_of g p ≡ (node_at r k).module_no
  head = ap (λ (x : Instance). x.module_no) (one_of_name (instances_of r events) (run_differs g g.start events run.accepted.0) (instance_of i (head_of g p)) (instance_of (name_at r k) (node_at r k).module_no) can.stands (at_in _ k (instances_of r events) (instance_at r events run k there)) (sym named_so))

  opened_names : r.names ++ names ≡ names_of (made g g.start later)
  opened_names =
      ap (λ l. l ++ names) run.names ∙ (ap (λ l. names_of (instances_of r events) ++ l) (sym (names-named names (body_of g p) can.one_each))
      ∙ (sym (map-append (λ (x : Instance). x.name) (instances_of r events) (named names (body_of g p))) ∙ ap names_of (sym (made_more g g.start events (Expand i p names)))))

  new_modules : map module_of (map (child_node g p (prefix_at r k)) (numbers_from 0 (length names))) ≡ body_of g p
  new_modules = map-map (numbers_from 0 (length names)) ∙ read_last [] (body_of g p) 0 (length names) 0 refl (sym can.one_each)
    where
      map-map : (js : List ℕ) → map module_of (map (child_node g p (prefix_at r k)) js) ≡ map (λ j. get_or (body_of g p) j 0) js
      map-map [] = refl
      map-map (j ∷ js) = ap (λ l. get_or (body_of g p) j 0 ∷ l) (map-map js)

  opened_modules : map module_of after.nodes ≡ map (λ (x : Instance). x.module_no) (made g g.start later)
  opened_modules =
      let changed = with_children (node_at r k) (numbers_from (length r.nodes) (length names)) in
      map-append module_of (set r.nodes k changed) (map (child_node g p (prefix_at r k)) (numbers_from 0 (length names)))
      ∙ (ap (λ l. map module_of (set r.nodes k changed) ++ l) (new_modules ∙ sym (modules-named names (body_of g p) can.one_each))
      ∙ (ap (λ l. l ++ map (λ (x : Instance). x.module_no) (named names (body_of g p))) (modules-set r.nodes k changed there refl ∙ run.modules)
      ∙ (sym (map-append (λ (x : Instance). x.module_no) (instances_of r events) (named names (body_of g p))) ∙ ap (map (λ (x : Instance). x.module_no)) (sym (made_more g g.start events (Expand i p names))))))

  name_old : (j : ℕ) → j < length r.nodes → name_at after j ≡ name_at r j
  name_old j h = get_or_append_left r.names names [] j (let c = names_count r events run in omega arith)

  name_new : (m : ℕ) → name_at after (length r.nodes + m) ≡ get_or names m []
  name_new m = ap (λ n. get_or (r.names ++ names) (n + m) []) (sym (names_count r events run)) ∙ get_or-append-add r.names names m []

  names_old : (js : List ℕ) → ((j : ℕ) → IsIn j js → j < length r.nodes) → names_at after js ≡ names_at r js
  names_old [] f = refl
  names_old (j ∷ js) f = ap (λ n. n ∷ names_at after js) (name_old j (f j (inl refl))) ∙ ap (λ l. name_at r j ∷ l) (names_old js (λ z h. f z (inr h)))

  place : (j : ℕ) → j < length r.nodes → IsAt (name_at r j) j r.names
  place j h = is_at j r.names [] (let c = names_count r events run in omega arith)

  name_made : (j : ℕ) → j < length r.nodes → IsIn (name_at r j) (names_of (made g g.start events))
  name_made j h = subst (IsIn (name_at r j)) run.names (at_in (name_at r j) j r.names (place j h))

  -- an instance that is not the expanded one
  kept_other : (j : ℕ) → j < length r.nodes → (j ≡ k → ⊥) → IsKeptAs after later (name_at r j) (node_at r j)
  kept_other j h d = record {
    children = by (node_at r j).children refl (run.each j h).children;
    composite = λ c. keeps.old (name_at r j) (node_at r j).bits (node_at r j).chain (name_made j h) ((run.each j h).composite c);
    atomic = (run.each j h).atomic;
  }
    where
      differs : i ≡ name_at r j → ⊥
      differs e = d (differ_at i j k r.names (names_differ r events run) (subst (λ z. IsAt z j r.names) (sym e) (place j h)) i_at)

      by : (o : Option (List ℕ)) → (node_at r j).children ≡ o → IsExpandedAs r events (name_at r j) o → IsExpandedAs after later (name_at r j) o
      by None e q = expansion_other events i p names (name_at r j) differs ∙ q
      by (Some js) e q = (q.0, expansion_other events i p names (name_at r j) differs ∙ (q.1 ∙ ap (expanded q.0) (sym (names_old js (children_there r events run j js h e)))))

  -- the expanded instance
  kept_this : IsKeptAs after later i (with_children (node_at r k) (numbers_from (length r.nodes) (length names)))
  kept_this = record {
    children = (
      p,
      expansion_later events (Expand i p names ∷ []) i can.open_end ∙ (ap (λ t. cond {A = Option Expanded} t (expanded p names) None) (bytes_same i i refl)
          ∙ ap (expanded p) (sym (read_last r.names names (length r.nodes) (length names) [] (names_count r events run) refl))),
    );
    composite = λ c. subst (λ z. IsPrefix g later z (node_at r k).bits (node_at r k).chain) named_so (keeps.old (name_at r k) (node_at r k).bits (node_at r k).chain (name_made k there) ((run.each k there).composite c));
    atomic = (run.each k there).atomic;
  }

  -- what is kept of it for its labels
  parent : IsPrefix g events i (node_at r k).bits (node_at r k).chain
  parent = subst (λ z. IsPrefix g events z (node_at r k).bits (node_at r k).chain) named_so ((run.each k there).composite (p, (can.in_range, head)))

  along : module_along g g.start (address_in events i) ≡ head_of g p
  along = (instance_law g g.start events (Expand i p names ∷ []) (instance_of i (head_of g p)) next.0 can.stands).ends

  child_prefixed : (m : ℕ) → m < length names → IsPrefix g later (get_or names m []) (prefix_by g (step m) (prefix_at r k)).bits (prefix_by g (step m) (prefix_at r k)).chain
  child_prefixed m h = go (continues g (head_of g p) (step m)) refl
    where
      at : IsAt (get_or names m []) m names
      at = is_at m names [] h

      on_chain : continuing g (head_of g p) ≡ Some (step m) → (o : Option ℕ) → IsPrefix g events i (node_at r k).bits o → IsPrefix g later (get_or names m []) (node_at r k).bits (option_map (λ c. c + 1) o)
      on_chain e None q =
          let n : continuing g (head_of g p) ≡ None = ap (continuing g) (sym along) ∙ (prefix_law g wf g.start (address_in events i)).on_cycle.0 (sym q.chain_is) in
          let z : Some (step m) ≡ None = sym e ∙ n in
          absurd (cc)
      on_chain e (Some c) q = keeps.goes_on (get_or names m []) m (node_at r k).bits c at e q

      go : (t : Bool) → continues g (head_of g p) (step m) ≡ t → IsPrefix g later (get_or names m []) (prefix_by g (step m) (prefix_at r k)).bits (prefix_by g (step m) (prefix_at r k)).chain
      go true e = subst (λ t. IsPrefix g later (get_or names m []) (prefix_if g (step m) (prefix_at r k) t).bits (prefix_if g (step m) (prefix_at r k) t).chain) (sym e) (on_chain (continues_gives g (head_of g p) (step m) e) (node_at r k).chain parent)
      go false e = subst (λ t. IsPrefix g later (get_or names m []) (prefix_if g (step m) (prefix_at r k) t).bits (prefix_if g (step m) (prefix_at r k) t).chain) (sym e) (keeps.leaves (get_or names m []) m (node_at r k).bits (node_at r k).chain at (continues_not g (head_of g p) (step m) e) parent)

  -- a child
  kept_new : (m : ℕ) → m < length names → IsKeptAs after later (get_or names m []) (child_node g p (prefix_at r k) m)
  kept_new m h = record {
    children = expansion_other events i p names (get_or names m []) (λ e. new (subst (IsIn i) run.names (at_in i k r.names i_at)) e) ∙ none (expanded_by events (get_or names m [])) refl;
    composite = λ c. subst (λ t. IsPrefix g later (get_or names m []) (prefix_where g (step m) (prefix_at r k) t).bits (prefix_where g (step m) (prefix_at r k) t).chain) (sym (composite_is g (target_of g (step m)) c)) (child_prefixed m h);
    atomic = λ c. let e = ap (prefix_where g (step m) (prefix_at r k)) (atomic_is g (target_of g (step m)) c) in (ap (λ (q : Prefix). q.bits) e, ap (λ (q : Prefix). q.chain) e);
  }
    where
      among : IsIn (get_or names m []) names
      among = at_in (get_or names m []) m names (is_at m names [] h)

      new : IsIn i (names_of (made g g.start events)) → i ≡ get_or names m [] → ⊥
      new l e = can.new (get_or names m []) among (subst (λ z. IsIn z (names_of (made g g.start events))) e l)

      none : (o : Option Expanded) → expanded_by events (get_or names m []) ≡ o → expanded_by events (get_or names m []) ≡ None
      none None e = e
      none (Some x) e = absurd (can.new (get_or names m []) among ((run_state g (record { expanded = []; shown = [] }) g.start events run.accepted.0).expanded_made (get_or names m []) x e))

  kept_each : (j : ℕ) → j < length after.nodes → IsKeptOf after later j
  kept_each j h =
      ⊎_elim
      (λ l. ⊎_elim
      (λ e. kept_by after later j i _ (ap (name_at after) e ∙ (name_old k there ∙ named_so)) (ap (node_at after) e ∙ node_expanded r k p names there) kept_this)
      (λ d. kept_by after later j (name_at r j) (node_at r j) (name_old j l) (node_other r k p names j l d) (kept_other j l d))
      (cases_eq j k))
      (λ l. let e : j ≡ length r.nodes + (j - length r.nodes) = omega arith in
      let s : j - length r.nodes < length names = omega (arith, h, length-opened r k p names) in
      kept_by after later j (get_or names (j - length r.nodes) []) _ (ap (name_at after) e ∙ name_new (j - length r.nodes)) (ap (node_at after) e ∙ node_new r k p names (j - length r.nodes) s) (kept_new (j - length r.nodes) s))
      (cases_lt j (length r.nodes))

  pub opened_is_run : IsRunOf after later
  opened_is_run = record {
    accepted = next;
    names = opened_names;
    modules = opened_modules;
    each = kept_each;
    expands = omega (arith, run.expands, expand_events-append events (Expand i p names ∷ []));
  }
