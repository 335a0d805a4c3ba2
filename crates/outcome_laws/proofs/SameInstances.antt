-- A plain run and a labelled run that stand for the same events have the same instances.
use Rattle.std.proofs.Common.{◌≡◌, ℕ, ◌<◌, List, [], length, get_or, map, Option, Some, None, sym, ap, ◌∙◌, subst, arith}
use Rattle.std.specs.Prelude.{option_map}
use Rattle.std.proofs.lemmas.List.{length-map, get_or-map, ext_get_or}
use Rattle.wf_model.specs.Run.{Instance, Expanded, made, expanded_by}
use Rattle.wf_model.proofs.Lists.{is_at}
use Rattle.wf_flat.specs.declared.table.Inst.{Inst}
use Rattle.wf_flat.specs.Table.{Table, instance_of, names_in, no_instance, events_of, IsTableOf}
use Rattle.std.proofs.lemmas.Simd.{map-map}
use Rattle.wf_flat.proofs.Instances.{same_names}
use Rattle.wf_run.specs.Runs.{Node, RunSeen, node_at, name_at, names_at, IsExpandedAs, IsRunOf}
use Rattle.outcome_laws.specs.SameInstances.{module_in, children_in, children_of, HaveSameInstances, SameInstancesLaw}

-- the names of the children of an instance that is expanded so
abbrev names_by : Option Expanded → Option (List (List ℕ))
names_by = option_map (λ (x : Expanded). x.names)

module _ (t : Table) (r : RunSeen) (plain : IsTableOf r.grammar.core t) (labelled : IsRunOf r (events_of t)) where
  abbrev instances : List Instance
  instances = made r.grammar.core r.grammar.core.start (events_of t)

  names : names_in t.instances ≡ r.names
  names = sym (same_names r.grammar.core t plain) ∙ sym labelled.names

  modules : map module_in t.instances ≡ map (λ (n : Node). n.module_no) r.nodes
  modules = sym (map-map (λ (i : Instance). i.module_no) instance_of t.instances) ∙ (ap (map (λ (i : Instance). i.module_no)) plain.made ∙ sym labelled.modules)

  count : length t.instances ≡ length r.nodes
  count = sym (length-map t.instances module_in) ∙ (ap length modules ∙ length-map r.nodes (λ (n : Node). n.module_no))

  -- of each number the name is one
  name : (k : ℕ) → k < length t.instances → (get_or t.instances k no_instance).name ≡ name_at r k
  name k h = sym (get_or-map (λ (x : Inst). x.name) t.instances k no_instance [] h) ∙ ap (λ ns. get_or ns k []) names

  -- so are the names of its children
  by_table : (k : ℕ) → k < length t.instances → names_by (expanded_by (events_of t) (name_at r k)) ≡ children_in r.grammar.core t (get_or t.instances k no_instance)
  by_table k h =
      ap (λ n. names_by (expanded_by (events_of t) n)) (sym (name k h))
      ∙ ap names_by (plain.expanded k (get_or t.instances k no_instance) (is_at k t.instances no_instance h))

  by_node : (k : ℕ) (ks : Option (List ℕ)) → IsExpandedAs r (events_of t) (name_at r k) ks → names_by (expanded_by (events_of t) (name_at r k)) ≡ option_map (names_at r) ks
  by_node k None h = ap names_by h
  by_node k (Some ks) h = ap names_by h.1

  same_children : (k : ℕ) → k < length t.instances → children_in r.grammar.core t (get_or t.instances k no_instance) ≡ children_of r (node_at r k)
  same_children k h =
      let l : k < length r.nodes = let c = count in omega arith in
      sym (by_table k h) ∙ by_node k (node_at r k).children (labelled.each k l).children

  children : map (children_in r.grammar.core t) t.instances ≡ map (children_of r) r.nodes
  children =
      ext_get_or None (map (children_in r.grammar.core t) t.instances) (map (children_of r) r.nodes)
      (length-map t.instances (children_in r.grammar.core t) ∙ (count ∙ sym (length-map r.nodes (children_of r))))
      (λ k h. at k (subst (λ n. k < n) (length-map t.instances (children_in r.grammar.core t)) h))
    where
      at : (k : ℕ) → k < length t.instances → get_or (map (children_in r.grammar.core t) t.instances) k None ≡ get_or (map (children_of r) r.nodes) k None
      at k h =
          let l : k < length r.nodes = let c = count in omega arith in
          get_or-map (children_in r.grammar.core t) t.instances k no_instance None h
          ∙ (same_children k h ∙ sym (get_or-map (children_of r) r.nodes k (record { module_no = 0; children = None; bits = []; chain = None }) None l))

  same_instances : HaveSameInstances t r
  same_instances = record { names = names; modules = modules; children = children }

pub same_instances_law : SameInstancesLaw
same_instances_law events t r are plain labelled = same_instances t r plain (subst (IsRunOf r) (sym are) labelled)
