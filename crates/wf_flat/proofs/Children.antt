-- The children of an instance that is expanded, in the table.
use Rattle.std.proofs.Common.{◌≡◌, ℕ, ◌+◌, ◌<◌, List, [], take, drop, map, length, get_or, Some, sym, ap, subst, ◌∙◌, arith}
use Rattle.std.specs.Prelude.{option_map}
use Rattle.std.proofs.lemmas.List.{get_or-take, get_or-drop}
use Rattle.wf_model.specs.declared.event.Event.{Event}
use Rattle.wf_model.specs.declared.event.Event.TheVariants.{Expand}
use Rattle.wf_model.specs.declared.numbers.ProdNo.{ProdNo}
use Rattle.wf_model.specs.Lists.{IsIn, IsAt}
use Rattle.wf_model.specs.Grammar.{Grammar, body_of, head_of}
use Rattle.wf_model.specs.Run.{Instance, Expanded, named, made, made_by, expanded_by, names_of, CanExpand}
use Rattle.wf_model.proofs.Lists.{at_in, is_at, in_flat_map, differ_at}
use Rattle.wf_model.proofs.Runs.{named_at, name_in}
use Rattle.wf_model.proofs.Differ.{one_of_name}
use Rattle.wf_model.proofs.Taking.{run_differs}
use Rattle.wf_model.proofs.ItemNames.{extends_before, made_once}
use Rattle.wf_model.proofs.Expanding.{expanded_from}
use Rattle.wf_model.proofs.Level.{opening}
use Rattle.wf_model.proofs.Mapping.{at_map}
use Rattle.wf_flat.specs.declared.table.Inst.{Inst}
use Rattle.wf_flat.specs.Table.{Table, IsTableOf, instance_of, names_in, events_of, no_instance}
use Rattle.wf_flat.proofs.SeenNumbers.{all_differ, name_at}

module _ (g : Grammar) (t : Table) (run : IsTableOf g t) where
  -- the instance of a name that was made is the one of its number
  made_is : (k : ℕ) → k < length t.instances → (i : Instance) → IsIn i (made g g.start (events_of t)) → i.name ≡ get_or (names_in t.instances) k [] → i ≡ instance_of (get_or t.instances k no_instance)
  made_is k there i h e =
      let x = get_or t.instances k no_instance in
      one_of_name (made g g.start (events_of t)) (run_differs g g.start (events_of t) run.accepted.0) i (instance_of x) h
      (subst (IsIn (instance_of x)) run.made (at_in (instance_of x) k (map instance_of t.instances) (at_map instance_of x k t.instances (is_at k t.instances no_instance there))))
      (e ∙ name_at g t run k there)

  module _ (j : ℕ) (there : j < length t.instances) (q : ProdNo) (by : (get_or t.instances j no_instance).production ≡ Some q) where
    abbrev x : Inst
    x = get_or t.instances j no_instance

    abbrev given : List (List ℕ)
    given = take (length (body_of g q.0)) (drop x.first_child (names_in t.instances))

    expansion : expanded_by (events_of t) x.name ≡ Some (record { production = q.0; names = given })
    expansion = run.expanded j x (is_at j t.instances no_instance there) ∙ ap (option_map {U = Expanded} (λ (r : ProdNo). record { production = r.0; names = take (length (body_of g r.0)) (drop x.first_child (names_in t.instances)) })) by

    gives : IsIn (Expand x.name q.0 given) (events_of t)
    gives = expanded_from (events_of t) x.name (record { production = q.0; names = given }) expansion

    -- the module of the instance is the head of its production
    pub head_is : head_of g q.0 ≡ x.module.0
    head_is =
        let o = opening g g.start [] (events_of t) x.name (record { production = q.0; names = given }) run.accepted.0 expansion in
        ap (λ (i : Instance). i.module_no) (made_is j there (record { name = x.name; module_no = head_of g q.0 }) o.stands (sym (name_at g t run j there)))

    can : (before : List Event) × CanExpand g g.start before x.name q.0 given
    can = extends_before g g.start [] (events_of t) (Expand x.name q.0 given) run.accepted.0 gives

    module _ (pos : ℕ) (low : pos < length (body_of g q.0)) where
      pub child_there : x.first_child + pos < length t.instances
      child_there = let room = run.children j x q (is_at j t.instances no_instance there) by in omega arith

      child_name : get_or given pos [] ≡ get_or (names_in t.instances) (x.first_child + pos) []
      child_name = get_or-take (length (body_of g q.0)) (drop x.first_child (names_in t.instances)) pos [] low ∙ get_or-drop x.first_child (names_in t.instances) pos []

      abbrev child : Instance
      child = record { name = get_or given pos []; module_no = get_or (body_of g q.0) pos 0 }

      child_named : IsIn child (named given (body_of g q.0))
      child_named = named_at (get_or given pos []) (get_or (body_of g q.0) pos 0) pos given (body_of g q.0) (is_at pos given [] (subst (λ n. pos < n) (sym can.1.one_each) low)) (is_at pos (body_of g q.0) 0 low)

      -- its module is that of its position
      pub child_module : get_or (body_of g q.0) pos 0 ≡ (get_or t.instances (x.first_child + pos) no_instance).module.0
      child_module =
          ap (λ (i : Instance). i.module_no)
          (made_is (x.first_child + pos) child_there child (in_flat_map (made_by g g.start) (Expand x.name q.0 given) child (events_of t) gives child_named) child_name)

      pub child_given : IsIn (get_or (names_in t.instances) (x.first_child + pos) []) (names_of (made_by g g.start (Expand x.name q.0 given)))
      child_given = subst (λ n. IsIn n (names_of (named given (body_of g q.0)))) child_name (name_in child (named given (body_of g q.0)) child_named)

  -- an instance has one parent
  pub one_parent : (i j : ℕ) (hi : i < length t.instances) (hj : j < length t.instances) (p q : ProdNo) (bi : (get_or t.instances i no_instance).production ≡ Some p) (bj : (get_or t.instances j no_instance).production ≡ Some q)
      (a b : ℕ) → a < length (body_of g p.0) → b < length (body_of g q.0) → (get_or t.instances i no_instance).first_child + a ≡ (get_or t.instances j no_instance).first_child + b → i ≡ j
  one_parent i j hi hj p q bi bj a b la lb e =
      let x = get_or t.instances i no_instance in
      let y = get_or t.instances j no_instance in
      let ns = names_in t.instances in
      let d : Expand x.name p.0 (given i hi p bi) ≡ Expand y.name q.0 (given j hj q bj) =
      made_once g g.start (get_or ns (y.first_child + b) []) (events_of t) (run_differs g g.start (events_of t) run.accepted.0) (Expand x.name p.0 (given i hi p bi)) (Expand y.name q.0 (given j hj q bj))
      (gives i hi p bi) (gives j hj q bj)
      (subst (λ n. IsIn (get_or ns n []) (names_of (made_by g g.start (Expand x.name p.0 (given i hi p bi))))) e (child_given i hi p bi a la)) (child_given j hj q bj b lb) in
      let n : x.name ≡ y.name = cc in
      differ_at y.name i j ns (all_differ g t run)
      (subst (λ z. IsAt z i ns) n (at_map (λ (z : Inst). z.name) x i t.instances (is_at i t.instances no_instance hi)))
      (at_map (λ (z : Inst). z.name) y j t.instances (is_at j t.instances no_instance hj))
