-- Which instances of a table are open, and how they are expanded.
use Rattle.std.proofs.Common.{◌≡◌, ℕ, ◌<◌, true, ◌&&◌, List, [], take, drop, map, length, get_or, Option, Some, None, sym, ap, subst, ◌∙◌}
use Rattle.std.specs.Prelude.{option_map, bytes_eq, IsTrue, MatchOption}
use Rattle.std.proofs.lemmas.Bool.{and_parts, and_from}
use Rattle.wf_model.specs.declared.numbers.ProdNo.{ProdNo}
use Rattle.wf_model.specs.Lists.{IsIn}
use Rattle.wf_model.specs.Grammar.{Grammar, body_of, head_of}
use Rattle.wf_model.specs.View.{View, expands}
use Rattle.wf_model.specs.Run.{Instance, Expanded, made, expanded_by, opens, seen_in, IsOpen}
use Rattle.wf_model.proofs.Lists.{at_in, is_at, some_gives, some_from, same_bytes, bytes_same}
use Rattle.wf_model.proofs.Runs.{run_state}
use Rattle.wf_model.proofs.Differ.{one_of_name}
use Rattle.wf_model.proofs.Taking.{run_differs}
use Rattle.wf_model.proofs.Level.{opening}
use Rattle.wf_model.proofs.Mapping.{at_map}
use Rattle.wf_flat.specs.declared.table.Inst.{Inst}
use Rattle.wf_flat.specs.Table.{Table, IsTableOf, instance_of, names_in, no_instance, events_of}
use Rattle.wf_flat.specs.Graph.{inst_at}
use Rattle.wf_flat.proofs.SeenNumbers.{name_at}

module _ (g : Grammar) (t : Table) (run : IsTableOf g t) (k : ℕ) (there : k < length t.instances) where
  abbrev x : Inst
  x = get_or t.instances k no_instance

  made_at : IsIn (inst_at t.instances k) (made g g.start (events_of t))
  made_at = subst (IsIn (instance_of x)) run.made (at_in (instance_of x) k (map instance_of t.instances) (at_map instance_of x k t.instances (is_at k t.instances no_instance there)))

  -- the instance of its name that was made is the one of the number
  pub made_is : (i : Instance) → IsIn i (made g g.start (events_of t)) → i.name ≡ get_or (names_in t.instances) k [] → i ≡ inst_at t.instances k
  made_is i h e = one_of_name (made g g.start (events_of t)) (run_differs g g.start (events_of t) run.accepted.0) i (inst_at t.instances k) h made_at (e ∙ name_at g t run k there)

  -- by what it is expanded
  pub expansion : (p : ProdNo) → x.production ≡ Some p → expanded_by (events_of t) x.name ≡ Some (record { production = p.0; names = take (length (body_of g p.0)) (drop x.first_child (names_in t.instances)) })
  expansion p e = run.expanded k x (is_at k t.instances no_instance there) ∙ ap (option_map {U = Expanded} (λ (r : ProdNo). record { production = r.0; names = take (length (body_of g r.0)) (drop x.first_child (names_in t.instances)) })) e

  pub no_expansion : x.production ≡ None → expanded_by (events_of t) x.name ≡ None
  no_expansion e = run.expanded k x (is_at k t.instances no_instance there) ∙ ap (option_map {U = Expanded} (λ (r : ProdNo). record { production = r.0; names = take (length (body_of g r.0)) (drop x.first_child (names_in t.instances)) })) e

  -- the module of an expanded instance is the head of its production
  pub head_is : (p : ProdNo) → x.production ≡ Some p → (p.0 < length g.productions) × (head_of g p.0 ≡ x.module.0)
  head_is p e =
      let o = opening g g.start [] (events_of t) x.name (record { production = p.0; names = take (length (body_of g p.0)) (drop x.first_child (names_in t.instances)) }) run.accepted.0 (expansion p e) in
      (o.in_range, ap (λ (i : Instance). i.module_no) (made_is (record { name = x.name; module_no = head_of g p.0 }) o.stands (sym (name_at g t run k there))))

module _ (g : Grammar) (u : View) (t : Table) (run : IsTableOf g t) (k : ℕ) (there : k < length t.instances) where
  abbrev y : Inst
  y = get_or t.instances k no_instance

  abbrev seen : List Instance
  seen = seen_in g u g.start (events_of t)

  -- the instance of its name that is seen is the one of the number
  pub seen_is : (i : Instance) → IsIn i seen → i.name ≡ get_or (names_in t.instances) k [] → i ≡ inst_at t.instances k
  seen_is i h e = made_is g t run k there i ((run_state g u g.start (events_of t) run.accepted.0).seen_made i h) e

  -- it is open where it opens once it is expanded, and is
  pub open_from : opens u seen (get_or (names_in t.instances) k []) ≡ true → (p : ProdNo) → y.production ≡ Some p → IsOpen g u g.start (events_of t) (inst_at t.instances k)
  open_from h p e =
      let n = get_or (names_in t.instances) k [] in
      let r = some_gives (λ (i : Instance). bytes_eq i.name n && expands u i.module_no) seen h in
      let both = and_parts (bytes_eq r.0.name n) (expands u r.0.module_no) r.2 in
      let same = seen_is r.0 r.1 (same_bytes r.0.name n both.0) in
      (subst (λ z. IsIn z seen) same r.1, subst (λ (z : Instance). IsTrue (expands u z.module_no)) same both.1, (record { production = p.0; names = take (length (body_of g p.0)) (drop y.first_child (names_in t.instances)) }, expansion g t run k there p e))

  pub open_gives : IsOpen g u g.start (events_of t) (inst_at t.instances k) → opens u seen (get_or (names_in t.instances) k []) ≡ true
  open_gives h =
      let n = get_or (names_in t.instances) k [] in
      some_from (λ (i : Instance). bytes_eq i.name n && expands u i.module_no) (inst_at t.instances k) seen h.0 (and_from (bytes_eq y.name n) (expands u y.module.0) (bytes_same y.name n (sym (name_at g t run k there))) h.1)

  pub not_open : y.production ≡ None → IsOpen g u g.start (events_of t) (inst_at t.instances k) → ⊥
  not_open e h = let z = sym (no_expansion g t run k there e) ∙ h.2.1 in absurd (cc)

  -- what is open, by what the table tells
  pub open_told : opens u seen (get_or (names_in t.instances) k []) ≡ true → (o : Option ProdNo) → y.production ≡ o →
      MatchOption o (IsOpen g u g.start (events_of t) (inst_at t.instances k) → ⊥) (λ p. IsOpen g u g.start (events_of t) (inst_at t.instances k) × (y.production ≡ Some p))
  open_told h None e = not_open e
  open_told h (Some p) e = (open_from h p e, e)
