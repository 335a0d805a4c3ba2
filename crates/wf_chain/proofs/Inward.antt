-- From a port of an open instance an entry or an exit leads to a port of a child.
use Rattle.std.proofs.Common.{◌≡◌, ℕ, zero, suc, ◌+◌, ◌<◌, List, [], ◌∷◌, take, drop, length, get_or, Some, None, refl, sym, ap, subst, ◌∙◌, inl, inr, arith}
use Rattle.std.proofs.lemmas.List.{get_or-take, get_or-drop}
use Rattle.wf_model.specs.declared.numbers.ProdNo.{ProdNo}
use Rattle.wf_model.specs.declared.numbers.Side.{Side}
use Rattle.wf_model.specs.declared.numbers.Side.TheVariants.{Input, Output}
use Rattle.wf_model.specs.declared.event.Event.TheVariants.{Expand}
use Rattle.wf_model.specs.Lists.{IsIn, IsAt}
use Rattle.wf_model.specs.Grammar.{Grammar, Inner, body_of, production_at, module_at}
use Rattle.wf_model.specs.WellFormed.{IsWellFormed}
use Rattle.wf_model.specs.Run.{Instance, Expanded, named, made, made_by, names_of, CanExpand, seen_in, IsOpen}
use Rattle.wf_model.specs.Links.{input, output, entry_links, exit_links}
use Rattle.wf_model.proofs.Lists.{at_in, is_at, at_below, in_flat_map}
use Rattle.wf_model.proofs.Runs.{named_at}
use Rattle.wf_model.proofs.Walks.{walk_one}
use Rattle.wf_model.proofs.Open.{open_law}
use Rattle.wf_model.proofs.Expanding.{expanded_from}
use Rattle.wf_model.proofs.ItemNames.{extends_before}
use Rattle.wf_model.proofs.Mapping.{at_map}
use Rattle.chain_model.specs.Chains.{IsEntry, IsExit}
use Rattle.wf_flat.specs.declared.table.Inst.{Inst}
use Rattle.wf_flat.specs.declared.graph.Port.{Port as PortHeld}
use Rattle.wf_flat.specs.Table.{Table, IsTableOf, names_in, no_instance, events_of}
use Rattle.wf_flat.specs.Graph.{inst_at}
use Rattle.wf_flat.proofs.Instances.{same_names}
use Rattle.wf_flat.proofs.SeenNumbers.{name_at}
use Rattle.wf_chain.specs.HeldItems.{side_names, module_of}
use Rattle.wf_chain.specs.ViewedRuns.{ViewedRunValue, grammar_in, view_in, events_in}
use Rattle.wf_chain.specs.Steps.{side_inners, IsSeenIn, IsOpenIn, IsSeenPort, LeadsInward}
use Rattle.wf_chain.proofs.Opening.{made_is, expansion, head_is}
use Rattle.wf_chain.proofs.Later.{child_later}

-- what stands at a place of the entries is a link of that input
entry_at : (is : List Inner) (k j n : ℕ) (i : Inner) → IsAt i j is → n ≡ k + j → IsIn (record { from = input None n; to = input (Some i.position) i.port }) (entry_links k is)
entry_at [] k j n i h e = absurd h
entry_at (y ∷ is) k zero n i h e = let s : n ≡ k = omega arith in inl (λ z. record { from = input None (s z); to = input (Some (h z).position) (h z).port })
entry_at (y ∷ is) k (suc j) n i h e = let s : n ≡ suc k + j = omega arith in inr (entry_at is (suc k) j n i h s)

-- and at a place of the exits one of that output
exit_at : (is : List Inner) (k j n : ℕ) (i : Inner) → IsAt i j is → n ≡ k + j → IsIn (record { from = output (Some i.position) i.port; to = output None n }) (exit_links k is)
exit_at [] k j n i h e = absurd h
exit_at (y ∷ is) k zero n i h e = let s : n ≡ k = omega arith in inl (λ z. record { from = output (Some (h z).position) (h z).port; to = output None (s z) })
exit_at (y ∷ is) k (suc j) n i h e = let s : n ≡ suc k + j = omega arith in inr (exit_at is (suc k) j n i h s)

module _ (v : ViewedRunValue) (run : IsTableOf (grammar_in v) v.run) (wf : IsWellFormed (grammar_in v)) (k : ℕ) (there : k < length v.run.instances) (q : ProdNo)
    (by : (get_or v.run.instances k no_instance).production ≡ Some q) (pos m : ℕ) (at : IsAt m pos (body_of (grammar_in v) q.0)) where
  abbrev g : Grammar
  g = grammar_in v

  abbrev t : Table
  t = v.run

  abbrev x : Inst
  x = get_or t.instances k no_instance

  abbrev names : List (List ℕ)
  names = names_in t.instances

  abbrev given : List (List ℕ)
  given = take (length (body_of g q.0)) (drop x.first_child names)

  abbrev expanded : Expanded
  expanded = record { production = q.0; names = given }

  low : pos < length (body_of g q.0)
  low = at_below m pos (body_of g q.0) at

  -- the child is in the table
  pub child_there : x.first_child + pos < length t.instances
  child_there = let room = run.children k x q (is_at k t.instances no_instance there) by in let l = low in omega arith

  pub child_name : get_or given pos [] ≡ get_or names (x.first_child + pos) []
  child_name = get_or-take (length (body_of g q.0)) (drop x.first_child names) pos [] low ∙ get_or-drop x.first_child names pos []

  gives : IsIn (Expand x.name q.0 given) (events_of t)
  gives = expanded_from (events_of t) x.name expanded (expansion g t run k there q by)

  one_each : length given ≡ length (body_of g q.0)
  one_each = (extends_before g g.start [] (events_of t) (Expand x.name q.0 given) run.accepted.0 gives).1.one_each

  place : IsAt (get_or given pos []) pos given
  place = is_at pos given [] (subst (λ n. pos < n) (sym one_each) low)

  abbrev child : Instance
  child = record { name = get_or given pos []; module_no = m }

  child_named : IsIn child (named given (body_of g q.0))
  child_named = named_at (get_or given pos []) m pos given (body_of g q.0) place at

  -- it has the module of the position
  pub child_is : child ≡ inst_at t.instances (x.first_child + pos)
  child_is = made_is g t run (x.first_child + pos) child_there child (in_flat_map (made_by g g.start) (Expand x.name q.0 given) child (events_of t) gives child_named) child_name

  pub child_seen : IsOpenIn v k → IsSeenIn v (x.first_child + pos)
  child_seen opened =
      (open_law g (view_in v) g.start (events_of t) run.accepted.0 (inst_at t.instances (x.first_child + pos))).1
      (inr (inst_at t.instances k, opened, (expanded, expansion g t run k there q by, subst (λ z. IsIn z (named given (body_of g q.0))) child_is child_named)))

  pub child_behind : k < x.first_child + pos
  child_behind =
      child_later g g.start (events_of t) run.accepted.0 x.name q.0 given (get_or given pos []) gives (at_in (get_or given pos []) pos given place) k (x.first_child + pos)
      (subst (IsAt x.name k) (sym (same_names g t run)) (at_map (λ (z : Inst). z.name) x k t.instances (is_at k t.instances no_instance there)))
      (subst (IsAt (get_or given pos []) (x.first_child + pos)) (sym (same_names g t run))
      (subst (λ n. IsAt n (x.first_child + pos) names) (sym (child_name ∙ name_at g t run (x.first_child + pos) child_there))
      (at_map (λ (z : Inst). z.name) (get_or t.instances (x.first_child + pos) no_instance) (x.first_child + pos) t.instances (is_at (x.first_child + pos) t.instances no_instance child_there))))

module _ (v : ViewedRunValue) (run : IsTableOf (grammar_in v) v.run) (wf : IsWellFormed (grammar_in v)) (p : PortHeld) (port : IsSeenPort v p) (q : ProdNo) (in_range : q.0 < length (grammar_in v).productions)
    (by : (get_or v.run.instances p.instance no_instance).production ≡ Some q) (opened : IsOpenIn v p.instance) (i : Inner) (at : IsAt i p.port.0 (side_inners p.side (production_at (grammar_in v) q.0))) where
  abbrev g' : Grammar
  g' = grammar_in v

  abbrev first : ℕ
  first = (get_or v.run.instances p.instance no_instance).first_child

  abbrev name : List ℕ
  name = (get_or v.run.instances p.instance no_instance).name

  abbrev names' : List (List ℕ)
  names' = names_in v.run.instances

  abbrev given' : List (List ℕ)
  given' = take (length (body_of g' q.0)) (drop first names')

  -- the position is there, and its module has the port
  position_there : (m : ℕ) × IsAt m i.position (body_of g' q.0) × (i.port < length (side_names p.side (module_at g' m)))
  position_there = go p.side at
    where
      go : (s : Side) → IsAt i p.port.0 (side_inners s (production_at g' q.0)) → (m : ℕ) × IsAt m i.position (body_of g' q.0) × (i.port < length (side_names s (module_at g' m)))
      go Input h = (wf.bodies q.0 in_range).entries_to i (at_in i p.port.0 (production_at g' q.0).entries h)
      go Output h = (wf.bodies q.0 in_range).exits_from i (at_in i p.port.0 (production_at g' q.0).exits h)

  abbrev m : ℕ
  m = position_there.0

  abbrev inner : PortHeld
  inner = record { instance = first + i.position; side = p.side; port = record { 0 = i.port } }

  pub inner_there : first + i.position < length v.run.instances
  inner_there = child_there v run wf p.instance port.there q by i.position m position_there.1

  pub inner_seen : IsSeenPort v inner
  inner_seen = record {
    there = inner_there;
    seen = child_seen v run wf p.instance port.there q by i.position m position_there.1 opened;
    in_range = subst (λ (z : Instance). i.port < length (side_names p.side (module_at g' z.module_no))) (child_is v run wf p.instance port.there q by i.position m position_there.1) position_there.2;
  }

  pub inner_behind : p.instance < first + i.position
  inner_behind = child_behind v run wf p.instance port.there q by i.position m position_there.1

  same_name : get_or given' i.position [] ≡ get_or names' (first + i.position) []
  same_name = child_name v run wf p.instance port.there q by i.position m position_there.1

  told : Rattle.wf_model.specs.Run.expanded_by (events_in v) name ≡ Some (record { production = q.0; names = given' })
  told = expansion g' v.run run p.instance port.there q by

  pub inner_led : LeadsInward v p.side p inner
  inner_led = go p.side refl at
    where
      own : get_or names' p.instance [] ≡ name
      own = name_at g' v.run run p.instance port.there

      go : (s : Side) → p.side ≡ s → IsAt i p.port.0 (side_inners s (production_at g' q.0)) → LeadsInward v s p inner
      go Input e h = walk_one {R = IsEntry g' (view_in v) g'.start (events_in v)} (record {
        owner = inst_at v.run.instances p.instance;
        is_open = opened;
        by = record { production = q.0; names = given' };
        told = told;
        inner = record { from = input None p.port.0; to = input (Some i.position) i.port };
        in_body = entry_at (production_at g' q.0).entries 0 p.port.0 p.port.0 i h (omega arith);
        is = λ z. record { from = record { owner = own z; side = e z; number = p.port.0 }; to = record { owner = sym same_name z; side = e z; number = i.port } };
      })
      go Output e h = walk_one {R = IsExit g' (view_in v) g'.start (events_in v)} (record {
        owner = inst_at v.run.instances p.instance;
        is_open = opened;
        by = record { production = q.0; names = given' };
        told = told;
        inner = record { from = output (Some i.position) i.port; to = output None p.port.0 };
        in_body = exit_at (production_at g' q.0).exits 0 p.port.0 p.port.0 i h (omega arith);
        is = λ z. record { from = record { owner = sym same_name z; side = e z; number = i.port }; to = record { owner = own z; side = e z; number = p.port.0 } };
      })

-- a port of an expanded instance has its entry or exit
pub side_wide : (g : Grammar) (t : Table) (run : IsTableOf g t) → IsWellFormed g → (k : ℕ) (there : k < length t.instances) (q : ProdNo) → (get_or t.instances k no_instance).production ≡ Some q →
    (s : Side) (n : ℕ) → n < length (side_names s (module_of g t k)) → n < length (side_inners s (production_at g q.0))
side_wide g t run wf k there q by Input n h = let r = head_is g t run k there q by in subst (λ z. n < z) (sym ((wf.bodies q.0 r.0).one_entry_each ∙ ap (λ z. length (module_at g z).inputs) r.1)) h
side_wide g t run wf k there q by Output n h = let r = head_is g t run k there q by in subst (λ z. n < z) (sym ((wf.bodies q.0 r.0).one_exit_each ∙ ap (λ z. length (module_at g z).outputs) r.1)) h
