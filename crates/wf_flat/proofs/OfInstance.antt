-- The links of one instance, from the table.
use Rattle.std.proofs.Common.{◌≡◌, ℕ, ◌<◌, ◌≤◌, true, false, cond, List, [], ◌∷◌, ◌++◌, map, take, drop, length, get_or, Option, Some, None, ap, sym, subst, ◌∙◌, ⊎_elim}
use Rattle.std.specs.Prelude.{option_map}
use Rattle.std.proofs.lemmas.List.{get_or-map}
use Rattle.wf_model.specs.declared.event.Event.{Event}
use Rattle.wf_model.specs.declared.event.Event.TheVariants.{Start, Expand}
use Rattle.wf_model.specs.declared.numbers.ProdNo.{ProdNo}
use Rattle.wf_model.specs.Lists.{IsIn}
use Rattle.wf_model.specs.Grammar.{Grammar, Production, Edge, Inner, Assignment, production_at, module_at, body_of, head_of}
use Rattle.wf_model.specs.WellFormed.{IsWellFormed}
use Rattle.wf_model.specs.View.{View, expands}
use Rattle.wf_model.specs.Run.{Instance, Expanded, named, made, made_by, expanded_by, AllExtend}
use Rattle.wf_model.specs.Links.{Link, edge_link, entry_links, exit_links, links_of, opened_links, pair_links, move_link, instance_at}
use Rattle.wf_model.proofs.Lists.{in_append_cases, at_in, at_below, is_at}
use Rattle.wf_model.proofs.Runs.{at_named}
use Rattle.wf_model.proofs.Level.{opening}
use Rattle.wf_model.proofs.Mapping.{at_map}
use Rattle.wf_flat.specs.declared.table.Inst.{Inst}
use Rattle.wf_flat.specs.Table.{Table, IsTableOf, instance_of, names_in, events_of, no_instance}
use Rattle.wf_flat.specs.Graph.{inst_at}

-- the positions that a production names are below a number
pub record AreBelow (count : ℕ) (r : Production) : Type 0 where
  pub edges : (e : Edge) → IsIn e r.edges → (e.from.position < count) × (e.to.position < count)
  pub entries : (i : Inner) → IsIn i r.entries → i.position < count
  pub exits : (i : Inner) → IsIn i r.exits → i.position < count

-- the edges, entries and exits of a body
abbrev pub wiring_of : Production → List (Link (Option ℕ))
wiring_of r = map edge_link r.edges ++ (entry_links 0 r.entries ++ exit_links 0 r.exits)

-- the modules of a run's instances are there
made_in_range : (g : Grammar) → IsWellFormed g → (m : ℕ) → m < length g.modules → (b a : List Event) → AllExtend g m b a → (i : Instance) → IsIn i (made g m a) → i.module_no < length g.modules
made_in_range g wf m h b [] x i k = absurd k
made_in_range g wf m h b (Start r ∷ a) x i k =
    ⊎_elim (λ q. ⊎_elim (λ (e : ◌≡◌ {A = Instance} i (record { name = r; module_no = m })). subst (λ z. z < length g.modules) (sym (ap (λ (z : Instance). z.module_no) e)) h) (λ z. absurd z) q) (made_in_range g wf m h (b ++ Start r ∷ []) a x.1 i) (in_append_cases i (made_by g m (Start r)) (made g m a) k)
made_in_range g wf m h b (Expand n p names ∷ a) x i k =
    ⊎_elim (λ q. let r = at_named i names (body_of g p) q in (wf.bodies p x.0.in_range).modules i.module_no (at_in i.module_no r.0 (body_of g p) r.2)) (made_in_range g wf m h (b ++ Expand n p names ∷ []) a x.1 i) (in_append_cases i (named names (body_of g p)) (made g m a) k)

module _ (g : Grammar) (t : Table) (run : IsTableOf g t) (wf : IsWellFormed g) (k : ℕ) (there : k < length t.instances) where
  abbrev x : Inst
  x = get_or t.instances k no_instance

  pub module_there : x.module.0 < length g.modules
  module_there = made_in_range g wf g.start wf.start [] (events_of t) run.accepted.0 (instance_of x) (subst (IsIn (instance_of x)) run.made (at_in (instance_of x) k (map instance_of t.instances) (at_map instance_of x k t.instances (is_at k t.instances no_instance there))))

  name_is : get_or (names_in t.instances) k [] ≡ x.name
  name_is = get_or-map (λ (y : Inst). y.name) t.instances k no_instance [] there

  -- where it was expanded
  pub production_there : (p : ProdNo) → x.production ≡ Some p → p.0 < length g.productions
  production_there p e =
      (opening g g.start [] (events_of t) x.name (record { production = p.0; names = take (length (body_of g p.0)) (drop x.first_child (names_in t.instances)) }) run.accepted.0
      (run.expanded k x (is_at k t.instances no_instance there) ∙ ap (option_map {U = Expanded} (λ (r : ProdNo). record { production = r.0; names = take (length (body_of g r.0)) (drop x.first_child (names_in t.instances)) })) e)).in_range

  pub links_opened : (u : View) (leaf : Assignment) (p : ProdNo) → expands u x.module.0 ≡ true → x.production ≡ Some p →
      links_of g u leaf (events_of t) (inst_at t.instances k) ≡ map (move_link (instance_at (get_or (names_in t.instances) k []) (take (length (body_of g p.0)) (drop x.first_child (names_in t.instances))))) (wiring_of (production_at g p.0))
  links_opened u leaf p m e =
      ap (λ b. cond b (opened_links g leaf (inst_at t.instances k) (expanded_by (events_of t) x.name)) (pair_links g leaf x.module.0 x.name)) m
      ∙ (ap (opened_links g leaf (inst_at t.instances k)) (run.expanded k x (is_at k t.instances no_instance there) ∙ ap (option_map {U = Expanded} (λ (r : ProdNo). record { production = r.0; names = take (length (body_of g r.0)) (drop x.first_child (names_in t.instances)) })) e)
      ∙ ap (λ n. map (move_link (instance_at n (take (length (body_of g p.0)) (drop x.first_child (names_in t.instances))))) (wiring_of (production_at g p.0))) (sym name_is))

  pub links_waiting : (u : View) (leaf : Assignment) → expands u x.module.0 ≡ true → x.production ≡ None → links_of g u leaf (events_of t) (inst_at t.instances k) ≡ pair_links g leaf x.module.0 (get_or (names_in t.instances) k [])
  links_waiting u leaf m e =
      ap (λ b. cond b (opened_links g leaf (inst_at t.instances k) (expanded_by (events_of t) x.name)) (pair_links g leaf x.module.0 x.name)) m
      ∙ (ap (opened_links g leaf (inst_at t.instances k)) (run.expanded k x (is_at k t.instances no_instance there) ∙ ap (option_map {U = Expanded} (λ (r : ProdNo). record { production = r.0; names = take (length (body_of g r.0)) (drop x.first_child (names_in t.instances)) })) e)
      ∙ ap (pair_links g leaf x.module.0) (sym name_is))

  pub links_closed : (u : View) (leaf : Assignment) → expands u x.module.0 ≡ false → links_of g u leaf (events_of t) (inst_at t.instances k) ≡ pair_links g leaf x.module.0 (get_or (names_in t.instances) k [])
  links_closed u leaf m =
      ap (λ b. cond b (opened_links g leaf (inst_at t.instances k) (expanded_by (events_of t) x.name)) (pair_links g leaf x.module.0 x.name)) m
      ∙ ap (pair_links g leaf x.module.0) (sym name_is)

-- what a well-formed production is
pub record IsRule (g : Grammar) (p : ℕ) : Type 0 where
  pub below : AreBelow (length (body_of g p)) (production_at g p)
  pub few_entries : length (production_at g p).entries ≤ 64
  pub few_exits : length (production_at g p).exits ≤ 64

pub rule : (g : Grammar) → IsWellFormed g → (p : ℕ) → p < length g.productions → IsRule g p
rule g wf p h =
    let b = wf.bodies p h in
    let w = wf.modules (module_at g (head_of g p)) (at_in (module_at g (head_of g p)) (head_of g p) g.modules (is_at (head_of g p) g.modules (record { name = []; inputs = []; outputs = [] }) (wf.heads p h))) in
    record {
      below = record {
        edges = λ e i. let f = b.edges_from e i in let t = b.edges_to e i in (at_below f.0 e.from.position (body_of g p) f.1, at_below t.0 e.to.position (body_of g p) t.1);
        entries = λ j i. let f = b.entries_to j i in at_below f.0 j.position (body_of g p) f.1;
        exits = λ j i. let f = b.exits_from j i in at_below f.0 j.position (body_of g p) f.1;
      };
      few_entries = subst (λ n. n ≤ 64) (sym b.one_entry_each) w.few_inputs;
      few_exits = subst (λ n. n ≤ 64) (sym b.one_exit_each) w.few_outputs;
    }
