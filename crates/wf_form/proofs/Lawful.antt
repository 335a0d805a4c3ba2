-- Parts keep all rules exactly if they form a well-formed grammar with earlier versions.
use Rattle.std.proofs.Common.{◌≡◌, ℕ, ◌+◌, ◌*◌, ◌<◌, ◌≤◌, List, [], ◌∷◌, ◌++◌, map, length, refl, sym, ap, ◌∙◌, subst, ⊎_elim}
use Rattle.std.specs.Prelude.{sum_by}
use Rattle.std.proofs.lemmas.List.{length-map}
use Rattle.std.proofs.lemmas.List.Sums.{sum_by-cons}
use Rattle.wf_model.specs.declared.parts.Parts.{Parts}
use Rattle.wf_model.specs.declared.parts.ModulePart.{ModulePart}
use Rattle.wf_model.specs.declared.parts.ProdPart.{ProdPart}
use Rattle.wf_model.specs.declared.parts.PosPart.{PosPart}
use Rattle.wf_model.specs.declared.parts.DepsPart.{DepsPart}
use Rattle.wf_model.specs.declared.parts.PairPart.{PairPart}
use Rattle.wf_model.specs.Lists.{IsIn, AllDiffer}
use Rattle.wf_model.specs.Grammar.{Module, Position, Production, Given, production_at, head_of}
use Rattle.wf_model.specs.WellFormed.{IsShortName, IsWellFormedModule}
use Rattle.wf_model.proofs.Lists.{in_append_left, in_append_right, in_append_cases, in_map, in_map_from}
use Rattle.wf_form.specs.Bodies.{IsBody, square_of, names_at}
use Rattle.wf_spec.specs.Naming.{place_of, names_of, module_in}
use Rattle.wf_form.specs.Forming.{module_of, modules_of, placed, body_in, head_in, production_in, given_in, grammar_of, entry_in, exit_in, HasItsLinks, IsFormed}
use Rattle.wf_form.specs.Rules.{module_names, position_names, HasShortNames, HasDifferentPorts, HasFewPorts, squares, FormingLaw}
use Rattle.wf_form.proofs.Bodies.{body_from}
use Rattle.wf_spec.proofs.Finding.{is_in_place, place_within, same_name, number_below, below_number}
use Rattle.wf_form.proofs.Kept.{IsKeptPart, IsKeptDeps, AreAllKept, kept_gives, kept_from, versions_give, versions_keep}
use Rattle.wf_form.proofs.Linking.{links_tidy, tidy_known, tidy_at_most, tidy_at_least, tidy_linked, linked_tidy}
use Rattle.wf_form.proofs.Sizes.{formed_bodies}
use Rattle.wf_spec.proofs.Tables.{get_in}
use Rattle.wf_model.proofs.Composites.{production_in as rule_in, production_no}
use Rattle.wf_model.proofs.ItemNames.{differ_right, differ_left}

-- the names of modules, from the parts and from the modules
pub same_names : (parts : Parts) → names_of (modules_of parts) ≡ module_names parts.modules
same_names parts = go parts.modules
  where
    go : (ms : List ModulePart) → names_of (map module_of ms) ≡ module_names ms
    go [] = refl
    go (m ∷ ms) = ap (λ ns. m.name ∷ ns) (go ms)

same_positions : (names : List (List ℕ)) (p : ProdPart) → names_at (map (placed names) p.body) ≡ position_names p
same_positions names p = go p.body
  where
    go : (qs : List PosPart) → names_at (map (placed names) qs) ≡ map (λ (q : PosPart). q.name) qs
    go [] = refl
    go (q ∷ qs) = ap (λ ns. q.name ∷ ns) (go qs)

same_squares : (modules : List Module) (ps : List ProdPart) → sum_by square_of (map (production_in modules) ps) ≡ squares ps
same_squares modules [] = refl
same_squares modules (p ∷ ps) =
    sum_by-cons square_of (production_in modules p) (map (production_in modules) ps)
    ∙ (ap (λ n. n * n + sum_by square_of (map (production_in modules) ps)) (length-map p.body (placed (names_of modules)))
    ∙ (ap (λ n. length p.body * length p.body + n) (same_squares modules ps) ∙ sym (sum_by-cons (λ (q : ProdPart). length q.body * length q.body) p ps)))

-- the ports of the head of a part differ
pub head_ports : (modules : List Module) (p : ProdPart) → ((m : Module) → IsIn m modules → AllDiffer (m.inputs ++ m.outputs)) → place_of (names_of modules) p.head < length modules
    → AllDiffer ((head_in modules p).inputs ++ (head_in modules p).outputs)
head_ports modules p all below = all (head_in modules p) (get_in (place_of (names_of modules) p.head) modules (record { name = []; inputs = []; outputs = [] }) below)

-- a module whose part keeps the rules is well-formed, and the other way round
module_formed : (m : ModulePart) → HasShortNames m → HasDifferentPorts m → HasFewPorts m → IsWellFormedModule (module_of m)
module_formed m short differ few = record {
  name = short.name;
  ports = λ n h. ⊎_elim (short.inputs n) (short.outputs n) (in_append_cases n m.inputs m.outputs h);
  ports_differ = differ;
  few_inputs = few.0;
  few_outputs = few.1;
}

formed_short : (m : ModulePart) → IsWellFormedModule (module_of m) → HasShortNames m
formed_short m w = record {
  name = w.name;
  inputs = λ n h. w.ports n (in_append_left n m.inputs m.outputs h);
  outputs = λ n h. w.ports n (in_append_right n m.inputs m.outputs h);
}

-- the body of a part that keeps the rules
body_formed : (parts : Parts) (p : ProdPart) → ((m : Module) → IsIn m (modules_of parts) → AllDiffer (m.inputs ++ m.outputs)) → IsKeptPart parts p
    → IsBody (modules_of parts) (production_in (modules_of parts) p) × HasItsLinks (modules_of parts) p
body_formed parts p ports k =
    let modules = modules_of parts in
    let known : (n : List ℕ) → IsIn n (module_names parts.modules) → place_of (names_of modules) n < length modules =
    λ n h. number_below modules n (subst (IsIn n) (sym (same_names parts)) h) in
    let differ = head_ports modules p ports (known p.head k.known_modules.head) in
    let once = tidy_linked modules p (differ_left (head_in modules p).inputs (head_in modules p).outputs differ) (differ_right (head_in modules p).inputs (head_in modules p).outputs differ)
    (links_tidy modules p k.known_ports k.at_most_once k.at_least_once) in (
      record {
        places = record {
          some_position = subst (λ n. 0 < n) (sym (length-map p.body (placed (names_of modules)))) k.some_position;
          within = λ m h. (let r = in_map_from (λ (q : Position). q.module_no) m (body_in modules p) h in
              let s = in_map_from (placed (names_of modules)) r.0 p.body r.1 in
              subst (λ n. n < length modules) (sym (r.2 ∙ ap (λ (q : Position). q.module_no) s.2)) (known s.0.module (k.known_modules.positions s.0 s.1)));
          names = λ q h. (let r = in_map_from (placed (names_of modules)) q p.body h in subst IsShortName (sym (ap (λ (z : Position). z.name) r.2)) (k.short_positions r.0 r.1));
          names_differ = subst AllDiffer (sym (same_positions (names_of modules) p)) k.positions_differ;
        };
        head_links = record {
          one_entry_each = length-map (head_in modules p).inputs (entry_in modules (body_in modules p) p.entries);
          one_exit_each = length-map (head_in modules p).outputs (exit_in modules (body_in modules p) p.exits);
        };
        linked = once.0;
        acyclic = k.no_cycle;
      },
      once.1,
    )

-- a module that no part heads is atomic
head_number : (parts : Parts) (k : ℕ) → k < length (grammar_of parts).productions → (p : ProdPart) × IsIn p parts.productions × (head_of (grammar_of parts) k ≡ place_of (names_of (modules_of parts)) p.head)
head_number parts k h =
    let r = in_map_from (production_in (modules_of parts)) (production_at (grammar_of parts) k) parts.productions (rule_in (grammar_of parts) k h) in
    (r.0, r.1, ap (λ (q : Production). q.head) r.2)

pub kept_formed : (parts : Parts) → AreAllKept parts → IsFormed parts
kept_formed parts k =
    let modules = modules_of parts in
    let g = grammar_of parts in
    let ports : (m : Module) → IsIn m modules → AllDiffer (m.inputs ++ m.outputs) =
    λ m h. (let r = in_map_from module_of m parts.modules h in subst (λ (n : Module). AllDiffer (n.inputs ++ n.outputs)) (sym r.2) (k.different_ports r.0 r.1)) in
    let known : (n : List ℕ) → IsIn n (module_names parts.modules) → IsIn n (names_of modules) = λ n h. subst (IsIn n) (sym (same_names parts)) h in
    let body : (r : Production) → IsIn r g.productions → IsBody modules r =
    λ r h. (let q = in_map_from (production_in modules) r parts.productions h in subst (IsBody modules) (sym q.2) (body_formed parts q.0 ports (k.productions q.0 q.1)).0) in
    record {
      links = λ p h. (body_formed parts p ports (k.productions p h)).1;
      well_formed = record {
        start = number_below modules parts.start (known parts.start k.start);
        modules = λ m h. (let r = in_map_from module_of m parts.modules h in
            subst IsWellFormedModule (sym r.2) (module_formed r.0 (k.short_names r.0 r.1) (k.different_ports r.0 r.1) (k.few_ports r.0 r.1)));
        names_differ = subst AllDiffer (sym (same_names parts)) k.names_differ;
        few_modules = subst (λ n. n ≤ 1024) (sym (length-map parts.modules module_of)) k.few_modules;
        few_productions = subst (λ n. n ≤ 1024) (sym (length-map parts.productions (production_in modules))) k.few_productions;
        few_positions = λ n h. (let q = in_map_from (production_in modules) (production_at g n) parts.productions (rule_in g n h) in
            subst (λ (r : Production). length (map (λ (z : Position). z.module_no) r.positions) ≤ 64) (sym q.2)
            (subst (λ l. l ≤ 64) (sym (length-map (body_in modules q.0) (λ (z : Position). z.module_no) ∙ length-map q.0.body (placed (names_of modules)))) (k.productions q.0 q.1).few_positions));
        small = subst (λ n. n ≤ 65536) (sym (same_squares modules parts.productions)) k.small;
        heads = λ n h. (let r = head_number parts n h in
            subst (λ l. l < length modules) (sym r.2) (number_below modules r.0.head (known r.0.head (k.productions r.0 r.1).known_modules.head)));
        bodies = λ n h. body_from g n (body (production_at g n) (rule_in g n h));
        given_atomic = λ d h. (let r = in_map_from (given_in modules) d parts.deps h in
            let e : d.module_no ≡ place_of (names_of modules) r.0.module = ap (λ (z : Given). z.module_no) r.2 in
            let q = k.deps r.0 r.1 in (
              subst (λ l. l < length modules) (sym e) (number_below modules r.0.module (known r.0.module q.known_module)),
              λ n inside same.
                  let s = head_number parts n inside in
                  q.atomic s.0 s.1
                  (same_name (names_of modules) s.0.head r.0.module (known s.0.head (k.productions s.0 s.1).known_modules.head) (known r.0.module q.known_module) (sym s.2 ∙ (same ∙ e))),
            ));
        given_pairs = λ d e h i. (let r = in_map_from (given_in modules) d parts.deps h in
            let m = module_in modules (place_of (names_of modules) r.0.module) in
            let s = in_map_from (λ (x : PairPart). (place_of m.inputs x.input, place_of m.outputs x.output)) e r.0.pairs (subst (λ (z : Given). IsIn e z.pairs) r.2 i) in
            let q = (k.deps r.0 r.1).known_pairs s.0 s.1 in
            subst (λ (z : Given). (e.0 < length (module_in modules z.module_no).inputs) × (e.1 < length (module_in modules z.module_no).outputs)) (sym r.2)
            (subst (λ (z : ℕ × ℕ). (z.0 < length m.inputs) × (z.1 < length m.outputs)) (sym s.2) (place_within m.inputs s.0.input q.0, place_within m.outputs s.0.output q.1)));
      };
    }

-- the rules that a part of a well-formed grammar keeps
part_kept : (parts : Parts) → IsFormed parts → (p : ProdPart) → IsIn p parts.productions → IsKeptPart parts p
part_kept parts f p h =
    let modules = modules_of parts in
    let g = grammar_of parts in
    let there : IsIn (production_in modules p) g.productions = in_map (production_in modules) p parts.productions h in
    let b = formed_bodies g f.well_formed (production_in modules p) there in
    let n = production_no g (production_in modules p) there in
    let below : place_of (names_of modules) p.head < length modules = subst (λ (r : Production). r.head < length modules) n.2 (f.well_formed.heads n.0 n.1) in
    let differ = head_ports modules p (λ m i. (f.well_formed.modules m i).ports_differ) below in
    let tidy = linked_tidy modules p (differ_left (head_in modules p).inputs (head_in modules p).outputs differ) (differ_right (head_in modules p).inputs (head_in modules p).outputs differ) b.linked (f.links p h) in
    let known : (m : List ℕ) → place_of (names_of modules) m < length modules → IsIn m (module_names parts.modules) = λ m i. subst (IsIn m) (same_names parts) (below_number modules m i) in
    record {
      short_positions = λ q i. b.places.names (placed (names_of modules) q) (in_map (placed (names_of modules)) q p.body i);
      known_modules = record {
        head = known p.head below;
        positions = λ q i. known q.module (b.places.within (place_of (names_of modules) q.module)
            (in_map (λ (z : Position). z.module_no) (placed (names_of modules) q) (body_in modules p) (in_map (placed (names_of modules)) q p.body i)));
      };
      some_position = subst (λ l. 0 < l) (length-map p.body (placed (names_of modules))) b.places.some_position;
      few_positions = subst (λ l. l ≤ 64) (length-map (body_in modules p) (λ (z : Position). z.module_no) ∙ length-map p.body (placed (names_of modules)))
          (subst (λ (r : Production). length (map (λ (z : Position). z.module_no) r.positions) ≤ 64) n.2 (f.well_formed.few_positions n.0 n.1));
      positions_differ = subst AllDiffer (same_positions (names_of modules) p) b.places.names_differ;
      known_ports = tidy_known modules p tidy;
      at_most_once = tidy_at_most modules p tidy;
      at_least_once = tidy_at_least modules p tidy;
      no_cycle = b.acyclic;
    }

deps_kept : (parts : Parts) → IsFormed parts → (d : DepsPart) → IsIn d parts.deps → IsKeptDeps parts d
deps_kept parts f d h =
    let modules = modules_of parts in
    let g = grammar_of parts in
    let there : IsIn (given_in modules d) g.given = in_map (given_in modules) d parts.deps h in
    let a = f.well_formed.given_atomic (given_in modules d) there in
    let m = module_in modules (place_of (names_of modules) d.module) in
    record {
      known_module = subst (IsIn d.module) (same_names parts) (below_number modules d.module a.0);
      known_pairs = λ e i. (let q = f.well_formed.given_pairs (given_in modules d) (place_of m.inputs e.input, place_of m.outputs e.output) there
          (in_map (λ (x : PairPart). (place_of m.inputs x.input, place_of m.outputs x.output)) e d.pairs i) in
          (is_in_place m.inputs e.input q.0, is_in_place m.outputs e.output q.1));
      atomic = λ p i e. (let n = production_no g (production_in modules p) (in_map (production_in modules) p parts.productions i) in
          a.1 n.0 n.1 (ap (λ (r : Production). r.head) n.2 ∙ ap (place_of (names_of modules)) e));
    }

pub formed_kept : (parts : Parts) → IsFormed parts → AreAllKept parts
formed_kept parts f =
    let formed : (m : ModulePart) → IsIn m parts.modules → IsWellFormedModule (module_of m) = λ m h. f.well_formed.modules (module_of m) (in_map module_of m parts.modules h) in
    record {
      short_names = λ m h. formed_short m (formed m h);
      names_differ = subst AllDiffer (same_names parts) f.well_formed.names_differ;
      different_ports = λ m h. (formed m h).ports_differ;
      few_ports = λ m h. ((formed m h).few_inputs, (formed m h).few_outputs);
      few_modules = subst (λ n. n ≤ 1024) (length-map parts.modules module_of) f.well_formed.few_modules;
      few_productions = subst (λ n. n ≤ 1024) (length-map parts.productions (production_in (modules_of parts))) f.well_formed.few_productions;
      start = subst (IsIn parts.start) (same_names parts) (below_number (modules_of parts) parts.start f.well_formed.start);
      small = subst (λ n. n ≤ 65536) (same_squares (modules_of parts) parts.productions) f.well_formed.small;
      productions = part_kept parts f;
      deps = deps_kept parts f;
    }

pub law : FormingLaw
law parts = (
  (λ k. kept_formed parts (kept_gives parts k), λ f. kept_from parts (formed_kept parts f)),
  (versions_give parts, versions_keep parts),
)
