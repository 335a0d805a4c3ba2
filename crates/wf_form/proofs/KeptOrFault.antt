-- Parts form a grammar with earlier versions, or have a fault.
use Rattle.std.proofs.Common.{◌≡◌, ◌≢◌, ◌⊎◌, ℕ, ◌<◌, ◌≤◌, List, ◌++◌, length, map, refl, sym, ap, subst, inl, inr}
use Rattle.wf_model.specs.declared.parts.Parts.{Parts}
use Rattle.wf_model.specs.declared.parts.ModulePart.{ModulePart}
use Rattle.wf_model.specs.declared.parts.ProdPart.{ProdPart}
use Rattle.wf_model.specs.declared.parts.PosPart.{PosPart}
use Rattle.wf_model.specs.declared.parts.EdgePart.{EdgePart}
use Rattle.wf_model.specs.declared.parts.EntryPart.{EntryPart}
use Rattle.wf_model.specs.declared.parts.ExitPart.{ExitPart}
use Rattle.wf_model.specs.declared.parts.DepsPart.{DepsPart}
use Rattle.wf_model.specs.declared.parts.PairPart.{PairPart}
use Rattle.wf_model.specs.declared.parts.VersionPart.{VersionPart}
use Rattle.wf_model.specs.Lists.{IsIn, AllDiffer, Walk}
use Rattle.wf_model.specs.Grammar.{Module, Position, Inner, Edge}
use Rattle.wf_model.specs.Versions.{IsVersion}
use Rattle.wf_model.specs.WellFormed.{IsShortName}
use Rattle.wf_model.proofs.Lists.{in_map, in_map_from}
use Rattle.wf_model.proofs.Deciding.{Either, either_same, either_not, either_both, number_either, below_either, within_either, bytes_either, all_below, all_in, in_either, differ_either, walk_either}
use Rattle.name_text.proofs.NamesOrNot.{short_name_either}
use Rattle.wf_spec.specs.Pairs.{HasKnownPairs}
use Rattle.wf_spec.specs.Naming.{place_of, names_of, module_in}
use Rattle.wf_spec.specs.FirstFaults.{Rule, AllHold, IsFirstFault}
use Rattle.wf_spec.proofs.SomeFault.{AreDecided, each_decided, new_decided, some_fault}
use Rattle.wf_form.proofs.VersionOrNot.{version_either}
use Rattle.wf_form.specs.declared.fault.FormFault.{FormFault}
use Rattle.wf_form.specs.Forming.{module_at_place, inner_input, inner_output, edge_in, body_in, head_in, modules_of, grammar_of, IsFormed, HaveVersions}
use Rattle.wf_form.specs.Resolving.{IsInputIn, IsOutputIn, IsEdgeIn}
use Rattle.wf_form.specs.Graphs.{IsJoined, IsAcyclic}
use Rattle.wf_form.specs.Rules.{module_names, position_names, HasShortNames, HasShortPositions, HasKnownModules, squares, HasKnownPorts, fed, used, entered, left, IsLinkedAtMostOnce, IsLinkedAtLeastOnce, HasNoCycle, IsOfAtomic, first_rules, body_rules, link_rules, version_rules, IsFaultOf}
use Rattle.wf_form.proofs.Lawful.{law}

either_three : {A B C : Type 0} → Either A → Either B → Either C → Either (A × B × C)
either_three a b c = either_same (λ h. (h.0, h.1.0, h.1.1)) (λ h. (h.0, (h.1, h.2))) (either_both a (either_both b c))

either_four : {A B C D : Type 0} → Either A → Either B → Either C → Either D → Either (A × B × C × D)
either_four a b c d = either_same (λ h. (h.0.0, h.0.1, h.1.0, h.1.1)) (λ h. ((h.0, h.1), (h.2, h.3))) (either_both (either_both a b) (either_both c d))

inner_either : (a b : Inner) → Either (a ≡ b)
inner_either a b = either_same (λ h i. record { position = h.0 i; port = h.1 i }) (λ e. (ap (λ (x : Inner). x.position) e, ap (λ (x : Inner). x.port) e)) (either_both (number_either a.position b.position) (number_either a.port b.port))

name_in : (n : List ℕ) (names : List (List ℕ)) → Either (IsIn n names)
name_in = in_either bytes_either

short_names : (names : List (List ℕ)) → Either ((n : List ℕ) → IsIn n names → IsShortName n)
short_names names = all_in IsShortName names (λ n i. short_name_either n)

module_short : (m : ModulePart) → Either (HasShortNames m)
module_short m = either_same (λ h. record { name = h.0; inputs = h.1; outputs = h.2 }) (λ h. (h.name, h.inputs, h.outputs)) (either_three (short_name_either m.name) (short_names m.inputs) (short_names m.outputs))

positions_short : (p : ProdPart) → Either (HasShortPositions p)
positions_short p = all_in (λ (q : PosPart). IsShortName q.name) p.body (λ q i. short_name_either q.name)

modules_known : (names : List (List ℕ)) (p : ProdPart) → Either (HasKnownModules names p)
modules_known names p = either_same (λ h. record { head = h.0; positions = h.1 }) (λ h. (h.head, h.positions)) (either_both (name_in p.head names) (all_in (λ (q : PosPart). IsIn q.module names) p.body (λ q i. name_in q.module names)))

module _ (modules : List Module) where
  pairs_known : (d : DepsPart) → Either (HasKnownPairs modules d)
  pairs_known d =
      let m = module_in modules (place_of (names_of modules) d.module) in
      all_in (λ (e : PairPart). IsIn e.input m.inputs × IsIn e.output m.outputs) d.pairs (λ e i. either_both (name_in e.input m.inputs) (name_in e.output m.outputs))

  module _ (p : ProdPart) where
    abbrev body : List Position
    body = body_in modules p

    input_there : (i : Inner) → Either (IsInputIn modules body i)
    input_there i = either_same (λ h. record { position = h.0; port = h.1 }) (λ h. (h.position, h.port)) (either_both (below_either i.position (length body)) (below_either i.port (length (module_at_place modules body i.position).inputs)))

    output_there : (i : Inner) → Either (IsOutputIn modules body i)
    output_there i = either_same (λ h. record { position = h.0; port = h.1 }) (λ h. (h.position, h.port)) (either_both (below_either i.position (length body)) (below_either i.port (length (module_at_place modules body i.position).outputs)))

    edge_there : (e : EdgePart) → Either (IsEdgeIn modules body e)
    edge_there e = either_same (λ h. record { from = h.0; to = h.1 }) (λ h. (h.from, h.to)) (either_both (output_there (inner_output modules body e.from)) (input_there (inner_input modules body e.to)))

    ports_known : Either (HasKnownPorts modules p)
    ports_known = either_same
        (λ h. record { edges = h.0; entries_from = h.1.0; entries_to = h.1.1; exits_from = h.2.0; exits_to = h.2.1 })
        (λ h. (h.edges, (h.entries_from, h.entries_to), (h.exits_from, h.exits_to)))
        (either_three
        (all_in (IsEdgeIn modules body) p.edges (λ e i. edge_there e))
        (either_both
        (all_in (λ (e : EntryPart). IsIn e.port (head_in modules p).inputs) p.entries (λ e i. name_in e.port (head_in modules p).inputs))
        (all_in (λ (e : EntryPart). IsInputIn modules body (inner_input modules body e.to)) p.entries (λ e i. input_there (inner_input modules body e.to))))
        (either_both
        (all_in (λ (e : ExitPart). IsOutputIn modules body (inner_output modules body e.from)) p.exits (λ e i. output_there (inner_output modules body e.from)))
        (all_in (λ (e : ExitPart). IsIn e.port (head_in modules p).outputs) p.exits (λ e i. name_in e.port (head_in modules p).outputs))))

    linked_at_most_once : Either (IsLinkedAtMostOnce modules p)
    linked_at_most_once = either_same
        (λ h. record { inputs = h.0; outputs = h.1; head_inputs = h.2; head_outputs = h.3 })
        (λ h. (h.inputs, h.outputs, h.head_inputs, h.head_outputs))
        (either_four (differ_either inner_either (fed modules p)) (differ_either inner_either (used modules p)) (differ_either bytes_either (entered p)) (differ_either bytes_either (left p)))

    -- each port of each position is among these, or not
    each_port : (ports : ℕ → ℕ) (list : List Inner) → Either ((k : ℕ) → k < length body → (j : ℕ) → j < ports k → IsIn (record { position = k; port = j }) list)
    each_port ports list = all_below (λ k. (j : ℕ) → j < ports k → IsIn (record { position = k; port = j }) list) (length body)
        (λ k h. all_below (λ j. IsIn (record { position = k; port = j }) list) (ports k) (λ j l. in_either inner_either (record { position = k; port = j }) list))

    linked_at_least_once : Either (IsLinkedAtLeastOnce modules p)
    linked_at_least_once = either_same
        (λ h. record { inputs = λ i there. h.0 i.position there.position i.port there.port; outputs = λ i there. h.1 i.position there.position i.port there.port; head_inputs = h.2; head_outputs = h.3 })
        (λ h. (
          λ k l j m. h.inputs (record { position = k; port = j }) (record { position = l; port = m }),
          λ k l j m. h.outputs (record { position = k; port = j }) (record { position = l; port = m }),
          h.head_inputs,
          h.head_outputs,
        ))
        (either_four
        (each_port (λ k. length (module_at_place modules body k).inputs) (fed modules p))
        (each_port (λ k. length (module_at_place modules body k).outputs) (used modules p))
        (all_in (λ n. IsIn n (entered p)) (head_in modules p).inputs (λ n i. name_in n (entered p)))
        (all_in (λ n. IsIn n (left p)) (head_in modules p).outputs (λ n i. name_in n (left p))))

-- the positions that an edge joins
abbrev ends_of : Edge → ℕ × ℕ
ends_of e = (e.from.position, e.to.position)

joined_either : (edges : List Edge) (a b : ℕ) → Either (Walk (IsJoined edges) a b)
joined_either edges = walk_either number_either (IsJoined edges) (map ends_of edges)
    (λ a b i. let r = in_map_from ends_of (a, b) edges i in (r.0, r.1, sym (ap (λ (x : ℕ × ℕ). x.0) r.2), sym (ap (λ (x : ℕ × ℕ). x.1) r.2)))
    (λ a b h. subst (λ (x : ℕ × ℕ). IsIn x (map ends_of edges)) (λ i. (h.2 i, h.3 i)) (in_map ends_of h.0 edges h.1))

-- edges have no cycle, or one
acyclic_either : (edges : List Edge) → Either (IsAcyclic edges)
acyclic_either edges = either_same
    (λ none a b h w. none h.0 h.1 (subst (λ x. Walk (IsJoined edges) x h.0.from.position) (sym h.3) (subst (λ x. Walk (IsJoined edges) b x) (sym h.2) w)))
    (λ h e i w. h e.from.position e.to.position (e, i, refl, refl) w)
    (all_in (λ (e : Edge). Walk (IsJoined edges) e.to.position e.from.position → ⊥) edges (λ e i. either_not (joined_either edges e.to.position e.from.position)))

module _ (parts : Parts) where
  first_decided : AreDecided (first_rules parts)
  first_decided = (
    λ k h. each_decided HasShortNames parts.modules (λ m i. module_short m) k,
    (
      λ k h. each_decided HasShortPositions parts.productions (λ p i. positions_short p) k,
      (
        λ k h. new_decided (module_names parts.modules) k,
        (
          λ k h. each_decided (λ (m : ModulePart). AllDiffer (m.inputs ++ m.outputs)) parts.modules (λ m i. differ_either bytes_either (m.inputs ++ m.outputs)) k,
          (
            λ k h. each_decided (λ (m : ModulePart). (length m.inputs ≤ 64) × (length m.outputs ≤ 64)) parts.modules (λ m i. either_both (within_either (length m.inputs) 64) (within_either (length m.outputs) 64)) k,
            (
              λ k h. within_either (length parts.modules) 1024,
              (λ k h. within_either (length parts.productions) 1024, tt),
            ),
          ),
        ),
      ),
    ),
  )

  body_decided : AreDecided (body_rules parts)
  body_decided =
      let names = module_names parts.modules in (
        λ k h. name_in parts.start names,
        (
          λ k h. each_decided (HasKnownModules names) parts.productions (λ p i. modules_known names p) k,
          (
            λ k h. each_decided (λ (d : DepsPart). IsIn d.module names) parts.deps (λ d i. name_in d.module names) k,
            (
              λ k h. each_decided (λ (p : ProdPart). 0 < length p.body) parts.productions (λ p i. below_either 0 (length p.body)) k,
              (
                λ k h. each_decided (λ (p : ProdPart). length p.body ≤ 64) parts.productions (λ p i. within_either (length p.body) 64) k,
                (
                  λ k h. within_either (squares parts.productions) 65536,
                  (λ k h. each_decided (λ (p : ProdPart). AllDiffer (position_names p)) parts.productions (λ p i. differ_either bytes_either (position_names p)) k, tt),
                ),
              ),
            ),
          ),
        ),
      )

  link_decided : AreDecided (link_rules parts)
  link_decided =
      let modules = modules_of parts in (
        λ k h. each_decided (HasKnownPorts modules) parts.productions (λ p i. ports_known modules p) k,
        (
          λ k h. each_decided (HasKnownPairs modules) parts.deps (λ d i. pairs_known modules d) k,
          (
            λ k h. each_decided (IsLinkedAtMostOnce modules) parts.productions (λ p i. linked_at_most_once modules p) k,
            (
              λ k h. each_decided (IsLinkedAtLeastOnce modules) parts.productions (λ p i. linked_at_least_once modules p) k,
              (
                λ k h. each_decided (HasNoCycle modules) parts.productions (λ p i. acyclic_either (map (edge_in modules (body_in modules p)) p.edges)) k,
                (λ k h. each_decided (IsOfAtomic parts.productions) parts.deps (λ d i. all_in (λ (p : ProdPart). p.head ≢ d.module) parts.productions (λ p j. either_not (bytes_either p.head d.module))) k, tt),
              ),
            ),
          ),
        ),
      )

  version_decided : AreDecided (version_rules parts)
  version_decided = (
    λ k h. within_either (length parts.versions) 64,
    (λ k h. each_decided (λ (v : VersionPart). IsVersion (grammar_of parts) v.modules v.productions) parts.versions (λ v i. version_either (grammar_of parts) v.modules v.productions) k, tt),
  )

  -- all of these rules hold, or one has the first fault
  abbrev HoldOrFault : List (Rule FormFault) → Type 0
  HoldOrFault rs = AllHold rs ⊎ ((f : FormFault) × IsFirstFault rs f)

  -- parts form a grammar with earlier versions, or have a fault
  pub formed_or_fault : (IsFormed parts × HaveVersions parts) ⊎ ((f : FormFault) × IsFaultOf parts f)
  formed_or_fault = by_first (some_fault (first_rules parts) first_decided) (some_fault (body_rules parts) body_decided) (some_fault (link_rules parts) link_decided) (some_fault (version_rules parts) version_decided)
    where
      by_first : HoldOrFault (first_rules parts) → HoldOrFault (body_rules parts) → HoldOrFault (link_rules parts) → HoldOrFault (version_rules parts) → (IsFormed parts × HaveVersions parts) ⊎ ((f : FormFault) × IsFaultOf parts f)
      by_first (inr f) b l v = inr (f.0, inl f.1)
      by_first (inl first) (inr f) l v = inr (f.0, inr (first, inl f.1))
      by_first (inl first) (inl bodies) (inr f) v = inr (f.0, inr (first, inr (bodies, inl f.1)))
      by_first (inl first) (inl bodies) (inl links) (inr f) = inr (f.0, inr (first, inr (bodies, inr (links, f.1))))
      by_first (inl first) (inl bodies) (inl links) (inl versions) = inl ((law parts).0.0 (record { first = first; bodies = bodies; links = links }), (law parts).1.0 versions)
