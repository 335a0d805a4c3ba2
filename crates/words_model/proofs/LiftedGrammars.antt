-- The lifted grammar is accepted where the grammar is: its names differ, and each port is fed and used once in each state.
use Rattle.std.proofs.Common.{◌≡◌, ℕ, ◌+◌, ◌*◌, ◌/◌, ◌%◌, ◌≤◌, ◌<◌, List, [], ◌∷◌, ◌++◌, map, length, count_by, sum_by, refl, sym, ap, ◌∙◌, subst, ⊎_elim, arith}
use Rattle.std.proofs.Math.Arith.{digits_lt}
use Rattle.std.proofs.lemmas.Nat.{div_below, mod_below, div-add-mod'}
use Rattle.std.proofs.lemmas.List.Sums.{sum_by-cons}
use Rattle.wf_model.specs.Lists.{IsIn, IsAt, AllDiffer}
use Rattle.wf_model.specs.Grammar.{Grammar, Module, Position, Production, Inner, Edge, production_at, inputs_of, outputs_of, head_of}
use Rattle.wf_model.specs.WellFormed.{IsInnerInput, IsInnerOutput, same_inner, IsFollowedBy, IsWellFormedBody, IsWellFormedModule, IsWellFormed}
use Rattle.wf_model.proofs.Lists.{in_append_cases, in_map_from}
use Rattle.wf_laws.proofs.Safe.{walk_same}
use Rattle.label_model.proofs.Differing.{differ-append}
use Rattle.words_model.specs.Automata.{Automaton}
use Rattle.words_model.specs.Lifting.{lift_inner, lift_edge, lift_production, lifted_names, lift_module, lift}
use Rattle.words_model.specs.Laws.{LiftedGrammarLaw, Fits}
use Rattle.words_model.proofs.SameShape.{shape_back, rank_there, continues_there, cycles_there, proper_there}
use Rattle.words_model.proofs.States.{in_states_from, length-states}
use Rattle.words_model.proofs.LiftedParts.{length-lifted_names, lifted_production, lifted_head, lifted_body, lifted_inputs, lifted_outputs, lifted_shape}
use Rattle.words_model.proofs.PortNames.{name_from, names_differ, names_apart, short_name}
use Rattle.words_model.proofs.PortCounts.{as_often}

module _ (g : Grammar) (k : ℕ) (hk : 0 < k) (p : ℕ) (wb : IsWellFormedBody g p) where
  input_up : (i : Inner) (s : ℕ) → s < k → IsInnerInput g p i → IsInnerInput (lift g k) p (lift_inner k s i)
  input_up i s hs q = (q.0, subst (IsAt q.0 i.position) (sym (lifted_body g k p)) q.1, subst (λ z. i.port * k + s < z) (sym (lifted_inputs g k q.0)) (digits_lt q.2 hs))

  output_up : (i : Inner) (s : ℕ) → s < k → IsInnerOutput g p i → IsInnerOutput (lift g k) p (lift_inner k s i)
  output_up i s hs q = (q.0, subst (IsAt q.0 i.position) (sym (lifted_body g k p)) q.1, subst (λ z. i.port * k + s < z) (sym (lifted_outputs g k q.0)) (digits_lt q.2 hs))

  -- a number taken apart into a port and a state
  split : (n w : ℕ) → n < w * k → (n / k < w) × (n % k < k) × (n / k * k + n % k ≡ n)
  split n w h = (div_below n k w hk h, mod_below n k hk, div-add-mod' n k)

  edge_from : (e : Edge) → IsIn e (production_at (lift g k) p).edges → (e0 : Edge) × (s : ℕ) × (s < k) × IsIn e0 (production_at g p).edges × (e ≡ lift_edge k s e0)
  edge_from e h = in_states_from (lift_edge k) k e (production_at g p).edges (subst (λ (z : Production). IsIn e z.edges) (lifted_production g k p) h)

  entry_from : (i : Inner) → IsIn i (production_at (lift g k) p).entries → (i0 : Inner) × (s : ℕ) × (s < k) × IsIn i0 (production_at g p).entries × (i ≡ lift_inner k s i0)
  entry_from i h = in_states_from (lift_inner k) k i (production_at g p).entries (subst (λ (z : Production). IsIn i z.entries) (lifted_production g k p) h)

  exit_from : (i : Inner) → IsIn i (production_at (lift g k) p).exits → (i0 : Inner) × (s : ℕ) × (s < k) × IsIn i0 (production_at g p).exits × (i ≡ lift_inner k s i0)
  exit_from i h = in_states_from (lift_inner k) k i (production_at g p).exits (subst (λ (z : Production). IsIn i z.exits) (lifted_production g k p) h)

  followed : (a b : ℕ) → IsFollowedBy (lift g k) p a b → IsFollowedBy g p a b
  followed a b q = let e = edge_from q.0 q.1 in (e.0, e.3, ap (λ (z : Edge). z.from.position) (sym e.4) ∙ q.2, ap (λ (z : Edge). z.to.position) (sym e.4) ∙ q.3)

  fed : (i : Inner) (s : ℕ) → s < k → IsInnerInput g p i → count_by (same_inner (lift_inner k s i)) (map (λ (e : Edge). e.to) (production_at (lift g k) p).edges ++ (production_at (lift g k) p).entries) ≡ 1
  fed i s hs h =
      ap (λ (z : Production). count_by (same_inner (lift_inner k s i)) (map (λ (e : Edge). e.to) z.edges ++ z.entries)) (lifted_production g k p) ∙
      (as_often k (λ (e : Edge). e.to) (λ s e. refl) (production_at g p).edges (production_at g p).entries i s hs ∙ wb.fed_once i h)

  used : (i : Inner) (s : ℕ) → s < k → IsInnerOutput g p i → count_by (same_inner (lift_inner k s i)) (map (λ (e : Edge). e.from) (production_at (lift g k) p).edges ++ (production_at (lift g k) p).exits) ≡ 1
  used i s hs h =
      ap (λ (z : Production). count_by (same_inner (lift_inner k s i)) (map (λ (e : Edge). e.from) z.edges ++ z.exits)) (lifted_production g k p) ∙
      (as_often k (λ (e : Edge). e.from) (λ s e. refl) (production_at g p).edges (production_at g p).exits i s hs ∙ wb.used_once i h)

  body_well : IsWellFormedBody (lift g k) p
  body_well = record {
    some_position = subst (λ ms. 0 < length ms) (sym (lifted_body g k p)) wb.some_position;
    modules = λ m h. subst (λ z. m < z) (sym (lifted_shape g k).modules) (wb.modules m (subst (IsIn m) (lifted_body g k p) h));
    names = λ q h. wb.names q (subst (λ (z : Production). IsIn q z.positions) (lifted_production g k p) h);
    names_differ = subst (λ (z : Production). AllDiffer (map (λ (q : Position). q.name) z.positions)) (sym (lifted_production g k p)) wb.names_differ;
    edges_from = λ e h. let q = edge_from e h in subst (λ (z : Edge). IsInnerOutput (lift g k) p z.from) (sym q.4) (output_up q.0.from q.1 q.2 (wb.edges_from q.0 q.3));
    edges_to = λ e h. let q = edge_from e h in subst (λ (z : Edge). IsInnerInput (lift g k) p z.to) (sym q.4) (input_up q.0.to q.1 q.2 (wb.edges_to q.0 q.3));
    entries_to = λ i h. let q = entry_from i h in subst (IsInnerInput (lift g k) p) (sym q.4) (input_up q.0 q.1 q.2 (wb.entries_to q.0 q.3));
    exits_from = λ i h. let q = exit_from i h in subst (IsInnerOutput (lift g k) p) (sym q.4) (output_up q.0 q.1 q.2 (wb.exits_from q.0 q.3));
    one_entry_each = ap (λ (z : Production). length z.entries) (lifted_production g k p) ∙ (length-states (lift_inner k) k (production_at g p).entries ∙ (ap (λ z. z * k) wb.one_entry_each ∙ (sym (lifted_inputs g k (head_of g p)) ∙ ap (inputs_of (lift g k)) (sym (lifted_head g k p)))));
    one_exit_each = ap (λ (z : Production). length z.exits) (lifted_production g k p) ∙ (length-states (lift_inner k) k (production_at g p).exits ∙ (ap (λ z. z * k) wb.one_exit_each ∙ (sym (lifted_outputs g k (head_of g p)) ∙ ap (outputs_of (lift g k)) (sym (lifted_head g k p)))));
    fed_once = λ i h.
        let q = split i.port (inputs_of g h.0) (subst (λ z. i.port < z) (lifted_inputs g k h.0) h.2) in
        let e : lift_inner k (i.port % k) (record { position = i.position; port = i.port / k }) ≡ i = λ t. record { position = i.position; port = q.2 t } in
        subst (λ (z : Inner). count_by (same_inner z) (map (λ (e : Edge). e.to) (production_at (lift g k) p).edges ++ (production_at (lift g k) p).entries) ≡ 1) e
        (fed (record { position = i.position; port = i.port / k }) (i.port % k) q.1 (h.0, subst (IsAt h.0 i.position) (lifted_body g k p) h.1, q.0));
    used_once = λ i h.
        let q = split i.port (outputs_of g h.0) (subst (λ z. i.port < z) (lifted_outputs g k h.0) h.2) in
        let e : lift_inner k (i.port % k) (record { position = i.position; port = i.port / k }) ≡ i = λ t. record { position = i.position; port = q.2 t } in
        subst (λ (z : Inner). count_by (same_inner z) (map (λ (e : Edge). e.from) (production_at (lift g k) p).edges ++ (production_at (lift g k) p).exits) ≡ 1) e
        (used (record { position = i.position; port = i.port / k }) (i.port % k) q.1 (h.0, subst (IsAt h.0 i.position) (lifted_body g k p) h.1, q.0));
    acyclic = λ a b q w. wb.acyclic a b (followed a b q) (walk_same followed w);
  }

names_kept : (k : ℕ) (ms : List Module) → map (λ (m : Module). m.name) (map (lift_module k) ms) ≡ map (λ (m : Module). m.name) ms
names_kept k [] = refl
names_kept k (m ∷ ms) = ap (λ l. m.name ∷ l) (names_kept k ms)

sizes_kept : (k : ℕ) (rs : List Production) → sum_by (λ (r : Production). length r.positions * length r.positions) (map (lift_production k) rs) ≡ sum_by (λ (r : Production). length r.positions * length r.positions) rs
sizes_kept k [] = refl
sizes_kept k (r ∷ rs) =
    sum_by-cons (λ (r : Production). length r.positions * length r.positions) (lift_production k r) (map (lift_production k) rs) ∙
    (ap (λ z. length r.positions * length r.positions + z) (sizes_kept k rs) ∙ sym (sum_by-cons (λ (r : Production). length r.positions * length r.positions) r rs))

module_well : (k : ℕ) → 0 < k → k ≤ 64 → (m : Module) → length m.inputs * k ≤ 64 → length m.outputs * k ≤ 64 → IsWellFormedModule m → IsWellFormedModule (lift_module k m)
module_well k hk h64 m hi ho wm =
    let li = wm.few_inputs in
    let lo = wm.few_outputs in
    record {
      name = wm.name;
      ports = λ n h. ⊎_elim
          (λ a. short_name k h64 105 (length m.inputs) (omega arith) (omega arith) li n (name_from k h64 105 (length m.inputs) n a))
          (λ a. short_name k h64 111 (length m.outputs) (omega arith) (omega arith) lo n (name_from k h64 111 (length m.outputs) n a))
          (in_append_cases n (lifted_names 105 k (length m.inputs)) (lifted_names 111 k (length m.outputs)) h);
      ports_differ = differ-append (lifted_names 105 k (length m.inputs)) (lifted_names 111 k (length m.outputs)) (names_differ k h64 105 (length m.inputs) li) (names_differ k h64 111 (length m.outputs) lo)
          (λ n a b. names_apart k h64 105 111 (length m.inputs) (length m.outputs) (λ e. absurd (omega arith)) li lo n (name_from k h64 105 (length m.inputs) n a) (name_from k h64 111 (length m.outputs) n b));
      few_inputs = subst (λ z. z ≤ 64) (sym (length-lifted_names 105 k (length m.inputs))) hi;
      few_outputs = subst (λ z. z ≤ 64) (sym (length-lifted_names 111 k (length m.outputs))) ho;
    }

pub lifted_grammar_law : LiftedGrammarLaw
lifted_grammar_law g k wf hk h64 few =
    let sh = lifted_shape g k in
    let back = shape_back g (lift g k) sh in
    record {
      formed = record {
        start = subst (λ z. g.start < z) (sym sh.modules) wf.start;
        modules = λ m h. let q = in_map_from (lift_module k) m g.modules h in subst IsWellFormedModule (sym q.2) (module_well k hk h64 q.0 (few q.0 q.1).0 (few q.0 q.1).1 (wf.modules q.0 q.1));
        names_differ = subst AllDiffer (sym (names_kept k g.modules)) wf.names_differ;
        few_modules = subst (λ z. z ≤ 1024) (sym sh.modules) wf.few_modules;
        few_productions = subst (λ z. z ≤ 1024) (sym sh.count) wf.few_productions;
        few_positions = λ p h. subst (λ ms. length ms ≤ 64) (sym (lifted_body g k p)) (wf.few_positions p (subst (λ z. p < z) sh.count h));
        small = subst (λ z. z ≤ 65536) (sym (sizes_kept k g.productions)) wf.small;
        heads = λ p h. subst (λ z. head_of (lift g k) p < z) (sym sh.modules) (subst (λ z. z < length g.modules) (sym (lifted_head g k p)) (wf.heads p (subst (λ z. p < z) sh.count h)));
        bodies = λ p h. body_well g k hk p (wf.bodies p (subst (λ z. p < z) sh.count h));
        given_atomic = λ d h. absurd h;
        given_pairs = λ d e h. absurd h;
      };
      proper = λ q. proper_there g (lift g k) sh q;
      ranks = λ n m. (rank_there g (lift g k) sh n m, rank_there (lift g k) g back n m);
      continues = λ m s. (continues_there g (lift g k) sh m s, continues_there (lift g k) g back m s);
      cycles = λ leasts. (cycles_there g (lift g k) sh leasts, cycles_there (lift g k) g back leasts);
      linear = λ q m s t cs ct. q m s t (continues_there (lift g k) g back m s cs) (continues_there (lift g k) g back m t ct);
    }

-- for an automaton that fits
pub lifted_formed : (g : Grammar) (a : Automaton) → IsWellFormed g → Fits g a → IsWellFormed (lift g a.states)
lifted_formed g a wf fits = let s = fits.automaton.start in let k : 0 < a.states = omega arith in (lifted_grammar_law g a.states wf k fits.states fits.ports).formed
