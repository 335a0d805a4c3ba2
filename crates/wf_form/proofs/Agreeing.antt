-- Wirings and the parts that they are of: what they say of links is the same.
use Rattle.std.proofs.Common.{◌≡◌, ◌↔◌, ℕ, ◌<◌, ◌≤◌, List, [], ◌∷◌, ◌++◌, length, map, refl, sym, ap, subst, ◌∙◌, ⊎_elim}
use Rattle.std.proofs.lemmas.List.{length-map}
use Rattle.wf_model.specs.declared.body.Edge.{Edge as EdgeHeld}
use Rattle.wf_model.specs.declared.parts.ProdPart.{ProdPart}
use Rattle.wf_model.specs.declared.parts.EdgePart.{EdgePart}
use Rattle.wf_model.specs.declared.parts.EntryPart.{EntryPart}
use Rattle.wf_model.specs.declared.parts.ExitPart.{ExitPart}
use Rattle.wf_model.specs.Lists.{IsIn, AllDiffer}
use Rattle.wf_model.specs.Grammar.{Module, Position, Inner, Edge}
use Rattle.wf_model.specs.Meaning.{position_of, inner_of, edge_of}
use Rattle.wf_model.proofs.Lists.{in_append_cases, in_map_from}
use Rattle.wf_form.specs.declared.wiring.Entry.{Entry}
use Rattle.wf_form.specs.declared.wiring.Exit.{Exit}
use Rattle.wf_form.specs.declared.wiring.Wiring.{Wiring}
use Rattle.wf_spec.specs.Naming.{place_of, names_of}
use Rattle.wf_form.specs.Forming.{placed, body_in, head_in, inner_input, inner_output, edge_in}
use Rattle.wf_form.specs.Graphs.{IsAcyclic}
use Rattle.wf_form.specs.Resolving.{AreOfModules, IsInputIn, IsOutputIn}
use Rattle.wf_form.specs.Rules.{fed, used, entered, left, HasKnownModules, HasKnownPorts, IsLinkedAtMostOnce, IsLinkedAtLeastOnce, HasNoCycle}
use Rattle.wf_form.specs.Wiring.{entry_of, exit_of, entry_link, exit_link, IsWiringOf, fed_by, used_by, entered_by, left_by, IsWithin, IsWiredAtMostOnce, IsWiredAtLeastOnce, IsWiredForward}
use Rattle.wf_spec.proofs.Finding.{place_within, number_below}
use Rattle.wf_form.proofs.Numbered.{numbers_differ, numbers_all}
use Rattle.wf_form.proofs.Wired.{same_head}

map_after : {C D E : Type 0} (h : C → D) (f : E → C) (q : E → D) → ((x : E) → h (f x) ≡ q x) → (zs : List E) → map h (map f zs) ≡ map q zs
map_after h f q e [] = refl
map_after h f q e (z ∷ zs) = ap (λ w. w ∷ map h (map f zs)) (e z) ∙ ap (λ ws. q z ∷ ws) (map_after h f q e zs)

-- what two functions make of two lists that are the same after others
through : {A B C D : Type 0} (f : A → C) (g : B → C) (h : C → D) (k : A → D) (l : B → D) (xs : List A) (ys : List B)
    → ((x : A) → h (f x) ≡ k x) → ((y : B) → h (g y) ≡ l y) → map f xs ≡ map g ys → map k xs ≡ map l ys
through f g h k l xs ys before after same = sym (map_after h f k before xs) ∙ (ap (map h) same ∙ map_after h g l after ys)

module _ (modules : List Module) (p : ProdPart) (w : Wiring) (of : IsWiringOf modules p w) where
  fed_is : fed_by w ≡ fed modules p
  fed_is =
      ap (λ l. l ++ map (λ (e : Entry). inner_of e.to) w.entries.items)
      (through edge_of (edge_in modules (body_in modules p)) (λ (e : Edge). e.to) (λ (e : EdgeHeld). inner_of e.to) (λ (e : EdgePart). inner_input modules (body_in modules p) e.to)
      w.edges.items p.edges (λ e. refl) (λ e. refl) of.edges)
      ∙ ap (λ l. map (λ (e : EdgePart). inner_input modules (body_in modules p) e.to) p.edges ++ l)
      (through entry_of (entry_link modules (body_in modules p) (head_in modules p)) (λ (e : ℕ × Inner). e.1) (λ (e : Entry). inner_of e.to) (λ (e : EntryPart). inner_input modules (body_in modules p) e.to)
      w.entries.items p.entries (λ e. refl) (λ e. refl) of.entries)

  used_is : used_by w ≡ used modules p
  used_is =
      ap (λ l. l ++ map (λ (e : Exit). inner_of e.from) w.exits.items)
      (through edge_of (edge_in modules (body_in modules p)) (λ (e : Edge). e.from) (λ (e : EdgeHeld). inner_of e.from) (λ (e : EdgePart). inner_output modules (body_in modules p) e.from)
      w.edges.items p.edges (λ e. refl) (λ e. refl) of.edges)
      ∙ ap (λ l. map (λ (e : EdgePart). inner_output modules (body_in modules p) e.from) p.edges ++ l)
      (through exit_of (exit_link modules (body_in modules p) (head_in modules p)) (λ (e : Inner × ℕ). e.0) (λ (e : Exit). inner_of e.from) (λ (e : ExitPart). inner_output modules (body_in modules p) e.from)
      w.exits.items p.exits (λ e. refl) (λ e. refl) of.exits)

  entered_is : entered_by w ≡ map (place_of (head_in modules p).inputs) (entered p)
  entered_is =
      through entry_of (entry_link modules (body_in modules p) (head_in modules p)) (λ (e : ℕ × Inner). e.0) (λ (e : Entry). e.port.0) (λ (e : EntryPart). place_of (head_in modules p).inputs e.port)
      w.entries.items p.entries (λ e. refl) (λ e. refl) of.entries
      ∙ sym (map_after (place_of (head_in modules p).inputs) (λ (e : EntryPart). e.port) (λ (e : EntryPart). place_of (head_in modules p).inputs e.port) (λ e. refl) p.entries)

  left_is : left_by w ≡ map (place_of (head_in modules p).outputs) (left p)
  left_is =
      through exit_of (exit_link modules (body_in modules p) (head_in modules p)) (λ (e : Inner × ℕ). e.1) (λ (e : Exit). e.port.0) (λ (e : ExitPart). place_of (head_in modules p).outputs e.port)
      w.exits.items p.exits (λ e. refl) (λ e. refl) of.exits
      ∙ sym (map_after (place_of (head_in modules p).outputs) (λ (e : ExitPart). e.port) (λ (e : ExitPart). place_of (head_in modules p).outputs e.port) (λ e. refl) p.exits)

  -- its edges lead from no position back to it
  pub forward_same : IsWiredForward w ↔ HasNoCycle modules p
  forward_same = (subst IsAcyclic of.edges, subst IsAcyclic (sym of.edges))

module _ (modules : List Module) (p : ProdPart) (w : Wiring) (of : IsWiringOf modules p w) (ports : HasKnownPorts modules p) where
  known_entries : (n : List ℕ) → IsIn n (entered p) → IsIn n (head_in modules p).inputs
  known_entries n i = let r = in_map_from (λ (e : EntryPart). e.port) n p.entries i in subst (λ m. IsIn m (head_in modules p).inputs) (sym r.2) (ports.entries_from r.0 r.1)

  known_exits : (n : List ℕ) → IsIn n (left p) → IsIn n (head_in modules p).outputs
  known_exits n i = let r = in_map_from (λ (e : ExitPart). e.port) n p.exits i in subst (λ m. IsIn m (head_in modules p).outputs) (sym r.2) (ports.exits_to r.0 r.1)

  -- no port has two links
  pub most_same : IsWiredAtMostOnce w ↔ IsLinkedAtMostOnce modules p
  most_same = (
    λ h. record {
      inputs = subst AllDiffer (fed_is modules p w of) h.inputs;
      outputs = subst AllDiffer (used_is modules p w of) h.outputs;
      head_inputs = (numbers_differ (head_in modules p).inputs (entered p) (entered_by w) (entered_is modules p w of) known_entries).0 h.head_inputs;
      head_outputs = (numbers_differ (head_in modules p).outputs (left p) (left_by w) (left_is modules p w of) known_exits).0 h.head_outputs;
    },
    λ h. record {
      inputs = subst AllDiffer (sym (fed_is modules p w of)) h.inputs;
      outputs = subst AllDiffer (sym (used_is modules p w of)) h.outputs;
      head_inputs = (numbers_differ (head_in modules p).inputs (entered p) (entered_by w) (entered_is modules p w of) known_entries).1 h.head_inputs;
      head_outputs = (numbers_differ (head_in modules p).outputs (left p) (left_by w) (left_is modules p w of) known_exits).1 h.head_outputs;
    },
  )

  -- each has one
  pub least_same : AllDiffer (head_in modules p).inputs → AllDiffer (head_in modules p).outputs → IsWiredAtLeastOnce modules w ↔ IsLinkedAtLeastOnce modules p
  least_same ins outs = (
    λ h. record {
      inputs = λ i a. subst (IsIn i) (fed_is modules p w of) (h.inputs i (subst (λ (b : List Position). IsInputIn modules b i) (sym of.positions) a));
      outputs = λ i a. subst (IsIn i) (used_is modules p w of) (h.outputs i (subst (λ (b : List Position). IsOutputIn modules b i) (sym of.positions) a));
      head_inputs = (numbers_all (head_in modules p).inputs (entered p) (entered_by w) (entered_is modules p w of) ins known_entries).0
          (subst (λ (m : Module). (k : ℕ) → k < length m.inputs → IsIn k (entered_by w)) (same_head modules p w of) h.head_inputs);
      head_outputs = (numbers_all (head_in modules p).outputs (left p) (left_by w) (left_is modules p w of) outs known_exits).0
          (subst (λ (m : Module). (k : ℕ) → k < length m.outputs → IsIn k (left_by w)) (same_head modules p w of) h.head_outputs);
    },
    λ h. record {
      inputs = λ i a. subst (IsIn i) (sym (fed_is modules p w of)) (h.inputs i (subst (λ (b : List Position). IsInputIn modules b i) of.positions a));
      outputs = λ i a. subst (IsIn i) (sym (used_is modules p w of)) (h.outputs i (subst (λ (b : List Position). IsOutputIn modules b i) of.positions a));
      head_inputs = subst (λ (m : Module). (k : ℕ) → k < length m.inputs → IsIn k (entered_by w)) (sym (same_head modules p w of))
          ((numbers_all (head_in modules p).inputs (entered p) (entered_by w) (entered_is modules p w of) ins known_entries).1 h.head_inputs);
      head_outputs = subst (λ (m : Module). (k : ℕ) → k < length m.outputs → IsIn k (left_by w)) (sym (same_head modules p w of))
          ((numbers_all (head_in modules p).outputs (left p) (left_by w) (left_is modules p w of) outs known_exits).1 h.head_outputs);
    },
  )

  -- its numbers are those of what is there
  pub within_parts : HasKnownModules (names_of modules) p → length p.body ≤ 64 → IsWithin modules w
  within_parts known few = record {
    head = subst (λ k. k < length modules) (sym of.head) (number_below modules p.head known.head);
    few_positions = subst (λ n. n ≤ 64) (sym (sym (length-map w.positions.items position_of) ∙ (ap length of.positions ∙ length-map p.body (placed (names_of modules))))) few;
    of_modules = subst (AreOfModules modules) (sym of.positions) (λ q i.
        (let r = in_map_from (placed (names_of modules)) q p.body i in
        subst (λ (z : Position). z.module_no < length modules) (sym r.2) (number_below modules r.0.«module» (known.positions r.0 r.1))));
    fed = λ i h. subst (λ (b : List Position). IsInputIn modules b i) (sym of.positions) (⊎_elim
        (λ a. (let r = in_map_from (λ (e : EdgePart). inner_input modules (body_in modules p) e.to) i p.edges a in subst (IsInputIn modules (body_in modules p)) (sym r.2) (ports.edges r.0 r.1).to))
        (λ a. (let r = in_map_from (λ (e : EntryPart). inner_input modules (body_in modules p) e.to) i p.entries a in subst (IsInputIn modules (body_in modules p)) (sym r.2) (ports.entries_to r.0 r.1)))
        (in_append_cases i (map (λ (e : EdgePart). inner_input modules (body_in modules p) e.to) p.edges) _ (subst (IsIn i) (fed_is modules p w of) h)));
    used = λ i h. subst (λ (b : List Position). IsOutputIn modules b i) (sym of.positions) (⊎_elim
        (λ a. (let r = in_map_from (λ (e : EdgePart). inner_output modules (body_in modules p) e.from) i p.edges a in subst (IsOutputIn modules (body_in modules p)) (sym r.2) (ports.edges r.0 r.1).from))
        (λ a. (let r = in_map_from (λ (e : ExitPart). inner_output modules (body_in modules p) e.from) i p.exits a in subst (IsOutputIn modules (body_in modules p)) (sym r.2) (ports.exits_from r.0 r.1)))
        (in_append_cases i (map (λ (e : EdgePart). inner_output modules (body_in modules p) e.from) p.edges) _ (subst (IsIn i) (used_is modules p w of) h)));
    entered = λ k h.
        (let r = in_map_from (place_of (head_in modules p).inputs) k (entered p) (subst (IsIn k) (entered_is modules p w of) h) in
        subst (λ (m : Module). k < length m.inputs) (sym (same_head modules p w of)) (subst (λ j. j < length (head_in modules p).inputs) (sym r.2) (place_within (head_in modules p).inputs r.0 (known_entries r.0 r.1))));
    left = λ k h.
        (let r = in_map_from (place_of (head_in modules p).outputs) k (left p) (subst (IsIn k) (left_is modules p w of) h) in
        subst (λ (m : Module). k < length m.outputs) (sym (same_head modules p w of)) (subst (λ j. j < length (head_in modules p).outputs) (sym r.2) (place_within (head_in modules p).outputs r.0 (known_exits r.0 r.1))));
  }
