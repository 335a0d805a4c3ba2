-- The links of a production part, by the rules and in its body.
use Rattle.std.proofs.Common.{◌≡◌, ℕ, zero, suc, ◌<◌, List, [], ◌∷◌, ◌++◌, map, length, get_or, refl, sym, ap, ◌∙◌, subst, arith}
use Rattle.std.proofs.lemmas.List.{length-map}
use Rattle.wf_model.specs.declared.parts.ProdPart.{ProdPart}
use Rattle.wf_model.specs.declared.parts.EdgePart.{EdgePart}
use Rattle.wf_model.specs.declared.parts.EntryPart.{EntryPart}
use Rattle.wf_model.specs.declared.parts.ExitPart.{ExitPart}
use Rattle.wf_model.specs.Lists.{IsIn, AllDiffer}
use Rattle.wf_model.specs.Grammar.{Module, Position, Inner, Edge}
use Rattle.wf_model.proofs.Lists.{in_map, in_map_from}
use Rattle.wf_form.specs.Ends.{IsPortOf, AreMetOnce}
use Rattle.wf_spec.specs.Bodies.{modules_at}
use Rattle.wf_form.specs.Bodies.{inputs_in, outputs_in, IsLinkedOnce}
use Rattle.wf_form.specs.Forming.{inner_input, inner_output, edge_in, body_in, head_in, production_in, HasItsLinks}
use Rattle.wf_form.specs.Resolving.{IsInputIn, IsOutputIn}
use Rattle.wf_form.specs.Rules.{HasKnownPorts, IsLinkedAtMostOnce, IsLinkedAtLeastOnce, entered, left}
use Rattle.wf_form.proofs.Picking.{AreTidy, tidy_met, met_tidy}

-- how many ports stand at a place
port_there : (f : ℕ → ℕ) (body : List Position) (k n d : ℕ) → k < length body → n < f (get_or (modules_at body) k d) → n < get_or (map f (modules_at body)) k 0
port_there f [] k n d h l = absurd (omega arith)
port_there f (q ∷ body) zero n d h l = l
port_there f (q ∷ body) (suc k) n d h l = port_there f body k n d (omega arith) l

there_port : (f : ℕ → ℕ) (body : List Position) (k n d : ℕ) → n < get_or (map f (modules_at body)) k 0 → (k < length body) × (n < f (get_or (modules_at body) k d))
there_port f [] k n d h = absurd (omega arith)
there_port f (q ∷ body) zero n d h = (omega arith, h)
there_port f (q ∷ body) (suc k) n d h = let r = there_port f body k n d h in (let a = r.0 in omega arith, r.1)

abbrev pub inputs_at : List Module → ProdPart → List ℕ
inputs_at modules p = map (inputs_in modules) (modules_at (body_in modules p))

abbrev pub outputs_at : List Module → ProdPart → List ℕ
outputs_at modules p = map (outputs_in modules) (modules_at (body_in modules p))

input_port : (modules : List Module) (p : ProdPart) (i : Inner) → IsInputIn modules (body_in modules p) i → IsPortOf (inputs_at modules p) i
input_port modules p i h = port_there (inputs_in modules) (body_in modules p) i.position i.port (length modules) h.position h.port

port_input : (modules : List Module) (p : ProdPart) (i : Inner) → IsPortOf (inputs_at modules p) i → IsInputIn modules (body_in modules p) i
port_input modules p i h =
    let r = there_port (inputs_in modules) (body_in modules p) i.position i.port (length modules) h in record { position = r.0; port = r.1 }

output_port : (modules : List Module) (p : ProdPart) (i : Inner) → IsOutputIn modules (body_in modules p) i → IsPortOf (outputs_at modules p) i
output_port modules p i h = port_there (outputs_in modules) (body_in modules p) i.position i.port (length modules) h.position h.port

port_output : (modules : List Module) (p : ProdPart) (i : Inner) → IsPortOf (outputs_at modules p) i → IsOutputIn modules (body_in modules p) i
port_output modules p i h =
    let r = there_port (outputs_in modules) (body_in modules p) i.position i.port (length modules) h in record { position = r.0; port = r.1 }

-- the ends of its edges, entries and exits in the body
abbrev pub targets : List Module → ProdPart → List Inner
targets modules p = map (λ (e : EdgePart). inner_input modules (body_in modules p) e.to) p.edges

abbrev pub sources : List Module → ProdPart → List Inner
sources modules p = map (λ (e : EdgePart). inner_output modules (body_in modules p) e.from) p.edges

abbrev pub entry_targets : List Module → ProdPart → List Inner
entry_targets modules p = map (λ (e : EntryPart). inner_input modules (body_in modules p) e.to) p.entries

abbrev pub exit_sources : List Module → ProdPart → List Inner
exit_sources modules p = map (λ (e : ExitPart). inner_output modules (body_in modules p) e.from) p.exits

-- the links of a production part are tidy on both sides
pub record HasTidyLinks (modules : List Module) (p : ProdPart) : Type 0 where
  pub inputs : AreTidy (inputs_at modules p) (head_in modules p).inputs (targets modules p) (entered p) (entry_targets modules p)
  pub outputs : AreTidy (outputs_at modules p) (head_in modules p).outputs (sources modules p) (left p) (exit_sources modules p)

-- so they are where they keep the rules
pub links_tidy : (modules : List Module) (p : ProdPart) → HasKnownPorts modules p → IsLinkedAtMostOnce modules p → IsLinkedAtLeastOnce modules p → HasTidyLinks modules p
links_tidy modules p known most least = record {
  inputs = record {
    edges_within = λ i h. (let r = in_map_from (λ (e : EdgePart). inner_input modules (body_in modules p) e.to) i p.edges h in
        subst (IsPortOf (inputs_at modules p)) (sym r.2) (input_port modules p (inner_input modules (body_in modules p) r.0.to) (known.edges r.0 r.1).to));
    values_within = λ i h. (let r = in_map_from (λ (e : EntryPart). inner_input modules (body_in modules p) e.to) i p.entries h in
        subst (IsPortOf (inputs_at modules p)) (sym r.2) (input_port modules p (inner_input modules (body_in modules p) r.0.to) (known.entries_to r.0 r.1)));
    at_most_once = most.inputs;
    at_least_once = λ i h. least.inputs i (port_input modules p i h);
    known = λ n h. (let r = in_map_from (λ (e : EntryPart). e.port) n p.entries h in subst (λ m. IsIn m (head_in modules p).inputs) (sym r.2) (known.entries_from r.0 r.1));
    names_differ = most.head_inputs;
    each = least.head_inputs;
  };
  outputs = record {
    edges_within = λ i h. (let r = in_map_from (λ (e : EdgePart). inner_output modules (body_in modules p) e.from) i p.edges h in
        subst (IsPortOf (outputs_at modules p)) (sym r.2) (output_port modules p (inner_output modules (body_in modules p) r.0.from) (known.edges r.0 r.1).from));
    values_within = λ i h. (let r = in_map_from (λ (e : ExitPart). inner_output modules (body_in modules p) e.from) i p.exits h in
        subst (IsPortOf (outputs_at modules p)) (sym r.2) (output_port modules p (inner_output modules (body_in modules p) r.0.from) (known.exits_from r.0 r.1)));
    at_most_once = most.outputs;
    at_least_once = λ i h. least.outputs i (port_output modules p i h);
    known = λ n h. (let r = in_map_from (λ (e : ExitPart). e.port) n p.exits h in subst (λ m. IsIn m (head_in modules p).outputs) (sym r.2) (known.exits_to r.0 r.1));
    names_differ = most.head_outputs;
    each = least.head_outputs;
  };
}

-- and tidy links keep the rules
pub tidy_known : (modules : List Module) (p : ProdPart) → HasTidyLinks modules p → HasKnownPorts modules p
tidy_known modules p t = record {
  edges = λ e h. record {
    from = port_output modules p (inner_output modules (body_in modules p) e.from) (t.outputs.edges_within _ (in_map (λ (x : EdgePart). inner_output modules (body_in modules p) x.from) e p.edges h));
    to = port_input modules p (inner_input modules (body_in modules p) e.to) (t.inputs.edges_within _ (in_map (λ (x : EdgePart). inner_input modules (body_in modules p) x.to) e p.edges h));
  };
  entries_from = λ e h. t.inputs.known e.port (in_map (λ (x : EntryPart). x.port) e p.entries h);
  entries_to = λ e h. port_input modules p (inner_input modules (body_in modules p) e.to) (t.inputs.values_within _ (in_map (λ (x : EntryPart). inner_input modules (body_in modules p) x.to) e p.entries h));
  exits_from = λ e h. port_output modules p (inner_output modules (body_in modules p) e.from) (t.outputs.values_within _ (in_map (λ (x : ExitPart). inner_output modules (body_in modules p) x.from) e p.exits h));
  exits_to = λ e h. t.outputs.known e.port (in_map (λ (x : ExitPart). x.port) e p.exits h);
}

pub tidy_at_most : (modules : List Module) (p : ProdPart) → HasTidyLinks modules p → IsLinkedAtMostOnce modules p
tidy_at_most modules p t = record {
  inputs = t.inputs.at_most_once;
  outputs = t.outputs.at_most_once;
  head_inputs = t.inputs.names_differ;
  head_outputs = t.outputs.names_differ;
}

pub tidy_at_least : (modules : List Module) (p : ProdPart) → HasTidyLinks modules p → IsLinkedAtLeastOnce modules p
tidy_at_least modules p t = record {
  inputs = λ i h. t.inputs.at_least_once i (input_port modules p i h);
  outputs = λ i h. t.outputs.at_least_once i (output_port modules p i h);
  head_inputs = t.inputs.each;
  head_outputs = t.outputs.each;
}

-- the ends of edges, from the parts and by numbers
ends_to : (modules : List Module) (p : ProdPart) → map (λ (e : Edge). e.to) (production_in modules p).edges ≡ targets modules p
ends_to modules p = go p.edges
  where
    go : (es : List EdgePart) → map (λ (e : Edge). e.to) (map (edge_in modules (body_in modules p)) es) ≡ map (λ (e : EdgePart). inner_input modules (body_in modules p) e.to) es
    go [] = refl
    go (e ∷ es) = ap (λ is. inner_input modules (body_in modules p) e.to ∷ is) (go es)

ends_from : (modules : List Module) (p : ProdPart) → map (λ (e : Edge). e.from) (production_in modules p).edges ≡ sources modules p
ends_from modules p = go p.edges
  where
    go : (es : List EdgePart) → map (λ (e : Edge). e.from) (map (edge_in modules (body_in modules p)) es) ≡ map (λ (e : EdgePart). inner_output modules (body_in modules p) e.from) es
    go [] = refl
    go (e ∷ es) = ap (λ is. inner_output modules (body_in modules p) e.from ∷ is) (go es)

as_long : {A B C : Type 0} (f : A → B) (g : A → C) (xs : List A) → length (map f xs) ≡ length (map g xs)
as_long f g xs = length-map xs f ∙ sym (length-map xs g)

-- tidy links are linked once in the production, and its head's are named
pub tidy_linked : (modules : List Module) (p : ProdPart) → AllDiffer (head_in modules p).inputs → AllDiffer (head_in modules p).outputs → HasTidyLinks modules p
    → IsLinkedOnce modules (production_in modules p) × HasItsLinks modules p
tidy_linked modules p ins outs t =
    let d : Inner = record { position = length (body_in modules p); port = 0 } in
    let a = tidy_met (inputs_at modules p) (head_in modules p).inputs (targets modules p) (entered p) (entry_targets modules p) d ins
    (as_long (λ (e : EntryPart). e.port) (λ (e : EntryPart). inner_input modules (body_in modules p) e.to) p.entries) t.inputs in
    let b = tidy_met (outputs_at modules p) (head_in modules p).outputs (sources modules p) (left p) (exit_sources modules p) d outs
    (as_long (λ (e : ExitPart). e.port) (λ (e : ExitPart). inner_output modules (body_in modules p) e.from) p.exits) t.outputs in (
      record {
        fed = subst (λ es. AreMetOnce (inputs_at modules p) (es ++ (production_in modules p).entries)) (sym (ends_to modules p)) a.0;
        used = subst (λ es. AreMetOnce (outputs_at modules p) (es ++ (production_in modules p).exits)) (sym (ends_from modules p)) b.0;
      },
      record { entries = a.1; exits = b.1 },
    )

pub linked_tidy : (modules : List Module) (p : ProdPart) → AllDiffer (head_in modules p).inputs → AllDiffer (head_in modules p).outputs → IsLinkedOnce modules (production_in modules p)
    → HasItsLinks modules p → HasTidyLinks modules p
linked_tidy modules p ins outs once links =
    let d : Inner = record { position = length (body_in modules p); port = 0 } in
    record {
      inputs = met_tidy (inputs_at modules p) (head_in modules p).inputs (targets modules p) (entered p) (entry_targets modules p) d ins
          (as_long (λ (e : EntryPart). e.port) (λ (e : EntryPart). inner_input modules (body_in modules p) e.to) p.entries)
          (subst (λ es. AreMetOnce (inputs_at modules p) (es ++ (production_in modules p).entries)) (ends_to modules p) once.fed) links.entries;
      outputs = met_tidy (outputs_at modules p) (head_in modules p).outputs (sources modules p) (left p) (exit_sources modules p) d outs
          (as_long (λ (e : ExitPart). e.port) (λ (e : ExitPart). inner_output modules (body_in modules p) e.from) p.exits)
          (subst (λ es. AreMetOnce (outputs_at modules p) (es ++ (production_in modules p).exits)) (ends_from modules p) once.used) links.exits;
    }
