-- The items of the ports of the root, each with its label.
use Rattle.std.proofs.Common.{◌≡◌, ℕ, ◌+◌, ◌<◌, ◌≤◌, Bool, List, [], ◌∷◌, ◌++◌, map, length, get_or, drop, ap, sym, ◌∙◌, subst, add-one, drop-cons}
use Rattle.std.proofs.lemmas.List.{length-map, map-append, get_or_read, drop_all}
use Rattle.wf_model.specs.declared.event.Event.{Event}
use Rattle.wf_model.specs.declared.event.Event.TheVariants.{Start}
use Rattle.wf_model.specs.declared.numbers.Side.{Side}
use Rattle.wf_model.specs.declared.numbers.Side.TheVariants.{Input as InputSide, Output as OutputSide}
use Rattle.wf_model.specs.Lists.{IsIn, numbers_from}
use Rattle.wf_model.specs.Grammar.{Grammar, Module, module_at}
use Rattle.wf_model.specs.WellFormed.{IsWellFormed}
use Rattle.wf_model.specs.Items.{dotted, input_items, output_items}
use Rattle.wf_model.proofs.Lists.{in_append_left, in_append_right}
use Rattle.wf_model.proofs.NumberLists.{length-numbers}
use Rattle.bit_pack.specs.Bits.{packed}
use Rattle.label_model.specs.Labels.{Input, Output, label_bits}
use Rattle.label_model.specs.Files.{Entry, entry_of}
use Rattle.label_model.specs.RunLabels.{labelled_by}
use Rattle.label_model.proofs.Lists.{zip-append}
use Rattle.label_model.proofs.ItemLabels.{length-inputs}
use Rattle.label_model.proofs.RunBounds.{start_module}
use Rattle.wf_labeller.specs.Entries.{port_label, labelled_ports}

-- the module of the root, read from the modules
pub record IsRoot (g : Grammar) (r : Module) : Type 0 where
  pub is : r ≡ module_at g g.start
  pub few_inputs : length r.inputs ≤ 64
  pub few_outputs : length r.outputs ≤ 64
  pub short_inputs : (n : List ℕ) → IsIn n r.inputs → length n ≤ 64
  pub short_outputs : (n : List ℕ) → IsIn n r.outputs → length n ≤ 64

pub root_read : (g : Grammar) (ms : List Module) (m : ℕ) (r : Module) → IsWellFormed g → ms ≡ g.modules → m ≡ g.start → r ≡ get_or ms m r → IsRoot g r
root_read g ms m r wf e s q =
    let is : r ≡ module_at g g.start = get_or_read g.modules g.start r wf.start (q ∙ (ap (λ l. get_or l m r) e ∙ ap (λ k. get_or g.modules k r) s)) (record { name = []; inputs = []; outputs = [] }) in
    let w = wf.modules (module_at g g.start) (start_module g wf) in
    record {
      is = is;
      few_inputs = subst (λ (z : Module). length z.inputs ≤ 64) (sym is) w.few_inputs;
      few_outputs = subst (λ (z : Module). length z.outputs ≤ 64) (sym is) w.few_outputs;
      short_inputs = subst (λ (z : Module). (n : List ℕ) → IsIn n z.inputs → length n ≤ 64) (sym is) (λ n i. (w.ports n (in_append_left n (module_at g g.start).inputs (module_at g g.start).outputs i)).1);
      short_outputs = subst (λ (z : Module). (n : List ℕ) → IsIn n z.outputs → length n ≤ 64) (sym is) (λ n i. (w.ports n (in_append_right n (module_at g g.start).inputs (module_at g g.start).outputs i)).1);
    }

-- the items of a start event are those of the inputs, and then those of the outputs
pub labelled-start : (g : Grammar) (events : List Event) (r : List ℕ) →
    map entry_of (labelled_by g events (Start r)) ≡
    map entry_of (labelled_ports InputSide r 0 (module_at g g.start).inputs) ++ map entry_of (labelled_ports OutputSide r 0 (module_at g g.start).outputs)
labelled-start g events r =
    let ins = (module_at g g.start).inputs in
    let outs = (module_at g g.start).outputs in
    ap (map entry_of) (zip-append (input_items r 0 ins) (output_items r 0 outs) (map Input (numbers_from 0 (length ins))) (map Output (numbers_from 0 (length outs)))
    (length-inputs r 0 ins ∙ sym (length-map (numbers_from 0 (length ins)) Input ∙ length-numbers 0 (length ins)))) ∙
    map-append entry_of (labelled_ports InputSide r 0 ins) (labelled_ports OutputSide r 0 outs)

-- the entry of a port
abbrev pub port_entry : Side → List ℕ → ℕ → List ℕ → Entry
port_entry side r k n = record { name = dotted r n; label = packed (label_bits (port_label side k)) }

-- the entries of the ports from one on begin with that of the port
pub ports-cons : (side : Side) (r : List ℕ) (k : ℕ) (ports : List (List ℕ)) (d : List ℕ) → k < length ports →
    map entry_of (labelled_ports side r k (drop k ports)) ≡ port_entry side r k (get_or ports k d) ∷ map entry_of (labelled_ports side r (k + 1) (drop (k + 1) ports))
ports-cons InputSide r k ports d h =
    ap (λ l. map entry_of (labelled_ports InputSide r k l)) (drop-cons ports k d h) ∙ ap (λ n. port_entry InputSide r k (get_or ports k d) ∷ map entry_of (labelled_ports InputSide r n (drop n ports))) (sym (add-one k))
ports-cons OutputSide r k ports d h =
    ap (λ l. map entry_of (labelled_ports OutputSide r k l)) (drop-cons ports k d h) ∙ ap (λ n. port_entry OutputSide r k (get_or ports k d) ∷ map entry_of (labelled_ports OutputSide r n (drop n ports))) (sym (add-one k))

-- there are none behind the last port
pub no_ports : (side : Side) (r : List ℕ) (k : ℕ) (ports : List (List ℕ)) → length ports ≤ k → map entry_of (labelled_ports side r k (drop k ports)) ≡ []
no_ports InputSide r k ports h = ap (λ l. map entry_of (labelled_ports InputSide r k l)) (drop_all k ports h)
no_ports OutputSide r k ports h = ap (λ l. map entry_of (labelled_ports OutputSide r k l)) (drop_all k ports h)

-- the entry of a port, from what is read and written for it
pub port_is : (side : Side) (r : List ℕ) (k : ℕ) (ports : List (List ℕ)) (d port read label : List ℕ) (bits : List Bool) → port ≡ read → read ≡ get_or ports k read → k < length ports → label ≡ packed bits → bits ≡ label_bits (port_label side k) →
    record { name = dotted r port; label = label } ≡ port_entry side r k (get_or ports k d)
port_is side r k ports d port read label bits e is h p b =
    ap (λ (n : List ℕ). record { name = dotted r n; label = label }) (e ∙ get_or_read ports k read h is d) ∙ ap (λ (l : List ℕ). record { name = dotted r (get_or ports k d); label = l }) (p ∙ ap packed b)
