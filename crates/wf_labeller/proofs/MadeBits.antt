-- The bits of the labels of the items of an event.
use Rattle.std.proofs.Common.{◌≡◌, ℕ, Option, List, [], ◌∷◌, ◌++◌, map, length, zip, refl, ap, sym, ◌∙◌, arith, length-append}
use Rattle.std.proofs.lemmas.List.{length-map, map-append}
use Rattle.std.proofs.lemmas.Simd.{map-map}
use Rattle.wf_model.specs.declared.event.Event.{Event}
use Rattle.wf_model.specs.declared.event.Event.TheVariants.{Start}
use Rattle.wf_model.specs.Lists.{numbers_from}
use Rattle.wf_model.specs.Grammar.{Grammar, module_at}
use Rattle.wf_model.specs.Items.{Item, input_items, output_items}
use Rattle.wf_model.proofs.NumberLists.{length-numbers}
use Rattle.label_model.specs.Labels.{Label, Input, Output, label_bits}
use Rattle.label_model.specs.RunLabels.{labelled_by}
use Rattle.label_model.proofs.ItemLabels.{length-inputs, length-outputs}
use Rattle.bit_pack.specs.Bits.{packed}
use Rattle.bit_pack.specs.Written.{first_bits}
use Rattle.bit_pack.proofs.Filling.{first_packed}
use Rattle.wf_spec.specs.Held.{HeldGrammar}
use Rattle.wf_run.specs.Runs.{RunSeen, node_at}
use Rattle.wf_labeller.specs.Groups.{root_bits, edges_bits, bits_of_items}

-- the labels of items that stand beside them
pub bits-zip : (xs : List Item) (ls : List Label) → length xs ≡ length ls → bits_of_items (zip xs ls) ≡ map label_bits ls
bits-zip [] [] e = refl
bits-zip [] (l ∷ ls) e = absurd (omega (arith, e))
bits-zip (x ∷ xs) [] e = absurd (omega (arith, e))
bits-zip (x ∷ xs) (l ∷ ls) e = ap (λ z. label_bits l ∷ z) (bits-zip xs ls (omega (arith, e)))

-- of a start event they are those of the ports of the root
pub root_made : (g : Grammar) (events : List Event) (r : List ℕ) → root_bits g ≡ bits_of_items (labelled_by g events (Start r))
root_made g events r =
    let ins = (module_at g g.start).inputs in
    let outs = (module_at g g.start).outputs in
    let a = numbers_from 0 (length ins) in
    let b = numbers_from 0 (length outs) in
    let few : length (input_items r 0 ins ++ output_items r 0 outs) ≡ length (map Input a ++ map Output b) =
    omega (
      arith,
      length-append (input_items r 0 ins) (output_items r 0 outs),
      length-append (map Input a) (map Output b),
      length-inputs r 0 ins,
      length-outputs r 0 outs,
      length-map a Input,
      length-map b Output,
      length-numbers 0 (length ins),
      length-numbers 0 (length outs),
    ) in
    sym (bits-zip (input_items r 0 ins ++ output_items r 0 outs) (map Input a ++ map Output b) few ∙
    (map-append label_bits (map Input a) (map Output b) ∙
    (ap (λ z. z ++ map label_bits (map Output b)) (map-map label_bits Input a) ∙ ap (λ z. map (λ k. label_bits (Input k)) a ++ z) (map-map label_bits Output b))))

-- the labels that are made with the prefix that is read from a run are those that are made with what the run keeps
pub bits_read : (r : RunSeen) (h : HeldGrammar) (p k : ℕ) (bytes : List ℕ) (n : ℕ) (chain : Option ℕ) → h ≡ r.grammar → bytes ≡ packed (node_at r k).bits → n ≡ length (node_at r k).bits → chain ≡ (node_at r k).chain →
    edges_bits h.core p (first_bits bytes n) chain ≡ edges_bits r.grammar.core p (node_at r k).bits (node_at r k).chain
bits_read r h p k bytes n chain a b c d =
    ap (λ (z : HeldGrammar). edges_bits z.core p (first_bits bytes n) chain) a ∙
    (ap (λ z. edges_bits r.grammar.core p z chain) (ap (λ z. first_bits z n) b ∙ (ap (first_bits (packed (node_at r k).bits)) c ∙ first_packed (node_at r k).bits)) ∙
    ap (edges_bits r.grammar.core p (node_at r k).bits) d)
