-- The labels of an event, measured one after another.
use Rattle.std.proofs.Common.{◌≡◌, ℕ, ◌+◌, ◌-◌, ◌<◌, ◌≤◌, Bool, Option, List, [], ◌∷◌, ◌++◌, map, length, get_or, ap, sym, ◌∙◌, arith, add-one, length-append}
use Rattle.std.specs.Prelude.{max}
use Rattle.std.proofs.lemmas.List.{length-map, map-append, get_or_append_left, get_or-append_right}
use Rattle.wf_model.specs.declared.numbers.Side.{Side}
use Rattle.wf_model.specs.declared.numbers.Side.TheVariants.{Input as InputSide, Output as OutputSide}
use Rattle.wf_model.specs.Lists.{numbers_from}
use Rattle.wf_model.specs.Grammar.{Grammar, production_at, inputs_of, outputs_of, alternative_of}
use Rattle.wf_model.specs.declared.body.Edge.{Edge as EdgeHeld}
use Rattle.wf_model.specs.Meaning.{edge_of}
use Rattle.wf_model.proofs.NumberLists.{length-numbers, numbers_from-last, get_numbered}
use Rattle.label_model.specs.Labels.{label_bits, ending_bits}
use Rattle.wf_labeller.specs.Entries.{port_label}
use Rattle.wf_labeller.specs.Groups.{IsMeasureOf, longest_of, ports_bits, root_bits, edges_bits}
use Rattle.wf_labeller.proofs.Grouped.{longest-append}

-- the longest of one label more
pub longest_more : (f : ℕ → List Bool) (k now new : ℕ) (bits : List Bool) → now ≡ longest_of (map f (numbers_from 0 k)) → bits ≡ f k → new ≡ max (length bits) now → new ≡ longest_of (map f (numbers_from 0 (k + 1)))
longest_more f k now new bits so_far is e =
    let last : 0 + k ≡ k = omega arith in
    let more : longest_of (map f (numbers_from 0 (k + 1))) ≡ max (longest_of (map f (numbers_from 0 k))) (length (f k)) =
    ap (λ n. longest_of (map f (numbers_from 0 n))) (add-one k) ∙
    (ap (λ l. longest_of (map f l)) (numbers_from-last 0 k ∙ ap (λ n. numbers_from 0 k ++ n ∷ []) last) ∙
    (ap longest_of (map-append f (numbers_from 0 k) (k ∷ [])) ∙
    (longest-append (map f (numbers_from 0 k)) (f k ∷ []) ∙ omega arith))) in
    omega (arith, more, so_far, e, ap (λ (b : List Bool). length b) is)

-- how many labels there are
pub length-ports : (side : Side) (n : ℕ) → length (ports_bits side n) ≡ n
length-ports side n = length-map (numbers_from 0 n) (λ k. label_bits (port_label side k)) ∙ length-numbers 0 n

pub length-root : (g : Grammar) → length (root_bits g) ≡ inputs_of g g.start + outputs_of g g.start
length-root g =
    omega (arith, length-append (ports_bits InputSide (inputs_of g g.start)) (ports_bits OutputSide (outputs_of g g.start)), length-ports InputSide (inputs_of g g.start), length-ports OutputSide (outputs_of g g.start))

pub length-edges : (g : Grammar) (p : ℕ) (bits : List Bool) (chain : Option ℕ) → length (edges_bits g p bits chain) ≡ length (production_at g p).edges
length-edges g p bits chain =
    length-map (numbers_from 0 (length (production_at g p).edges)) (λ k. bits ++ ending_bits chain (alternative_of g p) k) ∙ length-numbers 0 (length (production_at g p).edges)

-- the label of a number
port_at : (side : Side) (n k : ℕ) → k < n → get_or (ports_bits side n) k [] ≡ label_bits (port_label side k)
port_at side n k h =
    let e : 0 + k ≡ k = omega arith in
    get_numbered (λ j. label_bits (port_label side j)) 0 n k [] h ∙ ap (λ j. label_bits (port_label side j)) e

pub input_at : (g : Grammar) (k n : ℕ) → n ≡ inputs_of g g.start → k < n → get_or (root_bits g) k [] ≡ label_bits (port_label InputSide k)
input_at g k n e h =
    let below : k < inputs_of g g.start = omega (arith, e, h) in
    get_or_append_left (ports_bits InputSide (inputs_of g g.start)) (ports_bits OutputSide (outputs_of g g.start)) [] k (omega (arith, below, length-ports InputSide (inputs_of g g.start))) ∙
    port_at InputSide (inputs_of g g.start) k below

pub output_at : (g : Grammar) (k n : ℕ) → n ≡ inputs_of g g.start → n ≤ k → k < length (root_bits g) → get_or (root_bits g) k [] ≡ label_bits (port_label OutputSide (k - n))
output_at g k n e h b =
    get_or-append_right (ports_bits InputSide (inputs_of g g.start)) (ports_bits OutputSide (outputs_of g g.start)) n k [] (length-ports InputSide (inputs_of g g.start) ∙ sym e) h ∙
    port_at OutputSide (outputs_of g g.start) (k - n) (omega (arith, b, e, h, length-root g))

pub edge_at : (g : Grammar) (p k : ℕ) (bits : List Bool) (chain : Option ℕ) → k < length (production_at g p).edges → get_or (edges_bits g p bits chain) k [] ≡ bits ++ ending_bits chain (alternative_of g p) k
edge_at g p k bits chain h =
    let e : 0 + k ≡ k = omega arith in
    get_numbered (λ j. bits ++ ending_bits chain (alternative_of g p) j) 0 (length (production_at g p).edges) k [] h ∙ ap (λ j. bits ++ ending_bits chain (alternative_of g p) j) e

-- the measure of the labels of both sides
pub root_measured : (g : Grammar) (i o a b n : ℕ) → i ≡ inputs_of g g.start → o ≡ outputs_of g g.start → a ≡ longest_of (ports_bits InputSide i) → b ≡ longest_of (ports_bits OutputSide o) → n ≡ max a b → IsMeasureOf (root_bits g) (record { count = i + o; longest = n })
root_measured g i o a b n is js first second e = record {
  count_is = omega (arith, length-root g, is, js);
  longest_is =
      e ∙ (ap (λ k. max k b) (first ∙ ap (λ k. longest_of (ports_bits InputSide k)) is) ∙ (ap (max (longest_of (ports_bits InputSide (inputs_of g g.start)))) (second ∙ ap (λ k. longest_of (ports_bits OutputSide k)) js) ∙
      sym (longest-append (ports_bits InputSide (inputs_of g g.start)) (ports_bits OutputSide (outputs_of g g.start)))));
}

-- the measure of the labels of all edges
pub edges_measured : (g : Grammar) (p : ℕ) (es : List EdgeHeld) → map edge_of es ≡ (production_at g p).edges → (bits : List Bool) (chain : Option ℕ) (k n : ℕ) → length es ≤ k → k ≤ length es → n ≡ longest_of (map (λ j. bits ++ ending_bits chain (alternative_of g p) j) (numbers_from 0 k)) →
    IsMeasureOf (edges_bits g p bits chain) (record { count = length es; longest = n })
edges_measured g p es same bits chain k n low high so_far =
    let many : length es ≡ length (production_at g p).edges = sym (length-map es edge_of) ∙ ap length same in
    let all : k ≡ length (production_at g p).edges = omega (arith, low, high, many) in
    record {
      count_is = many ∙ sym (length-edges g p bits chain);
      longest_is = so_far ∙ ap (λ m. longest_of (map (λ j. bits ++ ending_bits chain (alternative_of g p) j) (numbers_from 0 m))) all;
    }
