-- The edges of a production, as the program reads them one after another.
use Rattle.std.proofs.Common.{◌≡◌, ℕ, Bool, false, Option, ◌+◌, ◌<◌, ◌≤◌, List, [], ◌∷◌, ◌++◌, map, take, drop, length, get_or, ap, sym, ◌∙◌, subst, arith, append_assoc, length-append, add-one, drop-cons}
use Rattle.std.proofs.lemmas.List.{length-map, get_or_read, drop_all, take_at, length-take-le}
use Rattle.wf_model.specs.declared.body.Edge.{Edge as EdgeHeld}
use Rattle.wf_model.specs.Lists.{IsIn}
use Rattle.wf_model.specs.Grammar.{Grammar, Production, Edge, production_at, body_of, alternative_of}
use Rattle.wf_model.specs.WellFormed.{IsWellFormed, IsInnerOutput}
use Rattle.wf_model.specs.Meaning.{inner_of, edge_of}
use Rattle.wf_model.proofs.Lists.{in_map, at_in, is_at}
use Rattle.wf_model.specs.Items.{dotted}
use Rattle.bit_pack.specs.Bits.{packed}
use Rattle.bit_pack.specs.Gamma.{gamma}
use Rattle.label_model.specs.Labels.{chain_bits, ending_bits}
use Rattle.label_model.specs.Files.{Entry}
use Rattle.label_model.proofs.GrammarLimits.{edges_few}
use Rattle.wf_label.specs.Values.{alternative_bits}
use Rattle.wf_labeller.specs.Entries.{body_output_name, numbered_edges, edge_entry}
use Rattle.wf_labeller.proofs.Outputs.{position_below}

module _ (g : Grammar) (wf : IsWellFormed g) (p : ℕ) (h : p < length g.productions) (r : Production) (es : List EdgeHeld) (is : r ≡ production_at g p) (e : map edge_of es ≡ r.edges) where
  pub edges_read : map edge_of es ≡ (production_at g p).edges
  edges_read = e ∙ ap (λ (z : Production). z.edges) is

  -- each edge begins at an output of a position
  pub edge_from : (k : ℕ) (d : EdgeHeld) → k < length es → IsInnerOutput g p (inner_of (get_or es k d).from)
  edge_from k d b = (wf.bodies p h).edges_from (edge_of (get_or es k d)) (subst (IsIn (edge_of (get_or es k d))) edges_read (in_map edge_of (get_or es k d) es (at_in (get_or es k d) k es (is_at k es d b))))

  pub from_below : (k : ℕ) (d : EdgeHeld) → k < length es → (get_or es k d).from.pos.0 < length (body_of g p)
  from_below k d b = position_below g p (inner_of (get_or es k d).from) (edge_from k d b)

  pub from_small : (k : ℕ) (d : EdgeHeld) → k < length es → (get_or es k d).from.pos.0 < 64
  from_small k d b = omega (arith, from_below k d b, wf.few_positions p h)

  pub few_edges : length es ≤ 4096
  few_edges = subst (λ n. n ≤ 4096) (sym (ap length edges_read) ∙ length-map es edge_of) (edges_few g wf p h)

-- the entries from an edge on begin with that of the edge
pub edges-cons : (entry : Edge × ℕ → Entry) (es : List EdgeHeld) (k : ℕ) (d : EdgeHeld) → k < length es →
    map entry (numbered_edges k (map edge_of (drop k es))) ≡ entry (edge_of (get_or es k d), k) ∷ map entry (numbered_edges (k + 1) (map edge_of (drop (k + 1) es)))
edges-cons entry es k d h =
    ap (λ l. map entry (numbered_edges k (map edge_of l))) (drop-cons es k d h) ∙ ap (λ n. entry (edge_of (get_or es k d), k) ∷ map entry (numbered_edges n (map edge_of (drop n es)))) (sym (add-one k))

-- there are none behind the last edge
pub no_edges : (entry : Edge × ℕ → Entry) (es : List EdgeHeld) (k : ℕ) → length es ≤ k → map entry (numbered_edges k (map edge_of (drop k es))) ≡ []
no_edges entry es k h = ap (λ l. map entry (numbered_edges k (map edge_of l))) (drop_all k es h)

-- the bits of a label are those with which it begins, and the number of the edge
pub label_is : (bits old new : List Bool) (chain : Option ℕ) (a n k : ℕ) → take n old ≡ bits ++ alternative_bits chain a → new ≡ take n old ++ gamma (k + 1) → new ≡ bits ++ ending_bits chain a k
label_is bits old new chain a n k e q =
    q ∙ (ap (λ z. z ++ gamma (k + 1)) e ∙ (append_assoc bits (alternative_bits chain a) (gamma (k + 1)) ∙ ap (λ z. bits ++ z) (append_assoc (chain_bits chain) (false ∷ gamma (a + 1)) (gamma (k + 1)))))

-- it begins as the label before
pub begins_alike : (old new more : List Bool) (n : ℕ) → n ≤ length old → new ≡ take n old ++ more → (take n new ≡ take n old) × (n ≤ length new)
begins_alike old new more n h q =
    let l : length (take n old) ≡ n = length-take-le n old h in
    (ap (take n) q ∙ take_at (take n old) more n l, omega (arith, ap length q, length-append (take n old) more))

-- the entry of an edge, from what is read and written for it
pub entry_is : (g : Grammar) (p : ℕ) (names : List (List ℕ)) (bits : List Bool) (chain : Option ℕ) (e : Edge) (k : ℕ) (instance read port label : List ℕ) (its : List Bool) (alternative : ℕ) →
    instance ≡ read → read ≡ get_or names e.from.position read → e.from.position < length names → port ≡ body_output_name g p e.from →
    label ≡ packed its → its ≡ bits ++ ending_bits chain alternative k → alternative ≡ alternative_of g p → record { name = dotted instance port; label = label } ≡ edge_entry g p names bits chain (e, k)
entry_is g p names bits chain e k instance read port label its alternative i r h o s l a =
    ap (λ (n : List ℕ). record { name = dotted n port; label = label }) (i ∙ get_or_read names e.from.position read h r []) ∙
    (ap (λ (n : List ℕ). record { name = dotted (get_or names e.from.position []) n; label = label }) o ∙
    ap (λ (b : List ℕ). record { name = dotted (get_or names e.from.position []) (body_output_name g p e.from); label = b }) (s ∙ ap packed (l ∙ ap (λ n. bits ++ ending_bits chain n k) a)))

-- a name that was read is one of the names
pub name_in : (names : List (List ℕ)) (k : ℕ) (read : List ℕ) → read ≡ get_or names k read → k < length names → IsIn read names
name_in names k read e h = subst (λ n. IsIn n names) (sym e) (at_in (get_or names k read) k names (is_at k names read h))
