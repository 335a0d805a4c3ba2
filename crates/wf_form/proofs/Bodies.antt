-- The body of a production by itself, and in a grammar.
use Rattle.std.proofs.Common.{ℕ, zero, suc, ◌<◌, ◌≤◌, List, [], ◌∷◌, get_or, map, refl, sym, subst, inl, inr, ⊎_elim, arith}
use Rattle.std.proofs.lemmas.List.{length-map}
use Rattle.wf_model.specs.Lists.{IsIn, IsAt}
use Rattle.wf_model.specs.Grammar.{Grammar, Position, Inner, Edge, production_at, inputs_of, outputs_of, body_of}
use Rattle.wf_model.specs.WellFormed.{IsInnerInput, IsInnerOutput, IsWellFormedBody}
use Rattle.wf_model.proofs.Lists.{in_append_left, in_append_right, in_append_cases, in_map, in_map_from}
use Rattle.wf_form.specs.Ends.{IsPortOf, HaveFew}
use Rattle.wf_form.specs.Bodies.{inputs_in, outputs_in, IsBody}

pub few_of : (f : ℕ → ℕ) (ms : List ℕ) → ((m : ℕ) → IsIn m ms → f m ≤ 64) → HaveFew (map f ms)
few_of f [] h k = omega arith
few_of f (m ∷ ms) h zero = h m (inl refl)
few_of f (m ∷ ms) h (suc k) = few_of f ms (λ x i. h x (inr i)) k

port_at : (f : ℕ → ℕ) (body : List ℕ) (k p : ℕ) → p < get_or (map f body) k 0 → (m : ℕ) × IsAt m k body × (p < f m)
port_at f [] k p h = absurd (omega arith)
port_at f (m ∷ body) zero p h = (m, refl, h)
port_at f (m ∷ body) (suc k) p h = port_at f body k p h

at_port : (f : ℕ → ℕ) (body : List ℕ) (k p m : ℕ) → IsAt m k body → p < f m → p < get_or (map f body) k 0
at_port f [] k p m i h = absurd i
at_port f (x ∷ body) zero p m i h = subst (λ z. p < f z) i h
at_port f (x ∷ body) (suc k) p m i h = at_port f body k p m i h

-- in a grammar
pub body_from : (g : Grammar) (p : ℕ) → IsBody g.modules (production_at g p) → IsWellFormedBody g p
body_from g p b = record {
  some_position = subst (λ n. 0 < n) (sym (length-map (production_at g p).positions (λ (q : Position). q.module_no))) b.places.some_position;
  modules = b.places.within;
  names = b.places.names;
  names_differ = b.places.names_differ;
  edges_from = λ e i. out e.from (b.linked.used.within e.from (in_append_left e.from (map (λ (x : Edge). x.from) (production_at g p).edges) (production_at g p).exits (in_map (λ (x : Edge). x.from) e (production_at g p).edges i)));
  edges_to = λ e i. inn e.to (b.linked.fed.within e.to (in_append_left e.to (map (λ (x : Edge). x.to) (production_at g p).edges) (production_at g p).entries (in_map (λ (x : Edge). x.to) e (production_at g p).edges i)));
  entries_to = λ e i. inn e (b.linked.fed.within e (in_append_right e (map (λ (x : Edge). x.to) (production_at g p).edges) (production_at g p).entries i));
  exits_from = λ e i. out e (b.linked.used.within e (in_append_right e (map (λ (x : Edge). x.from) (production_at g p).edges) (production_at g p).exits i));
  one_entry_each = b.head_links.one_entry_each;
  one_exit_each = b.head_links.one_exit_each;
  fed_once = λ i h. b.linked.fed.once i (at_port (inputs_of g) (body_of g p) i.position i.port h.0 h.1 h.2);
  used_once = λ i h. b.linked.used.once i (at_port (outputs_of g) (body_of g p) i.position i.port h.0 h.1 h.2);
  acyclic = b.acyclic;
}
  where
    inn : (i : Inner) → IsPortOf (map (inputs_in g.modules) (body_of g p)) i → IsInnerInput g p i
    inn i h = port_at (inputs_of g) (body_of g p) i.position i.port h

    out : (i : Inner) → IsPortOf (map (outputs_in g.modules) (body_of g p)) i → IsInnerOutput g p i
    out i h = port_at (outputs_of g) (body_of g p) i.position i.port h

pub body_gives : (g : Grammar) (p : ℕ) → IsWellFormedBody g p → IsBody g.modules (production_at g p)
body_gives g p b = record {
  places = record {
    some_position = subst (λ n. 0 < n) (length-map (production_at g p).positions (λ (q : Position). q.module_no)) b.some_position;
    within = b.modules;
    names = b.names;
    names_differ = b.names_differ;
  };
  head_links = record { one_entry_each = b.one_entry_each; one_exit_each = b.one_exit_each };
  linked = record {
    fed = record {
      within = λ i h. ⊎_elim
          (λ a. let r = in_map_from (λ (x : Edge). x.to) i (production_at g p).edges a in inn i (subst (IsInnerInput g p) (sym r.2) (b.edges_to r.0 r.1)))
          (λ a. inn i (b.entries_to i a))
          (in_append_cases i (map (λ (x : Edge). x.to) (production_at g p).edges) (production_at g p).entries h);
      once = λ i h. b.fed_once i (port_at (inputs_of g) (body_of g p) i.position i.port h);
    };
    used = record {
      within = λ i h. ⊎_elim
          (λ a. let r = in_map_from (λ (x : Edge). x.from) i (production_at g p).edges a in out i (subst (IsInnerOutput g p) (sym r.2) (b.edges_from r.0 r.1)))
          (λ a. out i (b.exits_from i a))
          (in_append_cases i (map (λ (x : Edge). x.from) (production_at g p).edges) (production_at g p).exits h);
      once = λ i h. b.used_once i (port_at (outputs_of g) (body_of g p) i.position i.port h);
    };
  };
  acyclic = b.acyclic;
}
  where
    inn : (i : Inner) → IsInnerInput g p i → IsPortOf (map (inputs_in g.modules) (body_of g p)) i
    inn i h = at_port (inputs_of g) (body_of g p) i.position i.port h.0 h.1 h.2

    out : (i : Inner) → IsInnerOutput g p i → IsPortOf (map (outputs_in g.modules) (body_of g p)) i
    out i h = at_port (outputs_of g) (body_of g p) i.position i.port h.0 h.1 h.2
