-- The texts of the modules and productions of a grammar, as they are spelled, are those of its canonical text.
use Rattle.std.proofs.Common.{◌≡◌, ℕ, List, ◌++◌, ap, ap₂, ◌∙◌, append_assoc, codes}
use Rattle.wf_model.specs.Grammar.{Grammar, Module, Position, Edge, Inner, Production, module_at}
use Rattle.wf_json.specs.Canonical.{text_in_quotes, list_of, pair_text, position_text, edge_text, entry_text, exit_text, entries_of, exits_of, module_text, production_text}
use Rattle.package_laws.proofs.SpelledModules.{two_texts, module_spelling}
use Rattle.package_laws.proofs.SpelledBodies.{position_spelling, edge_spelling, entry_spelling, exit_spelling, production_spelling}

-- texts with others between, put together from the right or from the left
pub two_between : (a b c d e : List ℕ) → a ++ (b ++ (c ++ (d ++ e))) ≡ a ++ b ++ c ++ d ++ e
two_between a b c d e = simp append_assoc

pub three_between : (a b c d e f g : List ℕ) → a ++ (b ++ (c ++ (d ++ (e ++ (f ++ g))))) ≡ a ++ b ++ c ++ d ++ e ++ f ++ g
three_between a b c d e f g = simp append_assoc

five_between : (a b c d e f g h i j k : List ℕ) →
    a ++ (b ++ (c ++ (d ++ (e ++ (f ++ (g ++ (h ++ (i ++ (j ++ k))))))))) ≡ a ++ b ++ c ++ d ++ e ++ f ++ g ++ h ++ i ++ j ++ k
five_between a b c d e f g h i j k = simp append_assoc

-- lists of the same texts
pub same_lists : {A : Type 0} (f h : A → List ℕ) (xs : List A) → ((x : A) → f x ≡ h x) → list_of f xs ≡ list_of h xs
same_lists f h xs same = ap (λ t. list_of t xs) (λ n x. same x n)

pub pair_same : (a b : List ℕ) → (two_texts a b).text ≡ pair_text (text_in_quotes a) (text_in_quotes b)
pair_same a b = two_between (codes "[") (text_in_quotes a) (codes ",") (text_in_quotes b) (codes "]")

pub module_same : (m : Module) → (module_spelling m).text ≡ module_text m
module_same m =
    three_between (codes "{\"name\":") (text_in_quotes m.name) (codes ",\"in\":") (list_of text_in_quotes m.inputs)
    (codes ",\"out\":") (list_of text_in_quotes m.outputs) (codes "}")

module _ (g : Grammar) (r : Production) where
  abbrev body : (Position → List ℕ) → List ℕ
  body text = list_of text r.positions

  abbrev edges : (Edge → List ℕ) → List ℕ
  edges text = list_of text r.edges

  abbrev entries : (List ℕ × Inner → List ℕ) → List ℕ
  entries text = list_of text (entries_of g r)

  abbrev exits : (List ℕ × Inner → List ℕ) → List ℕ
  exits text = list_of text (exits_of g r)

  -- the text of a production, by those of its lists
  abbrev by_lists : List ℕ → List ℕ → List ℕ → List ℕ → List ℕ
  by_lists b e i o =
      codes "{\"head\":" ++ text_in_quotes (module_at g r.head).name ++ codes ",\"body\":" ++ b ++ codes ",\"edges\":" ++ e
      ++ codes ",\"in\":" ++ i ++ codes ",\"out\":" ++ o ++ codes "}"

  pub production_same : (production_spelling g r).text ≡ production_text g r
  production_same =
      let b = body (λ q. (position_spelling g q).text) in
      let e = edges (λ q. (edge_spelling g r q).text) in
      let i = entries (λ q. (entry_spelling g r q).text) in
      let o = exits (λ q. (exit_spelling g r q).text) in
      five_between (codes "{\"head\":") (text_in_quotes (module_at g r.head).name) (codes ",\"body\":") b
      (codes ",\"edges\":") e (codes ",\"in\":") i (codes ",\"out\":") o (codes "}")
      ∙ (ap₂ (λ x y. by_lists x y i o)
      (same_lists _ (position_text g) r.positions (λ q. pair_same _ _)) (same_lists _ (edge_text g r) r.edges (λ q. pair_same _ _))
      ∙ ap₂ (by_lists (body (position_text g)) (edges (edge_text g r)))
      (same_lists _ (entry_text g r) (entries_of g r) (λ q. pair_same _ _)) (same_lists _ (exit_text g r) (exits_of g r) (λ q. pair_same _ _)))
