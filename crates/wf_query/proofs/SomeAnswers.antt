-- Lines of queries have an ending and a text, where each query has an answer.
use Rattle.std.proofs.Common.{◌≡◌, ◌⊎◌, ℕ, List, [], ◌∷◌, ◌++◌, refl, sym, ◌∙◌, subst, inl, inr, ⊎_elim}
use Rattle.std.specs.Prelude.{codes}
use Rattle.wf_model.specs.Items.{IsItemName}
use Rattle.wf_model.proofs.Deciding.{either_both}
use Rattle.name_text.proofs.Cuts.{one_cut, stands}
use Rattle.name_text.proofs.Names.{item_no_space}
use Rattle.name_text.proofs.NamesOrNot.{IsCutAt, cut_or_lacks, item_name_either}
use Rattle.wf_io.specs.Lines.{FileLines}
use Rattle.wf_lines.proofs.SomeEnding.{some_ending}
use Rattle.wf_query.specs.Line.{IsQuery, IsNoQuery}
use Rattle.wf_query.specs.Lines.{Ended, All, WrongAt, query_ends, TakesQuery, StopsQueries, EndsQueries, AreAnswered}

-- a line is a query, or asks nothing
pub query_or_not : (line : List ℕ) → ((first : List ℕ) × (second : List ℕ) × IsQuery line first second) ⊎ IsNoQuery line
query_or_not line = ⊎_elim by_space (λ none. inr (λ first second h. none (stands 32 line first second h.0))) (cut_or_lacks 32 line)
  where
    by_space : IsCutAt 32 line → ((first : List ℕ) × (second : List ℕ) × IsQuery line first second) ⊎ IsNoQuery line
    by_space r = ⊎_elim
        (λ names. inl (r.0, r.1, (r.2, names.0, names.1)))
        (λ not. inr (λ first second h. let same = one_cut 32 first second r.0 r.1 (item_no_space first h.1) r.3 (sym h.0 ∙ r.2) in not (subst IsItemName same.0 h.1, subst IsItemName same.1 h.2)))
        (either_both (item_name_either r.0) (item_name_either r.1))

module _ (Answers : List ℕ → List ℕ → List ℕ → Type 0) (some : (first second : List ℕ) → (word : List ℕ) × Answers first second word) where
  -- the text of a line is answered, or asks nothing
  query_taken : (k : Unit {0}) (n : ℕ) (text : List ℕ) → ((q : Unit {0}) × (p : List ℕ) × TakesQuery {K = Unit {0}} (λ k. Answers) k n text q p) ⊎ ((e : Ended) × (t : List ℕ) × StopsQueries k n text e t)
  query_taken k n text = ⊎_elim
      (λ r. let a = some r.0 r.1 in inl (k, a.0 ++ codes "\n", (refl, record { first = r.0; second = r.1; query = r.2; answer = a.0; is = a.1; line = refl })))
      (λ none. inr (WrongAt n, [], (none, refl, refl)))
      (query_or_not text)

  -- the lines of a file are answered, to an ending
  pub some_answers : (file : FileLines) → (e : Ended) × (t : List ℕ) × AreAnswered Answers file e t
  some_answers file =
      some_ending query_ends (TakesQuery {K = Unit {0}} (λ k. Answers)) StopsQueries EndsQueries (λ k. Unit {0}) (λ s n x q p ok h. tt) (λ s n x ok. query_taken s n x) (λ s ok. (All, [], (refl, refl))) file.tail file.lines tt tt
