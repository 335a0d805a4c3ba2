-- A view has one first witness, by whatever ranking of the grammar.
use Rattle.std.proofs.Common.{◌≡◌, get_or, ◌∙◌}
use Rattle.wf_model.specs.Grammar.{Grammar, IsComposite}
use Rattle.wf_model.specs.WellFormed.{IsWellFormed}
use Rattle.wf_model.specs.View.{View}
use Rattle.wf_check.specs.Proper.{Ranking, IsRankingOf}
use Rattle.wf_check.proofs.OneRanking.{one_choice}
use Rattle.wf_safe.specs.declared.witness.Witness.{Witness}
use Rattle.wf_safe.specs.Witness.{IsFirstWitness}
use Rattle.wf_safe.proofs.OneWitness.{one_witness_law}

-- rankings agree on the modules that are chosen for, which are composite
pub one_first_witness : (g : Grammar) (u : View) → IsWellFormed g → (r s : Ranking) (w v : Witness) → IsRankingOf g r → IsRankingOf g s → IsFirstWitness g u r w → IsFirstWitness g u s v → w ≡ v
one_first_witness g u formed r s w v p q f h = one_witness_law g u r w v formed p f (record {
  witness = h.witness;
  ranked = λ m k i.
      let composite : IsComposite g m = (k, h.witness.choice.productions m k i) in
      h.ranked m k i ∙ one_choice g m (get_or s.choices m 0) (get_or r.choices m 0) (q.choices m composite) (p.choices m composite);
  pairs = h.pairs;
  induced = h.induced;
  least = h.least;
  first = h.first;
})
