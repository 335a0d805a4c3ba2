-- The tables of a grammar whose modules all have ranks.
use Rattle.std.proofs.Common.{◌≡◌, ℕ, ◌<◌, List, Option, None, Some, length, map, get_or, sym, ap, ◌∙◌, subst, arith}
use Rattle.std.specs.Prelude.{unwrap_or}
use Rattle.std.proofs.lemmas.List.{get_or-map, length-map}
use Rattle.wf_model.specs.declared.numbers.ProdNo.{ProdNo}
use Rattle.wf_model.specs.Grammar.{Grammar}
use Rattle.wf_model.specs.Proper.{IsRank}
use Rattle.wf_check.specs.Improper.{IsProductive, OfAllComposite}
use Rattle.wf_check.specs.Proper.{Ranking, IsRankingOf}
use Rattle.wf_check.specs.Ranks.{TellsRank, AreRanks}
use Rattle.wf_check.proofs.Choosing.{IsChosen}

-- a module without a rank would be atomic, and so have the rank 0
all_ranked : (g : Grammar) (m : ℕ) (o : Option ℕ) → OfAllComposite g (IsProductive g) → TellsRank g m o → IsRank g m (unwrap_or o 0)
all_ranked g m None all h = absurd (h 0 (λ p l e. (let r = all m (p, (l, e)) in h r.0 r.1)))
all_ranked g m (Some n) all h = h

pub settled : (g : Grammar) (ranks : List (Option ℕ)) (numbers : List ℕ) (choices : List ProdNo) (r : Ranking) → AreRanks g ranks → OfAllComposite g (IsProductive g) → numbers ≡ map (λ o. unwrap_or o 0) ranks → length choices ≡ length g.modules → ((m : ℕ) → IsChosen g m (get_or (map (λ (c : ProdNo). c.0) choices) m 0))
    → r.ranks ≡ numbers → r.choices ≡ map (λ (c : ProdNo). c.0) choices → IsRankingOf g r
settled g ranks numbers choices r h all num len chosen re ce = record {
  one_rank_each = ap length (re ∙ num) ∙ (length-map ranks (λ o. unwrap_or o 0) ∙ h.one_each);
  one_choice_each = ap length ce ∙ (length-map choices (λ (c : ProdNo). c.0) ∙ len);
  ranks = λ m low. (
      let one = h.one_each in
      let within : m < length ranks = omega arith in
      let e = ap (λ (l : List ℕ). get_or l m 0) (re ∙ num) ∙ get_or-map (λ o. unwrap_or o 0) ranks m None 0 within in
      subst (IsRank g m) (sym e) (all_ranked g m (get_or ranks m None) all (h.told m low)));
  choices = λ m d. subst (λ (l : List ℕ). IsChosen g m (get_or l m 0)) (sym ce) (chosen m) d (all m d);
}
