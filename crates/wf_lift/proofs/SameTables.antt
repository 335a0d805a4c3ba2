-- Grammars of one shape have the same tables of ranks and choices, and the same tables of cycles.
use Rattle.std.proofs.Common.{ℕ, zero, suc, ◌<◌, map, sym, ◌∙◌, subst}
use Rattle.wf_model.specs.Lists.{IsIn}
use Rattle.wf_model.specs.Grammar.{Grammar}
use Rattle.wf_model.specs.Proper.{IsRank}
use Rattle.wf_model.specs.Linear.{GoesOnBy, IsPlaceFrom, IsCycleLength}
use Rattle.wf_check.specs.Proper.{Ranking, Attains, IsChoice, IsRankingOf}
use Rattle.wf_recur.specs.Cycles.{CyclesSeen, least_of, AreCyclesOf}
use Rattle.words_model.specs.Lifting.{lift}
use Rattle.words_model.proofs.SameShape.{AreSameShape, shape_back, target_there, production_there, composite_there, rank_there, continues_there, cycles_there}
use Rattle.words_model.proofs.LiftedParts.{lifted_shape}
use Rattle.wf_lift.specs.LiftedTables.{LiftedTablesLaw}

module _ (g h : Grammar) (s : AreSameShape g h) where
  is_rank_there : (m n : ℕ) → IsRank g m n → IsRank h m n
  is_rank_there m n q = (rank_there g h s n m q.0, λ k r. q.1 k (rank_there h g (shape_back g h s) k m r))

  attains_there : (m p : ℕ) → Attains g m p → Attains h m p
  attains_there m p q = record {
    of_module = production_there g h s p m q.of_module;
    below = q.below;
    rank = is_rank_there m (suc q.below) q.rank;
    body = λ k i. rank_there g h s q.below k (q.body k (subst (IsIn k) (s.body p) i));
  }

  goes_there : (n a b : ℕ) → GoesOnBy g n a b → GoesOnBy h n a b
  goes_there zero a b e = e
  goes_there (suc n) a b q = (q.0, (q.1.0, continues_there g h s a q.1.0 q.1.1, target_there g h s q.1.0 ∙ q.1.2), goes_there n q.0 b q.2)

module _ (g h : Grammar) (s : AreSameShape g h) where
  abbrev back : AreSameShape h g
  back = shape_back g h s

  choice_there : (m p : ℕ) → IsChoice g m p → IsChoice h m p
  choice_there m p q = (attains_there g h s m p q.0, λ k r. q.1 k (attains_there h g back m k r))

  pub ranking_there : (r : Ranking) → IsRankingOf g r → IsRankingOf h r
  ranking_there r q = record {
    one_rank_each = q.one_rank_each ∙ sym s.modules;
    one_choice_each = q.one_choice_each ∙ sym s.modules;
    ranks = λ m l. is_rank_there g h s m _ (q.ranks m (subst (λ z. m < z) s.modules l));
    choices = λ m c. choice_there m _ (q.choices m (composite_there h g back m c));
  }

  place_there : (l n m : ℕ) → IsPlaceFrom g l n m → IsPlaceFrom h l n m
  place_there l n m q = (goes_there g h s n l m q.0, λ k w. q.1 k (goes_there h g back k l m w))

  length_there : (l n : ℕ) → IsCycleLength g l n → IsCycleLength h l n
  length_there l n q = (q.0, goes_there g h s n l l q.1, λ k z w. q.2 k z (goes_there h g back k l l w))

  pub cycle_table_there : (c : CyclesSeen) → AreCyclesOf g c → AreCyclesOf h c
  cycle_table_there c q = record {
    numbered = cycles_there g h s (map least_of c.rounds) q.numbered;
    rounds = λ k l. let r = q.rounds k l in record {
      whole = length_there _ _ r.whole;
      places = λ j b. place_there _ j _ (r.places j b);
    };
    one_each = q.one_each ∙ sym s.modules;
    on_none = λ m l e z. q.on_none m (subst (λ n. m < n) s.modules l) e (z.0, continues_there h g back m z.0 z.1);
    on_one = λ m o e. let t = q.on_one m o e in record {
      cycle = t.cycle;
      place = t.place;
      is = t.is;
      step = continues_there g h s m o.step t.step;
    };
    few = q.few;
    short = q.short;
  }

pub lifted_tables_law : LiftedTablesLaw
lifted_tables_law g k =
    let there = lifted_shape g k in
    let back = shape_back g (lift g k) there in
    record {
      ranking = λ r. (ranking_there g (lift g k) there r, ranking_there (lift g k) g back r);
      cycles = λ c. (cycle_table_there g (lift g k) there c, cycle_table_there (lift g k) g back c);
    }
