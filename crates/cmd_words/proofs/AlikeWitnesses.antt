-- A witness that a view is not safe is one of each view that perceives the same.
use Rattle.std.proofs.Common.{ℕ, Bool, true, false, List, sym, ◌∙◌, subst}
use Rattle.wf_model.specs.Lists.{IsIn}
use Rattle.wf_model.specs.Grammar.{Grammar, Assignment, head_of}
use Rattle.wf_model.specs.View.{View}
use Rattle.wf_model.specs.declared.event.Event.{Event}
use Rattle.wf_model.specs.Safe.{Joins, IsBy, IsInducedBy}
use Rattle.wf_laws.specs.Chosen.{IsByOther}
use Rattle.wf_check.specs.Proper.{Ranking}
use Rattle.wf_safe.specs.declared.witness.Witness.{Witness}
use Rattle.wf_safe.specs.Witness.{IsChoiceOf, Disagree, IsChosenRun, IsOtherRun, AreDisagreeing, IsWitness, IsFirstWitness}
use Rattle.wf_lift.specs.Alike.{PerceiveAlike}
use Rattle.cmd_words.proofs.AlikeLabels.{seen_back}
use Rattle.wf_lift.proofs.AlikeViews.{alike_back, seen_module_there, shown_same, seen_same, joins_there, expansion_there}

module _ (g : Grammar) (u w : View) (alike : PerceiveAlike u w) where
  choice_there : (choice : List (ℕ × ℕ)) → IsChoiceOf g u choice → IsChoiceOf g w choice
  choice_there choice h = record {
    in_order = h.in_order;
    all = λ m s t. h.all m (seen_back g u w alike s) (alike.expanded m ∙ t);
    seen = λ m p k. let q = h.seen m p k in (seen_module_there g u w alike q.0, sym (alike.expanded m) ∙ q.1);
    productions = h.productions;
  }

  by_there : (m : ℕ) (Chosen : ℕ → ℕ → Type 0) (events : List Event) → IsBy g u m Chosen events → IsBy g w m Chosen events
  by_there m Chosen events h j i t = h j (subst (IsIn j) (sym (seen_same g u w alike m events)) i) (alike.expanded j.module_no ∙ t)

  by_other_there : (m : ℕ) (Chosen : ℕ → ℕ → Type 0) (p : ℕ) (events : List Event) → IsByOther g u m Chosen p events → IsByOther g w m Chosen p events
  by_other_there m Chosen p events h = record {
    root = h.root;
    others = λ j i n t. h.others j (subst (IsIn j) (sym (seen_same g u w alike m events)) i) n (alike.expanded j.module_no ∙ t);
  }

  chosen_run_there : (choice : List (ℕ × ℕ)) (m : ℕ) (events : List Event) → IsChosenRun g u choice m events → IsChosenRun g w choice m events
  chosen_run_there choice m events h = record { expansion_of = expansion_there g u w alike m events h.expansion_of; by = by_there m _ events h.by }

  other_run_there : (choice : List (ℕ × ℕ)) (m other : ℕ) (events : List Event) → IsOtherRun g u choice m other events → IsOtherRun g w choice m other events
  other_run_there choice m other events h = record { expansion_of = expansion_there g u w alike m events h.expansion_of; by = by_other_there m _ other events h.by }

  disagree_there : (b : Bool) (m : ℕ) (e f : List Event) (i o : ℕ) → Disagree b (Joins g u m e i o) (Joins g u m f i o) → Disagree b (Joins g w m e i o) (Joins g w m f i o)
  disagree_there true m e f i o h = (joins_there g u w alike m e i o h.0, λ j. h.1 (joins_there g w u (alike_back u w alike) m f i o j))
  disagree_there false m e f i o h = ((λ j. h.0 (joins_there g w u (alike_back u w alike) m e i o j)), joins_there g u w alike m f i o h.1)

  disagreeing_there : (choice : List (ℕ × ℕ)) (m other i o : ℕ) (b : Bool) → AreDisagreeing g u choice m other i o b → AreDisagreeing g w choice m other i o b
  disagreeing_there choice m other i o b h = record {
    one_run = h.one_run;
    is_one = chosen_run_there choice m h.one_run h.is_one;
    other_run = h.other_run;
    is_other = other_run_there choice m other h.other_run h.is_other;
    disagree = disagree_there b m h.one_run h.other_run i o h.disagree;
  }

  witness_there : (x : Witness) → IsWitness g u x → IsWitness g w x
  witness_there x h = record {
    choice = choice_there _ h.choice;
    one = h.one;
    other = h.other;
    input = h.input;
    output = h.output;
    runs = disagreeing_there _ _ _ _ _ _ h.runs;
  }

  induced_by_there : (Chosen : ℕ → ℕ → Type 0) (d : Assignment) → IsInducedBy g u Chosen d → IsInducedBy g w Chosen d
  induced_by_there Chosen d h = record {
    shown = λ m s e i o hi ho. h.shown m (seen_back g u w alike s) (alike.expanded m ∙ e) i o hi ho ∙ shown_same g u w alike m i o e;
    induced = λ p l c s t. h.induced p l c (seen_back g u w alike s) (alike.expanded (head_of g p) ∙ t);
  }

  -- and so is the first one
  pub first_witness_there : (r : Ranking) (x : Witness) → IsFirstWitness g u r x → IsFirstWitness g w r x
  first_witness_there r x h = record {
    witness = witness_there x h.witness;
    ranked = h.ranked;
    pairs = h.pairs;
    induced = induced_by_there _ h.pairs h.induced;
    least = λ p l s t. h.least p l (seen_back g u w alike s) (alike.expanded (head_of g p) ∙ t);
    first = h.first;
  }
