-- The worked words of the looping grammar.
use Rattle.std.proofs.Common.{[], ◌∷◌, codes, bytes_eq, refl, lit<}
use Rattle.wf_model.specs.View.{at_start}
use Rattle.wf_model.specs.declared.event.Event.TheVariants.{Start, Expand}
use Rattle.wf_model.specs.Run.{IsAccepted}
use Rattle.wf_model.specs.Links.{links}
use Rattle.wf_model.specs.Safe.{IsExpansion, Joins}
use Rattle.wf_model.proofs.Lists.{same_bytes}
use Rattle.wf_laws.specs.Examples.{into, out}
use Rattle.wf_laws.proofs.Accepted.{none_taken, taken, finished}
use Rattle.wf_laws.proofs.Reached.{found, not_found}
use Rattle.words_model.specs.Lifting.{lift, lift_view}
use Rattle.words_model.specs.LoopingWords.{looping, open_view, odd, one_p, two_p, LoopingWordsAreWorked}
use Rattle.words_model.proofs.LiftedRuns.{lifted_run_law}

begun : IsAccepted looping 4 (Start (codes "r") ∷ [])
begun = taken looping 4 [] (Start (codes "r")) (none_taken looping 4) refl

one_expansion : IsExpansion looping open_view 0 one_p
one_expansion = record {
  run = (taken looping 4 (Start (codes "r") ∷ []) (Expand (codes "r") 1 (codes "p0" ∷ [])) begun refl).0;
  started = λ e. absurd (cc);
  finished = finished looping open_view 0 one_p refl;
}

two_expansion : IsExpansion looping open_view 0 two_p
two_expansion = record {
  run = (taken looping 4 (Start (codes "r") ∷ Expand (codes "r") 0 (codes "p0" ∷ codes "l0" ∷ []) ∷ []) (Expand (codes "l0") 1 (codes "p1" ∷ []))
      (taken looping 4 (Start (codes "r") ∷ []) (Expand (codes "r") 0 (codes "p0" ∷ codes "l0" ∷ [])) begun refl) refl).0;
  started = λ e. absurd (cc);
  finished = finished looping open_view 0 two_p refl;
}

one_not_to_first : ¬ Joins (lift looping 2) (lift_view odd open_view) 0 one_p 0 0
one_not_to_first = not_found bytes_eq same_bytes (links (lift looping 2) (lift_view odd open_view) 0 one_p) (into "r" 0) 8 (out "r" 0) refl refl refl

two_to_first : Joins (lift looping 2) (lift_view odd open_view) 0 two_p 0 0
two_to_first = found bytes_eq same_bytes (links (lift looping 2) (lift_view odd open_view) 0 two_p) (into "r" 0) 8 (out "r" 0) refl

pub looping_words_are_worked : LoopingWordsAreWorked
looping_words_are_worked = record {
  one_expansion = one_expansion;
  two_expansion = two_expansion;
  one_joins = found bytes_eq same_bytes (links looping open_view 0 one_p) (into "r" 0) 8 (out "r" 0) refl;
  two_joins = found bytes_eq same_bytes (links looping open_view 0 two_p) (into "r" 0) 8 (out "r" 0) refl;
  one_to_second = found bytes_eq same_bytes (links (lift looping 2) (lift_view odd open_view) 0 one_p) (into "r" 0) 8 (out "r" 1) refl;
  one_not_to_first = one_not_to_first;
  two_to_first = two_to_first;
  two_not_to_second = not_found bytes_eq same_bytes (links (lift looping 2) (lift_view odd open_view) 0 two_p) (into "r" 0) 8 (out "r" 1) refl refl refl;
  not_safe = λ safe. one_not_to_first (safe 0 (at_start refl) two_p one_p ((lifted_run_law looping open_view odd 0 two_p).whole.0 two_expansion) ((lifted_run_law looping open_view odd 0 one_p).whole.0 one_expansion) 0 0 (lit< tt) (lit< tt) two_to_first);
}
