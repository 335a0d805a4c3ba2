-- The skewed grammar, worked: two expansions that disagree.
use Rattle.std.proofs.Common.{[], ◌∷◌, codes, refl, bytes_eq, lit<}
use Rattle.wf_model.proofs.Lists.{same_bytes}
use Rattle.wf_model.specs.View.{at_start}
use Rattle.wf_model.specs.declared.event.Event.{Event}
use Rattle.wf_model.specs.declared.event.Event.TheVariants.{Start, Expand}
use Rattle.wf_model.specs.Run.{IsAccepted}
use Rattle.wf_model.specs.Links.{links}
use Rattle.wf_model.specs.Safe.{IsExpansion, Joins}
use Rattle.wf_laws.specs.Examples.{into, out}
use Rattle.wf_laws.specs.SkewedGrammar.{skewed, whole_view, short_run, long_run, SkewedGrammarIsWorked}
use Rattle.wf_laws.proofs.Accepted.{none_taken, taken, finished}
use Rattle.wf_laws.proofs.Reached.{found, not_found}

abbrev first : Event
first = Start (codes "r")

abbrev second : Event
second = Expand (codes "r") 0 (codes "l0" ∷ [])

begun : IsAccepted skewed 5 (first ∷ second ∷ [])
begun = taken skewed 5 (first ∷ []) second (taken skewed 5 [] first (none_taken skewed 5) refl) refl

short_accepted : IsAccepted skewed 5 short_run
short_accepted = taken skewed 5 (first ∷ second ∷ []) (Expand (codes "l0") 2 (codes "t" ∷ [])) begun refl

abbrev third : Event
third = Expand (codes "l0") 1 (codes "w" ∷ codes "l1" ∷ [])

long_accepted : IsAccepted skewed 5 long_run
long_accepted = taken skewed 5 (first ∷ second ∷ third ∷ []) (Expand (codes "l1") 2 (codes "t" ∷ [])) (taken skewed 5 (first ∷ second ∷ []) third begun refl) refl

short_expansion : IsExpansion skewed whole_view 0 short_run
short_expansion = record { run = short_accepted.0; started = λ e. absurd (cc); finished = finished skewed whole_view 0 short_run refl }

long_expansion : IsExpansion skewed whole_view 0 long_run
long_expansion = record { run = long_accepted.0; started = λ e. absurd (cc); finished = finished skewed whole_view 0 long_run refl }

short_joins : Joins skewed whole_view 0 short_run 0 0
short_joins = found bytes_eq same_bytes (links skewed whole_view 0 short_run) (into "r" 0) 6 (out "r" 0) refl

long_joins_not : ¬ Joins skewed whole_view 0 long_run 0 0
long_joins_not = not_found bytes_eq same_bytes (links skewed whole_view 0 long_run) (into "r" 0) 8 (out "r" 0) refl refl refl

pub skewed_grammar_is_worked : SkewedGrammarIsWorked
skewed_grammar_is_worked = record {
  short_expansion = short_expansion;
  long_expansion = long_expansion;
  short_joins = short_joins;
  long_joins_not = long_joins_not;
  long_joins_across = found bytes_eq same_bytes (links skewed whole_view 0 long_run) (into "r" 0) 8 (out "r" 1) refl;
  not_safe = λ safe. long_joins_not (safe 0 (at_start refl) short_run long_run short_expansion long_expansion 0 0 (lit< tt) (lit< tt) short_joins);
}
