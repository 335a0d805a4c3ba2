-- The labels of a view and of one that stands for the lifted view are those of a view, before and after lifting.
use Rattle.std.proofs.Common.{◌≡◌, ℕ, Bool, List, [], ◌∷◌, Option, sym, ap, ◌∙◌, subst}
use Rattle.wf_model.specs.Grammar.{Grammar}
use Rattle.wf_model.specs.WellFormed.{IsWellFormed}
use Rattle.wf_model.specs.Proper.{IsProper}
use Rattle.wf_model.specs.View.{View, IsViewOf}
use Rattle.label_model.specs.Files.{Entry}
use Rattle.words_model.specs.Automata.{Automaton}
use Rattle.words_model.specs.Lifting.{lift, lift_view}
use Rattle.words_model.specs.Laws.{Fits, LiftSafely}
use Rattle.words_model.proofs.LiftedViews.{lifted_view_law}
use Rattle.wf_safe.specs.SafeViews.{SafeViewValue}
use Rattle.wf_vlabel.specs.Seen.{ViewLabelSeen, IsLabelOfView}
use Rattle.wf_words.specs.Answers.{IsWordByWords}
use Rattle.wf_words.specs.WordViews.{WordViewSeen, IsWordView, AreOfWordView}
use Rattle.wf_io.specs.Told.{File}
use Rattle.wf_io.specs.Readings.{Reading}
use Rattle.wf_message.specs.Endings.{End}
use Rattle.wf_stage.specs.Promises.{Obeys}
use Rattle.wf_asking.specs.Queries.{QueriesStage}
use Rattle.cmd_words.specs.LiftedViews.{IsLiftedView}
use Rattle.wf_lift.proofs.AlikeViews.{alike_back}
use Rattle.cmd_words.proofs.AlikeLabels.{label_there}

module _ (g : Grammar) (u : View) (a : Automaton) (v : SafeViewValue) (fits : Fits g a) (is : IsLiftedView g u a v) (plain lifted : ViewLabelSeen) (same : plain.grammar ≡ g) (there : lifted.grammar ≡ v.accepted.grammar.core) where
  abbrev pub words_of : WordViewSeen
  words_of = record { automaton = a; plain = plain; lifted = lifted }

  pub is_word_view : IsWordView words_of
  is_word_view = record { fits = subst (λ x. Fits x a) (sym same) fits; lifted = there ∙ (is.grammar ∙ ap (λ x. lift x a.states) (sym same)) }

  module _ (formed : IsWellFormed g) (proper : IsProper g) (of : IsLabelOfView plain u) (of_lifted : IsLabelOfView lifted v.view.core) where
    view_of_grammar : IsViewOf g u
    view_of_grammar = subst (λ x. IsViewOf x u) same of.is_view

    view_of_lifted : IsViewOf lifted.grammar (lift_view a u)
    view_of_lifted = subst (λ x. IsViewOf x (lift_view a u)) (sym (there ∙ is.grammar)) (lifted_view_law g u a fits.automaton view_of_grammar)

    safely : LiftSafely g u a
    safely = record { formed = formed; proper = proper; composites = view_of_grammar.expanded; fits = fits; safe = is.safe }

    pub of_word_view : AreOfWordView words_of u
    of_word_view = record {
      plain = of;
      lifted = label_there lifted v.view.core (lift_view a u) (alike_back (lift_view a u) v.view.core is.alike) view_of_lifted of_lifted;
      safely = subst (λ x. LiftSafely x u a) (sym same) safely;
    }

-- QUERIES answered by one grammar and automaton are answered by the same
pub answered_by_same : {S T : Type 0} {files : S → Option (List ℕ → File)} {readings : S → Option (List Reading)} {faults : S → ℕ} {last : S → Bool} {bytes : T → Option (List ℕ)} {counts : T → ℕ} {out_last : T → Bool} {name : List ℕ} (u : View) (entries : List Entry) (x y : Grammar × Automaton) (s t : S) (o p : T) (e : End) → x ≡ y →
    Obeys files readings faults last bytes counts out_last (name ∷ []) [] (λ f. QueriesStage (IsWordByWords x.0 u x.1 entries) (f name)) s t o p e →
    Obeys files readings faults last bytes counts out_last (name ∷ []) [] (λ f. QueriesStage (IsWordByWords y.0 u y.1 entries) (f name)) s t o p e
answered_by_same {files = files} {readings = readings} {faults = faults} {last = last} {bytes = bytes} {counts = counts} {out_last = out_last} {name = name} u entries x y s t o p e same =
    subst (λ (z : Grammar × Automaton). Obeys files readings faults last bytes counts out_last (name ∷ []) [] (λ f. QueriesStage (IsWordByWords z.0 u z.1 entries) (f name)) s t o p e) same
