-- What is said of a run under a view, by the values that it was made of.
use Rattle.std.proofs.Common.{◌≡◌, ℕ, Bool, List, [], ◌∷◌, Option, subst}
use Rattle.wf_io.specs.Told.{File}
use Rattle.wf_io.specs.Readings.{Reading}
use Rattle.wf_io.specs.Lines.{lines_in}
use Rattle.wf_message.specs.Endings.{End}
use Rattle.wf_stage.specs.Promises.{Obeys}
use Rattle.wf_safe.specs.SafeViews.{SafeViewValue}
use Rattle.wf_flat.specs.Table.{Table, events_of}
use Rattle.wf_chain.specs.ViewedRuns.{ViewedRunValue, grammar_in, view_in, events_in}
use Rattle.wf_reason.specs.HandedIn.{ChainStage}
use Rattle.wf_reason.specs.Checked.{IsSaidOf}

module _ {S T : Type 0} {files : S → Option (List ℕ → File)} {readings : S → Option (List Reading)} {faults : S → ℕ} {last : S → Bool} {bytes : T → Option (List ℕ)} {counts : T → ℕ} {out_last : T → Bool} {name : List ℕ} where
  pub for_run : (v : SafeViewValue) (t : Table) (s r : S) (o p : T) (e : End) (w : ViewedRunValue) → w.viewed ≡ v → w.run ≡ t →
      Obeys files readings faults last bytes counts out_last (name ∷ []) [] (λ f. ChainStage (lines_in (f name)) (IsSaidOf (grammar_in w) (view_in w) (events_in w))) s r o p e →
      Obeys files readings faults last bytes counts out_last (name ∷ []) [] (λ f. ChainStage (lines_in (f name)) (IsSaidOf v.accepted.grammar.core v.view.core (events_of t))) s r o p e
  for_run v t s r o p e w viewed run h =
      subst (λ (x : SafeViewValue). Obeys files readings faults last bytes counts out_last (name ∷ []) [] (λ f. ChainStage (lines_in (f name)) (IsSaidOf x.accepted.grammar.core x.view.core (events_of t))) s r o p e) viewed
      (subst (λ (x : Table). Obeys files readings faults last bytes counts out_last (name ∷ []) [] (λ f. ChainStage (lines_in (f name)) (IsSaidOf (grammar_in w) (view_in w) (events_of x))) s r o p e) run h)
