-- What was prepared of a run under a view answers as that run does under that view.
use Rattle.std.proofs.Common.{◌≡◌, ℕ, Bool, List, [], Option, subst}
use Rattle.wf_io.specs.Told.{File}
use Rattle.wf_io.specs.Readings.{Reading}
use Rattle.wf_message.specs.Endings.{End}
use Rattle.wf_stage.specs.Promises.{Obeys}
use Rattle.wf_flat.specs.Table.{Table, events_of}
use Rattle.wf_safe.specs.SafeViews.{SafeViewValue}
use Rattle.cmd_ask.specs.Prepared.{PreparedSeen}
use Rattle.cmd_ask.specs.Answers.{IsAnswerOfRun}
use Rattle.cmd_ask.specs.Told.{IsToldBy}
use Rattle.wf_asking.specs.Queries.{QueriesStage}

module _ {S T : Type 0} {files : S → Option (List ℕ → File)} {readings : S → Option (List Reading)} {faults : S → ℕ} {last : S → Bool} {bytes : T → Option (List ℕ)} {counts : T → ℕ} {out_last : T → Bool} {name : List ℕ} {names : List (List ℕ)} where
  -- so does what it promises
  pub for_run : (s t : S) (o q : T) (e : End) (v : SafeViewValue) (run : Table) (p : PreparedSeen) → p.viewed ≡ v → p.run ≡ run →
      Obeys files readings faults last bytes counts out_last names [] (λ f. QueriesStage (IsToldBy p) (f name)) s t o q e →
      Obeys files readings faults last bytes counts out_last names [] (λ f. QueriesStage (IsAnswerOfRun v.accepted.grammar.core v.view.core (events_of run)) (f name)) s t o q e
  for_run s t o q e v run p viewed is h =
      subst (λ r. Obeys files readings faults last bytes counts out_last names [] (λ f. QueriesStage (IsAnswerOfRun v.accepted.grammar.core v.view.core (events_of r)) (f name)) s t o q e) is
      (subst (λ (w : SafeViewValue). Obeys files readings faults last bytes counts out_last names [] (λ f. QueriesStage (IsAnswerOfRun w.accepted.grammar.core w.view.core (events_of p.run)) (f name)) s t o q e) viewed h)
