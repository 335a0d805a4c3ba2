-- How AUTO ends a command.
use Rattle.std.proofs.Common.{ℕ, Bool, List, [], ◌∷◌, Option}
use Rattle.wf_model.specs.Grammar.{Grammar}
use Rattle.wf_model.specs.View.{View}
use Rattle.words_model.specs.Automata.{Automaton}
use Rattle.wf_io.specs.Told.{File}
use Rattle.wf_io.specs.Readings.{Reading}
use Rattle.wf_message.specs.Endings.{End}
use Rattle.wf_stage.specs.Stages.{OfWhole}
use Rattle.wf_stage.specs.Promises.{HasStopped, Obeys}
use Rattle.wf_stage.proofs.Ends.{begins_nothing}
use Rattle.wf_stage.proofs.Obeying.{obeys_stop}
use Rattle.cmd_words.specs.AutoTold.{auto_kind, RefusesAuto, AutoStage}

module _ (g : Grammar) (v : View) {S T : Type 0} {files : S → Option (List ℕ → File)} {readings : S → Option (List Reading)} {faults : S → ℕ} {last : S → Bool} {bytes : T → Option (List ℕ)} {counts : T → ℕ} {out_last : T → Bool} {name : List ℕ} {names : List (List ℕ)} (Next : (List ℕ → File) → Automaton → End → List ℕ → Type 0) where
  pub auto_stops : (s t : S) (o : T) (e : End) → HasStopped files readings faults last auto_kind name (OfWhole (RefusesAuto g v)) s t e → Obeys files readings faults last bytes counts out_last (name ∷ names) [] (λ f. AutoStage g v (f name) (Next f)) s t o o e
  auto_stops = obeys_stop [] Next (λ f a. begins_nothing (Next f a))
