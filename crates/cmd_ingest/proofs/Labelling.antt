-- A run whose items are labelled: what its text grows by, and where it begins.
use Rattle.std.proofs.Common.{◌≡◌, ℕ, ◌<◌, List, [], ◌∷◌, ◌++◌, length, Option, None, Some, option_map, sym, ap, ◌∙◌, subst}
use Rattle.std.specs.Prelude.{position, bytes_eq}
use Rattle.std.proofs.lemmas.Option.{none-some}
use Rattle.sha2.specs.Sha256.{sha256}
use Rattle.wf_model.specs.declared.event.Event.{Event}
use Rattle.wf_model.specs.declared.event.Event.TheVariants.{Start, Expand}
use Rattle.wf_model.specs.Run.{IsRun, Expanded, made, names_of, expanded_by}
use Rattle.wf_json.specs.Canonical.{canonical_of}
use Rattle.wf_spec.specs.Held.{HeldGrammar}
use Rattle.label_model.proofs.FileGrowth.{file_step_law}
use Rattle.report_model.specs.Kept.{Kept}
use Rattle.wf_intake.specs.Reported.{ReportedSeen, none_reported}
use Rattle.wf_intake.specs.Intakes.{IsWrittenOn}
use Rattle.wf_intake.specs.Applied.{number_of}
use Rattle.wf_run.specs.declared.node.NodeNo.{NodeNo}
use Rattle.wf_run.specs.Found.{IsFoundFor}
use Rattle.wf_run.specs.Runs.{RunSeen, node_at, name_at, names_at, IsExpandedAs, IsRunOf}
use Rattle.wf_run.proofs.NamedInstances.{its_name}
use Rattle.wf_inputs.proofs.PlainRuns.{names_told}
use Rattle.wf_inputs.specs.Inputs.{instance_most}
use Rattle.wf_inputs.specs.RunTaking.{none_taken_of}
use Rattle.wf_inputs.specs.Reporting.{IsTakenAs}
use Rattle.wf_inputs.proofs.ReportLines.{taken_at_start}
use Rattle.cmd_ingest.specs.Ingested.{file_of}
use Rattle.cmd_ingest.proofs.HeadFirst.{bytes_by}

-- with the entries of an event the text is written on, as the label file is
pub written_on : (r u : RunSeen) → u.grammar ≡ r.grammar → (before : List Event) (e : Event) → IsRunOf u (before ++ e ∷ []) → (old new : List ℕ) → new ≡ old ++ bytes_by r.grammar.core before e → IsWrittenOn (file_of r.grammar.core) before (before ++ e ∷ []) old new
written_on r u grammar before e run old new is = (
  bytes_by r.grammar.core before e,
  is,
  file_step_law r.grammar.core (sha256 (canonical_of r.grammar.core)) before e (subst (λ (h : HeldGrammar). IsRun h.core h.core.start (before ++ e ∷ [])) grammar run.accepted.0),
)

-- the number of the instance that an event expands is what a look-up of it gives
pub found_for : (r : RunSeen) (e : Event) (number : Option ℕ) (found : Option NodeNo) → option_map (λ (n : NodeNo). n.0) found ≡ number → ((events : List Event) → IsRunOf r events → number ≡ number_of r.grammar.core events e) → IsFoundFor r e found
found_for r (Start root) number found same told = tt
found_for r (Expand i p names) number found same told = λ events run. same ∙ (told events run ∙ ap (position (bytes_eq i)) (sym run.names))

-- an instance that the events expand
module _ (r : RunSeen) (events : List Event) (run : IsRunOf r events) (instance : List ℕ) (x : Expanded) (k : ℕ) (at : position (bytes_eq instance) (names_of (made r.grammar.core r.grammar.core.start events)) ≡ Some k) (is : expanded_by events instance ≡ Some x) where
  its : (k < length r.nodes) × (instance ≡ name_at r k)
  its = its_name r events run instance k (ap (position (bytes_eq instance)) run.names ∙ at)

  -- its number is that of one that is kept
  pub is_kept : k < length r.nodes
  is_kept = its.0

  expanded : expanded_by events (name_at r k) ≡ Some x
  expanded = ap (expanded_by events) (sym its.1) ∙ is

  -- it has children
  pub has_children : None ≡ (node_at r k).children → ⊥
  has_children none = none-some x (sym (subst (IsExpandedAs r events (name_at r k)) (sym none) (run.each k its.0).children) ∙ expanded)

  -- and these have the names that the events give them
  pub children_named : (ks : List ℕ) → Some ks ≡ (node_at r k).children → names_at r ks ≡ x.names
  children_named ks some = let told = subst (IsExpandedAs r events (name_at r k)) (sym some) (run.each k its.0).children in ap names_told (sym told.1 ∙ expanded)

-- before the first line, where no report is kept and no line noted, and the labeller's run is that of no events
pub labelled_at_start : (g : HeldGrammar) (kept : List Kept) (seen : ReportedSeen) (r l : RunSeen) → kept ≡ [] → seen ≡ none_reported → l ≡ r → IsRunOf r [] → r.grammar ≡ g → r.most ≡ instance_most → IsTakenAs l.grammar.core l.most kept seen (IsRunOf l) (none_taken_of g.core)
labelled_at_start g kept seen r l empty none is run grammar most =
    taken_at_start g.core l.grammar.core l.most kept seen (IsRunOf l) (ap (λ (z : RunSeen). z.grammar.core) is ∙ ap (λ (h : HeldGrammar). h.core) grammar) (ap (λ (z : RunSeen). z.most) is ∙ most) empty none (subst (λ z. IsRunOf z []) (sym is) run)
