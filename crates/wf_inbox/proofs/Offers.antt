-- A report beside the one on its subject.
use Rattle.std.proofs.Common.{◌≡◌, ℕ, ◌<◌, Bool, List, [], ◌∷◌, ◌++◌, map, length, get_or, Option, Some, None, Result, Ok, Err, bytes_eq, refl, ap, sym, ◌∙◌, subst}
use Rattle.std.specs.Prelude.{position, IfOk, IfErr}
use Rattle.std.specs.Option.{option_eq}
use Rattle.wf_model.specs.declared.event.Event.{Event}
use Rattle.report_model.specs.Reports.{subject_of, same_event}
use Rattle.report_model.specs.Kept.{Kept, kept_at, newly_kept}
use Rattle.wf_inbox.specs.declared.inbox.Offer.{Offer}
use Rattle.wf_inbox.specs.declared.inbox.InboxFault.{InboxFault}
use Rattle.wf_inbox.specs.Inboxes.{known_on, IsKept, IsOffered, IsContradicted}
use Rattle.wf_inbox.specs.Keeping.{subject_kept, IsRepeated, IsOpposed}
use Rattle.wf_inbox.proofs.Known.{known_none, known_at}
use Rattle.wf_inbox.proofs.Together.{read_at}

module _ (kept : List Kept) (names : List (Option (List ℕ))) (of : names ≡ map subject_kept kept) (line : ℕ) (event : Event) (name : Option (List ℕ)) (about : name ≡ subject_of event) where
  -- there is none on its subject: it is kept
  pub kept_new : (new : List Kept) (r : Kept) (ready : Bool) → None ≡ position (option_eq bytes_eq name) names → r ≡ newly_kept (record { line = line; event = event }) ready → new ≡ kept ++ r ∷ [] →
      IsKept kept new (record { line = line; event = event }) ready
  kept_new new r ready e f g = record {
    first = known_none event kept names of (e ∙ ap (λ n. position (option_eq bytes_eq n) names) about);
    added = g ∙ ap (λ k. kept ++ k ∷ []) f;
  }

  -- there is one
  module _ (i : ℕ) (x : Kept) (e : Some i ≡ position (option_eq bytes_eq name) names) (read : x ≡ get_or kept i x) where
    there : (i < length kept) × (known_on kept event ≡ Some (kept_at kept i).report)
    there = known_at event kept names of i (e ∙ ap (λ n. position (option_eq bytes_eq n) names) about)

    is_it : x ≡ kept_at kept i
    is_it = read_at kept i x there.0 read

    pub repeated : {F : Type 0} (r : Result Offer F) (stands : Bool) → IfOk r (IsRepeated x event) → IfOk r (IsOffered kept kept line event stands)
    repeated (Ok o) stands h = subst (IsOffered kept kept line event stands) (sym h.repeats) (((kept_at kept i).report, there.1, ap (λ z. same_event z.report.event event) (sym is_it) ∙ h.same), refl)
    repeated (Err f) stands h = tt

    pub contradicted : {O : Type 0} (r : Result O InboxFault) → IfErr r (IsOpposed x event) → IfErr r (IsContradicted kept line event)
    contradicted (Ok o) h = tt
    contradicted (Err f) h =
        subst (IsContradicted kept line event) (sym h.conflicts)
        ((kept_at kept i).report, there.1, ap (λ z. same_event z.report.event event) (sym is_it) ∙ h.other, ap (λ z. z.report.line) (sym is_it))
