use Rattle.std.proofs.Common.{List, refl, subst}
use Rattle.std.specs.Prelude.{Result, Ok, Err, codes}
use Rattle.std.proofs.lemmas.Result.{err_from_is_err_and}
use Rattle.label_model.specs.Files.{Entry}
use Rattle.label_file.specs.Stored.{AreHeldOf}
use Rattle.wf_message.specs.Endings.{end_of}
use Rattle.wf_message.specs.declared.ending.Stop.{Stop}
use Rattle.wf_stage.specs.Stages.{Declines, OfWhole}
use Rattle.wf_stage.proofs.Obeying.{obeys_passed, obeys_writing}
use Rattle.wf_stage.proofs.Reading.{reads_on, reads_stop}
use Rattle.wf_accept.specs.Accepted.{AcceptedValue}
use Rattle.wf_inputs.specs.LabelsTold.{TellsEntries, RefusesLabels}
use Rattle.wf_inputs.proofs.Taking.{labels_stop, labels_go}
use Rattle.label_file.proofs.ReadSoFar.{store_of_held}
use Rattle.wf_inputs.proofs.OneLabels.{told_differ}
use Rattle.cmd_explain.specs.Listings.{ListsItem}
use Rattle.cmd_explain.proofs.PutListings.{writes_same}
use Rattle.cmd_explain.proofs.listing.ListedUnderView.obey_under.Goals as goal

pub returns-in_err-bytes : goal.returns-in_err-bytes
returns-in_err-bytes g c =
    let h = c.args.v.now.accepted.grammar in
    let d = c.in_err-bytes.field-0.0 in
    let none : Result (List Entry) Stop = Err d in
    record {
      obeys = obeys_passed _ _ _ _ _ _ c.from_residual.result d (err_from_is_err_and c.from_residual.result c.from_residual.ensures.1)
          (labels_stop h _ _ _ _ _ (reads_stop g.H.Shelf.at_last (TellsEntries h) (λ es. es) (OfWhole (RefusesLabels h)) _ _ d none (d, refl, refl) c.in_err-bytes.ensures.reads));
      untouched = λ _ held. absurd held;
    }

pub returns-in_err-store : goal.returns-in_err-store
returns-in_err-store g c =
    let h = c.args.v.now.accepted.grammar in
    let d = c.in_err-store.field-0.0 in
    let none : Result (List Entry) Stop = Err d in
    record {
      obeys = obeys_passed _ _ _ _ _ _ c.from_residual-in_err-store.result d (err_from_is_err_and c.from_residual-in_err-store.result c.from_residual-in_err-store.ensures.1)
          (labels_stop h _ _ _ _ _ (reads_on g.H.Shelf.at_last (TellsEntries h) (λ es. es) (OfWhole (RefusesLabels h)) _ _ _ c.deref.result.now c.in_ok-bytes.ensures.reads c.deref.ensures.value none tt
          (subst (λ (s : AcceptedValue). Declines (codes "labels") (OfWhole (RefusesLabels s.grammar) c.deref.result.now) (end_of d)) c.accepted.ensures.accepted c.in_err-store.ensures.declines)));
      untouched = λ _ held. absurd held;
    }

pub put_listing-ended-requires : goal.put_listing-ended-requires
put_listing-ended-requires g c =
    let s = subst (λ (s : AcceptedValue). (entries : List Entry) × TellsEntries s.grammar c.deref.result.now entries × AreHeldOf s.grammar.core entries c.in_ok-store.store) c.accepted.ensures.accepted c.in_ok-store.ensures.store in
    record { store = store_of_held c.args.v.now.accepted.grammar.core s.0 c.in_ok-store.store s.2 (told_differ c.args.v.now.accepted.grammar c.deref.result.now s.0 s.1) }

pub returns : goal.returns
returns g c =
    let h = c.args.v.now.accepted.grammar in
    let s = subst (λ (s : AcceptedValue). (entries : List Entry) × TellsEntries s.grammar c.deref.result.now entries × AreHeldOf s.grammar.core entries c.in_ok-store.store) c.accepted.ensures.accepted c.in_ok-store.ensures.store in
    let all : Result (List Entry) Stop = Ok s.0 in
    record {
      obeys = labels_go h _ _ _ _ _ _ _ s.0 (reads_on g.H.Shelf.at_last (TellsEntries h) (λ es. es) (OfWhole (RefusesLabels h)) _ _ _ c.deref.result.now c.in_ok-bytes.ensures.reads c.deref.ensures.value all s.1 tt)
          (obeys_writing _ _ _ _ _ _ (writes_same (ListsItem h.core c.args.v.now.view.core c.args.self.now.direction s.0) _ _ _ _ _ c.as_bytes.ensures.value (c.put_listing-ended.ensures.writes s.0 s.2)));
      untouched = λ _ held. absurd held;
    }
