use Rattle.std.proofs.Common.{subst}
use Rattle.std.specs.Prelude.{MatchOption}
use Rattle.std.proofs.lemmas.Result.{err_from_is_err_and}
use Rattle.wf_label.specs.Values.{label_place_of}
use Rattle.wf_loops.specs.Looped.{loop_in}
use Rattle.wf_translate.specs.Readable.{ReadsOut}
use Rattle.wf_translate.specs.Translated.{IsPlaceRead}
use Rattle.wf_translate.proofs.Options.{passed_error}
use Rattle.wf_translate.proofs.Whole.{edge_inside, edge_outside, edge_malformed}
use Rattle.wf_translate.proofs.label.read_edge_label.Goals as goal

pub returns-in-Some-clause-read : goal.returns-in-Some-clause-read
returns-in-Some-clause-read c =
    let l = c.args.looped.now in
    let g = l.accepted.grammar.core in
    let loop = loop_in l.steps in
    let bits = c.args.reader.now.left in
    edge_inside g loop bits (label_place_of c.in-Some.place)
    (subst (λ o. MatchOption o (ReadsOut g loop g.start bits) (λ p. IsPlaceRead g loop g.start bits (label_place_of p))) c.in-Some.is c.in_ok-end.ensures.read)

pub returns-in-None-clause-read : goal.returns-in-None-clause-read
returns-in-None-clause-read c =
    let l = c.args.looped.now in
    let g = l.accepted.grammar.core in
    let loop = loop_in l.steps in
    let bits = c.args.reader.now.left in
    edge_outside g loop bits (subst (λ o. MatchOption o (ReadsOut g loop g.start bits) (λ p. IsPlaceRead g loop g.start bits (label_place_of p))) c.in-None.is c.in_ok-end.ensures.read)

pub returns-in_err-end-clause-malformed : goal.returns-in_err-end-clause-malformed
returns-in_err-end-clause-malformed c =
    let l = c.args.looped.now in
    passed_error _ c.from_residual.result c.in_err-end.field-0.0 (err_from_is_err_and c.from_residual.result c.from_residual.ensures.1)
    (λ e. edge_malformed l.accepted.grammar.core (loop_in l.steps) c.args.reader.now.left (c.in_err-end.ensures.malformed e))
