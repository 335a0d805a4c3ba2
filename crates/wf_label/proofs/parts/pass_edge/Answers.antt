use Rattle.std.proofs.Common.{◌<◌, refl, subst}
use Rattle.wf_model.specs.Grammar.{production_at}
use Rattle.label_model.specs.Reading.{IsPadding}
use Rattle.wf_label.specs.Parts.{HasNoNumber, IsEndingByLeft}
use Rattle.wf_label.proofs.Passes.{passed_number}
use Rattle.wf_label.proofs.PartsLeft.{ending_left, no_edge}
use Rattle.wf_label.proofs.parts.pass_edge.Goals as goal
use Rattle.wf_label.proofs.Counts.{edges_held}

pub returns-in_err-next_number-clause-malformed : goal.returns-in_err-next_number-clause-malformed
returns-in_err-next_number-clause-malformed b c = λ _.
    let g = c.args.g.now.core in
    let p = c.args.p.0 in
    let left = (b.R.Codes.reading c.args.reader.now).left in
    let few = edges_held c.edges.result.now c.production.result.now.core (production_at g p) c.edges.ensures c.production.ensures.core in
    no_edge g p left c.requires (subst (λ n. HasNoNumber n left) few (c.in_err-next_number.ensures.malformed refl))

pub returns-clause-passed : goal.returns-clause-passed
returns-clause-passed b c =
    let g = c.args.g.now.core in
    let p = c.args.p.0 in
    let e = c.in_ok-next_number.field-0 in
    let few = edges_held c.edges.result.now c.production.result.now.core (production_at g p) c.edges.ensures c.production.ensures.core in
    passed_number (IsEndingByLeft g p) IsPadding e (b.R.Codes.reading c.args.reader.now) (b.R.Codes.reading c.next_number.new.self) c.in_ok-next_number.ensures.read
    (ending_left g p e c.requires (subst (λ n. e < n) few c.in_ok-next_number.ensures.below))
