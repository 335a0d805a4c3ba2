use Rattle.std.proofs.Common.{subst}
use Rattle.std.specs.Prelude.{MatchOption}
use Rattle.std.proofs.lemmas.Result.{err_from_is_err_and}
use Rattle.bit_pack.specs.Bits.{bits_of}
use Rattle.bit_pack.specs.Reading.{Reading}
use Rattle.package_model.specs.Translating.{Malformed, IsTranslation, ReadsInside, ReadsOutside}
use Rattle.wf_label.specs.Values.{label_of}
use Rattle.wf_loops.specs.Looped.{loop_in}
use Rattle.wf_translate.proofs.Options.{passed_error}
use Rattle.wf_translate.proofs.Whole.{inside_is_label, label_steps}
use Rattle.wf_translate.proofs.translating.translate.Goals as goal
use Rattle.wf_translate.proofs.translating.translate.Goals.{In-Some}

-- the label that was read
inside : (c : In-Some) → ReadsInside c.args.looped.now.accepted.grammar.core (loop_in c.args.looped.now.steps) (bits_of c.args.bytes.now) (label_of c.in-Some.label)
inside c =
    let l = c.args.looped.now in
    let g = l.accepted.grammar.core in
    let loop = loop_in l.steps in
    let left = c.new-reader.result.left in
    subst (λ (r : Reading). ReadsInside g loop r.left (label_of c.in-Some.label)) c.new-reader.ensures
    (subst (λ o. MatchOption o (ReadsOutside g loop left) (λ k. ReadsInside g loop left (label_of k))) c.in-Some.is c.in_ok-read.ensures.read)

pub returns-in_default-clause-packed : goal.returns-in_default-clause-packed
returns-in_default-clause-packed c =
    let l = c.args.looped.now in
    let g = l.accepted.grammar.core in
    let loop = loop_in l.steps in
    let left = c.new-reader.result.left in
    subst (λ (r : Reading). ReadsOutside g loop r.left) c.new-reader.ensures
    (subst (λ o. MatchOption o (ReadsOutside g loop left) (λ k. ReadsInside g loop left (label_of k))) c.in_default.is c.in_ok-read.ensures.read)

pub write_label-requires : goal.write_label-requires
write_label-requires c =
    let s = (goal.at.write_label-requires c).In-Some in
    let l = c.args.looped.now in
    label_steps l c.grammar-good.ensures.good c.in-Some.label (inside_is_label l c.grammar-good.ensures.good (bits_of c.args.bytes.now) (label_of c.in-Some.label) (inside s))

pub returns-clause-packed : goal.returns-clause-packed
returns-clause-packed c =
    let s = (goal.at.returns-clause-packed c).In-Some in
    let l = c.args.looped.now in
    record {
      label = label_of c.in-Some.label;
      of_it = inside_is_label l c.grammar-good.ensures.good (bits_of c.args.bytes.now) (label_of c.in-Some.label) (inside s);
      translated = inside s;
      is = c.in_ok-bits.ensures;
    }

pub returns-in_err-read-clause-malformed : goal.returns-in_err-read-clause-malformed
returns-in_err-read-clause-malformed c =
    let l = c.args.looped.now in
    passed_error _ c.from_residual.result c.in_err-read.field-0.0 (err_from_is_err_and c.from_residual.result c.from_residual.ensures.1)
    (λ e. subst (λ (r : Reading). IsTranslation l.accepted.grammar.core (loop_in l.steps) r.left Malformed) c.new-reader.ensures (c.in_err-read.ensures.malformed e))
