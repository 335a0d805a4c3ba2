use Rattle.std.proofs.Common.{◌++◌, ◌∙◌, [], OnOk, cond, codes, decimal, subst, ap, ap₂}
use Rattle.std.specs.Prelude.{◌==◌}
use Rattle.std.specs.List.{join_by}
use Rattle.std.proofs.lemmas.List.{get_or_default}
use Rattle.std.proofs.lemmas.Result.{on_ok_weaker}
use Rattle.wf_json.specs.Writing.{Takes}
use Rattle.wf_json.proofs.Taken.{behind, renamed}
use Rattle.wf_package.specs.PackageText.{named_pair, given_text}
use Rattle.wf_package.specs.Parts.{no_given_part}
use Rattle.wf_package.proofs.PutTexts.{part_put}
use Rattle.wf_package.proofs.text.put_part.Goals as goal

pub returns : goal.returns
returns g c =
    let name = renamed (ap₂ (λ t n. t ++ decimal n) c.opening.ensures (c.from.ensures ∙ c.module.ensures)) c.in_ok-put_numbered.ensures in
    let pairs = renamed (ap (join_by named_pair (codes ",")) c.pairs.ensures) c.in_ok-put_pairs.ensures in
    subst (λ d. OnOk c.put-2.result (Takes g.S.TextSink.holds c.args.out.now c.put-2.new.self (cond (c.args.k == 0) [] (codes ",") ++ given_text d)))
    (c.index-given-k.is ∙ get_or_default c.args.given.now c.args.k c.index-given-k.result no_given_part c.requires)
    (on_ok_weaker c.put-2.result (λ last. renamed (part_put (c.args.k == 0) _ _) (behind (behind (behind name c.in_ok-put.ensures) pairs) last)) c.put-2.ensures)
