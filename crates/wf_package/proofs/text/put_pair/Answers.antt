use Rattle.std.proofs.Common.{◌++◌, [], OnOk, cond, codes, decimal, subst, refl, ap, ap₂}
use Rattle.std.specs.Prelude.{◌==◌}
use Rattle.std.proofs.lemmas.Result.{on_ok_weaker}
use Rattle.wf_spec.specs.GivenRows.{pair_of}
use Rattle.wf_json.specs.Writing.{Takes}
use Rattle.wf_json.proofs.Seen.{read_seen}
use Rattle.wf_json.proofs.Taken.{behind, renamed}
use Rattle.wf_package.specs.PackageText.{named_pair}
use Rattle.wf_package.proofs.PutTexts.{pair_put}
use Rattle.wf_package.proofs.text.put_pair.Goals as goal

pub returns : goal.returns
returns g c =
    let input = renamed (ap₂ (λ t n. t ++ decimal n) c.opening.ensures c.from.ensures) c.in_ok-put_numbered.ensures in
    let output = renamed (ap (λ n. codes "\",\"o" ++ decimal n) c.from-2.ensures) c.in_ok-put_numbered-2.ensures in
    subst (λ e. OnOk c.put.result (Takes g.S.TextSink.holds c.args.out.now c.put.new.self (cond (c.args.k == 0) [] (codes ",") ++ named_pair e)))
    (read_seen pair_of c.args.pairs.now _ c.args.k _ refl)
    (on_ok_weaker c.put.result (λ last. renamed (pair_put (c.args.k == 0) _ _) (behind (behind input output) last)) c.put.ensures)
