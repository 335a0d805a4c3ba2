use Rattle.std.proofs.Common.{◌++◌, [], OnOk, cond, codes, decimal, subst, sym, refl, ap, ap₂, get_or, arith}
use Rattle.std.specs.Prelude.{◌==◌}
use Rattle.std.proofs.lemmas.List.{length-map, get_or_default}
use Rattle.std.proofs.lemmas.Result.{on_ok_weaker}
use Rattle.wf_json.specs.Writing.{Takes}
use Rattle.wf_json.proofs.Seen.{seen_at}
use Rattle.wf_json.proofs.Taken.{behind, renamed}
use Rattle.wf_package.specs.PackageText.{loop_text}
use Rattle.wf_package.specs.Parts.{loop_entry_of, no_loop_entry}
use Rattle.wf_package.proofs.PutTexts.{loop_put}
use Rattle.wf_package.proofs.text.put_loop.Goals as goal

pub returns : goal.returns
returns g c =
    let inside = c.requires in
    let name = renamed (ap₂ (λ t n. t ++ decimal n) c.opening.ensures c.from.ensures) c.in_ok-put_numbered.ensures in
    let production = renamed (ap (λ n. codes "\"," ++ decimal n) c.from-2.ensures) c.in_ok-put_numbered-2.ensures in
    let position = renamed (ap (λ n. codes "," ++ decimal n) c.from-3.ensures) c.in_ok-put_numbered-3.ensures in
    subst (λ e. OnOk c.put.result (Takes g.S.TextSink.holds c.args.out.now c.put.new.self (cond (c.args.k == 0) [] (codes ",") ++ loop_text e)))
    (sym (seen_at loop_entry_of c.args.loops.now _ c.args.k (get_or c.args.loops.now c.args.k _) no_loop_entry refl (get_or_default c.args.loops.now c.args.k _ _ c.requires) (omega (arith, length-map c.args.loops.now loop_entry_of))))
    (on_ok_weaker c.put.result (λ last. renamed (loop_put (c.args.k == 0) _ _ _) (behind (behind (behind name production) position) last)) c.put.ensures)
