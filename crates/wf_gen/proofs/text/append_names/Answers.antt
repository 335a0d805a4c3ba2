use Rattle.std.proofs.Common.{◌<◌, arith, codes}
use Rattle.wf_json.specs.Canonical.{text_in_quotes}
use Rattle.wf_gen.proofs.Lines.{names_joined}
use Rattle.wf_gen.proofs.text.append_names.Goals as goal

pub returns-clause-ok : goal.returns-clause-ok
returns-clause-ok c =
    let some : 0 < c.args.count = omega (arith, c.if-count-eq0.false) in
    names_joined text_in_quotes c.append_others.result (codes ",") c.args.first c.args.count _ _ _ some c.in_ok-append_quoted.ensures.ok c.append_others.ensures.ok
