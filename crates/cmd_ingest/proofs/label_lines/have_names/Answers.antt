use Rattle.std.proofs.Common.{sym, ◌∙◌, arith}
use Rattle.cmd_ingest.proofs.NamedChildren.{agree_at_end, first_differs, first_agrees}
use Rattle.cmd_ingest.proofs.label_lines.have_names.Goals as goal

pub returns-then-ne : goal.returns-then-ne
returns-then-ne c events run =
    let l = c.loop-wanted in
    let differs = first_differs c.args.run.now l.next l.left _ c.name-item.result c.if-left-eq0.false c.in-len1-up.len_at_least c.name-item.is in
    sym (l.invariant.1 events run ∙ differs _ _ (c.name_of.ensures events run) c.bytes.ensures (sym c.ne.ensures ∙ c.if-ne.true))

pub loop-wanted-preserved : goal.loop-wanted-preserved
loop-wanted-preserved c =
    let l = c.loop-wanted in
    let agrees = first_agrees c.args.run.now l.next l.left _ c.name-item.result c.if-left-eq0.false c.in-len1-up.len_at_least c.name-item.is in (
      omega (arith, l.invariant.0, c.if-left-eq0.false),
      λ events run. l.invariant.1 events run ∙ agrees _ _ (c.name_of.ensures events run) c.bytes.ensures (sym c.ne.ensures ∙ c.if-ne.false),
    )

pub returns : goal.returns
returns c events run = let l = c.loop-wanted in agree_at_end c.args.run.now l.next l.left _ c.in_default.len_below ∙ sym (l.invariant.1 events run)
