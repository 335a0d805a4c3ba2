use Rattle.std.proofs.lemmas.Bool.{OnTrue_at}
use Rattle.wf_form.proofs.Differing.{first_repeats, second_decides}
use Rattle.wf_form.proofs.checks.different.ports_differ.Goals as goal

pub returns-then-not-differ : goal.returns-then-not-differ
returns-then-not-differ c = first_repeats _ c.args.inputs.now c.args.outputs.now c.in_ok-differ.differ c.with_key-taken.ensures c.in_ok-differ.ensures.told c.if-not-differ.true

pub returns : goal.returns
returns c = second_decides _ c.args.inputs.now c.args.outputs.now _ c.in_ok-differ.differ c.in_ok-differ-2.differ c.with_key-taken.ensures c.in_ok-differ.ensures.told c.if-not-differ.false (OnTrue_at c.if-not-differ.false c.in_ok-differ.ensures.added) c.in_ok-differ-2.ensures.told
