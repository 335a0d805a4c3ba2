use Rattle.std.proofs.Common.{◌∙◌, sym, subst}
use Rattle.std.proofs.Math.ListN.{drop_of_length-le}
use Rattle.name_text.specs.Fronts.{BeginsOtherwise}
use Rattle.name_text.proofs.Fronts.{otherwise_at, otherwise_nil}
use Rattle.name_text.proofs.short.names_first.Goals as goal
use Rattle.name_text.proofs.short.names_first.Goals.{then-loop-n-test+else-is_of_name, else-loop-n-test}

pub returns-clause-next : goal.returns-clause-next
returns-clause-next c =
    elim c.loop-n-test.branch [
      | then-loop-n-test+else-is_of_name w ↦ subst BeginsOtherwise (sym c.split_at.ensures.back) (otherwise_at c.args.bytes.now c.loop-n.n (sym w.is_of_name.ensures ∙ w.if-is_of_name.false))
      | else-loop-n-test w ↦ subst BeginsOtherwise (sym (c.split_at.ensures.back ∙ drop_of_length-le c.args.bytes.now w.loop-n-test.false)) otherwise_nil
    ]
