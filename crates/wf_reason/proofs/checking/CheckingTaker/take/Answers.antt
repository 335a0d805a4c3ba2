use Rattle.std.proofs.Common.{refl, sym, ap, subst, ◌∙◌}
use Rattle.wf_reason.specs.declared.turn.Turn.TheVariants.{Item as ItemTurn}
use Rattle.wf_reason.specs.ChainLines.{Says, line_at, next_turn, turn_behind}
use Rattle.wf_reason.specs.HandedIn.{HandedLine}
use Rattle.wf_reason.specs.Standing.{with_one}
use Rattle.wf_reason.proofs.LineLists.{turn_further}
use Rattle.wf_reason.proofs.Standings.{last_here}
use Rattle.wf_reason.proofs.checking.CheckingTaker.take.Goals as goal

pub returns-clause-within : goal.returns-clause-within
returns-clause-within c = λ s at.
    let name = c.in-Some.name.now in
    let l = line_at (turn_behind ItemTurn s) name in
    let h : HandedLine = record { number = c.args.number; says = l } in (
      with_one s c.args.number l,
      (l, subst (λ t. Says t c.args.text.now (line_at t name)) at.turn_is c.in-Some.ensures.some, refl, refl),
      record {
        turn_is = c.next-self.ensures ∙ (ap next_turn at.turn_is ∙ sym (turn_further ItemTurn s h));
        last_is = sym (last_here 0 s h);
        stands = c.with_line-self.ensures.stands s at.stands;
      },
    )
