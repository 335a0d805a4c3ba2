use Rattle.std.proofs.Common.{◌≡◌, sym, subst}
use Rattle.std.specs.Prelude.{codes}
use Rattle.std.proofs.lemmas.Result.{IfErr-weaker}
use Rattle.wf_model.specs.Proper.{IsProper}
use Rattle.wf_model.specs.Linear.{IsLinear}
use Rattle.wf_spec.specs.Held.{HeldGrammar}
use Rattle.wf_message.specs.Endings.{end_of}
use Rattle.wf_stage.specs.Stages.{OfWhole}
use Rattle.wf_accept.specs.Accepted.{AcceptedValue, IsAccepted}
use Rattle.wf_inputs.specs.Specification.{AllKeepCycles, TellsGrammar, RefusesGrammar, RefusesSpec}
use Rattle.wf_stage.proofs.Stages.{declines_by}
use Rattle.wf_stage.proofs.Reading.{IfOk-and}
use Rattle.wf_inputs.proofs.SpecSteps.{refuses_by_grammar, told_grammar}
use Rattle.wf_inputs.proofs.specification.spec_of_bytes.Goals as goal

pub returns-clause-ok : goal.returns-clause-ok
returns-clause-ok c =
    IfOk-and c.accepted.result _ _ _
    (λ (s : AcceptedValue) (t : s.grammar ≡ c.in_ok-g.g) (k : IsAccepted s). subst (TellsGrammar c.args.bytes.now) (sym t)
    (told_grammar c.args.bytes.now c.in_ok-parts.parts c.in_ok-parts.ensures.ok c.in_ok-g.g c.in_ok-g.ensures.ok
    (subst (λ (x : HeldGrammar). IsProper x.core) t k.proper) (subst (λ (x : HeldGrammar). IsLinear x.core) t k.linear) (subst AllKeepCycles t k.keeps)))
    c.accepted.ensures.grammar c.accepted.ensures.accepted

pub returns-clause-declines : goal.returns-clause-declines
returns-clause-declines c =
    IfErr-weaker c.accepted.result _ _
    (λ e d. declines_by (codes "spec") (OfWhole RefusesGrammar c.in_ok-g.g) (OfWhole RefusesSpec c.args.bytes.now) (λ line fault h. (h.0, refuses_by_grammar c.args.bytes.now c.in_ok-parts.parts c.in_ok-parts.ensures.ok c.in_ok-g.g c.in_ok-g.ensures.ok fault h.1)) (end_of e) d)
    c.accepted.ensures.declines
