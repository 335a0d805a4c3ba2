use Rattle.std.proofs.Common.{Some, codes, sym, ◌∙◌, subst, true≢false}
use Rattle.std.proofs.lemmas.Bool.Decides.{Decides-eqb}
use Rattle.std.proofs.lemmas.Slice.Eq.{strip_prefix_is}
use Rattle.std.proofs.lemmas.List.{append_cancel_left}
use Rattle.wf_model.specs.WellFormed.{IsShortName}
use Rattle.wf_model.proofs.Taking.{short_gives, short_from}
use Rattle.wf_reason.proofs.line.via_line.Goals as goal

pub returns-then-not-is_short-clause-none : goal.returns-then-not-is_short-clause-none
returns-then-not-is_short-clause-none c = λ g name h.
    let start = strip_prefix_is Decides-eqb c.args.line.now (codes "via ") (Some c.in-Some.name) c.in-Some.ensures.cases in
    let short = subst IsShortName (append_cancel_left (codes "via ") name c.in-Some.name.now (sym h.0 ∙ start)) h.1 in
    true≢false (sym (short_from c.in-Some.name.now short.0 short.1) ∙ (sym c.is_short.ensures ∙ c.if-not-is_short.true))

pub returns-clause-some : goal.returns-clause-some
returns-clause-some c =
    (strip_prefix_is Decides-eqb c.args.line.now (codes "via ") (Some c.in-Some.name) c.in-Some.ensures.cases, short_gives c.in-Some.name.now (sym c.is_short.ensures ∙ c.if-not-is_short.false))
