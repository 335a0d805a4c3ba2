use Rattle.std.proofs.Common.{◌≡◌, ◌≤◌, ◌∙◌, ◌+◌, ℕ, length, ap, sym, subst, true≢false}
use Rattle.decode_model.specs.Counts.{most_products}
use Rattle.wf_recur.specs.Cycles.{round_at}
use Rattle.verdict_model.specs.declared.verdict.Verdict.TheVariants.{No}
use Rattle.verdict_model.specs.Verdicts.{IsVerdict, NeverDepends}
use Rattle.wf_words.specs.WordViews.{WordViewSeen, OfWords}
use Rattle.wf_words.proofs.WordCosts.{cost_behind, cost_alone}
use Rattle.wf_words.proofs.WordsTold.{other_by_words, yes_by_words, no_by_words, plain_told}
use Rattle.wf_words.proofs.verdict.word_verdict.Given.{Over}
use Rattle.wf_words.proofs.verdict.word_verdict.Goals as goal
use Rattle.wf_words.proofs.verdict.word_verdict.Goals.{After-decide-verdict}

-- the verdict under the view
told : (g : Over) (c : After-decide-verdict g) → OfWords c.args.words.now c.args.first c.args.second (λ u x y. IsVerdict c.args.words.now.plain.grammar u x y c.decide-verdict.result)
told g c u x y of hx hy ex ey =
    plain_told c.words.inside.plain.now c.args.words.now (ap (λ (w : WordViewSeen). w.plain) c.words.view_is) u x y of hx hy (λ l. IsVerdict l.grammar u x y c.decide-verdict.result)
    (λ p q r. c.decide-verdict.ensures.verdict u x y p q r (c.copied.ensures ∙ ex) (c.copied-2.ensures ∙ ey))

never : (g : Over) (c : After-decide-verdict g) → OfWords c.args.words.now c.args.first c.args.second (λ u x y. c.decide-verdict.result ≡ No → NeverDepends c.args.words.now.plain.grammar u x y)
never g c u x y of hx hy ex ey =
    plain_told c.words.inside.plain.now c.args.words.now (ap (λ (w : WordViewSeen). w.plain) c.words.view_is) u x y of hx hy (λ l. c.decide-verdict.result ≡ No → NeverDepends l.grammar u x y)
    (λ p q r. c.decide-verdict.ensures.no u x y p q r (c.copied.ensures ∙ ex) (c.copied-2.ensures ∙ ey))

-- and what it took
dear : (g : Over) (c : After-decide-verdict g) (l : ℕ) → ((k : ℕ) → length (round_at c.args.words.now.plain.cycles k) ≤ l) → c.decide-verdict.new.steps ≤ c.args.steps.now + most_products c.args.words.now.plain.grammar l
dear g c l = subst (λ (w : WordViewSeen). ((k : ℕ) → length (round_at w.plain.cycles k) ≤ l) → c.decide-verdict.new.steps ≤ c.args.steps.now + most_products w.plain.grammar l) c.words.view_is (c.decide-verdict.ensures.cost l)

pub returns-then-is_lifted_yes-clause-cost : goal.returns-then-is_lifted_yes-clause-cost
returns-then-is_lifted_yes-clause-cost g c l few few_lifted =
    cost_behind c.args.steps.now c.decide-verdict.new.steps c.is_lifted_yes.new.steps _ _ (dear g (goal.at.returns-then-is_lifted_yes-clause-cost g c).After-decide-verdict l few) (c.is_lifted_yes.ensures.cost l few_lifted)

pub returns-else-is_lifted_yes-clause-cost : goal.returns-else-is_lifted_yes-clause-cost
returns-else-is_lifted_yes-clause-cost g c l few few_lifted =
    cost_behind c.args.steps.now c.decide-verdict.new.steps c.is_lifted_yes.new.steps _ _ (dear g (goal.at.returns-else-is_lifted_yes-clause-cost g c).After-decide-verdict l few) (c.is_lifted_yes.ensures.cost l few_lifted)

pub returns-then-is_lifted_yes-clause-verdict : goal.returns-then-is_lifted_yes-clause-verdict
returns-then-is_lifted_yes-clause-verdict g c u x y of hx hy ex ey =
    let w = c.args.words.now in
    yes_by_words w.plain.grammar u w.automaton of.safely x y hx hy ((c.is_lifted_yes.ensures.yes u x y of hx hy ex ey).0 c.if-is_lifted_yes.true)

pub returns-else-is_lifted_yes-clause-verdict : goal.returns-else-is_lifted_yes-clause-verdict
returns-else-is_lifted_yes-clause-verdict g c u x y of hx hy ex ey =
    let w = c.args.words.now in
    no_by_words w.plain.grammar u w.automaton of.safely x y hx hy
    (subst (IsVerdict w.plain.grammar u x y) c.in-Yes.is (told g (goal.at.returns-else-is_lifted_yes-clause-verdict g c).After-decide-verdict u x y of hx hy ex ey))
    (λ h. true≢false (sym ((c.is_lifted_yes.ensures.yes u x y of hx hy ex ey).1 h) ∙ c.if-is_lifted_yes.false))

pub returns-in_default : goal.returns-in_default
returns-in_default g c =
    let w = c.args.words.now in
    let a = (goal.at.returns-in_default g c).After-decide-verdict in
    record {
      verdict = λ u x y of hx hy ex ey. other_by_words w.plain.grammar u w.automaton of.safely x y hx hy c.decide-verdict.result c.in_default.not-Yes (told g a u x y of hx hy ex ey) (never g a u x y of hx hy ex ey);
      room = c.decide-verdict.ensures.room ∙ c.scratch.view_is;
      cost = λ l few few_lifted. cost_alone c.args.steps.now c.decide-verdict.new.steps _ _ (dear g a l few);
    }
