use Rattle.std.proofs.Common.{◌≡◌, ◌∙◌, [], true, ap, sym}
use Rattle.wf_gen.specs.Draws.{draw, drawn}
use Rattle.wf_gen.specs.Coming.{Coming, has_ended}
use Rattle.wf_gen.specs.Held.{all_pending, state_of}
use Rattle.wf_gen.proofs.Coming.{ended_coming}
use Rattle.wf_gen.proofs.generator.Gen.draw.Goals as goal

pub returns-clause-draw : goal.returns-clause-draw
returns-clause-draw c =
    let i = c.self.inside in
    let ended : has_ended c.self.inside.left (state_of c.self.inside.state) ≡ true = ap (λ (v : Coming). v.ended) c.self.view_is ∙ c.requires in
    let old = ended_coming i.linear.grammar.now.core i.most i.left (state_of i.state) ended in
    c.draw.ensures.draw ∙ ap (λ (v : Coming). draw v.draws) (sym old ∙ c.self.view_is)

pub returns-clause-after : goal.returns-clause-after
returns-clause-after c =
    let i = c.self.inside in
    let ended : has_ended c.self.inside.left (state_of c.self.inside.state) ≡ true = ap (λ (v : Coming). v.ended) c.self.view_is ∙ c.requires in
    let old = ended_coming i.linear.grammar.now.core i.most i.left (state_of i.state) ended in
    ended_coming i.linear.grammar.now.core i.most i.left (record { made = i.state.made; pending = all_pending i.state.pending.items; draws = c.draw.new.draws }) ended
    ∙ (ap (λ r. record { events = []; draws = r; ended = true }) c.draw.ensures.drawn
    ∙ ap (λ (v : Coming). record { events = []; draws = drawn v.draws; ended = true }) (sym old ∙ c.self.view_is))
