use Rattle.std.proofs.Common.{◌≡◌, ◌<◌, ◌≤◌, ◌+◌, ◌%◌, ℕ, IsTrue, refl, length, get_or, sym, ap, ◌∙◌, subst, arith}
use Rattle.label_model.specs.Continuing.{after}
use Rattle.wf_recur.specs.Cycles.{on_of, round_at, StandsAt}
use Rattle.wf_vlabel.specs.Seen.{is_expanded}
use Rattle.wf_recur.proofs.Places.{after_below, place_after}
use Rattle.wf_decode.proofs.read.chain_leg.Goals as goal
use Rattle.wf_decode.proofs.read.chain_leg.Goals.{After-at, in-Some+else-n-count, in_default}

-- where the steps lead
leads : (c : After-at) → StandsAt c.args.vl.now.grammar c.args.vl.now.cycles c.args.at.0 (on_of c.args.on) → c.at.result.0 ≡ after c.args.vl.now.grammar c.args.count c.args.at.0
leads c s =
    let l = c.args.vl.now in
    let label = c.cycles-cycles.ensures.label in
    let on = c.args.on in
    let t = c.cycles-cycles.ensures.cycles in
    c.at.ensures ∙ ap (λ z. get_or (round_at c.cycles-cycles.result.now on.cycle.0) z 0) c.turns-turned.ensures.rest ∙
    (ap (λ n. get_or (round_at c.cycles-cycles.result.now on.cycle.0) ((on.place + c.args.count) % n) 0) c.length-length.ensures ∙
    (ap (λ t. get_or (round_at t on.cycle.0) ((on.place + c.args.count) % length (round_at t on.cycle.0)) 0) t ∙
    (sym (place_after l.grammar l.cycles label.formed label.linear label.cycles_are on.cycle.0 on.place c.args.count s.cycle s.place) ∙ ap (after l.grammar c.args.count) s.is)))

-- no step on the way leads to a module that is not expanded
expanded : (c : After-at) → StandsAt c.args.vl.now.grammar c.args.vl.now.cycles c.args.at.0 (on_of c.args.on) → (n : ℕ) → n ≤ c.args.count → IsTrue (is_expanded c.args.vl.now (after c.args.vl.now.grammar n c.args.at.0))
expanded c s n low =
    let l = c.args.vl.now in
    subst (λ m. IsTrue (is_expanded l (after l.grammar n m))) s.is
    (elim c.match-cut.branch [ in-Some+else-n-count w ↦ w.in-Some.ensures.1 n (let far = w.if-n-count.false in omega arith) | in_default w ↦ w.in_default.ensures n ])

pub cut-requires-clause-cycle : goal.cut-requires-clause-cycle
cut-requires-clause-cycle c = c.requires.stands.cycle

pub cut-requires-clause-place : goal.cut-requires-clause-place
cut-requires-clause-place c = c.requires.stands.place

pub returns-then-n-count-clause-leg : goal.returns-then-n-count-clause-leg
returns-then-n-count-clause-leg c =
    let s = c.requires.stands in
    let l = c.args.vl.now in
    (c.in-Some.n, c.if-n-count.true, ap (λ m. is_expanded l (after l.grammar c.in-Some.n m)) (sym s.is) ∙ c.in-Some.ensures.0)

pub length-length-requires : goal.length-length-requires
length-length-requires c =
    let s = c.requires.stands.cycle in
    omega (arith, ap (λ t. length t.rounds) c.cycles-cycles.ensures.cycles)

pub turns-turned-requires : goal.turns-turned-requires
turns-turned-requires c =
    let s = c.requires.stands.place in
    omega (arith, c.length-length.ensures, ap (λ t. length (round_at t c.args.on.cycle.0)) c.cycles-cycles.ensures.cycles)

pub prove-unreachable-requires : goal.prove-unreachable-requires
prove-unreachable-requires c =
    let s = c.requires.stands.place in
    let few = c.cycles-cycles.ensures.label.cycles_are.short c.args.on.cycle.0 in
    omega (arith, c.turns-turned.ensures.rest, c.length-length.ensures, ap (λ t. length (round_at t c.args.on.cycle.0)) c.cycles-cycles.ensures.cycles)

pub at-requires-clause-cycle : goal.at-requires-clause-cycle
at-requires-clause-cycle c =
    let s = c.requires.stands.cycle in
    omega (arith, ap (λ t. length t.rounds) c.cycles-cycles.ensures.cycles)

pub at-requires-clause-place : goal.at-requires-clause-place
at-requires-clause-place c =
    let s = c.requires.stands.place in
    omega (arith, c.turns-turned.ensures.rest, c.length-length.ensures, ap (λ t. length (round_at t c.args.on.cycle.0)) c.cycles-cycles.ensures.cycles)

pub returns-clause-leg : goal.returns-clause-leg
returns-clause-leg c =
    let a = goal.at.returns-clause-leg c in
    let s = c.requires.stands in
    (record { cycle = s.cycle; place = s.place; is = s.is }, refl, record { to = leads a.After-at s; expanded = expanded a.After-at s })

pub returns-clause-in_range : goal.returns-clause-in_range
returns-clause-in_range c =
    let a = goal.at.returns-clause-in_range c in
    let l = c.args.vl.now in
    subst (λ k. k < length l.grammar.modules) (sym (leads a.After-at (c.requires.stands))) (after_below l.grammar c.cycles-cycles.ensures.label.formed c.args.count c.args.at.0 c.requires.module_no)
