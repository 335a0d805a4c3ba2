use Rattle.std.proofs.Common.{◌≡◌, ◌+◌, ◌∙◌, ℕ, List, Option, Vec, Global, length, sym, ap, subst, arith, rules, true≢false}
use Rattle.std.proofs.lemmas.List.{length-replicate, with_items_is}
use Rattle.bool_mat.specs.declared.pool.MatNo.{MatNo}
use Rattle.bool_mat.specs.Matrix.{Matrix}
use Rattle.wf_model.specs.Meaning.{pairs_of}
use Rattle.wf_recur.specs.Cycles.{round_at, least_of}
use Rattle.wf_vlabel.specs.RoundSteps.{HasRounds, numbers_in}
use Rattle.wf_vlabel.proofs.OpenCycles.{steps_held}
use Rattle.wf_vlabel.proofs.SquareGroups.{HaveRoundsBelow, rounds_more, squares_told}
use Rattle.wf_recur.proofs.OneTable.{cycled}
use Rattle.wf_vlabel.proofs.rounds.square_groups.Goals as goal
use Rattle.wf_vlabel.proofs.rounds.square_groups.Goals.{then-is_open+in_ok-square_cycle, else-is_open}

pub loop-c-init : goal.loop-c-init
loop-c-init c =
    let none = c.in_ok-first.ensures.items_if_clones_equal (λ y e. search rules) in
    (ap length none ∙ (length-replicate _ _ ∙ ap length c.modules.ensures.modules), λ k j l h o. absurd (omega arith))

pub square_cycle-requires-clause-steps : goal.square_cycle-requires-clause-steps
square_cycle-requires-clause-steps c =
    let d = pairs_of c.args.full.now in
    (d, steps_held c.args.s.linear.grammar.now.core c.args.s.view.now.core d c.args.bodies.now _ c.requires.bodies (c.is_open.ensures.0 c.if-is_open.true))

pub loop-c-preserved : goal.loop-c-preserved
loop-c-preserved c =
    let g = c.args.s.linear.grammar.now.core in
    let t = c.args.s.linear.cycles.now in
    let v = c.args.s.view.now.core in
    let d = pairs_of c.args.full.now in
    let so_far = c.loop-c.invariant in
    elim c.if-is_open.branch [
      | then-is_open+in_ok-square_cycle w ↦
          let steps = steps_held g v d c.args.bodies.now (least_of (round_at t c.loop-c.c)) c.requires.bodies (c.is_open.ensures.0 w.if-is_open.true) in
          let count = w.in_ok-square_cycle.ensures.count in
          let later = w.square_cycle.new.first in
          let is = ap (λ (z : Vec (Option MatNo) Global). z.items) w.first-is ∙ with_items_is c.loop-c.first later (count ∙ w.deref_mut.ensures.len) in
          let kept = subst (λ old. (m : ℕ) → HasRounds g d m c.loop-c.squares (numbers_in old) → HasRounds g d m w.square_cycle.new.squares (numbers_in later)) w.deref_mut.ensures.value (w.in_ok-square_cycle.ensures.kept d steps) in
          subst (λ first. (length first ≡ length g.modules) × HaveRoundsBelow g t v d (c.loop-c.c + 1) c.if-is_open.squares (numbers_in first)) (sym is) (
            count ∙ ap length w.deref_mut.ensures.value ∙ so_far.0,
            subst (λ (pool : List Matrix). HaveRoundsBelow g t v d (c.loop-c.c + 1) pool (numbers_in later)) (sym w.squares-is)
                (rounds_more g t v d c.loop-c.c c.loop-c.squares w.square_cycle.new.squares (numbers_in c.loop-c.first.items) (numbers_in later) kept (λ o. w.in_ok-square_cycle.ensures.told d steps) so_far.1),
          )
      | else-is_open w ↦
          subst (λ (first : Vec (Option MatNo) Global). (length first.items ≡ length g.modules) × HaveRoundsBelow g t v d (c.loop-c.c + 1) c.if-is_open.squares (numbers_in first.items)) (sym w.first-is) (
            so_far.0,
            subst (λ (pool : List Matrix). HaveRoundsBelow g t v d (c.loop-c.c + 1) pool (numbers_in c.loop-c.first.items)) (sym w.squares-is)
                (rounds_more g t v d c.loop-c.c c.loop-c.squares c.loop-c.squares (numbers_in c.loop-c.first.items) (numbers_in c.loop-c.first.items) (λ m r. r) (λ o. absurd (true≢false (sym (c.is_open.ensures.1 o) ∙ w.if-is_open.false))) so_far.1),
          )
    ]

pub returns : goal.returns
returns c =
    let g = c.args.s.linear.grammar.now.core in
    let t = c.args.s.linear.cycles.now in
    let v = c.args.s.view.now.core in
    let d = pairs_of c.args.full.now in
    let e = c.count-c-end.ensures in
    let all : HaveRoundsBelow g t v d (length t.rounds) c.loop-c.squares (numbers_in c.loop-c.first.items) = λ k j l h o. c.loop-c.invariant.1 k j (omega arith) h o in
    squares_told g t v d c.of_pool.result c.modules.ensures.formed c.args.s.linear.linear (cycled c.args.s.linear.grammar.now.core c.modules.ensures.formed c.args.s.linear.linear c.args.s.linear.cycles.now c.args.s.linear.cycled)
    (subst (λ pool. HaveRoundsBelow g t v d (length t.rounds) pool c.of_pool.result.first) (sym c.of_pool.ensures.pool)
    (subst (HaveRoundsBelow g t v d (length t.rounds) c.loop-c.squares) (sym c.of_pool.ensures.first) all))
