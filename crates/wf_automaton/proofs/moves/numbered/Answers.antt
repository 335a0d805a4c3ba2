use Rattle.std.proofs.Common.{◌∷◌, [], ◌++◌, ◌∙◌, ap, sym, inl, inr, ⊎_elim, map, take}
use Rattle.std.proofs.lemmas.List.{map_more}
use Rattle.std.proofs.lemmas.Result.{err_from_is_err_and}
use Rattle.wf_spec.proofs.FirstFaults.{fails_at, holds_more}
use Rattle.wf_automaton.specs.Rules.{move_of, IsMoveOf}
use Rattle.wf_automaton.proofs.moves.numbered.Goals as goal

pub returns-in_err-add_move-clause-refused : goal.returns-in_err-add_move-clause-refused
returns-in_err-add_move-clause-refused c =
    let e = err_from_is_err_and c.from_residual.result c.from_residual.ensures.1 in
    rw (e.1, e.2)
    (⊎_elim (λ m. inl m)
    (λ p. inr (inl (c.loop-k.k, fails_at (IsMoveOf c.args.g.now.core) c.args.parts.now c.loop-k.k c.index-parts-k.result c.loop-k.invariant.known p.1 c.index-parts-k.is c.loop-k-test.true, p.0)))
    c.in_err-add_move.ensures.refused)

pub loop-k-preserved : goal.loop-k-preserved
loop-k-preserved c =
    let g = c.args.g.now.core in
    let part = c.index-parts-k.result in
    let list = c.args.parts.now in
    let k = c.loop-k.k in
    record {
      moves = c.in_ok-add_move.ensures.added
          ∙ (ap (λ l. l ++ move_of g part ∷ []) c.loop-k.invariant.moves ∙ (ap (λ v. map (move_of g) (take k list) ++ move_of g v ∷ []) c.index-parts-k.is ∙ sym (map_more (move_of g) list k part c.loop-k-test.true)));
      known = holds_more (IsMoveOf g) list k part c.loop-k.invariant.known c.in_ok-add_move.ensures.known c.index-parts-k.is;
    }
