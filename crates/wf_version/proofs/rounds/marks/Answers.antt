use Rattle.std.proofs.Common.{◌≡◌, ◌↔◌, ◌+◌, ◌<◌, ◌∙◌, ℕ, Bool, List, true, false, ap, sym, subst, length, get_or}
use Rattle.std.proofs.lemmas.List.{length_push}
use Rattle.wf_model.proofs.Positions.{each_more}
use Rattle.wf_recur.specs.Cycles.{round_at}
use Rattle.wf_version.specs.Rounds.{RoundWithin}
use Rattle.wf_version.proofs.rounds.marks.Goals as goal

pub loop-c-preserved : goal.loop-c-preserved
loop-c-preserved c =
    let g = c.args.g.grammar.now.core in
    let p = c.args.version.productions in
    let t = c.args.g.cycles.now in
    let e = c.in_ok-push.ensures.items in
    record {
      count = ap length e ∙ (length_push c.loop-c.list.items c.round_is_within.result ∙ ap (λ n. n + 1) c.loop-c.invariant.count);
      told = subst (λ (l : List Bool). (k : ℕ) → k < c.loop-c.c + 1 → (get_or l k false ≡ true) ↔ RoundWithin g p (round_at t k)) (sym e)
          (each_more (λ k (b : Bool). (b ≡ true) ↔ RoundWithin g p (round_at t k)) c.loop-c.list.items c.loop-c.c c.round_is_within.result false c.loop-c.invariant.count c.loop-c.invariant.told c.round_is_within.ensures);
    }
