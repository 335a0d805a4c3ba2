use Rattle.std.proofs.Common.{◌+◌, ℕ, List, Vec, ap, sym, subst, ◌∙◌, length, length-append, ◌∷◌, []}
use Rattle.std.specs.declared.alloc.Global.{Global}
use Rattle.wf_model.specs.Grammar.{Edge}
use Rattle.wf_model.specs.declared.body.Edge.{Edge as EdgeHeld}
use Rattle.wf_model.specs.Lists.{IsIn}
use Rattle.wf_body.specs.Words.{edges_in}
use Rattle.wf_body.proofs.Listing.{none_more}
use Rattle.wf_body.proofs.leading.no_lists.Goals as goal

pub loop-k-preserved : goal.loop-k-preserved
loop-k-preserved c =
    let e = c.in_ok-push.ensures.items in
    record {
      count = ap length e ∙ (length-append c.loop-k.lists.items (c.new.result ∷ []) ∙ ap (λ n. n + 1) c.loop-k.invariant.count);
      none = subst (λ (l : List (Vec EdgeHeld Global)). (k : ℕ) (e : Edge) → IsIn e (edges_in l k) → ⊥) (sym e) (none_more c.loop-k.lists.items c.new.result c.new.ensures.items c.loop-k.invariant.none);
    }
