use Rattle.std.proofs.Common.{◌∙◌, ◌++◌, ◌∷◌, [], ap, map, replicate, List, ℕ}
use Rattle.std.proofs.lemmas.List.{map-append, replicate-append-replicate}
use Rattle.wf_model.specs.declared.numbers.ProdNo.{ProdNo}
use Rattle.wf_spec.specs.Tables.{numbers_in}
use Rattle.wf_spec.proofs.Tables.{numbers}
use Rattle.wf_spec.proofs.lists.heads.empty_lists.Goals as goal

pub loop-k-preserved : goal.loop-k-preserved
loop-k-preserved c =
    ap numbers_in c.in_ok-push.ensures.items ∙ map-append numbers c.loop-k.lists.items (c.new.result ∷ []) ∙ ap (λ ls. ls ++ numbers c.new.result ∷ []) c.loop-k.invariant
    ∙ ap (λ (ps : List ProdNo). replicate {A = List ℕ} c.loop-k.k [] ++ map (λ (p : ProdNo). p.0) ps ∷ []) c.new.ensures.items ∙ replicate-append-replicate {A = List ℕ} c.loop-k.k 1 []
