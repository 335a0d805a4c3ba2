-- The label of a view is that of each view of the grammar that perceives the same.
use Rattle.std.proofs.Common.{ℕ, List, [], ◌∷◌, sym, ◌∙◌}
use Rattle.wf_model.specs.Grammar.{Grammar, Assignment, head_of}
use Rattle.wf_model.specs.View.{View, IsSeenModule, IsViewOf}
use Rattle.wf_model.specs.Safe.{IsInduced}
use Rattle.wf_model.specs.Reach.{Step, target_of}
use Rattle.wf_model.specs.OpenRoutes.{IsOpenStep, IsOpenRoute}
use Rattle.decode_model.specs.Matrices.{ViewMatrices, AreMatrices, IsOnceRound}
use Rattle.wf_vlabel.specs.Seen.{ViewLabelSeen, IsLabelOfView}
use Rattle.wf_lift.specs.Alike.{PerceiveAlike}
use Rattle.wf_lift.proofs.AlikeViews.{alike_back, seen_module_there, shown_same}

module _ (g : Grammar) (u w : View) (alike : PerceiveAlike u w) where
  pub seen_back : {m : ℕ} → IsSeenModule g w m → IsSeenModule g u m
  seen_back = seen_module_there g w u (alike_back u w alike)

  open_step_back : (s : Step) → IsOpenStep g w s → IsOpenStep g u s
  open_step_back s h = record { in_range = h.in_range; seen = seen_back h.seen; expanded = alike.expanded (head_of g s.production) ∙ h.expanded; position = h.position }

  once_round_back : (m : ℕ) (round : List Step) → IsOnceRound g w m round → IsOnceRound g u m round
  once_round_back m round h = record { goes_round = h.goes_round; some = h.some; least = h.least; open_route = go m round h.open_route }
    where
      go : (n : ℕ) (steps : List Step) → IsOpenRoute g w n steps → IsOpenRoute g u n steps
      go n [] x = x
      go n (s ∷ steps) x = (open_step_back s x.0, x.1, go (target_of g s) steps x.2)

  matrices_there : (d : Assignment) (v : ViewMatrices) → AreMatrices g u d v → AreMatrices g w d v
  matrices_there d v h = record {
    into = λ s q. h.into s (open_step_back s q);
    out_of = λ s q. h.out_of s (open_step_back s q);
    between = λ s to q. h.between s to (open_step_back s q);
    full = λ m s. h.full m (seen_back s);
    square_in = λ m round q. h.square_in m round (once_round_back m round q);
    square_out = λ m round q. h.square_out m round (once_round_back m round q);
  }

  induced_there : (d : Assignment) → IsInduced g u d → IsInduced g w d
  induced_there d h = record {
    shown = λ m s e i o hi ho. h.shown m (seen_back s) (alike.expanded m ∙ e) i o hi ho ∙ shown_same g u w alike m i o e;
    induced = λ p l s t. h.induced p l (seen_back s) (alike.expanded (head_of g p) ∙ t);
  }

pub label_there : (l : ViewLabelSeen) (u w : View) → PerceiveAlike u w → IsViewOf l.grammar w → IsLabelOfView l u → IsLabelOfView l w
label_there l u w alike is_view h = record {
  expanded = λ m. sym (alike.expanded m) ∙ h.expanded m;
  is_view = is_view;
  induced = induced_there l.grammar u w alike _ h.induced;
  matrices = matrices_there l.grammar u w alike _ _ h.matrices;
}
