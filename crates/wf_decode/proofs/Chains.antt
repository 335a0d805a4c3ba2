-- Where continuing steps lead, and which of them are open.
use Rattle.std.proofs.Common.{ℕ, suc, ◌<◌, IsTrue, List, [], ◌∷◌, length, sym, subst, arith}
use Rattle.wf_model.specs.Grammar.{Grammar}
use Rattle.wf_model.specs.WellFormed.{IsWellFormed}
use Rattle.wf_model.specs.View.{View, expands, IsSeenModule}
use Rattle.wf_model.specs.Reach.{Step, target_of}
use Rattle.wf_model.specs.Linear.{IsLinear}
use Rattle.label_model.specs.Continuing.{next_by, after}
use Rattle.label_model.proofs.ContinuingSteps.{continuing_law}
use Rattle.decode_model.specs.Rounds.{AreContinuing}
use Rattle.wf_model.specs.OpenRoutes.{IsOpenStep, IsOpenRoute}
use Rattle.wf_model.proofs.OpenRoutes.{step_seen}

module _ (g : Grammar) (wf : IsWellFormed g) (lin : IsLinear g) where
  -- continuing steps are open where they lead to expanded modules, the last of which may not be
  pub open_chain : (u : View) (m : ℕ) (chain : List Step) → AreContinuing g m chain → IsSeenModule g u m → ((n : ℕ) → n < length chain → IsTrue (expands u (after g n m))) → IsOpenRoute g u m chain
  open_chain u m [] h seen all = tt
  open_chain u m (s ∷ chain) h seen all =
      let st = h.0.0 in
      let e = (continuing_law g wf lin m s).1 h.0 in
      let step : IsOpenStep g u s = record {
        in_range = st.in_range;
        seen = subst (IsSeenModule g u) (sym st.head) seen;
        expanded = subst (λ k. IsTrue (expands u k)) (sym st.head) (all 0 (omega arith));
        position = st.position;
      } in (
        step,
        st.head,
        open_chain u (target_of g s) chain h.1 (step_seen g u s step) (λ n l. subst (λ o. IsTrue (expands u (after g n (next_by g m o)))) e (all (suc n) (omega arith))),
      )
