-- Loop steps that are gone along, and chain numbers.
use Rattle.std.proofs.Common.{◌≡◌, ◌≢◌, ℕ, ◌+◌, ◌-◌, ◌^◌, ◌<◌, List, [], ◌∷◌, ◌++◌, length, Option, Some, None, refl, sym, ap, ◌∙◌, subst, ⊎_elim, arith, zero-add, append_assoc, append-nil, length-append}
use Rattle.wf_model.specs.Grammar.{Grammar, alternative_of, IsAtomic, IsComposite}
use Rattle.wf_model.specs.Reach.{Step, target_of, module_along}
use Rattle.label_model.specs.Continuing.{continuing, after}
use Rattle.label_model.specs.Labels.{PlaceStep}
use Rattle.label_model.proofs.ContinuingSteps.{continuing_is}
use Rattle.label_model.proofs.Finding.{cases_option}
use Rattle.label_model.proofs.StepsTold.{chain_some, chain_none}
use Rattle.decode_model.proofs.Rounds.{module_along-append}
use Rattle.wf_recur.proofs.Places.{after_continues}
use Rattle.package_model.specs.Translating.{AreLoopSteps}
use Rattle.package_model.proofs.LoopSteps.{loops_append}
use Rattle.wf_loops.specs.Looped.{LoopedValue, IsLooped, loop_in}
use Rattle.wf_translate.specs.Chains.{IsToldAlong, IsWalked, IsWalkEnd, IsChainTold, StopsAlong}
use Rattle.wf_translate.proofs.LoopFacts.{own_loop, target_loops}
use Rattle.wf_translate.proofs.Told.{told_none, told_join, told_off, on_round}

module _ (l : LoopedValue) (h : IsLooped l) where
  abbrev g : Grammar
  g = l.accepted.grammar.core

  abbrev loop : ℕ → Option Step
  loop = loop_in l.steps

  -- a step that a module on no cycle has is told
  abbrev alone : Step → PlaceStep
  alone s = record { chain = None; alternative = alternative_of g s.production; position = s.position }

  -- no step has been taken
  pub walk_start : (m count : ℕ) (before : List PlaceStep) → m < length g.modules → loop m ≢ None → IsWalked g loop m count before before m count
  walk_start m count before low on = record {
    round = [];
    loops = tt;
    count_is = zero-add count;
    to = refl;
    in_range = low;
    goes_on = λ _. on;
    added = [];
    told = told_none g m 0;
    written = sym (append-nil before);
  }

  -- one more is taken
  pub walk_more : (m count : ℕ) (before between after : List PlaceStep) (k left j : ℕ) (s : Step) → IsWalked g loop m count before between k left → loop k ≡ Some s → continuing g k ≡ None → 0 < left →
      j ≡ target_of g s → j < length g.modules → after ≡ between ++ alone s ∷ [] → IsWalked g loop m count before after j (left - 1)
  walk_more m count before between after k left j s w is off some to low written = record {
    round = w.round ++ s ∷ [];
    loops = loops_append g loop m w.round (s ∷ []) w.loops (ap loop w.to ∙ is, tt);
    count_is = omega (arith, w.count_is, length-append w.round (s ∷ []));
    to = module_along-append g m w.round (s ∷ []) ∙ sym to;
    in_range = low;
    goes_on = subst (λ z. IsComposite g z → loop z ≢ None) (sym to) (target_loops l h k s is);
    added = w.added ++ alone s ∷ [];
    told = subst (λ z. IsToldAlong g m 0 (w.round ++ s ∷ []) z 0 (w.added ++ alone s ∷ [])) (sym to)
        (told_join g m 0 w.round k 0 w.added (s ∷ []) (target_of g s) 0 (alone s ∷ []) w.told (told_off g k 0 s off));
    written = written ∙ (ap (λ z. z ++ alone s ∷ []) w.written ∙ append_assoc before w.added (alone s ∷ []));
  }

  -- the rest leads round a cycle
  pub told_on : (m count : ℕ) (before between : List PlaceStep) (k left j : ℕ) → loop m ≢ None → count < 2 ^ 24 → IsWalked g loop m count before between k left → continuing g k ≢ None →
      j ≡ after g left k → j < length g.modules → IsChainTold g loop m (Some count) before between j (Some left)
  told_on m count before between k left j on few w cycle to low = ⊎_elim (λ e. absurd (cycle e)) (λ s. go s.0 s.1) (cases_option (continuing g k))
    where
      go : (s : Step) → continuing g k ≡ Some s → IsChainTold g loop m (Some count) before between j (Some left)
      go s e =
          let wf = h.accepted.formed in
          let r = on_round g wf loop (own_loop l h) left k 0 s e in
          let t = after_continues g wf left k s e in
          let there : continuing g j ≡ Some t.0 = ap (continuing g) to ∙ t.1 in
          let st = (continuing_is g j t.0 there).0 in
          record {
            round = w.round ++ r.round;
            stands = (on, omega arith, loops_append g loop m w.round r.round w.loops (subst (λ z. AreLoopSteps g loop z r.round) (sym w.to) r.loops), length-append w.round r.round ∙ omega (arith, w.count_is, r.count));
            to = module_along-append g m w.round r.round ∙ (ap (λ z. module_along g z r.round) w.to ∙ (r.to ∙ sym to));
            in_range = low;
            composite = (t.0.production, (st.in_range, st.head));
            count = 0 + left;
            added = w.added ++ [];
            told = subst (λ z. IsToldAlong g m 0 (w.round ++ r.round) z (0 + left) (w.added ++ [])) (sym to)
                (told_join g m 0 w.round k 0 w.added r.round (after g left k) (0 + left) [] w.told r.told);
            written = w.written ∙ ap (λ z. before ++ z) (sym (append-nil w.added));
            last_is = ap Some (sym (zero-add left)) ∙ sym (chain_some g j (0 + left) t.0 there);
          }

  -- all are taken, and lead to a composite module on no cycle
  pub told_all : (m count : ℕ) (before between : List PlaceStep) (k left : ℕ) → loop m ≢ None → count < 2 ^ 24 → IsWalked g loop m count before between k left → IsWalkEnd g loop k left → continuing g k ≡ None → IsComposite g k →
      IsChainTold g loop m (Some count) before between k None
  told_all m count before between k left on few w end off composite =
      let none : left ≡ 0 = ⊎_elim (λ e. e) (λ q. absurd (⊎_elim (λ n. n off) (λ e. w.goes_on composite e) q)) end in
      record {
        round = w.round;
        stands = (on, omega arith, w.loops, omega (arith, w.count_is, none));
        to = w.to;
        in_range = w.in_range;
        composite = composite;
        count = 0;
        added = w.added;
        told = w.told;
        written = w.written;
        last_is = sym (chain_none g k 0 off);
      }

  -- some are taken, and lead to an atomic module
  pub stops_along : (m count : ℕ) (before between : List PlaceStep) (k left : ℕ) → loop m ≢ None → count < 2 ^ 24 → IsWalked g loop m count before between k left → IsAtomic g k → StopsAlong g loop m (Some count)
  stops_along m count before between k left on few w atomic = record {
    round = w.round;
    goes = (on, omega arith, w.loops, omega (arith, w.count_is));
    atomic = subst (IsAtomic g) (sym w.to) atomic;
  }

  -- a module without a loop step is on no cycle
  off_cycle : (m : ℕ) → loop m ≡ None → continuing g m ≡ None
  off_cycle m none = ⊎_elim (λ e. e) (λ s. let q = sym (own_loop l h m s.0 s.1) ∙ none in absurd (cc)) (cases_option (continuing g m))

  -- there no chain number comes
  pub told_none_at : (m : ℕ) (before : List PlaceStep) → m < length g.modules → loop m ≡ None → IsComposite g m → IsChainTold g loop m None before before m None
  told_none_at m before low none composite = record {
    round = [];
    stands = (none, refl);
    to = refl;
    in_range = low;
    composite = composite;
    count = 0;
    added = [];
    told = told_none g m 0;
    written = sym (append-nil before);
    last_is = sym (chain_none g m 0 (off_cycle m none));
  }

  pub stops_at : (m : ℕ) → IsAtomic g m → StopsAlong g loop m None
  stops_at m atomic = record { round = []; goes = refl; atomic = atomic }
