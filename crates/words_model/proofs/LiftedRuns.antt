-- The runs of the lifted grammar are those of the grammar: the same instances are made and seen.
use Rattle.std.proofs.Common.{◌≡◌, ◌↔◌, ℕ, ◌<◌, cond, List, [], ◌∷◌, ◌++◌, length, refl, sym, ap, ◌∙◌, subst}
use Rattle.wf_model.specs.Lists.{IsIn}
use Rattle.wf_model.specs.Grammar.{Grammar, head_of, body_of}
use Rattle.wf_model.specs.View.{View}
use Rattle.wf_model.specs.declared.event.Event.{Event}
use Rattle.wf_model.specs.declared.event.Event.TheVariants.{Start, Expand}
use Rattle.wf_model.specs.Run.{Instance, named, made, names_of, Extends, AllExtend, IsFinished, opens, newly_seen, see_all, seen_in}
use Rattle.words_model.specs.Automata.{Automaton}
use Rattle.words_model.specs.Lifting.{lift, lift_view}
use Rattle.words_model.specs.Laws.{LiftedRunLaw}
use Rattle.words_model.proofs.SameShape.{AreSameShape, shape_back}
use Rattle.words_model.proofs.LiftedParts.{lifted_shape}

-- grammars of one shape have the same runs
module _ (g h : Grammar) (s : AreSameShape g h) (m : ℕ) where
  made_same : (e : List Event) → made h m e ≡ made g m e
  made_same [] = refl
  made_same (Start r ∷ e) = ap (λ l. record { name = r; module_no = m } ∷ l) (made_same e)
  made_same (Expand i p names ∷ e) = ap (λ ms. named names ms ++ made h m e) (s.body p) ∙ ap (λ l. named names (body_of g p) ++ l) (made_same e)

  extends_there : (b : List Event) (x : Event) → Extends g m b x → Extends h m b x
  extends_there b (Start r) q = q
  extends_there b (Expand i p names) c = record {
    in_range = subst (λ z. p < z) (sym s.count) c.in_range;
    stands = subst (λ l. IsIn (record { name = i; module_no = head_of h p }) l) (sym (made_same b)) (subst (λ z. IsIn (record { name = i; module_no = z }) (made g m b)) (sym (s.head p)) c.stands);
    open_end = c.open_end;
    one_each = c.one_each ∙ ap length (sym (s.body p));
    good = c.good;
    differ = c.differ;
    new = λ n k q. c.new n k (subst (λ l. IsIn n (names_of l)) (made_same b) q);
  }

  runs_there : (b e : List Event) → AllExtend g m b e → AllExtend h m b e
  runs_there b [] q = q
  runs_there b (x ∷ e) q = (extends_there b x q.0, runs_there (b ++ x ∷ []) e q.1)

module _ (g : Grammar) (u : View) (a : Automaton) (m : ℕ) where
  seen_after : (s : List Instance) (e : List Event) → see_all (lift g a.states) (lift_view a u) m s e ≡ see_all g u m s e
  seen_after s [] = refl
  seen_after s (Start r ∷ e) = seen_after (s ++ newly_seen g u m s (Start r)) e
  seen_after s (Expand i p names ∷ e) =
      ap (λ ms. see_all (lift g a.states) (lift_view a u) m (s ++ cond (opens u s i) (named names ms) []) e) ((lifted_shape g a.states).body p) ∙ seen_after (s ++ newly_seen g u m s (Expand i p names)) e

  -- the same instances are seen
  pub seen_lifted : (e : List Event) → seen_in (lift g a.states) (lift_view a u) m e ≡ seen_in g u m e
  seen_lifted e = seen_after [] e

  finished_lifted : (e : List Event) → IsFinished g u m e ↔ IsFinished (lift g a.states) (lift_view a u) m e
  finished_lifted e = ((λ f i p. f i (subst (IsIn i) (seen_lifted e) p.0, p.1, p.2)), (λ f i p. f i (subst (IsIn i) (sym (seen_lifted e)) p.0, p.1, p.2)))

pub lifted_run_law : LiftedRunLaw
lifted_run_law g u a m e =
    let there = runs_there g (lift g a.states) (lifted_shape g a.states) m [] e in
    let back = runs_there (lift g a.states) g (shape_back g (lift g a.states) (lifted_shape g a.states)) m [] e in
    let finished = finished_lifted g u a m e in
    record {
      run = (there, back);
      whole = (
        (λ x. record { run = there x.run; started = x.started; finished = finished.0 x.finished }),
        (λ x. record { run = back x.run; started = x.started; finished = finished.1 x.finished }),
      );
    }
