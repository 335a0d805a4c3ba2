-- What holds of words in one finishing of one run that has two labels holds in all, and the lifted grammar tells it.
use Rattle.std.proofs.Common.{◌≡◌, ◌↔◌, ◌⊎◌, ℕ, List, ◌++◌, Option, Some, None, ap, subst, inl, inr}
use Rattle.wf_model.specs.Lists.{IsIn}
use Rattle.wf_model.specs.Grammar.{Grammar, Assignment}
use Rattle.wf_model.specs.WellFormed.{IsWellFormed}
use Rattle.wf_model.specs.Proper.{IsProper}
use Rattle.wf_model.specs.View.{View}
use Rattle.wf_model.specs.declared.event.Event.{Event}
use Rattle.wf_model.specs.Safe.{IsInduced}
use Rattle.wf_model.specs.Finishing.{ExpandsComposites}
use Rattle.wf_model.specs.Links.{Port}
use Rattle.wf_model.specs.Items.{Item}
use Rattle.wf_model.specs.Reach.{Step, Reaches}
use Rattle.wf_laws.proofs.Depends.{depends_law}
use Rattle.wf_laws.proofs.Full.{full_law, safe_full_law}
use Rattle.wf_laws.proofs.Growth.{finishing_law}
use Rattle.label_model.specs.Labels.{Label, Input, Output, IsLabel}
use Rattle.verdict_model.specs.Telling.{ConsumedAt, ProducedAt}
use Rattle.verdict_model.specs.Verdicts.{AreShown, AreClashing, HasBoth, AlwaysDepends}
use Rattle.verdict_model.specs.Laws.{IsAnswered}
use Rattle.verdict_model.proofs.ToldPorts.{consumed_or_none, produced_or_none}
use Rattle.verdict_model.proofs.BothLabels.{both_law}
use Rattle.verdict_model.proofs.Answering.{answer_induced}
use Rattle.words_model.specs.Automata.{Automaton}
use Rattle.words_model.specs.Words.{AcceptsBetween, Accepts}
use Rattle.words_model.specs.Lifting.{in_state, lift, lift_view, lift_label}
use Rattle.words_model.specs.Verdicts.{AlwaysAccepts, AcceptsOnce, IsLiftedYes}
use Rattle.words_model.specs.Laws.{LiftSafely, WordAnswerLaw}
use Rattle.words_model.proofs.SameShape.{composite_there, proper_there}
use Rattle.words_model.proofs.LiftedParts.{lifted_shape}
use Rattle.words_model.proofs.LiftedGrammars.{lifted_formed}
use Rattle.words_model.proofs.LiftedLabels.{label_in}
use Rattle.words_model.proofs.LiftedTelling.{hidden_same, clash_same}
use Rattle.words_model.proofs.LiftedEnds.{consumed_in, produced_in, consumed_or_output, produced_or_input, are_there}
use Rattle.words_model.proofs.AcceptedItems.{accepted_law}

-- nothing is joined to what is not consumed, or to what is not produced
not_consumed : (g : Grammar) (u : View) (a : Automaton) (events : List Event) (s t : Item) → s.consumed ≡ None → Accepts g u a events s t → ⊥
not_consumed g u a events s t e h = subst (λ z. AcceptsBetween g u a g.start events z t.produced) e h

not_produced : (g : Grammar) (u : View) (a : Automaton) (events : List Event) (s t : Item) → t.produced ≡ None → Accepts g u a events s t → ⊥
not_produced g u a events s t e h = go s.consumed (subst (AcceptsBetween g u a g.start events s.consumed) e h)
  where
    go : (c : Option (Port (List ℕ))) → AcceptsBetween g u a g.start events c None → ⊥
    go None w = w
    go (Some x) w = w

module _ (g : Grammar) (u : View) (a : Automaton) (is : LiftSafely g u a) where
  -- the first label in the start state, and the second in another
  abbrev first_lifted : Label → Label
  first_lifted x = lift_label a.states a.start x

  abbrev second_lifted : ℕ → Label → Label
  second_lifted t y = lift_label a.states t y

  pub formed_too : IsWellFormed (lift g a.states)
  formed_too = lifted_formed g a is.formed is.fits

  pub proper_too : IsProper (lift g a.states)
  proper_too = proper_there g (lift g a.states) (lifted_shape g a.states) is.proper

  pub composites_too : ExpandsComposites (lift g a.states) (lift_view a u)
  composites_too m e = composite_there g (lift g a.states) (lifted_shape g a.states) m (is.composites m e)

  induced : (d : Assignment) × IsInduced (lift g a.states) (lift_view a u) d
  induced =
      let d = safe_full_law (lift g a.states) (lift_view a u) formed_too proper_too composites_too is.safe in
      (d.0, (full_law (lift g a.states) (lift_view a u) d.0 formed_too proper_too composites_too).0 d.1)

  module _ (x y : Label) (hx : IsLabel g x) (hy : IsLabel g y) (shown : AreShown g u x y) (apart : AreClashing g x y → ⊥) where
    -- a run that has both labels, finished
    record IsTried : Type 0 where
      events : List Event
      more : List Event
      first : Item
      second : Item
      both : HasBoth g u x y events more first second

    tried : IsTried
    tried =
        let r = both_law g is.formed x y hx hy apart in
        let f = finishing_law g u is.proper is.composites g.start r.0 r.1 in
        record { events = r.0; more = f.0; first = r.2.0; second = r.3.0; both = record { run = r.1; first = r.2.1; second = r.3.1; finishing = f.1 } }

    pub once_from : AlwaysAccepts g u a x y → AcceptsOnce g u a x y
    once_from always = record { events = tried.events; more = tried.more; first = tried.first; second = tried.second; both = tried.both; accepts = always tried.events tried.more tried.first tried.second tried.both }

    -- in each state the second label is shown with the first, and they do not clash
    module _ (t : ℕ) (there : IsIn t a.accept) where
      pub shown_too : AreShown (lift g a.states) (lift_view a u) (first_lifted x) (second_lifted t y)
      shown_too = (
        (λ q. shown.0 ((hidden_same g u a is.formed formed_too a.start is.fits.automaton.start x hx).1 q)),
        (λ q. shown.1 ((hidden_same g u a is.formed formed_too t (is.fits.automaton.accept t there) y hy).1 q)),
      )

      pub apart_too : AreClashing (lift g a.states) (first_lifted x) (second_lifted t y) → ⊥
      apart_too q = apart ((clash_same g u a is.formed formed_too x y hx hy a.start t is.fits.automaton.start (is.fits.automaton.accept t there)).1 q)

      answered : IsAnswered (lift g a.states) (lift_view a u) induced.0 (first_lifted x) (second_lifted t y)
      answered =
          answer_induced (lift g a.states) (lift_view a u) induced.0 formed_too proper_too composites_too induced.1 (first_lifted x) (second_lifted t y)
          (label_in g a.states a.start x is.fits.automaton.start hx) (label_in g a.states t y (is.fits.automaton.accept t there) hy) shown_too apart_too

      -- in some run of the lifted grammar that has both, finished, the second item depends on the first only if it is reached
      reached_from : AlwaysDepends (lift g a.states) (lift_view a u) (first_lifted x) (second_lifted t y) → (p q : List Step) (i o : ℕ) → ConsumedAt g x p i → ProducedAt g y q o →
          Reaches (lift g a.states) induced.0 g.start p q (in_state a.states a.start i) (in_state a.states t o)
      reached_from always p q i o c d =
          let ht = is.fits.automaton.accept t there in
          let r = both_law (lift g a.states) formed_too (first_lifted x) (second_lifted t y) (label_in g a.states a.start x is.fits.automaton.start hx) (label_in g a.states t y ht hy) apart_too in
          let f = finishing_law (lift g a.states) (lift_view a u) proper_too composites_too g.start r.0 r.1 in
          let both : HasBoth (lift g a.states) (lift_view a u) (first_lifted x) (second_lifted t y) r.0 f.0 r.2.0 r.3.0 = record { run = r.1; first = r.2.1; second = r.3.1; finishing = f.1 } in
          let w = are_there (lift g a.states) (lift_view a u) formed_too (first_lifted x) (second_lifted t y) shown_too r.0 f.0 r.2.0 r.3.0 both p q (in_state a.states a.start i) (in_state a.states t o)
          (consumed_in g a.states a.start is.fits.automaton.start x p i c) (produced_in g a.states t ht y q o d) in
          (depends_law (lift g a.states) (lift_view a u) induced.0 formed_too induced.1 (r.0 ++ f.0) w.whole r.2.0 r.3.0 p q (in_state a.states a.start i) (in_state a.states t o) w.consumed w.produced).0
          (always r.0 f.0 r.2.0 r.3.0 both)

    -- from where the first is consumed, the place where the second is produced is reached in a state that accepts
    abbrev IsReached : List Step → List Step → ℕ → ℕ → Type 0
    IsReached p q i o = (t : ℕ) × IsIn t a.accept × Reaches (lift g a.states) induced.0 g.start p q (in_state a.states a.start i) (in_state a.states t o)

    module _ (p q : List Step) (i o : ℕ) (c : ConsumedAt g x p i) (d : ProducedAt g y q o) where
      accepted_told : (events more : List Event) (s t : Item) → HasBoth g u x y events more s t → Accepts g u a (events ++ more) s t ↔ IsReached p q i o
      accepted_told events more s t h =
          let w = are_there g u is.formed x y shown events more s t h p q i o c d in
          accepted_law g u a induced.0 is.fits.automaton formed_too induced.1 (events ++ more) w.whole s t p q i o w.consumed w.produced

      always_reached : IsReached p q i o → AlwaysAccepts g u a x y
      always_reached r events more s t h = (accepted_told events more s t h).1 r

      lifted_reached : IsReached p q i o → IsLiftedYes g u a x y
      lifted_reached r =
          let depends = (answered r.0 r.1).yes p q (in_state a.states a.start i) (in_state a.states r.0 o) (consumed_in g a.states a.start is.fits.automaton.start x p i c) (produced_in g a.states r.0 (is.fits.automaton.accept r.0 r.1) y q o d) r.2 in
          (r.0, r.1, (shown_too r.0 r.1, apart_too r.0 r.1, depends))

      reached_lifted : IsLiftedYes g u a x y → IsReached p q i o
      reached_lifted y2 = (y2.0, y2.1, reached_from y2.0 y2.1 y2.2.2 p q i o c d)

    -- where a path with an accepted word joins the items once, it is told where they are consumed and produced
    record IsTold : Type 0 where
      p : List Step
      q : List Step
      i : ℕ
      o : ℕ
      consumed : ConsumedAt g x p i
      produced : ProducedAt g y q o
      reached : IsReached p q i o

    told_once : AcceptsOnce g u a x y → IsTold
    told_once h = go (consumed_or_none g h.events h.both.run h.first x h.both.first.0) (produced_or_none g h.events h.both.run h.second y h.both.second.0)
      where
        go : ((p : List Step) × (i : ℕ) × ConsumedAt g x p i) ⊎ (h.first.consumed ≡ None) → ((q : List Step) × (o : ℕ) × ProducedAt g y q o) ⊎ (h.second.produced ≡ None) → IsTold
        go (inr e) d = absurd (not_consumed g u a (h.events ++ h.more) h.first h.second e h.accepts)
        go (inl c) (inr e) = absurd (not_produced g u a (h.events ++ h.more) h.first h.second e h.accepts)
        go (inl c) (inl d) = record { p = c.0; q = d.0; i = c.1; o = d.1; consumed = c.2; produced = d.2; reached = (accepted_told c.0 d.0 c.1 d.1 c.2 d.2 h.events h.more h.first h.second h.both).0 h.accepts }

    -- and where the verdict in the lifted grammar is yes
    told_lifted : IsLiftedYes g u a x y → IsTold
    told_lifted h = go (consumed_or_output g is.formed x hx) (produced_or_input g is.formed y hy)
      where
        go : ((p : List Step) × (i : ℕ) × ConsumedAt g x p i) ⊎ ((n : ℕ) × (x ≡ Output n)) → ((q : List Step) × (o : ℕ) × ProducedAt g y q o) ⊎ ((n : ℕ) × (y ≡ Input n)) → IsTold
        go (inr e) d = absurd (((answered h.0 h.1).from_output (in_state a.states a.start e.0) (ap first_lifted e.1)).1 h.2.2)
        go (inl c) (inr e) = absurd (((answered h.0 h.1).to_input (in_state a.states h.0 e.0) (ap (second_lifted h.0) e.1)).1 h.2.2)
        go (inl c) (inl d) = record { p = c.0; q = d.0; i = c.1; o = d.1; consumed = c.2; produced = d.2; reached = reached_lifted c.0 d.0 c.1 d.1 c.2 d.2 h }

    pub always_once : AcceptsOnce g u a x y → AlwaysAccepts g u a x y
    always_once h = let w = told_once h in always_reached w.p w.q w.i w.o w.consumed w.produced w.reached

    pub lifted_once : AcceptsOnce g u a x y → IsLiftedYes g u a x y
    lifted_once h = let w = told_once h in lifted_reached w.p w.q w.i w.o w.consumed w.produced w.reached

    pub always_lifted : IsLiftedYes g u a x y → AlwaysAccepts g u a x y
    always_lifted h = let w = told_lifted h in always_reached w.p w.q w.i w.o w.consumed w.produced w.reached

pub word_answer_law : WordAnswerLaw
word_answer_law g u a is x y hx hy shown apart =
    let from = once_from g u a is x y hx hy shown apart in
    record {
      once = (always_once g u a is x y hx hy shown apart, from);
      never = λ not events more s t h w. not (always_once g u a is x y hx hy shown apart (record { events = events; more = more; first = s; second = t; both = h; accepts = w }));
      lifted = ((λ always. lifted_once g u a is x y hx hy shown apart (from always)), always_lifted g u a is x y hx hy shown apart);
    }
