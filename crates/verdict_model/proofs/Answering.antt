-- The answer of two labels: it is told by where their items are consumed and produced, and the pairs of the modules.
use Rattle.std.proofs.Common.{◌≡◌, ◌≢◌, ◌↔◌, ◌⊎◌, ℕ, List, [], ◌++◌, Option, Some, None, sym, subst, inl, inr, ⊎_elim}
use Rattle.wf_model.specs.Lists.{IsIn}
use Rattle.wf_model.specs.Grammar.{Grammar, Assignment}
use Rattle.wf_model.specs.WellFormed.{IsWellFormed}
use Rattle.wf_model.specs.Proper.{IsProper}
use Rattle.wf_model.specs.View.{View}
use Rattle.wf_model.specs.Safe.{IsInduced}
use Rattle.wf_model.specs.declared.event.Event.{Event}
use Rattle.wf_model.specs.Run.{IsRun, root_of}
use Rattle.wf_model.specs.Finishing.{ExpandsComposites, IsFinishing}
use Rattle.wf_model.specs.Links.{Port}
use Rattle.wf_model.specs.Items.{Item, PathBetween, Depends}
use Rattle.wf_model.specs.Reach.{Step, IsAlong, Reaches}
use Rattle.wf_model.specs.Depends.{IsConsumedAt, IsProducedAt}
use Rattle.wf_laws.proofs.Reach.{along_kept, more_started}
use Rattle.wf_laws.proofs.Depends.{depends_law}
use Rattle.wf_laws.proofs.Growth.{finishing_law}
use Rattle.wf_laws.proofs.Full.{full_law, safe_full_law}
use Rattle.label_model.specs.Labels.{Label, Input, Output, IsLabel}
use Rattle.label_model.specs.RunLabels.{labelled}
use Rattle.label_model.proofs.ItemLabels.{label_started}
use Rattle.verdict_model.specs.Telling.{ConsumedAt, ProducedAt}
use Rattle.verdict_model.specs.Verdicts.{AreShown, AreClashing, HasBoth, AlwaysDepends, NeverDepends}
use Rattle.verdict_model.specs.Laws.{OneAnswerLaw, IsAnswered, AnswerLaw}
use Rattle.verdict_model.proofs.ToldPorts.{consumed_told, produced_told, consumed_or_none, produced_or_none}
use Rattle.verdict_model.proofs.BothLabels.{both_law}
use Rattle.wf_model.proofs.Open.{root_kept}

-- in each finishing of a run the dependency of two items is told by their addresses and the assigned pairs
finished_depends : (g : Grammar) (u : View) (d : Assignment) → IsWellFormed g → IsInduced g u d → (events more : List Event) → events ≢ [] → IsFinishing g u g.start events more →
    (s t : Item) (a b : List Step) (i o : ℕ) → IsConsumedAt g u g.start events s a i → IsProducedAt g u g.start events t b o → Depends g u (events ++ more) s t ↔ Reaches g d g.start a b i o
finished_depends g u d wf ind events more started fin s t a b i o c p =
    let root = root_kept events more started in
    let c' : IsConsumedAt g u g.start (events ++ more) s a i = record {
      instance = c.instance;
      along = subst (λ z. IsAlong g u (events ++ more) z a c.instance) (sym root) (along_kept g u events more a (root_of events) c.instance c.along);
      port = c.port;
      in_range = c.in_range;
    } in
    let p' : IsProducedAt g u g.start (events ++ more) t b o = record {
      instance = p.instance;
      along = subst (λ z. IsAlong g u (events ++ more) z b p.instance) (sym root) (along_kept g u events more b (root_of events) p.instance p.along);
      port = p.port;
      in_range = p.in_range;
    } in
    depends_law g u d wf ind (events ++ more) (record { run = fin.run; started = more_started events more started; finished = fin.finished }) s t a b i o c' p'

-- nothing depends on what is not consumed, and what is not produced depends on nothing
not_consumed : (g : Grammar) (u : View) (events : List Event) (s t : Item) → s.consumed ≡ None → Depends g u events s t → ⊥
not_consumed g u events s t e h = subst (λ z. PathBetween g u g.start events z t.produced) e h

not_produced : (g : Grammar) (u : View) (events : List Event) (s t : Item) → t.produced ≡ None → Depends g u events s t → ⊥
not_produced g u events s t e h = go s.consumed (subst (PathBetween g u g.start events s.consumed) e h)
  where
    go : (c : Option (Port (List ℕ))) → PathBetween g u g.start events c None → ⊥
    go None w = w
    go (Some x) w = w

module _ (g : Grammar) (u : View) (x y : Label) where
  module _ (d : Assignment) (wf : IsWellFormed g) (ind : IsInduced g u d) (shown : AreShown g u x y) where
    -- so it is in each finishing of each run that has both labels
    depends_told : (events more : List Event) (s t : Item) → HasBoth g u x y events more s t → (a b : List Step) (i o : ℕ) → ConsumedAt g x a i → ProducedAt g y b o → Depends g u (events ++ more) s t ↔ Reaches g d g.start a b i o
    depends_told events more s t h a b i o c p =
        finished_depends g u d wf ind events more (label_started g events s x h.first.0) h.finishing s t a b i o
        (consumed_told g wf u events h.run s x h.first.0 shown.0 a i c)
        (produced_told g wf u events h.run t y h.second.0 shown.1 b o p)

    reached_always : (a b : List Step) (i o : ℕ) → ConsumedAt g x a i → ProducedAt g y b o → Reaches g d g.start a b i o → AlwaysDepends g u x y
    reached_always a b i o c p r events more s t h = (depends_told events more s t h a b i o c p).1 r

    -- what holds in one finishing of one run is told by the labels
    once_reached : (events more : List Event) (s t : Item) → HasBoth g u x y events more s t → Depends g u (events ++ more) s t → AlwaysDepends g u x y
    once_reached events more s t h dep = go (consumed_or_none g events h.run s x h.first.0) (produced_or_none g events h.run t y h.second.0)
      where
        go : ((a : List Step) × (i : ℕ) × ConsumedAt g x a i) ⊎ (s.consumed ≡ None) → ((b : List Step) × (o : ℕ) × ProducedAt g y b o) ⊎ (t.produced ≡ None) → AlwaysDepends g u x y
        go (inr e) p = absurd (not_consumed g u (events ++ more) s t e dep)
        go (inl c) (inr e) = absurd (not_produced g u (events ++ more) s t e dep)
        go (inl c) (inl p) = reached_always c.0 p.0 c.1 p.1 c.2 p.2 ((depends_told events more s t h c.0 p.0 c.1 p.1 c.2 p.2).0 dep)

  -- where the second never depends on the first, it does not always depend on it: some run has both labels, and a finishing
  never_not_always : IsWellFormed g → IsProper g → ExpandsComposites g u → IsLabel g x → IsLabel g y → (AreClashing g x y → ⊥) → NeverDepends g u x y → NeverDepends g u x y × (AlwaysDepends g u x y → ⊥)
  never_not_always wf proper composites lx ly apart never =
      let r = both_law g wf x y lx ly apart in
      let f = finishing_law g u proper composites g.start r.0 r.1 in
      let h : HasBoth g u x y r.0 f.0 r.2.0 r.3.0 = record { run = r.1; first = r.2.1; second = r.3.1; finishing = f.1 } in
      (never, λ always. never r.0 f.0 r.2.0 r.3.0 h (always r.0 f.0 r.2.0 r.3.0 h))

-- the law of one answer, told by pairs that every production induces
pub one_answer_induced : (g : Grammar) (u : View) (d : Assignment) → IsWellFormed g → IsInduced g u d → (x y : Label) → AreShown g u x y →
    (events more : List Event) (s t : Item) → HasBoth g u x y events more s t → Depends g u (events ++ more) s t → AlwaysDepends g u x y
one_answer_induced g u d wf ind x y shown events more s t h dep = once_reached g u x y d wf ind shown events more s t h dep

pub one_answer_law : OneAnswerLaw
one_answer_law g u wf proper composites safe x y shown =
    let full = safe_full_law g u wf proper composites safe in
    let once = one_answer_induced g u full.0 wf ((full_law g u full.0 wf proper composites).0 full.1) x y shown in
    record { always = once; never = λ not events more s t h dep. not (once events more s t h dep) }

-- an output of the root is not consumed, and an input of it is not produced
output_not_consumed : (g : Grammar) (events : List Event) (run : IsRun g g.start events) (t : Item) (p : ℕ) → IsIn (t, Output p) (labelled g events) → t.consumed ≡ None
output_not_consumed g events run t p h = ⊎_elim (λ c. absurd c.2) (λ e. e) (consumed_or_none g events run t (Output p) h)

input_not_produced : (g : Grammar) (events : List Event) (run : IsRun g g.start events) (t : Item) (p : ℕ) → IsIn (t, Input p) (labelled g events) → t.produced ≡ None
input_not_produced g events run t p h = ⊎_elim (λ c. absurd c.2) (λ e. e) (produced_or_none g events run t (Input p) h)

-- the law of answers, told by pairs that every production induces
pub answer_induced : (g : Grammar) (u : View) (d : Assignment) → IsWellFormed g → IsProper g → ExpandsComposites g u → IsInduced g u d →
    (x y : Label) → IsLabel g x → IsLabel g y → AreShown g u x y → (AreClashing g x y → ⊥) → IsAnswered g u d x y
answer_induced g u d wf proper composites ind x y lx ly shown apart = record {
  yes = reached_always g u x y d wf ind shown;
  no = λ a b i o c p far. only_never (λ events more s t h dep. far ((depends_told g u x y d wf ind shown events more s t h a b i o c p).0 dep));
  from_output = λ p e. only_never (λ events more s t h dep. not_consumed g u (events ++ more) s t (output_not_consumed g events h.run s p (subst (λ z. IsIn (s, z) (labelled g events)) e h.first.0)) dep);
  to_input = λ p e. only_never (λ events more s t h dep. not_produced g u (events ++ more) s t (input_not_produced g events h.run t p (subst (λ z. IsIn (t, z) (labelled g events)) e h.second.0)) dep);
}
  where
    only_never : NeverDepends g u x y → NeverDepends g u x y × (AlwaysDepends g u x y → ⊥)
    only_never = never_not_always g u x y wf proper composites lx ly apart

pub answer_law : AnswerLaw
answer_law g u d wf proper composites full x y lx ly shown apart = answer_induced g u d wf proper composites ((full_law g u d wf proper composites).0 full) x y lx ly shown apart
